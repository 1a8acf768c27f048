use Rattle.std.proofs.Common.{◌≡◌, sym, ap, ◌∙◌, Some, None, Ok}
use Rattle.std.specs.Prelude.{take}
use Rattle.info_tree.specs.Plain.{plain}
use Rattle.info_item.specs.Formats as spec
use Rattle.info_item.specs.declared.item_fault.ItemFault.TheVariants.{FormatId}
use Rattle.info_item.proofs.Each.{each-next, each-fault}
use Rattle.info_item.proofs.Ids.{ids_of, ids_of-next, format_of-none, format_of-old, format_of-new, seen, unseen, put-last}
use Rattle.info_item.proofs.formats.listed.Goals as goal

pub returns-in_default-clause-fault : goal.returns-in_default-clause-fault
returns-in_default-clause-fault c =
    let tree = plain c.entry-tree.result.now in
    let none : spec.format_id_of tree ≡ None = rw c.in_default.is at (sym c.in_ok-id.ensures) in
    each-fault (spec.format_of c.args.k c.args.list.now) c.loop-j.j c.args.list.now c.loop-j.formats.items tree (FormatId c.args.k c.loop-j.j) c.entry-tree.ensures
    c.loop-j.invariant.read (format_of-none c.args.k c.loop-j.j c.args.list.now tree none)

pub returns-then-not-branch-clause-fault : goal.returns-then-not-branch-clause-fault
returns-then-not-branch-clause-fault c =
    let tree = plain c.entry-tree.result.now in
    let known : spec.format_id_of tree ≡ Some c.in-Some.id = rw c.in-Some.is at (sym c.in_ok-id.ensures) in
    let old = seen c.loop-j.ids c.add_id.new.ids (ids_of (take c.loop-j.j c.args.list.now)) c.as_str.result.now
    c.in-Some.id c.in_ok-add_id.field-0 c.as_str.ensures c.loop-j.invariant.ids c.in_ok-add_id.ensures c.if-not-branch.true in
    each-fault (spec.format_of c.args.k c.args.list.now) c.loop-j.j c.args.list.now c.loop-j.formats.items tree (FormatId c.args.k c.loop-j.j) c.entry-tree.ensures
    c.loop-j.invariant.read (format_of-old c.args.k c.loop-j.j c.args.list.now tree c.in-Some.id known old)

pub loop-j-preserved : goal.loop-j-preserved
loop-j-preserved c =
    let tree = plain c.entry-tree.result.now in
    let known : spec.format_id_of tree ≡ Some c.in-Some.id = rw c.in-Some.is at (sym c.in_ok-id.ensures) in
    let ids = ids_of (take c.loop-j.j c.args.list.now) in
    let new = unseen c.loop-j.ids c.add_id.new.ids ids c.as_str.result.now
    c.in-Some.id c.in_ok-add_id.field-0 c.as_str.ensures c.loop-j.invariant.ids c.in_ok-add_id.ensures c.if-not-branch.false in
    let last = put-last c.loop-j.ids c.add_id.new.ids ids c.as_str.result.now
    c.in-Some.id c.in_ok-add_id.field-0 c.as_str.ensures c.loop-j.invariant.ids c.in_ok-add_id.ensures c.if-not-branch.false in
    let value : spec.format_of c.args.k c.args.list.now c.loop-j.j tree ≡ Ok c.in_ok-new.field-0 =
    format_of-new c.args.k c.loop-j.j c.args.list.now tree c.in-Some.id known new ∙ ap Ok (sym c.in_ok-new.ensures) in
    record {
      read = rw c.in_ok-push.ensures.items
          (each-next (spec.format_of c.args.k c.args.list.now) c.loop-j.j c.args.list.now c.loop-j.formats.items tree c.in_ok-new.field-0 c.entry-tree.ensures
          c.loop-j.invariant.read value);
      ids = last ∙ sym (ids_of-next c.loop-j.j c.args.list.now tree c.in-Some.id c.entry-tree.ensures known);
    }
