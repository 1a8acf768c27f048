use Rattle.std.proofs.Common.{rules}
use Rattle.info_item.specs.Formats.{IsFaultOf}
use Rattle.info_tree.specs.Plain.{plain}
use Rattle.info_item.specs.Items as spec
use Rattle.info_item.proofs.Each.{each-next, each-IsFaultOf}
use Rattle.info_item.proofs.reader.read_list.Goals as goal

pub returns-in_err-read_item-clause-fault : goal.returns-in_err-read_item-clause-fault
returns-in_err-read_item-clause-fault c =
    let fault : IsFaultOf (spec.list_of c.args.list.now) c.in_err-read_item.field-0.0 =
    each-IsFaultOf spec.item_of c.loop-k.k c.args.list.now c.loop-k.items.items (plain c.entry.result.now) c.in_err-read_item.field-0.0 c.entry.ensures
    c.loop-k.invariant c.in_err-read_item.ensures.fault in
    search (rules, fault)

pub loop-k-preserved : goal.loop-k-preserved
loop-k-preserved c =
    rw c.in_ok-push.ensures.items
    (each-next spec.item_of c.loop-k.k c.args.list.now c.loop-k.items.items (plain c.entry.result.now) c.in_ok-read_item.field-0 c.entry.ensures
    c.loop-k.invariant c.in_ok-read_item.ensures.item)
