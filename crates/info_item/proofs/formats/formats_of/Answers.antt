use Rattle.std.proofs.Common.{◌≡◌, sym, subst, List, Ok, IfOk, IfErr, codes, ◌<◌, length}
use Rattle.std.specs.Prelude.{Result, Some}
use Rattle.info_tree.specs.Tree.{list, trees_of}
use Rattle.info_tree.specs.Plain.{plain}
use Rattle.info_tree.specs.Pairs.{member}
use Rattle.info_item.specs.Item.{Format}
use Rattle.info_item.specs.Formats as spec
use Rattle.info_item.specs.declared.item_fault.ItemFault.{ItemFault}
use Rattle.info_item.proofs.Ids.{formats-listed}
use Rattle.info_item.proofs.formats.formats_of.Goals as goal

pub returns-in-Some-List-clause-formats : goal.returns-in-Some-List-clause-formats
returns-in-Some-List-clause-formats c =
    let tree = plain c.args.tree.now in
    let at : member tree (codes "formats") ≡ Some (list (trees_of c.in-Some-List.list)) = sym (rw (c.in-Some-List.is, c.in-Some-List.field-0-is) at c.get.ensures) in
    let more : 0 < length c.in-Some-List.list = rw c.len.ensures at c.if-len-gt0.true in
    let same = formats-listed c.args.k tree (member tree (codes "formats")) c.in-Some-List.list at more (spec.itself_if (spec.serves_itself tree)) in
    subst (λ (r : Result (List Format) ItemFault). IfOk c.listed.result (λ formats. r ≡ Ok formats.items)) (sym same) c.listed.ensures.formats

pub returns-in-Some-List-clause-fault : goal.returns-in-Some-List-clause-fault
returns-in-Some-List-clause-fault c =
    let tree = plain c.args.tree.now in
    let at : member tree (codes "formats") ≡ Some (list (trees_of c.in-Some-List.list)) = sym (rw (c.in-Some-List.is, c.in-Some-List.field-0-is) at c.get.ensures) in
    let more : 0 < length c.in-Some-List.list = rw c.len.ensures at c.if-len-gt0.true in
    let same = formats-listed c.args.k tree (member tree (codes "formats")) c.in-Some-List.list at more (spec.itself_if (spec.serves_itself tree)) in
    subst (λ (r : Result (List Format) ItemFault). IfErr c.listed.result (spec.IsFaultOf r)) (sym same) c.listed.ensures.fault
