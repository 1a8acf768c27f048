use Rattle.std.proofs.lemmas.Result.{err_from_is_err_and}
use Rattle.info_tree.specs.Plain.{plain}
use Rattle.std.proofs.Common.{map}
use Rattle.job_plan.specs.Views.{plain_entry}
use Rattle.word_list.specs.Views.{plain_plan}
use Rattle.ytdl_core.proofs.InfoLemmas.{exact_tree, exact_by_tree, entries_by_tree, items_by_tree}
use Rattle.ytdl_core.proofs.CountLemmas.{few_of_text}
use Rattle.ytdl_core.proofs.command.read_entries.Goals as goal

pub tree_entries-requires-clause-few : goal.tree_entries-requires-clause-few
tree_entries-requires-clause-few c = few_of_text c.args.bytes.now (plain c.in_ok-tree.tree) c.in_ok-tree.ensures.tree

pub returns-in_err-tree-clause-exact : goal.returns-in_err-tree-clause-exact
returns-in_err-tree-clause-exact c =
    let e = err_from_is_err_and c.from_residual.result c.from_residual.ensures.1 in
    let h = c.in_err-tree.ensures in
    rw (e.1, e.2) (exact_tree c.args.bytes.now c.in_err-tree.field-0.0 h.fault h.only h.exact)

pub returns-clause-entries : goal.returns-clause-entries
returns-clause-entries c =
    entries_by_tree (λ v. map plain_entry v.items) (plain_plan c.args.plan.now) c.args.bytes.now (plain c.in_ok-tree.tree) c.tree_entries.result
    c.in_ok-tree.ensures.tree c.tree_entries.ensures.entries

pub returns-clause-exact : goal.returns-clause-exact
returns-clause-exact c =
    let h = c.in_ok-tree.ensures in
    exact_by_tree _ c.args.bytes.now (plain c.in_ok-tree.tree) h.tree h.only h.exact c.tree_entries.result
    (items_by_tree (λ v. map plain_entry v.items) (plain_plan c.args.plan.now) (plain c.in_ok-tree.tree) c.tree_entries.result c.tree_entries.ensures.entries)
    c.tree_entries.ensures.fault
