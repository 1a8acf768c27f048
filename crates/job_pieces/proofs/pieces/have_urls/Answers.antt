use Rattle.std.proofs.Common.{◌≡◌, false, true, is_some, sym, ◌∙◌}
use Rattle.info_tree.specs.Plain.{plain}
use Rattle.job_pieces.specs.Pieces.{base_url, fragment_url, is_list_to_fetch}
use Rattle.job_pieces.proofs.PieceLemmas.{urls_more, urls_none}
use Rattle.job_pieces.proofs.pieces.have_urls.Goals as goal

pub returns-then-not-branch : goal.returns-then-not-branch
returns-then-not-branch c =
    let none : is_some (fragment_url (base_url (plain c.args.format.now)) (plain c.tree_at.result.now)) ≡ false =
    sym (rw c.loop-place.invariant.base at c.in_ok-has_url.ensures) ∙ c.if-not-branch.true in
    urls_none (base_url (plain c.args.format.now)) c.args.fragments.now c.loop-place.place (plain c.tree_at.result.now) (is_list_to_fetch c.args.fragments.now) c.tree_at.ensures none c.loop-place.invariant.urls

pub loop-place-preserved : goal.loop-place-preserved
loop-place-preserved c =
    let has : is_some (fragment_url (base_url (plain c.args.format.now)) (plain c.tree_at.result.now)) ≡ true =
    sym (rw c.loop-place.invariant.base at c.in_ok-has_url.ensures) ∙ c.if-not-branch.false in
    record {
      base = c.loop-place.invariant.base;
      urls = urls_more (base_url (plain c.args.format.now)) c.args.fragments.now c.loop-place.place (plain c.tree_at.result.now) c.tree_at.ensures has c.loop-place.invariant.urls;
    }
