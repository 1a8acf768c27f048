use Rattle.std.proofs.Common.{◌≡◌, ◌∙◌, Some, true, sym, refl, subst}
use Rattle.folder_base.specs.Disk.{Name}
use Rattle.folder_base.specs.Index.{FindsPart}
use Rattle.folder_base.specs.Log.{told, newborn}
use Rattle.folder_base.specs.Parts.{is_part}
use Rattle.folder_base.specs.Undo.{IsReplayed, HoldsOnly}
use Rattle.folder_base.proofs.Rejoining.{holds_weaker}
use Rattle.folder_base.proofs.rounds.join_part.Goals as goal

pub returns : goal.returns
returns c = λ stems stem birth rest is stands begun replayed others.
    let part = c.make_all.new.replay in
    let now = (told (newborn birth) c.args.steps.now.items).now in
    let made : IsReplayed now part = c.in_ok-make_all.ensures (newborn birth) begun in
    let own : HoldsOnly (λ name. is_part stem name ≡ true) part =
    holds_weaker (λ name. FindsPart stems name (Some c.args.at)) (λ name. is_part stem name ≡ true) part
    (λ name found. let e : Some found.0 ≡ Some stem = sym found.1 ∙ stands in let stem_is : found.0 ≡ stem = cc in subst (λ (s : Name). is_part s name ≡ true) stem_is found.2)
    (c.if-not-is_of.ensures refl stems is) in
    record {
      replayed = c.in_ok-join.ensures.joined (is_part stem) now rest made replayed own others;
      holds = λ mine so old. c.in_ok-join.ensures.held mine (holds_weaker (λ name. is_part stem name ≡ true) (λ name. mine name ≡ true) part so own) old;
    }
