use Rattle.std.proofs.Common.{◌≡◌, None, true, not, map, sym, refl, ap, subst}
use Rattle.folder_base.specs.Disk.{Disk}
use Rattle.folder_base.specs.Index.{FindsPart}
use Rattle.folder_base.specs.Log.{told, left, handed, parts_told}
use Rattle.folder_base.specs.Parts.{is_in_some}
use Rattle.folder_base.specs.Undo.{IsReplayed, HoldsOnly}
use Rattle.folder_base.proofs.Rejoined.{gathered_now}
use Rattle.folder_base.proofs.Rejoining.{holds_weaker}
use Rattle.folder_base.proofs.rounds.make_round.Goals as goal

pub returns : goal.returns
returns c = λ before h.
    let stems = c.args.stems.now.items in
    let is = c.in_ok-index.ensures in
    let rest = told (left stems before) c.args.rest.now.items in
    let made : IsReplayed rest.now c.make_all.new.replay = c.in_ok-make_all.ensures (left stems before) (c.in_ok-starts.ensures.rest before.now h) in
    let others : HoldsOnly (λ name. not (is_in_some stems name) ≡ true) c.make_all.new.replay =
    holds_weaker (λ name. FindsPart stems name None) (λ name. not (is_in_some stems name) ≡ true) c.make_all.new.replay (λ name e. ap not e) (c.if-not-is_of.ensures refl stems is) in
    subst (λ (d : Disk). IsReplayed d c.join_parts.new.replay)
    (sym (gathered_now _ (parts_told (map (handed before.now) stems) (map (λ steps. steps.now.items) c.args.parts.now.items)) rest))
    (c.in_ok-join_parts.ensures stems before.now rest.now is c.requires (c.in_ok-starts.ensures.starts before.now h) made others)
