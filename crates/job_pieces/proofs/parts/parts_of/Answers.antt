use Rattle.std.proofs.Common.{◌≡◌, ◌∙◌, ◌++◌, ◌∷◌, [], List, get_or, map, ap, sym, Bor}
use Rattle.std.specs.Prelude.{Some, None, slice_get}
use Rattle.std.proofs.lemmas.List.{map_push}
use Rattle.info_item.specs.declared.format.Format.{Format}
use Rattle.info_item.proofs.PartLemmas.{picked-none, picked-some}
use Rattle.job_pieces.proofs.parts.parts_of.Goals as goal

pub loop-place-preserved-in_default : goal.loop-place-preserved-in_default
loop-place-preserved-in_default c =
    let none : slice_get c.args.formats.now (get_or c.args.places.now c.loop-place.place-index 0) ≡ None = sym c.in_default.ensures in
    c.loop-place.invariant ∙ sym (picked-none c.args.formats.now c.args.places.now c.loop-place.place-index c.loop-place-test.true none)

pub loop-place-preserved : goal.loop-place-preserved
loop-place-preserved c =
    let now : Bor Format → Format = λ f. f.now in
    let some : slice_get c.args.formats.now (get_or c.args.places.now c.loop-place.place-index 0) ≡ Some c.in-Some.part.now = sym c.in-Some.ensures in
    ap (map now) c.in_ok-push.ensures.items ∙ map_push now c.loop-place.parts.items c.in-Some.part ∙ ap (λ (l : List Format). l ++ c.in-Some.part.now ∷ []) c.loop-place.invariant
    ∙ sym (picked-some c.args.formats.now c.args.places.now c.loop-place.place-index c.in-Some.part.now c.loop-place-test.true some)
