use Rattle.std.proofs.Common.{◌≡◌, ◌+◌, ◌++◌, ◌∷◌, ◌∙◌, [], List, sym, ap, take, arith}
use Rattle.std.proofs.lemmas.List.{take_more, take_all}
use Rattle.folder_base.specs.Files.{names_of, without}
use Rattle.folder_base.specs.declared.place.Place.{Place}
use Rattle.folder_base.proofs.Merging.{bare, bare_more}
use Rattle.folder_base.proofs.places.remove_places.Goals as goal

pub loop-place-preserved : goal.loop-place-preserved
loop-place-preserved c =
    let items = c.deref-place-items.result.now in
    let at = c.loop-place.place-index in
    let place = c.place-item.result in
    let old = names_of c.args.files.now in
    let more : take (at + 1) items ≡ take at items ++ place ∷ [] = take_more items at place (omega arith) ∙ (λ i. take at items ++ sym c.place-item.is i ∷ []) in
    c.remove_all.ensures ∙ ap (without (names_of place.files)) c.loop-place.invariant
    ∙ sym (bare_more (take at items) place old) ∙ ap (λ (l : List Place). bare l old) (sym more)

pub returns : goal.returns
returns c =
    let items = c.deref-place-items.result.now in
    let all : take c.loop-place.place-index items ≡ items = take_all c.loop-place.place-index items (omega arith) in
    c.loop-place.invariant ∙ ap (λ (l : List Place). bare l (names_of c.args.files.now)) (all ∙ c.deref-place-items.ensures.value)
