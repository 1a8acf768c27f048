use Rattle.std.proofs.Common.{◌≡◌, ◌+◌, ◌++◌, ◌∷◌, ◌∙◌, ◌<◌, [], List, sym, ap, take, length, arith}
use Rattle.std.specs.Prelude.{Some, slice_get}
use Rattle.std.proofs.lemmas.List.{take_more}
use Rattle.std.proofs.lemmas.Option.{slice_get-get_or}
use Rattle.folder_base.specs.Files.{names_of, over}
use Rattle.folder_base.specs.Places.{all_over, stands_in}
use Rattle.folder_base.specs.declared.place.Place.{Place}
use Rattle.folder_base.proofs.Merging.{over_more, kept_apart, not_in_place}
use Rattle.folder_base.proofs.places.copy_places.Goals as goal

pub returns-in_err-copy_all-clause-others : goal.returns-in_err-copy_all-clause-others
returns-in_err-copy_all-clause-others c name out =
    let items = c.deref-place-items.result.now in
    let at = c.loop-place.place-index in
    let place = c.place-item.result in
    let lt : at < length items = omega arith in
    let stands : slice_get items at ≡ Some place = slice_get-get_or items at place lt ∙ ap (λ (p : Place). Some p) (sym c.place-item.is) in
    let out_here = ap (λ (l : List Place). stands_in l name) c.deref-place-items.ensures.value ∙ out in
    kept_apart (names_of place.files) (names_of c.loop-place.files) (names_of c.copy_all.new.to) name (not_in_place items at place name stands out_here) c.in_err-copy_all.ensures.others
    ∙ c.loop-place.invariant.others name out_here

pub loop-place-preserved : goal.loop-place-preserved
loop-place-preserved c =
    let items = c.deref-place-items.result.now in
    let at = c.loop-place.place-index in
    let place = c.place-item.result in
    let old = names_of c.args.files.now in
    let lt : at < length items = omega arith in
    let stands : slice_get items at ≡ Some place = slice_get-get_or items at place lt ∙ ap (λ (p : Place). Some p) (sym c.place-item.is) in
    let more : take (at + 1) items ≡ take at items ++ place ∷ [] = take_more items at place (omega arith) ∙ (λ i. take at items ++ sym c.place-item.is i ∷ []) in
    record {
      copied = c.in_ok-copy_all.ensures.ok ∙ ap (over (names_of place.files)) c.loop-place.invariant.copied
          ∙ sym (over_more (take at items) place old) ∙ ap (λ (l : List Place). all_over l old) (sym more);
      others = λ name out. kept_apart (names_of place.files) (names_of c.loop-place.files) (names_of c.copy_all.new.to) name (not_in_place items at place name stands out) c.in_ok-copy_all.ensures.others
          ∙ c.loop-place.invariant.others name out;
    }
