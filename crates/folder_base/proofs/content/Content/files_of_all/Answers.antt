use Rattle.std.proofs.Common.{◌≡◌, ◌∙◌, ◌<◌, ◌≤◌, arith, length, sym, ap, Some}
use Rattle.std.specs.Prelude.{slice_get}
use Rattle.std.proofs.lemmas.Option.{slice_get-get_or, slice_get_past}
use Rattle.folder_base.specs.declared.place.Place.{Place}
use Rattle.folder_base.proofs.Contents.{live_elsewhere, live_there, none_there}
use Rattle.folder_base.proofs.content.Content.files_of_all.Goals as goal

pub returns-then-at-len : goal.returns-then-at-len
returns-then-at-len c =
    let self = c.args.self.now in
    let place = c.index.result.now in
    let lt : c.in-Some.at < length self.places.items = omega (arith, c.if-at-len.true) in
    let stands : slice_get self.places.items c.in-Some.at ≡ Some place = slice_get-get_or self.places.items c.in-Some.at place lt ∙ ap (λ (p : Place). Some p) (sym c.index.ensures) in
    sym (live_there self c.requires c.args.name.now c.in-Some.at (c.in-Some.ensures self.line.log.value.stems.items (self.indexed c.requires)) (Some place) stands)

pub returns-else-at-len : goal.returns-else-at-len
returns-else-at-len c =
    let self = c.args.self.now in
    let past : length self.places.items ≤ c.in-Some.at = omega (arith, c.if-at-len.false) in
    none_there self c.requires c.args.name.now c.in-Some.at (c.in-Some.ensures self.line.log.value.stems.items (self.indexed c.requires)) (slice_get_past self.places.items c.in-Some.at past)

pub returns-in-None : goal.returns-in-None
returns-in-None c =
    let self = c.args.self.now in
    live_elsewhere self c.requires c.args.name.now (c.in-None.ensures self.line.log.value.stems.items (self.indexed c.requires))
