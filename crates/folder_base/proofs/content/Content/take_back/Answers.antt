use Rattle.std.proofs.Common.{◌≡◌, ◌∙◌, ◌++◌, ◌∷◌, ◌<◌, ◌≤◌, [], List, Bool, refl, sym, ap, map, length, arith, vec_len, vec_capacity, subst}
use Rattle.std.specs.Prelude.{if◌then◌else◌}
use Rattle.std.proofs.lemmas.List.{map-append, length-map}
use Rattle.std.proofs.lemmas.Option.{slice_get_within}
use Rattle.folder_base.specs.Log.{handed, log_story}
use Rattle.folder_base.specs.Places.{ArePlaced}
use Rattle.folder_base.specs.Tale.{all_handed}
use Rattle.folder_base.specs.declared.place.Place.{Place}
use Rattle.folder_base.proofs.Contents.{line_placed}
use Rattle.folder_base.proofs.Merging.{placed_more}
use Rattle.folder_base.proofs.content.Content.take_back.Goals as goal

pub invariant_of-self : goal.invariant_of-self
invariant_of-self c =
    let self = c.args.self.now in
    let log = self.line.log.value in
    let line = c.args.part.line in
    let place : Place = record { steps = line.steps; files = line.files } in
    let within : length self.places.items < length (all_handed log) = slice_get_within (all_handed log) (length self.places.items) c.requires.which c.requires.next in
    let counted : length (all_handed log) ≡ length log.stems.items = length-map log.stems.items (handed (log_story log).now) in
    let room : length log.stems.items ≤ vec_capacity self.places = self.room c.requires.is_rest in
    let fits : vec_len self.places < vec_capacity self.places = omega (arith, within, counted, room) in
    let pushed : c.push.new.self.items ≡ self.places.items ++ place ∷ [] = c.push.ensures.items ∙ ap (λ (b : Bool). if b then self.places.items ++ place ∷ [] else self.places.items) (c.push.ensures.succeeds fits) in
    record {
      indexed = self.indexed;
      none = λ e. absurd (e c.requires.is_rest);
      room = λ e. omega (arith, room, c.push.ensures.capacity);
      placed = subst (λ (l : List Place). ArePlaced (all_handed log) l) (ap (λ (l : List Place). l) (sym pushed))
          (placed_more (all_handed log) self.places.items c.requires.which place self.placed c.requires.next (line_placed line c.requires.which c.requires.is_it));
    }

pub returns : goal.returns
returns c =
    let self = c.args.self.now in
    let log = self.line.log.value in
    let line = c.args.part.line in
    let place : Place = record { steps = line.steps; files = line.files } in
    let within : length self.places.items < length (all_handed log) = slice_get_within (all_handed log) (length self.places.items) c.requires.which c.requires.next in
    let counted : length (all_handed log) ≡ length log.stems.items = length-map log.stems.items (handed (log_story log).now) in
    let room : length log.stems.items ≤ vec_capacity self.places = self.room c.requires.is_rest in
    let fits : vec_len self.places < vec_capacity self.places = omega (arith, within, counted, room) in
    let pushed : c.push.new.self.items ≡ self.places.items ++ place ∷ [] = c.push.ensures.items ∙ ap (λ (b : Bool). if b then self.places.items ++ place ∷ [] else self.places.items) (c.push.ensures.succeeds fits) in
    record {
      line = refl;
      places = ap (λ (l : List Place). map (λ p. p.steps.items) l) pushed ∙ map-append (λ (p : Place). p.steps.items) self.places.items (place ∷ []);
    }
