-- From what is told of the parts to what is told of the folder that takes them back.
use Rattle.std.proofs.Common.{◌≡◌, ℕ, zero, suc, ◌<◌, Bool, true, false, List, [], ◌∷◌, map, refl, sym, ◌∙◌, ap, subst}
use Rattle.std.proofs.lemmas.Option.{same_Some, none-some, slice_get-map}
use Rattle.std.specs.List.{slice_get}
use Rattle.std.specs.Option.{option_map_or}
use Rattle.std.specs.Prelude.{Option, Some, None, IsTrue, IsSome, option_map, if◌then◌else◌}
use Rattle.folder_base.specs.Disk.{Name, Disk, content}
use Rattle.folder_base.specs.Parts.{is_part, is_in_some, inside, joined, together, AreApart}
use Rattle.folder_base.specs.Story.{World, Part, Fans, Gathers, part_of, stem_of as part_stem, stories}
use Rattle.folder_base.proofs.Disjoint.{disjoint}
use Rattle.folder_base.proofs.Parted.{AreDisjoint}
use Rattle.folder_base.proofs.Rejoined.{gathered_now}
use Rattle.folder_base.proofs.Together.{AreSameParts, live_other, nows, stems_back, part_has_stem}
use Rattle.keep_store.specs.Safe.{reads}
use Rattle.plan_record.specs.Names.{stem_of}
use Rattle.component_turn.specs.Plan.{stems_from}
use Rattle.component_turn.specs.Crew.{FoundIn, FoundAt, PromisedIn, PromisedAt, TellsIn}
use Rattle.component_turn.specs.Lanes.{AllRetained, Retained}
use Rattle.component_turn.proofs.LaneLemmas.{promise_there}
use Rattle.component_turn.proofs.MakeLemmas.{found_as}
use Rattle.component_turn.proofs.StemLemmas.{stem_first}

-- The part of a stem's number, as it went out and as it came back.
pub retained_at : (stems : List Name) (olds news : List World) → AllRetained stems olds news → (k : ℕ) (stem : Name) → slice_get stems k ≡ Some stem
    → (old : World) × (new : World) × (slice_get olds k ≡ Some old) × (slice_get news k ≡ Some new) × Retained stem old new
retained_at [] [] [] retained k stem at = absurd (none-some stem at)
retained_at [] [] (n ∷ news) retained k stem at = absurd retained
retained_at [] (o ∷ olds) news retained k stem at = absurd retained
retained_at (s ∷ stems) [] news retained k stem at = absurd retained
retained_at (s ∷ stems) (o ∷ olds) [] retained k stem at = absurd retained
retained_at (s ∷ stems) (o ∷ olds) (n ∷ news) retained zero stem at = (o, n, refl, refl, subst (λ (x : Name). Retained x o n) (same_Some s stem at) retained.0)
retained_at (s ∷ stems) (o ∷ olds) (n ∷ news) retained (suc k) stem at = retained_at stems olds news retained.1 k stem at

pub retained_same : (stems : List Name) (olds news : List World) → AllRetained stems olds news → AreSameParts olds news
retained_same [] [] [] retained = tt
retained_same [] [] (n ∷ news) retained = absurd retained
retained_same [] (o ∷ olds) news retained = absurd retained
retained_same (s ∷ stems) [] news retained = absurd retained
retained_same (s ∷ stems) (o ∷ olds) [] retained = absurd retained
retained_same (s ∷ stems) (o ∷ olds) (n ∷ news) retained = (retained.0.stays.part, retained_same stems olds news retained.1)

-- A name of a part has in all together what it has in the part.
pub live_mine : (old : World) (stems : List Name) (parts : List World) (rest : Disk) → AreDisjoint stems → AreSameParts (map (part_of old) stems) parts → (k : ℕ) (stem : Name) (part : World) → slice_get stems k ≡ Some stem
    → slice_get parts k ≡ Some part → (name : Name) → is_part stem name ≡ true → (together rest (nows parts)).live name ≡ part.story.now.live name
live_mine old [] parts rest apart same k stem part at there name mine = absurd (none-some stem at)
live_mine old (s ∷ stems) [] rest apart same k stem part at there name mine = absurd same
live_mine old (s ∷ stems) (p ∷ parts) rest apart same zero stem part at there name mine =
    live_other (joined (is_part (part_stem p)) p.story.now rest) (nows parts) name none
    ∙ ap (λ (b : Bool). if b then p.story.now.live name else rest.live name) here
    ∙ ap (λ (w : World). w.story.now.live name) (same_Some p part there)
  where
    stem_is : part_stem p ≡ stem
    stem_is = ap (λ (o : Option Part). option_map_or (λ part. part.stem) o []) same.0 ∙ same_Some s stem at

    here : is_part (part_stem p) name ≡ true
    here = ap (λ (n : Name). is_part n name) stem_is ∙ mine

    by : (v : Bool) → is_in_some stems name ≡ v → v ≡ false
    by true is = absurd (let x : true ≡ false = sym (ap (λ (n : Name). is_part n name) (same_Some s stem at) ∙ mine) ∙ apart.0 name is in cc)
    by false is = refl

    none : is_in_some (map (λ part. part.0) (nows parts)) name ≡ false
    none = ap (λ (l : List Name). is_in_some l name) (stems_back old stems parts same.1) ∙ by (is_in_some stems name) refl
live_mine old (s ∷ stems) (p ∷ parts) rest apart same (suc k) stem part at there name mine =
    live_mine old stems parts (joined (is_part (part_stem p)) p.story.now rest) apart.1 same.1 k stem part at there name mine

module _ (component : Name) (count : ℕ) (old fanned new : World) (handed parts : List World)
    (to_fanned : IsTrue old.tells → IsTrue fanned.tells) (from_fanned : IsTrue fanned.tells → IsTrue old.tells) (from_new : IsTrue new.tells → IsTrue fanned.tells)
    (apart : AreApart (stems_from component 0 count)) (fans : IsTrue fanned.tells → Fans (stems_from component 0 count) old handed fanned) (gathers : IsTrue new.tells → Gathers parts fanned new)
    (retained : AllRetained (stems_from component 0 count) handed parts) where
  abbrev stems : List Name
  stems = stems_from component 0 count

  -- a part as it was handed out
  handed_at : IsTrue old.tells → (k : ℕ) → k < count → slice_get handed k ≡ Some (part_of old (stem_of component k))
  handed_at t k lt = ap (λ (l : List World). slice_get l k) (fans (to_fanned t)).handed ∙ slice_get-map (part_of old) stems k ∙ ap (option_map (part_of old)) (stem_first component count k lt)

  -- what is found in a part is found in the folder
  pub found_at : (k : ℕ) (complete : Bool) (promised : ℕ) → k < count → FoundIn stems handed k complete promised → FoundAt component old k complete promised
  found_at k complete promised lt found t =
      found_as (stem_of component k) (inside (stem_of component k) old.story.now) old.story.now complete promised
      (λ name mine. ap (λ (b : Bool). if b then old.story.now.live name else None) mine)
      (found (stem_of component k) (part_of old (stem_of component k)) (stem_first component count k lt) (handed_at t k lt) t)

  -- and what is promised in a part is promised in the folder.
  pub promised_at : (k got : ℕ) → k < count → PromisedIn stems parts k got → PromisedAt component new k got
  promised_at k got lt promised t bytes is =
      let r = retained_at stems handed parts retained k (stem_of component k) (stem_first component count k lt) in
      let u = from_new t in
      let v = from_fanned u in
      let tells : IsTrue r.1.tells = r.4.stays.still_tells (subst (λ (w : World). IsTrue w.tells) (same_Some (part_of old (stem_of component k)) r.0 (sym (handed_at v k lt) ∙ r.2)) v) in
      let here : (name : Name) → is_part (stem_of component k) name ≡ true → new.story.now.live name ≡ r.1.story.now.live name = λ name mine.
      ap (λ (d : Disk). d.live name) (ap (λ s. s.now) (gathers t).story ∙ gathered_now fanned.since (stories parts) fanned.story)
      ∙ live_mine old stems parts fanned.story.now (disjoint stems apart) (subst (λ (l : List World). AreSameParts l parts) (fans u).handed (retained_same stems handed parts retained)) k (stem_of component k) r.1 (stem_first component count k lt) r.3 name mine in
      promised (stem_of component k) r.1 (stem_first component count k lt) r.3 tells bytes
      (promise_there (stem_of component k) (reads new.story.now) (reads r.1.story.now) (λ name mine. ap (option_map content) (here name mine)) bytes is)

  -- Each part tells where the folder does.
  pub tells_at : (k : ℕ) → k < count → IsTrue new.tells → TellsIn parts k
  tells_at k lt t =
      let r = retained_at stems handed parts retained k (stem_of component k) (stem_first component count k lt) in
      let v = from_fanned (from_new t) in
      (r.1, r.3, r.4.stays.still_tells (subst (λ (w : World). IsTrue w.tells) (same_Some (part_of old (stem_of component k)) r.0 (sym (handed_at v k lt) ∙ r.2)) v))

  -- A piece that stands in its part stands in the folder.
  pub stands_at : (k : ℕ) → k < count → IsTrue new.tells → ((stem : Name) (part : World) → slice_get stems k ≡ Some stem → slice_get parts k ≡ Some part → IsTrue part.tells → IsSome (part.story.now.live stem))
      → IsSome (new.story.now.live (stem_of component k))
  stands_at k lt t stand =
      let tells = tells_at k lt t in
      let u = from_new t in
      subst IsSome (sym
      (ap (λ (d : Disk). d.live (stem_of component k)) (ap (λ s. s.now) (gathers t).story ∙ gathered_now fanned.since (stories parts) fanned.story)
      ∙ live_mine old stems parts fanned.story.now (disjoint stems apart) (subst (λ (l : List World). AreSameParts l parts) (fans u).handed (retained_same stems handed parts retained)) k (stem_of component k) tells.0 (stem_first component count k lt) tells.1
      (stem_of component k) (part_has_stem (stem_of component k))))
      (stand (stem_of component k) tells.0 (stem_first component count k lt) tells.1 tells.2)
