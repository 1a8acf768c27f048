-- Parts that are still the ones that were handed out.
use Rattle.std.proofs.Common.{◌≡◌, ◌∙◌, ℕ, ◌<◌, true, ◌&&◌, ◌||◌, List, [], ◌++◌, ◌∷◌, length, map, get_or, refl, sym, ap}
use Rattle.std.specs.Prelude.{Option, Some, not}
use Rattle.std.proofs.Math.ListN.{get_or-map as get_or-map_at}
use Rattle.std.proofs.lemmas.List.{get_or-map}
use Rattle.std.proofs.lemmas.Simd.{map-map}
use Rattle.std.proofs.lemmas.Slice.Eq.{bytes_eq-Decides}
use Rattle.std.specs.Option.{option_map_or}
use Rattle.folder_base.specs.Disk.{Name, begins}
use Rattle.folder_base.specs.Memory.{world_of}
use Rattle.folder_base.specs.Parts.{is_part, is_in_some}
use Rattle.folder_base.specs.Story.{World, Part, stems, is_own, part_of, handed_part}
use Rattle.folder_base.specs.declared.memory.FolderMem.{FolderMem}

-- which part a folder is, and which parts it has out
abbrev pub standing : World → Option Part × List Part
standing world = (world.part, world.out)

abbrev pub held : FolderMem → Option Part × List Part
held folder = standing (world_of folder)

own_stem : (world : World) (part : Part) → world.part ≡ Some part → world.out ≡ [] → is_own world part.stem ≡ true
own_stem world part part_is none_out =
    (λ i. option_map_or (λ (p : Part). is_part p.stem part.stem) (part_is i) true && not (is_in_some (stems (none_out i)) part.stem))
    ∙ (λ i. ((bytes_eq-Decides part.stem part.stem).1 refl i || begins (part.stem ++ 46 ∷ []) part.stem) && true)

module _ (old : World) (names : List Name) (begun parts : List FolderMem)
    (handed : map world_of begun ≡ map (part_of old) names) (kept : map held parts ≡ map held begun) where
  all_held : map held parts ≡ map (λ name. standing (part_of old name)) names
  all_held = kept ∙ sym (map-map standing world_of begun) ∙ ap (map standing) handed ∙ map-map standing (part_of old) names

  -- A part answers for the stem that it was handed out for.
  pub owns : (at : ℕ) (part : FolderMem) (name : Name) → at < length names → part ≡ get_or parts at part → name ≡ get_or names at name → is_own (world_of part) name ≡ true
  owns at part name within part_is name_is =
      let as_handed : held part ≡ standing (part_of old name) =
      ap held part_is ∙ sym (get_or-map_at held parts at part) ∙ ap (λ (l : List (Option Part × List Part)). get_or l at (held part)) all_held
      ∙ get_or-map (λ (n : Name). standing (part_of old n)) names at name (held part) within ∙ ap (λ (n : Name). standing (part_of old n)) (sym name_is) in
      own_stem (world_of part) (handed_part old name) (ap (λ (s : Option Part × List Part). s.0) as_handed) (ap (λ (s : Option Part × List Part). s.1) as_handed)

  -- All parts are there that are out.
  pub all_there : (out : List Part) → out ≡ map (handed_part old) names → map (λ part. (world_of part).part) parts ≡ map (λ part. Some part) out
  all_there out out_is =
      sym (map-map (λ (s : Option Part × List Part). s.0) held parts)
      ∙ ap (map (λ (s : Option Part × List Part). s.0)) all_held
      ∙ map-map (λ (s : Option Part × List Part). s.0) (λ name. standing (part_of old name)) names
      ∙ sym (map-map (λ part. Some part) (handed_part old) names)
      ∙ ap (map (λ part. Some part)) (sym out_is)
