-- What stands in a folder whose parts are back.
use Rattle.std.proofs.Common.{◌≡◌, Bool, true, false, List, [], ◌∷◌, ◌++◌, map, refl, sym, ◌∙◌, ap, subst}
use Rattle.std.specs.Prelude.{Option, Some, None, IsSome, ⊤, if◌then◌else◌, bytes_eq, ◌||◌}
use Rattle.std.specs.Option.{option_map_or}
use Rattle.folder_base.specs.Disk.{Name, File, Disk, begins}
use Rattle.folder_base.specs.Parts.{is_part, is_in_some, joined, together, AreApart}
use Rattle.folder_base.specs.Story.{World, Part, Fans, Gathers, part_of, stem_of, stories}
use Rattle.folder_base.proofs.Disjoint.{disjoint, neither_so, so_left}
use Rattle.folder_base.proofs.Parted.{AreDisjoint}
use Rattle.folder_base.proofs.Images.{same_name}
use Rattle.folder_base.proofs.Rejoined.{gathered_now}

-- A part answers for its stem.
pub part_has_stem : (stem : Name) → is_part stem stem ≡ true
part_has_stem stem = so_left (bytes_eq stem stem) (begins (stem ++ 46 ∷ []) stem) (same_name stem)

-- A name that is no part's is the rest's.
pub live_other : (rest : Disk) (parts : List (Name × Disk)) (name : Name) → is_in_some (map (λ part. part.0) parts) name ≡ false → (together rest parts).live name ≡ rest.live name
live_other rest [] name e = refl
live_other rest (part ∷ parts) name e =
    let h = neither_so (is_part part.0 name) (is_in_some (map (λ part. part.0) parts) name) e in
    live_other (joined (is_part part.0) part.1 rest) parts name h.1 ∙ ap (λ (b : Bool). if b then part.1.live name else rest.live name) h.0

-- each part, as it is now
abbrev pub nows : List World → List (Name × Disk)
nows parts = map (λ each. (each.0, each.1.now)) (stories parts)

-- each part is still the one that it was
abbrev pub AreSameParts : List World → List World → Type 0
AreSameParts [] [] = ⊤
AreSameParts (old ∷ olds) (new ∷ news) = (new.part ≡ old.part) × AreSameParts olds news
AreSameParts olds news = ⊥

-- in each part its stem stands
abbrev pub EachStands : List Name → List World → Type 0
EachStands [] [] = ⊤
EachStands (stem ∷ stems) (part ∷ parts) = IsSome (part.story.now.live stem) × EachStands stems parts
EachStands stems parts = ⊥

abbrev pub AllStand : List Name → (Name → Option File) → Type 0
AllStand [] live = ⊤
AllStand (stem ∷ stems) live = IsSome (live stem) × AllStand stems live

-- They come back under their stems.
pub stems_back : (old : World) (stems : List Name) (parts : List World) → AreSameParts (map (part_of old) stems) parts → map (λ part. part.0) (nows parts) ≡ stems
stems_back old [] [] same = refl
stems_back old [] (part ∷ parts) same = absurd same
stems_back old (stem ∷ stems) [] same = absurd same
stems_back old (stem ∷ stems) (part ∷ parts) same = λ i. option_map_or (λ (p : Part). p.stem) (same.0 i) [] ∷ stems_back old stems parts same.1 i

-- What stands in each part under its stem stands in all together.
pub all_stand : (old : World) (stems : List Name) (parts : List World) (rest : Disk) → AreDisjoint stems → AreSameParts (map (part_of old) stems) parts → EachStands stems parts → AllStand stems (together rest (nows parts)).live
all_stand old [] parts rest apart same stands = tt
all_stand old (stem ∷ stems) [] rest apart same stands = absurd same
all_stand old (stem ∷ stems) (part ∷ parts) rest apart same stands = (
  subst IsSome (sym (live_other (joined (is_part (stem_of part)) part.story.now rest) (nows parts) stem none ∙ ap (λ (b : Bool). if b then part.story.now.live stem else rest.live stem) mine)) stands.0,
  all_stand old stems parts (joined (is_part (stem_of part)) part.story.now rest) apart.1 same.1 stands.1,
)
  where
    mine : is_part (stem_of part) stem ≡ true
    mine = ap (λ (s : Name). is_part s stem) (ap (λ (p : Option Part). option_map_or (λ part. part.stem) p []) same.0) ∙ part_has_stem stem

    by : (v : Bool) → is_in_some stems stem ≡ v → v ≡ false
    by true is = absurd (let x : true ≡ false = sym (part_has_stem stem) ∙ apart.0 stem is in cc)
    by false is = refl

    none : is_in_some (map (λ part. part.0) (nows parts)) stem ≡ false
    none = ap (λ (l : List Name). is_in_some l stem) (stems_back old stems parts same.1) ∙ by (is_in_some stems stem) refl

-- So it is in the folder that gathers them.
pub gathered_stand : (old fanned new : World) (stems : List Name) (handed parts : List World) → AreApart stems → Fans stems old handed fanned → Gathers parts fanned new → AreSameParts handed parts → EachStands stems parts
    → AllStand stems new.story.now.live
gathered_stand old fanned new stems handed parts apart fans gathers same stands =
    subst (λ (d : Disk). AllStand stems d.live) (sym (ap (λ s. s.now) gathers.story ∙ gathered_now fanned.since (stories parts) fanned.story))
    (all_stand old stems parts fanned.story.now (disjoint stems apart) (subst (λ (l : List World). AreSameParts l parts) fans.handed same) stands)
