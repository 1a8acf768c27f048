-- Where a part stands among the parts that are out.
use Rattle.std.specs.Prelude.{◌≡◌, ℕ, true, false, List, Option, Some, None, IsSome, Vec, slice_get}
use Rattle.std.specs.BTreeMap.{BTreeMap, get_by}
use Rattle.std.specs.Cmp.Lexicographic.{slice_cmp}
use Rattle.std.specs.Ordering.{nat_cmp}
use Rattle.std.specs.declared.alloc.Global.{Global}
use Rattle.folder_base.specs.Disk.{Name}
use Rattle.folder_base.specs.Parts.{is_part, is_in_some}

-- where the stem stands, by the index
abbrev pub place_of : BTreeMap (Vec ℕ Global) ℕ → Name → Option ℕ
place_of index stem = get_by (λ key. slice_cmp nat_cmp stem key.items) index

-- Just the stems have places, each one where it stands.
pub record IsIndex (stems : List Name) (index : BTreeMap (Vec ℕ Global) ℕ) : Type 0 where
  pub each : (at : ℕ) (stem : Name) → slice_get stems at ≡ Some stem → IsSome (place_of index stem)
  pub only : (at : ℕ) (stem : Name) → place_of index stem ≡ Some at → slice_get stems at ≡ Some stem

-- the place of a part that answers for the name; no place where none does
abbrev pub FindsPart : List Name → Name → Option ℕ → Type 0
FindsPart stems name None = is_in_some stems name ≡ false
FindsPart stems name (Some at) = (stem : Name) × (slice_get stems at ≡ Some stem) × (is_part stem name ≡ true)
