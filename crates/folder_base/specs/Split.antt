-- A folder's files, as they are handed out to its parts.
use Rattle.std.specs.Prelude.{◌≡◌, ℕ, List, [], ◌∷◌, Some, None, Vec, length, slice_get, if◌then◌else◌}
use Rattle.std.specs.BTreeMap.{BTreeMap}
use Rattle.std.specs.declared.alloc.Global.{Global}
use Rattle.folder_base.specs.Disk.{Name, Names, put}
use Rattle.folder_base.specs.Files.{names_of, without}
use Rattle.folder_base.specs.Index.{IsIndex}
use Rattle.folder_base.specs.Merge.{Files}
use Rattle.folder_base.specs.Parts.{is_part, AreApart}

-- the names of a part alone
abbrev pub part_names : Name → Names → Names
part_names stem names = λ name. if is_part stem name then names name else None

-- as many as there are stems, none with a file
pub record AreEmpty (stems : List Name) (split : List Files) : Type 0 where
  pub many : length split ≡ length stems
  pub each : (at : ℕ) (files : Files) → slice_get split at ≡ Some files → names_of files ≡ (λ _. None)

-- each with the names of its part
pub record AreSplit (stems : List Name) (names : Names) (split : List Files) : Type 0 where
  pub many : length split ≡ length stems
  pub each : (at : ℕ) (stem : Name) (files : Files) → slice_get stems at ≡ Some stem → slice_get split at ≡ Some files → names_of files ≡ part_names stem names

-- Where stems are apart, the part that answers for the name has what stands under it, and the others are as they were.
pub record GivesPart (names : Names) (name : Name) (index : BTreeMap (Vec ℕ Global) ℕ) (old new : List Files) : Type 0 where
  pub many : length new ≡ length old
  pub each : (stems : List Name) → IsIndex stems index → AreApart stems → length old ≡ length stems → (at : ℕ) (stem : Name) (before after : Files)
      → slice_get stems at ≡ Some stem → slice_get old at ≡ Some before → slice_get new at ≡ Some after
      → names_of after ≡ (if is_part stem name then put (names_of before) name (names name) else names_of before)

-- without the names that stand in any of these
abbrev pub without_all : List Names → Names → Names
without_all [] others = others
without_all (names ∷ all) others = without_all all (without names others)
