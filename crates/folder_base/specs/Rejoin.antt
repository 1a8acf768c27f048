-- What parts that are out make again, and how they are put behind the others.
use Rattle.std.specs.Prelude.{◌≡◌, ℕ, Bool, true, not, List, map, slice_get, Some, Vec}
use Rattle.std.specs.BTreeMap.{BTreeMap}
use Rattle.std.specs.declared.alloc.Global.{Global}
use Rattle.folder_base.specs.Disk.{Name, Disk}
use Rattle.folder_base.specs.Handing.{AreStarts}
use Rattle.folder_base.specs.Index.{IsIndex}
use Rattle.folder_base.specs.Log.{told, newborn, handed, parts_told}
use Rattle.folder_base.specs.Parts.{is_part, is_in_some, joined, together, AreApart}
use Rattle.folder_base.specs.Undo.{IsReplayed, HoldsOnly}
use Rattle.folder_base.specs.declared.replay.Replay.{Replay}
use Rattle.folder_base.specs.declared.step.Step.{Step}

-- each part that has made steps, as it is now
abbrev pub parts_now : Disk → List Name → List (List Step) → List (Name × Disk)
parts_now birth stems lists = map (λ each. (each.0, each.1.now)) (parts_told (map (handed birth) stems) lists)

-- The part is one with the rest, of which none is its own, and what holds of the names of both holds then.
pub record IsPartOn (stem : Name) (part rest : Disk) (old new : Replay) : Type 0 where
  pub replayed : IsReplayed (joined (is_part stem) part rest) new
  pub holds : (mine : Name → Bool) → ((name : Name) → is_part stem name ≡ true → mine name ≡ true) → HoldsOnly (λ name. mine name ≡ true) old → HoldsOnly (λ name. mine name ≡ true) new

-- so of the part in this place, whatever disks it and the rest were made on
abbrev pub JoinsPart : BTreeMap (Vec ℕ Global) ℕ → ℕ → Replay → List Step → Replay → Replay → Type 0
JoinsPart index at start steps old new =
    (stems : List Name) (stem : Name) (birth rest : Disk) → IsIndex stems index → slice_get stems at ≡ Some stem → IsReplayed birth start
    → IsReplayed rest old → HoldsOnly (λ name. not (is_part stem name) ≡ true) old → IsPartOn stem (told (newborn birth) steps).now rest old new

-- so of all parts, one after another
abbrev pub JoinsParts : BTreeMap (Vec ℕ Global) ℕ → List Replay → List (List Step) → Replay → Replay → Type 0
JoinsParts index starts lists old new =
    (stems : List Name) (birth rest : Disk) → IsIndex stems index → AreApart stems → AreStarts stems birth starts
    → IsReplayed rest old → HoldsOnly (λ name. not (is_in_some stems name) ≡ true) old → IsReplayed (together rest (parts_now birth stems lists)) new
