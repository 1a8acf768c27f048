-- Which files of a component are removed, and that its record goes last.
use Rattle.std.specs.Prelude.{◌≡◌, ◌⊎◌, Bool, not, ◌&&◌, ◌||◌, None, IsSome, IsTrue, bytes_eq, is_some}
use Rattle.folder_base.specs.Disk.{Name, Names, Disk, Image, Leaves, May}
use Rattle.folder_steps.specs.Follow.{Follows, Thinner}
use Rattle.plan_record.specs.Names.{record_of, spare_of, joined_of, pieces_of, begins}

-- The name goes: all beside the component, and the component, but for it or its record where that stays.
abbrev pub is_cleared : Name → Bool → Bool → Name → Bool
is_cleared component component_stays record_stays name =
    ((not record_stays && bytes_eq (record_of component) name)
    || (bytes_eq (spare_of component) name || (bytes_eq (joined_of component) name || begins (pieces_of component) name)))
    || (not component_stays && bytes_eq component name)

-- The name goes where a component is tidied: none without a record; a final or kept component stays, and a kept one that stands
-- keeps its record.
abbrev pub is_tidied : Name → Bool → Bool → Names → Name → Bool
is_tidied component final keep live name =
    is_some (live (record_of component)) && is_cleared component (final || keep) (keep && is_some (live component)) name

-- What stands under a record: the joined part, the pieces and their promises, and the component unless it stays.
abbrev pub is_under : Name → Bool → Name → Bool
is_under component component_stays name =
    (bytes_eq (joined_of component) name || begins (pieces_of component) name) || (not component_stays && bytes_eq component name)

-- The record stands, or none of what stands under it: a stop leaves nothing that nobody would tidy.
abbrev pub UnderRecord : Name → Bool → Image → Type 0
UnderRecord component component_stays image =
    IsSome (image (record_of component)) ⊎ ((name : Name) → IsTrue (is_under component component_stays name) → image name ≡ None)

-- as before, or all names as they are but this one, which may be gone: what was removed before it does not come back
abbrev pub GoesBehind : Name → Disk → Image → Type 0
GoesBehind name disk image = May disk image ⊎ Follows (Leaves disk.live) (Thinner (bytes_eq name)) image
