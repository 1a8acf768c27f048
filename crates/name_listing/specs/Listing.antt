-- What is known of the names in some folders.
use Rattle.std.specs.Prelude.{◌≡◌, Bool, Option, None, option_map, bytes_eq, if◌then◌else◌}
use Rattle.std.specs.BTreeMap.{get_by_text}
use Rattle.name_listing.specs.Names.{Name, has}
use Rattle.name_listing.specs.declared.listing.Listing.{Listing}

-- whether a name is in a folder, where the folder is known
abbrev pub known : Listing → Name → Name → Option Bool
known listing folder name = option_map (λ names. has names name) (get_by_text listing.folders folder)

-- Nothing is known of this folder, and all else is as it was.
abbrev pub Forgets : Name → Listing → Listing → Type 0
Forgets folder old new = (other name : Name) → known new other name ≡ (if bytes_eq folder other then None else known old other name)

-- what is known once some names are in a folder, or are not
abbrev pub noted : Name → (Name → Bool) → Bool → (Name → Name → Option Bool) → Name → Name → Option Bool
noted folder names stand known other one =
    if bytes_eq folder other then option_map (λ stood. if names one then stand else stood) (known other one) else known other one

-- Some names are noted in a folder, where that is known, and all else is as it was.
abbrev pub NotesAll : Name → (Name → Bool) → Bool → Listing → Listing → Type 0
NotesAll folder names stand old new = (other one : Name) → known new other one ≡ noted folder names stand (known old) other one

-- The name is noted in its folder, where that is known, and all else is as it was.
abbrev pub Notes : Name → Name → Bool → Listing → Listing → Type 0
Notes folder name = NotesAll folder (bytes_eq name)
