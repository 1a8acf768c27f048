-- Which file below the folder a target names.
use Rattle.std.specs.Prelude.{ℕ, Bool, ◌&&◌, not, List, drop, ◌==◌, nat_eq, Option, Some, None, bytes_eq, codes, if◌then◌else◌}
use Rattle.std.specs.List.{slice_split, list_any, starts_with}
use Rattle.file_server.specs.Cut.{before}
use Rattle.percent_encoding.specs.Percent.{percent_decode}

-- a piece between slashes is `..`
abbrev pub climbs : List ℕ → Bool
climbs path = list_any (λ piece. bytes_eq piece (codes "..")) (slice_split (λ b. b == 47) path)

-- a byte that no path of the system has
abbrev pub has_zero : List ℕ → Bool
has_zero path = list_any (λ b. b == 0) path

-- a path below the folder: it does not begin with a slash, climbs nowhere, and has no zero byte
abbrev pub stays_below : List ℕ → Bool
stays_below path = not (starts_with nat_eq path (codes "/")) && not (climbs path) && not (has_zero path)

-- the path below the folder, where the target begins with a slash and stays below
abbrev pub path_behind : List ℕ → Option (List ℕ)
path_behind path = if stays_below path then Some path else None

-- the path that a target without its query names
abbrev pub path_in : List ℕ → Option (List ℕ)
path_in target =
    if starts_with nat_eq target (codes "/") then path_behind (percent_decode (drop 1 target)) else None

-- the path of the file that a target names, from the folder on; the query names nothing
abbrev pub path_of : List ℕ → Option (List ℕ)
path_of target = path_in (before 63 target)
