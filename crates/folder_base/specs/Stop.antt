-- What a stop leaves, where so many unsettled name changes hold and bytes that are not synced are these.
use Rattle.std.specs.Prelude.{ℕ, List, [], ◌∷◌, ◌++◌, map, length, nat_lt, option_map, unwrap_or, if◌then◌else◌}
use Rattle.folder_base.specs.Disk.{Bytes, File, Names, Spots, Older, Disk, as_now, mark, lasting_file}

-- The names once the first `kept` of these changes hold; `spots` are those once all do.
abbrev pub first_kept : ℕ → Spots → List Older → Spots
first_kept kept spots [] = spots
first_kept kept spots (older ∷ back) = if nat_lt (length back) kept then spots else first_kept kept older.names back

-- a file as long as it reads, its bytes that are not synced being `fill`
abbrev pub filled : ℕ → File → Bytes
filled fill file = file.sure ++ map (λ _. fill) (unwrap_or file.more [])

-- each name with its file, all of whose bytes are lasting
abbrev pub filled_names : ℕ → Names → Names
filled_names fill names = λ name. option_map (λ file. lasting_file (filled fill file)) (names name)

-- the names that a stop leaves where the first `kept` unsettled changes hold, with their files
abbrev pub kept_names : ℕ → Disk → Names
kept_names kept disk = as_now disk.live (first_kept kept (mark disk.live) disk.back)

-- the files that are left
abbrev pub stopped : ℕ → ℕ → Disk → Names
stopped kept fill disk = filled_names fill (kept_names kept disk)
