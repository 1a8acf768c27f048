-- The names beside a component, each nested from the component outward, so that two of them are told apart by computation.
use Rattle.std.specs.Prelude.{ℕ, Bool, true, false, not, ◌&&◌, ◌||◌, List, [], ◌∷◌, ◌++◌, codes, decimal, bytes_eq, nat_eq}

-- The name begins with these bytes.
abbrev pub begins : List ℕ → List ℕ → Bool
begins [] name = true
begins (c ∷ cs) [] = false
begins (c ∷ cs) (d ∷ ds) = nat_eq c d && begins cs ds

-- the record of what the component's pieces are
abbrev pub record_of : List ℕ → List ℕ
record_of component = component ++ codes ".ytdl"

-- the spare name, under which a record is written before it has its own
abbrev pub spare_of : List ℕ → List ℕ
spare_of component = component ++ codes ".ytdl.new"

-- the joined part, in which several pieces are joined
abbrev pub joined_of : List ℕ → List ℕ
joined_of component = component ++ codes ".part"

-- what the names of all its pieces begin with
abbrev pub pieces_of : List ℕ → List ℕ
pieces_of component = component ++ codes ".part-Frag"

-- the stem of a piece, counted from 0: its name once it is complete
abbrev pub stem_of : List ℕ → ℕ → List ℕ
stem_of component piece = component ++ (codes ".part-Frag" ++ decimal piece)

-- the name that promises the first `len` bytes of a piece
abbrev pub promise_of : List ℕ → ℕ → ℕ → List ℕ
promise_of component piece len = component ++ (codes ".part-Frag" ++ (decimal piece ++ (codes ".@" ++ decimal len)))

-- The name is one of the component's family, but not its own.
abbrev pub is_beside : List ℕ → List ℕ → Bool
is_beside component name =
    bytes_eq (record_of component) name || (bytes_eq (spare_of component) name || (bytes_eq (joined_of component) name || begins (pieces_of component) name))

-- The name goes where a component is begun anew: all beside it, and the component where it is not final.
abbrev pub is_swept : List ℕ → Bool → List ℕ → Bool
is_swept component final name = is_beside component name || (not final && bytes_eq component name)
