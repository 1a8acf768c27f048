-- Which names lead to a file below the folder.
use Rattle.std.specs.Prelude.{ℕ, Bool, ◌&&◌, not, List, ◌==◌, bytes_eq, codes}
use Rattle.std.specs.List.{slice_split, list_any}

-- one of the parts between slashes is this one
abbrev pub has_part : List ℕ → List ℕ → Bool
has_part part name = list_any (λ piece. bytes_eq piece part) (slice_split (λ b. b == 47) name)

-- a byte that no path of the system has
abbrev pub has_zero : List ℕ → Bool
has_zero name = list_any (λ b. b == 0) name

-- The name leads to a file below the folder: no part is empty, as it is before a slash at the start, behind one at the end and in no
-- bytes, and none is the folder itself or the one above.
abbrev pub is_inside : List ℕ → Bool
is_inside name = not (has_zero name) && (not (has_part (codes "") name) && (not (has_part (codes ".") name) && not (has_part (codes "..") name)))
