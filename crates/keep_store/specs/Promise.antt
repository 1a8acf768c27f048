-- The names of a piece that is partly fetched, and what an image promises of it.
use Rattle.std.specs.Prelude.{◌≡◌, ◌⊎◌, ℕ, ◌*◌, ◌+◌, ◌-◌, ◌<◌, ◌≤◌, List, [], ◌∷◌, ◌++◌, length, fold, slice_index, Option, Some, None, ⊤, MatchOption, decimal}
use Rattle.std.specs.Int.{IsInRange}
use Rattle.folder_base.specs.Disk.{Name, Bytes, Image}

-- digits without zeros before them
pub record IsNumber (digits : List ℕ) : Type 0 where
  pub some : 0 < length digits
  pub each : (k : ℕ) → k < length digits → IsInRange 48 57 (slice_index digits k)
  pub lead : slice_index digits 0 ≡ 48 → length digits ≡ 1

-- the number that digits spell
abbrev pub number_of : List ℕ → ℕ
number_of = fold (λ n digit. 10 * n + (digit - 48)) 0

-- what each promise's name of this stem begins with
abbrev pub promise_prefix : Name → Name
promise_prefix stem = stem ++ 46 ∷ 64 ∷ []

-- the name that promises as many bytes as the digits spell
abbrev pub promising : Name → List ℕ → Name
promising stem digits = promise_prefix stem ++ digits

-- the name that promises the first `len` bytes
abbrev pub promise_name : Name → ℕ → Name
promise_name stem len = promising stem (decimal len)

-- The name promises some bytes, of any number.
pub record IsPromising (stem name : Name) : Type 0 where
  pub digits : List ℕ
  pub number : IsNumber digits
  pub is : name ≡ promising stem digits

-- The name is one under which the stem's piece may stand: its complete name, or a promise's.
abbrev pub IsNameOf : Name → Name → Type 0
IsNameOf stem name = (name ≡ stem) ⊎ IsPromising stem name

-- the first of these bytes
abbrev pub IsFront : Bytes → Bytes → Type 0
IsFront front bytes = (rest : Bytes) × (bytes ≡ front ++ rest)

-- A promise stands: its name has a file with at least as many bytes, the first of which are these.
pub record Promises (stem : Name) (image : Image) (digits : List ℕ) (bytes : Bytes) : Type 0 where
  pub number : IsNumber digits
  pub count : length bytes ≡ number_of digits
  pub file : Bytes
  pub stands : image (promising stem digits) ≡ Some file
  pub front : IsFront bytes file

-- the promise of a piece that is not complete: the greatest that stands, else none
pub record IsPartPromise (stem : Name) (image : Image) (bytes : Bytes) : Type 0 where
  pub part : image stem ≡ None
  pub promised : (bytes ≡ []) ⊎ ((digits : List ℕ) × Promises stem image digits bytes)
  pub greatest : (digits : List ℕ) (other : Bytes) → Promises stem image digits other → length other ≤ length bytes

-- The bytes that an image promises of a piece: all of its file where that is complete, else those of its greatest promise.
abbrev pub IsPromise : Name → Image → Bytes → Type 0
IsPromise stem image bytes = (image stem ≡ Some bytes) ⊎ IsPartPromise stem image bytes

-- where a file stands, a fact of its bytes
abbrev pub IfStands : Option Bytes → (Bytes → Type 0) → Type 0
IfStands file P = MatchOption file ⊤ P

-- These bytes are the first of what the world has under a URL; none are where it has nothing.
abbrev pub AreFirst : Option Bytes → Bytes → Type 0
AreFirst all bytes = MatchOption all (bytes ≡ []) (λ world. IsFront bytes world)

-- A piece that is complete has all the world's bytes of its URL, and each promise the first of them.
pub record PieceSound (all : Option Bytes) (stem : Name) (image : Image) : Type 0 where
  pub complete : IfStands (image stem) (λ file. all ≡ Some file)
  pub promised : (digits : List ℕ) (bytes : Bytes) → Promises stem image digits bytes → AreFirst all bytes
