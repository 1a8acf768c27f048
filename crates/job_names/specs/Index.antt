-- The names of jobs, as they are looked up.
use Rattle.std.specs.Prelude.{◌≡◌, ◌<◌, ℕ, zero, suc, Bool, false, ◌&&◌, ◌||◌, List, [], ◌∷◌, take, Option, Some, None, min, ⊤, if◌then◌else◌, bytes_eq}
use Rattle.std.specs.List.{list_any}
use Rattle.std.specs.Borrow.{Bor}
use Rattle.std.specs.BTreeMap.{BTreeMap, get_by}
use Rattle.std.specs.BTreeSet.{BTreeSet, contains_by}
use Rattle.std.specs.Cmp.Lexicographic.{slice_cmp}
use Rattle.std.specs.Ordering.{nat_cmp}
use Rattle.plan_record.specs.Names.{begins, pieces_of}
use Rattle.job_names.specs.Text.{Text}
use Rattle.job_names.specs.Family.{Names, exact_names}
use Rattle.job_names.specs.declared.index.NameIndex.{NameIndex}

-- jobs by their places among the entries, each with its names, in the order of the places
abbrev pub Log : Type 0
Log = List (ℕ × Names)

-- each of these jobs stands before this place
abbrev pub AreBelow : ℕ → Log → Type 0
AreBelow place [] = ⊤
AreBelow place (job ∷ log) = (job.0 < place) × AreBelow place log

-- each of these jobs stands behind this place
abbrev pub AreAbove : ℕ → Log → Type 0
AreAbove place [] = ⊤
AreAbove place (job ∷ log) = (place < job.0) × AreAbove place log

-- the jobs stand in the order of their places
abbrev pub AreAscending : Log → Type 0
AreAscending [] = ⊤
AreAscending (job ∷ log) = AreAbove job.0 log × AreAscending log

-- the number that a map has for a text
abbrev pub told : BTreeMap (Bor Text) ℕ → Text → Option ℕ
told m name = get_by (λ k. slice_cmp nat_cmp name k.now) m

-- the place of the first job whose names pass a test
abbrev pub first_with : (Names → Bool) → Log → Option ℕ
first_with test [] = None
first_with test (job ∷ log) = if test job.1 then Some job.0 else first_with test log

-- the text is an exact name of these
abbrev pub has_exact : Text → Names → Bool
has_exact name names = list_any (bytes_eq name) (exact_names names)

-- the text is a component of these
abbrev pub has_component : Text → Names → Bool
has_component name names = list_any (bytes_eq name) names.components

-- an exact name of these would be that of a piece of this component
abbrev pub has_piece_of : Text → Names → Bool
has_piece_of component names = list_any (λ name. begins (pieces_of component) name) (exact_names names)

-- Each map tells the first of the jobs: that has an exact name, that has a component, and an exact name of which is that of a piece.
pub record IsIndex (log : Log) (index : NameIndex) : Type 0 where
  pub exact : (name : Text) → told index.exact name ≡ first_with (has_exact name) log
  pub components : (name : Text) → told index.components name ≡ first_with (has_component name) log
  pub under : (component : Text) → told index.under component ≡ first_with (has_piece_of component) log
  pub ascending : AreAscending log

-- a set has a text
abbrev pub has_text : BTreeSet (Bor Text) → Text → Bool
has_text set text = contains_by (λ k. slice_cmp nat_cmp text k.now) set

-- the lesser of two places, where there are any
abbrev pub least : Option ℕ → Option ℕ → Option ℕ
least None other = other
least (Some n) None = Some n
least (Some n) (Some k) = Some (min n k)

-- a front of the name would be a component where the name were that of a piece
abbrev pub is_front_of : Text → Text → Bool
is_front_of name front = begins (pieces_of front) name

-- The name is that of a piece of one of these components, which has fewer bytes than these.
abbrev pub is_piece_below : List Text → Text → ℕ → Bool
is_piece_below components name zero = false
is_piece_below components name (suc n) =
    is_piece_below components name n || (begins (pieces_of (take n name)) name && list_any (bytes_eq (take n name)) components)
