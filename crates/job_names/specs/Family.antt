-- The names of a job: the exact ones, the whole family, and where two families meet.
use Rattle.std.specs.Prelude.{ℕ, Bool, false, ◌||◌, ◌==◌, IsTrue, List, [], ◌∷◌, ◌++◌, length, flat_map, nat_lt, if◌then◌else◌, Option, codes, bytes_eq}
use Rattle.std.specs.List.{list_any, after_last}
use Rattle.std.specs.Option.{option_map_or}
use Rattle.plan_record.specs.Names.{begins, record_of, spare_of, joined_of, pieces_of}
use Rattle.job_names.specs.Text.{Text}

-- what the family of a job is made from: its final name, its components and the outputs of its steps
pub record Names : Type 0 where
  pub final_name : Text
  pub components : List Text
  pub outputs : List Text

-- a component and the exact names beside it
abbrev pub component_names : Text → List Text
component_names component = component ∷ record_of component ∷ spare_of component ∷ joined_of component ∷ []

-- the final name, where it is a name of its own: without a step it is that of the only component
abbrev pub own_final : Names → List Text
own_final names = if length names.outputs == 0 then [] else names.final_name ∷ []

-- the exact names of a family
abbrev pub exact_names : Names → List Text
exact_names names = own_final names ++ (flat_map component_names names.components ++ names.outputs)

-- the name is that of a piece of one of these components
abbrev pub is_piece_of : List Text → Text → Bool
is_piece_of components name = list_any (λ component. begins (pieces_of component) name) components

-- the name is one of these exact names, or that of a piece of one of these components
abbrev pub is_among : List Text → List Text → Text → Bool
is_among exact components name = list_any (bytes_eq name) exact || is_piece_of components name

-- the name is in the family
abbrev pub in_family : Names → Text → Bool
in_family names name = is_among (exact_names names) names.components name

-- an exact name of the one is in the family of the other
abbrev pub meets : Names → Names → Bool
meets a b = list_any (in_family b) (exact_names a) || list_any (in_family a) (exact_names b)

-- one text stands twice
abbrev pub has_twice : List Text → Bool
has_twice [] = false
has_twice (name ∷ names) = list_any (bytes_eq name) names || has_twice names

-- the family meets itself: two of its exact names are equal, or one is that of a piece
abbrev pub meets_itself : Names → Bool
meets_itself names = has_twice (exact_names names) || list_any (is_piece_of names.components) (exact_names names)

-- the archive, or the name under which it is written anew, is in the family
abbrev pub meets_archive : Names → Option Text → Bool
meets_archive names archive =
    option_map_or (λ name. in_family names name || in_family names (name ++ codes ".new")) archive false

-- the last component of a path has more bytes than these
abbrev pub is_longer : ℕ → Text → Bool
is_longer most name = nat_lt most (length (after_last (λ b. b == 47) name))

-- a file can't have one of the names, or a component has no room for the names beside it
abbrev pub is_long : Names → Bool
is_long names = list_any (is_longer 255) (exact_names names) || list_any (is_longer 225) names.components

-- a name stands in both families
pub record Meet (a b : Names) : Type 0 where
  pub name : Text
  pub in_first : IsTrue (in_family a name)
  pub in_second : IsTrue (in_family b name)
