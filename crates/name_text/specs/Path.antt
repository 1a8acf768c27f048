-- What a path of a file, from its folder on, may not be.
use Rattle.std.specs.Prelude.{ℕ, ◌+◌, List, [], ◌∷◌, length, ◌||◌, ◌==◌, nat_lt, nat_eq, if◌then◌else◌, Option, Some, None, bytes_eq, codes}
use Rattle.std.specs.Char.{is_ascii_control}
use Rattle.std.specs.List.{list_any, starts_with, slice_split}
use Rattle.name_text.specs.declared.path.PathFault.{PathFault}
use Rattle.name_text.specs.declared.path.PathFault.TheVariants.{Empty, Absolute, DotDot, Long, Control}

-- the fault of a component of a path, counted from 0
abbrev pub component_fault : ℕ → List ℕ → Option PathFault
component_fault place name =
    if length name == 0 then Some Empty
    else if bytes_eq name (codes ".") || bytes_eq name (codes "..") then Some DotDot
    else if nat_lt 255 (length name) then Some (Long place)
    else None

-- an answer, or another one where there is none
abbrev pub or_else : Option PathFault → Option PathFault → Option PathFault
or_else (Some fault) other = Some fault
or_else None other = other

-- the first fault of components, the first of which is counted so
abbrev pub first_fault : ℕ → List (List ℕ) → Option PathFault
first_fault place [] = None
first_fault place (name ∷ names) = or_else (component_fault place name) (first_fault (place + 1) names)

-- the first fault of a path: a control character, a slash in front, or that of a component between slashes
abbrev pub path_fault : List ℕ → Option PathFault
path_fault path =
    if list_any is_ascii_control path then Some Control
    else if starts_with nat_eq path (codes "/") then Some Absolute
    else first_fault 0 (slice_split (λ b. b == 47) path)
