-- Parts of a folder: which names are whose, and what they are together.
use Rattle.std.specs.Prelude.{◌≡◌, Bool, false, not, ◌||◌, List, [], ◌∷◌, ◌++◌, map, Option, Some, None, ⊤, option_map, option_and_then, bytes_eq, if◌then◌else◌, IsTrue, All}
use Rattle.std.specs.Coded.{×_prop, Π_prop, →_prop, Unit-prop, Coded-set, coded_bool}
use Rattle.folder_base.specs.Disk.{Name, Names, Spot, still, lost, Spots, Older, Disk, Image, begins, mark, earlier}

-- A part's names: its stem, and what begins with the stem and a point.
abbrev pub is_part : Name → Name → Bool
is_part stem name = bytes_eq stem name || begins (stem ++ 46 ∷ []) name

-- The name belongs to one of the parts with these stems.
abbrev pub is_in_some : List Name → Name → Bool
is_in_some [] name = false
is_in_some (stem ∷ stems) name = is_part stem name || is_in_some stems name

-- Each stem differs from those behind it, and neither begins with the other and a point.
abbrev pub AreApart : List Name → Type 0
AreApart [] = ⊤
AreApart (stem ∷ stems) = All (λ other. (is_part stem other ≡ false) × (is_part other stem ≡ false)) stems × AreApart stems

-- It has one proof at most that stems are apart.
pub AreApart-prop : (stems : List Name) → IsProp (AreApart stems)
AreApart-prop [] = Unit-prop
AreApart-prop (stem ∷ stems) = ×_prop (Π_prop (λ k. Π_prop (λ d. →_prop (×_prop (Coded-set coded_bool _ _) (Coded-set coded_bool _ _))))) (AreApart-prop stems)

-- A file that goes by a name of another part is told as it is now.
abbrev pub own_spot : (Name → Bool) → Names → Spot → Option Spot
own_spot mine live (still name) = if mine name then Some (still name) else option_map lost (live name)
own_spot mine live (lost file) = Some (lost file)

-- earlier names as those that are `mine` tell of them: the other names did not stand
abbrev pub own_spots : (Name → Bool) → Names → Spots → Spots
own_spots mine live spots = λ name. if mine name then option_and_then (own_spot mine live) (spots name) else None

-- One of these names is `mine`.
abbrev pub touches : (Name → Bool) → List Name → Bool
touches mine [] = false
touches mine (name ∷ names) = mine name || touches mine names

-- the changes that touch these names
abbrev pub own_back : (Name → Bool) → Names → List Older → List Older
own_back mine live [] = []
own_back mine live (older ∷ back) =
    if touches mine older.touched
    then record { touched = older.touched; names = own_spots mine live older.names } ∷ own_back mine live back
    else own_back mine live back

-- some of the names alone
abbrev pub within : (Name → Bool) → Disk → Disk
within mine disk = record {
  live = λ name. if mine name then disk.live name else None;
  back = own_back mine disk.live disk.back;
  loose = map (own_spots mine disk.live) disk.loose;
  mixed = map (own_spots mine disk.live) disk.mixed;
}

-- the part with this stem alone
abbrev pub inside : Name → Disk → Disk
inside stem = within (is_part stem)

-- the names of none of the parts with these stems
abbrev pub outside : List Name → Disk → Disk
outside stems = within (λ name. not (is_in_some stems name))

-- one map for these names and one for the others
abbrev pub join : {V : Type 0} → (Name → Bool) → (Name → Option V) → (Name → Option V) → Name → Option V
join mine a b = λ name. if mine name then a name else b name

-- one map for the names that are `mine`, with each of these for the others
abbrev pub join_each : (Name → Bool) → Spots → List Spots → List Spots
join_each mine a [] = []
join_each mine a (b ∷ bs) = join mine a b ∷ join_each mine a bs

-- each of the first for the names that are `mine`, with each of the second for the others
abbrev pub join_all : (Name → Bool) → List Spots → List Spots → List Spots
join_all mine [] bs = []
join_all mine (a ∷ others) bs = join_each mine a bs ++ join_all mine others bs

-- all names that a crash may leave
abbrev pub all_spots : Disk → List Spots
all_spots disk = mark disk.live ∷ (earlier disk.back ++ (disk.loose ++ disk.mixed))

-- the names before the first of these changes
abbrev pub oldest : Spots → List Older → Spots
oldest spots [] = spots
oldest spots (older ∷ back) = oldest older.names back

-- A part and the rest, each as it is or as it was before some unsettled change of its own. In call order the part's changes
-- stand behind those of the rest.
module _ (mine : Name → Bool) (part rest : Disk) where
  -- earlier names as the part alone tells of them
  abbrev pub of_part : Spots → Spots
  of_part = own_spots mine part.live

  -- earlier names as the rest alone tells of them
  abbrev pub of_rest : Spots → Spots
  of_rest = own_spots (λ name. not (mine name)) rest.live

  -- a change of the part, before which all changes of the rest hold
  abbrev pub behind_rest : Older → Older
  behind_rest older = record { touched = older.touched; names = join mine (of_part older.names) (of_rest (mark rest.live)) }

  -- a change of the rest, before which none of the part's changes holds
  abbrev pub before_part : Older → Older
  before_part older =
      record { touched = older.touched; names = join mine (of_part (oldest (mark part.live) part.back)) (of_rest older.names) }

  -- the disk of the part and the rest together
  abbrev pub joined : Disk
  joined = record {
    live = join mine part.live rest.live;
    back = map behind_rest part.back ++ map before_part rest.back;
    loose = join_all mine (map of_part (all_spots part)) (map of_rest (mark rest.live ∷ rest.loose));
    mixed = join_all mine (map of_part (all_spots part)) (map of_rest (earlier rest.back ++ rest.mixed));
  }

-- the rest with its parts, one after another
abbrev pub together : Disk → List (Name × Disk) → Disk
together rest [] = rest
together rest (part ∷ parts) = together (joined (is_part part.0) part.1 rest) parts

-- The image agrees with this one at these names.
abbrev pub Agree : (Name → Bool) → Image → Image → Type 0
Agree mine image other = (name : Name) → IsTrue (mine name) → image name ≡ other name
