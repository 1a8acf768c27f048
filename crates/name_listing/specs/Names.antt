-- A set of names, and what is asked of it.
use Rattle.std.specs.Prelude.{◌≡◌, ◌⊎◌, ℕ, Bool, true, ◌||◌, List, [], ◌∷◌, ◌++◌, map, nat_eq, bytes_eq}
use Rattle.std.specs.List.{starts_with}
use Rattle.std.specs.String.{string_bytes}
use Rattle.std.specs.BTreeSet.{contains_text}
use Rattle.name_listing.specs.declared.names.Names.{Names}

-- a name, as its bytes
abbrev pub Name : Type 0
Name = List ℕ

-- The set has the name.
abbrev pub has : Names → Name → Bool
has names name = contains_text names.set name

-- It is so of just these names.
abbrev pub Has : (Name → Bool) → Names → Type 0
Has stand names = (name : Name) → has names name ≡ stand name

-- the names of the set, in the order of their bytes
abbrev pub names_of : Names → List Name
names_of names = map (λ key. string_bytes key) names.set.keys

-- The name begins with these bytes.
abbrev pub begins : Name → Name → Bool
begins prefix name = starts_with nat_eq name prefix

-- The name is the stem, or begins with it and a point.
abbrev pub is_part : Name → Name → Bool
is_part stem name = bytes_eq stem name || begins (stem ++ 46 ∷ []) name

-- Some of these names were put in, and all else is as it was.
abbrev pub PutsSome : (Name → Bool) → Names → Names → Type 0
PutsSome share old new = (name : Name) → (has new name ≡ has old name) ⊎ ((share name ≡ true) × (has new name ≡ true))
