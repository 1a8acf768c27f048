-- The formats of an item.
use Rattle.std.specs.Prelude.{◌≡◌, ℕ, ◌+◌, List, [], ◌∷◌, ◌++◌, take, codes, Bool, true, false, not, ◌||◌, if◌then◌else◌, Option, Some, None, Result, Ok, Err, is_some}
use Rattle.std.specs.Option.{option_and_then}
use Rattle.std.specs.List.{list_any}
use Rattle.std.specs.Str.{bytes_eq}
use Rattle.info_tree.specs.Tree.{Tree, null, truth, number, text, list, mapping, no_trees, a_tree, tree_list}
use Rattle.info_tree.specs.Pairs.{member}
use Rattle.info_item.specs.Item.{Format}
use Rattle.info_item.specs.Fields.{id_of, text_at}
use Rattle.info_item.specs.declared.item_fault.ItemFault.{ItemFault}
use Rattle.info_item.specs.declared.item_fault.ItemFault.TheVariants.{NotItem, NoId, NoFormats, FormatId, OutOfMemory}

-- the first value before the rest, or the first fault
abbrev pub joined : {B E : Type 0} → Result B E → Result (List B) E → Result (List B) E
joined (Err e) others = Err e
joined (Ok y) (Err e) = Err e
joined (Ok y) (Ok ys) = Ok (y ∷ ys)

-- the values of all entries, numbered from k on, or the fault of the first faulty one
abbrev pub each : {A B E : Type 0} → (ℕ → A → Result B E) → ℕ → List A → Result (List B) E
each f k [] = Ok []
each f k (x ∷ xs) = joined (f k x) (each f (k + 1) xs)

-- The fault is that of the outcome. Want of memory may come at any time.
abbrev pub IsFaultOf : {B : Type 0} → Result B ItemFault → ItemFault → Type 0
IsFaultOf outcome (NotItem k) = outcome ≡ Err (NotItem k)
IsFaultOf outcome (NoId k) = outcome ≡ Err (NoId k)
IsFaultOf outcome (NoFormats k) = outcome ≡ Err (NoFormats k)
IsFaultOf outcome (FormatId k j) = outcome ≡ Err (FormatId k j)
IsFaultOf outcome OutOfMemory = Unit {0}

-- where an item's formats stand: in a list, in the item itself, or nowhere
pub data Place : Type 0 where
  listed : List Tree → Place
  itself : Place
  nowhere : Place

-- whether a tree is a list
abbrev pub is_list : Option Tree → Bool
is_list None = false
is_list (Some null) = false
is_list (Some (truth b)) = false
is_list (Some (number n)) = false
is_list (Some (text s)) = false
is_list (Some (list ts)) = true
is_list (Some (mapping ps)) = false

-- an item can be its own format where it has a text `url` or a list `fragments`
abbrev pub serves_itself : Tree → Bool
serves_itself tree = is_some (text_at tree (codes "url")) || is_list (member tree (codes "fragments"))

-- the item itself, where it can be its own format
abbrev pub itself_if : Bool → Place
itself_if true = itself
itself_if false = nowhere

-- The formats are the list `formats`; where that is absent, null or empty, the item itself if it can be its own.
abbrev pub place_by : Option Tree → Place → Place
place_by None own = own
place_by (Some null) own = own
place_by (Some (truth b)) own = nowhere
place_by (Some (number n)) own = nowhere
place_by (Some (text s)) own = nowhere
place_by (Some (list no_trees)) own = own
place_by (Some (list (a_tree t ts))) own = listed (t ∷ tree_list ts)
place_by (Some (mapping ps)) own = nowhere

-- where an item's formats stand
abbrev pub place_of : Tree → Place
place_of tree = place_by (member tree (codes "formats")) (itself_if (serves_itself tree))

-- the id under the key `format_id`
abbrev pub format_id_of : Tree → Option (List ℕ)
format_id_of tree = option_and_then id_of (member tree (codes "format_id"))

-- whether a tree has this `format_id`
abbrev pub has_id : List ℕ → Option (List ℕ) → Bool
has_id id None = false
has_id id (Some other) = bytes_eq id other

-- the entry with this id, where none of the entries before it has that id
abbrev pub format_by : ℕ → List Tree → ℕ → Tree → Option (List ℕ) → Result Format ItemFault
format_by k trees j tree None = Err (FormatId k j)
format_by k trees j tree (Some id) =
    if list_any (λ t. has_id id (format_id_of t)) (take j trees) then Err (FormatId k j) else Ok (record { tree = tree; id = id })

-- the format that entry j of item k's list is, or its fault
abbrev pub format_of : ℕ → List Tree → ℕ → Tree → Result Format ItemFault
format_of k trees j tree = format_by k trees j tree (format_id_of tree)

-- the id under `format_id`, and `0` where that is absent
abbrev pub own_id_by : Option Tree → Option (List ℕ)
own_id_by None = Some (codes "0")
own_id_by (Some t) = id_of t

-- the id of an item as its own format
abbrev pub own_id : Tree → Option (List ℕ)
own_id tree = own_id_by (member tree (codes "format_id"))

-- an item as its only format
abbrev pub own_format : ℕ → Tree → Option (List ℕ) → Result (List Format) ItemFault
own_format k tree None = Err (FormatId k 0)
own_format k tree (Some id) = Ok (record { tree = tree; id = id } ∷ [])

-- the formats of a list that is not empty
abbrev pub list_of : ℕ → List Tree → Result (List Format) ItemFault
list_of k trees = each (format_of k trees) 0 trees

-- the formats of a place, or the first fault there
abbrev pub formats_at : ℕ → Tree → Place → Result (List Format) ItemFault
formats_at k tree (listed trees) = list_of k trees
formats_at k tree itself = own_format k tree (own_id tree)
formats_at k tree nowhere = Err (NoFormats k)

-- the formats of item k, or its first fault there
abbrev pub formats_of : ℕ → Tree → Result (List Format) ItemFault
formats_of k tree = formats_at k tree (place_of tree)

-- an id put among others: it goes last where it is new
abbrev pub PutsId : List (List ℕ) → List (List ℕ) → List ℕ → Bool → Type 0
PutsId old new id is_new = (is_new ≡ not (list_any (bytes_eq id) old)) × (is_new ≡ true → new ≡ old ++ id ∷ [])
