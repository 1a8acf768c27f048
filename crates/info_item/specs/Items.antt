-- The items of an information file, or the fault of the first faulty item.
use Rattle.std.specs.Prelude.{ℕ, List, [], ◌∷◌, codes, if◌then◌else◌, Option, Some, None, Result, Ok, Err}
use Rattle.std.specs.Option.{option_and_then}
use Rattle.info_tree.specs.Tree.{Tree, null, truth, number, text, list, mapping, tree_list}
use Rattle.info_tree.specs.Pairs.{member}
use Rattle.info_item.specs.Item.{Item, Format}
use Rattle.info_item.specs.Fields.{id_of, has_controls, line_of}
use Rattle.info_item.specs.Formats.{each, formats_of}
use Rattle.info_item.specs.declared.item_fault.ItemFault.{ItemFault}
use Rattle.info_item.specs.declared.item_fault.ItemFault.TheVariants.{NotItem, NoId}

-- an id without control characters
abbrev pub without_controls : Option (List ℕ) → Option (List ℕ)
without_controls None = None
without_controls (Some id) = if has_controls id then None else Some id

-- the id of an item
abbrev pub item_id_of : Tree → Option (List ℕ)
item_id_of tree = without_controls (option_and_then id_of (member tree (codes "id")))

-- item k with these formats, or their fault
abbrev pub item_by_formats : Tree → List ℕ → Result (List Format) ItemFault → Result Item ItemFault
item_by_formats tree id (Err fault) = Err fault
item_by_formats tree id (Ok formats) = Ok (record { tree = tree; id = id; line = line_of tree id; formats = formats })

-- item k with this id, or the fault of its formats
abbrev pub item_by_id : ℕ → Tree → Option (List ℕ) → Result Item ItemFault
item_by_id k tree None = Err (NoId k)
item_by_id k tree (Some id) = item_by_formats tree id (formats_of k tree)

-- the item that entry k is, or its first fault: it is a map, it has an id, it has formats, and each of these has an id of its own
abbrev pub item_of : ℕ → Tree → Result Item ItemFault
item_of k null = Err (NotItem k)
item_of k (truth b) = Err (NotItem k)
item_of k (number n) = Err (NotItem k)
item_of k (text s) = Err (NotItem k)
item_of k (list ts) = Err (NotItem k)
item_of k (mapping ps) = item_by_id k (mapping ps) (item_id_of (mapping ps))

-- the entries of the top value: those of a list, or else the value as the only one
abbrev pub entries_of : Tree → List Tree
entries_of null = null ∷ []
entries_of (truth b) = truth b ∷ []
entries_of (number n) = number n ∷ []
entries_of (text s) = text s ∷ []
entries_of (list ts) = tree_list ts
entries_of (mapping ps) = mapping ps ∷ []

-- the items of these entries, or the fault of the first faulty one
abbrev pub list_of : List Tree → Result (List Item) ItemFault
list_of entries = each item_of 0 entries

-- the items of a tree
abbrev pub items_of : Tree → Result (List Item) ItemFault
items_of tree = list_of (entries_of tree)
