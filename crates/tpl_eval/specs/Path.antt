-- What stands at a path of a tree; `None` where it is absent.
use Rattle.std.specs.Prelude.{ℕ, suc, ◌-◌, ◌==◌, length, nat_lt, List, [], ◌∷◌, Option, Some, None, slice_get, filter_map, flat_map, is_some, if◌then◌else◌, ℤ, pos, negsuc}
use Rattle.std.specs.Option.{option_map, option_and_then}
use Rattle.std.specs.Str.{chars}
use Rattle.std.specs.Char.{encode_utf8}
use Rattle.info_tree.specs.Tree.{Tree, null, truth, number, text, list, mapping, trees_of, tree_list, pairs_of}
use Rattle.info_tree.specs.Pairs.{value_at, put, member, pair_list}
use Rattle.info_tree.specs.Scalars.{text_of}
use Rattle.tpl_lang.specs.Paths.{PathView}
use Rattle.tpl_lang.specs.declared.key.Slice.{Slice}
use Rattle.tpl_lang.specs.declared.key.Key.{Key}
use Rattle.tpl_lang.specs.declared.key.Key.TheVariants.{Int, Slice as Part, Word, Braces}
use Rattle.info_item.specs.View.{is_mapping}
use Rattle.tpl_eval.specs.Slice.{sliced}

-- the place among n that a number names, counted from the end where it is negative
abbrev pub place_of : ℕ → ℤ → Option ℕ
place_of n (pos i) = Some i
place_of n (negsuc i) = if nat_lt i n then Some (n - suc i) else None

-- the element at a place
abbrev pub element : {A : Type 0} → List A → ℤ → Option A
element xs place = option_and_then (slice_get xs) (place_of (length xs) place)

-- the text of characters
abbrev pub told : List ℕ → Tree
told cs = text (flat_map encode_utf8 cs)

-- at an int: a character, an item, or the value under its spelling
abbrev pub at_int : Tree → List ℕ → ℤ → Option Tree
at_int null spelling place = None
at_int (truth b) spelling place = None
at_int (number n) spelling place = None
at_int (text s) spelling place = option_map (λ c. text (encode_utf8 c)) (element (chars s) place)
at_int (list ts) spelling place = element (tree_list ts) place
at_int (mapping ps) spelling place = value_at (pair_list ps) spelling

-- a pair put where there is a value
abbrev pub put_found : List (List ℕ × Tree) → List ℕ → Option Tree → List (List ℕ × Tree)
put_found ps word None = ps
put_found ps word (Some t) = put ps word t

-- the pair of a word put last, where it has a value and was not named before
abbrev pub pick : (List ℕ → Option Tree) → List (List ℕ × Tree) → List ℕ → List (List ℕ × Tree)
pick value ps word = if is_some (value_at ps word) then ps else put_found ps word (value word)

-- the same for one word after another
abbrev pub picked : (List ℕ → Option Tree) → List (List ℕ × Tree) → List (List ℕ) → List (List ℕ × Tree)
picked value ps [] = ps
picked value ps (word ∷ words) = picked value (pick value ps word) words

-- in braces: of a map the map of the pairs that are there
abbrev pub at_braces : Tree → List (List ℕ) → Option Tree
at_braces t words = if is_mapping t then Some (mapping (pairs_of (picked (member t) [] words))) else None

-- a slice of a list: what stands at the further keys of its items, where something does
abbrev pub list_slice : List Tree → Slice → (Tree → Option Tree) → Tree
list_slice ts s further = list (trees_of (filter_map further (sliced s ts)))

-- at one key, but for a slice of a list
abbrev pub at_key : Key → Tree → Option Tree
at_key (Int spelling place) t = at_int t spelling place
at_key (Word word) t = member t word
at_key (Braces words) t = at_braces t words
at_key (Part s) t = option_map (λ cs. told (sliced s (chars cs))) (text_of t)

-- at keys, one after another; behind a slice of a list they are looked for in each of its items
abbrev pub at_keys : List Key → Tree → Option Tree
at_keys [] t = Some t
at_keys (Int spelling place ∷ keys) t = option_and_then (at_keys keys) (at_key (Int spelling place) t)
at_keys (Word word ∷ keys) t = option_and_then (at_keys keys) (at_key (Word word) t)
at_keys (Braces words ∷ keys) t = option_and_then (at_keys keys) (at_key (Braces words) t)
at_keys (Part s ∷ keys) (list ts) = Some (list_slice (tree_list ts) s (at_keys keys))
at_keys (Part s ∷ keys) t = option_and_then (at_keys keys) (at_key (Part s) t)

-- at a path: its word, or the whole where that is empty, and then its keys
abbrev pub at_path : Tree → PathView → Option Tree
at_path t path = option_and_then (at_keys path.keys) (if length path.word == 0 then Some t else member t path.word)
