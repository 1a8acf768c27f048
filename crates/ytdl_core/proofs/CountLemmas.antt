-- Information has no more items than bytes.
use Rattle.std.proofs.Common.{◌≡◌, ℕ, suc, ◌+◌, ◌<◌, ◌≤◌, List, [], ◌∷◌, length, Bool, true, false, refl, sym, ◌∙◌, ap, arith, length-append, lit≤}
use Rattle.std.specs.Prelude.{if◌then◌else◌, Result, Ok, Err}
use Rattle.info_tree.specs.Tree.{Tree}
use Rattle.info_tree.specs.Token.{Word, null_word, true_word, false_word, Token, end_list, is_space, after_space, Splits}
use Rattle.info_tree.specs.Json.{word_value, IsValue, a_word, a_number, a_string, a_list, a_map, AreItems, no_items, items, AreMoreItems, no_more_items, more_items}
use Rattle.info_tree.specs.Reading.{IsTextOf}
use Rattle.info_tree.proofs.OneToken.{shorter}
use Rattle.info_tree.proofs.PairLemmas.{tree_list-trees_of}
use Rattle.info_item.specs.Item.{Item}
use Rattle.info_item.specs.Items.{entries_of, items_of, item_of}
use Rattle.info_item.specs.Formats.{each, joined}
use Rattle.info_item.specs.declared.item_fault.ItemFault.{ItemFault}

spaces_by : (space : Bool) (b : ℕ) (bs : List ℕ) → length (after_space bs) ≤ length bs →
    length (if space then after_space bs else b ∷ bs) ≤ length (b ∷ bs)
spaces_by true b bs less = omega (arith, less)
spaces_by false b bs less = omega arith

-- white space in front is dropped
spaces : (bytes : List ℕ) → length (after_space bytes) ≤ length bytes
spaces [] = lit≤ tt
spaces (b ∷ bs) = spaces_by (is_space b) b bs (spaces bs)

-- each token takes a byte
few_tokens : (bytes : List ℕ) (ts : List Token) (rest : List ℕ) → Splits bytes ts rest → length ts ≤ length bytes
few_tokens bytes [] rest split = omega arith
few_tokens bytes (t ∷ ts) rest split =
    omega (arith, few_tokens split.0 ts rest split.2, shorter (after_space bytes) t split.0 split.1, spaces bytes)

-- a value has a token
some_token : (ts : List Token) (t : Tree) → IsValue ts t → 0 < length ts
some_token ts t a_word = omega arith
some_token ts t a_number = omega arith
some_token ts t a_string = omega arith
some_token ts t (a_list inner xs is tree all) = rw is (omega arith)
some_token ts t (a_map inner ps is tree all) = rw is (omega arith)

-- each item behind the first has a comma
few_more : (ts : List Token) (xs : List Tree) → AreMoreItems ts xs → length xs ≤ length ts
few_more ts [] no_more_items = omega arith
few_more ts (x ∷ xs) (more_items v more is value rest) = rw is (omega (arith, length-append v more, few_more more xs rest))

few_items : (ts : List Token) (xs : List Tree) → AreItems ts xs → length xs ≤ length ts
few_items ts [] no_items = omega arith
few_items ts (x ∷ xs) (items v more is value rest) =
    rw is (omega (arith, length-append v more, some_token v x value, few_more more xs rest))

one_word : (w : Word) → length (entries_of (word_value w)) ≡ 1
one_word null_word = refl
one_word true_word = refl
one_word false_word = refl

-- a value has no more entries than tokens
few_entries : (ts : List Token) (t : Tree) → IsValue ts t → length (entries_of t) ≤ length ts
few_entries ts t (a_word {w}) = omega (arith, one_word w)
few_entries ts t a_number = omega arith
few_entries ts t a_string = omega arith
few_entries ts t (a_list inner xs is tree all) =
    rw (is, tree, tree_list-trees_of xs) (omega (arith, length-append inner (end_list ∷ []), few_items inner xs all))
few_entries ts t (a_map inner ps is tree all) = rw (is, tree) (omega arith)

one_longer : (x : Tree) (xs : List Tree) (ys : List Item) (r : Result Item ItemFault) (rs : Result (List Item) ItemFault) →
    ((zs : List Item) → rs ≡ Ok zs → length zs ≡ length xs) → joined r rs ≡ Ok ys → length ys ≡ length (x ∷ xs)
one_longer x xs ys (Err e) rs rest both = cc both
one_longer x xs ys (Ok z) (Err e) rest both = cc both
one_longer x xs ys (Ok z) (Ok zs) rest both =
    let all : z ∷ zs ≡ ys = cc both in
    ap length (sym all) ∙ ap (λ n. suc n) (rest zs refl)

-- the items of a tree are as many as its entries
as_many : (f : ℕ → Tree → Result Item ItemFault) (k : ℕ) (xs : List Tree) (ys : List Item) → each f k xs ≡ Ok ys → length ys ≡ length xs
as_many f k [] ys is = let none : [] ≡ ys = cc is in ap length (sym none)
as_many f k (x ∷ xs) ys is = one_longer x xs ys (f k x) (each f (k + 1) xs) (λ zs same. as_many f (k + 1) xs zs same) is

-- A text has no more than 67,108,864 entries.
pub few_of_text : (bytes : List ℕ) (t : Tree) → IsTextOf bytes t → length (entries_of t) ≤ 67108864
few_of_text bytes t is =
    omega (arith, is.short, few_tokens bytes is.reads.tokens [] is.reads.split, few_entries is.reads.tokens t is.reads.value)

-- A tree has as many items as entries.
pub items_as_entries : (t : Tree) (ys : List Item) → items_of t ≡ Ok ys → length ys ≡ length (entries_of t)
items_as_entries t ys is = as_many item_of 0 (entries_of t) ys is
