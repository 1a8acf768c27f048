-- Items of a list, one after another, and what stands at further keys of those of a slice.
use Rattle.std.proofs.Common.{◌≡◌, ℕ, ◌+◌, ◌<◌, List, [], ◌∷◌, ◌++◌, length, get_or, map, take, ap, sym, ◌∙◌}
use Rattle.std.specs.List.{cons_option}
use Rattle.std.specs.Prelude.{Option, Some, slice_get, filter_map}
use Rattle.std.proofs.lemmas.List.{map-append, map_more}
use Rattle.std.proofs.lemmas.List.Elements.{filter_map-append}
use Rattle.info_tree.specs.Tree.{Tree, list, trees_of}
use Rattle.info_tree.proofs.PairLemmas.{tree_list-trees_of}
use Rattle.info_tree.proofs.Parts.{next_item}
use Rattle.tpl_lang.specs.declared.key.Slice.{Slice}
use Rattle.tpl_lang.specs.declared.key.Key.{Key}
use Rattle.tpl_lang.specs.declared.key.Key.TheVariants.{Slice as Part}
use Rattle.tpl_eval.specs.Path.{list_slice, at_keys}
use Rattle.tpl_eval.specs.Slice.{sliced}
use Rattle.tpl_eval.proofs.SliceLemmas.{map-sliced}

pub seen_more : {A B : Type 0} (f : A → B) (items : List A) (item : A) (ts : List B) (i : ℕ) → map f items ≡ take i ts → slice_get ts i ≡ Some (f item) → map f (items ++ item ∷ []) ≡ take (i + 1) ts
seen_more f items item ts i so_far got = map-append f items (item ∷ []) ∙ ap (λ l. l ++ f item ∷ []) so_far ∙ next_item ts i (f item) got

pub of_slice : {A : Type 0} (f : A → Tree) (further : Tree → Option Tree) (s : Slice) (items : List A) (ts told : List Tree) → map f items ≡ ts → told ≡ filter_map further (map f (sliced s items)) →
    list (trees_of told) ≡ list_slice ts s further
of_slice f further s items ts told seen is =
    ap (λ (l : List Tree). list (trees_of l)) (is ∙ ap (filter_map further) (map-sliced f s items ∙ ap (sliced s) seen))

-- one item more, which may have nothing at the further keys
pub kept_more : {A : Type 0} (f : A → Tree) (further : Tree → Option Tree) (told new : List Tree) (items : List A) (i : ℕ) (item : A) → i < length items → item ≡ get_or items i item →
    told ≡ filter_map further (map f (take i items)) → new ≡ told ++ cons_option (further (f item)) [] → new ≡ filter_map further (map f (take (i + 1) items))
kept_more f further told new items i item less is so_far more =
    let here : map f (take (i + 1) items) ≡ map f (take i items) ++ f item ∷ [] = map_more f items i item less ∙ ap (λ x. map f (take i items) ++ f x ∷ []) (sym is) in
    more ∙ ap (λ l. l ++ cons_option (further (f item)) []) so_far ∙ sym (filter_map-append further (map f (take i items)) (f item ∷ [])) ∙ ap (filter_map further) (sym here)

-- a slice of a list with keys behind it
pub in_list : (s : Slice) (keys : List Key) (ts : List Tree) (t told : Tree) → t ≡ list (trees_of ts) → told ≡ list_slice ts s (at_keys keys) → at_keys (Part s ∷ keys) t ≡ Some told
in_list s keys ts t told is by =
    ap (at_keys (Part s ∷ keys)) is ∙ ap (λ (l : List Tree). Some (list_slice l s (at_keys keys))) (tree_list-trees_of ts) ∙ ap Some (sym by)
