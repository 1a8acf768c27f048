-- The tokens that a tree is printed as, and that the tree is their value.
use Rattle.std.proofs.Common.{◌≡◌, ℕ, ◌+◌, List, [], ◌∷◌, ◌++◌, length, take, refl, sym, ap, subst, ◌∙◌, append_assoc, Bool, true, false}
use Rattle.std.specs.Prelude.{Some, slice_get}
use Rattle.std.proofs.lemmas.List.{take_at, append-nil}
use Rattle.text_base.specs.NumberText.{text_of}
use Rattle.info_tree.specs.Tree.{Tree, null, truth, number, text, list, mapping, Trees, no_trees, a_tree, Pairs, no_pairs, a_pair, trees_of, tree_list, pairs_of}
use Rattle.info_tree.specs.Pairs.{put, pair_list, HaveDistinctKeys}
use Rattle.info_tree.specs.Token.{Word, null_word, true_word, false_word, Token, begin_list, end_list, begin_map, end_map, comma, colon, word, numeral, string}
use Rattle.info_tree.specs.Json.{put_all, IsValue, a_word, a_number, a_string, a_list, a_map, AreItems, no_items, items, AreMoreItems, no_more_items, more_items, AreMembers, no_members, members, AreMoreMembers, no_more_members, more_members}
use Rattle.info_tree.specs.ReadsAgain.{IsSound, AreSound, HaveSound}
use Rattle.info_tree.proofs.Lexing.{value_from}
use Rattle.info_tree.proofs.Parts.{next_item, next_pair}
use Rattle.info_tree.proofs.StringPieces.{inside_pieces, text_again}

abbrev pub truth_word : Bool → Word
truth_word true = true_word
truth_word false = false_word

-- the tokens of a tree before others
abbrev mutual
  pub tokens : Bool → Tree → List Token → List Token
  tokens a null more = word null_word ∷ more
  tokens a (truth b) more = word (truth_word b) ∷ more
  tokens a (number n) more = numeral (text_of n) ∷ more
  tokens a (text s) more = string (inside_pieces a s) ∷ more
  tokens a (list ts) more = begin_list ∷ item_tokens a ts (end_list ∷ more)
  tokens a (mapping ps) more = begin_map ∷ member_tokens a ps (end_map ∷ more)

  pub item_tokens : Bool → Trees → List Token → List Token
  item_tokens a no_trees more = more
  item_tokens a (a_tree t ts) more = tokens a t (more_item_tokens a ts more)

  pub more_item_tokens : Bool → Trees → List Token → List Token
  more_item_tokens a no_trees more = more
  more_item_tokens a (a_tree t ts) more = comma ∷ tokens a t (more_item_tokens a ts more)

  pub member_tokens : Bool → Pairs → List Token → List Token
  member_tokens a no_pairs more = more
  member_tokens a (a_pair k t ps) more = string (inside_pieces a k) ∷ colon ∷ tokens a t (more_member_tokens a ps more)

  pub more_member_tokens : Bool → Pairs → List Token → List Token
  more_member_tokens a no_pairs more = more
  more_member_tokens a (a_pair k t ps) more = comma ∷ string (inside_pieces a k) ∷ colon ∷ tokens a t (more_member_tokens a ps more)

-- ---- the tokens of a tree stand before the others as they are
-- a tree's tokens, and then those of the entries behind it
behind_tree : (whole one : List Token) (rest all more : List Token) → whole ≡ one ++ all → all ≡ rest ++ more → whole ≡ (one ++ rest) ++ more
behind_tree whole one rest all more e f = e ∙ ap (λ l. one ++ l) f ∙ sym (append_assoc one rest more)

mutual
  tokens-append : (a : Bool) (t : Tree) (more : List Token) → tokens a t more ≡ tokens a t [] ++ more
  tokens-append a null more = refl
  tokens-append a (truth b) more = refl
  tokens-append a (number n) more = refl
  tokens-append a (text s) more = refl
  tokens-append a (list ts) more =
      ap (λ l. begin_list ∷ l)
      (item_tokens-append a ts (end_list ∷ more) ∙ sym (append_assoc (item_tokens a ts []) (end_list ∷ []) more)
      ∙ ap (λ l. l ++ more) (sym (item_tokens-append a ts (end_list ∷ []))))
  tokens-append a (mapping ps) more =
      ap (λ l. begin_map ∷ l)
      (member_tokens-append a ps (end_map ∷ more) ∙ sym (append_assoc (member_tokens a ps []) (end_map ∷ []) more)
      ∙ ap (λ l. l ++ more) (sym (member_tokens-append a ps (end_map ∷ []))))

  item_tokens-append : (a : Bool) (ts : Trees) (more : List Token) → item_tokens a ts more ≡ item_tokens a ts [] ++ more
  item_tokens-append a no_trees more = refl
  item_tokens-append a (a_tree t ts) more =
      behind_tree (tokens a t (more_item_tokens a ts more)) (tokens a t []) (more_item_tokens a ts []) (more_item_tokens a ts more) more
      (tokens-append a t (more_item_tokens a ts more)) (more_item_tokens-append a ts more)
      ∙ ap (λ l. l ++ more) (sym (tokens-append a t (more_item_tokens a ts [])))

  more_item_tokens-append : (a : Bool) (ts : Trees) (more : List Token) → more_item_tokens a ts more ≡ more_item_tokens a ts [] ++ more
  more_item_tokens-append a no_trees more = refl
  more_item_tokens-append a (a_tree t ts) more =
      ap (λ l. comma ∷ l)
      (behind_tree (tokens a t (more_item_tokens a ts more)) (tokens a t []) (more_item_tokens a ts []) (more_item_tokens a ts more) more
      (tokens-append a t (more_item_tokens a ts more)) (more_item_tokens-append a ts more)
      ∙ ap (λ l. l ++ more) (sym (tokens-append a t (more_item_tokens a ts []))))

  member_tokens-append : (a : Bool) (ps : Pairs) (more : List Token) → member_tokens a ps more ≡ member_tokens a ps [] ++ more
  member_tokens-append a no_pairs more = refl
  member_tokens-append a (a_pair k t ps) more =
      ap (λ l. string (inside_pieces a k) ∷ colon ∷ l)
      (behind_tree (tokens a t (more_member_tokens a ps more)) (tokens a t []) (more_member_tokens a ps []) (more_member_tokens a ps more) more
      (tokens-append a t (more_member_tokens a ps more)) (more_member_tokens-append a ps more)
      ∙ ap (λ l. l ++ more) (sym (tokens-append a t (more_member_tokens a ps []))))

  more_member_tokens-append : (a : Bool) (ps : Pairs) (more : List Token) → more_member_tokens a ps more ≡ more_member_tokens a ps [] ++ more
  more_member_tokens-append a no_pairs more = refl
  more_member_tokens-append a (a_pair k t ps) more =
      ap (λ l. comma ∷ string (inside_pieces a k) ∷ colon ∷ l)
      (behind_tree (tokens a t (more_member_tokens a ps more)) (tokens a t []) (more_member_tokens a ps []) (more_member_tokens a ps more) more
      (tokens-append a t (more_member_tokens a ps more)) (more_member_tokens-append a ps more)
      ∙ ap (λ l. l ++ more) (sym (tokens-append a t (more_member_tokens a ps []))))

-- ---- pairs whose keys differ are put as they stand
length-seam : (xs : List (List ℕ × Tree)) (p : List ℕ × Tree) (ps : List (List ℕ × Tree)) → slice_get (xs ++ p ∷ ps) (length xs) ≡ Some p
length-seam [] p ps = refl
length-seam (x ∷ xs) p ps = length-seam xs p ps

take-seam : (xs : List (List ℕ × Tree)) (p : List ℕ × Tree) (ps : List (List ℕ × Tree)) → take (length xs + 1) (xs ++ p ∷ ps) ≡ xs ++ p ∷ []
take-seam xs p ps = sym (next_item (xs ++ p ∷ ps) (length xs) p (length-seam xs p ps)) ∙ ap (λ l. l ++ p ∷ []) (take_at xs (p ∷ ps) (length xs) refl)

all_put : (xs ps : List (List ℕ × Tree)) → HaveDistinctKeys (xs ++ ps) → put_all xs ps ≡ xs ++ ps
all_put xs [] d = sym (append-nil xs)
all_put xs (p ∷ ps) d =
    let last : put xs p.0 p.1 ≡ xs ++ p ∷ [] =
    ap (λ l. put l p.0 p.1) (sym (take_at xs (p ∷ ps) (length xs) refl)) ∙ next_pair (xs ++ p ∷ ps) (length xs) p d (length-seam xs p ps) ∙ take-seam xs p ps in
    let whole : (xs ++ p ∷ []) ++ ps ≡ xs ++ p ∷ ps = append_assoc xs (p ∷ []) ps in
    ap (λ l. put_all l ps) last ∙ all_put (xs ++ p ∷ []) ps (subst (λ (l : List (List ℕ × Tree)). HaveDistinctKeys l) (sym whole) d) ∙ whole

trees_again : (ts : Trees) → trees_of (tree_list ts) ≡ ts
trees_again no_trees = refl
trees_again (a_tree t ts) = ap (λ l. a_tree t l) (trees_again ts)

pairs_again : (ps : Pairs) → pairs_of (pair_list ps) ≡ ps
pairs_again no_pairs = refl
pairs_again (a_pair k t ps) = ap (λ l. a_pair k t l) (pairs_again ps)

-- ---- the tokens are the tree's value
mutual
  pub are_value : (a : Bool) (t : Tree) → IsSound t → IsValue (tokens a t []) t
  are_value a null s = a_word {w = null_word}
  are_value a (truth true) s = a_word {w = true_word}
  are_value a (truth false) s = a_word {w = false_word}
  are_value a (number n) s = subst (λ m. IsValue (numeral (text_of n) ∷ []) (number m)) (value_from (text_of n) n s.1) a_number
  are_value a (text t) u = subst (λ (x : List ℕ). IsValue (string (inside_pieces a t) ∷ []) (text x)) (text_again a t u) a_string
  are_value a (list ts) s =
      a_list (item_tokens a ts []) (tree_list ts) (ap (λ l. begin_list ∷ l) (item_tokens-append a ts (end_list ∷ []))) (ap list (sym (trees_again ts))) (are_items a ts s)
  are_value a (mapping ps) s =
      a_map (member_tokens a ps []) (pair_list ps) (ap (λ l. begin_map ∷ l) (member_tokens-append a ps (end_map ∷ [])))
      (ap mapping (sym (pairs_again ps) ∙ ap pairs_of (sym (all_put [] (pair_list ps) s.0)))) (are_members a ps s.1)

  are_items : (a : Bool) (ts : Trees) → AreSound ts → AreItems (item_tokens a ts []) (tree_list ts)
  are_items a no_trees s = no_items
  are_items a (a_tree t ts) s =
      items (tokens a t []) (more_item_tokens a ts []) (tokens-append a t (more_item_tokens a ts [])) (are_value a t s.0) (are_more_items a ts s.1)

  are_more_items : (a : Bool) (ts : Trees) → AreSound ts → AreMoreItems (more_item_tokens a ts []) (tree_list ts)
  are_more_items a no_trees s = no_more_items
  are_more_items a (a_tree t ts) s =
      more_items (tokens a t []) (more_item_tokens a ts []) (ap (λ l. comma ∷ l) (tokens-append a t (more_item_tokens a ts []))) (are_value a t s.0) (are_more_items a ts s.1)

  are_members : (a : Bool) (ps : Pairs) → HaveSound ps → AreMembers (member_tokens a ps []) (pair_list ps)
  are_members a no_pairs s = no_members
  are_members a (a_pair k t ps) s =
      subst (λ (x : List ℕ). AreMembers (member_tokens a (a_pair k t ps) []) ((x, t) ∷ pair_list ps)) (text_again a k s.0)
      (members (inside_pieces a k) (tokens a t []) (more_member_tokens a ps [])
      (ap (λ l. string (inside_pieces a k) ∷ colon ∷ l) (tokens-append a t (more_member_tokens a ps []))) (are_value a t s.1) (are_more_members a ps s.2))

  are_more_members : (a : Bool) (ps : Pairs) → HaveSound ps → AreMoreMembers (more_member_tokens a ps []) (pair_list ps)
  are_more_members a no_pairs s = no_more_members
  are_more_members a (a_pair k t ps) s =
      subst (λ (x : List ℕ). AreMoreMembers (more_member_tokens a (a_pair k t ps) []) ((x, t) ∷ pair_list ps)) (text_again a k s.0)
      (more_members (inside_pieces a k) (tokens a t []) (more_member_tokens a ps [])
      (ap (λ l. comma ∷ string (inside_pieces a k) ∷ colon ∷ l) (tokens-append a t (more_member_tokens a ps []))) (are_value a t s.1) (are_more_members a ps s.2))
