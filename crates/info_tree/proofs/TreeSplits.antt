-- The text that is printed for a tree splits into the tree's tokens.
use Rattle.std.proofs.Common.{◌≡◌, ℕ, ◌<◌, ◌≤◌, List, [], ◌∷◌, ◌++◌, length, refl, sym, ap, subst, ◌∙◌, append_assoc, arith, Bool, true, false}
use Rattle.std.specs.Prelude.{codes}
use Rattle.std.specs.Str.{IsUtf8}
use Rattle.std.proofs.lemmas.Bool.Decides.{nat_tests}
use Rattle.text_base.specs.Number.{Number}
use Rattle.text_base.specs.NumberText.{text_of}
use Rattle.text_base.specs.Spelling.{number_length}
use Rattle.info_tree.specs.Tree.{Tree, null, truth, number, text, list, mapping, Trees, no_trees, a_tree, Pairs, no_pairs, a_pair}
use Rattle.info_tree.specs.Token.{Token, end_list, end_map, comma, colon, word, numeral, string, token_bytes, BeginsWith, is_space, after_space, Splits}
use Rattle.info_tree.specs.Printed.{printed, items, members, quoted, deeper, first_line, comma_text}
use Rattle.info_tree.specs.ReadsAgain.{IsSpelled, IsSound, AreSound, HaveSound}
use Rattle.info_tree.specs.declared.style.Style.{Style}
use Rattle.info_tree.proofs.Numerals.{number_head}
use Rattle.info_tree.proofs.NumberEnds.{is_number_byte, EndsNumber, number_length-append, number_text-some}
use Rattle.info_tree.proofs.StringPieces.{inside_pieces, inside_spells}
use Rattle.info_tree.proofs.TreeTokens.{truth_word, tokens, item_tokens, more_item_tokens, member_tokens, more_member_tokens}

-- ---- white space
abbrev pub AreSpaces : List ℕ → Type 0
AreSpaces [] = Unit {0}
AreSpaces (b ∷ bs) = (is_space b ≡ true) × AreSpaces bs

past_spaces : (line bytes : List ℕ) → AreSpaces line → after_space (line ++ bytes) ≡ after_space bytes
past_spaces [] bytes h = refl
past_spaces (b ∷ line) bytes h = rw h.0 (past_spaces line bytes h.1)

-- texts that differ in the white space at their front split alike
splits_alike : (a b : List ℕ) (ts : List Token) (r : List ℕ) → after_space b ≡ after_space a → Splits a ts r → Splits b ts r
splits_alike a b [] r e s = s ∙ sym e
splits_alike a b (t ∷ ts) r e (after, begins, s) = (after, subst (λ (l : List ℕ). BeginsWith l t after) (sym e) begins, s)

behind_spaces : (line bytes : List ℕ) (ts : List Token) (r : List ℕ) → AreSpaces line → Splits bytes ts r → Splits (line ++ bytes) ts r
behind_spaces line bytes ts r h s = splits_alike bytes (line ++ bytes) ts r (past_spaces line bytes h) s

space_ends : (b : ℕ) → is_space b ≡ true → is_number_byte b ≡ false
space_ends b h = grind (arith, nat_tests)

-- a line break and an indent end a number, where what follows does
spaces_end : (line bytes : List ℕ) → AreSpaces line → EndsNumber bytes → EndsNumber (line ++ bytes)
spaces_end [] bytes h e = e
spaces_end (b ∷ line) bytes h e = space_ends b h.0

spaces-append : (xs ys : List ℕ) → AreSpaces xs → AreSpaces ys → AreSpaces (xs ++ ys)
spaces-append [] ys f g = g
spaces-append (x ∷ xs) ys f g = (f.0, spaces-append xs ys f.1 g)

pub deeper_spaces : (pretty : Bool) (line : List ℕ) → AreSpaces line → AreSpaces (deeper pretty line)
deeper_spaces true line h = spaces-append line (codes "    ") h (refl, (refl, (refl, (refl, tt))))
deeper_spaces false line h = tt

pub first_spaces : (pretty : Bool) → AreSpaces (first_line pretty)
first_spaces true = (refl, tt)
first_spaces false = tt

-- ---- one token and what follows
number_byte_stays : (b : ℕ) → 45 ≤ b → b ≤ 57 → is_space b ≡ false
number_byte_stays b low high = grind (arith, nat_tests)

number_stays : (s rest : List ℕ) → 0 < length s → number_length s ≡ length s → after_space (s ++ rest) ≡ s ++ rest
number_stays [] rest some e = absurd (omega (arith, some))
number_stays (b ∷ s) rest some e =
    let range = number_head b s (omega (arith, e)) in
    let stays : is_space b ≡ false = number_byte_stays b range.0 range.1 in
    rw stays refl

number_splits : (n : Number) (rest : List ℕ) (ts : List Token) (r : List ℕ) → IsSpelled n → EndsNumber rest → Splits rest ts r → Splits (text_of n ++ rest) (numeral (text_of n) ∷ ts) r
number_splits n rest ts r is ends s =
    let some : 0 < length (text_of n) = number_text-some n is.1 in (
      rest,
      subst (λ (l : List ℕ). BeginsWith l (numeral (text_of n)) rest) (sym (number_stays (text_of n) rest some is.0))
          (record { spelled = refl; is_token = (some, number_length-append rest ends (text_of n) ∙ is.0) }),
      s,
    )

string_splits : (a : Bool) (t rest : List ℕ) (ts : List Token) (r : List ℕ) → IsUtf8 t → Splits rest ts r → Splits (quoted a t ++ rest) (string (inside_pieces a t) ∷ ts) r
string_splits a t rest ts r u s =
    let shows = inside_spells a t u in (
      rest,
      record { spelled = ap (λ l. 34 ∷ ((l ++ 34 ∷ []) ++ rest)) (sym shows.spelled); is_token = shows.are_pieces },
      s,
    )

truth_splits : (b : Bool) (rest : List ℕ) (ts : List Token) (r : List ℕ) → Splits rest ts r → Splits (token_bytes (word (truth_word b)) ++ rest) (word (truth_word b) ∷ ts) r
truth_splits true rest ts r s = (rest, record { spelled = refl; is_token = tt }, s)
truth_splits false rest ts r s = (rest, record { spelled = refl; is_token = tt }, s)

comma_splits : (pretty : Bool) (rest : List ℕ) (ts : List Token) (r : List ℕ) → Splits rest ts r → Splits (comma_text pretty ++ rest) (comma ∷ ts) r
comma_splits true rest ts r s = (rest, record { spelled = refl; is_token = tt }, s)
comma_splits false rest ts r s = (32 ∷ rest, record { spelled = refl; is_token = tt }, splits_alike rest (32 ∷ rest) ts r refl s)

comma_ends : (pretty : Bool) (rest : List ℕ) → EndsNumber (comma_text pretty ++ rest)
comma_ends true rest = refl
comma_ends false rest = refl

-- an entry and the entries behind it, on a line of their own
on_line : (line one others rest : List ℕ) → (line ++ (one ++ others)) ++ rest ≡ line ++ (one ++ (others ++ rest))
on_line line one others rest = append_assoc line (one ++ others) rest ∙ ap (λ l. line ++ l) (append_assoc one others rest)

-- the entries, the last line break, the closing bracket
closing : (entries line rest : List ℕ) (bracket : ℕ) → (entries ++ (line ++ bracket ∷ [])) ++ rest ≡ entries ++ (line ++ bracket ∷ rest)
closing entries line rest bracket = append_assoc entries (line ++ bracket ∷ []) rest ∙ ap (λ l. entries ++ l) (append_assoc line (bracket ∷ []) rest)

-- ---- trees
module _ (style : Style) where
  items_end : (line : List ℕ) (ts : Trees) (rest : List ℕ) → EndsNumber rest → EndsNumber (items style line (comma_text style.pretty) ts ++ rest)
  items_end line no_trees rest e = e
  items_end line (a_tree t ts) rest e =
      subst (λ (l : List ℕ). EndsNumber l) (sym (append_assoc (comma_text style.pretty) (line ++ (printed style line t ++ items style line (comma_text style.pretty) ts)) rest))
      (comma_ends style.pretty ((line ++ (printed style line t ++ items style line (comma_text style.pretty) ts)) ++ rest))

  -- a pair behind its mark
  abbrev pair_bytes : List ℕ → List ℕ → Tree → Pairs → List ℕ
  pair_bytes line k t ps = line ++ (quoted style.ascii k ++ (codes ": " ++ (printed style line t ++ members style line (comma_text style.pretty) ps)))

  members_end : (line : List ℕ) (ps : Pairs) (rest : List ℕ) → EndsNumber rest → EndsNumber (members style line (comma_text style.pretty) ps ++ rest)
  members_end line no_pairs rest e = e
  members_end line (a_pair k t ps) rest e =
      subst (λ (l : List ℕ). EndsNumber l) (sym (append_assoc (comma_text style.pretty) (pair_bytes line k t ps) rest)) (comma_ends style.pretty (pair_bytes line k t ps ++ rest))

  on_pair_line : (line k one others rest : List ℕ) → (line ++ (k ++ (codes ": " ++ (one ++ others)))) ++ rest ≡ line ++ (k ++ (58 ∷ 32 ∷ (one ++ (others ++ rest))))
  on_pair_line line k one others rest =
      on_line line k (codes ": " ++ (one ++ others)) rest ∙ ap (λ l. line ++ (k ++ (58 ∷ 32 ∷ l))) (append_assoc one others rest)

  -- a key, the colon and the value
  pair_splits : (line k value : List ℕ) (ts : List Token) (r : List ℕ) → AreSpaces line → IsUtf8 k → Splits value ts r →
      Splits (line ++ (quoted style.ascii k ++ (58 ∷ 32 ∷ value))) (string (inside_pieces style.ascii k) ∷ colon ∷ ts) r
  pair_splits line k value ts r h u s =
      let parted : Splits (58 ∷ 32 ∷ value) (colon ∷ ts) r = (32 ∷ value, record { spelled = refl; is_token = tt }, splits_alike value (32 ∷ value) ts r refl s) in
      behind_spaces line (quoted style.ascii k ++ (58 ∷ 32 ∷ value)) (string (inside_pieces style.ascii k) ∷ colon ∷ ts) r h
      (string_splits style.ascii k (58 ∷ 32 ∷ value) (colon ∷ ts) r u parted)

  mutual
    pub tree_splits : (line : List ℕ) (t : Tree) (rest : List ℕ) (ts : List Token) (r : List ℕ) → AreSpaces line → IsSound t → EndsNumber rest → Splits rest ts r →
        Splits (printed style line t ++ rest) (tokens style.ascii t ts) r
    tree_splits line null rest ts r h is e s = (rest, record { spelled = refl; is_token = tt }, s)
    tree_splits line (truth true) rest ts r h is e s = truth_splits true rest ts r s
    tree_splits line (truth false) rest ts r h is e s = truth_splits false rest ts r s
    tree_splits line (number n) rest ts r h is e s = number_splits n rest ts r is e s
    tree_splits line (text t) rest ts r h is e s = string_splits style.ascii t rest ts r is s
    tree_splits line (list no_trees) rest ts r h is e s =
        (93 ∷ rest, record { spelled = refl; is_token = tt }, (rest, record { spelled = refl; is_token = tt }, s))
    tree_splits line (list (a_tree t us)) rest ts r h is e s =
        let inner = deeper style.pretty line in
        let entries = items style inner [] (a_tree t us) in
        let closes : Splits (93 ∷ rest) (end_list ∷ ts) r = (rest, record { spelled = refl; is_token = tt }, s) in
        let behind : Splits (entries ++ (line ++ 93 ∷ rest)) (item_tokens style.ascii (a_tree t us) (end_list ∷ ts)) r =
        items_split inner (a_tree t us) (line ++ 93 ∷ rest) (end_list ∷ ts) r (deeper_spaces style.pretty line h) is (spaces_end line (93 ∷ rest) h refl) (behind_spaces line (93 ∷ rest) (end_list ∷ ts) r h closes) in (
          (entries ++ (line ++ 93 ∷ [])) ++ rest,
          record { spelled = refl; is_token = tt },
          subst (λ (l : List ℕ). Splits l (item_tokens style.ascii (a_tree t us) (end_list ∷ ts)) r) (sym (closing entries line rest 93)) behind,
        )
    tree_splits line (mapping no_pairs) rest ts r h is e s =
        (125 ∷ rest, record { spelled = refl; is_token = tt }, (rest, record { spelled = refl; is_token = tt }, s))
    tree_splits line (mapping (a_pair k t ps)) rest ts r h is e s =
        let inner = deeper style.pretty line in
        let entries = members style inner [] (a_pair k t ps) in
        let closes : Splits (125 ∷ rest) (end_map ∷ ts) r = (rest, record { spelled = refl; is_token = tt }, s) in
        let behind : Splits (entries ++ (line ++ 125 ∷ rest)) (member_tokens style.ascii (a_pair k t ps) (end_map ∷ ts)) r =
        members_split inner (a_pair k t ps) (line ++ 125 ∷ rest) (end_map ∷ ts) r (deeper_spaces style.pretty line h) is.1 (spaces_end line (125 ∷ rest) h refl) (behind_spaces line (125 ∷ rest) (end_map ∷ ts) r h closes) in (
          (entries ++ (line ++ 125 ∷ [])) ++ rest,
          record { spelled = refl; is_token = tt },
          subst (λ (l : List ℕ). Splits l (member_tokens style.ascii (a_pair k t ps) (end_map ∷ ts)) r) (sym (closing entries line rest 125)) behind,
        )

    items_split : (line : List ℕ) (us : Trees) (rest : List ℕ) (ts : List Token) (r : List ℕ) → AreSpaces line → AreSound us → EndsNumber rest → Splits rest ts r →
        Splits (items style line [] us ++ rest) (item_tokens style.ascii us ts) r
    items_split line no_trees rest ts r h is e s = s
    items_split line (a_tree t us) rest ts r h is e s =
        let others = items style line (comma_text style.pretty) us in
        let behind = more_items_split line us rest ts r h is.1 e s in
        subst (λ (l : List ℕ). Splits l (tokens style.ascii t (more_item_tokens style.ascii us ts)) r) (sym (on_line line (printed style line t) others rest))
        (behind_spaces line (printed style line t ++ (others ++ rest)) (tokens style.ascii t (more_item_tokens style.ascii us ts)) r h
        (tree_splits line t (others ++ rest) (more_item_tokens style.ascii us ts) r h is.0 (items_end line us rest e) behind))

    more_items_split : (line : List ℕ) (us : Trees) (rest : List ℕ) (ts : List Token) (r : List ℕ) → AreSpaces line → AreSound us → EndsNumber rest → Splits rest ts r →
        Splits (items style line (comma_text style.pretty) us ++ rest) (more_item_tokens style.ascii us ts) r
    more_items_split line no_trees rest ts r h is e s = s
    more_items_split line (a_tree t us) rest ts r h is e s =
        let others = items style line (comma_text style.pretty) us in
        let behind = more_items_split line us rest ts r h is.1 e s in
        let one : Splits (line ++ (printed style line t ++ (others ++ rest))) (tokens style.ascii t (more_item_tokens style.ascii us ts)) r =
        behind_spaces line (printed style line t ++ (others ++ rest)) (tokens style.ascii t (more_item_tokens style.ascii us ts)) r h
        (tree_splits line t (others ++ rest) (more_item_tokens style.ascii us ts) r h is.0 (items_end line us rest e) behind) in
        subst (λ (l : List ℕ). Splits l (comma ∷ tokens style.ascii t (more_item_tokens style.ascii us ts)) r)
        (sym (append_assoc (comma_text style.pretty) (line ++ (printed style line t ++ others)) rest ∙ ap (λ l. comma_text style.pretty ++ l) (on_line line (printed style line t) others rest)))
        (comma_splits style.pretty (line ++ (printed style line t ++ (others ++ rest))) (tokens style.ascii t (more_item_tokens style.ascii us ts)) r one)

    members_split : (line : List ℕ) (ps : Pairs) (rest : List ℕ) (ts : List Token) (r : List ℕ) → AreSpaces line → HaveSound ps → EndsNumber rest → Splits rest ts r →
        Splits (members style line [] ps ++ rest) (member_tokens style.ascii ps ts) r
    members_split line no_pairs rest ts r h is e s = s
    members_split line (a_pair k t ps) rest ts r h is e s =
        let others = members style line (comma_text style.pretty) ps in
        let value : Splits (printed style line t ++ (others ++ rest)) (tokens style.ascii t (more_member_tokens style.ascii ps ts)) r =
        tree_splits line t (others ++ rest) (more_member_tokens style.ascii ps ts) r h is.1 (members_end line ps rest e) (more_members_split line ps rest ts r h is.2 e s) in
        subst (λ (l : List ℕ). Splits l (member_tokens style.ascii (a_pair k t ps) ts) r)
        (sym (on_pair_line line (quoted style.ascii k) (printed style line t) others rest))
        (pair_splits line k (printed style line t ++ (others ++ rest)) (tokens style.ascii t (more_member_tokens style.ascii ps ts)) r h is.0 value)

    more_members_split : (line : List ℕ) (ps : Pairs) (rest : List ℕ) (ts : List Token) (r : List ℕ) → AreSpaces line → HaveSound ps → EndsNumber rest → Splits rest ts r →
        Splits (members style line (comma_text style.pretty) ps ++ rest) (more_member_tokens style.ascii ps ts) r
    more_members_split line no_pairs rest ts r h is e s = s
    more_members_split line (a_pair k t ps) rest ts r h is e s =
        let others = members style line (comma_text style.pretty) ps in
        let value : Splits (printed style line t ++ (others ++ rest)) (tokens style.ascii t (more_member_tokens style.ascii ps ts)) r =
        tree_splits line t (others ++ rest) (more_member_tokens style.ascii ps ts) r h is.1 (members_end line ps rest e) (more_members_split line ps rest ts r h is.2 e s) in
        let all = line ++ (quoted style.ascii k ++ (58 ∷ 32 ∷ (printed style line t ++ (others ++ rest)))) in
        subst (λ (l : List ℕ). Splits l (comma ∷ member_tokens style.ascii (a_pair k t ps) ts) r)
        (sym (append_assoc (comma_text style.pretty) (pair_bytes line k t ps) rest ∙ ap (λ l. comma_text style.pretty ++ l) (on_pair_line line (quoted style.ascii k) (printed style line t) others rest)))
        (comma_splits style.pretty all (member_tokens style.ascii (a_pair k t ps) ts) r
        (pair_splits line k (printed style line t ++ (others ++ rest)) (tokens style.ascii t (more_member_tokens style.ascii ps ts)) r h is.0 value))
