-- What completes a state of the machine to a JSON text, and that a step takes its token off what completes.
use Rattle.std.proofs.Common.{◌≡◌, ℕ, List, [], ◌∷◌, ◌++◌, refl, sym, ap, subst, append_assoc}
use Rattle.std.specs.Prelude.{Option, Some, None}
use Rattle.info_tree.specs.Tree.{Tree, text, number, list, mapping, trees_of, pairs_of}
use Rattle.info_tree.specs.Token.{Piece, Token, begin_list, end_list, begin_map, end_map, comma, colon, word, numeral, string}
use Rattle.text_base.specs.Value.{value_of}
use Rattle.info_tree.specs.Strings.{text_of}
use Rattle.info_tree.specs.Pairs.{put}
use Rattle.info_tree.specs.Json.{word_value, IsValue, a_word, a_number, a_string, a_list, a_map, AreItems, no_items, items, AreMoreItems, no_more_items, more_items, AreMembers, no_members, members, AreMoreMembers, no_more_members, more_members, put_all}
use Rattle.info_tree.specs.Machine.{Frame, in_list, in_map, Next, value, item_or_end, key_or_end, key, colon_after, done, State, mark_of, begin_value, step}

-- a value t has come: what follows it closes the frames to the whole tree
abbrev pub Closes : List Frame → Tree → List Token → Tree → Type 0
Closes [] t more root = (more ≡ []) × (root ≡ t)
Closes (in_list xs ∷ fs) t more root =
    (inner : List Token) × (rest : List Token) × (ys : List Tree) × (more ≡ inner ++ end_list ∷ rest) × AreMoreItems inner ys
    × Closes fs (list (trees_of (xs ++ t ∷ ys))) rest root
Closes (in_map ps k ∷ fs) t more root =
    (inner : List Token) × (rest : List Token) × (qs : List (List ℕ × Tree)) × (more ≡ inner ++ end_map ∷ rest) × AreMoreMembers inner qs
    × Closes fs (mapping (pairs_of (put_all (put ps k t) qs))) rest root

abbrev pub ValueThen : List Frame → List Token → Tree → Type 0
ValueThen fs more root =
    (v : List Token) × (rest : List Token) × (t : Tree) × (more ≡ v ++ rest) × IsValue v t × Closes fs t rest root

-- what completes a state
abbrev pub Completes : List Frame → Next → List Token → Tree → Type 0
Completes fs value more root = ValueThen fs more root
Completes fs item_or_end more root =
    (inner : List Token) × (rest : List Token) × (ys : List Tree) × (more ≡ inner ++ end_list ∷ rest) × AreItems inner ys
    × Closes fs (list (trees_of ys)) rest root
Completes fs key_or_end more root =
    (inner : List Token) × (rest : List Token) × (qs : List (List ℕ × Tree)) × (more ≡ inner ++ end_map ∷ rest) × AreMembers inner qs
    × Closes fs (mapping (pairs_of (put_all [] qs))) rest root
Completes fs (key ps) more root =
    (k : List Piece) × (rest : List Token) × (more ≡ string k ∷ colon ∷ rest) × ValueThen (in_map ps (text_of k) ∷ fs) rest root
Completes fs (colon_after ps k) more root = (rest : List Token) × (more ≡ colon ∷ rest) × ValueThen (in_map ps k ∷ fs) rest root
Completes fs (done t) more root = Closes fs t more root

-- what a step makes of what completes
abbrev pub Goes : Option State → List Token → Tree → Type 0
Goes o more root = (s : State) × (o ≡ Some s) × Completes s.0 s.1 more root

abbrev pub Derives : List Frame → Next → List Token → Tree → Type 0
Derives fs n [] root = (fs ≡ []) × (n ≡ done root)
Derives fs n (t ∷ ts) root = Goes (step fs n t) ts root

-- the first token of a value begins it
abbrev Begins : List Frame → List Token → Tree → Type 0
Begins fs [] root = ⊥
Begins fs (t ∷ ts) root = Goes (begin_value fs (mark_of t)) ts root

value_begins : {v : List Token} {t : Tree} (fs : List Frame) (rest : List Token) (root : Tree) → IsValue v t → Closes fs t rest root → Begins fs (v ++ rest) root
value_begins fs rest root (a_word {w}) c = ((fs, done (word_value w)), refl, c)
value_begins fs rest root (a_number {s}) c = ((fs, done (number (value_of s))), refl, c)
value_begins fs rest root (a_string {s}) c = ((fs, done (text (text_of s))), refl, c)
value_begins fs rest root (a_list {ts} {t} inner xs e f is) c =
    subst (λ (l : List Token). Begins fs (l ++ rest) root) (sym e)
    ((fs, item_or_end), refl, (inner, rest, xs, append_assoc inner (end_list ∷ []) rest, is, subst (λ (u : Tree). Closes fs u rest root) f c))
value_begins fs rest root (a_map {ts} {t} inner ps e f is) c =
    subst (λ (l : List Token). Begins fs (l ++ rest) root) (sym e)
    ((fs, key_or_end), refl, (inner, rest, ps, append_assoc inner (end_map ∷ []) rest, is, subst (λ (u : Tree). Closes fs u rest root) f c))

begun : (fs : List Frame) (ts : List Token) (root : Tree) → Begins fs ts root → Derives fs value ts root
begun fs [] root b = absurd b
begun fs (t ∷ ts) root b = b

item_begun : (fs : List Frame) (ts : List Token) (root : Tree) → Begins (in_list [] ∷ fs) ts root → Derives fs item_or_end ts root
item_begun fs [] root b = absurd b
item_begun fs (begin_list ∷ ts) root b = b
item_begun fs (end_list ∷ ts) root b = let e : None ≡ Some b.0 = b.1 in cc
item_begun fs (begin_map ∷ ts) root b = b
item_begun fs (end_map ∷ ts) root b = b
item_begun fs (comma ∷ ts) root b = b
item_begun fs (colon ∷ ts) root b = b
item_begun fs (word w ∷ ts) root b = b
item_begun fs (numeral s ∷ ts) root b = b
item_begun fs (string s ∷ ts) root b = b

value_derives : (fs : List Frame) (ts : List Token) (root : Tree) → ValueThen fs ts root → Derives fs value ts root
value_derives fs ts root (v, rest, t, e, is, c) =
    subst (λ (l : List Token). Derives fs value l root) (sym e) (begun fs (v ++ rest) root (value_begins fs rest root is c))

items_derive : {inner : List Token} {ys : List Tree} (fs : List Frame) (rest : List Token) (root : Tree) →
    AreItems inner ys → Closes fs (list (trees_of ys)) rest root → Derives fs item_or_end (inner ++ end_list ∷ rest) root
items_derive fs rest root no_items c = ((fs, done (list (trees_of []))), refl, c)
items_derive fs rest root (items {ts} {t} {xs} v more e is others) c =
    subst (λ (l : List Token). Derives fs item_or_end (l ++ end_list ∷ rest) root) (sym e)
    (subst (λ (l : List Token). Derives fs item_or_end l root) (sym (append_assoc v more (end_list ∷ rest)))
    (item_begun fs (v ++ (more ++ end_list ∷ rest)) root
    (value_begins (in_list [] ∷ fs) (more ++ end_list ∷ rest) root is (more, rest, xs, refl, others, c))))

members_derive : {inner : List Token} {qs : List (List ℕ × Tree)} (fs : List Frame) (rest : List Token) (root : Tree) →
    AreMembers inner qs → Closes fs (mapping (pairs_of (put_all [] qs))) rest root → Derives fs key_or_end (inner ++ end_map ∷ rest) root
members_derive fs rest root no_members c = ((fs, done (mapping (pairs_of []))), refl, c)
members_derive fs rest root (members {ts} {t} {ps} k v more e is others) c =
    subst (λ (l : List Token). Derives fs key_or_end (l ++ end_map ∷ rest) root) (sym e) (
      (fs, colon_after [] (text_of k)),
      refl,
      (
        (v ++ more) ++ end_map ∷ rest,
        refl,
        (v, more ++ end_map ∷ rest, t, append_assoc v more (end_map ∷ rest), is, (more, rest, ps, refl, others, c)),
      ),
    )

more_items_derive : {inner : List Token} {ys : List Tree} (fs : List Frame) (xs : List Tree) (t : Tree) (rest : List Token) (root : Tree) →
    AreMoreItems inner ys → Closes fs (list (trees_of (xs ++ t ∷ ys))) rest root → Derives (in_list xs ∷ fs) (done t) (inner ++ end_list ∷ rest) root
more_items_derive fs xs t rest root no_more_items c = ((fs, done (list (trees_of (xs ++ t ∷ [])))), refl, c)
more_items_derive fs xs t rest root (more_items {t = u} {xs = us} v more e is others) c =
    subst (λ (l : List Token). Derives (in_list xs ∷ fs) (done t) (l ++ end_list ∷ rest) root) (sym e) (
      (in_list (xs ++ t ∷ []) ∷ fs, value),
      refl,
      (
        v,
        more ++ end_list ∷ rest,
        u,
        append_assoc v more (end_list ∷ rest),
        is,
        (more, rest, us, refl, others, subst (λ (l : List Tree). Closes fs (list (trees_of l)) rest root) (sym (append_assoc xs (t ∷ []) (u ∷ us))) c),
      ),
    )

more_members_derive : {inner : List Token} {qs : List (List ℕ × Tree)} (fs : List Frame) (ps : List (List ℕ × Tree)) (k : List ℕ) (t : Tree) (rest : List Token) (root : Tree) →
    AreMoreMembers inner qs → Closes fs (mapping (pairs_of (put_all (put ps k t) qs))) rest root → Derives (in_map ps k ∷ fs) (done t) (inner ++ end_map ∷ rest) root
more_members_derive fs ps k t rest root no_more_members c = ((fs, done (mapping (pairs_of (put ps k t)))), refl, c)
more_members_derive fs ps k t rest root (more_members {t = u} {ps = us} j v more e is others) c =
    subst (λ (l : List Token). Derives (in_map ps k ∷ fs) (done t) (l ++ end_map ∷ rest) root) (sym e) (
      (fs, key (put ps k t)),
      refl,
      (
        j,
        (v ++ more) ++ end_map ∷ rest,
        refl,
        (v, more ++ end_map ∷ rest, u, append_assoc v more (end_map ∷ rest), is, (more, rest, us, refl, others, c)),
      ),
    )

-- a state that a text completes takes the text's first token
pub derives : (fs : List Frame) (n : Next) (ts : List Token) (root : Tree) → Completes fs n ts root → Derives fs n ts root
derives fs value ts root c = value_derives fs ts root c
derives fs item_or_end ts root (inner, rest, ys, e, is, c) =
    subst (λ (l : List Token). Derives fs item_or_end l root) (sym e) (items_derive fs rest root is c)
derives fs key_or_end ts root (inner, rest, qs, e, is, c) =
    subst (λ (l : List Token). Derives fs key_or_end l root) (sym e) (members_derive fs rest root is c)
derives fs (key ps) ts root (k, rest, e, v) =
    subst (λ (l : List Token). Derives fs (key ps) l root) (sym e) ((fs, colon_after ps (text_of k)), refl, (rest, refl, v))
derives fs (colon_after ps k) ts root (rest, e, v) =
    subst (λ (l : List Token). Derives fs (colon_after ps k) l root) (sym e) ((in_map ps k ∷ fs, value), refl, v)
derives [] (done t) ts root (e, f) = subst (λ (l : List Token). Derives [] (done t) l root) (sym e) (refl, ap done (sym f))
derives (in_list xs ∷ fs) (done t) ts root (inner, rest, ys, e, is, c) =
    subst (λ (l : List Token). Derives (in_list xs ∷ fs) (done t) l root) (sym e) (more_items_derive fs xs t rest root is c)
derives (in_map ps k ∷ fs) (done t) ts root (inner, rest, qs, e, is, c) =
    subst (λ (l : List Token). Derives (in_map ps k ∷ fs) (done t) l root) (sym e) (more_members_derive fs ps k t rest root is c)
