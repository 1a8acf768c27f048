-- A step backwards: what completes the next state completes this one behind the token. And each state can be completed.
use Rattle.std.proofs.Common.{ℕ, List, [], ◌∷◌, ◌++◌, refl, sym, ap, subst, ◌∙◌, append_assoc}
use Rattle.std.specs.Prelude.{Option, Some, None}
use Rattle.info_tree.specs.Tree.{Tree, text, number, list, mapping, trees_of, pairs_of}
use Rattle.info_tree.specs.Token.{Piece, Token, begin_list, end_list, begin_map, end_map, comma, colon, word, numeral, string}
use Rattle.text_base.specs.Value.{value_of}
use Rattle.info_tree.specs.Strings.{text_of}
use Rattle.info_tree.specs.Pairs.{put}
use Rattle.info_tree.specs.Json.{word_value, a_word, a_number, a_string, a_list, a_map, no_items, items, no_more_items, more_items, no_members, members, no_more_members, more_members, put_all}
use Rattle.info_tree.specs.Machine.{Frame, in_list, in_map, Next, value, item_or_end, key_or_end, key, colon_after, done, State, mark_of, begin_value, step}
use Rattle.info_tree.proofs.Completes.{Closes, ValueThen, Completes}

abbrev pub CompletesNext : Option State → List Token → Tree → Type 0
CompletesNext None ts root = ⊥
CompletesNext (Some s) ts root = Completes s.0 s.1 ts root

begun_again : (fs : List Frame) (t : Token) (ts : List Token) (root : Tree) → CompletesNext (begin_value fs (mark_of t)) ts root → ValueThen fs (t ∷ ts) root
begun_again fs begin_list ts root (inner, rest, ys, e, is, c) = (
  begin_list ∷ (inner ++ end_list ∷ []),
  rest,
  list (trees_of ys),
  ap (λ l. begin_list ∷ l) (e ∙ sym (append_assoc inner (end_list ∷ []) rest)),
  a_list inner ys refl refl is,
  c,
)
begun_again fs end_list ts root c = absurd c
begun_again fs begin_map ts root (inner, rest, ps, e, is, c) = (
  begin_map ∷ (inner ++ end_map ∷ []),
  rest,
  mapping (pairs_of (put_all [] ps)),
  ap (λ l. begin_map ∷ l) (e ∙ sym (append_assoc inner (end_map ∷ []) rest)),
  a_map inner ps refl refl is,
  c,
)
begun_again fs end_map ts root c = absurd c
begun_again fs comma ts root c = absurd c
begun_again fs colon ts root c = absurd c
begun_again fs (word w) ts root c = (word w ∷ [], ts, word_value w, refl, a_word, c)
begun_again fs (numeral s) ts root c = (numeral s ∷ [], ts, number (value_of s), refl, a_number, c)
begun_again fs (string s) ts root c = (string s ∷ [], ts, text (text_of s), refl, a_string, c)

-- a value in a list that has just begun is its first item
first_item : (fs : List Frame) (ts : List Token) (root : Tree) → ValueThen (in_list [] ∷ fs) ts root → Completes fs item_or_end ts root
first_item fs ts root (v, rest, t, e, is, (inner, after, ys, f, others, c)) =
    (v ++ inner, after, t ∷ ys, e ∙ ap (λ l. v ++ l) f ∙ sym (append_assoc v inner (end_list ∷ after)), items v inner refl is others, c)

first_member : (fs : List Frame) (k : List Piece) (ts : List Token) (root : Tree) → Completes fs (colon_after [] (text_of k)) ts root → Completes fs key_or_end (string k ∷ ts) root
first_member fs k ts root (behind, d, (v, rest, t, e, is, (inner, after, qs, f, others, c))) = (
  string k ∷ colon ∷ (v ++ inner),
  after,
  (text_of k, t) ∷ qs,
  ap (λ l. string k ∷ l) d ∙ ap (λ l. string k ∷ colon ∷ l) (e ∙ ap (λ l. v ++ l) f ∙ sym (append_assoc v inner (end_map ∷ after))),
  members k v inner refl is others,
  c,
)

next_item : (fs : List Frame) (xs : List Tree) (t : Tree) (ts : List Token) (root : Tree) →
    ValueThen (in_list (xs ++ t ∷ []) ∷ fs) ts root → Closes (in_list xs ∷ fs) t (comma ∷ ts) root
next_item fs xs t ts root (v, rest, u, e, is, (inner, after, ys, f, others, c)) = (
  comma ∷ (v ++ inner),
  after,
  u ∷ ys,
  ap (λ l. comma ∷ l) (e ∙ ap (λ l. v ++ l) f ∙ sym (append_assoc v inner (end_list ∷ after))),
  more_items v inner refl is others,
  subst (λ (l : List Tree). Closes fs (list (trees_of l)) after root) (append_assoc xs (t ∷ []) (u ∷ ys)) c,
)

next_member : (fs : List Frame) (ps : List (List ℕ × Tree)) (k : List ℕ) (t : Tree) (ts : List Token) (root : Tree) →
    Completes fs (key (put ps k t)) ts root → Closes (in_map ps k ∷ fs) t (comma ∷ ts) root
next_member fs ps k t ts root (j, behind, d, (v, rest, u, e, is, (inner, after, qs, f, others, c))) = (
  comma ∷ string j ∷ colon ∷ (v ++ inner),
  after,
  (text_of j, u) ∷ qs,
  ap (λ l. comma ∷ l) d ∙ ap (λ l. comma ∷ string j ∷ colon ∷ l) (e ∙ ap (λ l. v ++ l) f ∙ sym (append_assoc v inner (end_map ∷ after))),
  more_members j v inner refl is others,
  c,
)

pub again : (fs : List Frame) (n : Next) (t : Token) (ts : List Token) (root : Tree) → CompletesNext (step fs n t) ts root → Completes fs n (t ∷ ts) root
again fs value t ts root c = begun_again fs t ts root c
again fs item_or_end begin_list ts root c = first_item fs (begin_list ∷ ts) root (begun_again (in_list [] ∷ fs) begin_list ts root c)
again fs item_or_end end_list ts root c = ([], ts, [], refl, no_items, c)
again fs item_or_end begin_map ts root c = first_item fs (begin_map ∷ ts) root (begun_again (in_list [] ∷ fs) begin_map ts root c)
again fs item_or_end end_map ts root c = absurd c
again fs item_or_end comma ts root c = absurd c
again fs item_or_end colon ts root c = absurd c
again fs item_or_end (word w) ts root c = first_item fs (word w ∷ ts) root (begun_again (in_list [] ∷ fs) (word w) ts root c)
again fs item_or_end (numeral s) ts root c = first_item fs (numeral s ∷ ts) root (begun_again (in_list [] ∷ fs) (numeral s) ts root c)
again fs item_or_end (string s) ts root c = first_item fs (string s ∷ ts) root (begun_again (in_list [] ∷ fs) (string s) ts root c)
again fs key_or_end begin_list ts root c = absurd c
again fs key_or_end end_list ts root c = absurd c
again fs key_or_end begin_map ts root c = absurd c
again fs key_or_end end_map ts root c = ([], ts, [], refl, no_members, c)
again fs key_or_end comma ts root c = absurd c
again fs key_or_end colon ts root c = absurd c
again fs key_or_end (word w) ts root c = absurd c
again fs key_or_end (numeral s) ts root c = absurd c
again fs key_or_end (string s) ts root c = first_member fs s ts root c
again fs (key ps) begin_list ts root c = absurd c
again fs (key ps) end_list ts root c = absurd c
again fs (key ps) begin_map ts root c = absurd c
again fs (key ps) end_map ts root c = absurd c
again fs (key ps) comma ts root c = absurd c
again fs (key ps) colon ts root c = absurd c
again fs (key ps) (word w) ts root c = absurd c
again fs (key ps) (numeral s) ts root c = absurd c
again fs (key ps) (string s) ts root (rest, e, v) = (s, rest, ap (λ l. string s ∷ l) e, v)
again fs (colon_after ps k) begin_list ts root c = absurd c
again fs (colon_after ps k) end_list ts root c = absurd c
again fs (colon_after ps k) begin_map ts root c = absurd c
again fs (colon_after ps k) end_map ts root c = absurd c
again fs (colon_after ps k) comma ts root c = absurd c
again fs (colon_after ps k) colon ts root c = (ts, refl, c)
again fs (colon_after ps k) (word w) ts root c = absurd c
again fs (colon_after ps k) (numeral s) ts root c = absurd c
again fs (colon_after ps k) (string s) ts root c = absurd c
again [] (done t) tok ts root c = absurd c
again (in_list xs ∷ fs) (done t) begin_list ts root c = absurd c
again (in_list xs ∷ fs) (done t) end_list ts root c = ([], ts, [], refl, no_more_items, c)
again (in_list xs ∷ fs) (done t) begin_map ts root c = absurd c
again (in_list xs ∷ fs) (done t) end_map ts root c = absurd c
again (in_list xs ∷ fs) (done t) comma ts root c = next_item fs xs t ts root c
again (in_list xs ∷ fs) (done t) colon ts root c = absurd c
again (in_list xs ∷ fs) (done t) (word w) ts root c = absurd c
again (in_list xs ∷ fs) (done t) (numeral s) ts root c = absurd c
again (in_list xs ∷ fs) (done t) (string s) ts root c = absurd c
again (in_map ps k ∷ fs) (done t) begin_list ts root c = absurd c
again (in_map ps k ∷ fs) (done t) end_list ts root c = absurd c
again (in_map ps k ∷ fs) (done t) begin_map ts root c = absurd c
again (in_map ps k ∷ fs) (done t) end_map ts root c = ([], ts, [], refl, no_more_members, c)
again (in_map ps k ∷ fs) (done t) comma ts root c = next_member fs ps k t ts root c
again (in_map ps k ∷ fs) (done t) colon ts root c = absurd c
again (in_map ps k ∷ fs) (done t) (word w) ts root c = absurd c
again (in_map ps k ∷ fs) (done t) (numeral s) ts root c = absurd c
again (in_map ps k ∷ fs) (done t) (string s) ts root c = absurd c

-- some tokens complete each state
abbrev Live : List Frame → Next → Type 0
Live fs n = (more : List Token) × (root : Tree) × Completes fs n more root

closes_live : (fs : List Frame) (t : Tree) → Live fs (done t)
closes_live [] t = ([], t, (refl, refl))
closes_live (in_list xs ∷ fs) t =
    let r = closes_live fs (list (trees_of (xs ++ t ∷ []))) in
    (end_list ∷ r.0, r.1, ([], r.0, [], refl, no_more_items, r.2))
closes_live (in_map ps k ∷ fs) t =
    let r = closes_live fs (mapping (pairs_of (put ps k t))) in
    (end_map ∷ r.0, r.1, ([], r.0, [], refl, no_more_members, r.2))

value_live : (fs : List Frame) → Live fs value
value_live fs =
    let r = closes_live fs (text (text_of [])) in
    (string [] ∷ r.0, r.1, (string [] ∷ [], r.0, text (text_of []), refl, a_string, r.2))

pub live : (fs : List Frame) (n : Next) → Live fs n
live fs value = value_live fs
live fs item_or_end =
    let r = closes_live fs (list (trees_of [])) in
    (end_list ∷ r.0, r.1, ([], r.0, [], refl, no_items, r.2))
live fs key_or_end =
    let r = closes_live fs (mapping (pairs_of [])) in
    (end_map ∷ r.0, r.1, ([], r.0, [], refl, no_members, r.2))
live fs (key ps) =
    let r = value_live (in_map ps (text_of []) ∷ fs) in
    (string [] ∷ colon ∷ r.0, r.1, ([], r.0, refl, r.2))
live fs (colon_after ps k) =
    let r = value_live (in_map ps k ∷ fs) in
    (colon ∷ r.0, r.1, (r.0, refl, r.2))
live fs (done t) = closes_live fs t
