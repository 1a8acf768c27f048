-- What is read as a filter up to a settled fault does not depend on what follows the bytes that settle it.
use Rattle.std.proofs.Common.{◌≡◌, ℕ, ◌<◌, ◌≤◌, Bool, true, false, ◌&&◌, cond, List, [], ◌∷◌, ◌++◌, length, take, drop, Option, Some, None, Ok, Err, refl, sym, ap, ◌∙◌, append_assoc, arith}
use Rattle.std.specs.Prelude.{◌==◌}
use Rattle.std.proofs.lemmas.Bool.{eqb-true}
use Rattle.std.proofs.lemmas.List.{drop-drop, length-append, length-drop, take-append-drop}
use Rattle.text_base.specs.Size.{size_of}
use Rattle.text_base.specs.declared.fields.NumField.{NumField}
use Rattle.text_base.specs.declared.fields.TextField.{TextField}
use Rattle.read_base.specs.Reads.{◌>>=◌, Read, skip, is_at, run_at}
use Rattle.read_base.specs.Laws.{Settling, Twin, Shrinks, Within, Moved, Local}
use Rattle.read_base.proofs.LocalLemmas.{Near, pure_local, stop_local, cond_local, skip_local, drop_local, bind_local, then_local, same_local, is_at_near, ahead_near, skip_near, run_local}
use Rattle.sel_lang.specs.Plain.{PlainFilter}
use Rattle.sel_lang.specs.Marks.{is_field_byte, is_value_byte}
use Rattle.sel_lang.specs.Places.{is_settled, settling_bytes}
use Rattle.sel_lang.specs.Filters.{field_named, found, field_at, or_equal, num_op_at, op_mark, with_equal, plain_op, negated_op, text_op_at, has_mark, behind_mark, marked_at, num_value_at, unquoted, closed_quote, text_value_at, can_have, value_start, tested_at, ended, num_filter_at, text_filter_at, tail_at, filter_at}
use Rattle.sel_lang.specs.declared.filter.NumOp.{NumOp}
use Rattle.sel_lang.specs.declared.filter.NumOp.TheVariants as nums
use Rattle.sel_lang.specs.declared.filter.TextOp.{TextOp}
use Rattle.sel_lang.specs.declared.filter.TextOp.TheVariants as texts
use Rattle.sel_lang.specs.declared.field_name.FieldName.{FieldName}
use Rattle.sel_lang.specs.declared.field_name.FieldName.TheVariants as names
use Rattle.sel_lang.specs.declared.sel_kind.SelKind.{SelKind}
use Rattle.sel_lang.specs.declared.sel_kind.SelKind.TheVariants.{Syntax, Field, Value, Regex}
use Rattle.sel_lang.proofs.FilterParts.{num_made, num_value, num_rest, text_made, text_value, text_rest}
use Rattle.sel_lang.proofs.QuoteStaysLemmas.{unquoted_end, unquoted_moves}
use Rattle.sel_lang.proofs.PlaceLemmas.{false_true}

-- so many bytes settle a fault that stands at a byte that passes the test
abbrev pub settling : ℕ → (ℕ → Bool) → Settling SelKind
settling n first = record { is_settled = is_settled; width = n; first = first }

-- no space passes the test, and the bytes are as many as it takes
pub record Sees (n : ℕ) (first : ℕ → Bool) : Type 0 where
  pub none : first 32 ≡ false
  pub wide : (b : ℕ) → first b ≡ true → settling_bytes b ≤ n

-- an operator of numbers, and what stands behind it
abbrev num_done : NumOp → List ℕ → Read SelKind NumOp
num_done op t = Ok (op, t)

abbrev num_pair : NumOp × List ℕ → Read SelKind NumOp
num_pair p = Ok p

-- an operator of texts, whether it is negated, and what stands behind it
abbrev op_done : TextOp → Bool → List ℕ → Read SelKind (TextOp × Bool)
op_done op negated t = Ok ((op, negated), t)

-- a token that is not allowed, at the front of t
abbrev no_op : List ℕ → Read SelKind (TextOp × Bool)
no_op t = Err (Syntax, length t)

-- ---- operators of numbers

or_cond : (v : Bool) (with without : NumOp) (t : List ℕ) → cond v (num_done with (drop 1 t)) (num_done without t) ≡ num_pair (cond v (with, drop 1 t) (without, t))
or_cond true with without t = refl
or_cond false with without t = refl

abbrev no_num : List ℕ → Read SelKind NumOp
no_num t = Err (Syntax, length t)

-- what is read where neither `<` nor `>` nor `=` stands
abbrev not_equal : List ℕ → Read SelKind NumOp
not_equal t = cond (is_at 33 t && is_at 61 (drop 1 t)) (num_done nums.Ne (drop 1 (drop 1 t))) (no_num t)

-- the same, where neither `<` nor `>` stands
abbrev not_more : List ℕ → Read SelKind NumOp
not_more t = cond (is_at 61 t) (num_done nums.Eq (drop 1 t)) (not_equal t)

-- the same, where no `<` stands
abbrev not_less : List ℕ → Read SelKind NumOp
not_less t = cond (is_at 62 t) (num_pair (or_equal nums.Ge nums.Gt (drop 1 t))) (not_more t)

-- ---- operators of texts, as tests one after the other

abbrev five : {A : Type 0} → Bool → Bool → Bool → Bool → Bool → A → A → A → A → A → A → A
five a b c d e v w x y z last = cond a v (cond b w (cond c x (cond d y (cond e z last))))

-- u is t, or what stands behind its `!`
abbrev chain : Bool → List ℕ → List ℕ → Read SelKind (TextOp × Bool)
chain n t u =
    five (is_at 61 u) (is_at 61 (drop 1 u) && is_at 94 u) (is_at 61 (drop 1 u) && is_at 36 u) (is_at 61 (drop 1 u) && is_at 42 u) (is_at 61 (drop 1 u) && is_at 126 u)
    (op_done texts.Eq n (drop 1 u)) (op_done texts.Prefix n (drop 1 (drop 1 u))) (op_done texts.Suffix n (drop 1 (drop 1 u))) (op_done texts.Contains n (drop 1 (drop 1 u))) (op_done texts.Matches n (drop 1 (drop 1 u)))
    (no_op t)

-- without `!`
abbrev plain_five : List ℕ → Read SelKind (TextOp × Bool)
plain_five t = chain false t t

-- with `!`
abbrev negated_five : List ℕ → Read SelKind (TextOp × Bool)
negated_five t =
    five (is_at 33 t && is_at 61 (drop 1 t)) (is_at 33 t && (is_at 61 (drop 1 (drop 1 t)) && is_at 94 (drop 1 t))) (is_at 33 t && (is_at 61 (drop 1 (drop 1 t)) && is_at 36 (drop 1 t))) (is_at 33 t && (is_at 61 (drop 1 (drop 1 t)) && is_at 42 (drop 1 t))) (is_at 33 t && (is_at 61 (drop 1 (drop 1 t)) && is_at 126 (drop 1 t)))
    (op_done texts.Eq true (drop 1 (drop 1 t))) (op_done texts.Prefix true (drop 1 (drop 1 (drop 1 t)))) (op_done texts.Suffix true (drop 1 (drop 1 (drop 1 t)))) (op_done texts.Contains true (drop 1 (drop 1 (drop 1 t)))) (op_done texts.Matches true (drop 1 (drop 1 (drop 1 t))))
    (no_op t)

chain_by : (n : Bool) (t v : List ℕ) (a b c d e z : Bool) → is_at 61 v ≡ z →
    five a (z && b) (z && c) (z && d) (z && e) (op_done texts.Eq n v) (op_done texts.Prefix n (drop 1 v)) (op_done texts.Suffix n (drop 1 v)) (op_done texts.Contains n (drop 1 v)) (op_done texts.Matches n (drop 1 v)) (no_op t)
    ≡ negated_op t n (cond a (Some (texts.Eq, v)) (with_equal (cond b (Some (texts.Prefix, v)) (cond c (Some (texts.Suffix, v)) (cond d (Some (texts.Contains, v)) (cond e (Some (texts.Matches, v)) None))))))
chain_by n t v true b c d e z h = refl
chain_by n t v false true c d e true h = rw h refl
chain_by n t v false true c d e false h = rw h refl
chain_by n t v false false true d e true h = rw h refl
chain_by n t v false false true d e false h = rw h refl
chain_by n t v false false false true e true h = rw h refl
chain_by n t v false false false true e false h = rw h refl
chain_by n t v false false false false true true h = rw h refl
chain_by n t v false false false false true false h = rw h refl
chain_by n t v false false false false false true h = refl
chain_by n t v false false false false false false h = refl

chain_is : (n : Bool) (t u : List ℕ) → chain n t u ≡ negated_op t n (plain_op u)
unfolding plain_op op_mark
chain_is n t u = chain_by n t (drop 1 u) (is_at 61 u) (is_at 94 u) (is_at 36 u) (is_at 42 u) (is_at 126 u) (is_at 61 (drop 1 u)) refl

-- tests behind one that holds may ask for it again
guarded_by : {A : Type 0} (g a b c d e : Bool) (v w x y z last other : A) → cond g (five (g && a) (g && b) (g && c) (g && d) (g && e) v w x y z last) other ≡ cond g (five a b c d e v w x y z last) other
guarded_by true a b c d e v w x y z last other = refl
guarded_by false a b c d e v w x y z last other = refl

cond_ap : {A : Type 0} (g : Bool) (x u y v : A) → x ≡ u → y ≡ v → cond g x y ≡ cond g u v
cond_ap true x u y v h k = h
cond_ap false x u y v h k = k

text_op_is : (t : List ℕ) → cond (is_at 33 t) (negated_five t) (plain_five t) ≡ text_op_at t
unfolding text_op_at
text_op_is t =
    let u = drop 1 t in
    guarded_by (is_at 33 t) (is_at 61 u) (is_at 61 (drop 1 u) && is_at 94 u) (is_at 61 (drop 1 u) && is_at 36 u) (is_at 61 (drop 1 u) && is_at 42 u) (is_at 61 (drop 1 u) && is_at 126 u)
    (op_done texts.Eq true (drop 1 u)) (op_done texts.Prefix true (drop 1 (drop 1 u))) (op_done texts.Suffix true (drop 1 (drop 1 u))) (op_done texts.Contains true (drop 1 (drop 1 u))) (op_done texts.Matches true (drop 1 (drop 1 u))) (no_op t) (plain_five t)
    ∙ cond_ap (is_at 33 t) (chain true t u) (negated_op t true (plain_op u)) (plain_five t) (negated_op t false (plain_op t)) (chain_is true t u) (chain_is false t t)

-- ---- `?`

abbrev with_mark : {A : Type 0} → Bool → (List ℕ → Read SelKind A) → List ℕ → Read SelKind (Bool × A)
with_mark v value t = value t >>= λ x. Ok ((v, x.0), x.1)

marked_by : {A : Type 0} (v : Bool) (value : List ℕ → Read SelKind A) (t u : List ℕ) → cond v (with_mark true value u) (with_mark false value t) ≡ (value (cond v u t) >>= λ x. Ok ((v, x.0), x.1))
marked_by true value t u = refl
marked_by false value t u = refl

-- ---- tests

and_by : (a b x y : Bool) → a ≡ b → (a ≡ true → x ≡ y) → (a && x) ≡ (b && y)
and_by true true x y e h = h refl
and_by true false x y e h = absurd cc
and_by false true x y e h = absurd cc
and_by false false x y e h = refl

and_both : (a b x y : Bool) → a ≡ b → x ≡ y → (a && x) ≡ (b && y)
and_both a b x y e h = rw (e, h) refl

and_swap : (a b : Bool) → (a && b) ≡ (b && a)
and_swap true true = refl
and_swap true false = refl
and_swap false true = refl
and_swap false false = refl

module _ (n : ℕ) (first : ℕ → Bool) (sees : Sees n first) where
  abbrev S : Settling SelKind
  S = settling n first

  -- ---- what was found, or a fault that is judged as a whole

  found_shrinks : {A : Type 0} (kind : SelKind) (t r : List ℕ) (o : Option A) → is_settled kind ≡ false → Shrinks S r (found kind t o r)
  found_shrinks kind t r (Some x) k = ([], refl)
  found_shrinks kind t r None k = λ l. absurd (false_true (sym k ∙ l))

  found_moves : {A : Type 0} (kind : SelKind) (s q c d : List ℕ) (o : Option A) → is_settled kind ≡ false → Within S c (found kind (s ++ c) o (q ++ c)) → Moved c d (found kind (s ++ c) o (q ++ c)) (found kind (s ++ d) o (q ++ d))
  found_moves kind s q c d (Some x) k h = (q, refl, refl)
  found_moves kind s q c d None k h = absurd (false_true (sym k ∙ h.0))

  field_local : Local S field_at
  unfolding field_at
  field_local = bind_local S (run_at Syntax is_field_byte) (λ t w r. found Field t (field_named w) r) (run_local S Syntax is_field_byte)
      (λ t w r. found_shrinks Field t r (field_named w) refl) (λ w s q c d twin h. found_moves Field s q c d (field_named w) refl h)

  num_value_local : Local S num_value_at
  unfolding num_value_at
  num_value_local = bind_local S (run_at Syntax is_value_byte) (λ t w r. found Value t (size_of 1000 w) r) (run_local S Syntax is_value_byte)
      (λ t w r. found_shrinks Value t r (size_of 1000 w) refl) (λ w s q c d twin h. found_moves Value s q c d (size_of 1000 w) refl h)

  -- ---- tests of an operator's bytes

  -- the byte that stands first at the place passes the test
  leads : (m : ℕ) (c d : List ℕ) (w : Twin S c d) → is_at m c ≡ true → first m ≡ true
  leads m c d w here = ap first (sym (eqb-true w.a m (sym (ap (is_at m) w.one) ∙ here))) ∙ w.solid

  near_same : (p q : List ℕ → Bool) → ((t : List ℕ) → p t ≡ q t) → Near S p → Near S q
  near_same p q e near s c d w = sym (e (s ++ c)) ∙ near s c d w ∙ e (s ++ d)

  -- a byte, and a test of what stands behind it
  lead_near : (m : ℕ) (p : List ℕ → Bool) → Near S p → ((c d : List ℕ) → Twin S c d → first m ≡ true → p (drop 1 c) ≡ p (drop 1 d)) → Near S (λ t. is_at m t && p (drop 1 t))
  lead_near m p near far [] c d w = and_by (is_at m c) (is_at m d) (p (drop 1 c)) (p (drop 1 d)) (is_at_near S m [] c d w) (λ here. far c d w (leads m c d w here))
  lead_near m p near far (b ∷ s) c d w = and_by (b == m) (b == m) (p (s ++ c)) (p (s ++ d)) refl (λ here. near s c d w)

  -- `=` behind a byte
  equal_near : (m : ℕ) → (first m ≡ true → 2 ≤ n) → Near S (λ t. is_at m t && is_at 61 (drop 1 t))
  equal_near m wide = lead_near m (is_at 61) (is_at_near S 61) (λ c d w h. let le = wide h in let lt : 1 < n = omega (arith, le) in ahead_near S 61 1 lt [] c d w)

  two_near : (m : ℕ) → (first m ≡ true → 2 ≤ n) → Near S (λ t. is_at 61 (drop 1 t) && is_at m t)
  two_near m wide = near_same (λ t. is_at m t && is_at 61 (drop 1 t)) (λ t. is_at 61 (drop 1 t) && is_at m t) (λ t. and_swap (is_at m t) (is_at 61 (drop 1 t))) (equal_near m wide)

  second_near : (m : ℕ) → 3 ≤ n → (c d : List ℕ) → Twin S c d → is_at m (drop 1 c) ≡ is_at m (drop 1 d)
  second_near m wide c d w = let lt : 1 < n = omega (arith, wide) in ahead_near S m 1 lt [] c d w

  third_near : (m : ℕ) → 3 ≤ n → (c d : List ℕ) → Twin S c d → is_at m (drop 1 (drop 1 c)) ≡ is_at m (drop 1 (drop 1 d))
  third_near m wide c d w = let lt : 2 < n = omega (arith, wide) in ap (is_at m) (drop-drop 1 1 c) ∙ ahead_near S m 2 lt [] c d w ∙ sym (ap (is_at m) (drop-drop 1 1 d))

  three_near : (m : ℕ) → (first 33 ≡ true → 3 ≤ n) → (first m ≡ true → 2 ≤ n) → Near S (λ t. is_at 33 t && (is_at 61 (drop 1 (drop 1 t)) && is_at m (drop 1 t)))
  three_near m bang wide = lead_near 33 (λ t. is_at 61 (drop 1 t) && is_at m t) (two_near m wide)
      (λ c d w h. and_both (is_at 61 (drop 1 (drop 1 c))) (is_at 61 (drop 1 (drop 1 d))) (is_at m (drop 1 c)) (is_at m (drop 1 d)) (third_near 61 (bang h) c d w) (second_near m (bang h) c d w))

  -- ---- operators

  num_taken_1 : (op : NumOp) → Local S (λ t. num_done op (drop 1 t))
  num_taken_1 op = drop_local S 1 (num_done op) (pure_local S op)

  num_taken_2 : (op : NumOp) → Local S (λ t. num_done op (drop 1 (drop 1 t)))
  num_taken_2 op = drop_local S 1 (λ t. num_done op (drop 1 t)) (num_taken_1 op)

  op_taken_1 : (op : TextOp) (negated : Bool) → Local S (λ t. op_done op negated (drop 1 t))
  op_taken_1 op negated = drop_local S 1 (op_done op negated) (pure_local S (op, negated))

  op_taken_2 : (op : TextOp) (negated : Bool) → Local S (λ t. op_done op negated (drop 1 (drop 1 t)))
  op_taken_2 op negated = drop_local S 1 (λ t. op_done op negated (drop 1 t)) (op_taken_1 op negated)

  op_taken_3 : (op : TextOp) (negated : Bool) → Local S (λ t. op_done op negated (drop 1 (drop 1 (drop 1 t))))
  op_taken_3 op negated = drop_local S 1 (λ t. op_done op negated (drop 1 (drop 1 t))) (op_taken_2 op negated)

  or_local : (with without : NumOp) → Local S (λ t. num_pair (or_equal with without (drop 1 t)))
  or_local with without = drop_local S 1 (λ t. num_pair (or_equal with without t))
      (same_local S (λ t. cond (is_at 61 t) (num_done with (drop 1 t)) (num_done without t)) (λ t. num_pair (or_equal with without t)) (λ t. or_cond (is_at 61 t) with without t)
      (cond_local S (is_at 61) (λ t. num_done with (drop 1 t)) (num_done without) (is_at_near S 61) (num_taken_1 with) (pure_local S without)))

  num_op_local : Local S num_op_at
  unfolding num_op_at
  num_op_local =
      let bang : first 33 ≡ true → 2 ≤ n = λ h. (let le : 3 ≤ n = sees.wide 33 h in omega (arith, le)) in
      cond_local S (is_at 60) (λ t. num_pair (or_equal nums.Le nums.Lt (drop 1 t))) not_less (is_at_near S 60) (or_local nums.Le nums.Lt)
      (cond_local S (is_at 62) (λ t. num_pair (or_equal nums.Ge nums.Gt (drop 1 t))) not_more (is_at_near S 62) (or_local nums.Ge nums.Gt)
      (cond_local S (is_at 61) (λ t. num_done nums.Eq (drop 1 t)) not_equal (is_at_near S 61) (num_taken_1 nums.Eq)
      (cond_local S (λ t. is_at 33 t && is_at 61 (drop 1 t)) (λ t. num_done nums.Ne (drop 1 (drop 1 t))) no_num (equal_near 33 bang) (num_taken_2 nums.Ne) (stop_local S Syntax))))

  five_local : {A : Type 0} (a b c d e : List ℕ → Bool) (v w x y z last : List ℕ → Read SelKind A) → Near S a → Near S b → Near S c → Near S d → Near S e → Local S v → Local S w → Local S x → Local S y → Local S z → Local S last
      → Local S (λ t. five (a t) (b t) (c t) (d t) (e t) (v t) (w t) (x t) (y t) (z t) (last t))
  five_local a b c d e v w x y z last na nb nc nd ne lv lw lx ly lz ln =
      cond_local S a v (λ t. cond (b t) (w t) (cond (c t) (x t) (cond (d t) (y t) (cond (e t) (z t) (last t))))) na lv
      (cond_local S b w (λ t. cond (c t) (x t) (cond (d t) (y t) (cond (e t) (z t) (last t)))) nb lw
      (cond_local S c x (λ t. cond (d t) (y t) (cond (e t) (z t) (last t))) nc lx
      (cond_local S d y (λ t. cond (e t) (z t) (last t)) nd ly
      (cond_local S e z last ne lz ln))))

  plain_local : Local S plain_five
  plain_local = five_local {A = TextOp × Bool} (is_at 61) (λ t. is_at 61 (drop 1 t) && is_at 94 t) (λ t. is_at 61 (drop 1 t) && is_at 36 t) (λ t. is_at 61 (drop 1 t) && is_at 42 t) (λ t. is_at 61 (drop 1 t) && is_at 126 t)
      (λ t. op_done texts.Eq false (drop 1 t)) (λ t. op_done texts.Prefix false (drop 1 (drop 1 t))) (λ t. op_done texts.Suffix false (drop 1 (drop 1 t))) (λ t. op_done texts.Contains false (drop 1 (drop 1 t))) (λ t. op_done texts.Matches false (drop 1 (drop 1 t))) no_op
      (is_at_near S 61) (two_near 94 (sees.wide 94)) (two_near 36 (sees.wide 36)) (two_near 42 (sees.wide 42)) (two_near 126 (sees.wide 126))
      (op_taken_1 texts.Eq false) (op_taken_2 texts.Prefix false) (op_taken_2 texts.Suffix false) (op_taken_2 texts.Contains false) (op_taken_2 texts.Matches false) (stop_local S Syntax)

  negated_local : Local S negated_five
  negated_local =
      let bang : first 33 ≡ true → 2 ≤ n = λ h. (let le : 3 ≤ n = sees.wide 33 h in omega (arith, le)) in
      five_local {A = TextOp × Bool} (λ t. is_at 33 t && is_at 61 (drop 1 t)) (λ t. is_at 33 t && (is_at 61 (drop 1 (drop 1 t)) && is_at 94 (drop 1 t))) (λ t. is_at 33 t && (is_at 61 (drop 1 (drop 1 t)) && is_at 36 (drop 1 t))) (λ t. is_at 33 t && (is_at 61 (drop 1 (drop 1 t)) && is_at 42 (drop 1 t))) (λ t. is_at 33 t && (is_at 61 (drop 1 (drop 1 t)) && is_at 126 (drop 1 t)))
      (λ t. op_done texts.Eq true (drop 1 (drop 1 t))) (λ t. op_done texts.Prefix true (drop 1 (drop 1 (drop 1 t)))) (λ t. op_done texts.Suffix true (drop 1 (drop 1 (drop 1 t)))) (λ t. op_done texts.Contains true (drop 1 (drop 1 (drop 1 t)))) (λ t. op_done texts.Matches true (drop 1 (drop 1 (drop 1 t)))) no_op
      (equal_near 33 bang) (three_near 94 (sees.wide 33) (sees.wide 94)) (three_near 36 (sees.wide 33) (sees.wide 36)) (three_near 42 (sees.wide 33) (sees.wide 42)) (three_near 126 (sees.wide 33) (sees.wide 126))
      (op_taken_2 texts.Eq true) (op_taken_3 texts.Prefix true) (op_taken_3 texts.Suffix true) (op_taken_3 texts.Contains true) (op_taken_3 texts.Matches true) (stop_local S Syntax)

  text_op_local : Local S text_op_at
  text_op_local = same_local S (λ t. cond (is_at 33 t) (negated_five t) (plain_five t)) text_op_at text_op_is (cond_local S (is_at 33) negated_five plain_five (is_at_near S 33) negated_local plain_local)

  -- ---- `?`

  with_local : {A : Type 0} (v : Bool) (value : List ℕ → Read SelKind A) → Local S value → Local S (with_mark v value)
  with_local v value law = then_local S value (λ x r. Ok ((v, x), r)) law (λ x. pure_local S (v, x))

  marked_local : {A : Type 0} (value : List ℕ → Read SelKind A) → Local S value → Local S (marked_at value)
  unfolding marked_at
  marked_local value law =
      same_local S (λ t. cond (has_mark t) (with_mark true value (drop 1 (skip t))) (with_mark false value t)) (λ t. value (behind_mark t) >>= λ x. Ok ((has_mark t, x.0), x.1))
      (λ t. marked_by (has_mark t) value t (drop 1 (skip t)))
      (cond_local S has_mark (λ t. with_mark true value (drop 1 (skip t))) (with_mark false value) (skip_near S (is_at 63) sees.none (is_at_near S 63))
      (skip_local S (λ t. with_mark true value (drop 1 t)) sees.none (drop_local S 1 (with_mark true value) (with_local true value law))) (with_local false value law))

  -- ---- values

  closed_shrinks : (quote : ℕ) (t : List ℕ) (o : Option (List ℕ × List ℕ)) → unquoted quote false (drop 1 t) ≡ o → Shrinks S t (closed_quote t o)
  closed_shrinks quote t (Some x) e =
      let n = unquoted_end quote (drop 1 t) false x e in
      (take 1 t ++ n.0, sym (take-append-drop 1 t) ∙ ap (λ (l : List ℕ). take 1 t ++ l) n.2 ∙ sym (append_assoc (take 1 t) n.0 x.1))
  closed_shrinks quote t None e = λ l. absurd (false_true l)

  closed_moves : (quote : ℕ) (s c d : List ℕ) (o : Option (List ℕ × List ℕ)) → unquoted quote false (drop 1 (s ++ c)) ≡ o → Within S c (closed_quote (s ++ c) o)
      → Moved c d (closed_quote (s ++ c) o) (closed_quote (s ++ d) (unquoted quote false (drop 1 (s ++ d))))
  closed_moves quote s c d None e h = absurd (false_true h.0)
  closed_moves quote [] c d (Some x) e h =
      let n = unquoted_end quote (drop 1 c) false x e in
      absurd (omega (arith, h, n.1, ap length n.2, length-append n.0 x.1, length-drop 1 c))
  closed_moves quote (b ∷ s) c d (Some x) e h =
      let m = unquoted_moves quote s c d false x e h in
      (m.0, m.1, ap (closed_quote (b ∷ (s ++ d))) m.2)

  closed_local : (quote : ℕ) → Local S (λ t. closed_quote t (unquoted quote false (drop 1 t)))
  closed_local quote = record {
    shrinks = λ t. closed_shrinks quote t (unquoted quote false (drop 1 t)) refl;
    moves = λ s c d w h. closed_moves quote s c d (unquoted quote false (drop 1 (s ++ c))) refl h;
  }

  text_value_local : Local S text_value_at
  unfolding text_value_at
  text_value_local =
      cond_local S (is_at 34) (λ t. closed_quote t (unquoted 34 false (drop 1 t))) (λ t. cond (is_at 39 t) (closed_quote t (unquoted 39 false (drop 1 t))) (run_at Syntax is_value_byte t)) (is_at_near S 34) (closed_local 34)
      (cond_local S (is_at 39) (λ t. closed_quote t (unquoted 39 false (drop 1 t))) (run_at Syntax is_value_byte) (is_at_near S 39) (closed_local 39) (run_local S Syntax is_value_byte))

  abbrev held : Bool → List ℕ → List ℕ → List ℕ → Read SelKind (List ℕ)
  held v t value r = cond v (Ok (value, r)) (Err (Regex, length (value_start t)))

  held_shrinks : (v : Bool) (t value r : List ℕ) → Shrinks S r (held v t value r)
  held_shrinks true t value r = ([], refl)
  held_shrinks false t value r = λ l. absurd (false_true l)

  held_moves : (v : Bool) (value s q c d : List ℕ) → Within S c (held v (s ++ c) value (q ++ c)) → Moved c d (held v (s ++ c) value (q ++ c)) (held v (s ++ d) value (q ++ d))
  held_moves true value s q c d h = (q, refl, refl)
  held_moves false value s q c d h = absurd (false_true h.0)

  tested_local : (op : TextOp) → Local S (tested_at op)
  unfolding tested_at
  tested_local op = bind_local S text_value_at (λ t value r. held (can_have op value) t value r) text_value_local
      (λ t value r. held_shrinks (can_have op value) t value r) (λ value s q c d w h. held_moves (can_have op value) value s q c d h)

  -- ---- the whole

  ended_local : (x : PlainFilter) → Local S (ended x)
  ended_local x = skip_local S (λ t. cond (is_at 93 t) (Ok (x, drop 1 t)) (Err (Syntax, length t))) sees.none
      (cond_local S (is_at 93) (λ t. Ok (x, drop 1 t)) (λ t. Err (Syntax, length t)) (is_at_near S 93) (drop_local S 1 (λ t. Ok (x, t)) (pure_local S x)) (stop_local S Syntax))

  num_local : (field : NumField) → Local S (num_filter_at field)
  unfolding num_filter_at
  num_local field = then_local S (λ t. num_op_at (skip t)) (num_rest field) (skip_local S num_op_at sees.none num_op_local)
      (λ op. then_local S (marked_at num_value) (λ value. ended (num_made field op value)) (marked_local num_value (skip_local S num_value_at sees.none num_value_local)) (λ value. ended_local (num_made field op value)))

  text_local : (field : TextField) → Local S (text_filter_at field)
  unfolding text_filter_at
  text_local field = then_local S (λ t. text_op_at (skip t)) (text_rest field) (skip_local S text_op_at sees.none text_op_local)
      (λ op. then_local S (marked_at (text_value op.0)) (λ value. ended (text_made field op value)) (marked_local (text_value op.0) (skip_local S (tested_at op.0) sees.none (tested_local op.0))) (λ value. ended_local (text_made field op value)))

  tail_local : (field : FieldName) → Local S (tail_at field)
  tail_local (names.Num field) = num_local field
  tail_local (names.Text field) = text_local field

  pub filter_local : Local S filter_at
  unfolding filter_at
  filter_local = then_local S (λ t. field_at (skip t)) tail_at (skip_local S field_at sees.none field_local) tail_local
