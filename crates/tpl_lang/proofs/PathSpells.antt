-- A path that is taken is spelled so.
use Rattle.std.proofs.Common.{◌≡◌, ℕ, suc, ◌+◌, Bool, true, false, ◌||◌, cond, eqb, List, [], ◌∷◌, length, take, drop, Option, Some, None, Ok, Err, refl, sym, ap, subst, ◌∙◌, arith, inl, inr, ◌⊎◌}
use Rattle.std.specs.Prelude.{ℤ}
use Rattle.std.specs.List.{prefix_len}
use Rattle.std.proofs.lemmas.Bool.{eqb-true}
use Rattle.std.proofs.lemmas.List.{take-append-drop, drop-drop}
use Rattle.std.proofs.lemmas.List.Folds.{length-prefix_len}
use Rattle.text_base.specs.Spelling.{is_digit}
use Rattle.read_base.specs.Reads.{◌>>=◌, is_at, mark_at, all_at}
use Rattle.read_base.proofs.StepLemmas.{bind_ok, ok_is, chosen, marked, mark_is, run_all}
use Rattle.tpl_lang.specs.declared.tpl_kind.TplKind.{TplKind}
use Rattle.tpl_lang.specs.declared.tpl_kind.TplKind.TheVariants.{Syntax, Step}
use Rattle.tpl_lang.specs.declared.key.Key.{Key}
use Rattle.tpl_lang.specs.declared.key.Key.TheVariants as keys
use Rattle.tpl_lang.specs.Bytes.{is_word_byte, has_word}
use Rattle.tpl_lang.specs.Ints.{begins_int, minus_length, int_value, int_length, int_at}
use Rattle.tpl_lang.specs.Keys.{word_at, braces_at, has_bound, bound_at, is_zero, step_at, last_at, slice_behind, int_key_at, key_at, path_behind, path_at}
use Rattle.tpl_lang.specs.Spelled.{IsEnd, Marked, IsSomeRun, IsInt, IsBraces, IsBound, IsLast, IsSlice, IsIntKey, IsKey, IsPathBehind, IsPath}
use Rattle.read_base.specs.Spelled.{AreAll}
use Rattle.tpl_lang.proofs.IntLemmas.{int_length_is}
use Rattle.tpl_lang.proofs.SpellsLemmas.{TakesSo, SpellsSo, end_spells, follows_spells, list_spells, run_spells, some_run_spells}

int_text : (c : Bool) (t : List ℕ) (n : ℕ) → is_at 45 t ≡ c → (take (cond c 1 0 + n) t ≡ take n (drop (cond c 1 0) t)) ⊎ (take (cond c 1 0 + n) t ≡ 45 ∷ take n (drop (cond c 1 0) t))
int_text false t n h = let none : 0 + n ≡ n = omega arith in inl (ap (λ (k : ℕ). take k t) none)
int_text true [] n h = absurd cc
int_text true (b ∷ u) n h = let one : suc n ≡ 1 + n = omega arith in inr (subst (λ (k : ℕ). take k (b ∷ u) ≡ 45 ∷ take n u) one (ap (λ (d : ℕ). d ∷ take n u) (eqb-true b 45 h)))

pub int_spells : SpellsSo int_at IsInt
unfolding int_at
int_spells t p e =
    let m = minus_length t in
    let a = bind_ok (int_length (drop m t)) (λ n. Ok (take (m + n) t, drop (m + n) t)) p e in
    let n = a.0 in
    let good = int_length_is (drop m t) n a.1 in
    let all : AreAll is_digit (take n (drop m t)) = subst (λ (k : ℕ). AreAll is_digit (take k (drop m t))) good.len (run_all is_digit (drop m t)) in
    let len : length (take n (drop m t)) ≡ n = subst (λ (k : ℕ). length (take k (drop m t)) ≡ k) good.len (length-prefix_len is_digit (drop m t)) in
    let ends : has_word (drop (m + n) t) ≡ false = ap has_word (sym (drop-drop n m t)) ∙ good.ends in
    let made : List ℕ × List ℕ = (take (m + n) t, drop (m + n) t) in
    let taken : TakesSo IsInt t made = (
      take (m + n) t,
      (take n (drop m t), all, omega (arith, len, good.some), omega (arith, len, good.few), ends, int_text (is_at 45 t) t n refl, refl),
      sym (take-append-drop (m + n) t),
    ) in
    subst (λ (q : List ℕ × List ℕ). TakesSo IsInt t q) (ok_is {K = TplKind} made p a.2) taken

pub word_spells : SpellsSo word_at (IsSomeRun is_word_byte)
word_spells = some_run_spells Syntax is_word_byte

close_spells : (first : List ℕ) (others : List (List ℕ)) → SpellsSo (λ t. mark_at Syntax 125 t >>= λ rest. Ok (first ∷ others, rest)) (λ text rest words. (text ≡ 125 ∷ []) × (words ≡ first ∷ others))
close_spells first others t p e =
    let a = bind_ok (mark_at Syntax 125 t) (λ rest. Ok (first ∷ others, rest)) p e in
    let made : List (List ℕ) × List ℕ = (first ∷ others, a.0) in
    let taken : TakesSo (λ text rest words. (text ≡ 125 ∷ []) × (words ≡ first ∷ others)) t made = (125 ∷ [], (refl, refl), mark_is Syntax 125 t a.0 a.1) in
    subst (λ (q : List (List ℕ) × List ℕ). TakesSo (λ text rest words. (text ≡ 125 ∷ []) × (words ≡ first ∷ others)) t q) (ok_is {K = TplKind} made p a.2) taken

pub braces_spells : SpellsSo braces_at IsBraces
unfolding braces_at
braces_spells = follows_spells word_at (λ first r. all_at (is_at 44) (λ u. word_at (drop 1 u)) r >>= λ others. mark_at Syntax 125 others.1 >>= λ rest. Ok (first ∷ others.0, rest)) _ _ word_spells
    (λ first. follows_spells (all_at (is_at 44) (λ u. word_at (drop 1 u))) (λ others r. mark_at Syntax 125 r >>= λ rest. Ok (first ∷ others, rest)) _ _ (list_spells 44 word_at (IsSomeRun is_word_byte) word_spells) (λ others. close_spells first others))

pub bound_spells : SpellsSo bound_at IsBound
unfolding bound_at
bound_spells t p e = elim (chosen (has_bound t) _ _ _ e) [
  | inl h ↦
      let a = bind_ok (int_at t) (λ n. Ok (Some (int_value n.0), n.1)) p h.1 in
      let one = int_spells t a.0 a.1 in
      let made : Option ℤ × List ℕ = (Some (int_value a.0.0), a.0.1) in
      let taken : TakesSo IsBound t made = (one.0, (ap has_bound (sym one.2) ∙ h.0, a.0.0, one.1, refl), one.2) in
      subst (λ (q : Option ℤ × List ℕ). TakesSo IsBound t q) (ok_is {K = TplKind} made p a.2) taken
  | inr h ↦
      let made : Option ℤ × List ℕ = (None, t) in
      let taken : TakesSo IsBound t made = ([], (refl, h.0), refl) in
      subst (λ (q : Option ℤ × List ℕ). TakesSo IsBound t q) (ok_is {K = TplKind} made p h.1) taken
]

abbrev pub IsStep : List ℕ → List ℕ → Option ℤ → Type 0
IsStep text rest n = IsBound text rest n × (is_zero n ≡ false)

step_spells : SpellsSo step_at IsStep
unfolding step_at
step_spells t p e =
    let a = bind_ok (bound_at t) (λ step. cond (is_zero step.0) (cond (eqb (length step.1) 0) (Err (Syntax, 0)) (Err (Step, length t))) (Ok step)) p e in
    elim (chosen (is_zero a.0.0) _ _ _ a.2) [
      | inl h ↦ elim (chosen (eqb (length a.0.1) 0) _ _ _ h.1) [
        | inl k ↦ absurd cc
        | inr k ↦ absurd cc
      ]
      | inr h ↦
          let one = bound_spells t a.0 a.1 in
          let taken : TakesSo IsStep t a.0 = (one.0, (one.1, h.0), one.2) in
          subst (λ (q : Option ℤ × List ℕ). TakesSo IsStep t q) (ok_is {K = TplKind} a.0 p h.1) taken
    ]

last_spells : SpellsSo last_at IsLast
last_spells t p e = elim (chosen (is_at 58 t) _ _ _ e) [
  | inl h ↦
      let one = step_spells (drop 1 t) p h.1 in
      (58 ∷ one.0, inr (one.0, one.1, refl), marked 58 t h.0 ∙ ap (λ (l : List ℕ). 58 ∷ l) one.2)
  | inr h ↦
      let made : Option ℤ × List ℕ = (None, t) in
      let taken : TakesSo IsLast t made = ([], inl (refl, h.0, refl), refl) in
      subst (λ (q : Option ℤ × List ℕ). TakesSo IsLast t q) (ok_is {K = TplKind} made p h.1) taken
]

pub slice_spells : (from : Option ℤ) → SpellsSo (slice_behind from) (IsSlice from)
unfolding slice_behind
slice_spells from = follows_spells bound_at (λ to r. last_at r >>= λ step. Ok (keys.Slice (record { from = from; to = to; step = step.0 }), step.1)) _ _ bound_spells
    (λ to. follows_spells last_at (λ step r. Ok (keys.Slice (record { from = from; to = to; step = step }), r)) _ _ last_spells (λ step. end_spells (keys.Slice (record { from = from; to = to; step = step }))))

abbrev pub IsIntEnd : List ℕ → List ℕ → List ℕ → Key → Type 0
IsIntEnd n text rest key = ((is_at 58 rest ≡ false) × IsEnd (keys.Int n (int_value n)) text rest key) ⊎ Marked 58 (IsSlice (Some (int_value n))) text rest key

int_end : (n : List ℕ) → SpellsSo (λ r. cond (is_at 58 r) (slice_behind (Some (int_value n)) (drop 1 r)) (Ok (keys.Int n (int_value n), r))) (IsIntEnd n)
int_end n t p e = elim (chosen (is_at 58 t) _ _ _ e) [
  | inl h ↦
      let one = slice_spells (Some (int_value n)) (drop 1 t) p h.1 in
      (58 ∷ one.0, inr (one.0, one.1, refl), marked 58 t h.0 ∙ ap (λ (l : List ℕ). 58 ∷ l) one.2)
  | inr h ↦
      let made : Key × List ℕ = (keys.Int n (int_value n), t) in
      let taken : TakesSo (IsIntEnd n) t made = ([], inl (h.0, (refl, refl)), refl) in
      subst (λ (q : Key × List ℕ). TakesSo (IsIntEnd n) t q) (ok_is {K = TplKind} made p h.1) taken
]

pub int_key_spells : SpellsSo int_key_at IsIntKey
unfolding int_key_at
int_key_spells = follows_spells int_at (λ n r. cond (is_at 58 r) (slice_behind (Some (int_value n)) (drop 1 r)) (Ok (keys.Int n (int_value n), r))) _ _ int_spells int_end

not_int : (a b : Bool) → a || b ≡ false → b ≡ false
not_int true b h = absurd cc
not_int false b h = h

pub key_spells : SpellsSo key_at IsKey
unfolding key_at
key_spells t p e = elim (chosen (is_at 123 t) _ _ _ e) [
  | inl h ↦
      let a = bind_ok (braces_at (drop 1 t)) (λ words. Ok (keys.Braces words.0, words.1)) p h.1 in
      let one = braces_spells (drop 1 t) a.0 a.1 in
      let made : Key × List ℕ = (keys.Braces a.0.0, a.0.1) in
      let taken : TakesSo IsKey t made = (123 ∷ one.0, inr (inr (inl (a.0.0, (one.0, one.1, refl), refl))), marked 123 t h.0 ∙ ap (λ (l : List ℕ). 123 ∷ l) one.2) in
      subst (λ (q : Key × List ℕ). TakesSo IsKey t q) (ok_is {K = TplKind} made p a.2) taken
  | inr h ↦ elim (chosen (is_at 58 t) _ _ _ h.1) [
    | inl k ↦
        let one = slice_spells None (drop 1 t) p k.1 in
        (58 ∷ one.0, inr (inl (one.0, one.1, refl)), marked 58 t k.0 ∙ ap (λ (l : List ℕ). 58 ∷ l) one.2)
    | inr k ↦ elim (chosen (is_at 45 t || begins_int t) _ _ _ k.1) [
      | inl w ↦ let one = int_key_spells t p w.1 in (one.0, inl one.1, one.2)
      | inr w ↦
          let a = bind_ok (word_at t) (λ word. Ok (keys.Word word.0, word.1)) p w.1 in
          let one = word_spells t a.0 a.1 in
          let made : Key × List ℕ = (keys.Word a.0.0, a.0.1) in
          let taken : TakesSo IsKey t made = (one.0, inr (inr (inr (a.0.0, one.1, ap begins_int (sym one.2) ∙ not_int (is_at 45 t) (begins_int t) w.0, refl))), one.2) in
          subst (λ (q : Key × List ℕ). TakesSo IsKey t q) (ok_is {K = TplKind} made p a.2) taken
    ]
  ]
]

pub path_behind_spells : (word : List ℕ) → SpellsSo (path_behind word) (IsPathBehind word)
unfolding path_behind
path_behind_spells word = follows_spells (all_at (is_at 46) (λ u. key_at (drop 1 u))) (λ keys r. Ok (record { word = word; keys = keys }, r)) _ _ (list_spells 46 key_at IsKey key_spells) (λ keys. end_spells (record { word = word; keys = keys }))

pub path_spells : SpellsSo path_at IsPath
unfolding path_at
path_spells = follows_spells (λ t. Ok (take (prefix_len is_word_byte t) t, drop (prefix_len is_word_byte t) t)) path_behind _ _ (run_spells is_word_byte) path_behind_spells
