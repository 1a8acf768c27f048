-- A settled fault of a path stays.
use Rattle.std.proofs.Common.{◌≡◌, ℕ, ◌≤◌, Bool, true, false, ◌&&◌, ◌||◌, not, cond, eqb, ltb, leb, List, [], ◌∷◌, ◌++◌, length, drop, Option, Some, None, Ok, Err, refl, sym, ap, ◌∙◌, arith}
use Rattle.std.specs.Prelude.{◌==◌, ℤ}
use Rattle.std.specs.List.{prefix_len}
use Rattle.text_base.specs.Spelling.{is_digit}
use Rattle.read_base.specs.Reads.{◌>>=◌, is_at, mark_at, all_at}
use Rattle.tpl_lang.specs.declared.tpl_kind.TplKind.TheVariants.{Syntax, Step}
use Rattle.tpl_lang.specs.declared.key.Key.TheVariants as keys
use Rattle.tpl_lang.specs.Bytes.{is_word_byte, has_word}
use Rattle.tpl_lang.specs.Ints.{begins_int, int_value, int_at}
use Rattle.tpl_lang.specs.Keys.{word_at, braces_at, has_bound, bound_at, is_zero, step_at, last_at, slice_behind, int_key_at, key_at, path_behind, path_at}
use Rattle.tpl_lang.specs.Spelled.{IsSomeRun, IsKey}
use Rattle.tpl_lang.proofs.PathSpells.{word_spells, key_spells}
use Rattle.std.proofs.lemmas.Bool.{or_from, both_ways}
use Rattle.std.specs.Prelude.{◌==◌}
use Rattle.read_base.specs.Reads.{◌>>=◌, is_at, mark_at, all_at}
use Rattle.read_base.proofs.LocalLemmas.{pure_local, stop_local, cond_local, drop_local, bind_local, then_local, same_local, mark_local, run_local, is_at_near, and_near}
use Rattle.read_base.specs.Laws.{Shrinks, Within, Moved}
use Rattle.tpl_lang.specs.Places.{settling}
use Rattle.tpl_lang.proofs.OpenLemmas.{Reading, cut_run}
use Rattle.tpl_lang.proofs.PathOpen.{digits_at, minus_then, int_by_digits, int_same, some_int, no_int, int_behind, word_key}
use Rattle.tpl_lang.proofs.StayLemmas.{Stays, Near_here, free_word, free_minus, some_length, digits_near, behind_near, not_near, or_near, word_near, total_local, list_local}

-- ---- ints

digits_local : Stays digits_at
digits_local =
    cond_local settling (λ u. eqb (prefix_len is_digit u) 0) (λ u. Err (Syntax, length u)) (λ u. cond (ltb 18 (prefix_len is_digit u)) (Err (Syntax, length (drop 18 u))) (cond (has_word (drop (prefix_len is_digit u) u)) (Err (Syntax, length (drop (prefix_len is_digit u) u))) (cut_run (prefix_len is_digit u) u)))
    (digits_near (λ n. eqb n 0)) (stop_local settling Syntax)
    (cond_local settling (λ u. ltb 18 (prefix_len is_digit u)) (λ u. Err (Syntax, length (drop 18 u))) (λ u. cond (has_word (drop (prefix_len is_digit u) u)) (Err (Syntax, length (drop (prefix_len is_digit u) u))) (cut_run (prefix_len is_digit u) u))
    (digits_near (λ n. ltb 18 n)) (drop_local settling 18 (λ t. Err (Syntax, length t)) (stop_local settling Syntax))
    (cond_local settling (λ u. has_word (drop (prefix_len is_digit u) u)) (λ u. Err (Syntax, length (drop (prefix_len is_digit u) u))) (λ u. cut_run (prefix_len is_digit u) u) (behind_near has_word word_near)
    (then_local settling (λ u. cut_run (prefix_len is_digit u) u) (λ x r. Err (Syntax, length r)) (total_local is_digit (λ x. x)) (λ x. stop_local settling Syntax))
    (total_local is_digit (λ x. x))))

int_local : Stays int_at
int_local = same_local settling int_by_digits int_at (λ t. int_same (is_at 45 t) t refl)
    (cond_local settling (is_at 45) (λ t. digits_at (drop 1 t) >>= minus_then) digits_at (is_at_near settling 45)
    (drop_local settling 1 (λ u. digits_at u >>= minus_then) (then_local settling digits_at (λ d r. Ok (45 ∷ d, r)) digits_local (λ d. pure_local settling (45 ∷ d)))) digits_local)

pub begins_near : Near_here begins_int
begins_near = and_near settling (λ t. leb 1 (prefix_len is_digit t) && leb (prefix_len is_digit t) 18) (λ t. not (has_word (drop (prefix_len is_digit t) t))) (digits_near (λ n. leb 1 n && leb n 18)) (behind_near (λ u. not (has_word u)) (not_near has_word word_near))

-- ---- slices

bound_free : (a : ℕ) (t : List ℕ) → is_word_byte a ≡ false → (a == 45) ≡ false → has_bound (a ∷ t) ≡ false
bound_free a t h k = or_from (is_word_byte a) ((a == 45) && begins_int t) h (ap (λ (m : Bool). m && begins_int t) k)

bound_near : Near_here has_bound
bound_near [] c d w =
    (ap has_bound w.one ∙ bound_free w.a (w.w ++ w.u) (free_word c d w) (free_minus c d w)) ∙ sym (ap has_bound w.other ∙ bound_free w.a (w.w ++ w.v) (free_word c d w) (free_minus c d w))
bound_near (b ∷ s) c d w = ap (λ (i : Bool). is_word_byte b || ((b == 45) && i)) (begins_near s c d w)

bound_local : Stays bound_at
unfolding bound_at
bound_local = cond_local settling has_bound (λ t. int_at t >>= some_int) no_int bound_near (then_local settling int_at (λ n r. Ok (Some (int_value n), r)) int_local (λ n. pure_local settling (Some (int_value n)))) (pure_local settling None)

abbrev step_of : List ℕ → Option ℤ → List ℕ → Reading (Option ℤ)
step_of t x r = cond (is_zero x) (cond (eqb (length r) 0) (Err (Syntax, 0)) (Err (Step, length t))) (Ok (x, r))

step_shrinks : (z e : Bool) (t : List ℕ) (x : Option ℤ) (r : List ℕ) → Shrinks settling r (cond z (cond e (Err (Syntax, 0)) (Err (Step, length t))) (Ok (x, r)))
step_shrinks true true t x r = λ l. omega arith
step_shrinks true false t x r = λ l. absurd cc
step_shrinks false e t x r = ([], refl)

step_moves : (z e e' : Bool) (l l' : ℕ) (x : Option ℤ) (q c d : List ℕ) → 1 ≤ length c → Within settling c (cond z (cond e (Err (Syntax, 0)) (Err (Step, l))) (Ok (x, q ++ c)))
    → Moved c d (cond z (cond e (Err (Syntax, 0)) (Err (Step, l))) (Ok (x, q ++ c))) (cond z (cond e' (Err (Syntax, 0)) (Err (Step, l'))) (Ok (x, q ++ d)))
step_moves true true e' l l' x q c d some h = absurd (omega (arith, some, h.1))
step_moves true false e' l l' x q c d some h = absurd (both_ways false refl h.0)
step_moves false e e' l l' x q c d some h = (q, refl, refl)

step_local : Stays step_at
unfolding step_at
step_local = bind_local settling bound_at step_of bound_local (λ t x r. step_shrinks (is_zero x) (eqb (length r) 0) t x r)
    (λ x s q c d w h. step_moves (is_zero x) (eqb (length (q ++ c)) 0) (eqb (length (q ++ d)) 0) (length (s ++ c)) (length (s ++ d)) x q c d (some_length c d w) h)

last_local : Stays last_at
last_local = cond_local settling (is_at 58) (λ t. step_at (drop 1 t)) no_int (is_at_near settling 58) (drop_local settling 1 step_at step_local) (pure_local settling None)

slice_local : (from : Option ℤ) → Stays (slice_behind from)
unfolding slice_behind
slice_local from = then_local settling bound_at (λ to r. last_at r >>= λ step. Ok (keys.Slice (record { from = from; to = to; step = step.0 }), step.1)) bound_local
    (λ to. then_local settling last_at (λ step r. Ok (keys.Slice (record { from = from; to = to; step = step }), r)) last_local (λ step. pure_local settling (keys.Slice (record { from = from; to = to; step = step }))))

-- ---- keys

int_behind_local : (n : List ℕ) → Stays (int_behind n)
int_behind_local n = cond_local settling (is_at 58) (λ t. slice_behind (Some (int_value n)) (drop 1 t)) (λ t. Ok (keys.Int n (int_value n), t)) (is_at_near settling 58) (drop_local settling 1 (slice_behind (Some (int_value n))) (slice_local (Some (int_value n)))) (pure_local settling (keys.Int n (int_value n)))

int_key_local : Stays int_key_at
unfolding int_key_at
int_key_local = then_local settling int_at int_behind int_local int_behind_local

pub word_local : Stays word_at
word_local = run_local settling Syntax is_word_byte

word_key_local : Stays word_key
word_key_local = then_local settling word_at (λ word r. Ok (keys.Word word, r)) word_local (λ word. pure_local settling (keys.Word word))

braces_local : Stays braces_at
unfolding braces_at
braces_local = then_local settling word_at (λ first r. all_at (is_at 44) (λ u. word_at (drop 1 u)) r >>= λ others. mark_at Syntax 125 others.1 >>= λ rest. Ok (first ∷ others.0, rest)) word_local
    (λ first. then_local settling (all_at (is_at 44) (λ u. word_at (drop 1 u))) (λ others r. mark_at Syntax 125 r >>= λ rest. Ok (first ∷ others, rest)) (list_local 44 word_at (IsSomeRun is_word_byte) word_spells word_local)
    (λ others. mark_local settling Syntax 125 (λ rest. Ok (first ∷ others, rest)) (pure_local settling (first ∷ others))))

key_local : Stays key_at
unfolding key_at
key_local = cond_local settling (is_at 123) (λ t. braces_at (drop 1 t) >>= λ words. Ok (keys.Braces words.0, words.1)) (λ t. cond (is_at 58 t) (slice_behind None (drop 1 t)) (cond (is_at 45 t || begins_int t) (int_key_at t) (word_key t))) (is_at_near settling 123)
    (drop_local settling 1 (λ t. braces_at t >>= λ words. Ok (keys.Braces words.0, words.1)) (then_local settling braces_at (λ words r. Ok (keys.Braces words, r)) braces_local (λ words. pure_local settling (keys.Braces words))))
    (cond_local settling (is_at 58) (λ t. slice_behind None (drop 1 t)) (λ t. cond (is_at 45 t || begins_int t) (int_key_at t) (word_key t)) (is_at_near settling 58) (drop_local settling 1 (slice_behind None) (slice_local None))
    (cond_local settling (λ t. is_at 45 t || begins_int t) int_key_at word_key (or_near (is_at 45) begins_int (is_at_near settling 45) begins_near) int_key_local word_key_local))

-- ---- paths

pub path_behind_local : (word : List ℕ) → Stays (path_behind word)
unfolding path_behind
path_behind_local word = then_local settling (all_at (is_at 46) (λ u. key_at (drop 1 u))) (λ keys r. Ok (record { word = word; keys = keys }, r)) (list_local 46 key_at IsKey key_spells key_local) (λ keys. pure_local settling (record { word = word; keys = keys }))

pub path_local : Stays path_at
unfolding path_at
path_local = then_local settling (λ t. cut_run (prefix_len is_word_byte t) t) path_behind (total_local is_word_byte (λ x. x)) path_behind_local
