-- Laws of contents.
use Rattle.std.proofs.Common.{◌≡◌, ℕ, zero, suc, ◌+◌, ◌-◌, ◌<◌, ◌≤◌, List, [], ◌∷◌, ◌++◌, length, take, drop, sym, ap, ◌∙◌, arith, append_assoc, length-append, inl, inr}
use Rattle.std.proofs.lemmas.Bool.{cond-true, cond-false, lt-ltb, le-ltb, cases_lt}
use Rattle.http_reply.specs.declared.stop.Stop.TheVariants.{Cut}
use Rattle.http_reply.specs.Content.{Content, stopped, behind}
use Rattle.http_reply.specs.Chunked.{Rest, in_data, after_data}

pub behind-behind : (xs ys : List ℕ) (c : Content) → behind xs (behind ys c) ≡ behind (xs ++ ys) c
behind-behind xs ys c = let e = append_assoc xs ys c.bytes in cc

pub take_past : (xs ys : List ℕ) (n : ℕ) → length xs ≤ n → take n (xs ++ ys) ≡ xs ++ take (n - length xs) ys
take_past [] ys n h = grind arith
take_past (x ∷ xs) ys zero h = grind arith
take_past (x ∷ xs) ys (suc n) h = let e : take n (xs ++ ys) ≡ xs ++ take (n - length xs) ys = take_past xs ys n (omega arith) in grind (arith, e)

pub drop_past : (xs ys : List ℕ) (n : ℕ) → length xs ≤ n → drop n (xs ++ ys) ≡ drop (n - length xs) ys
drop_past [] ys n h = grind arith
drop_past (x ∷ xs) ys zero h = grind arith
drop_past (x ∷ xs) ys (suc n) h = let e : drop n (xs ++ ys) ≡ drop (n - length xs) ys = drop_past xs ys n (omega arith) in grind (arith, e)

pub in_data-short : (next : Rest) (left at sum : ℕ) (bytes : List ℕ) → length bytes < left
    → in_data next left at sum bytes ≡ behind bytes (stopped Cut)
in_data-short next left at sum bytes short = cond-true _ _ _ (lt-ltb _ _ short)

pub in_data-long : (next : Rest) (left at sum : ℕ) (bytes : List ℕ) → left ≤ length bytes
    → in_data next left at sum bytes ≡ behind (take left bytes) (after_data next (at + left) sum (drop left bytes))
in_data-long next left at sum bytes long = cond-false _ _ _ (le-ltb _ _ long)

-- What is at hand is no more than what is left of the chunk.
pub in_data-append : (next : Rest) (left at sum : ℕ) (window later : List ℕ) → length window ≤ left
    → in_data next left at sum (window ++ later)
    ≡ behind window (in_data next (left - length window) (at + length window) sum later)
in_data-append next left at sum window later short =
    elim (cases_lt (length later) (left - length window)) [
      | inl less ↦
          in_data-short next left at sum (window ++ later) (omega (arith, length-append window later))
          ∙ sym (behind-behind window later (stopped Cut))
          ∙ ap (behind window) (sym (in_data-short next (left - length window) (at + length window) sum later less))
      | inr more ↦
          let place : at + left ≡ at + length window + (left - length window) = omega arith in
          in_data-long next left at sum (window ++ later) (omega (arith, length-append window later))
          ∙ rw (take_past window later left short, drop_past window later left short, place) (sym (behind-behind window (take (left - length window) later) _))
          ∙ ap (behind window) (sym (in_data-long next (left - length window) (at + length window) sum later more))
    ]
