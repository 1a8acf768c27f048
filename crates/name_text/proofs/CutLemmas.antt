-- The last place between two characters, at a place or before it.
use Rattle.std.proofs.Common.{◌≡◌, ℕ, zero, suc, ◌<◌, ◌≤◌, List, length, get_or, take, true, false, refl, sym, ap, subst, ◌∙◌, arith, inl, inr}
use Rattle.std.specs.Fmt.{is_char_start}
use Rattle.std.specs.Fmt.Cut.{floor_char_boundary}
use Rattle.std.specs.Str.{IsCharBoundary}
use Rattle.std.proofs.Math.Seq.{take-length}
use Rattle.std.proofs.lemmas.Bool.{cases_lt}
use Rattle.std.proofs.lemmas.Str.{IsCharBoundary-end}
use Rattle.name_text.specs.Cut.{byte_cut}
use borrow.Author.Tests.{lt-ltb, le-ltb, le-leb, lt-leb}

-- the place is the last one between two characters, at i or before
abbrev pub IsLastBoundary : List ℕ → ℕ → ℕ → Type 0
IsLastBoundary bs i end = (end ≤ i) × IsCharBoundary bs end × ((j : ℕ) → end < j → j ≤ i → ¬ (IsCharBoundary bs j))

starts : (b : ℕ) → (128 ≤ b → 192 ≤ b) → is_char_start b ≡ true
starts b h = elim (cases_lt b 128) [
  | inl low ↦ rw (lt-ltb b 128 low) refl
  | inr high ↦ rw (le-ltb b 128 high, le-leb 192 b (h high)) refl
]

continues : (b : ℕ) → ¬ (128 ≤ b → 192 ≤ b) → is_char_start b ≡ false
continues b h = elim (cases_lt b 128) [
  | inl low ↦ absurd (h (λ high. omega arith))
  | inr high ↦ elim (cases_lt b 192) [
    | inl mid ↦ rw (le-ltb b 128 high, lt-leb 192 b mid) refl
    | inr top ↦ absurd (h (λ _. top))
  ]
]

boundary_is : (bs : List ℕ) (i end : ℕ) → i < length bs → IsLastBoundary bs i end → floor_char_boundary bs i ≡ end
unfolding floor_char_boundary
boundary_is bs zero end within last = omega arith
boundary_is bs (suc i) end within last = elim (cases_lt end (suc i)) [
  | inl below ↦
      let no : is_char_start (get_or bs (suc i) 0) ≡ false = continues (get_or bs (suc i) 0) (λ h. last.2 (suc i) below (omega arith) (omega arith, λ _. h)) in
      rw no (boundary_is bs i end (omega arith) (omega arith, last.1, λ j p q. last.2 j p (omega arith)))
  | inr above ↦
      let same : end ≡ suc i = omega arith in
      let yes : is_char_start (get_or bs (suc i) 0) ≡ true = starts (get_or bs (suc i) 0) ((subst (IsCharBoundary bs) same last.1).1 within) in
      rw yes (sym same)
]

pub cut_is : (text : List ℕ) (n end : ℕ) → end ≤ n → IsCharBoundary text end → ((i : ℕ) → end < i → i ≤ n → ¬ (IsCharBoundary text i)) → byte_cut n text ≡ take end text
cut_is text n end bound boundary nearest = elim (cases_lt n (length text)) [
  | inl long ↦ rw (lt-leb (length text) n long, boundary_is text n end long (bound, boundary, nearest)) refl
  | inr short ↦
      elim (cases_lt end (length text)) [
        | inl before ↦ absurd (nearest (length text) before short (IsCharBoundary-end text))
        | inr after ↦
            let all : end ≡ length text = omega (arith, boundary.0) in
            rw (le-leb (length text) n short) (sym (take-length text) ∙ ap (λ k. take k text) (sym all))
      ]
]
