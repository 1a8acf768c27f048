-- The first place of a byte.
use Rattle.std.proofs.Common.{◌≡◌, ℕ, ◌<◌, ◌≤◌, List, length, get_or, arith}
use Rattle.std.specs.Prelude.{◌==◌, false}
use Rattle.std.specs.List.{position_or_len}
use Rattle.std.proofs.lemmas.List.Sums.{position_or_len_is}
use Rattle.std.proofs.lemmas.Bool.{eq-eqb}

pub first_at : (byte : ℕ) (text : List ℕ) (i : ℕ) → i < length text → ((k : ℕ) → k < i → (get_or text k 0 == byte) ≡ false)
    → get_or text i 0 ≡ byte → position_or_len (λ b. b == byte) text ≡ i
first_at byte text i within others is =
    position_or_len_is (λ b. b == byte) text i 0 (omega arith) others (λ _. eq-eqb _ _ is)

pub first_none : (byte : ℕ) (text : List ℕ) (i : ℕ) → length text ≤ i → ((k : ℕ) → k < i → (get_or text k 0 == byte) ≡ false)
    → position_or_len (λ b. b == byte) text ≡ length text
first_none byte text i past others =
    position_or_len_is (λ b. b == byte) text (length text) 0 (omega arith) (λ k less. others k (omega arith)) (λ less. absurd (omega arith))
