-- From the mask of a block's comparisons to its first byte that passes a test, and from block to block.
use Rattle.std.proofs.Common.{◌≡◌, ℕ, ◌+◌, ◌-◌, ◌%◌, ◌^◌, ◌<◌, ◌≤◌, Bool, true, false, not, List, [], ◌∷◌, map, length, get_or, take, drop, refl, sym, ap, ap₂, ◌∙◌, subst, arith, inl, inr, get_or-take}
use Rattle.std.proofs.Math.Seq.{take-length}
use Rattle.std.proofs.lemmas.Bool.{agree_below, agree_below_at, not-true, not-false, cases_lt}
use Rattle.std.proofs.lemmas.Simd.{mask_l-mod, first_set_mask_l, Each1-from_get_or}
use Rattle.std.proofs.lemmas.List.{length-map, length-take, length-drop, get_or-drop}
use Rattle.std.proofs.lemmas.List.Sums.{prefix_len-le-length, prefix_len_passes, prefix_len_stops}
use Rattle.std.specs.List.{prefix_len}
use lib.Lanes.{mask_l, top, Each1}
use Rattle.text_base.specs.Scan.{first_set, IsFirst}

module _ (test : ℕ → Bool) (v z : List ℕ) (n r : ℕ) (long : length v ≡ n) (few : n ≤ 64) (fits : (k : ℕ) → get_or v k 0 < 256)
    (found : r ≡ first_set (mask_l (map (top 7) z) % 2 ^ 64) n) (f : ℕ → ℕ) (lanes : z ≡ map f v)
    (all : agree_below (λ x. top 7 (f x)) test 256 ≡ true) where
  each_byte : (xs : List ℕ) → Each1 (λ x. x < 256) xs → map (top 7) (map f xs) ≡ map test xs
  each_byte [] fit = refl
  each_byte (x ∷ xs) fit = ap₂ (λ a b. a ∷ b) (agree_below_at (λ y. top 7 (f y)) test 256 x all fit.0) (each_byte xs fit.1)

  mask : mask_l (map (top 7) z) % 2 ^ 64 ≡ mask_l (map test v)
  mask = ap (λ l. mask_l l % 2 ^ 64) (ap (map (top 7)) lanes ∙ each_byte v (Each1-from_get_or (λ x. x < 256) v 0 (λ k inside. fits k))) ∙ mask_l-mod (map test v) 64 (omega (arith, length-map v test, long))

  counted : r ≡ prefix_len (λ x. not (test x)) v
  counted = found ∙ (ap (λ m. first_set m n) mask ∙ first_set_mask_l test v n long few)

  -- a lane's top bit is set just where its byte passes, so the lowest bit is at the first such byte
  pub first_in_block : IsFirst test v 0 r
  first_in_block = record {
    after = omega arith;
    within = omega (arith, counted, prefix_len-le-length (λ x. not (test x)) v);
    before = λ k from to. not-true _ (prefix_len_passes (λ x. not (test x)) v k 0 (omega (arith, counted)));
    here = λ short. subst (λ j. test (get_or v j 0) ≡ true) (sym counted) (not-false _ (prefix_len_stops (λ x. not (test x)) v 0 (omega (arith, counted))));
  }

-- no byte passes between two places
abbrev pub NonePass : (ℕ → Bool) → List ℕ → ℕ → ℕ → Type 0
NonePass test bytes from to = (k : ℕ) → from ≤ k → k < to → test (get_or bytes k 0) ≡ false

module _ (test : ℕ → Bool) (bytes block : List ℕ) (from at place : ℕ) (room : 32 ≤ length (take (length bytes - at) (drop at bytes)))
    (is : block ≡ take 32 (take (length bytes - at) (drop at bytes)))
    (first : IsFirst test block 0 place) (begun : from ≤ at) (none : NonePass test bytes from at) where
  whole : take (length bytes - at) (drop at bytes) ≡ drop at bytes
  whole = rw (length-drop at bytes) at (take-length (drop at bytes))

  pub fits_in : at + 32 ≤ length bytes
  fits_in = omega (arith, room, ap length whole, length-drop at bytes)

  in_bytes : (k : ℕ) → k < 32 → get_or block k 0 ≡ get_or bytes (at + k) 0
  in_bytes k l = ap (λ b. get_or b k 0) is ∙ (get_or-take 32 (take (length bytes - at) (drop at bytes)) k 0 l ∙ (ap (λ b. get_or b k 0) whole ∙ get_or-drop at bytes k 0))

  long : length block ≡ 32
  long = ap length is ∙ (length-take 32 (take (length bytes - at) (drop at bytes)) ∙ omega arith)

  -- nor does one before the first that passes in the block at the second place
  pub passed_over : (to : ℕ) → to ≤ at + place → NonePass test bytes from to
  passed_over to reach k low high = elim (cases_lt k at) [
    | inl early ↦ none k low early
    | inr late ↦
        let near : k - at < 32 = omega (arith, first.within, long) in
        let back : at + (k - at) ≡ k = omega arith in
        subst (λ j. test (get_or bytes j 0) ≡ false) back
        (subst (λ b. test b ≡ false) (in_bytes (k - at) near) (first.before (k - at) (omega arith) (omega arith)))
  ]

  -- the first that passes in the block is the first that passes
  pub found_in_block : place < 32 → IsFirst test bytes from (at + place)
  found_in_block short = record {
    after = omega arith;
    within = omega (arith, fits_in);
    before = passed_over (at + place) (omega arith);
    here = λ inside. subst (λ b. test b ≡ true) (in_bytes place short) (first.here (omega (arith, long)));
  }
