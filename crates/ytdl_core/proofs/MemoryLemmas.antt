-- What the source in memory rests on: bytes copied to the front of a buffer.
use Rattle.std.proofs.Common.{◌≡◌, ℕ, ◌+◌, ◌≤◌, ◌-◌, ◌<◌, List, [], ◌++◌, length, take, drop, min, sym, arith, length-append, length-drop, length-take}
use Rattle.std.proofs.lemmas.List.{take-append-drop, drop-drop}
use Rattle.std.proofs.Math.ListN.{drop_of_length-le}
use Rattle.std.proofs.Math.Seq.{take-append_seam, take-length}

read_front : (bytes rest : List ℕ) (at n : ℕ) → n ≤ length (drop at bytes) →
    drop at bytes ≡ take n (take n (drop at bytes) ++ rest) ++ drop (at + n) bytes
read_front bytes rest at n h =
    let long : length (take n (drop at bytes)) ≡ n = simp length-take (omega arith) in
    let front : take n (take n (drop at bytes) ++ rest) ≡ take n (drop at bytes) =
    rw long at (take-append_seam (take n (drop at bytes)) rest) in
    rw (front, ← drop-drop n at bytes) (sym (take-append-drop n (drop at bytes)))

-- What a read puts to the front of a buffer, and what is left: nothing, where it put nothing into a buffer with room.
pub read_step : (bytes buf copied : List ℕ) (at n : ℕ) → at ≤ length bytes →
    n ≡ min (length (take (length bytes - at) (drop at bytes))) (length buf) →
    copied ≡ take n (take (length bytes - at) (drop at bytes)) →
    (drop at bytes ≡ take n (copied ++ drop n buf) ++ drop (at + n) bytes) ×
    (n ≡ 0 → 0 < length (copied ++ drop n buf) → drop (at + n) bytes ≡ [])
read_step bytes buf copied at n inside least is =
    let whole : take (length bytes - at) (drop at bytes) ≡ drop at bytes =
    rw (length-drop at bytes) at (take-length (drop at bytes)) in
    let fits : n ≤ length (drop at bytes) = omega (arith, rw whole at least) in
    let copy : copied ≡ take n (drop at bytes) = rw whole at is in (
      rw copy (read_front bytes (drop n buf) at n fits),
      λ none room.
          let all : length (copied ++ drop n buf) ≡ length copied + (length buf - n) =
          simp (length-append, length-drop) in
          let taken : length copied ≡ min n (length (drop at bytes)) = rw copy (length-take n (drop at bytes)) in
          drop_of_length-le bytes (omega (arith, length-drop at bytes, rw whole at least)),
    )
