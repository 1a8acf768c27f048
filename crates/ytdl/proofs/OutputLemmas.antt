-- A stream takes bytes piece by piece.
use Rattle.std.proofs.Common.{◌≡◌, ℕ, List, [], ◌++◌, length, take, drop, refl, sym, ap, ◌∙◌, append_assoc, take-append-drop}
use Rattle.std.specs.Prelude.{Option, Some, None}
use Rattle.std.specs.Io.KnownBytes.{Appends, Keeps}
use Rattle.std.proofs.KnownBytes.{Appends-nil, Appends-trans, Appends-kept}
use Rattle.std.proofs.Math.Seq.{take-append_seam}
use Rattle.ytdl_core.specs.Outside.{AppendsFront}

-- The stream took a front of the bytes, and these are left.
pub record TookFront (old now : Option (List ℕ)) (bytes rest : List ℕ) : Type 0 where
  pub front : List ℕ
  pub split : bytes ≡ front ++ rest
  pub took : Appends old now front

pub took_none : (old : Option (List ℕ)) (bytes : List ℕ) → TookFront old old bytes bytes
took_none old bytes = record { front = []; split = refl; took = Appends-nil old }

-- A call took some more.
pub took_more : (old mid now : Option (List ℕ)) (bytes rest : List ℕ) (n : ℕ) → TookFront old mid bytes rest
    → Appends mid now (take n rest) → TookFront old now bytes (drop n rest)
took_more old mid now bytes rest n so_far more = record {
  front = so_far.front ++ take n rest;
  split = so_far.split ∙ ap (λ l. so_far.front ++ l) (sym (take-append-drop n rest)) ∙ sym (append_assoc so_far.front (take n rest) (drop n rest));
  took = Appends-trans old mid now so_far.front (take n rest) so_far.took more;
}

-- A call took nothing.
pub took_no_more : (old mid now : Option (List ℕ)) (bytes rest : List ℕ) → TookFront old mid bytes rest
    → Keeps mid now → TookFront old now bytes rest
took_no_more old mid now bytes rest so_far kept = record {
  front = so_far.front;
  split = so_far.split;
  took = Appends-kept old mid now so_far.front so_far.took kept;
}

by_front : (old now : Option (List ℕ)) (bytes front rest : List ℕ) → bytes ≡ front ++ rest → Appends old now front → AppendsFront old now bytes
by_front None now bytes front rest split took = tt
by_front (Some xs) None bytes front rest split took = absurd took
by_front (Some xs) (Some ys) bytes front rest split took =
    (length front, took ∙ ap (λ l. xs ++ l) (sym (ap (take (length front)) split ∙ take-append_seam front rest)))

pub took_front : (old now : Option (List ℕ)) (bytes rest : List ℕ) → TookFront old now bytes rest → AppendsFront old now bytes
took_front old now bytes rest so_far = by_front old now bytes so_far.front rest so_far.split so_far.took
