-- What is promised of a piece is told by the names of its part alone.
use Rattle.std.proofs.Common.{◌≡◌, ◌⊎◌, inl, inr, ⊎_elim, ℕ, true, List, [], ◌∷◌, ◌++◌, sym, ◌∙◌, subst, append_assoc}
use Rattle.std.specs.Prelude.{Option, Some, bytes_eq, ◌||◌}
use Rattle.folder_base.specs.Disk.{Name, Bytes, Image, begins}
use Rattle.folder_base.specs.Parts.{is_part, Agree}
use Rattle.folder_base.proofs.Disjoint.{so_right}
use Rattle.folder_base.proofs.Together.{part_has_stem}
use Rattle.keep_store.specs.Promise.{promising, Promises, IsPromise, IfStands, PieceSound}
use Rattle.keep_store.proofs.Naming.{begins_all}

-- A part answers for the promises of its stem.
pub part_has_promise : (stem : Name) (digits : List ℕ) → is_part stem (promising stem digits) ≡ true
part_has_promise stem digits = so_right (bytes_eq stem (promising stem digits)) (begins (stem ++ 46 ∷ []) (promising stem digits))
    (subst (λ (n : Name). begins (stem ++ 46 ∷ []) n ≡ true) (sym dotted) (begins_all (stem ++ 46 ∷ []) (64 ∷ digits)))
  where
    dotted : promising stem digits ≡ (stem ++ 46 ∷ []) ++ (64 ∷ digits)
    dotted = append_assoc stem (46 ∷ 64 ∷ []) digits ∙ sym (append_assoc stem (46 ∷ []) (64 ∷ digits))

-- Two images that agree at the part's names
module _ (stem : Name) (image one : Image) (same : Agree (is_part stem) image one) where
  promises_there : (digits : List ℕ) (bytes : Bytes) → Promises stem image digits bytes → Promises stem one digits bytes
  promises_there digits bytes p = record { number = p.number; count = p.count; file = p.file; stands = sym (same (promising stem digits) (part_has_promise stem digits)) ∙ p.stands; front = p.front }

  promises_here : (digits : List ℕ) (bytes : Bytes) → Promises stem one digits bytes → Promises stem image digits bytes
  promises_here digits bytes p = record { number = p.number; count = p.count; file = p.file; stands = same (promising stem digits) (part_has_promise stem digits) ∙ p.stands; front = p.front }

  -- promise the same of the piece,
  pub promise_there : (bytes : Bytes) → IsPromise stem image bytes → IsPromise stem one bytes
  promise_there bytes (inl whole) = inl (sym (same stem (part_has_stem stem)) ∙ whole)
  promise_there bytes (inr part) = inr (record {
    part = sym (same stem (part_has_stem stem)) ∙ part.part;
    promised = ⊎_elim (λ none. inl none) (λ some. inr (some.0, promises_there some.0 bytes some.1)) part.promised;
    greatest = λ digits other p. part.greatest digits other (promises_here digits other p);
  })

  -- and are sound for it alike.
  pub piece_local : (all : Option Bytes) → PieceSound all stem one → PieceSound all stem image
  piece_local all sound = record {
    complete = subst (λ (o : Option Bytes). IfStands o (λ file. all ≡ Some file)) (sym (same stem (part_has_stem stem))) sound.complete;
    promised = λ digits bytes is. sound.promised digits bytes (promises_there digits bytes is);
  }
