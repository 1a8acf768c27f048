-- Laws of verdicts.
use Rattle.std.specs.Prelude.{◌≡◌, ℕ, ◌≤◌, ◌⊎◌, List, [], ◌++◌, length, drop, Option, Some, None, Ok, IsErr, IfOk}
use Rattle.http_reply.specs.Chunked.{limit}
use Rattle.http_reply.specs.Verdict.{Verdict, IsVerdict}
use Rattle.http_reply.specs.Truth.{IsHonest, IsTruthful}

-- A reply has one verdict.
abbrev pub IsOneVerdict : Type 0
IsOneVerdict = (from : ℕ) (known : Option ℕ) (reply : List ℕ) (v w : Verdict)
    → IsVerdict from known reply v → IsVerdict from known reply w → v ≡ w

-- It cannot be that a reply has no verdict. Whether a whole head stands somewhere is no test on lists, so no verdict is
-- named; an equation on lists that follows from each verdict follows from this.
abbrev pub HasVerdict : ℕ → Option ℕ → List ℕ → Type 0
HasVerdict from known reply = ((v : Verdict) → IsVerdict from known reply v → ⊥) → ⊥

-- Each reply has one.
abbrev pub EachHasVerdict : Type 0
EachHasVerdict = (from : ℕ) (known : Option ℕ) (reply : List ℕ) → HasVerdict from known reply

-- A whole honest reply gives all bytes from the place on, and the total, where they are not too many, the place is in
-- them, and no other total is known.
abbrev pub GivesWhole : Type 0
GivesWhole = (bytes : List ℕ) (from : ℕ) (known : Option ℕ) (reply : List ℕ) (v : Verdict) → IsHonest bytes from reply
    → length bytes ≤ limit → from ≤ length bytes → (known ≡ None) ⊎ (known ≡ Some (length bytes)) → IsVerdict from known reply v
    → v ≡ record { bytes = drop from bytes; told = Some (length bytes); end = Ok (length bytes) }

-- What a verdict gives is true of the resource that was asked for, from the place on: its bytes are a front of the
-- resource's, and with a total they are all of these. Of no resource it gives nothing.
abbrev pub IsTrueOf : Option (List ℕ) → ℕ → Verdict → Type 0
IsTrueOf None from v = (v.bytes ≡ []) × IsErr v.end
IsTrueOf (Some bytes) from v =
    (more : List ℕ) × (drop from bytes ≡ v.bytes ++ more) × IfOk v.end (λ total. (total ≡ length bytes) × (more ≡ []))

-- What a truthful reply gives is true.
abbrev pub GivesTruth : Type 0
GivesTruth = (resource : Option (List ℕ)) (from : ℕ) (known : Option ℕ) (reply : List ℕ) (v : Verdict)
    → IsTruthful resource from reply → IsVerdict from known reply v → IsTrueOf resource from v
