-- What a truthful reply gives a lane is the world's.
use Rattle.std.proofs.Common.{◌≡◌, ◌⊎◌, inl, inr, ℕ, Bool, true, false, List, [], ◌∷◌, ◌++◌, length, take, drop, refl, sym, ◌∙◌, ap, subst, append_assoc}
use Rattle.std.specs.Prelude.{Option, Some, None, Result, Ok, Err, OnOk, IfOk, IsErr, bytes_eq}
use Rattle.std.proofs.lemmas.List.{append-nil, drop_at, take_at, take-append-drop}
use Rattle.folder_base.specs.Disk.{Bytes}
use Rattle.folder_base.specs.declared.store_fault.StoreFault.{StoreFault}
use Rattle.folder_base.proofs.Images.{same_or_not, same_name}
use Rattle.http_reply.specs.Truth.{IsTruthful}
use Rattle.http_reply.specs.Verdict.{Verdict, IsVerdict}
use Rattle.http_reply.specs.Laws.{IsTrueOf}
use Rattle.http_reply.specs.Faults.{is_broken}
use Rattle.http_reply.specs.declared.piece_fault.PieceFault.{PieceFault}
use Rattle.http_reply.proofs.TruthLaw.{truthful}
use Rattle.http_reply.proofs.VerdictLemmas.{has_verdict}
use Rattle.link_http.specs.declared.fetched.Fetched.{Fetched}
use Rattle.link_http.specs.Try.{Tries, Breaks}
use Rattle.keep_store.specs.Promise.{AreFirst}
use Rattle.keep_store.specs.Lane.{Seen, Took}
use Rattle.keep_store.specs.TookLaws.{took_both}
use Rattle.piece_turn.specs.Step.{GaveTruth}

drop_front : (a b : Bytes) → drop (length a) (a ++ b) ≡ b
drop_front a b = drop_at a b (length a) refl

-- With the verdict's bytes behind them they are still the first,
first_more : (all : Option Bytes) (had : Bytes) (v : Verdict) → AreFirst all had → IsTrueOf all (length had) v → AreFirst all (had ++ v.bytes)
first_more None had v first is = (λ i. first i ++ is.0 i)
first_more (Some world) had v first is =
    let rest : first.0 ≡ v.bytes ++ is.0 = sym (drop_front had first.0) ∙ ap (drop (length had)) (sym first.1) ∙ is.1 in
    (is.0, first.1 ∙ ap (λ (b : Bytes). had ++ b) rest ∙ sym (append_assoc had v.bytes is.0))

-- and with a total they are all.
whole_more : (all : Option Bytes) (had : Bytes) (v : Verdict) (total : ℕ) → AreFirst all had → IsTrueOf all (length had) v → v.end ≡ Ok total → all ≡ Some (had ++ v.bytes)
whole_more None had v total first is end = absurd (not_err (subst IsErr end is.1))
  where
    ended : Result ℕ PieceFault
    ended = Ok total

    not_err : IsErr ended → ⊥
    not_err h = cc
whole_more (Some world) had v total first is end =
    let rest : first.0 ≡ v.bytes ++ is.0 = sym (drop_front had first.0) ∙ ap (drop (length had)) (sym first.1) ∙ is.1 in
    let none : is.0 ≡ [] = (subst (λ (e : Result ℕ PieceFault). IfOk e (λ total. (total ≡ length world) × (is.0 ≡ []))) end is.2).1 in
    ap (λ (b : Bytes). Some b) (first.1 ∙ ap (λ (b : Bytes). had ++ b) (rest ∙ ap (λ (b : Bytes). v.bytes ++ b) none ∙ append-nil v.bytes))

-- Of the first bytes a front is the first.
first_fewer : (all : Option Bytes) (front more : Bytes) → AreFirst all (front ++ more) → AreFirst all front
first_fewer None front more none = front_empty front none
  where
    front_empty : (b : Bytes) → b ++ more ≡ [] → b ≡ []
    front_empty [] e = refl
    front_empty (c ∷ b) e = absurd (cc)
first_fewer (Some world) front more first = (more ++ first.0, first.1 ∙ append_assoc front more first.0)

-- Whether they are the first can be told, so it is so where it cannot fail.
first_stable : (all : Option Bytes) (b : Bytes) → ((AreFirst all b → ⊥) → ⊥) → AreFirst all b
first_stable None [] not_not = refl
first_stable None (c ∷ b) not_not = absurd (not_not (λ e. let x : c ∷ b ≡ [] = e in cc))
first_stable (Some world) b not_not = by (same_or_not (take (length b) world) b)
  where
    by : ((bytes_eq (take (length b) world) b ≡ true) × (take (length b) world ≡ b)) ⊎ (bytes_eq (take (length b) world) b ≡ false) → AreFirst (Some world) b
    by (inl same) = (drop (length b) world, sym (take-append-drop (length b) world) ∙ ap (λ (f : Bytes). f ++ drop (length b) world) same.1)
    by (inr differs) = absurd (not_not (λ first.
        let same : take (length b) world ≡ b = ap (take (length b)) first.1 ∙ take_at b first.0 (length b) refl in
        let x : true ≡ false = sym (same_name b) ∙ ap (λ (f : Bytes). bytes_eq f b) (sym same) ∙ differs in cc))

module _ {T : Type 0} (s : T → Seen) (may_refuse : T → List ℕ → StoreFault → Type 0) (all : Option Bytes) (had : Bytes) (first : AreFirst all had) (known : Option ℕ) (t : T) (known' : Option ℕ) (u : T) where
  abbrev took : T → List ℕ → T → Type 0
  took = λ old bytes new. Took (s old) bytes (s new)

  none_first : AreFirst all (had ++ [])
  none_first = subst (AreFirst all) (sym (append-nil had)) first

  -- where nothing was taken
  pub gave_none : (gave : Result Fetched PieceFault) → OnOk gave ⊥ → Took (s t) [] (s u) → GaveTruth all had gave (s t) (s u)
  gave_none (Ok fetched) never none = absurd never
  gave_none (Err fault) never none = record { bytes = []; took = none; first = none_first; whole = tt }

  -- by the reply to the try's request
  pub gave_truth : (replies : List (List ℕ)) (gave : Result Fetched PieceFault) → ((reply : List ℕ) (others : List (List ℕ)) → replies ≡ reply ∷ others → IsTruthful all (length had) reply)
      → Tries took may_refuse (length had) known replies gave t known' u → GaveTruth all had gave (s t) (s u)
  gave_truth [] (Ok fetched) true_ tries = absurd tries
  gave_truth [] (Err fault) true_ tries = record { bytes = []; took = tries.1; first = none_first; whole = tt }
  gave_truth (reply ∷ others) (Ok fetched) true_ answers =
      let true_of = truthful all (length had) known reply answers.verdict (true_ reply others refl) answers.is in
      record {
        bytes = answers.verdict.bytes;
        took = answers.taken;
        first = first_more all had answers.verdict first true_of;
        whole = whole_more all had answers.verdict fetched.total first true_of (sym answers.end_is);
      }
  gave_truth (reply ∷ others) (Err fault) true_ tries = by (is_broken fault) refl
    where
      so : (breaks : Breaks took may_refuse fault (length had) known reply t known' u) (verdict : Verdict) → IsVerdict (length had) known reply verdict
          → AreFirst all (had ++ (breaks.broke.bytes ++ take breaks.broke.some.count breaks.broke.piece))
      so breaks verdict is =
          let some = breaks.broke.some in
          let piece = breaks.broke.piece in
          let front = breaks.front verdict is in
          first_fewer all (had ++ (breaks.broke.bytes ++ take some.count piece)) (drop some.count piece ++ front.0)
          (subst (AreFirst all) (ap (λ (b : Bytes). had ++ b) (front.1 ∙ ap (λ (p : Bytes). breaks.broke.bytes ++ (p ++ front.0)) (sym (take-append-drop some.count piece))
          ∙ ap (λ (b : Bytes). breaks.broke.bytes ++ b) (append_assoc (take some.count piece) (drop some.count piece) front.0)
          ∙ sym (append_assoc breaks.broke.bytes (take some.count piece) (drop some.count piece ++ front.0)))
          ∙ sym (append_assoc had (breaks.broke.bytes ++ take some.count piece) (drop some.count piece ++ front.0)))
          (first_more all had verdict first (truthful all (length had) known reply verdict (true_ reply others refl) is)))

      by : (b : Bool) → is_broken fault ≡ b → GaveTruth all had (Err fault) (s t) (s u)
      by false is =
          let answers = tries.2 is in
          let true_of = truthful all (length had) known reply answers.verdict (true_ reply others refl) answers.is in
          record { bytes = answers.verdict.bytes; took = answers.taken; first = first_more all had answers.verdict first true_of; whole = tt }
      by true is =
          let breaks = tries.3 is in
          let some = breaks.broke.some in
          let piece = breaks.broke.piece in
          record {
            bytes = breaks.broke.bytes ++ take some.count piece;
            took = took_both (s t) (s breaks.broke.between) (s u) breaks.broke.bytes (take some.count piece) breaks.broke.taken some.front;
            first = first_stable all (had ++ (breaks.broke.bytes ++ take some.count piece)) (λ not. has_verdict (length had) known reply (λ verdict is. not (so breaks verdict is)));
            whole = tt;
          }
