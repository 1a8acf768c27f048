-- Runs of puts in parts.
use Rattle.std.proofs.Common.{◌≡◌, ℕ, ◌+◌, ◌-◌, ◌^◌, ◌<◌, ◌≤◌, List, [], ◌∷◌, ◌++◌, length, take, drop, Bool, true, false, refl, sym, ◌∙◌, ap, subst, arith, append_assoc, length-append, take-append-drop}
use Rattle.std.proofs.Common.{◌⊎◌, inl, inr, IsTrue}
use Rattle.std.specs.Prelude.{Option, Some, None, IsSome, MatchOption, Result, Ok, Err, OnErr, IfErr, if◌then◌else◌}
use Rattle.std.proofs.lemmas.Option.{same_Some}
use Rattle.folder_base.specs.declared.store_fault.StoreFault.{StoreFault}
use Rattle.folder_base.specs.declared.store_fault.StoreFault.TheVariants.{OutOfMemory}
use Rattle.std.proofs.lemmas.List.{append-nil, take_at, take_all, length-take-le}
use Rattle.folder_base.specs.Took.{TookSome}
use Rattle.keep_store.specs.Lane.{Seen, IsRefusal, Took, MayAnswer, spare_of}
use Rattle.keep_store.specs.State.{IsSameLane}
use Rattle.keep_store.specs.TookLaws.{took_both}
use Rattle.keep_store.specs.declared.lane_state.LaneState.{LaneState}

-- the lane has taken the first of these bytes, and `rest` is left
pub record HasTaken (old new : Seen) (bytes rest : List ℕ) : Type 0 where
  pub taken : List ℕ
  pub split : bytes ≡ taken ++ rest
  pub took : Took old taken new

pub more_taken : {old mid new : Seen} {bytes rest front back : List ℕ} → HasTaken old mid bytes rest → rest ≡ front ++ back → Took mid front new → HasTaken old new bytes back
more_taken {old} {mid} {new} {bytes} {rest} {front} {back} has cut took = record {
  taken = has.taken ++ front;
  split = has.split ∙ ap (λ (r : List ℕ). has.taken ++ r) cut ∙ sym (append_assoc has.taken front back);
  took = took_both old mid new has.taken front has.took took;
}

pub all_taken : {old new : Seen} {bytes rest : List ℕ} → HasTaken old new bytes rest → rest ≡ [] → Took old bytes new
all_taken {old} {new} {bytes} {rest} has none = subst (λ (b : List ℕ). Took old b new) (sym (has.split ∙ ap (λ (r : List ℕ). has.taken ++ r) none ∙ append-nil has.taken)) has.took

-- a front of what was left was taken
pub some_taken : {old mid new : Seen} {bytes rest front : List ℕ} (back : List ℕ) → HasTaken old mid bytes rest → rest ≡ front ++ back → TookSome Took mid front new → TookSome Took old bytes new
some_taken {old} {mid} {new} {bytes} {rest} {front} back has cut some = record {
  count = length has.taken + some.count;
  within = omega (arith, some.within, ap length split, length-append has.taken (front ++ back), length-append front back);
  front = subst (λ (b : List ℕ). Took old b new) (sym first) (took_both old mid new has.taken (take some.count front) has.took some.front);
}
  where
    split : bytes ≡ has.taken ++ (front ++ back)
    split = has.split ∙ ap (λ (r : List ℕ). has.taken ++ r) cut

    parts : bytes ≡ (has.taken ++ take some.count front) ++ (drop some.count front ++ back)
    parts = split ∙ ap (λ (f : List ℕ). has.taken ++ (f ++ back)) (sym (take-append-drop some.count front))
        ∙ ap (λ (r : List ℕ). has.taken ++ r) (append_assoc (take some.count front) (drop some.count front) back)
        ∙ sym (append_assoc has.taken (take some.count front) (drop some.count front ++ back))

    first : take (length has.taken + some.count) bytes ≡ has.taken ++ take some.count front
    first = ap (take (length has.taken + some.count)) parts ∙ take_at (has.taken ++ take some.count front) (drop some.count front ++ back) (length has.taken + some.count)
        (length-append has.taken (take some.count front) ∙ ap (λ (n : ℕ). length has.taken + n) (length-take-le some.count front some.within))

pub begun_taken : (old : Seen) (bytes : List ℕ) → Took old [] old → HasTaken old old bytes bytes
begun_taken old bytes none = record { taken = []; split = refl; took = none }

pub not_true : (b : Bool) → (b ≡ true → ⊥) → b ≡ false
not_true true no_more = absurd (no_more refl)
not_true false no_more = refl

-- what was taken, all of it
pub took_all_some : {old new : Seen} {bytes : List ℕ} → Took old bytes new → TookSome Took old bytes new
took_all_some {old} {new} {bytes} took = record { count = length bytes; within = omega arith; front = subst (λ (b : List ℕ). Took old b new) (sym (take_all (length bytes) bytes (omega arith))) took }

pub same_lane : {a b c : LaneState} → IsSameLane a b → IsSameLane b c → IsSameLane a c
same_lane one two = record { number = two.number ∙ one.number; stem = two.stem ∙ one.stem; complete = two.complete ∙ one.complete; fault = two.fault ∙ one.fault }

-- nothing more was taken
pub and_none : {old mid new : Seen} {front : List ℕ} → Took old front mid → Took mid [] new → Took old front new
and_none {old} {mid} {new} {front} one two = subst (λ (b : List ℕ). Took old b new) (append-nil front) (took_both old mid new front [] one two)

pub empty_of : (b : List ℕ) → length b ≤ 0 → b ≡ []
empty_of [] le = refl
empty_of (c ∷ b) le = absurd (omega arith)

-- what a refused put answers
pub may_answer : (old new : Seen) (bytes : List ℕ) (result : Result (Unit {0}) StoreFault) → OnErr result (TookSome Took old bytes new) → IfErr result (λ fault. new.fault ≡ Some fault) → IfErr result (λ fault. MayAnswer old fault)
may_answer old new bytes (Ok x) some is = tt
may_answer old new bytes (Err fault) some is = by old.fault refl (some.front.cause fault is)
  where
    by : (held : Option StoreFault) → old.fault ≡ held → (old.fault ≡ Some fault) ⊎ IsRefusal old.world new.world fault
        → MatchOption held (IsTrue old.world.steady → IsTrue old.world.tells → fault ≡ OutOfMemory) (λ f. fault ≡ f)
    by None none (inl same) = absurd (let x : Some fault ≡ None = sym same ∙ none in cc)
    by None none (inr refusal) = refusal.steady
    by (Some held) one (inl same) = same_Some fault held (sym same ∙ one)
    by (Some held) one (inr refusal) =
        same_Some fault held (sym is ∙ ap (λ (lane : Seen). lane.fault) (some.front.held (subst (λ (o : Option StoreFault). IsSome o) (sym one) refl)).0 ∙ one)

-- A lane that is not complete may be given what fits 64 bits.
pub has_room : (lane : Seen) (count : ℕ) → lane.complete ≡ false → lane.size + count < 2 ^ 64 → count ≤ spare_of lane
has_room lane count part fits = subst (λ (b : Bool). count ≤ (if b then 0 else 2 ^ 64 - 1 - lane.size)) (sym part) (omega (arith, fits))
