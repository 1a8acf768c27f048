-- Steps through the heads of a reply, of which some bytes came.
use Rattle.std.proofs.Common.{◌≡◌, ℕ, ◌<◌, ◌≤◌, length, take, drop, arith, List, [], ◌++◌, refl, sym, ap, ◌∙◌, subst, append-nil, Bool, true, false}
use Rattle.std.specs.Prelude.{IsTrue, IsFalse, not}
use Rattle.std.proofs.lemmas.List.{take_all, drop_all}
use Rattle.link_http.specs.Wire.{Wire, Fills, left}
use Rattle.http_reply.specs.Heads.{Standing, StandsAt, heads_at, after_head, HeadStep, again, ends, HeadsEnd, Heads, stop, go, Steps}

-- what a step says of the whole reply
pub record StepOf (reply : List ℕ) (at : ℕ) (step : HeadStep) : Type 0 where
  pub standing : Standing
  pub stands : StandsAt (heads_at reply at) standing
  pub after : after_head reply at standing ≡ step

step_with : (came later reply : List ℕ) (at : ℕ) (ended : Bool) (step : HeadStep) → came ++ later ≡ reply
    → (IsTrue ended → later ≡ []) → Steps came at ended step → StepOf reply at step
step_with came later reply at ended step is over steps = record {
  standing = steps.standing;
  stands = subst (λ (r : List ℕ). StandsAt (heads_at r at) steps.standing) is (steps.stands later over);
  after = subst (λ (r : List ℕ). after_head r at steps.standing ≡ step) is (steps.after later over);
}

pub step_of : (came rest reply : List ℕ) (at : ℕ) (ended : Bool) (step : HeadStep) → came ++ rest ≡ reply
    → (IsTrue ended → came ≡ reply) → Steps came at ended step → StepOf reply at step
step_of came rest reply at true step is over steps =
    step_with came [] reply at true step (append-nil came ∙ over refl) (λ _. refl) steps
step_of came rest reply at false step is over steps =
    step_with came rest reply at false step is (λ t. absurd (cc)) steps

pub heads_again : (reply : List ℕ) (at next : ℕ) (ending : HeadsEnd) → StepOf reply at (again next) → Heads reply next ending → Heads reply at ending
heads_again reply at next ending s rest = go at next ending s.standing s.stands s.after rest

pub heads_stop : (reply : List ℕ) (at : ℕ) (ending : HeadsEnd) → StepOf reply at (ends ending) → Heads reply at ending
heads_stop reply at ending s = stop at ending s.standing s.stands s.after

-- Where nothing more came, all of the reply is there.
pub at_end : (more : Bool) (before after : List ℕ) (old new : Wire) (reply : List ℕ) → IsTrue (not more)
    → Fills more before after old new → (IsFalse more → after ≡ before) → before ++ left old ≡ reply → after ≡ reply
at_end true before after old new reply ended fills none is = absurd (cc)
at_end false before after old new reply ended fills none is =
    none refl ∙ sym (append-nil before) ∙ ap (λ (r : List ℕ). before ++ r) (sym (fills.ended refl)) ∙ is

pub grows_by : (more : Bool) (before after : List ℕ) → (IsTrue more → length before < length after) → (IsFalse more → after ≡ before)
    → length before ≤ length after
grows_by true before after longer same = omega (arith, longer refl)
grows_by false before after longer same = omega (arith, ap length (same refl))

-- A slice that was lent whole is what its list is then.
pub put_back : {A : Type 0} (len : ℕ) (new old : List A) → len ≡ length old → length new ≡ length old → take len (new ++ drop (length new) old) ≡ new
put_back {A} len new old whole same =
    ap (λ (d : List A). take len (new ++ d)) (drop_all (length new) old (omega arith)) ∙ ap (λ (l : List A). take len l) (append-nil new) ∙ take_all len new (omega arith)
