-- That a turn touches no name beside its job's family, and that the folder endures it.
use Rattle.std.proofs.Common.{◌≡◌, inl, inr, ℕ, Bool, true, false, List, [], ◌∷◌, refl, sym, ◌∙◌, ap, subst}
use Rattle.std.proofs.lemmas.Slice.Eq.{bytes_eq-Decides}
use Rattle.std.specs.Prelude.{Option, Some, None, Result, bytes_eq, ◌||◌, if◌then◌else◌}
use Rattle.std.specs.Option.{option_map_or}
use Rattle.folder_base.specs.Disk.{Name, Names, Disk, Image, May, content}
use Rattle.folder_base.specs.Story.{World}
use Rattle.folder_base.proofs.Disjoint.{neither_so, so_left, so_right}
use Rattle.folder_base.proofs.Images.{same_name}
use Rattle.folder_base.proofs.Moments.{weaker}
use Rattle.folder_base.specs.declared.store_fault.StoreFault.{StoreFault}
use Rattle.folder_steps.specs.Follow.{Follows, Beside}
use Rattle.keep_store.specs.Opening.{Looked}
use Rattle.keep_store.specs.Publish.{IsBeforeOrMoved}
use Rattle.tool_chain.specs.Chain.{Chains}
use Rattle.tool_chain.specs.Jobs.{Job as Command, is_output, is_output_of}
use Rattle.tool_chain.specs.Runs.{Bench}
use Rattle.tool_chain.specs.declared.fault.ToolFault.{ToolFault}
use Rattle.component_turn.specs.Plan.{is_of}
use Rattle.component_turn.proofs.CrewLemmas.{endures_stays, endures_both}
use Rattle.component_turn.proofs.TurnLemmas.{same_beside, beside_on, thin_same}
use Rattle.job_plan.specs.Laws.{last_output}
use Rattle.job_plan.specs.declared.job.Job.{Job}
use Rattle.job_turn.specs.Clearing.{Clears, is_tidied_of, is_of_some}
use Rattle.job_turn.specs.Ends.{chain_answer}
use Rattle.job_turn.specs.Family.{in_family, goes_behind, Spared}
use Rattle.job_turn.specs.Job.{steps_of, execs_of, names_of, is_alone}
use Rattle.job_turn.specs.Steps.{Publishes, IsNamed, Finishes, Runs}
use Rattle.job_turn.specs.declared.end.Stop.{Stop}
use Rattle.job_turn.proofs.ApartLemmas.{beside_more, beside_none, endures_none, at_answer}
use Rattle.job_turn.proofs.ClearLemmas.{tidied_not}

pub never : true ≡ false → ⊥
never e = cc

pub spared_both : {old mid new : World} (loose : Name → Bool) → Spared loose old mid → Spared loose mid new → Spared loose old new
spared_both loose a b = record { endures = endures_both a.endures b.endures; apart = λ t. beside_on (a.apart (b.endures.tells t)) (b.apart t) }

pub spared_more : {old new : World} (few loose : Name → Bool) → ((n : Name) → loose n ≡ false → few n ≡ false) → Spared few old new → Spared loose old new
spared_more few loose less a = record { endures = a.endures; apart = λ t. weaker (a.apart t) (λ image f. beside_more few loose less image f) }

pub spared_none : {old new : World} (loose : Name → Bool) → new ≡ old → Spared loose old new
spared_none loose same = record { endures = endures_none same; apart = λ t. beside_none loose (ap (λ (w : World). w.story) same) }

pub spared_looked : {old new : World} (loose : Name → Bool) → Looked old new → Spared loose old new
spared_looked loose looked = record { endures = endures_stays looked.stays; apart = λ t. beside_none loose (looked.same t) }

-- Removals touch what goes.
pub spared_cleared : {E : Type 0} {old new : World} {result : Result (Unit {0}) E} (goes : Name → Bool) → Clears goes old new result → Spared goes old new
spared_cleared goes clears = record {
  endures = endures_stays clears.stays;
  apart = λ t. weaker (clears.moments t) (λ image f. record { before = f.before; possible = f.possible; each = λ n free. thin_same (goes n) (f.before n) (image n) free (f.each n) });
}

-- Children touch their outputs.
pub spared_chain : {at : ℕ} {jobs : List Command} {bench bench' : Bench} {old new : World} {result : Result (Unit {0}) ToolFault} → Chains at jobs bench bench' old new result → Spared (is_output_of jobs) old new
spared_chain chains = record { endures = endures_stays chains.spares.stays; apart = chains.spares.moments }

-- Publishing touches both names.
moved_beside : (from to : Name) (disk : Disk) (image : Image) → IsBeforeOrMoved from to disk image → Follows (May disk) (Beside (λ n. bytes_eq from n || bytes_eq to n)) image
moved_beside from to disk image (inl may) = same_beside (λ n. bytes_eq from n || bytes_eq to n) disk image may
moved_beside from to disk image (inr moved) = record {
  before = moved.before;
  possible = moved.possible;
  each = λ n free.
      let none = neither_so (bytes_eq from n) (bytes_eq to n) free in
      moved.moved n ∙ (λ i. if none.1 i then Some (content moved.file) else (if none.0 i then None else moved.before n));
}

pub spared_published : {from to : Name} {old new : World} {done : Result (Unit {0}) StoreFault} → Publishes from to old new done → Spared (λ n. bytes_eq from n || bytes_eq to n) old new
spared_published {from} {to} {old} published = record { endures = endures_stays published.stays; apart = λ t. weaker (published.moments t) (λ image h. moved_beside from to old.story.now image h) }

-- ---- names

-- What is tidied is of a family.
pub tidied_of_not : (final keep : Bool) (live : Names) (components : List Name) (n : Name) → is_of_some components n ≡ false → is_tidied_of final keep live components n ≡ false
tidied_of_not final keep live [] n off = refl
tidied_of_not final keep live (component ∷ components) n off =
    let none = neither_so (is_of component n) (is_of_some components n) off in
    let here = tidied_not component final keep live n none.0 in
    let there = tidied_of_not final keep live components n none.1 in
    λ i. here i || there i

-- The last output is an output.
pub last_is_output : (steps : List Command) (output : Name) → last_output steps ≡ Some output → is_output_of steps output ≡ true
last_is_output [] output is = absurd (let e : None ≡ Some output = is in cc)
last_is_output (step ∷ []) output is = so_left (is_output step output) false (ap (λ (o : Option Name). option_map_or (λ name. bytes_eq name output) o false) is ∙ same_name output)
last_is_output (step ∷ next ∷ steps) output is = so_right (is_output step output) (is_output_of (next ∷ steps) output) (last_is_output (next ∷ steps) output is)

module _ (job : Job) where
  pub steps_less : (n : Name) → in_family job n ≡ false → is_output_of (steps_of job) n ≡ false
  steps_less n free = (neither_so (is_output_of (steps_of job) n) (is_of_some (names_of job) n) (neither_so (bytes_eq job.final_name n) _ free).1).0

  pub components_less : (n : Name) → in_family job n ≡ false → is_of_some (names_of job) n ≡ false
  components_less n free = (neither_so (is_output_of (steps_of job) n) (is_of_some (names_of job) n) (neither_so (bytes_eq job.final_name n) _ free).1).1

  pub final_less : (n : Name) → in_family job n ≡ false → bytes_eq job.final_name n ≡ false
  final_less n free = (neither_so (bytes_eq job.final_name n) _ free).0

  behind_less : (keep : Bool) (live : Names) (n : Name) → in_family job n ≡ false → goes_behind keep job live n ≡ false
  behind_less keep live n free =
      let here = steps_less n free in
      let there = tidied_of_not (is_alone job) keep live (names_of job) n (components_less n free) in
      λ i. here i || there i

  -- What is removed behind a job is of its family.
  pub cleared_spared : {E : Type 0} (keep : Bool) {old new : World} {result : Result (Unit {0}) E} → Clears (goes_behind keep job old.story.now.live) old new result → Spared (in_family job) old new
  cleared_spared keep {old} clears = spared_more (goes_behind keep job old.story.now.live) (in_family job) (behind_less keep old.story.now.live) (spared_cleared (goes_behind keep job old.story.now.live) clears)

  -- So is the file that gets the final name,
  named_spared : (output : Option Name) → last_output (steps_of job) ≡ output → {old new : World} (result : Result (Unit {0}) Stop) → IsNamed output job.final_name old new result → Spared (in_family job) old new
  named_spared None is result named = spared_none (in_family job) named.0
  named_spared (Some output) is result named = spared_more (λ n. bytes_eq output n || bytes_eq job.final_name n) (in_family job) less (spared_published named.1.0)
    where
      not_output : (n : Name) → in_family job n ≡ false → bytes_eq output n ≡ false
      not_output n free = by (bytes_eq output n) refl
        where
          by : (b : Bool) → bytes_eq output n ≡ b → bytes_eq output n ≡ false
          by true same = absurd (never (sym (last_is_output (steps_of job) output is) ∙ subst (λ (m : Name). is_output_of (steps_of job) m ≡ false) (sym ((bytes_eq-Decides output n).0 same)) (steps_less n free)))
          by false other = other

      less : (n : Name) → in_family job n ≡ false → (bytes_eq output n || bytes_eq job.final_name n) ≡ false
      less n free = let here = not_output n free in let there = final_less n free in λ i. here i || there i

  -- and what its steps make,
  pub finishes_spared : {bench bench' : Bench} {old new : World} {result : Result (Unit {0}) Stop} → Finishes (steps_of job) job.final_name bench bench' old new result → Spared (in_family job) old new
  finishes_spared {bench} {bench'} {old} {new} {result} finishes =
      spared_both (in_family job) (spared_more (is_output_of (steps_of job)) (in_family job) steps_less (spared_chain finishes.chains))
      (at_answer (chain_answer 0 finishes.ran) finishes.named (λ h. named_spared (last_output (steps_of job)) refl result h) (λ stop h. spared_none (in_family job) h.0))

  -- while its commands make none.
  pub runs_spared : (silent : (n : Name) → is_output_of (execs_of job) n ≡ false) (first : ℕ) {bench bench' : Bench} {old new : World} (result : Result (Unit {0}) Stop) → Runs first (execs_of job) bench bench' old new result → Spared (in_family job) old new
  runs_spared silent first result runs = spared_more (is_output_of (execs_of job)) (in_family job) (λ n free. silent n) (spared_chain runs.1.0)
