-- That a job's turn keeps the job sound to whatever there was at first: its names, its steps and its commands, and what is removed behind it.
use Rattle.std.proofs.Common.{◌≡◌, ℕ, Bool, true, false, IsTrue, List, [], ◌∷◌, map, length, refl, sym, ◌∙◌, ap, subst, arith}
use Rattle.std.proofs.lemmas.Bool.{ne_eqb}
use Rattle.std.proofs.lemmas.Slice.Eq.{bytes_eq-Decides}
use Rattle.std.specs.Prelude.{Option, Some, None, All, Result, MatchResult, Ok, Err, bytes_eq, slice_index_or, ◌==◌}
use Rattle.folder_base.specs.Disk.{Name, Image}
use Rattle.folder_base.specs.Story.{World, Through}
use Rattle.folder_base.proofs.Images.{reads_may}
use Rattle.folder_base.proofs.Moments.{begun, stays, joined, weaker}
use Rattle.folder_steps.specs.Follow.{Always}
use Rattle.keep_store.specs.Safe.{reads}
use Rattle.tool_chain.specs.Chain.{Chains, AllMade}
use Rattle.tool_chain.specs.Jobs.{job_of, is_output_of}
use Rattle.tool_chain.specs.declared.job.ToolJob.{ToolJob}
use Rattle.tool_chain.specs.Runs.{Bench}
use Rattle.tool_chain.specs.declared.fault.ToolFault.{ToolFault}
use Rattle.tool_chain.specs.declared.fault.ToolFault.TheVariants as tool
use Rattle.component_store.specs.Component.{Web}
use Rattle.component_turn.proofs.TurnLemmas.{at_end}
use Rattle.job_plan.specs.declared.job.Job.{Job}
use Rattle.job_plan.specs.Laws.{last_output}
use Rattle.job_turn.specs.Clearing.{Clears, is_of_some}
use Rattle.job_turn.specs.Ends.{chain_answer}
use Rattle.job_turn.specs.Family.{goes_behind}
use Rattle.job_turn.specs.Job.{IsReady, steps_of, execs_of, names_of, is_alone}
use Rattle.job_turn.specs.Sound.{JobSound}
use Rattle.job_turn.specs.Standing.{StandsWhole}
use Rattle.job_turn.specs.Steps.{IsNamed, Finishes, Runs}
use Rattle.job_turn.specs.declared.end.Stop.{Stop}
use Rattle.job_turn.proofs.FamilyLemmas.{never, last_is_output}
use Rattle.job_turn.proofs.FoldLemmas.{HoldsWorld, made_reads}
use Rattle.job_turn.proofs.JobSoundLemmas.{has_plan, whole_holds, sound_beside, sound_thin, sound_published}
use Rattle.job_turn.proofs.MadeLemmas.{whole_local}
use Rattle.job_turn.proofs.SoundLemmas.{all_local, still}
use Rattle.job_turn.proofs.StopLemmas.{silent_none}

-- What is not so of what is otherwise.
not_so : (a b : Bool) → (a ≡ true → b ≡ false) → b ≡ true → a ≡ false
not_so true b h is = absurd (never (sym is ∙ h refl))
not_so false b h is = refl

some_steps : (steps : List ToolJob) (output : Name) → last_output (map job_of steps) ≡ Some output → (length steps == 0) ≡ false
some_steps [] output is = absurd (let e : None ≡ Some output = is in cc)
some_steps (step ∷ steps) output is = ne_eqb (length (step ∷ steps)) 0 (λ e. absurd (omega arith))

module _ (job : Job) (ready : IsReady job) where
  -- ---- names

  -- A name of a component's family is no output,
  pub no_output : (n : Name) → is_of_some (names_of job) n ≡ true → is_output_of (steps_of job) n ≡ false
  no_output n is = not_so (is_output_of (steps_of job) n) (is_of_some (names_of job) n) (ready.apart.outputs n) is

  -- not the last one,
  last_not : (output : Name) → last_output (steps_of job) ≡ Some output → (n : Name) → is_of_some (names_of job) n ≡ true → bytes_eq output n ≡ false
  last_not output is n of = not_so (bytes_eq output n) (is_of_some (names_of job) n)
      (λ same. subst (λ (m : Name). is_of_some (names_of job) m ≡ false) ((bytes_eq-Decides output n).0 same) (ready.apart.outputs output (last_is_output (steps_of job) output is))) of

  -- nor the final name where steps make the file.
  final_not : is_alone job ≡ false → (n : Name) → is_of_some (names_of job) n ≡ true → bytes_eq job.final_name n ≡ false
  final_not alone n of = not_so (bytes_eq job.final_name n) (is_of_some (names_of job) n)
      (λ same. subst (λ (m : Name). is_of_some (names_of job) m ≡ false) ((bytes_eq-Decides job.final_name n).0 same) (ready.apart.final_is_none alone)) of

  -- Where steps leave an output the file is not the only component.
  pub alone_not : (output : Name) → last_output (steps_of job) ≡ Some output → is_alone job ≡ false
  alone_not output is = some_steps job.steps.items output is

  -- ---- what is so of all components

  -- All components stand beside their records.
  abbrev pub AllWhole : Image → Type 0
  AllWhole image = All (λ component. StandsWhole component image) job.components.items

  -- They do so still behind the steps.
  still_whole : {at : ℕ} {bench bench' : Bench} {old new : World} {result : Result (Unit {0}) ToolFault} → Chains at (steps_of job) bench bench' old new result → IsTrue new.tells → Always AllWhole old.story.now → Through old.story new.story AllWhole
  still_whole chains t always = still (is_of_some (names_of job)) (is_output_of (steps_of job))
      (λ before image same all. all_local (λ c i. StandsWhole c i) (λ c b i s h. whole_local c b i s h) job.components.items before image same all) no_output (chains.spares.moments t) always

  module _ (web : Web) (base : Image) where
    -- ---- what is removed, and the commands

    pub cleared_sound : {E : Type 0} (bench : Bench) (keep : Bool) {old new : World} {result : Result (Unit {0}) E} → goes_behind keep job old.story.now.live job.final_name ≡ false → Clears (goes_behind keep job old.story.now.live) old new result
        → IsTrue new.tells → Always (JobSound web bench.make job base) old.story.now → Through old.story new.story (JobSound web bench.make job base)
    cleared_sound bench keep {old} free clears t always = sound_thin web bench.make job base (goes_behind keep job old.story.now.live) free (clears.moments t) always

    pub runs_sound : (bench_first : Bench) (first : ℕ) {bench bench' : Bench} {old new : World} (result : Result (Unit {0}) Stop) → Runs first (execs_of job) bench bench' old new result → IsTrue new.tells
        → Always (JobSound web bench_first.make job base) old.story.now → Through old.story new.story (JobSound web bench_first.make job base)
    runs_sound bench_first first result runs t always = sound_beside web bench_first.make job base (is_output_of (execs_of job)) (λ n is. silent_none (execs_of job) ready.silent n) (silent_none (execs_of job) ready.silent job.final_name)
        (runs.1.0.spares.moments t) always

    -- ---- the steps, and the name that the last output gets

    module _ (bench : Bench) (mid new : World) (t : IsTrue new.tells) (none : is_alone job ≡ false → Always (λ image. image job.final_name ≡ None) mid.story.now)
        (always : Always (JobSound web bench.make job base) mid.story.now) where
      same_sound : new ≡ mid → Through mid.story new.story (JobSound web bench.make job base)
      same_sound same = stays (begun mid.story (JobSound web bench.make job base) always) (ap (λ (w : World). w.story) same)

      -- Where all components stand and each output was made, the file gets what the job makes.
      named_sound : Always AllWhole mid.story.now → AllMade bench.make (steps_of job) mid.story.now → (output : Option Name) → last_output (steps_of job) ≡ output → (result : Result (Unit {0}) Stop)
          → IsNamed output job.final_name mid new result → Through mid.story new.story (JobSound web bench.make job base)
      named_sound whole made None is result named = same_sound named.0
      named_sound whole made (Some output) is result named = sound_published web bench.make job base output (last_not output is) (final_not (alone_not output is))
          (made_reads web bench.make mid.story.now job.components.items (steps_of job) job.final_name output is ready.whole.apart ready.apart.outputs ready.come holds made) (none (alone_not output is)) (named.1.0.moments t) always
        where
          holds : All (λ component. HoldsWorld web component (reads mid.story.now)) job.components.items
          holds k d lt = whole_holds web (slice_index_or job.components.items k d) (has_plan (slice_index_or job.components.items k d) (ready.pieces k d lt)) (reads mid.story.now)
              ((always (reads mid.story.now) (reads_may mid.story.now)).components k d lt) (whole (reads mid.story.now) (reads_may mid.story.now) k d lt)

    module _ (bench bench' : Bench) (old mid new : World) (result : Result (Unit {0}) Stop) (t : IsTrue new.tells) (tools : IsTrue bench'.tells)
        (none : is_alone job ≡ false → Always (λ image. image job.final_name ≡ None) old.story.now) (whole : Always AllWhole old.story.now) (always : Always (JobSound web bench.make job base) old.story.now) where
      named_tells : (output : Option Name) → IsNamed output job.final_name mid new result → IsTrue mid.tells
      named_tells None named = subst (λ (w : World). IsTrue w.tells) named.0 t
      named_tells (Some output) named = named.1.0.stays.tells t

      chain_sound : {ran : Result (Unit {0}) ToolFault} → Chains 0 (steps_of job) bench bench' old mid ran → IsTrue mid.tells → Through old.story mid.story (JobSound web bench.make job base)
      chain_sound chains u = sound_beside web bench.make job base (is_output_of (steps_of job)) no_output ready.apart.final_is_no_output (chains.spares.moments u) always

      stop_sound : {ran : Result (Unit {0}) ToolFault} → Chains 0 (steps_of job) bench bench' old mid ran → new ≡ mid → Through old.story new.story (JobSound web bench.make job base)
      stop_sound chains same = stays (chain_sound chains (subst (λ (w : World). IsTrue w.tells) same t)) (ap (λ (w : World). w.story) same)

      none_still : {ran : Result (Unit {0}) ToolFault} → Chains 0 (steps_of job) bench bench' old mid ran → IsTrue mid.tells → is_alone job ≡ false → Always (λ image. image job.final_name ≡ None) mid.story.now
      none_still chains u alone = at_end (weaker (chains.spares.moments u) (λ image f. f.each job.final_name ready.apart.final_is_no_output ∙ none alone f.before f.possible))

      steps_sound : (ran : Result (Unit {0}) ToolFault) → Chains 0 (steps_of job) bench bench' old mid ran
          → MatchResult (chain_answer 0 ran) (λ _. IsNamed (last_output (steps_of job)) job.final_name mid new result) (λ stop. (new ≡ mid) × (result ≡ Err stop)) → Through old.story new.story (JobSound web bench.make job base)
      steps_sound (Ok done) chains named =
          let u = named_tells (last_output (steps_of job)) named in
          let first = chain_sound chains u in
          joined first (named_sound bench mid new t (none_still chains u) (at_end first) (at_end (still_whole chains u whole)) (chains.made tools u) (last_output (steps_of job)) refl result named)
      steps_sound (Err (tool.Tool step cause)) chains named = stop_sound chains named.0
      steps_sound (Err (tool.Folder call)) chains named = stop_sound chains named.0
      steps_sound (Err tool.OutOfMemory) chains named = stop_sound chains named.0

    -- Where all components stand, each moment of the steps and of the file's naming is sound.
    pub finishes_sound : (bench : Bench) {bench' : Bench} {old new : World} {result : Result (Unit {0}) Stop} → IsTrue new.tells → IsTrue bench'.tells → (is_alone job ≡ false → Always (λ image. image job.final_name ≡ None) old.story.now)
        → Always AllWhole old.story.now → Always (JobSound web bench.make job base) old.story.now → Finishes (steps_of job) job.final_name bench bench' old new result → Through old.story new.story (JobSound web bench.make job base)
    finishes_sound bench {bench'} {old} {new} {result} t tools none whole always finishes = steps_sound bench bench' old finishes.mid new result t tools none whole always finishes.ran finishes.chains finishes.named
