-- What one step of a chain does, by how it ends.
use Rattle.std.proofs.Common.{◌≡◌, ◌⊎◌, inl, inr, ⊎_elim, ℕ, Bool, true, false, not, ◌&&◌, ◌||◌, IsTrue, List, [], ◌∷◌, ◌++◌, map, arith, refl, sym, ◌∙◌, ap, subst}
use Rattle.std.specs.Prelude.{◌≢◌, Option, Some, None, IsSome, is_some, Result, Ok, Err, IsErrOf}
use Rattle.std.specs.Option.{option_map_or}
use Rattle.std.proofs.lemmas.List.{append-nil}
use Rattle.std.proofs.lemmas.List.Elements.{All-nil, All-cons}
use Rattle.folder_base.specs.Disk.{Name, Bytes, File}
use Rattle.folder_base.specs.Story.{World, Story}
use Rattle.folder_base.specs.declared.store_fault.StoreFault.{StoreFault}
use Rattle.folder_base.specs.declared.store_fault.StoreFault.TheVariants.{Folder as StoreFolder, OutOfMemory as StoreMemory}
use Rattle.keep_store.specs.Lane.{IsRefusal}
use Rattle.keep_store.specs.Opening.{Looked}
use Rattle.keep_store.specs.Safe.{reads}
use Rattle.keep_store.specs.TookLaws.{refusal_later}
use Rattle.folder_steps.specs.Blames.{Blames}
use Rattle.folder_steps.proofs.RefusalLemmas.{err_later}
use Rattle.text_base.specs.declared.faults.FolderFault.{FolderFault}
use Rattle.text_base.specs.declared.faults.FolderFault.TheVariants.{Failed, OutOfMemory as NoMemory}
use Rattle.tool_chain.specs.Jobs.{Job, is_output, is_output_of, leaves, OutputsApart, OutputIs}
use Rattle.tool_chain.specs.Runs.{Run, Bench, Starts, Spares, HidesNone, IsRunOf, status_of, Adds, Works}
use Rattle.tool_chain.specs.Chain.{tool_fault, IsGood, IsCause, Shows, Runs, IsStart, BlamesFolder, InputsCome, Chains}
use Rattle.tool_chain.specs.declared.fault.ToolFault.{ToolFault}
use Rattle.tool_chain.specs.declared.fault.ToolFault.TheVariants.{Tool, OutOfMemory}
use Rattle.tool_chain.specs.declared.fault.ToolCause.{ToolCause}
use Rattle.tool_chain.specs.declared.fault.ToolCause.TheVariants.{Start, Status, NoOutput}
use Rattle.tool_chain.proofs.StepLemmas.{spares_more, spares_both, spares_looked, same_reads}
use Rattle.tool_chain.proofs.ChainLemmas.{starts_none}

abbrev Answer : Type 0
Answer = Result (Unit {0}) ToolFault

abbrev IsMemory : Answer → Type 0
IsMemory answer = answer ≡ Err OutOfMemory

module _ (at : ℕ) (job : Job) where
  only_job : (n : Name) → is_output_of (job ∷ []) n ≡ false → is_output job n ≡ false
  only_job n e = by (is_output job n) e
    where
      by : (b : Bool) → (b || false) ≡ false → b ≡ false
      by true h = absurd (cc)
      by false h = refl

  pub spares_job : {old new : World} → Spares (is_output job) old new → Spares (is_output_of (job ∷ [])) old new
  spares_job s = spares_more (is_output job) (is_output_of (job ∷ [])) only_job s

  no_runs : {old new : List Run} (fault : StoreFault) → new ≡ old → Runs at (job ∷ []) old new (Err (tool_fault fault))
  no_runs {old} fault same = record { added = []; behind = same ∙ sym (append-nil old); first = refl; shows = by fault }
    where
      by : (f : StoreFault) → Shows at (job ∷ []) [] (Err (tool_fault f))
      by (StoreFolder call) = All-nil (λ (r : Run). r.status ≡ Some 0)
      by StoreMemory = All-nil (λ (r : Run). r.status ≡ Some 0)

  one_run : {old new : List Run} (result : Answer) (run : Run) → new ≡ old ++ run ∷ [] → run.job ≡ job → Shows at (job ∷ []) (run ∷ []) result → Runs at (job ∷ []) old new result
  one_run result run behind is shows = record { added = run ∷ []; behind = behind; first = λ i. is i ∷ []; shows = shows }

  shows_cause : (cause : ToolCause) (run : Run) → IsCause cause run → Shows at (job ∷ []) (run ∷ []) (Err (Tool at cause))
  shows_cause cause run is = (0, (omega arith, record { good = []; last = run; added_is = refl; number = refl; each_good = All-nil IsGood; shows = is }))

  shows_zero : (fault : StoreFault) (run : Run) → run.status ≡ Some 0 → Shows at (job ∷ []) (run ∷ []) (Err (tool_fault fault))
  shows_zero (StoreFolder call) run is = All-cons (λ (r : Run). r.status ≡ Some 0) run [] is (All-nil (λ (r : Run). r.status ≡ Some 0))
  shows_zero StoreMemory run is = All-cons (λ (r : Run). r.status ≡ Some 0) run [] is (All-nil (λ (r : Run). r.status ≡ Some 0))

  not_start : (fault : StoreFault) → IsStart (Err (tool_fault fault)) → ⊥
  not_start (StoreFolder call) none = none
  not_start StoreMemory none = none

  blames_fault : {T : Type 0} (old new : World) (fault : StoreFault) → Blames {T = T} old new (Err fault) → BlamesFolder old new (Err (tool_fault fault))
  blames_fault old new (StoreFolder call) is = is.cause
  blames_fault old new StoreMemory is = is.calm

  -- A steady folder that tells refuses for want of memory alone.
  only_memory : {old new : World} (fault : StoreFault) → IsRefusal old new fault → IsTrue old.steady → IsTrue old.tells → IsMemory (Err (tool_fault fault))
  only_memory fault is s t = subst (λ (f : StoreFault). IsMemory (Err (tool_fault f))) (sym (is.steady s t)) refl

  -- The removal of the output was refused.
  pub end_uncleared : {T : Type 0} {bench : Bench} {old new : World} (fault : StoreFault) → Spares (is_output job) old new → Blames {T = T} old new (Err fault) → Chains at (job ∷ []) bench bench old new (Err (tool_fault fault))
  end_uncleared {T} {bench} {old} {new} fault spares is = record {
    starts = starts_none bench (not_start fault);
    spares = spares_job spares;
    runs = λ t u. no_runs fault refl;
    stand = λ u. tt;
    made = λ t u. tt;
    blames = blames_fault old new fault is;
    works = λ w s t come. inr (only_memory fault is.cause s t);
  }

  module _ (apart : OutputsApart (job ∷ [])) {b0 b1 : Bench} {w0 w1 w2 : World} (r : Result ℕ FolderFault) (cleared : Spares (is_output job) w0 w1) (clear : w1.faults ≡ w0.faults) (free : IsTrue w1.tells → leaves job w1.story.now ≡ false)
      (starts : Starts (IsErrOf r Failed) b0 b1) (spares : Spares (is_output job) w1 w2) (hides : HidesNone w1 w2 r) (told : IsTrue b1.tells → Adds (IsRunOf b0.make job w1 w2) (status_of r) b0.runs b1.runs) (works : Works job b0 w1 w2 r) where
    both : Spares (is_output job) w0 w2
    both = spares_both (is_output job) cleared spares

    added : (status : Option ℕ) → status_of r ≡ Some status → IsTrue b1.tells → (run : Run) × ((b1.runs ≡ b0.runs ++ run ∷ []) × ((run.status ≡ status) × IsRunOf b0.make job w1 w2 run))
    added status is t = subst (λ (o : Option (Option ℕ)). Adds (IsRunOf b0.make job w1 w2) o b0.runs b1.runs) is (told t)

    -- The job could be done, and so it was, or memory was refused.
    worked : IsTrue b0.works → IsTrue w0.steady → IsTrue w0.tells → InputsCome (λ (n : Name). IsSome (w0.story.now.live n)) (job ∷ [])
        → (r ≡ Err NoMemory) ⊎ ((r ≡ Ok 0) × ((output : Name) → job.output ≡ Some output → IsSome (w2.story.now.live output)))
    worked w s t come = works w (cleared.stays.steady s) t1 (record {
      inputs = λ k d below. subst (λ (o : Option File). IsSome o) (sym (cleared.others t1 _ (only_job _ (apart.0 k d below)))) (come.0 k d below);
      free = free t1;
    })
      where
        t1 : IsTrue w1.tells
        t1 = cleared.stays.still_tells t

    as_start : {failed : Type 0} → (failed → IsErrOf r Failed) → (IsErrOf r Failed → failed) → Starts failed b0 b1
    as_start to from = record { keeps = starts.keeps; rose = λ f. starts.rose (to f); calm = λ n. starts.calm (λ f. n (from f)); never = λ s f. starts.never s (to f) }

    not_failed : {failed : Type 0} → (failed → ⊥) → (IsErrOf r Failed → ⊥) → Starts failed b0 b1
    not_failed none never = as_start (λ f. absurd (none f)) (λ f. absurd (never f))

    -- The child did not start.
    pub end_unstarted : r ≡ Err Failed → Chains at (job ∷ []) b0 b1 w0 w2 (Err (Tool at Start))
    end_unstarted is = record {
      starts = as_start (λ f. is) (λ f. tt);
      spares = spares_job both;
      runs = λ t u. let run = added None (ap status_of is) t in one_run (Err (Tool at Start)) run.0 run.1.0 run.1.1.1.job_is (shows_cause Start run.0 run.1.1.0);
      stand = λ u. tt;
      made = λ t u. tt;
      blames = tt;
      works = λ w s t come. ⊎_elim (λ e. absurd (let x = sym is ∙ e in cc)) (λ done. absurd (let x = sym is ∙ done.0 in cc)) (worked w s t come);
    }

    -- Memory was refused.
    pub end_unfed : r ≡ Err NoMemory → Chains at (job ∷ []) b0 b1 w0 w2 (Err OutOfMemory)
    end_unfed is = record {
      starts = not_failed (λ none. none) (λ f. let x = sym is ∙ f in cc);
      spares = spares_job both;
      runs = λ t u. no_runs StoreMemory (subst (λ (o : Option (Option ℕ)). Adds (IsRunOf b0.make job w1 w2) o b0.runs b1.runs) (ap status_of is) (told t));
      stand = λ u. tt;
      made = λ t u. tt;
      blames = hides (inr is) ∙ clear;
      works = λ w s t come. inr refl;
    }

    module _ (status : ℕ) (is : r ≡ Ok status) where
      started : IsErrOf r Failed → ⊥
      started f = let x = sym is ∙ f in cc

      run_of : IsTrue b1.tells → (run : Run) × ((b1.runs ≡ b0.runs ++ run ∷ []) × ((run.status ≡ Some status) × IsRunOf b0.make job w1 w2 run))
      run_of t = added (Some status) (ap status_of is) t

      -- The child ended with another status than 0.
      pub end_bad : status ≢ 0 → Chains at (job ∷ []) b0 b1 w0 w2 (Err (Tool at (Status status)))
      end_bad other = record {
        starts = not_failed (λ none. none) started;
        spares = spares_job both;
        runs = λ t u. let run = run_of t in one_run (Err (Tool at (Status status))) run.0 run.1.0 run.1.1.1.job_is (shows_cause (Status status) run.0 (run.1.1.0, other));
        stand = λ u. tt;
        made = λ t u. tt;
        blames = tt;
        works = λ w s t come. ⊎_elim (λ e. absurd (let x = sym is ∙ e in cc)) (λ done. absurd (other (ap value (sym is ∙ done.0)))) (worked w s t come);
      }
        where
          value : Result ℕ FolderFault → ℕ
          value (Ok n) = n
          value (Err f) = 0

      module _ (zero_is : status ≡ 0) {w3 : World} (looked : Looked w2 w3) where
        -- No call of the folder failed so far.
        calm : w2.faults ≡ w0.faults
        calm = hides (inl (is ∙ ap (λ (n : ℕ). Ok n) zero_is)) ∙ clear

        good_status : (run : Run) → run.status ≡ Some status → run.status ≡ Some 0
        good_status run e = e ∙ ap (λ (n : ℕ). Some n) zero_is

        whole : Spares (is_output job) w0 w3
        whole = spares_both (is_output job) both (spares_looked (is_output job) looked)

        -- The look at the output was refused.
        pub end_unseen : {T : Type 0} (fault : StoreFault) → Blames {T = T} w2 w3 (Err fault) → Chains at (job ∷ []) b0 b1 w0 w3 (Err (tool_fault fault))
        end_unseen {T} fault refused = record {
          starts = not_failed (not_start fault) started;
          spares = spares_job whole;
          runs = λ t u. let run = run_of t in one_run (Err (tool_fault fault)) run.0 run.1.0 run.1.1.1.job_is (shows_zero fault run.0 (good_status run.0 run.1.1.0));
          stand = λ u. tt;
          made = λ t u. tt;
          blames = blames_fault {T = T} w0 w3 fault (err_later both.stays calm refused);
          works = λ w s t come. inr (only_memory fault (refusal_later both.stays refused.cause) s t);
        }

        -- The child left no output.
        pub end_unleft : w3.faults ≡ w2.faults → (IsTrue w3.tells → (is_some job.output && not (leaves job w2.story.now)) ≡ true) → Chains at (job ∷ []) b0 b1 w0 w3 (Err (Tool at NoOutput))
        end_unleft seen lacks = record {
          starts = not_failed (λ none. none) started;
          spares = spares_job whole;
          runs = λ t u. let run = run_of t in let facts = none_left (is_some job.output) (leaves job w2.story.now) (lacks u) in
              one_run (Err (Tool at NoOutput)) run.0 run.1.0 run.1.1.1.job_is
              (shows_cause NoOutput run.0 (good_status run.0 run.1.1.0, (subst (λ (j : Job). IsSome j.output) (sym run.1.1.1.job_is) facts.0, run.1.1.1.left (looked.stays.tells u) (inl (good_status run.0 run.1.1.0)) ∙ facts.1)));
          stand = λ u. tt;
          made = λ t u. tt;
          blames = seen ∙ calm;
          works = λ w s t come. ⊎_elim (λ e. absurd (let x = sym is ∙ e in cc)) (λ done. absurd (unleft (whole.stays.still_tells t) done.1)) (worked w s t come);
        }
          where
            none_left : (some there : Bool) → (some && not there) ≡ true → (some ≡ true) × (there ≡ false)
            none_left true false e = (refl, refl)
            none_left true true e = absurd (cc)
            none_left false there e = absurd (cc)

            unleft : IsTrue w3.tells → ((output : Name) → job.output ≡ Some output → IsSome (w2.story.now.live output)) → ⊥
            unleft u left = by job.output left (lacks u)
              where
                by : (o : Option Name) → ((output : Name) → o ≡ Some output → IsSome (w2.story.now.live output)) → (is_some o && not (option_map_or (λ output. is_some (w2.story.now.live output)) o false)) ≡ true → ⊥
                by None h e = cc
                by (Some output) h e = let x = h output refl in cc

        -- The step was done.
        pub end_done : w3.faults ≡ w2.faults → (IsTrue w3.tells → (is_some job.output && not (leaves job w2.story.now)) ≡ false) → Chains at (job ∷ []) b0 b1 w0 w3 (Ok tt)
        end_done seen lacks = record {
          starts = not_failed (λ none. none) started;
          spares = spares_job whole;
          runs = λ t u. let run = run_of t in one_run (Ok tt) run.0 run.1.0 run.1.1.1.job_is (refl, All-cons IsGood run.0 [] (good run.0 (good_status run.0 run.1.1.0) run.1.1.1 u) (All-nil IsGood));
          stand = λ u. All-cons (λ (j : Job). (output : Name) → j.output ≡ Some output → IsSome (w3.story.now.live output)) job [] (stands u) (All-nil (λ (j : Job). (output : Name) → j.output ≡ Some output → IsSome (w3.story.now.live output)));
          made = λ t u. let run = run_of t in All-cons (λ (j : Job). OutputIs (b0.make j.args (map (reads w3.story.now) j.inputs)) j w3.story.now) job []
              (made_there run.0 (good_status run.0 run.1.1.0) run.1.1.1 u) (All-nil (λ (j : Job). OutputIs (b0.make j.args (map (reads w3.story.now) j.inputs)) j w3.story.now));
          blames = seen ∙ calm;
          works = λ w s t come. inl refl;
        }
          where
            left_there : (o : Option Name) → (is_some o && not (option_map_or (λ output. is_some (w2.story.now.live output)) o false)) ≡ false → IsSome o → option_map_or (λ output. is_some (w2.story.now.live output)) o false ≡ true
            left_there None e some = absurd (let x : IsSome {T = Name} None = some in cc)
            left_there (Some output) e some = by (is_some (w2.story.now.live output)) e
              where
                by : (b : Bool) → not b ≡ false → b ≡ true
                by true h = refl
                by false h = absurd (cc)

            some_is : (output : Name) → job.output ≡ Some output → IsSome job.output
            some_is output e = subst (λ (o : Option Name). IsSome o) (sym e) refl

            left : IsTrue w3.tells → IsSome job.output → leaves job w2.story.now ≡ true
            left u some = left_there job.output (lacks u) some

            good : (run : Run) → run.status ≡ Some 0 → IsRunOf b0.make job w1 w2 run → IsTrue w3.tells → IsGood run
            good run status is u = record { status = status; left = λ some. is.left (looked.stays.tells u) (inl status) ∙ left u (subst (λ (j : Job). IsSome j.output) is.job_is some) }

            stands : IsTrue w3.tells → (output : Name) → job.output ≡ Some output → IsSome (w3.story.now.live output)
            stands u output e = subst (λ (s : Story). IsSome (s.now.live output)) (sym (looked.same u))
                (sym (ap (λ (o : Option Name). option_map_or (λ name. is_some (w2.story.now.live name)) o false) e) ∙ left u (some_is output e))

            made_there : (run : Run) → run.status ≡ Some 0 → IsRunOf b0.make job w1 w2 run → IsTrue w3.tells → OutputIs (b0.make job.args (map (reads w3.story.now) job.inputs)) job w3.story.now
            made_there run status is u output e =
                ap (λ (s : Story). reads s.now output) (looked.same u)
                ∙ is.made u2 status (is.left u2 (inl status) ∙ left u (some_is output e)) output e
                ∙ ap (λ (all : List (Option Bytes)). Some (b0.make job.args all)) (is.exact u2 (inl status) ∙ sym inputs_same)
              where
                u2 : IsTrue w2.tells
                u2 = looked.stays.tells u

                inputs_same : map (reads w3.story.now) job.inputs ≡ map (reads w1.story.now) job.inputs
                inputs_same = ap (λ (s : Story). map (reads s.now) job.inputs) (looked.same u)
                    ∙ same_reads job.inputs w1.story.now w2.story.now (λ k d below. spares.others u2 _ (only_job _ (apart.0 k d below)))
