-- That a job's turn touches no name beside the job's family: from what is removed behind it up to the whole turn.
use Rattle.std.proofs.Common.{⊎_elim, Bool, true, false, List, length}
use Rattle.std.specs.Prelude.{Result, Ok, Err}
use Rattle.folder_base.specs.Story.{World}
use Rattle.folder_base.specs.declared.store_fault.StoreFault.{StoreFault}
use Rattle.link_http.specs.Wire.{Wire}
use Rattle.tool_chain.specs.Runs.{Bench}
use Rattle.job_plan.specs.declared.job.Job.{Job}
use Rattle.job_turn.specs.Clearing.{is_of_some}
use Rattle.job_turn.specs.Family.{in_family, Spared}
use Rattle.job_turn.specs.Job.{execs_of, names_of, IsReady}
use Rattle.job_turn.specs.Making.{is_alone as is_alone_frame, Cleared, Closes, Completes}
use Rattle.job_turn.specs.Turn.{ClearsWhere, Stood, IsFrameOf, Works, WorksWhere, Begins, BeginsNot, Goes}
use Rattle.job_turn.specs.declared.end.JobEnd.{JobEnd}
use Rattle.job_turn.specs.declared.end.Stop.{Stop}
use Rattle.job_turn.specs.declared.end.TurnFault.{TurnFault}
use Rattle.job_turn.specs.declared.frame.Frame.{Frame}
use Rattle.job_turn.specs.declared.settings.Settings.{Settings}
use Rattle.job_turn.proofs.ApartLemmas.{at_answer, made_endures, made_apart}
use Rattle.job_turn.proofs.FamilyLemmas.{spared_both, spared_more, spared_none, spared_looked, components_less, cleared_spared, finishes_spared, runs_spared}
use Rattle.job_turn.proofs.JobFrameLemmas.{finishes_of, runs_of, cleared_of}
use Rattle.job_turn.proofs.StopLemmas.{silent_none}

module _ (settings : Settings) (job : Job) (ready : IsReady job) (frame : Frame) (of : IsFrameOf job settings frame) where
  behind_spared : {old new : World} {result : Result (Unit {0}) TurnFault} → Cleared frame old new result → Spared (in_family job) old new
  behind_spared cleared = cleared_spared job settings.keep (cleared_of job settings frame of cleared)

  -- the commands, and what is removed behind them,
  closes_spared : {bench bench' : Bench} {old new : World} {result : Result (Unit {0}) Stop} → Closes frame bench bench' old new result → Spared (in_family job) old new
  closes_spared closes =
      spared_both (in_family job) (runs_spared job (silent_none (execs_of job) ready.silent) (length job.steps.items) closes.ran (runs_of job settings frame of closes.runs))
      (at_answer closes.ran closes.behind (λ h. behind_spared h.1) (λ stop h. spared_none (in_family job) h.1))

  -- the steps too,
  completes_spared : {bench bench' : Bench} {old new : World} {result : Result (Unit {0}) Stop} → Completes frame bench bench' old new result → Spared (in_family job) old new
  completes_spared completes =
      spared_both (in_family job) (finishes_spared job (finishes_of job settings frame of completes.finishes))
      (at_answer completes.made completes.behind (λ h. closes_spared h) (λ stop h. spared_none (in_family job) h.1))

  -- the components too;
  works_spared : {D : Type 0} (wire : D → Wire) {bench bench' : Bench} {old new : World} {result : Result (Unit {0}) Stop} {ds es : List D} → Works wire settings frame job.components.items bench bench' old new result ds es
      → Spared (in_family job) old new
  works_spared wire {bench} {bench'} {old} {new} {result} {ds} {es} works =
      spared_both (in_family job)
      (spared_more (is_of_some (names_of job)) (in_family job) (components_less job) (record {
        endures = made_endures wire (is_alone_frame frame) settings 0 job.components.items old works.mid works.made ds es works.makes.told works.makes.made;
        apart = λ t. made_apart wire (is_alone_frame frame) settings 0 job.components.items old works.mid works.made ds es works.makes.told works.makes.made t;
      }))
      (at_answer works.made works.behind (λ h. completes_spared h) (λ stop h. spared_none (in_family job) h.1))

  -- or what is removed where the file stood.
  stood_spared : {old new : World} {result : Result JobEnd TurnFault} → Stood frame old new result → Spared (in_family job) old new
  stood_spared {old} {new} {result} stood = spared_both (in_family job) (spared_looked (in_family job) stood.asks.looked) (by stood.recorded stood.cleared)
    where
      by : (told : Result Bool StoreFault) → ClearsWhere frame told stood.mid new result → Spared (in_family job) stood.mid new
      by (Ok true) h = behind_spared h.1
      by (Ok false) h = spared_none (in_family job) h.1
      by (Err fault) h = spared_none (in_family job) h.1

module _ {D : Type 0} (wire : D → Wire) (settings : Settings) (job : Job) (ready : IsReady job) where
  begins_spared : {bench bench' : Bench} {old new : World} {result : Result JobEnd TurnFault} {ds es : List D} → Begins wire settings job bench bench' old new result ds es → Spared (in_family job) old new
  begins_spared {bench} {bench'} {old} {new} {result} {ds} {es} b = spared_both (in_family job) (spared_looked (in_family job) b.asks.looked) (by b.stands b.behind)
    where
      by : (stands : Result Bool StoreFault) → WorksWhere wire settings b.frame job.components.items stands bench bench' b.mid new result ds es → Spared (in_family job) b.mid new
      by (Ok true) h = stood_spared settings job ready b.frame b.frame_is h.0
      by (Ok false) h = works_spared settings job ready b.frame b.frame_is wire h.1
      by (Err fault) h = spared_none (in_family job) h.1

  -- So it is of the whole turn.
  pub goes_spared : (bench bench' : Bench) (old new : World) (result : Result JobEnd TurnFault) (ds es : List D) → Goes wire settings job bench bench' old new result ds es → Spared (in_family job) old new
  goes_spared bench bench' old new result ds es goes = ⊎_elim
      (λ (b : Begins wire settings job bench bench' old new result ds es). begins_spared b)
      (λ (n : BeginsNot wire settings bench bench' old new result ds es). spared_none (in_family job) n.same) goes
