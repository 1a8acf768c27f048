-- What a job's turn promises.
use Rattle.std.specs.Prelude.{Bool, true, false, IsTrue, List, [], Result, Ok, Err}
use Rattle.std.proofs.Common.{inl, inr}
use Rattle.folder_base.specs.Disk.{Image}
use Rattle.folder_base.specs.Story.{World, Through}
use Rattle.folder_base.specs.declared.store_fault.StoreFault.{StoreFault}
use Rattle.folder_steps.specs.Follow.{Always}
use Rattle.link_http.specs.Wire.{Wire}
use Rattle.tool_chain.specs.Runs.{Bench}
use Rattle.component_store.specs.Component.{Web}
use Rattle.frag_crew.specs.Asked.{Asked}
use Rattle.component_turn.specs.Pieces.{AllTell}
use Rattle.job_plan.specs.declared.job.Job.{Job}
use Rattle.job_turn.specs.Family.{in_family, Spared}
use Rattle.job_turn.specs.Sound.{JobSound, AllTold}
use Rattle.job_turn.specs.Standing.{IsAsRead}
use Rattle.job_turn.specs.Turn.{WorksWhere, Begins, Goes}
use Rattle.job_turn.specs.declared.end.JobEnd.{JobEnd}
use Rattle.job_turn.specs.declared.end.TurnFault.{TurnFault}
use Rattle.job_turn.specs.declared.settings.Settings.{Settings}

module _ {D : Type 0} (wire : D → Wire) (settings : Settings) (job : Job) {bench bench' : Bench} {old new : World} {result : Result JobEnd TurnFault} {ds es : List D} where
  -- what was asked once it was known whether the file stands: nothing where it does
  abbrev pub told_where : (begins : Begins wire settings job bench bench' old new result ds es) (stands : Result Bool StoreFault) → WorksWhere wire settings begins.frame job.components.items stands bench bench' begins.mid new result ds es → List (List Asked)
  told_where begins (Ok true) h = []
  told_where begins (Ok false) h = h.1.makes.told
  told_where begins (Err fault) h = []

  -- what was asked in a turn, component by component
  abbrev pub told_of : Goes wire settings job bench bench' old new result ds es → List (List Asked)
  told_of (inl begins) = told_where begins begins.stands begins.behind
  told_of (inr none) = []

-- A job's turn goes so, call by call, by dialers that were `ds` and are `es`. It touches no name beside the job's family. Where nothing of that is pending as it begins, the
-- tools and dialers tell, and the replies to what was asked are truthful of a world, each image that a crash may leave is sound to whatever all of them were sound to at first.
pub record JobTurned {D : Type 0} (wire : D → Wire) (settings : Settings) (job : Job) (bench bench' : Bench) (old new : World) (result : Result JobEnd TurnFault) (ds es : List D) : Type 0 where
  pub goes : Goes wire settings job bench bench' old new result ds es
  pub spared : Spared (in_family job) old new
  pub sound : IsTrue new.tells → IsAsRead job old.story.now → IsTrue bench'.tells → AllTell wire es → (web : Web) (base : Image) → AllTold web job.components.items (told_of wire settings job goes)
      → Always (JobSound web bench.make job base) old.story.now → Through old.story new.story (JobSound web bench.make job base)
