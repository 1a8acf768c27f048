-- That a job's whole turn keeps it sound to whatever there was at first.
use Rattle.std.proofs.Common.{◌≡◌, inl, inr, Bool, true, false, IsTrue, List, refl, sym, ◌∙◌, ap, subst}
use Rattle.std.specs.Prelude.{None, Some, Option, IfOk, Result, Ok, Err, is_some, option_map, bytes_eq}
use Rattle.folder_base.specs.Disk.{File, Image, content}
use Rattle.folder_base.specs.Story.{World, Story, Through}
use Rattle.folder_base.specs.declared.store_fault.StoreFault.{StoreFault}
use Rattle.folder_base.proofs.Disjoint.{so_left, so_right}
use Rattle.folder_base.proofs.Images.{same_name}
use Rattle.folder_base.proofs.Moments.{begun, stays}
use Rattle.folder_steps.specs.Follow.{Always, AsRead}
use Rattle.link_http.specs.Wire.{Wire}
use Rattle.tool_chain.specs.Jobs.{is_output_of}
use Rattle.tool_chain.specs.Runs.{Bench}
use Rattle.component_store.specs.Component.{Web}
use Rattle.component_turn.specs.Pieces.{AllTell}
use Rattle.job_plan.specs.declared.job.Job.{Job}
use Rattle.job_turn.specs.Clearing.{is_of_some}
use Rattle.job_turn.specs.JobTurned.{told_where, told_of}
use Rattle.job_turn.specs.Job.{IsReady, steps_of, names_of}
use Rattle.job_turn.specs.Sound.{JobSound, AllTold}
use Rattle.job_turn.specs.Standing.{IsAsRead}
use Rattle.job_turn.specs.Turn.{WorksWhere, Begins, Goes}
use Rattle.job_turn.specs.declared.end.JobEnd.{JobEnd}
use Rattle.job_turn.specs.declared.end.TurnFault.{TurnFault}
use Rattle.job_turn.specs.declared.settings.Settings.{Settings}
use Rattle.job_turn.proofs.TurnSoundLemmas.{stood_sound, stood_tells, works_sound, works_tells}

module _ {D : Type 0} (wire : D → Wire) (settings : Settings) (job : Job) (ready : IsReady job) (bench bench' : Bench) (old new : World) (result : Result JobEnd TurnFault) (ds es : List D) where
  module _ (web : Web) (base : Image) (t : IsTrue new.tells) (tools : IsTrue bench'.tells) (tell : AllTell wire es) (as_read : IsAsRead job old.story.now) (always : Always (JobSound web bench.make job base) old.story.now) where
    none_where : is_some (old.story.now.live job.final_name) ≡ false → Always (λ image. image job.final_name ≡ None) old.story.now
    none_where free image may = as_read image may job.final_name (so_left (bytes_eq job.final_name job.final_name) _ (same_name job.final_name)) ∙ by (old.story.now.live job.final_name) free
      where
        by : (o : Option File) → is_some o ≡ false → option_map content o ≡ None
        by None e = refl
        by (Some file) e = absurd (let x : true ≡ false = e in cc)

    families : Always (AsRead (is_of_some (names_of job)) old.story.now) old.story.now
    families image may n is = as_read image may n (so_right (bytes_eq job.final_name n) _ (so_right (is_output_of (steps_of job) n) (is_of_some (names_of job) n) is))

    begins_sound : (begins : Begins wire settings job bench bench' old new result ds es) (stands : Result Bool StoreFault) (h : WorksWhere wire settings begins.frame job.components.items stands bench bench' begins.mid new result ds es)
        → (IsTrue begins.mid.tells → IfOk stands (λ answer. answer ≡ is_some (old.story.now.live job.final_name))) → AllTold web job.components.items (told_where wire settings job begins stands h) → Through old.story new.story (JobSound web bench.make job base)
    begins_sound begins stands h right replies = by stands h right replies
      where
        moved : IsTrue begins.mid.tells → (Q : Story → Type 0) → Q old.story → Q begins.mid.story
        moved u Q = subst Q (sym (begins.asks.looked.same u))

        back : IsTrue begins.mid.tells → Through begins.mid.story new.story (JobSound web bench.make job base) → Through old.story new.story (JobSound web bench.make job base)
        back u = subst (λ (s : Story). Through s new.story (JobSound web bench.make job base)) (begins.asks.looked.same u)

        by : (stands : Result Bool StoreFault) (h : WorksWhere wire settings begins.frame job.components.items stands bench bench' begins.mid new result ds es)
            → (IsTrue begins.mid.tells → IfOk stands (λ answer. answer ≡ is_some (old.story.now.live job.final_name))) → AllTold web job.components.items (told_where wire settings job begins stands h) → Through old.story new.story (JobSound web bench.make job base)
        by (Ok true) h right replies = let u = stood_tells job ready settings begins.frame begins.frame_is web base bench h.0 t in
            back u (stood_sound job ready settings begins.frame begins.frame_is web base bench h.0 t (moved u (λ s. Always (JobSound web bench.make job base) s.now) always))
        by (Ok false) h right replies = let u = works_tells job ready settings begins.frame begins.frame_is web base bench wire h.1 t in
            back u (works_sound job ready settings begins.frame begins.frame_is web base bench wire h.1 t tools tell replies (moved u (λ s. Always (AsRead (is_of_some (names_of job)) s.now) s.now) families) (moved u (λ s. Always (λ image. image job.final_name ≡ None) s.now) (none_where (sym (right u)))) (moved u (λ s. Always (JobSound web bench.make job base) s.now) always))
        by (Err fault) h right replies = let u = subst (λ (w : World). IsTrue w.tells) h.1 t in
            back u (stays (begun begins.mid.story (JobSound web bench.make job base) (moved u (λ s. Always (JobSound web bench.make job base) s.now) always)) (ap (λ (w : World). w.story) h.1))

    -- At each moment of the turn the job is sound to whatever it was sound to as the turn began.
    pub goes_sound : (goes : Goes wire settings job bench bench' old new result ds es) → AllTold web job.components.items (told_of wire settings job goes) → Through old.story new.story (JobSound web bench.make job base)
    goes_sound (inl begins) replies = begins_sound begins begins.stands begins.behind begins.asks.right replies
    goes_sound (inr none) replies = stays (begun old.story (JobSound web bench.make job base) always) (ap (λ (w : World). w.story) none.same)
