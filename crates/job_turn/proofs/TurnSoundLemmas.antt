-- That a job stays sound to whatever there was at first, from what is removed behind it up to the whole turn.
use Rattle.std.proofs.Common.{◌≡◌, Bool, true, false, IsTrue, List, map, length, refl, sym, ◌∙◌, ap, subst}
use Rattle.std.specs.Prelude.{None, Result, MatchResult, Ok, Err, is_some, not, ◌||◌, ◌&&◌}
use Rattle.folder_base.specs.Disk.{Name, Names, Image}
use Rattle.folder_base.specs.Story.{World, Story, Through}
use Rattle.folder_base.specs.declared.store_fault.StoreFault.{StoreFault}
use Rattle.folder_base.proofs.Moments.{begun, stays, joined, weaker}
use Rattle.folder_steps.specs.Follow.{Always, AsRead}
use Rattle.link_http.specs.Wire.{Wire}
use Rattle.plan_record.specs.Names.{record_of}
use Rattle.tool_chain.specs.Runs.{Bench}
use Rattle.component_store.specs.Component.{Web}
use Rattle.component_store.specs.Tidy.{is_cleared, is_tidied}
use Rattle.component_store.proofs.FamilyLemmas.{record_self, spare_self, joined_self, pieces_self}
use Rattle.component_turn.specs.Pieces.{AllTell}
use Rattle.component_turn.proofs.TurnLemmas.{at_end}
use Rattle.job_pieces.specs.declared.component.Component.{Component}
use Rattle.job_plan.specs.declared.job.Job.{Job}
use Rattle.job_turn.specs.Clearing.{is_of_some, is_tidied_of}
use Rattle.job_turn.specs.Components.{AllMade}
use Rattle.job_turn.specs.Family.{goes_behind}
use Rattle.job_turn.specs.Job.{IsReady, names_of, is_alone}
use Rattle.job_turn.specs.Making.{is_alone as is_alone_frame, Cleared, Closes, Completes}
use Rattle.job_turn.specs.Sound.{JobSound, AllTold}
use Rattle.job_turn.specs.Turn.{IsFrameOf, Works, Stood, ClearsWhere}
use Rattle.job_turn.specs.declared.end.JobEnd.{JobEnd}
use Rattle.job_turn.specs.declared.end.Stop.{Stop}
use Rattle.job_turn.specs.declared.end.TurnFault.{TurnFault}
use Rattle.job_turn.specs.declared.frame.Frame.{Frame}
use Rattle.job_turn.specs.declared.settings.Settings.{Settings}
use Rattle.job_turn.proofs.ApartLemmas.{at_answer, made_endures, made_apart}
use Rattle.job_turn.proofs.FamilyLemmas.{tidied_of_not, finishes_spared}
use Rattle.job_turn.proofs.GoesSoundLemmas.{AllWhole, cleared_sound, runs_sound, finishes_sound}
use Rattle.job_turn.proofs.JobFrameLemmas.{finishes_of, runs_of, cleared_of, alone_of}
use Rattle.job_turn.proofs.MadeLemmas.{made_complete}
use Rattle.job_turn.proofs.MakingSoundLemmas.{is_sole, making_sound}

may_not : (b c : Bool) → c ≡ false → (b && c) ≡ false
may_not true c e = e
may_not false c e = refl

-- A final component stays as it is tidied.
final_stays : (component : Name) (keep : Bool) (live : Names) → is_tidied component true keep live component ≡ false
final_stays component keep live = may_not (is_some (live (record_of component))) (is_cleared component true (keep && is_some (live component)) component) (λ i.
    (may_not (not (keep && is_some (live component))) _ (record_self component) i || (spare_self component i || (joined_self component i || pieces_self component i))) || false)

module _ (job : Job) (ready : IsReady job) where
  -- What goes behind a job is not its file.
  pub file_stays : (keep : Bool) (live : Names) → goes_behind keep job live job.final_name ≡ false
  file_stays keep live = let here = ready.apart.final_is_no_output in let there = by (is_alone job) refl in λ i. here i || there i
    where
      by : (b : Bool) → is_alone job ≡ b → is_tidied_of (is_alone job) keep live (names_of job) job.final_name ≡ false
      by false alone = tidied_of_not (is_alone job) keep live (names_of job) job.final_name (ready.apart.final_is_none alone)
      by true alone = let sole = (is_sole job ready alone).1 in
          (λ i. is_tidied_of (alone i) keep live (map (λ (c : Component). c.name) (sole.only i)) job.final_name)
          ∙ (λ i. is_tidied (sole.named i) true keep live job.final_name || false)
          ∙ (λ i. final_stays job.final_name keep live i || false)

  module _ (settings : Settings) (frame : Frame) (of : IsFrameOf job settings frame) (web : Web) (base : Image) (bench : Bench) where
    pub behind_sound : {old new : World} {result : Result (Unit {0}) TurnFault} → Cleared frame old new result → IsTrue new.tells → Always (JobSound web bench.make job base) old.story.now → Through old.story new.story (JobSound web bench.make job base)
    behind_sound {old} cleared t always = cleared_sound job ready web base bench settings.keep (file_stays settings.keep old.story.now.live) (cleared_of job settings frame of cleared) t always

    closes_tells : {first last : Bench} {old new : World} {result : Result (Unit {0}) Stop} (closes : Closes frame first last old new result) → IsTrue new.tells → IsTrue closes.mid.tells
    closes_tells closes t = at_answer closes.ran closes.behind (λ h. h.1.clears.stays.tells t) (λ stop h. subst (λ (w : World). IsTrue w.tells) h.1 t)

    -- the commands, and what is removed behind them,
    closes_sound : {first last : Bench} {old new : World} {result : Result (Unit {0}) Stop} → Closes frame first last old new result → IsTrue new.tells → Always (JobSound web bench.make job base) old.story.now
        → Through old.story new.story (JobSound web bench.make job base)
    closes_sound closes t always =
        let run = runs_sound job ready web base bench (length job.steps.items) closes.ran (runs_of job settings frame of closes.runs) (closes_tells closes t) always in
        at_answer closes.ran closes.behind (λ h. joined run (behind_sound h.1 t (at_end run))) (λ stop h. stays run (ap (λ (w : World). w.story) h.1))

    -- the steps too,
    completes_sound : {last : Bench} {old new : World} {result : Result (Unit {0}) Stop} → Completes frame bench last old new result → IsTrue new.tells → IsTrue last.tells
        → (is_alone job ≡ false → Always (λ image. image job.final_name ≡ None) old.story.now) → Always (AllWhole job ready) old.story.now → Always (JobSound web bench.make job base) old.story.now
        → Through old.story new.story (JobSound web bench.make job base)
    completes_sound {last} {old} completes t tools none whole always = at_answer completes.made completes.behind
        (λ h. let run = step (h.runs.1.0.spares.stays.tells (closes_tells h t)) (h.runs.1.0.starts.keeps.tells tools) in joined run (closes_sound h t (at_end run)))
        (λ stop h. stays (step (subst (λ (w : World). IsTrue w.tells) h.1 t) (subst (λ (b : Bench). IsTrue b.tells) h.2 tools)) (ap (λ (w : World). w.story) h.1))
      where
        step : IsTrue completes.mid.tells → IsTrue completes.bench_mid.tells → Through old.story completes.mid.story (JobSound web bench.make job base)
        step u b = finishes_sound job ready web base bench u b none whole always (finishes_of job settings frame of completes.finishes)

    completes_tells : {first last : Bench} {old new : World} {result : Result (Unit {0}) Stop} (completes : Completes frame first last old new result) → IsTrue new.tells → IsTrue completes.mid.tells
    completes_tells completes t = at_answer completes.made completes.behind (λ h. h.runs.1.0.spares.stays.tells (closes_tells h t)) (λ stop h. subst (λ (w : World). IsTrue w.tells) h.1 t)

    pub works_tells : {D : Type 0} (wire : D → Wire) {last : Bench} {old new : World} {result : Result (Unit {0}) Stop} {ds es : List D} → Works wire settings frame job.components.items bench last old new result ds es → IsTrue new.tells → IsTrue old.tells
    works_tells wire {last} {old} {new} {result} {ds} {es} works t =
        (made_endures wire (is_alone_frame frame) settings 0 job.components.items old works.mid works.made ds es works.makes.told works.makes.made).tells
        (at_answer works.made works.behind (λ h. (finishes_spared job (finishes_of job settings frame of h.finishes)).endures.tells (completes_tells h t)) (λ stop h. subst (λ (w : World). IsTrue w.tells) h.1 t))

    -- the components too.
    module _ {D : Type 0} (wire : D → Wire) {last : Bench} {old new : World} {result : Result (Unit {0}) Stop} {ds es : List D} (works : Works wire settings frame job.components.items bench last old new result ds es)
        (t : IsTrue new.tells) (tools : IsTrue last.tells) (tell : AllTell wire es) (replies : AllTold web job.components.items works.makes.told)
        (as_read : Always (AsRead (is_of_some (names_of job)) old.story.now) old.story.now) (none : Always (λ image. image job.final_name ≡ None) old.story.now) (always : Always (JobSound web bench.make job base) old.story.now) where
      made_by : AllMade wire (is_alone job) settings 0 job.components.items old works.mid works.made ds es works.makes.told
      made_by = subst (λ (b : Bool). AllMade wire b settings 0 job.components.items old works.mid works.made ds es works.makes.told) (alone_of job settings frame of) works.makes.made

      make_sound : IsTrue works.mid.tells → Through old.story works.mid.story (JobSound web bench.make job base)
      make_sound u = making_sound job ready wire settings web bench.make base old works.mid works.made ds es works.makes.told u tell replies as_read none always made_by

      none_made : IsTrue works.mid.tells → is_alone job ≡ false → Always (λ image. image job.final_name ≡ None) works.mid.story.now
      none_made u alone = at_end (weaker (made_apart wire (is_alone job) settings 0 job.components.items old works.mid works.made ds es works.makes.told made_by u)
          (λ image f. f.each job.final_name (ready.apart.final_is_none alone) ∙ none f.before f.possible))

      all_whole : IsTrue works.mid.tells → works.made ≡ Ok tt → Always (AllWhole job ready) works.mid.story.now
      all_whole u ok image may k d lt = made_complete wire (is_alone job) settings 0 job.components.items ready.apart.components old works.mid works.made ds es works.makes.told made_by ok u as_read k d lt image may

      behind : (made : Result (Unit {0}) Stop) → works.made ≡ made → MatchResult made (λ _. Completes frame bench last works.mid new result) (λ stop. (result ≡ Err stop) × (new ≡ works.mid) × (last ≡ bench))
          → Through old.story new.story (JobSound web bench.make job base)
      behind (Ok done) is h = let u = (finishes_spared job (finishes_of job settings frame of h.finishes)).endures.tells (completes_tells h t) in
          let run = make_sound u in
          joined run (completes_sound h t tools (none_made u) (all_whole u is) (at_end run))
      behind (Err stop) is h = stays (make_sound (subst (λ (w : World). IsTrue w.tells) h.1 t)) (ap (λ (w : World). w.story) h.1)

      pub works_sound : Through old.story new.story (JobSound web bench.make job base)
      works_sound = behind works.made refl works.behind

    pub stood_tells : {old new : World} {result : Result JobEnd TurnFault} → Stood frame old new result → IsTrue new.tells → IsTrue old.tells
    stood_tells {old} {new} {result} stood t = stood.asks.looked.stays.tells (by stood.recorded stood.cleared)
      where
        by : (told : Result Bool StoreFault) → ClearsWhere frame told stood.mid new result → IsTrue stood.mid.tells
        by (Ok true) h = h.1.clears.stays.tells t
        by (Ok false) h = subst (λ (w : World). IsTrue w.tells) h.1 t
        by (Err fault) h = subst (λ (w : World). IsTrue w.tells) h.1 t

    -- Or what is removed where the file stood.
    pub stood_sound : {old new : World} {result : Result JobEnd TurnFault} → Stood frame old new result → IsTrue new.tells → Always (JobSound web bench.make job base) old.story.now → Through old.story new.story (JobSound web bench.make job base)
    stood_sound {old} {new} {result} stood t always = by stood.recorded stood.cleared
      where
        from_mid : IsTrue stood.mid.tells → (Always (JobSound web bench.make job base) stood.mid.story.now → Through stood.mid.story new.story (JobSound web bench.make job base)) → Through old.story new.story (JobSound web bench.make job base)
        from_mid u run = let same = stood.asks.looked.same u in
            subst (λ (s : Story). Through s new.story (JobSound web bench.make job base)) same (run (subst (λ (s : Story). Always (JobSound web bench.make job base) s.now) (sym same) always))

        none_done : new ≡ stood.mid → Through old.story new.story (JobSound web bench.make job base)
        none_done same = from_mid (subst (λ (w : World). IsTrue w.tells) same t) (λ here. stays (begun stood.mid.story (JobSound web bench.make job base) here) (ap (λ (w : World). w.story) same))

        by : (told : Result Bool StoreFault) → ClearsWhere frame told stood.mid new result → Through old.story new.story (JobSound web bench.make job base)
        by (Ok true) h = from_mid (h.1.clears.stays.tells t) (λ here. behind_sound h.1 t here)
        by (Ok false) h = none_done h.1
        by (Err fault) h = none_done h.1
