-- That a job stays sound to whatever there was at first while its components are made.
use Rattle.std.proofs.Common.{◌≡◌, ⊎_elim, Bool, true, false, IsTrue, List, [], ◌∷◌, map, refl, sym, ◌∙◌, ap, subst}
use Rattle.std.proofs.lemmas.List.Elements.{All-nil, All-cons, All-head}
use Rattle.std.proofs.lemmas.Option.{same_Some}
use Rattle.std.specs.List.{slice_get}
use Rattle.std.specs.Prelude.{Option, Some, None, All, Result, is_some, bytes_eq, if◌then◌else◌}
use Rattle.folder_base.specs.Disk.{Name, Bytes, Image}
use Rattle.folder_base.specs.Story.{World, Through}
use Rattle.folder_base.proofs.Disjoint.{so_left}
use Rattle.folder_base.proofs.Images.{same_name, reads_may}
use Rattle.folder_base.proofs.Moments.{weaker, both}
use Rattle.folder_steps.specs.Follow.{Always, AsRead}
use Rattle.keep_store.specs.Promise.{IfStands}
use Rattle.keep_store.specs.Safe.{reads}
use Rattle.link_http.specs.Wire.{Wire}
use Rattle.tool_chain.specs.Jobs.{Job as Command}
use Rattle.tool_chain.specs.Runs.{Making}
use Rattle.component_store.specs.Component.{Web, all_bytes}
use Rattle.frag_crew.specs.Asked.{Asked}
use Rattle.component_turn.specs.Pieces.{AllTell}
use Rattle.component_turn.specs.Plan.{is_of, lines_of}
use Rattle.job_pieces.specs.Views.{plain_component}
use Rattle.job_pieces.specs.declared.component.Component.{Component}
use Rattle.job_plan.specs.Laws.{last_output}
use Rattle.job_plan.specs.declared.job.Job.{Job}
use Rattle.job_turn.specs.Clearing.{is_of_some}
use Rattle.job_turn.specs.Components.{AllMade}
use Rattle.job_turn.specs.Job.{HasPieces, IsReady, steps_of, names_of, is_alone}
use Rattle.job_turn.specs.Sound.{out_of, made_of, FinalSound, JobSound, AllTold}
use Rattle.job_turn.specs.declared.end.Stop.{Stop}
use Rattle.job_turn.specs.declared.settings.Settings.{Settings}
use Rattle.job_turn.proofs.ApartLemmas.{made_apart}
use Rattle.job_turn.proofs.FamilyLemmas.{never}
use Rattle.job_turn.proofs.GoesSoundLemmas.{alone_not}
use Rattle.job_turn.proofs.JobSoundLemmas.{has_plan, own_holds, final_free}
use Rattle.job_turn.proofs.MadeLemmas.{OwnOf, sole_own}
use Rattle.job_turn.proofs.SoundLemmas.{SoundOf, NoneOf, made_sound}

-- The only component, by its name.
pub record IsSole (items : List Component) (final : Name) : Type 0 where
  pub one : Component
  pub only : items ≡ one ∷ []
  pub named : one.name ≡ final

sole_of : (items : List Component) (final : Name) → map (λ component. component.name) (map plain_component items) ≡ final ∷ [] → IsSole items final
sole_of [] final is = absurd (let e : None ≡ Some final = ap (λ (l : List Name). slice_get l 0) is in cc)
sole_of (c ∷ []) final is = record { one = c; only = refl; named = same_Some c.name final (ap (λ (l : List Name). slice_get l 0) is) }
sole_of (c ∷ d ∷ cs) final is = absurd (let e : Some d.name ≡ None = ap (λ (l : List Name). slice_get l 1) is in cc)

-- What a job without steps makes is what was fetched for its only component.
sole_makes : (web : Web) (make : Making) (c : Component) (final : Name) → c.name ≡ final → made_of web make (c ∷ []) [] final ≡ all_bytes web (lines_of c.pieces.items)
sole_makes web make c final named = ap (λ (b : Bool). if b then all_bytes web (lines_of c.pieces.items) else None) (subst (λ (n : Name). bytes_eq c.name n ≡ true) named (same_name c.name))

module _ (job : Job) (ready : IsReady job) where
  -- Without steps there is only one component.
  pub is_sole : is_alone job ≡ true → (steps_of job ≡ []) × IsSole job.components.items job.final_name
  is_sole alone = ⊎_elim (λ m. (m.0, sole_of job.components.items job.final_name m.1)) (λ some. absurd (by (last_output (steps_of job)) refl some)) ready.whole.made
    where
      by : (o : Option Name) → last_output (steps_of job) ≡ o → is_some (last_output (steps_of job)) ≡ true → ⊥
      by None e some = never (sym some ∙ ap (λ (o : Option Name). is_some o) e)
      by (Some output) e some = never (sym alone ∙ alone_not job ready output e)

  module _ {D : Type 0} (wire : D → Wire) (settings : Settings) (web : Web) (make : Making) (base : Image) (old new : World) (result : Result (Unit {0}) Stop) (ds es : List D) (told : List (List Asked))
      (t : IsTrue new.tells) (tell : AllTell wire es) (replies : AllTold web job.components.items told) (as_read : Always (AsRead (is_of_some (names_of job)) old.story.now) old.story.now)
      (none : Always (λ image. image job.final_name ≡ None) old.story.now) (always : Always (JobSound web make job base) old.story.now) where
    none_of : is_alone job ≡ true → Always (λ image. All (λ component. NoneOf component image) job.components.items) old.story.now
    none_of alone image may = let sole = (is_sole alone).1 in
        subst (λ (l : List Component). All (λ component. NoneOf component image) l) (sym sole.only)
        (All-cons (λ component. NoneOf component image) sole.one [] (ap image sole.named ∙ none image may) (All-nil (λ component. NoneOf component image)))

    -- Each moment is sound, whether steps are to follow
    pub making_sound : AllMade wire (is_alone job) settings 0 job.components.items old new result ds es told → Through old.story new.story (JobSound web make job base)
    making_sound made = by (is_alone job) refl
      where
        parts : Through old.story new.story (λ image. All (λ component. SoundOf web component image) job.components.items)
        parts = made_sound wire (is_alone job) settings web 0 job.components.items ready.apart.components old new result ds es told made t tell replies as_read none_of (λ image may. (always image may).components)

        first : FinalSound (base job.final_name) (out_of web make job) (reads old.story.now job.final_name)
        first = (always (reads old.story.now) (reads_may old.story.now)).final

        by : (b : Bool) → is_alone job ≡ b → Through old.story new.story (JobSound web make job base)
        by false alone = weaker (both parts (made_apart wire (is_alone job) settings 0 job.components.items old new result ds es told made t)) (λ image h. record {
          components = h.0;
          final = subst (λ (o : Option Bytes). FinalSound (base job.final_name) (out_of web make job) o) (sym (h.1.each job.final_name (ready.apart.final_is_none alone))) (always h.1.before h.1.possible).final;
        })
        -- or the only component is the file.
        by true alone = weaker (both parts own) (λ image h. record {
          components = h.0;
          final = final_free (base job.final_name) (out_of web make job) (reads old.story.now job.final_name) (image job.final_name) first (none (reads old.story.now) (reads_may old.story.now)) (held image h.0 h.1);
        })
          where
            sole : IsSole job.components.items job.final_name
            sole = (is_sole alone).1

            own : Through old.story new.story (OwnOf sole.one)
            own = sole_own wire (is_alone job) settings 0 sole.one old new result ds es told (subst (λ (l : List Component). AllMade wire (is_alone job) settings 0 l old new result ds es told) sole.only made) t
                (λ image may n is. as_read image may n (mine n is)) (λ image may. ap image sole.named ∙ none image may)
              where
                mine : (n : Name) → is_of sole.one.name n ≡ true → is_of_some (names_of job) n ≡ true
                mine n is = subst (λ (l : List Component). is_of_some (map (λ (c : Component). c.name) l) n ≡ true) (sym sole.only) (ap (λ (b : Bool). b) (so_left (is_of sole.one.name n) false is))

            out : out_of web make job ≡ all_bytes web (lines_of sole.one.pieces.items)
            out = ap (λ (steps : List Command). made_of web make job.components.items steps job.final_name) (is_sole alone).0
                ∙ ap (λ (l : List Component). made_of web make l [] job.final_name) sole.only ∙ sole_makes web make sole.one job.final_name sole.named

            held : (image : Image) → All (λ component. SoundOf web component image) job.components.items → OwnOf sole.one image → IfStands (image job.final_name) (λ bytes. out_of web make job ≡ Some bytes)
            held image all owned = subst (λ (o : Option Bytes). IfStands (image job.final_name) (λ bytes. o ≡ Some bytes)) (sym out)
                (subst (λ (n : Name). IfStands (image n) (λ bytes. all_bytes web (lines_of sole.one.pieces.items) ≡ Some bytes)) sole.named
                (own_holds web sole.one (has_plan sole.one (All-head HasPieces sole.one [] (subst (All HasPieces) sole.only ready.pieces))) image
                (All-head (λ component. SoundOf web component image) sole.one [] (subst (λ (l : List Component). All (λ component. SoundOf web component image) l) sole.only all)) owned))
