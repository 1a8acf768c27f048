-- That a job stays sound to what was there at first, through what each call of its turn leaves.
use Rattle.std.proofs.Common.{◌≡◌, inl, inr, Bool, true, false, refl, sym, ◌∙◌, ap, subst, arith}
use Rattle.std.proofs.lemmas.List.{length-map}
use Rattle.std.specs.Prelude.{Option, Some, None, is_some, bytes_eq, option_map, slice_index_or}
use Rattle.folder_base.specs.Disk.{Name, Bytes, Image, May, put, content}
use Rattle.folder_base.specs.Story.{Story, Through}
use Rattle.folder_base.proofs.Images.{put_here, put_there}
use Rattle.folder_base.proofs.Moments.{weaker}
use Rattle.folder_steps.specs.Follow.{Always, Follows, Beside, Thinner}
use Rattle.keep_store.specs.Promise.{IfStands}
use Rattle.keep_store.specs.Publish.{IsBeforeOrMoved}
use Rattle.keep_store.specs.Safe.{reads}
use Rattle.tool_chain.specs.Runs.{Making}
use Rattle.component_store.specs.Component.{Web, all_bytes, IsPlan, ComponentSound}
use Rattle.component_store.proofs.SoundLemmas.{thin_sound}
use Rattle.component_turn.specs.Plan.{line_of, lines_of}
use Rattle.component_turn.proofs.TurnLemmas.{thin_same}
use Rattle.job_pieces.specs.declared.component.Component.{Component}
use Rattle.job_plan.specs.declared.job.Job.{Job}
use Rattle.job_turn.specs.Clearing.{is_of_some}
use Rattle.job_turn.specs.Job.{HasPieces, names_of}
use Rattle.job_turn.specs.Sound.{out_of, FinalSound, JobSound}
use Rattle.job_turn.specs.Standing.{HasOwnRecord, StandsWhole}
use Rattle.job_turn.proofs.FoldLemmas.{HoldsWorld}
use Rattle.job_turn.proofs.MadeLemmas.{OwnOf}
use Rattle.job_turn.proofs.SoundLemmas.{all_local, SoundOf, sound_local}

-- ---- one component

-- A component's lines are a plan.
pub has_plan : (component : Component) → HasPieces component → IsPlan (lines_of component.pieces.items)
has_plan component has = (has.plain, omega (arith, has.few, length-map component.pieces.items line_of))

module _ (web : Web) (component : Component) (fit : IsPlan (lines_of component.pieces.items)) (image : Image) (sound : ComponentSound web component.name image) where
  whole_of : HasOwnRecord component image → IfStands (image component.name) (λ bytes. all_bytes web (lines_of component.pieces.items) ≡ Some bytes)
  whole_of recorded = (sound (lines_of component.pieces.items) fit recorded).whole

  -- One that stands only beside its own record holds the world's bytes where it stands,
  pub own_holds : OwnOf component image → IfStands (image component.name) (λ bytes. all_bytes web (lines_of component.pieces.items) ≡ Some bytes)
  own_holds own = by (image component.name) refl
    where
      by : (o : Option Bytes) → image component.name ≡ o → IfStands (image component.name) (λ bytes. all_bytes web (lines_of component.pieces.items) ≡ Some bytes)
      by None e = subst (λ (o : Option Bytes). IfStands o (λ bytes. all_bytes web (lines_of component.pieces.items) ≡ Some bytes)) (sym e) tt
      by (Some bytes) e = whole_of (subst (λ (o : Option Bytes). IfStands o (λ bytes. HasOwnRecord component image)) e own)

  -- and one that stands beside it holds them.
  pub whole_holds : StandsWhole component image → HoldsWorld web component image
  whole_holds stands = by (image component.name) refl
    where
      by : (o : Option Bytes) → image component.name ≡ o → HoldsWorld web component image
      by None e = absurd (let x : false ≡ true = sym (ap (λ (o : Option Bytes). is_some o) e) ∙ stands.0 in cc)
      by (Some bytes) e = e ∙ sym (subst (λ (o : Option Bytes). IfStands o (λ bytes. all_bytes web (lines_of component.pieces.items) ≡ Some bytes)) e (whole_of stands.1))

-- ---- the file

-- A final name that was free, and holds what the job makes.
final_new : (base out before now : Option Bytes) (bytes : Bytes) → FinalSound base out before → before ≡ None → out ≡ Some bytes → now ≡ Some bytes → FinalSound base out now
final_new (Some x) out before now bytes was none is now_is = absurd (let e : None ≡ Some x = sym none ∙ was in cc)
final_new None out before now bytes was none is now_is = subst (λ (o : Option Bytes). IfStands o (λ b. out ≡ Some b)) (sym now_is) is

-- A final name that was free, and holds that where it stands.
pub final_free : (base out before now : Option Bytes) → FinalSound base out before → before ≡ None → IfStands now (λ bytes. out ≡ Some bytes) → FinalSound base out now
final_free (Some x) out before now was none is = absurd (let e : None ≡ Some x = sym none ∙ was in cc)
final_free None out before now was none is = is

module _ (web : Web) (make : Making) (job : Job) (base : Image) where
  -- What hangs on the job's names alone.
  pub job_local : (before image : Image) → ((n : Name) → is_of_some (names_of job) n ≡ true → image n ≡ before n) → image job.final_name ≡ before job.final_name → JobSound web make job base before → JobSound web make job base image
  job_local before image same final s = record {
    components = all_local (λ c i. SoundOf web c i) (sound_local web) job.components.items before image same s.components;
    final = subst (λ (o : Option Bytes). FinalSound (base job.final_name) (out_of web make job) o) (sym final) s.final;
  }

  -- Calls that touch neither the components' families nor the file
  pub sound_beside : {old new : Story} (loose : Name → Bool) → ((n : Name) → is_of_some (names_of job) n ≡ true → loose n ≡ false) → loose job.final_name ≡ false → Through old new (Follows (May old.now) (Beside loose))
      → Always (JobSound web make job base) old.now → Through old new (JobSound web make job base)
  sound_beside loose off final_off run always = weaker run (λ image f. job_local f.before image (λ n is. f.each n (off n is)) (f.each job.final_name final_off) (always f.before f.possible))

  -- Removals, not of the file
  pub sound_thin : {old new : Story} (goes : Name → Bool) → goes job.final_name ≡ false → Through old new (Follows (May old.now) (Thinner goes)) → Always (JobSound web make job base) old.now → Through old new (JobSound web make job base)
  sound_thin {old} goes stays run always = weaker run (λ image f. record {
    components = λ k d lt. thin_sound web (slice_index_or job.components.items k d).name goes old.now (λ before may. (always before may).components k d lt) image f;
    final = subst (λ (o : Option Bytes). FinalSound (base job.final_name) (out_of web make job) o) (sym (thin_same (goes job.final_name) (f.before job.final_name) (image job.final_name) stays (f.each job.final_name))) (always f.before f.possible).final;
  })

  -- A file that holds what the job makes, and gets the final name
  pub sound_published : {old new : Story} (output : Name) → ((n : Name) → is_of_some (names_of job) n ≡ true → bytes_eq output n ≡ false) → ((n : Name) → is_of_some (names_of job) n ≡ true → bytes_eq job.final_name n ≡ false)
      → out_of web make job ≡ reads old.now output → Always (λ image. image job.final_name ≡ None) old.now → Through old new (IsBeforeOrMoved output job.final_name old.now)
      → Always (JobSound web make job base) old.now → Through old new (JobSound web make job base)
  sound_published {old} output off_output off_final out none run always = weaker run by
    where
      by : (image : Image) → IsBeforeOrMoved output job.final_name old.now image → JobSound web make job base image
      by image (inl may) = always image may
      by image (inr moved) = record {
        components = all_local (λ c i. SoundOf web c i) (sound_local web) job.components.items moved.before image
            (λ n is. moved.moved n ∙ put_there (put moved.before output None) job.final_name n (Some (content moved.file)) (off_final n is) ∙ put_there moved.before output n None (off_output n is))
            (always moved.before moved.possible).components;
        final = final_new (base job.final_name) (out_of web make job) (moved.before job.final_name) (image job.final_name) (content moved.file) (always moved.before moved.possible).final (none moved.before moved.possible)
            (out ∙ ap (λ o. option_map content o) moved.stood) (moved.moved job.final_name ∙ put_here (put moved.before output None) job.final_name (Some (content moved.file)));
      }
