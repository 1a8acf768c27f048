-- What a folder keeps of itself, once its parts are merged or were not to be.
use Rattle.std.proofs.Common.{◌≡◌, ◌∙◌, ℕ, ◌≤◌, not, List, map, length, refl, sym, ap, subst, Ok, Err, vec_capacity}
use Rattle.std.specs.Prelude.{Result, Vec}
use Rattle.std.specs.BTreeMap.{BTreeMap}
use Rattle.std.specs.declared.alloc.Global.{Global}
use Rattle.text_base.specs.declared.faults.OutOfMemory.{OutOfMemory}
use Rattle.folder_base.specs.Disk.{Names}
use Rattle.folder_base.specs.Index.{IsIndex}
use Rattle.folder_base.specs.Lines.{start, HasOwn}
use Rattle.folder_base.specs.Log.{told, handed, left, log_story}
use Rattle.folder_base.specs.Merge.{Files, Places, IsIndexed, HasNone, HasRoom, HasPlaces, MergesShared}
use Rattle.folder_base.specs.Parts.{is_in_some}
use Rattle.folder_base.specs.Places.{ArePlaced}
use Rattle.folder_base.specs.Steps.{Agrees}
use Rattle.folder_base.specs.Story.{Part}
use Rattle.folder_base.specs.Tale.{all_handed}
use Rattle.folder_base.specs.declared.log.Log.{Log}
use Rattle.folder_base.specs.declared.place.Place.{Place}
use Rattle.folder_base.specs.declared.side.Side.{Side}
use Rattle.folder_base.specs.declared.side.Side.TheVariants.{All, Rest}
use Rattle.folder_base.specs.declared.step.Step.{Step}

pub record Keeps (log : Log) (side : Side) (steps : List Step) (files : Files) (index : BTreeMap (Vec ℕ Global) ℕ) (places : Places) : Type 0 where
  pub agrees : Agrees (start log side) steps files
  pub own : HasOwn log side files
  pub indexed : IsIndexed log side index
  pub none : HasNone side places
  pub room : HasRoom log side places
  pub placed : HasPlaces log places

all_rest : All ≡ Rest → ⊥
all_rest e = absurd (cc)

module _ (old : Log) (steps : List Step) (places : Places) (files : Files) (new : Log) (side : Side) (steps' : List Step) (places' : Places) (files' : Files) (index : BTreeMap (Vec ℕ Global) ℕ) where
  pub after_merge : (result : Result (Unit {0}) OutOfMemory) → MergesShared old steps places files new side steps' places' files' result → Keeps old Rest steps files index places → Keeps new side steps' files' index places'
  after_merge (Ok x) (side_is, one) was = record {
    agrees = subst (λ (s : Side). Agrees (start new s) steps' files') (sym side_is) one.agrees;
    own = subst (λ (s : Side). HasOwn new s files') (sym side_is) (λ name e. absurd (cc));
    indexed = λ e. absurd (all_rest (sym side_is ∙ e));
    none = λ e. ap length one.empty;
    room = λ e. absurd (all_rest (sym side_is ∙ e));
    placed = subst (λ (l : List Place). ArePlaced (all_handed new) l) (sym one.empty) tt;
  }
  after_merge (Err x) (side_is, apart) was = record {
    agrees = subst (λ (s : Side). Agrees (start new s) steps' files') (sym side_is)
        (apart.files_are ∙ was.agrees ∙ sym (λ i. (told (left (apart.stems i).items (story_is i)) (apart.steps_are i)).now.live));
    own = subst (λ (s : Side). HasOwn new s files') (sym side_is)
        (λ name e. ap (λ (m : Names). m name) apart.files_are ∙ was.own name (ap (λ v. not (is_in_some v.items name)) (sym apart.stems) ∙ e));
    indexed = λ e. subst (λ v. IsIndex v.items index) (sym apart.stems) (was.indexed refl);
    none = λ e. absurd (e side_is);
    room = λ e. subst (λ (v : Places). length new.stems.items ≤ vec_capacity v) (sym apart.places_are) (subst (λ v. length v.items ≤ vec_capacity places) (sym apart.stems) (was.room refl));
    placed = subst (λ (v : Places). ArePlaced (all_handed new) v.items) (sym apart.places_are)
        (subst (λ (l : List Part). ArePlaced l places.items) (sym (λ i. map (handed (story_is i).now) (apart.stems i).items)) was.placed);
  }
    where
      story_is : log_story new ≡ log_story old
      story_is = λ i. told (apart.chapter i).story (apart.log_steps i).items
