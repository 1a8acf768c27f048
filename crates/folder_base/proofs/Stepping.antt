-- One step more in the story that files in memory tell.
use Rattle.std.proofs.Common.{◌≡◌, inl, ℕ, arith, length, take, IsSome, Bool, true, false, List, [], ◌∷◌, ◌++◌, refl, sym, ◌∙◌, ap, subst, is_some, is_none, String, Ok, Err}
use Rattle.std.specs.Prelude.{Option, Some, None, option_map, Result, bytes_eq, if◌then◌else◌}
use Rattle.std.specs.BTreeMap.{BTreeMap, get_by_text}
use Rattle.std.specs.declared.alloc.Global.{Global}
use Rattle.text_base.specs.declared.faults.OutOfMemory.{OutOfMemory}
use Rattle.std.proofs.lemmas.List.{take_all}
use Rattle.text_base.specs.declared.faults.FolderFault.{FolderFault}
use Rattle.folder_base.specs.Memory.{Answers}
use Rattle.folder_base.specs.Disk.{Name, Bytes, Names, Disk, appended, renamed_names, renamed_apart, renamed}
use Rattle.folder_base.specs.Story.{Story, Next, DoesSome}
use Rattle.folder_base.specs.Files.{names_of}
use Rattle.folder_base.specs.Log.{does, after, told}
use Rattle.folder_base.specs.Steps.{DoneBy, Steps, is_there}
use Rattle.folder_base.specs.Stored.{file_of}
use Rattle.folder_base.specs.declared.step.Step.{Step}
use Rattle.folder_base.specs.declared.stored.Stored.{Stored}

told_push : (story : Story) (steps : List Step) (step : Step) → Next (does step) (told story steps) (told story (steps ++ step ∷ []))
told_push story [] step = record { now = refl; past = refl }
told_push story (s ∷ steps) step = told_push (after s story) steps step

pub told_next : (start : Story) (old new : List Step) (last : Step) → new ≡ old ++ last ∷ [] → Next (does last) (told start old) (told start new)
told_next start old new last is = subst (λ (l : List Step). Next (does last) (told start old) (told start l)) (sym is) (told_push start old last)

-- The step was done.
pub done_so : (is_proper : Names → Bool) (step : Disk → Disk) (old new : List Step) (files files' : BTreeMap (String Global) Stored) (was : Bool)
    → (last : Step) → does last ≡ step → new ≡ old ++ last ∷ [] → (change : Names → Names) → ((disk : Disk) → (step disk).live ≡ change disk.live)
    → names_of files' ≡ change (names_of files) → is_proper (names_of files) ≡ true → was ≡ true → Steps is_proper step old files new files' (Ok was)
done_so is_proper step old new files files' was last is pushed change changes changed proper was_so =
    subst (λ (b : Bool). Steps is_proper step old files new files' (Ok b)) (sym was_so) (λ start agrees.
    let next : Next step (told start old) (told start new) = subst (λ (f : Disk → Disk). Next f (told start old) (told start new)) is (told_next start old new last pushed) in (
      changed ∙ ap change agrees ∙ sym (ap (λ (d : Disk). d.live) next.now ∙ changes (told start old).now),
      (sym proper ∙ ap is_proper agrees, next),
    ))

pub some_there : (files : BTreeMap (String Global) Stored) (name : Name) (b : Bool) → b ≡ is_some (get_by_text files name) → b ≡ is_some (names_of files name)
some_there files name b = by (get_by_text files name)
  where
    by : (o : Option Stored) → b ≡ is_some o → b ≡ is_some (option_map file_of o)
    by None e = e
    by (Some s) e = e

pub some_true : (files : BTreeMap (String Global) Stored) (name : Name) → is_some (get_by_text files name) ≡ true → is_some (names_of files name) ≡ true
some_true files name e = sym (some_there files name true (sym e))

pub none_true : (files : BTreeMap (String Global) Stored) (name : Name) → is_some (get_by_text files name) ≡ false → is_none (names_of files name) ≡ true
none_true files name = by (get_by_text files name)
  where
    by : (o : Option Stored) → is_some o ≡ false → is_none (option_map file_of o) ≡ true
    by None e = refl
    by (Some s) e = cc

pub renamed_live : (from to : Name) → bytes_eq from to ≡ false → (disk : Disk) → (renamed from to disk).live ≡ renamed_names from to disk.live
renamed_live from to apart disk = ap (λ (b : Bool). (if b then disk else renamed_apart from to disk).live) apart

pub renamed_same : (from to : Name) → bytes_eq from to ≡ true → (disk : Disk) → (renamed from to disk).live ≡ disk.live
renamed_same from to same disk = ap (λ (b : Bool). (if b then disk else renamed_apart from to disk).live) same

-- What a call that is done in part does, once it is answered.
pub did_some : (name : Name) (bytes : Bytes) (old new : Story) (done : Result Bool OutOfMemory) (result : Result (Unit {0}) FolderFault) (f f' q q' : ℕ)
    → DoneBy (is_there name old.now.live) (appended name bytes) old new done → Answers done result f f' q q'
    → DoesSome (IsSome (old.now.live name)) (λ count. appended name (take count bytes)) (length bytes) old new result
did_some name bytes old new (Ok true) result f f' q q' by answers =
    subst (λ (r : Result (Unit {0}) FolderFault). DoesSome (IsSome (old.now.live name)) (λ count. appended name (take count bytes)) (length bytes) old new r) (sym answers.0) (record {
      was_proper = sym by.0;
      done = subst (λ (b : Bytes). Next (appended name b) old new) (sym (take_all (length bytes) bytes (omega arith))) by.1;
      failed = λ e. absurd (cc);
      refused = λ e. absurd (cc);
    })
did_some name bytes old new (Ok false) result f f' q q' by answers =
    subst (λ (r : Result (Unit {0}) FolderFault). DoesSome (IsSome (old.now.live name)) (λ count. appended name (take count bytes)) (length bytes) old new r) (sym answers.0) (record {
      was_proper = tt;
      done = tt;
      failed = λ e. inl by.1;
      refused = λ e. absurd (cc);
    })
did_some name bytes old new (Err e) result f f' q q' by answers =
    subst (λ (r : Result (Unit {0}) FolderFault). DoesSome (IsSome (old.now.live name)) (λ count. appended name (take count bytes)) (length bytes) old new r) (sym answers.0) (record {
      was_proper = tt;
      done = tt;
      failed = λ e. absurd (cc);
      refused = λ e. by;
    })
