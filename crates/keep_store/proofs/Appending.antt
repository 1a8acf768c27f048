-- What a lane is once bytes were put behind its file's end.
use Rattle.std.proofs.Common.{◌≡◌, ⊎_elim, Bool, false, [], ◌++◌, length, refl, sym, subst, arith, length-append}
use Rattle.std.specs.Prelude.{Option, None, IsSome, Result}
use Rattle.std.proofs.lemmas.List.{append-nil}
use Rattle.text_base.specs.declared.faults.FolderFault.{FolderFault}
use Rattle.folder_base.specs.Disk.{Name, Bytes, File, Disk, Image, May, appended}
use Rattle.folder_base.specs.Story.{World, Story, Next, Causes}
use Rattle.folder_base.proofs.Images.{same_or_not}
use Rattle.folder_base.proofs.Moments.{begun, goes_on, stays}
use Rattle.keep_store.specs.Promise.{IsNameOf}
use Rattle.keep_store.specs.Publish.{Stays}
use Rattle.keep_store.specs.Safe.{Safe, Kept}
use Rattle.keep_store.specs.Lane.{Seen, Lies, Has, Since, Keeps, current_name}
use Rattle.keep_store.specs.TookLaws.{kept_more}
use Rattle.keep_store.proofs.LaneSteps.{lies_appended, promises_moved}
use Rattle.keep_store.proofs.SafeSteps.{safe_appended}
use Rattle.keep_store.proofs.SafeImages.{safe_kept}

-- what a call keeps
pub stays_by : {T proper : Type 0} {old new : World} {result : Result T FolderFault} → Causes proper old new result → Stays old new
stays_by is = record { tells = is.tells; still_tells = is.still_tells; steady = is.steady; faults = is.faults; refusals = is.refusals; part = is.part; out = is.out }

-- Where a name of the piece stands, it is that of its file.
pub same_place : (stem name current : Name) (bytes : Bytes) (disk : Disk) → Lies stem name bytes disk → IsNameOf stem current → IsSome (disk.live current) → name ≡ current
same_place stem name current bytes disk lies named stands = ⊎_elim (λ same. same.1)
    (λ apart. absurd (let none = lies.only current named apart in let x : IsSome {T = File} None = subst (λ (o : Option File). IsSome o) none stands in cc)) (same_or_not name current)

module _ (old new : Seen) (name : Name) (named : IsNameOf old.stem name) (stands : IsSome (old.world.story.now.live name)) (part : old.complete ≡ false) (stem_is : new.stem ≡ old.stem) where
  module _ (more : Bytes) (next : Next (appended name more) old.world.story new.world.story) where
    lies_after : (at : Name) (before : Bytes) → Lies old.stem at before old.world.story.now → Lies new.stem name (before ++ more) new.world.story.now
    lies_after at before lies =
        subst (λ (s : Name). Lies s name (before ++ more) new.world.story.now) (sym stem_is)
        (subst (λ (d : Disk). Lies old.stem name (before ++ more) d) (sym next.now)
        (lies_appended old.stem name before more old.world.story.now (subst (λ (n : Name). Lies old.stem n before old.world.story.now) (same_place old.stem at name before old.world.story.now lies named stands) lies)))

    pub appended_has : (new.fault ≡ None → (name ≡ current_name new) × ((before : Bytes) → length before ≡ old.size → length (before ++ more) ≡ new.size)) → (old.fault ≡ None) → new.promised ≡ old.promised
        → (before : Bytes) → Has old before → Has new (before ++ more)
    appended_has current ready promised_is before has = record {
      name = name;
      lies = lies_after has.name before has.lies;
      promises = promises_moved old.stem new.stem has.name name (length before) (length (before ++ more)) old.promised new.promised stem_is (same_place old.stem has.name name before old.world.story.now has.lies named stands)
          (omega (arith, length-append before more)) (omega (arith, promised_is)) has.promises;
      current = λ none. ((current none).0, (current none).1 before (has.current ready).1);
    }

    appended_safe : (entry : Disk) (before : Bytes) → Since old.complete old entry before → Safe old.stem name entry (before ++ more) old.complete (appended name more old.world.story.now)
    appended_safe entry before since =
        subst (λ (b : Bool). Safe old.stem name entry (before ++ more) b (appended name more old.world.story.now)) (sym part)
        (safe_appended old.stem name entry before old.world.story.now more
        (subst (λ (b : Bool). Safe old.stem name entry before b old.world.story.now) part
        (subst (λ (n : Name). Safe old.stem n entry before old.complete old.world.story.now) (same_place old.stem since.name name before old.world.story.now since.lies named stands) since.safe)))

    pub appended_keeps : (entry : Disk) (before : Bytes) → Since old.complete old entry before → Keeps old.complete old new entry (before ++ more)
    appended_keeps entry before since = record {
      moments = goes_on (begun old.world.story (Kept old.stem entry (before ++ more) old.complete) (λ image may. kept_more old.stem entry before more old.complete image (λ is. absurd (cc)) (since.kept image may)))
          next here;
      since = record {
        name = name;
        lies = lies_after since.name before since.lies;
        safe = subst (λ (s : Name). Safe s name entry (before ++ more) old.complete new.world.story.now) (sym stem_is) (subst (λ (d : Disk). Safe old.stem name entry (before ++ more) old.complete d) (sym next.now) (appended_safe entry before since));
        kept = λ image may. subst (λ (s : Name). Kept s entry (before ++ more) old.complete image) (sym stem_is) (here image (subst (λ (d : Disk). May d image) next.now may));
      };
    }
      where
        here : (image : Image) → May (appended name more old.world.story.now) image → Kept old.stem entry (before ++ more) old.complete image
        here image may = safe_kept old.stem name entry (before ++ more) old.complete (appended name more old.world.story.now) (appended_safe entry before since) image may

  -- where nothing was done
  module _ (same : new.world.story ≡ old.world.story) where
    pub same_has : (new.fault ≡ None → ⊥) → new.promised ≡ old.promised → (before : Bytes) → Has old before → Has new (before ++ [])
    same_has held promised_is before has = subst (λ (b : Bytes). Has new b) (sym (append-nil before)) (record {
      name = has.name;
      promises = promises_moved old.stem new.stem has.name has.name (length before) (length before) old.promised new.promised stem_is refl (omega arith) (omega (arith, promised_is)) has.promises;
      lies = subst (λ (s : Name). Lies s has.name before new.world.story.now) (sym stem_is) (subst (λ (d : Story). Lies old.stem has.name before d.now) (sym same) has.lies);
      current = λ none. absurd (held none);
    })

    pub same_keeps : (entry : Disk) (before : Bytes) → Since old.complete old entry before → Keeps old.complete old new entry (before ++ [])
    same_keeps entry before since = subst (λ (b : Bytes). Keeps old.complete old new entry b) (sym (append-nil before)) (record {
      moments = stays (begun old.world.story (Kept old.stem entry before old.complete) since.kept) same;
      since = record {
        name = since.name;
        lies = subst (λ (s : Name). Lies s since.name before new.world.story.now) (sym stem_is) (subst (λ (d : Story). Lies old.stem since.name before d.now) (sym same) since.lies);
        safe = subst (λ (s : Name). Safe s since.name entry before old.complete new.world.story.now) (sym stem_is) (subst (λ (d : Story). Safe old.stem since.name entry before old.complete d.now) (sym same) since.safe);
        kept = λ image may. subst (λ (s : Name). Kept s entry before old.complete image) (sym stem_is) (since.kept image (subst (λ (d : Story). May d.now image) same may));
      };
    })
