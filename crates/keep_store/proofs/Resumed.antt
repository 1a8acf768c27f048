-- A lane goes on from the piece that was found, once its other names are removed.
use Rattle.std.proofs.Common.{◌≡◌, ◌⊎◌, inl, inr, ⊎_elim, ℕ, ◌+◌, ◌<◌, ◌≤◌, ◌^◌, Bool, true, false, IsTrue, List, ◌++◌, length, refl, sym, ◌∙◌, ap, subst, arith, string_bytes}
use Rattle.std.specs.Prelude.{Contains, Result, Err, IsErrOf, ⊤, Option, Some, None, IsSome, is_some, option_map, bytes_eq}
use Rattle.std.specs.Fmt.{decimal}
use Rattle.std.specs.String.{string_capacity}
use Rattle.text_base.specs.declared.faults.FolderFault.{FolderFault}
use Rattle.text_base.specs.declared.faults.FolderFault.TheVariants.{Failed, OutOfMemory}
use Rattle.text_base.specs.declared.faults.FolderCall.TheVariants.{Names}
use Rattle.folder_base.specs.declared.store_fault.StoreFault.{StoreFault}
use Rattle.folder_base.specs.declared.store_fault.StoreFault.TheVariants.{OutOfMemory as NoMemory}
use Rattle.folder_base.specs.Disk.{Name, Bytes, File, content, begins}
use Rattle.folder_base.specs.Names.{Lists}
use Rattle.folder_base.specs.Story.{World, Story, Asks, Same, Through}
use Rattle.folder_base.proofs.Images.{same_or_not, same_name}
use Rattle.folder_base.proofs.Moments.{joined, weaker}
use Rattle.keep_store.specs.Promise.{promise_prefix, IsNameOf}
use Rattle.keep_store.specs.Publish.{Stays, store_fault}
use Rattle.keep_store.specs.Safe.{Kept}
use Rattle.keep_store.specs.Lane.{Seen, IsLaneFolder, Lies, IsRefusal, PromisesAtLeast, SameOthers, current_name}
use Rattle.keep_store.specs.State.{seen, IsLane}
use Rattle.keep_store.specs.Opening.{AllStand, Finds, found_name, Removes, KeepsOthers, Secures}
use Rattle.keep_store.specs.Opens.{KeepsPromise, Resumes, Opens, NotOpened}
use Rattle.keep_store.specs.declared.lane_state.LaneState.{LaneState}
use Rattle.keep_store.specs.TookLaws.{stays_none, stays_both, refusal_later}
use Rattle.keep_store.proofs.Naming.{begins_all, folder_after}
use Rattle.keep_store.proofs.Numerals.{decimal_is_number, number_of-decimal, name_is_promising}
use Rattle.keep_store.proofs.Found.{keeps_begun, keeps_same, keeps_bytes, others_same}
use Rattle.keep_store.proofs.SafeSteps.{differ_back}
use Rattle.keep_store.proofs.SafeImages.{safe_kept}

-- The listed names still stand once the piece is found.
pub all_stand : (stem prefix current : Name) (complete : Bool) (size : ℕ) (old mid : Story) (names : List Name) → Lists prefix old.now.live names → Finds stem current complete size old mid → AllStand mid.now.live names
all_stand stem prefix current complete size old mid names lists finds = record { each = each; ordered = lists.ordered }
  where
    each : (name : Name) → Contains names name → IsSome (mid.now.live name)
    each name among = elim (same_or_not current name) [
      | inl same ↦ subst (λ (o : Option File). IsSome o) (sym (ap mid.now.live (sym same.1) ∙ finds.stands)) refl
      | inr apart ↦ subst (λ (o : Option File). IsSome o) (sym (finds.others name apart)) ((lists.each name).0 among).1
    ]

-- The removals keep what was promised.
pub keeps_secured : (stem current : Name) (complete : Bool) (size : ℕ) (old mid new : Story) → Finds stem current complete size old mid → Secures current mid new → KeepsPromise stem old mid → KeepsPromise stem old new
keeps_secured stem current complete size old mid new finds secures keeps settled = keeps_bytes stem old new finds.bytes finds.promise (joined (weaker (keeps settled).promise (λ image one. one finds.bytes finds.promise))
    (subst (λ (b : Bool). Through mid new (Kept stem old.now finds.bytes b)) finds.known (secures stem old.now finds.bytes complete (finds.safe settled)).0))

module _ (stem prefix current : Name) (complete : Bool) (size : ℕ) (old mid new : Story) (names : List Name) (prefix_is : prefix ≡ promise_prefix stem) (name_is : current ≡ found_name stem complete size) (small : size < 2 ^ 64)
    (lists : Lists prefix old.now.live names) (finds : Finds stem current complete size old mid) (removes : Removes prefix current names (length names) mid.now new.now) where
  current_named : IsNameOf stem current
  current_named = by complete name_is
    where
      by : (b : Bool) → current ≡ found_name stem b size → IsNameOf stem current
      by true e = inl e
      by false e = subst (λ (n : Name). IsNameOf stem n) (sym e) (inr (name_is_promising stem size small))

  still_stands : new.now.live current ≡ Some finds.file
  still_stands = ⊎_elim (λ kept. kept ∙ finds.stands) (λ gone. absurd (let x : bytes_eq current current ≡ true = same_name current in let y = gone.1.apart in cc)) (removes.only current)

  still_gone : (other : Name) → mid.now.live other ≡ None → new.now.live other ≡ None
  still_gone other none = ⊎_elim (λ kept. kept ∙ none) (λ gone. gone.0) (removes.only other)

  only : (other : Name) → IsNameOf stem other → bytes_eq current other ≡ false → new.now.live other ≡ None
  only other (inl whole) apart = by complete name_is finds.known (old.now.live stem) refl
    where
      by : (b : Bool) → current ≡ found_name stem b size → b ≡ is_some (old.now.live stem) → (o : Option File) → old.now.live stem ≡ o → new.now.live other ≡ None
      by true e known o is = absurd (let x : bytes_eq current other ≡ true = subst (λ (n : Name). bytes_eq current n ≡ true) (e ∙ sym whole) (same_name current) in cc)
      by false e known None is = still_gone other (finds.others other apart ∙ ap old.now.live whole ∙ is)
      by false e known (Some file) is = absurd (let x : false ≡ true = known ∙ ap (λ (o : Option File). is_some o) is in cc)
  only other (inr promising) apart = by (old.now.live other) refl
    where
      name_of : other ≡ prefix ++ promising.digits
      name_of = promising.is ∙ ap (λ (p : Name). p ++ promising.digits) (sym prefix_is)

      by : (o : Option File) → old.now.live other ≡ o → new.now.live other ≡ None
      by None is = still_gone other (finds.others other apart ∙ is)
      by (Some file) is =
          let place = (lists.each other).1 (subst (λ (n : Name). IsTrue (begins prefix n)) (sym name_of) (begins_all prefix promising.digits), subst (λ (o : Option File). IsSome o) (sym is) refl) in
          removes.gone place.0 other place.1 place.1 place.2 (record { digits = promising.digits; number = promising.number; is = name_of; apart = differ_back current other apart })

  -- The name promises all.
  pub found_promises : (count : ℕ) → length finds.bytes ≡ size → count ≡ size → PromisesAtLeast stem current (length finds.bytes) count
  found_promises count count_is all = by complete name_is
    where
      by : (b : Bool) → current ≡ found_name stem b size → PromisesAtLeast stem current (length finds.bytes) count
      by true e = inl (e, omega (arith, count_is, all))
      by false e = inr (record {
        digits = decimal size;
        number = decimal_is_number size small;
        is = e;
        least = omega (arith, number_of-decimal size small, all);
        most = omega (arith, number_of-decimal size small, count_is);
      })

  pub found_lies : Lies stem current finds.bytes new.now
  found_lies = record { file = finds.file; stands = still_stands; reads_as = finds.reads_as; named = current_named; only = only }

  pub found_others : (name : Name) → (IsNameOf stem name → ⊥) → new.now.live name ≡ old.now.live name
  found_others name none = ⊎_elim (λ kept. kept ∙ finds.others name apart) (λ gone. absurd (none (inr (record { digits = gone.1.digits; number = gone.1.number; is = gone.1.is ∙ ap (λ (p : Name). p ++ gone.1.digits) prefix_is })))) (removes.only name)
    where
      apart : bytes_eq current name ≡ false
      apart = ⊎_elim (λ same. absurd (none (subst (λ (n : Name). IsNameOf stem n) same.1 current_named))) (λ differs. differs) (same_or_not current name)

-- the lane that is opened
module _ (old world : World) (mid : Story) (state : LaneState) (prefix : Name) (names : List Name) (prefix_is : prefix ≡ promise_prefix state.stem) (name_is : string_bytes state.current ≡ found_name state.stem state.complete state.size)
    (small : state.size < 2 ^ 64) (all : state.promised ≡ state.size) (no_fault : state.fault ≡ None) (stays : Stays old world)
    (lists : IsTrue world.tells → Lists prefix old.story.now.live names) (finds : IsTrue world.tells → Finds state.stem (string_bytes state.current) state.complete state.size old.story mid)
    (removes : IsTrue world.tells → Removes prefix (string_bytes state.current) names (length names) mid.now world.story.now) (secures : IsTrue world.tells → Secures (string_bytes state.current) mid world.story)
    (keeps : IsTrue world.tells → KeepsPromise state.stem old.story mid) where
  is_current : string_bytes state.current ≡ current_name (seen world state)
  is_current = name_is ∙ ap (λ (n : ℕ). found_name state.stem state.complete n) (sym all)

  lies_now : (t : IsTrue world.tells) → Lies state.stem (string_bytes state.current) (finds t).bytes world.story.now
  lies_now t = found_lies state.stem prefix (string_bytes state.current) state.complete state.size old.story mid world.story names prefix_is name_is small (lists t) (finds t) (removes t)

  resumes : IsTrue world.tells → Resumes old.story (seen world state)
  resumes t = record {
    bytes = (finds t).bytes;
    promise = (finds t).promise;
    complete = (finds t).known;
    has = record {
      name = string_bytes state.current;
      lies = lies_now t;
      promises = found_promises state.stem prefix (string_bytes state.current) state.complete state.size old.story mid world.story names prefix_is name_is small (lists t) (finds t) (removes t) state.promised (finds t).count all;
      current = λ none. (is_current, (finds t).count);
    };
    others = found_others state.stem prefix (string_bytes state.current) state.complete state.size old.story mid world.story names prefix_is name_is small (lists t) (finds t) (removes t);
    moments = keeps_secured state.stem (string_bytes state.current) state.complete state.size old.story mid world.story (finds t) (secures t) (keeps t);
    since = λ settled. let safe = (secures t state.stem old.story.now (finds t).bytes state.complete ((finds t).safe settled)).1 in record {
      name = string_bytes state.current;
      lies = lies_now t;
      safe = safe;
      kept = λ image may. safe_kept state.stem (string_bytes state.current) old.story.now (finds t).bytes state.complete world.story.now safe image may;
    };
  }

  pub opens : (number : ℕ) (stem : Name) → state.number ≡ number → state.stem ≡ stem → Opens old number stem (seen world state)
  opens number stem same named = record { piece = same; named = named; ready = no_fault; promised = all; folder = stays; told = resumes }

  pub is_lane : length state.stem + 22 ≤ string_capacity state.current → length state.stem + 22 ≤ string_capacity state.next → (IsTrue old.tells → IsLaneFolder state.stem old) → IsLane world state
  is_lane room next_room folder = record {
    holds = record {
      room = room;
      next_room = next_room;
      folder = λ t. folder_after state.stem old world stays (folder (stays.tells t));
      promised = omega (arith, all);
      small = small;
      whole = λ h. all;
    };
    ready = λ h. record { name = is_current; stands = stands };
    near = λ h. omega (arith, all);
  }
    where
      stands : IsTrue world.tells → option_map (λ (file : File). length (content file)) (world.story.now.live (current_name (seen world state))) ≡ Some state.size
      stands t =
          ap (λ (n : Name). option_map (λ (file : File). length (content file)) (world.story.now.live n)) (sym is_current)
          ∙ ap (option_map (λ (file : File). length (content file))) (lies_now t).stands
          ∙ ap (λ (b : Bytes). Some (length b)) (lies_now t).reads_as ∙ ap (λ (n : ℕ). Some n) (finds t).count

-- what a call that asks for names keeps
pub stays_asked : {T proper : Type 0} {old new : World} {result : Result T FolderFault} → Asks proper old new result → Same old new → Stays old new
stays_asked is same = record { tells = is.tells; still_tells = is.still_tells; steady = is.steady; faults = is.faults; refusals = omega (arith, is.refusals); part = same.part; out = same.out }

pub opens_asked : (old mid : World) (number : ℕ) (stem : Name) (lane : Seen) → Stays old mid → (IsTrue mid.tells → mid.story ≡ old.story) → Opens mid number stem lane → Opens old number stem lane
opens_asked old mid number stem lane stays same is = record {
  piece = is.piece;
  named = is.named;
  ready = is.ready;
  promised = is.promised;
  folder = stays_both stays is.folder;
  told = λ t. subst (λ (s : Story). Resumes s lane) (same (is.folder.tells t)) (is.told t);
}

-- No lane was opened: before anything was done, as the folder was asked for its names, or later.
pub none_opened : (stem : Name) (world : World) → NotOpened stem world world NoMemory
none_opened stem world = record { folder = stays_none world; others = λ t name not. refl; cause = inl refl; moments = λ t. keeps_begun stem world.story }

pub names_refused : (stem : Name) (old new : World) {T : Type 0} (fault : FolderFault) (result : Result T FolderFault) → result ≡ Err fault → Asks ⊤ old new result → Same old new → NotOpened stem old new (store_fault Names fault)
names_refused stem old new {T} fault result is asks same = record { folder = stays_asked asks same; others = λ t. others_same stem old new (same.story t); cause = by fault is; moments = λ t. keeps_same stem old.story new.story (same.story t) }
  where
    by : (f : FolderFault) → result ≡ Err f → (store_fault Names f ≡ NoMemory) ⊎ IsRefusal old new (store_fault Names f)
    by OutOfMemory e = inl refl
    by Failed e = let failed = subst (λ (r : Result T FolderFault). IsErrOf r Failed) (sym e) refl in
        inr (record {
          rose = record { before = old; after = new; earlier = stays_none old; fails = record { rose = asks.failed failed; told = λ t. inl (same.story t) }; later = stays_none new };
          steady = λ steady tells. absurd (asks.never steady tt failed);
        })

pub later_refused : (stem at : Name) (old mid new : World) (fault : StoreFault) → at ≡ stem → Stays old mid → (IsTrue mid.tells → mid.story ≡ old.story) → Stays mid new → IsRefusal mid new fault → (IsTrue new.tells → KeepsPromise at mid.story new.story)
    → (IsTrue new.tells → SameOthers at mid new) → NotOpened stem old new fault
later_refused stem at old mid new fault at_is first same second refused keeps others = record {
  folder = stays_both first second;
  others = λ t name not. others t name (λ is. not (subst (λ (n : Name). IsNameOf n name) at_is is)) ∙ ap (λ (s : Story). s.now.live name) (same (second.tells t));
  cause = inr (refusal_later first refused);
  moments = λ t. subst (λ (s : Story). KeepsPromise stem s new.story) (same (second.tells t)) (subst (λ (n : Name). KeepsPromise n mid.story new.story) at_is (keeps t));
}

-- The removal of a piece's other names leaves the names that are not the piece's.
pub others_removed : (stem prefix current : Name) (old mid new : World) → prefix ≡ promise_prefix stem → SameOthers stem old mid → KeepsOthers prefix current mid.story.now new.story.now → SameOthers stem old new
others_removed stem prefix current old mid new prefix_is before removed name not =
    removed name (λ other. not (inr (record { digits = other.digits; number = other.number; is = other.is ∙ ap (λ (p : Name). p ++ other.digits) prefix_is }))) ∙ before name not
