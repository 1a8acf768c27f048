-- What tools in memory leave of a folder, and how their script is read.
use Rattle.std.proofs.Common.{◌≡◌, ◌⊎◌, inl, inr, ⊎_elim, ℕ, zero, suc, ◌+◌, ◌<◌, Bool, true, false, ◌||◌, not, IsTrue, List, [], ◌∷◌, ◌++◌, length, take, map, get_or, refl, sym, ◌∙◌, ap, subst}
use Rattle.std.specs.Prelude.{Option, Some, None, is_none, IsSome, Vec, Result, Ok, Err, option_map, unwrap_or, bytes_eq}
use Rattle.std.specs.List.{list_any}
use Rattle.std.specs.declared.alloc.Global.{Global}
use Rattle.std.proofs.lemmas.List.{take_more, map-append}
use Rattle.text_base.specs.declared.faults.FolderCall.{FolderCall}
use Rattle.text_base.specs.declared.faults.FolderFault.{FolderFault}
use Rattle.text_base.specs.declared.faults.FolderFault.TheVariants.{Failed, OutOfMemory}
use Rattle.folder_base.specs.Disk.{Name, Bytes, Disk, content, created}
use Rattle.folder_base.specs.Story.{World, Story, Does}
use Rattle.folder_base.specs.declared.store_fault.StoreFault.TheVariants.{Folder, OutOfMemory as StoreMemory}
use Rattle.folder_base.proofs.Images.{put_here}
use Rattle.folder_base.proofs.Moments.{outcome}
use Rattle.keep_store.specs.Lane.{IsRefusal}
use Rattle.keep_store.specs.Opening.{Looked}
use Rattle.keep_store.specs.Publish.{Stays}
use Rattle.keep_store.specs.Safe.{reads}
use Rattle.keep_store.specs.TookLaws.{stays_both}
use Rattle.folder_steps.specs.Make.{HasNew, Grows}
use Rattle.folder_steps.proofs.NewFileLemmas.{after_create, is_made, grown_loose, grows_beside, new_beside}
use Rattle.tool_chain.specs.Jobs.{Job, CanRun}
use Rattle.tool_chain.specs.Memory.{bytes_of, failed, EndsBy, HasEnded, answer_of, Answers, fails_start, is_bad, planned, turn_at}
use Rattle.tool_chain.specs.Runs.{IsRead, AreRead, Spares, HidesNone}
use Rattle.tool_chain.proofs.StepLemmas.{never}
use Rattle.tool_chain.specs.declared.act.ChildEnd.{ChildEnd}
use Rattle.tool_chain.specs.declared.child.Inputs.{Inputs}
use Rattle.tool_chain.specs.declared.turn.ToolTurn.{ToolTurn}
use Rattle.tool_chain.specs.declared.turn.ToolTurn.TheVariants.{Good, Status, NoOutput, StartFails}

-- one call that only asks after another
pub looked_both : {first second third : World} → Looked first second → Looked second third → Looked first third
looked_both a b = record { stays = stays_both a.stays b.stays; same = λ t. b.same t ∙ a.same (b.stays.tells t) }

read_more : (names : List Name) (disk : Disk) (all : List (Option Bytes)) (name : Name) (bytes : Option Bytes) → AreRead names disk all → IsRead disk name bytes
    → AreRead (names ++ name ∷ []) disk (all ++ bytes ∷ [])
read_more [] disk [] name bytes h one = (one, tt)
read_more [] disk (b ∷ all) name bytes h one = absurd h
read_more (n ∷ names) disk [] name bytes h one = absurd h
read_more (n ∷ names) disk (b ∷ all) name bytes h one = (h.0, read_more names disk all name bytes h.1 one)

-- One input more was looked for.
module _ (names : List Name) (at : ℕ) (name : Name) (below : at < length names) (is : name ≡ get_or names at name) (old new : List (Option (Vec ℕ Global))) (kept : Option (Vec ℕ Global)) (pushed : new ≡ old ++ kept ∷ []) (disk : Disk) where
  taken : take (at + 1) names ≡ take at names ++ name ∷ []
  taken = take_more names at name below ∙ ap (λ (n : Name). take at names ++ n ∷ []) (sym is)

  mapped : map bytes_of new ≡ map bytes_of old ++ bytes_of kept ∷ []
  mapped = ap (map bytes_of) pushed ∙ map-append bytes_of old (kept ∷ [])

  pub told_more : AreRead (take at names) disk (map bytes_of old) → IsRead disk name (bytes_of kept) → AreRead (take (at + 1) names) disk (map bytes_of new)
  told_more h one =
      subst (λ (all : List (Option Bytes)). AreRead (take (at + 1) names) disk all) (sym mapped)
      (subst (λ (ns : List Name). AreRead ns disk (map bytes_of old ++ bytes_of kept ∷ [])) (sym taken) (read_more (take at names) disk (map bytes_of old) name (bytes_of kept) h one))

  pub exact_more : map bytes_of old ≡ map (reads disk) (take at names) → bytes_of kept ≡ reads disk name → map bytes_of new ≡ map (reads disk) (take (at + 1) names)
  exact_more h one = mapped ∙ (λ i. h i ++ one i ∷ []) ∙ sym (map-append (reads disk) (take at names) (name ∷ [])) ∙ ap (map (reads disk)) (sym taken)

-- A file was made.
pub spares_created : {old new : World} {proper : Type 0} (name : Name) (result : Result (Unit {0}) FolderFault) → Stays old new → (IsTrue new.tells → Does proper (created name) old.story new.story result) → Spares (bytes_eq name) old new
spares_created {old} {new} name result stays does = record {
  stays = stays;
  others = λ t n apart. ⊎_elim (λ same. ap (λ (s : Story). s.now.live n) same) (λ done. new_beside name n [] old.story.now new.story.now apart (is_made name done.1)) (outcome result (does t));
  moments = λ t. after_create name result (does t);
}

-- The file that was made grew.
pub spares_grown : {old mid new : World} (name : Name) (more : Bytes) → Spares (bytes_eq name) old mid → Stays mid new → (IsTrue mid.tells → HasNew name [] old.story.now mid.story.now) → (IsTrue new.tells → Grows name more mid.story new.story) → Spares (bytes_eq name) old new
spares_grown {old} name more first stays made grown = record {
  stays = stays_both first.stays stays;
  others = λ t n apart. grows_beside name n more apart (grown t) ∙ first.others (stays.tells t) n apart;
  moments = λ t. grown_loose name more (grown t) old.story [] (made (stays.tells t)) (first.moments (stays.tells t));
}

-- What a new file reads as.
pub new_reads : (name : Name) (bytes : Bytes) (start disk : Disk) → HasNew name bytes start disk → reads disk name ≡ Some bytes
new_reads name bytes start disk new =
    ap (λ (d : Disk). reads d name) new.filled_is ∙ ap (option_map content) (put_here start.live name (Some new.file)) ∙ ap (λ (b : Bytes). Some b) new.content_is

-- No steady folder that tells has a fault.
pub no_steady_fault : {old new : World} {call : FolderCall} → (Folder call ≡ StoreMemory) ⊎ IsRefusal old new (Folder call) → IsTrue old.steady → IsTrue old.tells → ⊥
no_steady_fault (inl none) s t = cc
no_steady_fault {old} {new} {call} (inr is) s t = let none : Folder call ≡ StoreMemory = is.steady s t in cc

-- A child one of whose calls failed does not end with status 0,
failed_not_zero : (turn : ToolTurn) → Some 0 ≡ failed turn → ⊥
failed_not_zero Good e = cc
failed_not_zero (Status code) e = cc
failed_not_zero NoOutput e = cc
failed_not_zero StartFails e = cc

-- and starts where it is to.
failed_starts : (turn : ToolTurn) → is_none (failed turn) ≡ fails_start turn
failed_starts Good = refl
failed_starts (Status code) = refl
failed_starts NoOutput = refl
failed_starts StartFails = refl

module _ {turn : ToolTurn} {job : Job} {inputs : Inputs} {old new : World} {end : ChildEnd} (ended : (end.status ≡ failed turn) ⊎ HasEnded turn job inputs old new end) where
  -- After status 0, or where the folder is steady, a child went through its job.
  pub has_ended : {steady : Type 0} → (steady → HasEnded turn job inputs old new end) → (end.status ≡ Some 0) ⊎ steady → HasEnded turn job inputs old new end
  has_ended by_steady (inl good) = ⊎_elim (λ e. absurd (failed_not_zero turn (sym good ∙ e))) (λ h. h) ended
  has_ended by_steady (inr steady) = by_steady steady

  pub ended_starts : is_none end.status ≡ fails_start turn
  ended_starts = ⊎_elim (λ e. ap (λ (o : Option ℕ). is_none o) e ∙ failed_starts turn) (λ h. h.starts) ended

  -- No call failed, or it ends as one does of whose calls one failed.
  pub ended_failed : (first : World) → (inputs.are_read ≡ true → old.faults ≡ first.faults) → (new.faults ≡ first.faults) ⊎ (end.status ≡ failed turn)
  ended_failed first read = ⊎_elim (λ e. inr e) (λ h. inl (h.calm ∙ read h.are_read)) ended

-- What the answer of a run hides: none of its calls that failed,
pub hides_status : (old new : World) (turn : ToolTurn) (status : Option ℕ) (n : ℕ) → status ≡ Some n → (new.faults ≡ old.faults) ⊎ (status ≡ failed turn) → HidesNone old new (Ok n)
hides_status old new turn status n is (inl calm) why = calm
hides_status old new turn status n is (inr e) (inl good) = absurd (failed_not_zero turn (ap (λ (r : Result ℕ FolderFault). value r) (sym good) ∙ sym is ∙ e))
  where
    value : Result ℕ FolderFault → Option ℕ
    value (Ok m) = Some m
    value (Err f) = None
hides_status old new turn status n is (inr e) (inr none) = absurd (cc)

-- the answer that tells a status
abbrev answer : ℕ → Result ℕ FolderFault
answer n = Ok n

-- for which it ends with status 1.
pub failed_one : {calm : Type 0} (turn : ToolTurn) (status : Option ℕ) (n : ℕ) → status ≡ Some n → fails_start turn ≡ false → calm ⊎ (status ≡ failed turn) → calm ⊎ (answer n ≡ answer 1)
failed_one turn status n is starts (inl calm) = inl calm
failed_one turn status n is starts (inr e) = inr (ap (λ (o : Option ℕ). answer (unwrap_or o 1)) (sym is ∙ e) ∙ by turn starts)
  where
    by : (t : ToolTurn) → fails_start t ≡ false → answer (unwrap_or (failed t) 1) ≡ answer 1
    by Good e = refl
    by (Status code) e = refl
    by NoOutput e = refl
    by StartFails e = refl

-- and of a start that failed there is nothing to hide.
pub hides_failed : (old new : World) → HidesNone old new (Err Failed)
hides_failed old new (inl e) = absurd (cc)
hides_failed old new (inr e) = absurd (cc)

-- What a call answers by its turn: the status of a child that started,
module _ {old new : World} (turn : ToolTurn) (job : Job) (disk : Disk) (status : Option ℕ) (start : is_none status ≡ fails_start turn) (ends : IsTrue old.steady → IsTrue old.tells → CanRun job old.story.now → EndsBy turn job disk status) where
  pub answers_status : (n : ℕ) → status ≡ Some n → (new.faults ≡ old.faults) ⊎ (status ≡ failed turn) → Answers turn job old new (Ok n)
  answers_status n is calm = record {
    fails = λ yes. absurd (never (sym yes ∙ sym start ∙ ap (λ (o : Option ℕ). is_none o) is));
    starts = λ no e. cc;
    failed_is = λ no. failed_one turn status n is no calm;
    ends = λ s t can. inl (ap answer_of (sym is ∙ (ends s t can).as_planned));
  }

  -- that it did not start,
  pub answers_none : status ≡ None → Answers turn job old new (Err Failed)
  answers_none none = record {
    fails = λ yes. inl refl;
    starts = λ no e. never (sym (ap (λ (o : Option ℕ). is_none o) none) ∙ start ∙ no);
    failed_is = λ no. absurd (never (sym (ap (λ (o : Option ℕ). is_none o) none) ∙ start ∙ no));
    ends = λ s t can. inl (ap answer_of (sym none ∙ (ends s t can).as_planned));
  }

-- or want of memory.
pub answers_unfed : {old new : World} (turn : ToolTurn) (job : Job) → new.faults ≡ old.faults → Answers turn job old new (Err OutOfMemory)
answers_unfed turn job calm = record { fails = λ yes. inr refl; starts = λ no e. cc; failed_is = λ no. inl calm; ends = λ s t can. inr refl }

-- A test that neither a good turn nor any turn of the script meets is met by no turn.
turn_free : (test : ToolTurn → Bool) (script : List ToolTurn) (k : ℕ) → test Good ≡ false → list_any test script ≡ false → test (turn_at script k) ≡ false
turn_free test [] k good none = good
turn_free test (turn ∷ script) zero good none = by (test turn) (list_any test script) none
  where
    by : (a b : Bool) → (a || b) ≡ false → a ≡ false
    by true b e = absurd (let bad : true ≡ false = e in cc)
    by false b e = refl
turn_free test (turn ∷ script) (suc k) good none = turn_free test script k good (by (test turn) (list_any test script) none)
  where
    by : (a b : Bool) → (a || b) ≡ false → b ≡ false
    by true b e = absurd (let bad : true ≡ false = e in cc)
    by false b e = e

none_by : (b : Bool) → IsTrue (not b) → b ≡ false
none_by true h = absurd (let bad : false ≡ true = h in cc)
none_by false h = refl

-- Steady tools have no start that fails.
pub never_starts : (script : List ToolTurn) (k : ℕ) (status : Option ℕ) → is_none status ≡ fails_start (turn_at script k) → status ≡ None → IsTrue (not (list_any fails_start script)) → ⊥
never_starts script k status same none steady = never (sym (ap (λ (o : Option ℕ). is_none o) none) ∙ same ∙ turn_free fails_start script k refl (none_by _ steady))

good_by : (turn : ToolTurn) → is_bad turn ≡ false → turn ≡ Good
good_by Good e = refl
good_by (Status code) e = absurd (never e)
good_by NoOutput e = absurd (never e)
good_by StartFails e = absurd (never e)

-- Of tools that work a job that can be done ended with status 0 and left its output.
pub works_good : (script : List ToolTurn) (k : ℕ) (job : Job) (disk : Disk) (status : Option ℕ) → EndsBy (turn_at script k) job disk status → IsTrue (not (list_any is_bad script))
    → (status ≡ Some 0) × ((output : Name) → job.output ≡ Some output → IsSome (disk.live output))
works_good script k job disk status ends works =
    let good = good_by (turn_at script k) (turn_free is_bad script k refl (none_by _ works)) in
    (ends.as_planned ∙ ap planned good, ends.stands good)
