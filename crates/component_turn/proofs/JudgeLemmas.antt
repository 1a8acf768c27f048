-- What the judgement of a component's pieces says of each of them.
use Rattle.std.proofs.Common.{◌≡◌, ◌⊎◌, inl, inr, ⊎_elim, ℕ, zero, suc, ◌+◌, ◌<◌, Bool, true, false, List, [], ◌∷◌, ◌++◌, length, refl, sym, ◌∙◌, ap, arith}
use Rattle.std.proofs.lemmas.Option.{slice_get_within, same_Some, none-some}
use Rattle.std.specs.List.{slice_get}
use Rattle.std.specs.Option.{option_or}
use Rattle.std.specs.Prelude.{Option, Some, None, IsTrue, Result, Ok, Err, ◌||◌}
use Rattle.text_base.specs.declared.faults.FolderCall.{FolderCall}
use Rattle.folder_base.specs.declared.store_fault.StoreFault.{StoreFault}
use Rattle.folder_base.specs.declared.store_fault.StoreFault.TheVariants as store
use Rattle.http_reply.specs.declared.piece_fault.PieceFault.{PieceFault}
use Rattle.http_reply.specs.declared.piece_fault.PieceFault.TheVariants.{Folder, OutOfMemory}
use Rattle.frag_crew.specs.Crew.{AreBegunBelow}
use Rattle.piece_turn.specs.Turn.{is_done, has_failed}
use Rattle.piece_turn.specs.declared.piece_end.PieceEnd.{PieceEnd}
use Rattle.piece_turn.specs.declared.piece_end.PieceEnd.TheVariants.{Done, Failed, NotBegun}
use Rattle.component_turn.specs.declared.component_end.ComponentEnd.{ComponentEnd}
use Rattle.component_turn.specs.declared.component_end.ComponentEnd.TheVariants.{Whole, Failed as FailedAt}
use Rattle.component_turn.specs.Judge.{call_in, call_of, first_call, lacks_memory, some_lacks, first_failed, decided, judged}

-- an answer that is an end, and one that is a fault
abbrev pub ended : ComponentEnd → Result ComponentEnd StoreFault
ended end = Ok end

abbrev pub faulted : StoreFault → Result ComponentEnd StoreFault
faulted fault = Err fault

pub same_end : {a b : ComponentEnd} → ended a ≡ ended b → a ≡ b
same_end e = cc

pub same_fault : {a b : StoreFault} → faulted a ≡ faulted b → a ≡ b
same_fault e = cc

-- None of the pieces failed where the first that failed is none.
none_failed : (k : ℕ) (ends : List PieceEnd) → first_failed k ends ≡ Whole → (i : ℕ) (end : PieceEnd) → slice_get ends i ≡ Some end → has_failed end ≡ false
none_failed k [] whole i end at = absurd (none-some end at)
none_failed k (Failed tries cause ∷ ends) whole i end at = absurd (let e : FailedAt k tries cause ≡ Whole = whole in cc)
none_failed k (Done tries ∷ ends) whole zero end at = ap has_failed (sym (same_Some (Done tries) end at))
none_failed k (Done tries ∷ ends) whole (suc i) end at = none_failed (k + 1) ends whole i end at
none_failed k (NotBegun ∷ ends) whole zero end at = ap has_failed (sym (same_Some NotBegun end at))
none_failed k (NotBegun ∷ ends) whole (suc i) end at = none_failed (k + 1) ends whole i end at

-- An end is given only where no piece failed by the folder or for want of memory: it is the first that failed.
pub decided_end : (call : Option FolderCall) (lacks : Bool) (first end : ComponentEnd) → decided call lacks first ≡ Ok end → (call ≡ None) × ((lacks ≡ false) × (first ≡ end))
decided_end (Some call) lacks first end is = absurd (let e : Err (store.Folder call) ≡ Ok end = is in cc)
decided_end None true first end is = absurd (let e : Err store.OutOfMemory ≡ Ok end = is in cc)
decided_end None false first end is = (refl, (refl, same_end is))

-- So none failed in a component that is whole.
pub whole_none_failed : (ends : List PieceEnd) → judged ends ≡ Ok Whole → (i : ℕ) (end : PieceEnd) → slice_get ends i ≡ Some end → has_failed end ≡ false
whole_none_failed ends is = none_failed 0 ends (decided_end (first_call ends) (some_lacks ends) (first_failed 0 ends) Whole is).1.1

-- The call that decides is that of a piece which failed for it.
pub call_there : (ends : List PieceEnd) (call : FolderCall) → first_call ends ≡ Some call → (k : ℕ) × (n : ℕ) × (slice_get ends k ≡ Some (Failed n (Folder call)))
call_there [] call is = absurd (let e : None ≡ Some call = is in cc)
call_there (end ∷ ends) call is = by (λ there. call_there ends call there) end refl
  where
    later : (first_call ends ≡ Some call → (k : ℕ) × (n : ℕ) × (slice_get ends k ≡ Some (Failed n (Folder call)))) → call_of end ≡ None → (k : ℕ) × (n : ℕ) × (slice_get (end ∷ ends) k ≡ Some (Failed n (Folder call)))
    later below none = let rest = below (sym (ap (λ (o : Option FolderCall). option_or o (first_call ends)) none) ∙ is) in (suc rest.0, rest.1, rest.2)

    of_cause : (first_call ends ≡ Some call → (k : ℕ) × (n : ℕ) × (slice_get ends k ≡ Some (Failed n (Folder call)))) → (n : ℕ) (cause : PieceFault) → end ≡ Failed n cause → (o : Option FolderCall) → call_in cause ≡ o → (k : ℕ) × (n : ℕ) × (slice_get (end ∷ ends) k ≡ Some (Failed n (Folder call)))
    of_cause below n cause end_is None none = later below (ap call_of end_is ∙ none)
    of_cause below n (Folder other) end_is (Some found) some =
        (zero, n, ap (λ (e : PieceEnd). Some e) (end_is ∙ ap (λ (c : FolderCall). Failed n (Folder c)) (same_Some other call (sym (ap (λ (e : PieceEnd). option_or (call_of e) (first_call ends)) end_is) ∙ is))))
    of_cause below n cause end_is (Some found) some = absurd (let e : None ≡ Some found = some in cc)

    by : (first_call ends ≡ Some call → (k : ℕ) × (n : ℕ) × (slice_get ends k ≡ Some (Failed n (Folder call)))) → (e : PieceEnd) → end ≡ e → (k : ℕ) × (n : ℕ) × (slice_get (end ∷ ends) k ≡ Some (Failed n (Folder call)))
    by below (Done tries) end_is = later below (ap call_of end_is)
    by below NotBegun end_is = later below (ap call_of end_is)
    by below (Failed n cause) end_is = of_cause below n cause end_is (call_in cause) refl

-- A fault is the call of a piece that failed for it, or want of memory.
pub fault_there : (ends : List PieceEnd) (fault : StoreFault) → judged ends ≡ Err fault
    → (fault ≡ store.OutOfMemory) ⊎ ((call : FolderCall) × (fault ≡ store.Folder call) × (k : ℕ) × (n : ℕ) × (slice_get ends k ≡ Some (Failed n (Folder call))))
fault_there ends fault is = by (first_call ends) refl (some_lacks ends) refl
  where
    by : (o : Option FolderCall) → first_call ends ≡ o → (lacks : Bool) → some_lacks ends ≡ lacks
        → (fault ≡ store.OutOfMemory) ⊎ ((call : FolderCall) × (fault ≡ store.Folder call) × (k : ℕ) × (n : ℕ) × (slice_get ends k ≡ Some (Failed n (Folder call))))
    by (Some call) there lacks memory =
        let at = call_there ends call there in
        inr (call, same_fault (sym is ∙ ap (λ (o : Option FolderCall). decided o (some_lacks ends) (first_failed 0 ends)) there), at.0, at.1, at.2)
    by None there true memory = inl (same_fault (sym is ∙ (λ i. decided (there i) (memory i) (first_failed 0 ends))))
    by None there false memory = absurd (let e : Err fault ≡ Ok (first_failed 0 ends) = sym is ∙ (λ i. decided (there i) (memory i) (first_failed 0 ends)) in cc)

-- ---- over steady folders and dialers: each piece is done, or memory was refused
abbrev IsCalm : PieceEnd → Type 0
IsCalm end = IsTrue (is_done end) ⊎ (end ≡ Failed 1 OutOfMemory)

calm_call : (end : PieceEnd) → IsCalm end → call_of end ≡ None
calm_call (Done tries) calm = refl
calm_call NotBegun calm = refl
calm_call (Failed n cause) (inl done) = absurd (let e : false ≡ true = done in cc)
calm_call (Failed n cause) (inr is) = ap call_of is

calm_calls : (ends : List PieceEnd) → ((k : ℕ) (end : PieceEnd) → slice_get ends k ≡ Some end → IsCalm end) → first_call ends ≡ None
calm_calls [] each = refl
calm_calls (end ∷ ends) each = (λ i. option_or (calm_call end (each zero end refl) i) (first_call ends)) ∙ calm_calls ends (λ k e at. each (suc k) e at)

calm_first : (k : ℕ) (ends : List PieceEnd) → ((i : ℕ) (end : PieceEnd) → slice_get ends i ≡ Some end → IsCalm end) → some_lacks ends ≡ false → first_failed k ends ≡ Whole
calm_first k [] each none = refl
calm_first k (Done tries ∷ ends) each none = calm_first (k + 1) ends (λ i end at. each (suc i) end at) none
calm_first k (NotBegun ∷ ends) each none = calm_first (k + 1) ends (λ i end at. each (suc i) end at) none
calm_first k (Failed n cause ∷ ends) each none = absurd (⊎_elim
    (λ done. let e : false ≡ true = done in cc)
    (λ is. let e : true ≡ false = sym (ap (λ (e : PieceEnd). lacks_memory e || some_lacks ends) is) ∙ none in cc)
    (each zero (Failed n cause) refl))

-- Then the component is whole, or memory was refused.
pub calm_judged : (ends : List PieceEnd) → ((k : ℕ) (end : PieceEnd) → slice_get ends k ≡ Some end → IsCalm end) → (judged ends ≡ Ok Whole) ⊎ (judged ends ≡ Err store.OutOfMemory)
calm_judged ends each = by (some_lacks ends) refl
  where
    by : (lacks : Bool) → some_lacks ends ≡ lacks → (judged ends ≡ Ok Whole) ⊎ (judged ends ≡ Err store.OutOfMemory)
    by true is = inr (λ i. decided (calm_calls ends each i) (is i) (first_failed 0 ends))
    by false is = inl (λ i. decided (calm_calls ends each i) (is i) (calm_first 0 ends each is i))

-- Where some piece failed by none but memory, that is said.
failed_calm : (end : PieceEnd) → IsCalm end → IsTrue (has_failed end) → lacks_memory end ≡ true
failed_calm (Done tries) calm failed = absurd (let e : false ≡ true = failed in cc)
failed_calm NotBegun calm failed = absurd (let e : false ≡ true = failed in cc)
failed_calm (Failed n cause) (inl done) failed = absurd (let e : false ≡ true = done in cc)
failed_calm (Failed n cause) (inr is) failed = ap lacks_memory is

lacks_there : (ends : List PieceEnd) (k : ℕ) (end : PieceEnd) → slice_get ends k ≡ Some end → lacks_memory end ≡ true → some_lacks ends ≡ true
lacks_there [] k end at lacks = absurd (none-some end at)
lacks_there (e ∷ ends) zero end at lacks = ap (λ (b : Bool). b || some_lacks ends) (ap lacks_memory (same_Some e end at) ∙ lacks)
lacks_there (e ∷ ends) (suc k) end at lacks = ap (λ (b : Bool). lacks_memory e || b) (lacks_there ends k end at lacks) ∙ or_true (lacks_memory e)
  where
    or_true : (a : Bool) → (a || true) ≡ true
    or_true true = refl
    or_true false = refl

-- So it is where some were not begun.
pub calm_ends : (count : ℕ) (ends : List PieceEnd) → AreBegunBelow count ends → ((k : ℕ) (end : PieceEnd) → k < count → slice_get ends k ≡ Some end → IsCalm end) → first_call ends ≡ None
    → (judged ends ≡ Ok Whole) ⊎ (judged ends ≡ Err store.OutOfMemory)
calm_ends count ends begun each none = ⊎_elim
    (λ all. calm_judged ends (λ k end at. each k end (omega (arith, all, slice_get_within ends k end at)) at))
    (λ some.
    let lacks = lacks_there ends some.0 some.1 some.3 (failed_calm some.1 (each some.0 some.1 some.2 some.3) some.4) in
    inr (λ i. decided (none i) (lacks i) (first_failed 0 ends)))
    begun.all

-- ---- the loops
pub call_more : (front : List PieceEnd) (end : PieceEnd) (rest : List PieceEnd) → first_call front ≡ None → first_call (front ++ end ∷ rest) ≡ option_or (call_of end) (first_call rest)
call_more [] end rest none = refl
call_more (e ∷ front) end rest none = by (λ h. call_more front end rest h) (call_of e) refl
  where
    by : (first_call front ≡ None → first_call (front ++ end ∷ rest) ≡ option_or (call_of end) (first_call rest)) → (o : Option FolderCall) → call_of e ≡ o → option_or (call_of e) (first_call (front ++ end ∷ rest)) ≡ option_or (call_of end) (first_call rest)
    by below None is = ap (λ (o : Option FolderCall). option_or o (first_call (front ++ end ∷ rest))) is ∙ below (sym (ap (λ (o : Option FolderCall). option_or o (first_call front)) is) ∙ none)
    by below (Some call) is = absurd (let x : Some call ≡ None = sym (ap (λ (o : Option FolderCall). option_or o (first_call front)) is) ∙ none in cc)

pub failed_more : (k : ℕ) (front : List PieceEnd) (end : PieceEnd) (rest : List PieceEnd) → first_failed k front ≡ Whole → first_failed k (front ++ end ∷ rest) ≡ first_failed (k + length front) (end ∷ rest)
failed_more k [] end rest none = ap (λ (n : ℕ). first_failed n (end ∷ rest)) (omega arith)
failed_more k (Failed n cause ∷ front) end rest none = absurd (let e : FailedAt k n cause ≡ Whole = none in cc)
failed_more k (Done n ∷ front) end rest none = failed_more (k + 1) front end rest none ∙ ap (λ (n : ℕ). first_failed n (end ∷ rest)) (omega arith)
failed_more k (NotBegun ∷ front) end rest none = failed_more (k + 1) front end rest none ∙ ap (λ (n : ℕ). first_failed n (end ∷ rest)) (omega arith)
