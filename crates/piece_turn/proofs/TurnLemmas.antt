-- A piece's turn, from its tries.
use Rattle.std.proofs.Common.{◌≡◌, ◌≢◌, ◌⊎◌, inl, inr, ⊎_elim, ℕ, ◌+◌, ◌<◌, ◌≤◌, Bool, true, false, List, [], ◌∷◌, ◌++◌, length, refl, sym, ◌∙◌, ap, subst, arith, length-append, append_assoc}
use Rattle.std.specs.Prelude.{Option, Some, None, IsTrue, Result, Ok, Err, OnOk, IfErr, All, MatchBool}
use Rattle.std.proofs.lemmas.List.{append-nil}
use Rattle.std.proofs.lemmas.List.Elements.{All-nil, All-cons, All-head, All-tail, All-append}
use Rattle.text_base.specs.declared.faults.FolderCall.{FolderCall}
use Rattle.folder_base.specs.Disk.{Name, Bytes, Disk}
use Rattle.folder_base.specs.Story.{Through}
use Rattle.folder_base.specs.declared.store_fault.StoreFault.{StoreFault}
use Rattle.folder_base.specs.declared.store_fault.StoreFault.TheVariants as store
use Rattle.folder_base.proofs.Moments.{begun, joined}
use Rattle.http_reply.specs.declared.piece_fault.PieceFault.{PieceFault}
use Rattle.http_reply.specs.declared.piece_fault.PieceFault.TheVariants.{CutShort, Folder, OutOfMemory}
use Rattle.link_http.specs.declared.fetched.Fetched.{Fetched}
use Rattle.link_http.specs.declared.piece.Piece.{Piece}
use Rattle.link_http.specs.Request.{Address, address}
use Rattle.link_http.specs.Taking.{of_store}
use Rattle.link_http.specs.Try.{IsThere, OfAddress}
use Rattle.link_http.specs.Wire.{Wire}
use Rattle.keep_store.specs.Calls.{Checkpoints}
use Rattle.keep_store.specs.Promise.{AreFirst, PieceSound}
use Rattle.keep_store.specs.Safe.{reads}
use Rattle.keep_store.specs.Lane.{Seen, Has, Since, IsRefusal}
use Rattle.piece_turn.specs.declared.piece_end.PieceEnd.TheVariants.{Done, Failed}
use Rattle.piece_turn.specs.Lane.{IsAsOpened, IsSoundLane, NoLess, IsSamePiece, KeepsLane, StaysSound}
use Rattle.piece_turn.specs.Try.{Try, answer, answer_of, calls_for_another, is_retried, unless_folder, is_url_fault, Asks, AreTruthful}
use Rattle.piece_turn.specs.Step.{At, EndsTry, Tried}
use Rattle.piece_turn.specs.Turn.{end_of, is_done, Ends, KnowInTurn, TakesTurn}
use Rattle.piece_turn.proofs.LaneLemmas.{took_sound, took_through, finished_through, has_size, complete_stands, same_none, took_no_less, finished_no_less, since_took}
use Rattle.piece_turn.proofs.ChainLemmas.{AllTried, CallsOn, tried_more, store_ends, Passed, passed_one, passed_all, ended_same, dialer_all, tell_all, addressed, starts_all, first_from, each_behind, same_all, IsTruthfulTry, truth_all}

-- ---- how a try ended

module _ (mid new : Seen) where
  -- for a fault: nothing was done, or what came is promised
  by_fault : {P : Type 0} (kept : Result (Unit {0}) StoreFault) (fault : PieceFault) → EndsTry (Err fault) kept mid new
      → (new ≡ mid → kept ≡ Ok tt → P) → (Checkpoints mid new kept → P) → P
  by_fault {P} kept fault ended nothing checked = by (is_url_fault fault) ended.part
    where
      by : (b : Bool) → MatchBool b ((new ≡ mid) × (kept ≡ Ok tt)) (Checkpoints mid new kept) → P
      by true none = nothing none.0 none.1
      by false check = checked check

  still_part : (kept : Result (Unit {0}) StoreFault) (fault : PieceFault) → EndsTry (Err fault) kept mid new → mid.complete ≡ false → new.complete ≡ false
  still_part kept fault ended part = by_fault kept fault ended (λ same _. ap (λ (s : Seen). s.complete) same ∙ part) (λ check. check.taken.complete ∙ part)

  -- A piece is done exactly where it is complete.
  ended_done : (n : ℕ) (gave : Result Fetched PieceFault) (kept : Result (Unit {0}) StoreFault) → EndsTry gave kept mid new → mid.complete ≡ false → is_done (end_of n (answer_of gave kept)) ≡ new.complete
  ended_done n (Ok fetched) (Ok done) ended part = sym ended.whole.complete
  ended_done n (Ok fetched) (Err fault) ended part = sym ended.whole.part
  ended_done n (Err cause) (Ok done) ended part = sym (still_part (Ok done) cause ended part)
  ended_done n (Err cause) (Err fault) ended part = sym (still_part (Err fault) cause ended part)

  -- A piece that was completed holds no fault.
  ended_free : (gave : Result Fetched PieceFault) (kept : Result (Unit {0}) StoreFault) → EndsTry gave kept mid new → mid.complete ≡ false → new.complete ≡ true → new.fault ≡ None
  ended_free (Ok fetched) (Ok done) ended part is = ended.whole.free
  ended_free (Ok fetched) (Err fault) ended part is = absurd (let x : true ≡ false = sym is ∙ ended.whole.part in cc)
  ended_free (Err cause) kept ended part is = absurd (let x : true ≡ false = sym is ∙ still_part kept cause ended part in cc)

  ended_has : (gave : Result Fetched PieceFault) (kept : Result (Unit {0}) StoreFault) → EndsTry gave kept mid new → IsTrue new.world.tells → (bytes : Bytes) → Has mid bytes → Has new bytes
  ended_has (Ok fetched) kept ended t bytes has = ended.whole.finished.has t bytes has
  ended_has (Err cause) kept ended t bytes has =
      by_fault kept cause ended (λ same _. subst (λ (s : Seen). Has s bytes) (sym same) has) (λ check. subst (Has new) (append-nil bytes) (check.taken.has t bytes has))

  ended_no_less : (gave : Result Fetched PieceFault) (kept : Result (Unit {0}) StoreFault) → EndsTry gave kept mid new → IsTrue new.world.tells → (entry : Disk) (bytes : Bytes) → Since mid.complete mid entry bytes
      → Through mid.world.story new.world.story (NoLess (reads entry) mid.stem)
  ended_no_less (Ok fetched) kept ended t entry bytes since = finished_no_less ended.whole.finished t entry bytes since
  ended_no_less (Err cause) kept ended t entry bytes since =
      by_fault kept cause ended
      (λ same _. subst (λ (s : Seen). Through mid.world.story s.world.story (NoLess (reads entry) mid.stem)) (sym same) (begun mid.world.story (NoLess (reads entry) mid.stem) (λ image may. (since.kept image may).no_less)))
      (λ check. took_no_less check.taken t entry bytes since)

  ended_sound : {all : Option Bytes} {entry : Disk} (gave : Result Fetched PieceFault) (kept : Result (Unit {0}) StoreFault) → EndsTry gave kept mid new → IsTrue new.world.tells
      → (r : IsSoundLane all entry mid) → OnOk gave (all ≡ Some r.bytes) → Through mid.world.story new.world.story (PieceSound all mid.stem)
  ended_sound (Ok fetched) kept ended t r whole = finished_through ended.whole.finished t r whole
  ended_sound {all} {entry} (Err cause) kept ended t r whole =
      by_fault kept cause ended
      (λ same _. subst (λ (s : Seen). Through mid.world.story s.world.story (PieceSound all mid.stem)) (sym same)
      (begun mid.world.story (PieceSound all mid.stem) (λ image may. (r.since.kept image may).sound all r.first r.whole r.entered)))
      (λ check. took_through check.taken t r (subst (AreFirst all) (sym (append-nil r.bytes)) r.first))

  -- A fault that the lane answered is the one that it holds.
  ended_held : (gave : Result Fetched PieceFault) (kept : Result (Unit {0}) StoreFault) (fault : StoreFault) → EndsTry gave kept mid new → kept ≡ Err fault → new.fault ≡ Some fault
  ended_held (Ok fetched) kept fault ended is = subst (λ (k : Result (Unit {0}) StoreFault). IfErr k (λ fault. new.fault ≡ Some fault)) is ended.whole.held
  ended_held (Err cause) kept fault ended is =
      by_fault kept cause ended (λ _ ok. absurd (let x : ◌≡◌ {A = Result (Unit {0}) StoreFault} (Ok tt) (Err fault) = sym ok ∙ is in cc))
      (λ check. subst (λ (k : Result (Unit {0}) StoreFault). IfErr k (λ fault. new.fault ≡ Some fault)) is check.held)

-- ---- what the end tells

same_cause : (n m : ℕ) (a b : PieceFault) → Failed n a ≡ Failed m b → a ≡ b
same_cause n m a b e = cc

store_not_cut : (fault : StoreFault) (got : ℕ) (told : Option ℕ) → of_store fault ≡ CutShort got told → ⊥
store_not_cut (store.Folder call) got told e = cc
store_not_cut store.OutOfMemory got told e = cc

cause_cut : (fault : PieceFault) (got : ℕ) (told : Option ℕ) → unless_folder fault ≡ CutShort got told → fault ≡ CutShort got told
cause_cut (Folder call) got told e = absurd (cc)
cause_cut fault got told e = e

-- The end names a cut where the reply did, and what came is promised.
cut_gave : (n m got : ℕ) (told : Option ℕ) (gave : Result Fetched PieceFault) (kept : Result (Unit {0}) StoreFault) → end_of n (answer_of gave kept) ≡ Failed m (CutShort got told)
    → (gave ≡ Err (CutShort got told)) × (kept ≡ Ok tt)
cut_gave n m got told (Ok fetched) (Ok done) e = absurd (cc)
cut_gave n m got told (Ok fetched) (Err fault) e = absurd (store_not_cut fault got told (same_cause n m (of_store fault) (CutShort got told) e))
cut_gave n m got told (Err cause) (Err fault) e = absurd (store_not_cut fault got told (same_cause n m (of_store fault) (CutShort got told) e))
cut_gave n m got told (Err cause) (Ok done) e = (ap (λ (f : PieceFault). Err f) (cause_cut cause got told (same_cause n m (unless_folder cause) (CutShort got told) e)), refl)

store_folder : (fault : StoreFault) (call : FolderCall) → of_store fault ≡ Folder call → fault ≡ store.Folder call
store_folder (store.Folder other) call e = let same : other ≡ call = cc in ap (λ (c : FolderCall). store.Folder c) same
store_folder store.OutOfMemory call e = absurd (cc)

never_folder : (fault : PieceFault) (call : FolderCall) → unless_folder fault ≡ Folder call → ⊥
never_folder (Folder other) call e = cc
never_folder fault call e = cc

-- The end names a call of the folder where the lane refused with it.
folder_kept : (n m : ℕ) (call : FolderCall) (gave : Result Fetched PieceFault) (kept : Result (Unit {0}) StoreFault) → end_of n (answer_of gave kept) ≡ Failed m (Folder call) → kept ≡ Err (store.Folder call)
folder_kept n m call gave (Err fault) e = ap (λ (f : StoreFault). Err f) (store_folder fault call (same_cause n m (of_store fault) (Folder call) e))
folder_kept n m call (Ok fetched) (Ok done) e = absurd (cc)
folder_kept n m call (Err cause) (Ok done) e = absurd (never_folder cause call (same_cause n m (unless_folder cause) (Folder call) e))

-- ---- where all is there

memory_or_not : (gave : Result Fetched PieceFault) → (gave ≡ Err OutOfMemory) ⊎ (gave ≢ Err OutOfMemory)
memory_or_not (Err OutOfMemory) = inl refl
memory_or_not (Err fault) = inr (λ e. cc)
memory_or_not (Ok fetched) = inr (λ e. cc)

-- The answer is that all is done, or want of memory.
whole_end : (n : ℕ) (gave : Result Fetched PieceFault) (kept : Result (Unit {0}) StoreFault) → (gave ≡ Err OutOfMemory) ⊎ ((fetched : Fetched) × (gave ≡ Ok fetched))
    → ((fault : StoreFault) → kept ≡ Err fault → fault ≡ store.OutOfMemory) → IsTrue (is_done (end_of n (answer_of gave kept))) ⊎ (end_of n (answer_of gave kept) ≡ Failed n OutOfMemory)
whole_end n gave (Err fault) came memory = inr (ap (λ (f : StoreFault). Failed n (of_store f)) (memory fault refl))
whole_end n gave (Ok done) (inl none) memory = inr (ap (λ (g : Result Fetched PieceFault). end_of n (answer_of g (Ok done))) none)
whole_end n gave (Ok done) (inr some) memory = inl (ap (λ (g : Result Fetched PieceFault). is_done (end_of n (answer_of g (Ok done)))) some.1)

-- So no other try is called for.
whole_last : (gave : Result Fetched PieceFault) (kept : Result (Unit {0}) StoreFault) → (gave ≡ Err OutOfMemory) ⊎ ((fetched : Fetched) × (gave ≡ Ok fetched)) → IsTrue (calls_for_another (answer_of gave kept)) → ⊥
whole_last gave (Err fault) came calls = store_ends fault calls
whole_last gave (Ok done) (inl none) calls = let x : false ≡ true = ap (λ (g : Result Fetched PieceFault). calls_for_another (answer_of g (Ok done))) (sym none) ∙ calls in cc
whole_last gave (Ok done) (inr some) calls = let x : false ≡ true = ap (λ (g : Result Fetched PieceFault). calls_for_another (answer_of g (Ok done))) (sym some.1) ∙ calls in cc

-- What the first try gives where all is there.
whole_gave : {piece : Piece} {t : Try} {old new : At} → Tried piece t old new → IsTrue new.wire.tells → old.lane.fault ≡ None → IsTrue old.lane.world.steady → IsTrue old.lane.world.tells
    → (to : Address) (bytes : List ℕ) → IsThere old.wire piece.url to old.lane.promised old.known bytes → (t.gave ≡ Err OutOfMemory) ⊎ ((fetched : Fetched) × (t.gave ≡ Ok fetched))
whole_gave {piece} {t} {old} {new} tried wt ready steady tells to bytes there =
    ⊎_elim (λ none. inl none)
    (λ enough. inr (
      record { total = length bytes },
      tried.whole wt to bytes
          (subst (λ (k : Option ℕ). IsThere old.wire piece.url to t.from k bytes) (sym tried.known) (subst (λ (n : ℕ). IsThere old.wire piece.url to n old.known bytes) (sym tried.from) there))
          ready steady tells enough,
    ))
    (memory_or_not t.gave)

-- Where the reply was cut short, what came is promised.
cut_checked : (mid new : Seen) (got : ℕ) (told : Option ℕ) (gave : Result Fetched PieceFault) (kept : Result (Unit {0}) StoreFault) → gave ≡ Err (CutShort got told) → kept ≡ Ok tt → EndsTry gave kept mid new → Checkpoints mid new (Ok tt)
cut_checked mid new got told gave kept is ok ended =
    (subst (λ (k : Result (Unit {0}) StoreFault). EndsTry (Err (CutShort got told)) k mid new) ok (subst (λ (g : Result Fetched PieceFault). EndsTry g kept mid new) is ended)).part

-- what holds of each of two lists together holds of each
pub all_parts : {A : Type 0} (P : A → Type 0) (xs ys : List A) → All P (xs ++ ys) → All P xs × All P ys
all_parts P [] ys all = (All-nil P, all)
all_parts P (x ∷ xs) ys all =
    let rest = all_parts P xs ys (All-tail P x (xs ++ ys) all) in
    (All-cons P x xs (All-head P x (xs ++ ys) all) rest.0, rest.1)

-- Where all is there the first try is the last.
whole_of : (piece : Piece) (earlier : List Try) (last : Try) (old mid new : At) → AllTried piece earlier old mid → All CallsOn earlier → Tried piece last mid new → IsAsOpened old.lane
    → (n : ℕ) → n ≡ length earlier + 1 → IsTrue new.wire.tells → IsTrue old.lane.world.tells → IsTrue old.lane.world.steady → ((fault : StoreFault) → last.kept ≡ Err fault → fault ≡ store.OutOfMemory)
    → (to : Address) (bytes : Bytes) → IsThere old.wire piece.url to old.lane.promised old.known bytes → IsTrue (is_done (end_of n (answer last))) ⊎ (end_of n (answer last) ≡ Failed 1 OutOfMemory)
whole_of piece [] last old mid new before calls ends opened n is wt t steady memory to bytes there =
    subst (λ (k : ℕ). IsTrue (is_done (end_of k (answer last))) ⊎ (end_of k (answer last) ≡ Failed 1 OutOfMemory)) (let one : 1 ≡ n = omega (arith, is) in one)
    (whole_end 1 last.gave last.kept (whole_gave (subst (λ (s : At). Tried piece last s new) (sym before) ends) wt opened.ready steady t to bytes there) memory)
whole_of piece (first ∷ earlier) last old mid new before calls ends opened n is wt t steady memory to bytes there =
    absurd (whole_last first.gave first.kept
    (whole_gave before.1 ((dialer_all piece earlier before.0 mid before.2).tells (ends.counts.tells wt)) opened.ready steady t to bytes there) (All-head CallsOn first earlier calls))

-- ---- the turn

-- The tries, with the last of them, make the turn.
module _ (piece : Piece) (earlier : List Try) (last : Try) (old mid new : At) (before : AllTried piece earlier old mid) (calls : All CallsOn earlier) (ends : Tried piece last mid new)
    (opened : IsAsOpened old.lane) (part : old.lane.complete ≡ false) where
  abbrev all_tried : AllTried piece (earlier ++ last ∷ []) old new
  all_tried = tried_more piece earlier last old mid new before ends

  passed : Passed old.lane mid.lane
  passed = passed_all piece earlier old mid before calls opened

  mid_part : mid.lane.complete ≡ false
  mid_part = passed.took.complete ∙ part

  left_part : ends.mid.complete ≡ false
  left_part = ends.took.1.complete ∙ mid_part

  same : IsSamePiece old.lane new.lane
  same = same_all piece (earlier ++ last ∷ []) old new all_tried

  -- The folder told as the last reply had come, and before.
  left_tells : IsTrue new.lane.world.tells → IsTrue ends.mid.world.tells
  left_tells t = (ended_same last.gave last.kept ends.mid new.lane ends.ended).folder.tells t

  mid_tells : IsTrue new.lane.world.tells → IsTrue mid.lane.world.tells
  mid_tells t = ends.took.1.folder.tells (left_tells t)

  last_has : IsTrue new.lane.world.tells → (bytes : Bytes) → Has old.lane bytes → Has new.lane ((bytes ++ passed.bytes) ++ ends.took.0)
  last_has t bytes has = ended_has ends.mid new.lane last.gave last.kept ends.ended t ((bytes ++ passed.bytes) ++ ends.took.0)
      (ends.took.1.has (left_tells t) (bytes ++ passed.bytes) (passed.took.has (mid_tells t) bytes has))

  keeps : IsTrue new.lane.world.tells → KeepsLane old.lane new.lane
  keeps t = record {
    has = λ bytes has. (passed.bytes ++ ends.took.0, subst (Has new.lane) (append_assoc bytes passed.bytes ends.took.0) (last_has t bytes has));
    stands = λ bytes has complete. complete_stands (last_has t bytes has) (ended_free ends.mid new.lane last.gave last.kept ends.ended left_part complete) complete;
    kept = λ entry bytes since.
        let first = since_took passed.took (mid_tells t) entry bytes since in
        let second = since_took ends.took.1 (left_tells t) entry (bytes ++ passed.bytes) first in
        joined (took_no_less passed.took (mid_tells t) entry bytes since)
        (joined (subst (λ (n : Name). Through mid.lane.world.story ends.mid.world.story (NoLess (reads entry) n)) passed.took.stem (took_no_less ends.took.1 (left_tells t) entry (bytes ++ passed.bytes) first))
        (subst (λ (n : Name). Through ends.mid.world.story new.lane.world.story (NoLess (reads entry) n)) (ends.took.1.stem ∙ passed.took.stem)
        (ended_no_less ends.mid new.lane last.gave last.kept ends.ended t entry ((bytes ++ passed.bytes) ++ ends.took.0) second)));
  }

  sound : IsTrue new.wire.tells → IsTrue new.lane.world.tells → (all : Option Bytes) → AreTruthful all (earlier ++ last ∷ []) → StaysSound all old.lane new.lane
  sound wt t all truthful entry r =
      let each = all_parts (IsTruthfulTry all) earlier (last ∷ []) truthful in
      let came = truth_all piece all earlier old mid before calls opened (ends.counts.tells wt) (mid_tells t) each.0 r.bytes r.has r.first in
      let r1 = took_sound came.1 (mid_tells t) r came.2 in
      let gave = ends.truth wt all r1.bytes each.1 (has_size r1.has passed.opened.ready ∙ sym passed.opened.promised ∙ sym ends.from) r1.first in
      let r2 = took_sound gave.took (left_tells t) r1 gave.first in
      joined (took_through came.1 (mid_tells t) r came.2)
      (joined (subst (λ (n : Name). Through mid.lane.world.story ends.mid.world.story (PieceSound all n)) passed.took.stem (took_through gave.took (left_tells t) r1 gave.first))
      (subst (λ (n : Name). Through ends.mid.world.story new.lane.world.story (PieceSound all n)) (ends.took.1.stem ∙ passed.took.stem)
      (ended_sound ends.mid new.lane last.gave last.kept ends.ended t r2 gave.whole)))

  cut : IsTrue new.wire.tells → IsTrue new.lane.world.tells → (had : Bytes) → Has old.lane had → (n m got : ℕ) (told : Option ℕ) → end_of n (answer last) ≡ Failed m (CutShort got told) → new.lane.promised ≡ got
  cut wt t had has n m got told is =
      let why = cut_gave n m got told last.gave last.kept is in
      let gave = ends.cut wt got told why.0 in
      let check = cut_checked ends.mid new.lane got told last.gave last.kept why.0 why.1 ends.ended in
      let one = passed.took.has (mid_tells t) had has in
      let two = check.taken.has t ((had ++ passed.bytes) ++ gave.0) (gave.1.has (left_tells t) (had ++ passed.bytes) one) in
      omega (
        arith,
        check.promised,
        has_size two check.free,
        has_size one passed.opened.ready,
        passed.opened.promised,
        ends.from,
        gave.2,
        length-append ((had ++ passed.bytes) ++ gave.0) [],
        length-append (had ++ passed.bytes) gave.0,
      )

  -- A fault that the lane holds now is a refusal of its folder.
  holding : (fault : StoreFault) → new.lane.fault ≡ Some fault → IsRefusal old.lane.world new.lane.world fault
  holding fault held = ⊎_elim (λ was. absurd (let x : None ≡ Some fault = sym opened.ready ∙ was in cc)) (λ refusal. refusal) (same.cause fault held)

  refused : (n m : ℕ) (call : FolderCall) → end_of n (answer last) ≡ Failed m (Folder call) → IsRefusal old.lane.world new.lane.world (store.Folder call)
  refused n m call is = holding (store.Folder call) (ended_held ends.mid new.lane last.gave last.kept (store.Folder call) ends.ended (folder_kept n m call last.gave last.kept is))

  memory_only : IsTrue new.lane.world.tells → IsTrue old.lane.world.steady → (fault : StoreFault) → last.kept ≡ Err fault → fault ≡ store.OutOfMemory
  memory_only t steady fault is = (holding fault (ended_held ends.mid new.lane last.gave last.kept fault ends.ended is)).steady steady (same.folder.tells t)

  whole : (n : ℕ) → n ≡ length earlier + 1 → IsTrue new.wire.tells → IsTrue new.lane.world.tells → IsTrue old.lane.world.steady → (to : Address) (bytes : Bytes)
      → IsThere old.wire piece.url to old.lane.promised old.known bytes → IsTrue (is_done (end_of n (answer last))) ⊎ (end_of n (answer last) ≡ Failed 1 OutOfMemory)
  whole n is wt t steady to bytes there = whole_of piece earlier last old mid new before calls ends opened n is wt (same.folder.tells t) steady (memory_only t steady) to bytes there

  -- all of it
  pub turn : (retries : ℕ) → old.known ≡ None → length earlier ≤ retries → (CallsOn last → length earlier ≡ retries)
      → TakesTurn piece retries old.lane new.lane (end_of (length earlier + 1) (answer last)) old.wire new.wire
  turn retries none few used = record {
    tries = earlier ++ last ∷ [];
    ends = subst (λ (c : Bool). Ends retries c (earlier ++ last ∷ []) (end_of (length earlier + 1) (answer last))) (sym part)
        (record { earlier = earlier; last = last; tries_are = refl; retried = calls; few = few; end_is = refl; all_used = used });
    done = ended_done ends.mid new.lane (length earlier + 1) last.gave last.kept ends.ended left_part;
    starts = starts_all piece (earlier ++ last ∷ []) old new all_tried;
    first = first_from piece (earlier ++ last ∷ []) old new all_tried;
    address_is = addressed piece (earlier ++ last ∷ []) old new all_tried;
    dialer = dialer_all piece (earlier ++ last ∷ []) old new all_tried;
    tell = λ wt.
        let told = tell_all piece (earlier ++ last ∷ []) old new all_tried wt in
        record {
          world = told.world;
          dials = told.dials;
          talks = told.talks;
          paired = told.paired;
          asked = told.asked;
          knows = subst (λ (k : Option ℕ). KnowInTurn k (earlier ++ last ∷ [])) none told.knows;
        };
    lane = same;
    keeps = keeps;
    sound = sound;
    behind = λ wt t had has. each_behind piece earlier last old mid before calls opened (ends.counts.tells wt) (mid_tells t) had has ends.from;
    cut = λ wt t had has m got told is. cut wt t had has (length earlier + 1) m got told is;
    refused = λ m call is. refused (length earlier + 1) m call is;
    whole = λ wt t steady to bytes there. whole (length earlier + 1) refl wt t steady to bytes
        (subst (λ (k : Option ℕ). IsThere old.wire piece.url to old.lane.promised k bytes) (sym none) there);
  }

-- So the end of the last try is that of the turn.
pub turned : (piece : Piece) (retries n : ℕ) (result : Result (Unit {0}) PieceFault) (earlier : List Try) (last : Try) (old mid new : At)
    → AllTried piece earlier old mid → All CallsOn earlier → Tried piece last mid new → IsAsOpened old.lane → old.lane.complete ≡ false → old.known ≡ None
    → n ≡ length earlier + 1 → result ≡ answer last → n ≤ retries + 1 → (IsTrue (calls_for_another result) → retries < n)
    → TakesTurn piece retries old.lane new.lane (end_of n result) old.wire new.wire
turned piece retries n result earlier last old mid new before calls ends opened part none is came few used =
    subst (λ (k : ℕ). TakesTurn piece retries old.lane new.lane (end_of k result) old.wire new.wire) (sym is)
    (subst (λ (r : Result (Unit {0}) PieceFault). TakesTurn piece retries old.lane new.lane (end_of (length earlier + 1) r) old.wire new.wire) (sym came)
    (turn piece earlier last old mid new before calls ends opened part retries none (omega (arith, is, few))
    (λ on. omega (arith, is, few, used (subst (λ (r : Result (Unit {0}) PieceFault). IsTrue (calls_for_another r)) (sym came) on)))))

-- A try that calls for another leaves the lane for it.
pub goes_on : (piece : Piece) (retries n : ℕ) (cause : PieceFault) (earlier : List Try) (last : Try) (old mid new : At)
    → AllTried piece earlier old mid → All CallsOn earlier → Tried piece last mid new → mid.lane.complete ≡ false
    → n ≡ length earlier → Err cause ≡ answer last → IsTrue (is_retried cause)
    → ((tries : List Try) × (length tries ≡ n + 1) × All CallsOn tries × AllTried piece tries old new) × (new.lane.complete ≡ false) × IsAsOpened new.lane
goes_on piece retries n cause earlier last old mid new before calls ends part is came retried =
    let on : CallsOn last = subst (λ (r : Result (Unit {0}) PieceFault). IsTrue (calls_for_another r)) came retried in
    let passed = passed_one ends on in (
      (
        earlier ++ last ∷ [],
        omega (arith, is, length-append earlier (last ∷ [])),
        All-append CallsOn earlier (last ∷ []) calls (All-cons CallsOn last [] on (All-nil CallsOn)),
        tried_more piece earlier last old mid new before ends,
      ),
      passed.took.complete ∙ part,
      passed.opened,
    )

-- before any try
abbrev at_rest : Seen → Wire → At
at_rest lane wire = record { lane = lane; wire = wire; known = None }

-- A complete lane is done with no try.
pub complete_turn : (piece : Piece) (retries : ℕ) (lane : Seen) (wire : Wire) → IsAsOpened lane → lane.complete ≡ true → TakesTurn piece retries lane lane (Done 0) wire wire
complete_turn piece retries lane wire opened complete = record {
  tries = [];
  ends = subst (λ (c : Bool). Ends retries c [] (Done 0)) (sym complete) (refl, refl);
  done = sym complete;
  starts = tt;
  first = tt;
  address_is = All-nil (λ (t : Try). OfAddress (address piece.url) t.gave);
  dialer = dialer_all piece [] (at_rest lane wire) (at_rest lane wire) refl;
  tell = λ wt. record { world = refl; dials = sym (append-nil wire.dials); talks = sym (append-nil wire.talks); paired = λ h. h; asked = All-nil (Asks piece); knows = tt };
  lane = same_none lane;
  keeps = λ t. record {
    has = λ bytes has. ([], subst (Has lane) (sym (append-nil bytes)) has);
    stands = λ bytes has is. complete_stands has opened.ready is;
    kept = λ entry bytes since. begun lane.world.story (NoLess (reads entry) lane.stem) (λ image may. (since.kept image may).no_less);
  };
  sound = λ wt t all truthful entry r. begun lane.world.story (PieceSound all lane.stem) (λ image may. (r.since.kept image may).sound all r.first r.whole r.entered);
  behind = λ wt t had has. tt;
  cut = λ wt t had has n got told is. absurd (let x : Done 0 ≡ Failed n (CutShort got told) = is in cc);
  refused = λ n call is. absurd (let x : Done 0 ≡ Failed n (Folder call) = is in cc);
  whole = λ wt t steady to bytes there. inl refl;
}
