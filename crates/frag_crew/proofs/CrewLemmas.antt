-- What follows for lanes and pieces from what a crew claimed.
use Rattle.std.proofs.Common.{◌≡◌, ◌⊎◌, inl, inr, ⊎_elim, ℕ, zero, suc, ◌+◌, ◌<◌, ◌≤◌, Bool, true, false, List, [], ◌∷◌, ◌++◌, map, length, take, drop, refl, sym, ◌∙◌, ap, subst, arith}
use Rattle.std.specs.Prelude.{Option, Some, None, IsTrue, Result, Ok, Err, All, option_map}
use Rattle.std.specs.List.{slice_get}
use Rattle.std.proofs.lemmas.List.{length-map, map-append, length-append, length-drop, take_all, take-append-le}
use mathlib.Core.Option.{some, some-injective, some-ne-none}
use lib.ListN.{get_elem?}
use Rattle.std.proofs.lemmas.List.Elements.{All-nil, All-cons, All-append, All-get_or}
use Rattle.std.proofs.lemmas.Option.{slice_get-map, slice_get_within, get_or_from_slice_get, same_Some, none-some}
use Rattle.std.proofs.lemmas.Bool.{cases_lt}
use Rattle.folder_base.specs.declared.folder.Folder.{Ghosts}
use Rattle.http_reply.specs.declared.piece_fault.PieceFault.{PieceFault}
use Rattle.http_reply.specs.declared.piece_fault.PieceFault.TheVariants.{OutOfMemory}
use Rattle.keep_store.specs.Seen.{lane_seen}
use Rattle.keep_store.specs.declared.lane.Lane.{Lane}
use Rattle.link_http.specs.declared.piece.Piece.{Piece}
use Rattle.link_http.specs.Try.{IsThere}
use Rattle.link_http.specs.Wire.{Wire}
use Rattle.claim_crew.specs.Claimed.{Claimed, OneFailed, AllLastFail, Ran, RanAll, sum_of, sum_below, joined_all}
use Rattle.claim_crew.proofs.Laws.{stands_somewhere}
use Rattle.piece_turn.specs.Lane.{IsAsOpened, IsSamePiece}
use Rattle.piece_turn.specs.Try.{Try, answer}
use Rattle.piece_turn.specs.Turn.{end_of, is_done, has_failed, Ends, TakesTurn}
use Rattle.piece_turn.specs.declared.piece_end.PieceEnd.{PieceEnd}
use Rattle.piece_turn.specs.declared.piece_end.PieceEnd.TheVariants.{Failed}
use Rattle.piece_turn.proofs.LaneLemmas.{same_none}
use Rattle.frag_crew.specs.declared.slot.Slot.{Slot}
use Rattle.frag_crew.specs.Asked.{Asked, numbers_of, Lasts, Works, AllWork, HadTurn}
use Rattle.frag_crew.specs.Slots.{end_before, slot_before, slot_failed, MayFetch, FetchesPiece}
use Rattle.frag_crew.specs.Crew.{AreReady, AreHome, AreDoneWhole, AreLeft, IsInReach, AreBegunBelow, Fetched}
use Rattle.frag_crew.proofs.WorkLemmas.{lasts_none, lasts_both, lasts_turn, works_none, works_both, works_one}

-- what stands in a mapped list is made of what stands in the list
pub unmapped : {A B : Type 0} (f : A → B) (l : List A) (k : ℕ) (y : B) → slice_get (map f l) k ≡ Some y → (x : A) × (slice_get l k ≡ Some x) × (f x ≡ y)
unmapped {A} {B} f l k y at = by (slice_get l k) refl
  where
    by : (o : Option A) → slice_get l k ≡ o → (x : A) × (slice_get l k ≡ Some x) × (f x ≡ y)
    by None is = absurd (let e : None ≡ Some y = sym (slice_get-map f l k ∙ ap (option_map f) is) ∙ at in cc)
    by (Some x) is = (x, is, same_Some (f x) y (sym (slice_get-map f l k ∙ ap (option_map f) is) ∙ at))

mapped : {A B : Type 0} (f : A → B) (l : List A) (k : ℕ) (x : A) → slice_get l k ≡ Some x → slice_get (map f l) k ≡ Some (f x)
mapped f l k x at = slice_get-map f l k ∙ ap (option_map f) at

-- what stands at one place is one thing
same_at : {A : Type 0} (l : List A) (n k : ℕ) (x y : A) → n ≡ k → slice_get l n ≡ Some x → slice_get l k ≡ Some y → x ≡ y
same_at l n k x y is at at' = same_Some x y (sym at ∙ ap (slice_get l) is ∙ at')

-- what holds of all holds of what stands at a place
all_at : {A : Type 0} (P : A → Type 0) (l : List A) (i : ℕ) (x : A) → slice_get l i ≡ Some x → All P l → P x
all_at P l i x at all = subst P (get_or_from_slice_get l i x x at) (All-get_or P l i x (slice_get_within l i x at) all)

-- The first of a list that is written back over another are its own.
pub written_back : {A : Type 0} (w : ℕ) (new old : List A) → w ≤ length new → length new ≤ length old → (n : ℕ) → n ≡ length old → take w (take n (new ++ drop (length new) old)) ≡ take w new
written_back w new old fits within n is =
    ap (take w) (take_all n (new ++ drop (length new) old) (omega (arith, is, within, length-append new (drop (length new) old), length-drop (length new) old)))
    ∙ take-append-le w new (drop (length new) old) fits

-- ---- the numbers of turns

numbered : (l : List Asked) (i k : ℕ) → get_elem? (map (λ (a : Asked). a.number) l) i ≡ some k → (a : Asked) × (slice_get l i ≡ Some a) × (a.number ≡ k)
numbered [] i k at = absurd (some-ne-none k (sym at))
numbered (a ∷ l) zero k at = (a, refl, some-injective a.number k at)
numbered (a ∷ l) (suc i) k at = numbered l i k at

joined_numbers : (asked : List (List Asked)) → joined_all (numbers_of asked) ≡ map (λ (a : Asked). a.number) (joined_all asked)
joined_numbers [] = refl
joined_numbers (turns ∷ asked) =
    ap (λ (l : List ℕ). map (λ (a : Asked). a.number) turns ++ l) (joined_numbers asked) ∙ sym (map-append (λ (a : Asked). a.number) turns (joined_all asked))

-- ---- ends

-- The end of a turn is that of a piece that was begun.
ended : (retries : ℕ) (complete : Bool) (tries : List Try) (end : PieceEnd) → Ends retries complete tries end → IsTrue (is_done end) ⊎ IsTrue (has_failed end)
ended retries true tries end ends = inl (ap is_done ends.1)
ended retries false tries end ends = by (answer ends.last) ends.end_is
  where
    by : (a : Result (Unit {0}) PieceFault) → end ≡ end_of (length ends.earlier + 1) a → IsTrue (is_done end) ⊎ IsTrue (has_failed end)
    by (Ok done) is = inl (ap is_done is)
    by (Err cause) is = inr (ap has_failed is)

-- A piece that was not begun is done exactly where it is complete.
before_done : (complete : Bool) → is_done (end_before complete) ≡ complete
before_done true = refl
before_done false = refl

module _ {F : Type 0} {folder : Ghosts F} where
  abbrev lane_of : Slot F folder → Lane F folder
  lane_of slot = slot.lane

  abbrev pub end_in : Slot F folder → PieceEnd
  end_in slot = slot.end

  -- Lanes that are ready may be fetched.
  pub may_fetch : (pieces : List Piece) (retries : ℕ) (lanes : List (Lane F folder)) → length lanes ≡ length pieces → retries ≤ 1000 → AreReady lanes
      → (k : ℕ) (slot : Slot F folder) → slice_get (map slot_before lanes) k ≡ Some slot → MayFetch pieces retries k slot
  may_fetch pieces retries lanes many few ready k slot at =
      let lane = unmapped slot_before lanes k slot at in
      let lt : k < length lanes = slice_get_within lanes k lane.0 lane.1 in
      (omega (arith, lt, many), few, subst (λ (s : Slot F folder). IsAsOpened (lane_seen s.lane)) lane.2 (ready k lane.0 lane.1).1)

  -- One more lane is ready.
  pub ready_more : (lanes : List (Lane F folder)) (lane : Lane F folder) → AreReady lanes → (lane_seen lane).number ≡ length lanes → IsAsOpened (lane_seen lane) → AreReady (lanes ++ lane ∷ [])
  ready_more lanes lane ready number opened k l at =
      let r = at_last lanes lane 0 (λ j m there. let h = ready j m there in (omega (arith, h.0), h.1)) (omega (arith, number)) opened k l at in
      (omega (arith, r.0), r.1)
    where
      at_last : (ls : List (Lane F folder)) (last : Lane F folder) (from : ℕ) → ((k : ℕ) (l : Lane F folder) → slice_get ls k ≡ Some l → ((lane_seen l).number ≡ from + k) × IsAsOpened (lane_seen l))
          → (lane_seen last).number ≡ from + length ls → IsAsOpened (lane_seen last)
          → (k : ℕ) (l : Lane F folder) → slice_get (ls ++ last ∷ []) k ≡ Some l → ((lane_seen l).number ≡ from + k) × IsAsOpened (lane_seen l)
      at_last [] last from all number opened zero l at =
          subst (λ (x : Lane F folder). ((lane_seen x).number ≡ from + 0) × IsAsOpened (lane_seen x)) (same_Some last l at) (omega (arith, number), opened)
      at_last [] last from all number opened (suc k) l at = absurd (none-some l at)
      at_last (x ∷ ls) last from all number opened zero l at = all 0 l at
      at_last (x ∷ ls) last from all number opened (suc k) l at =
          let rest = at_last ls last (from + 1) (λ j m there. let h = all (suc j) m there in (omega (arith, h.0), h.1)) (omega (arith, number)) opened k l at in
          (omega (arith, rest.0), rest.1)

  module _ {D : Type 0} (wire : D → Wire) (pieces : List Piece) (retries : ℕ) (lanes : List (Lane F folder)) (slots : List (Slot F folder)) (ds es : List D) where
    -- the turn of such a number
    abbrev Had : Asked → Type 0
    Had a = HadTurn wire pieces retries lanes (map lane_of slots) (map end_in slots) ds es a

    -- the slot's turn, as it is told
    abbrev Tells : ℕ → Slot F folder → D → Slot F folder → D → Type 0
    Tells k x h y g = (a : Asked) × (a.number ≡ k) × Had a × Works (a ∷ []) (wire h) (wire g)

    -- ---- each turn, with the worker's dialer before and after the crew

    abbrev RanSo : (ℕ → Slot F folder → D → Slot F folder → D → Type 0) → List ℕ → D → D → Type 0
    RanSo does l d e = Ran does (map slot_before lanes) slots l d e

    lasts_ran : (l : List ℕ) (d e : D) → RanSo (FetchesPiece wire pieces retries) l d e → Lasts (wire d) (wire e)
    lasts_ran [] d e same = subst (λ (x : D). Lasts (wire d) (wire x)) same (lasts_none (wire d))
    lasts_ran (k ∷ ks) d e r = lasts_both (lasts_turn r.5.2) (lasts_ran ks r.2 e r.6)

    module _ (worker : ℕ) (first last : D) (first_at : slice_get ds worker ≡ Some first) (last_at : slice_get es worker ≡ Some last) where
      told_one : (k : ℕ) (x y : Slot F folder) (h g : D) → slice_get (map slot_before lanes) k ≡ Some x → slice_get slots k ≡ Some y → FetchesPiece wire pieces retries k x h y g
          → Lasts (wire first) (wire h) → Lasts (wire g) (wire last) → Tells k x h y g
      told_one k x y h g x_at y_at f until since =
          let lane = unmapped slot_before lanes k x x_at in
          let turn : TakesTurn f.0 retries (lane_seen lane.0) (lane_seen y.lane) y.end (wire h) (wire g)
          = subst (λ (s : Slot F folder). TakesTurn f.0 retries (lane_seen s.lane) (lane_seen y.lane) y.end (wire h) (wire g)) (sym lane.2) f.2 in (
            record { number = k; tries = turn.tries },
            refl,
            record {
              piece = f.0;
              old = lane.0;
              new = y.lane;
              end = y.end;
              piece_at = f.1;
              old_at = lane.1;
              new_at = mapped lane_of slots k y y_at;
              end_at = mapped end_in slots k y y_at;
              worker = worker;
              first = first;
              last = last;
              first_at = first_at;
              last_at = last_at;
              before = wire h;
              after = wire g;
              until = until;
              since = since;
              turn = turn;
              tries_are = refl;
            },
            works_one turn k,
          )

      told_ran : (l : List ℕ) (d e : D) → RanSo (FetchesPiece wire pieces retries) l d e → Lasts (wire first) (wire d) → Lasts (wire e) (wire last) → RanSo Tells l d e
      told_ran [] d e same until since = same
      told_ran (k ∷ ks) d e r until since = (
        r.0,
        r.1,
        r.2,
        r.3,
        r.4,
        told_one k r.0 r.1 d r.2 r.3 r.4 r.5 until (lasts_both (lasts_ran ks r.2 e r.6) since),
        told_ran ks r.2 e r.6 (lasts_both until (lasts_turn r.5.2)) since,
      )

    told_all : (ls : List (List ℕ)) (hs gs : List D)
        → ((i : ℕ) (d e : D) → slice_get hs i ≡ Some d → slice_get gs i ≡ Some e → (w : ℕ) × (slice_get ds w ≡ Some d) × (slice_get es w ≡ Some e))
        → RanAll (FetchesPiece wire pieces retries) (map slot_before lanes) slots ls hs gs → RanAll Tells (map slot_before lanes) slots ls hs gs
    told_all [] [] [] at r = tt
    told_all (l ∷ ls) (d ∷ hs) (e ∷ gs) at r =
        let here = at 0 d e refl refl in
        (told_ran here.0 d e here.1 here.2 l d e r.0 (lasts_none (wire d)) (lasts_none (wire e)), told_all ls hs gs (λ i x y x_at y_at. at (suc i) x y x_at y_at) r.1)
    told_all [] [] (e ∷ gs) at r = absurd r
    told_all [] (d ∷ hs) gs at r = absurd r
    told_all (l ∷ ls) [] gs at r = absurd r
    told_all (l ∷ ls) (d ∷ hs) [] at r = absurd r

    -- ---- the lists of what was asked

    -- these numbers' turns
    abbrev Lists : List ℕ → Wire → Wire → Type 0
    Lists l a b = (turns : List Asked) × (map (λ (a : Asked). a.number) turns ≡ l) × Works turns a b × All Had turns

    listed : (l : List ℕ) (d e : D) → RanSo Tells l d e → Lists l (wire d) (wire e)
    listed [] d e same = ([], refl, subst (λ (x : D). Works [] (wire d) (wire x)) same (works_none (wire d)), All-nil Had)
    listed (k ∷ ks) d e r =
        let told = r.5 in
        let rest = listed ks r.2 e r.6 in (
          told.0 ∷ rest.0,
          ap (λ (n : ℕ). n ∷ map (λ (a : Asked). a.number) rest.0) told.1 ∙ ap (λ (l : List ℕ). k ∷ l) rest.1,
          works_both (told.0 ∷ []) rest.0 (wire d) (wire r.2) (wire e) told.3 rest.2,
          All-cons Had told.0 rest.0 told.2 rest.3,
        )

    -- the same of all workers
    abbrev ListsAll : List (List ℕ) → List D → List D → Type 0
    ListsAll ls hs gs = (asked : List (List Asked)) × (numbers_of asked ≡ ls) × AllWork wire asked hs gs × All Had (joined_all asked)

    listed_all : (ls : List (List ℕ)) (hs gs : List D) → RanAll Tells (map slot_before lanes) slots ls hs gs → ListsAll ls hs gs
    listed_all [] [] [] r = ([], refl, tt, All-nil Had)
    listed_all (l ∷ ls) (d ∷ hs) (e ∷ gs) r =
        let one = listed l d e r.0 in
        let rest = listed_all ls hs gs r.1 in (
          one.0 ∷ rest.0,
          ap (λ (n : List ℕ). n ∷ numbers_of rest.0) one.1 ∙ ap (λ (m : List (List ℕ)). l ∷ m) rest.1,
          (one.2, rest.2),
          All-append Had one.0 (joined_all rest.0) one.3 rest.3,
        )
    listed_all [] [] (e ∷ gs) r = absurd r
    listed_all [] (d ∷ hs) gs r = absurd r
    listed_all (l ∷ ls) [] gs r = absurd r
    listed_all (l ∷ ls) (d ∷ hs) [] r = absurd r

    last_all : (ls : List (List ℕ)) → AllLastFail slot_failed slots ls → AllLastFail has_failed (map end_in slots) ls
    last_all [] h = tt
    last_all (l ∷ ls) h = (
      λ i k end at end_at bad. let slot = unmapped end_in slots k end end_at in h.0 i k slot.0 at slot.1 (ap has_failed slot.2 ∙ bad),
      last_all ls h.1,
    )

    -- ---- a piece in reach

    whole_one : (a : Asked) (h : Had a) → IsInReach wire h.piece h.old ds → IsTrue (is_done h.end) ⊎ (h.end ≡ Failed 1 OutOfMemory)
    whole_one a h reach =
        let near = reach.there h.worker h.first h.first_at in
        let was : IsTrue h.before.tells = h.until.goes_on near.0 in
        let there : IsThere h.before h.piece.url near.1 (lane_seen h.old).promised None near.2 = record {
          steady = h.until.steady near.3.steady;
          serves = h.until.serves near.3.serves;
          leads = near.3.leads;
          there = ap (λ world. world h.piece.url) (h.until.world was) ∙ near.3.there;
          fits = near.3.fits;
          within = near.3.within;
          known_is = near.3.known_is;
        } in
        h.turn.whole (h.turn.dialer.goes_on was) (h.turn.lane.folder.still_tells reach.tells) reach.steady near.1 near.2 there

    module _ (c : Claimed (FetchesPiece wire pieces retries) slot_failed (map slot_before lanes) slots ds es) where
      lists : ListsAll c.logs ds es
      lists = listed_all c.logs ds es (told_all c.logs ds es (λ i d e d_at e_at. (i, d_at, e_at)) c.ran)

      once : (f : ℕ → ℕ) → sum_of f (joined_all (numbers_of lists.0)) ≡ sum_below f c.count
      once f = ap (λ (l : List (List ℕ)). sum_of f (joined_all l)) lists.1 ∙ c.once f

      -- the turn of a piece that was begun
      turn : (k : ℕ) → k < c.count → (i : ℕ) × (a : Asked) × (slice_get (joined_all lists.0) i ≡ Some a) × (a.number ≡ k) × Had a
      turn k lt =
          let stands = stands_somewhere (joined_all (numbers_of lists.0)) c.count k once lt in
          let among = numbered (joined_all lists.0) stands.0 k (subst (λ (l : List ℕ). get_elem? l stands.0 ≡ some k) (joined_numbers lists.0) stands.1) in
          (stands.0, among.0, among.1, among.2, all_at Had (joined_all lists.0) stands.0 among.0 among.1 lists.3)

      left : AreLeft c.count lanes (map lane_of slots) (map end_in slots)
      left k lane le at =
          let slot_at : slice_get slots k ≡ Some (slot_before lane) = c.rest k le ∙ mapped slot_before lanes k lane at in
          (mapped lane_of slots k (slot_before lane) slot_at, mapped end_in slots k (slot_before lane) slot_at)

      begun : AreBegunBelow c.count (map end_in slots)
      begun = record {
        within = omega (arith, c.within.0, c.within.1, length-map slots end_in);
        begun = λ k end lt at.
            let t = turn k lt in
            subst (λ (e : PieceEnd). IsTrue (is_done e) ⊎ IsTrue (has_failed e)) (same_at (map end_in slots) t.1.number k t.4.end end t.3 t.4.end_at at)
            (ended retries (lane_seen t.4.old).complete t.4.turn.tries t.4.end t.4.turn.ends);
        all = ⊎_elim
            (λ whole. inl (omega (arith, whole, c.within.1, length-map slots end_in)))
            (λ (one : OneFailed slot_failed slots c.count). inr (one.0, one.1.end, one.2, mapped end_in slots one.0 one.1 one.3, one.4)) c.all;
      }

      -- a lane that is back at place k, by whether its piece was begun
      home : AreHome lanes (map lane_of slots)
      home k old new old_at new_at = ⊎_elim
          (λ lt.
          let t = turn k lt in
          subst (λ (l : Lane F folder). IsSamePiece (lane_seen old) (lane_seen l)) (same_at (map lane_of slots) t.1.number k t.4.new new t.3 t.4.new_at new_at)
          (subst (λ (l : Lane F folder). IsSamePiece (lane_seen l) (lane_seen t.4.new)) (same_at lanes t.1.number k t.4.old old t.3 t.4.old_at old_at) t.4.turn.lane))
          (λ le. subst (λ (l : Lane F folder). IsSamePiece (lane_seen old) (lane_seen l)) (same_Some old new (sym (left k old le old_at).0 ∙ new_at)) (same_none (lane_seen old)))
          (cases_lt k c.count)

      done : AreDoneWhole (map lane_of slots) (map end_in slots)
      done k lane end lane_at end_at = ⊎_elim
          (λ lt.
          let t = turn k lt in
          ap is_done (sym (same_at (map end_in slots) t.1.number k t.4.end end t.3 t.4.end_at end_at)) ∙ t.4.turn.done
          ∙ ap (λ (l : Lane F folder). (lane_seen l).complete) (same_at (map lane_of slots) t.1.number k t.4.new lane t.3 t.4.new_at lane_at))
          (λ le.
          let slot = unmapped lane_of slots k lane lane_at in
          let old = unmapped slot_before lanes k slot.0 (sym (c.rest k le) ∙ slot.1) in
          let back = left k old.0 le old.1 in
          ap is_done (same_Some end (end_before (lane_seen old.0).complete) (sym end_at ∙ back.1)) ∙ before_done (lane_seen old.0).complete
          ∙ ap (λ (l : Lane F folder). (lane_seen l).complete) (same_Some old.0 lane (sym back.0 ∙ lane_at)))
          (cases_lt k c.count)

      whole : (k : ℕ) (piece : Piece) (lane : Lane F folder) (end : PieceEnd) → k < c.count → slice_get pieces k ≡ Some piece → slice_get lanes k ≡ Some lane → slice_get (map end_in slots) k ≡ Some end
          → IsInReach wire piece lane ds → IsTrue (is_done end) ⊎ (end ≡ Failed 1 OutOfMemory)
      whole k piece lane end lt piece_at lane_at end_at reach =
          let t = turn k lt in
          let piece_is : piece ≡ t.4.piece = same_at pieces k t.1.number piece t.4.piece (sym t.3) piece_at t.4.piece_at in
          let lane_is : lane ≡ t.4.old = same_at lanes k t.1.number lane t.4.old (sym t.3) lane_at t.4.old_at in
          subst (λ (e : PieceEnd). IsTrue (is_done e) ⊎ (e ≡ Failed 1 OutOfMemory)) (same_at (map end_in slots) t.1.number k t.4.end end t.3 t.4.end_at end_at)
          (whole_one t.1 t.4 (subst (λ (l : Lane F folder). IsInReach wire t.4.piece l ds) lane_is (subst (λ (p : Piece). IsInReach wire p lane ds) piece_is reach)))

      -- All that is said of a crew.
      pub fetched : Fetched wire pieces retries lanes (map lane_of slots) (map end_in slots) ds es
      fetched = record {
        count = c.count;
        many = (length-map slots lane_of ∙ c.within.1 ∙ length-map lanes slot_before, length-map slots end_in ∙ c.within.1 ∙ length-map lanes slot_before);
        begun = begun;
        left = left;
        home = home;
        done = done;
        asked = lists.0;
        once = once;
        last = subst (AllLastFail has_failed (map end_in slots)) (sym lists.1) (last_all c.logs c.last);
        works = lists.2;
        turns = lists.3;
        turn = turn;
        whole = whole;
      }

  -- The same of lists that are these, of the first of all dialers.
  pub fetched_by : {D : Type 0} (wire : D → Wire) (ps pieces : List Piece) (retries : ℕ) (lanes : List (Lane F folder)) (xs slots : List (Slot F folder)) (back : List (Lane F folder)) (ends : List PieceEnd)
      (workers : ℕ) (before ds after es : List D) → ps ≡ pieces → before ≡ ds → take workers es ≡ take workers after
      → xs ≡ map slot_before lanes → back ≡ map lane_of slots → ends ≡ map end_in slots
      → Claimed (FetchesPiece wire ps retries) slot_failed xs slots (take workers before) (take workers after) → Fetched wire pieces retries lanes back ends (take workers ds) (take workers es)
  fetched_by {D} wire ps pieces retries lanes xs slots back ends workers before ds after es pieces_are ds_are es_are filled lanes_are ends_are c =
      let of_lanes = subst (λ (l : List (Slot F folder)). Claimed (FetchesPiece wire ps retries) slot_failed l slots (take workers before) (take workers after)) filled c in
      let of_pieces = subst (λ (l : List Piece). Claimed (FetchesPiece wire l retries) slot_failed (map slot_before lanes) slots (take workers before) (take workers after)) pieces_are of_lanes in
      let of_dialers = subst (λ (l : List D). Claimed (FetchesPiece wire pieces retries) slot_failed (map slot_before lanes) slots (take workers l) (take workers after)) ds_are of_pieces in
      subst (λ (l : List D). Fetched wire pieces retries lanes back ends (take workers ds) l) (sym es_are)
      (subst (λ (l : List (Lane F folder)). Fetched wire pieces retries lanes l ends (take workers ds) (take workers after)) (sym lanes_are)
      (subst (λ (l : List PieceEnd). Fetched wire pieces retries lanes (map lane_of slots) l (take workers ds) (take workers after)) (sym ends_are)
      (fetched wire pieces retries lanes slots (take workers ds) (take workers after) of_dialers)))

  -- Taken apart again, filled slots give their lanes.
  pub lanes_back : (lanes : List (Lane F folder)) → map lane_of (map slot_before lanes) ≡ lanes
  lanes_back [] = refl
  lanes_back (lane ∷ lanes) = ap (λ (l : List (Lane F folder)). lane ∷ l) (lanes_back lanes)
