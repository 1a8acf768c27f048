-- What a crew did to its lanes, told of the parts that they were opened over.
use Rattle.std.proofs.Common.{◌≡◌, ◌⊎◌, inl, ⊎_elim, ℕ, zero, suc, ◌+◌, ◌<◌, ◌≤◌, Bool, true, false, List, [], ◌∷◌, ◌++◌, map, length, refl, sym, ◌∙◌, ap, subst, arith}
use Rattle.std.proofs.lemmas.Bool.{cases_lt}
use Rattle.std.proofs.lemmas.List.{length-map}
use Rattle.std.proofs.lemmas.List.Elements.{All-nil, All-cons, All-head, All-tail, All-get_or}
use Rattle.std.proofs.lemmas.Option.{slice_get-map, slice_get_within, get_or_from_slice_get, same_Some, none-some}
use Rattle.std.specs.List.{slice_get}
use Rattle.std.specs.Prelude.{Option, Some, IsTrue, IsSome, All, Ok, option_map}
use Rattle.text_base.specs.Causes.{Rose}
use Rattle.folder_base.specs.Disk.{Name, Bytes}
use Rattle.folder_base.specs.Story.{World}
use Rattle.folder_base.specs.declared.folder.Folder.{Ghosts}
use Rattle.http_reply.specs.declared.piece_fault.PieceFault.TheVariants.{CutShort, OutOfMemory, Folder as ByFolder}
use Rattle.keep_store.specs.Lane.{Seen, Has}
use Rattle.keep_store.specs.Opens.{Opens}
use Rattle.keep_store.proofs.Counted.{disk_promises}
use Rattle.keep_store.specs.Seen.{lane_seen}
use Rattle.keep_store.specs.declared.lane.Lane.{Lane}
use Rattle.link_http.specs.Request.{address}
use Rattle.link_http.specs.Try.{OfAddress}
use Rattle.link_http.specs.Wire.{Wire}
use Rattle.link_http.specs.declared.piece.Piece.{Piece}
use Rattle.claim_crew.specs.Claimed.{joined_all}
use Rattle.piece_turn.specs.Ends.{HasCause}
use Rattle.piece_turn.proofs.EndLemmas.{has_cause}
use Rattle.piece_turn.specs.Lane.{StaysSound}
use Rattle.piece_turn.specs.Try.{Try, AreTruthful}
use Rattle.piece_turn.specs.Turn.{Ends, StartFrom, BeginsAt, EachBehind, Tell, is_done}
use Rattle.piece_turn.specs.declared.piece_end.PieceEnd.{PieceEnd}
use Rattle.piece_turn.specs.declared.piece_end.PieceEnd.TheVariants.{Failed}
use Rattle.frag_crew.specs.Asked.{Asked, HadTurn}
use Rattle.frag_crew.specs.Crew.{AreReady, Fetched}
use Rattle.frag_crew.specs.Slots.{end_before}
use Rattle.frag_crew.proofs.CrewLemmas.{unmapped}
use Rattle.plan_record.specs.declared.line.Line.{Line}
use Rattle.component_store.specs.Component.{Web, Piece as WebPiece, known, pieces_from}
use Rattle.component_turn.specs.declared.component_end.ComponentEnd.TheVariants.{Whole}
use Rattle.component_turn.specs.Plan.{lines_of, line_of, stems_from}
use Rattle.component_turn.specs.Judge.{judged}
use Rattle.component_turn.proofs.JudgeLemmas.{whole_none_failed}
use Rattle.component_turn.proofs.StemLemmas.{planned_stems}
use Rattle.component_turn.specs.Crew.{FoundIn, PromisedIn, TellsIn, AllSteady, AreCounted, Fetches}
use Rattle.component_turn.specs.Lanes.{AllTried, AllRetained, IsFound, PromisesLeast}
use Rattle.component_turn.specs.Pieces.{AllTell, AreTold, PieceTurned, AskedAll, AreDoneInReach}
use Rattle.component_turn.proofs.LaneLemmas.{IsBack, idle_back, idle_sound, opened_found, back_stands}
use Rattle.component_turn.proofs.TriedLemmas.{AllBack, opened_at, crew_came, crew_retained}

-- two lists of one length, related place by place
pub all_back : {R : Seen → Seen → Type 0} (olds news : List Seen) → length news ≡ length olds
    → ((k : ℕ) (old new : Seen) → slice_get olds k ≡ Some old → slice_get news k ≡ Some new → R old new) → AllBack R olds news
all_back [] [] many each = tt
all_back [] (n ∷ news) many each = absurd (omega (arith, many))
all_back (o ∷ olds) [] many each = absurd (omega (arith, many))
all_back (o ∷ olds) (n ∷ news) many each = (each zero o n refl refl, all_back olds news (omega (arith, many)) (λ k old new at there. each (suc k) old new at there))

-- what stands at one place of a list is one
pub one_at : {A : Type 0} (l : List A) (k j : ℕ) (x y : A) → k ≡ j → slice_get l k ≡ Some x → slice_get l j ≡ Some y → x ≡ y
one_at l k j x y same at there = same_Some x y (sym at ∙ ap (slice_get l) same ∙ there)

-- what holds of all holds of what stands at a place
pub all_at : {A : Type 0} (P : A → Type 0) (l : List A) (i : ℕ) (x : A) → slice_get l i ≡ Some x → All P l → P x
all_at P l i x at all = subst P (get_or_from_slice_get l i x x at) (All-get_or P l i x (slice_get_within l i x at) all)

-- what stands at a place below a list's length
pub there : {A : Type 0} (l : List A) (k : ℕ) → k < length l → (x : A) × (slice_get l k ≡ Some x)
there [] k lt = absurd (omega (arith, lt))
there (x ∷ l) zero lt = (x, refl)
there (x ∷ l) (suc k) lt = there l k (omega (arith, lt))

-- the line of a planned piece
planned_line : (web : Web) (component : Name) (from : ℕ) (lines : List Line) (k : ℕ) (piece : WebPiece) → slice_get (pieces_from web component from lines) k ≡ Some piece
    → (line : Line) × (slice_get lines k ≡ Some line) × (piece.all ≡ known web line)
planned_line web component from [] k piece at = absurd (none-some piece at)
planned_line web component from (line ∷ lines) zero piece at = (line, refl, ap (λ (p : WebPiece). p.all) (sym (same_Some _ piece at)))
planned_line web component from (line ∷ lines) (suc k) piece at = planned_line web component (from + 1) lines k piece at

module _ {F D : Type 0} {folder : Ghosts F} (wire : D → Wire) (pieces : List Piece) (retries : ℕ) (lanes back : List (Lane F folder)) (ends : List PieceEnd) (ds es : List D)
    (fetched : Fetched wire pieces retries lanes back ends ds es) (ready : AreReady lanes) where
  abbrev Had : Asked → Type 0
  Had a = HadTurn wire pieces retries lanes back ends ds es a

  -- ---- each lane is back
  lane_back : (k : ℕ) (old new : Lane F folder) → slice_get lanes k ≡ Some old → slice_get back k ≡ Some new → IsBack (lane_seen old) (lane_seen new)
  lane_back k old new at there = ⊎_elim
      (λ lt.
      let t = fetched.turn k lt in
      subst (λ (l : Lane F folder). IsBack (lane_seen l) (lane_seen new)) (one_at lanes t.1.number k t.4.old old t.3 t.4.old_at at)
      (subst (λ (l : Lane F folder). IsBack (lane_seen t.4.old) (lane_seen l)) (one_at back t.1.number k t.4.new new t.3 t.4.new_at there)
      (record { same = t.4.turn.lane; keeps = t.4.turn.keeps })))
      (λ le. subst (λ (l : Lane F folder). IsBack (lane_seen old) (lane_seen l)) (same_Some old new (sym (fetched.left k old le at).0 ∙ there)) (idle_back (lane_seen old) (ready k old at).1))
      (cases_lt k fetched.count)

  -- ---- of truthful replies each is sound: its turn is among those that were told
  lane_sound : (web : Web) → AllTell wire es → AreTold web (lines_of pieces) (joined_all fetched.asked) → (k : ℕ) (line : Line) (old new : Lane F folder) → slice_get (lines_of pieces) k ≡ Some line
      → slice_get lanes k ≡ Some old → slice_get back k ≡ Some new → IsTrue (lane_seen new).world.tells → StaysSound (known web line) (lane_seen old) (lane_seen new)
  lane_sound web tell told k line old new line_at at there t = ⊎_elim
      (λ lt.
      let turn = fetched.turn k lt in
      let h = turn.4 in
      let replies = asked_told web (joined_all fetched.asked) told turn.0 turn.1 turn.2 line (ap (slice_get (lines_of pieces)) turn.3 ∙ line_at) in
      subst (λ (l : Lane F folder). StaysSound (known web line) (lane_seen l) (lane_seen new)) (one_at lanes turn.1.number k h.old old turn.3 h.old_at at)
      (subst (λ (l : Lane F folder). StaysSound (known web line) (lane_seen h.old) (lane_seen l)) (one_at back turn.1.number k h.new new turn.3 h.new_at there)
      (h.turn.sound (h.since.tells (tell h.worker h.last h.last_at))
      (subst (λ (l : Lane F folder). IsTrue (lane_seen l).world.tells) (sym (one_at back turn.1.number k h.new new turn.3 h.new_at there)) t)
      (known web line) (subst (AreTruthful (known web line)) (sym h.tries_are) replies))))
      (λ le. subst (λ (l : Lane F folder). StaysSound (known web line) (lane_seen old) (lane_seen l)) (same_Some old new (sym (fetched.left k old le at).0 ∙ there)) (idle_sound (known web line) (lane_seen old)))
      (cases_lt k fetched.count)
    where
      asked_told : (web : Web) (turns : List Asked) → AreTold web (lines_of pieces) turns → (i : ℕ) (a : Asked) → slice_get turns i ≡ Some a → (line : Line) → slice_get (lines_of pieces) a.number ≡ Some line → AreTruthful (known web line) a.tries
      asked_told web turns told i a at = all_at (λ (a : Asked). (line : Line) → slice_get (lines_of pieces) a.number ≡ Some line → AreTruthful (known web line) a.tries) turns i a at told

  -- ---- the turns, told of the parts
  module _ (stems : List Name) (olds : List World) (tried : AllTried 0 stems olds (map (lane_seen {folder = folder}) lanes) []) where
    abbrev pub news : List World
    news = map (λ lane. lane.world) (map (lane_seen {folder = folder}) back)

    abbrev seen : Lane F folder → Seen
    seen = lane_seen {folder = folder}

    -- what stands at a number that the list has
    lane_there : (k : ℕ) → k < length lanes → (lane : Lane F folder) × (slice_get lanes k ≡ Some lane)
    lane_there k lt = there lanes k lt

    end_there : (k : ℕ) → k < length ends → (end : PieceEnd) × (slice_get ends k ≡ Some end)
    end_there k lt = there ends k lt

    -- the part of a lane's number
    part : (k : ℕ) (lane : Lane F folder) → slice_get lanes k ≡ Some lane → (stem : Name) × (old : World) × (slice_get stems k ≡ Some stem) × (slice_get olds k ≡ Some old) × Opens old (0 + k) stem (seen lane)
    part k lane at = opened_at 0 stems olds (map seen lanes) tried k (seen lane) (slice_get-map seen lanes k ∙ ap (option_map seen) at)

    -- the world of a lane that is back
    back_world : (k : ℕ) (lane : Lane F folder) → slice_get back k ≡ Some lane → slice_get news k ≡ Some (seen lane).world
    back_world k lane at = slice_get-map (λ (l : Seen). l.world) (map seen back) k ∙ ap (option_map (λ (l : Seen). l.world)) (slice_get-map seen back k ∙ ap (option_map seen) at)

    -- How a lane found its piece.
    found : (k : ℕ) (lane : Lane F folder) → slice_get lanes k ≡ Some lane → FoundIn stems olds k (seen lane).complete (seen lane).promised
    found k lane at stem old stem_at old_at t =
        let o = part k lane at in
        let same_stem : o.0 ≡ stem = same_Some o.0 stem (sym o.2 ∙ stem_at) in
        let same_old : o.1 ≡ old = same_Some o.1 old (sym o.3 ∙ old_at) in
        subst (λ (s : Name). IsFound s old.story.now (seen lane).complete (seen lane).promised) same_stem
        (subst (λ (w : World). IsFound o.0 w.story.now (seen lane).complete (seen lane).promised) same_old
        (opened_found o.4 (o.4.folder.still_tells (subst (λ (w : World). IsTrue w.tells) (sym same_old) t))))

    module _ (a : Asked) (h : Had a) where
      here : (stem : Name) × (old : World) × (slice_get stems a.number ≡ Some stem) × (slice_get olds a.number ≡ Some old) × Opens old (0 + a.number) stem (seen h.old)
      here = part a.number h.old h.old_at

      -- what the lane had as it was opened, where its folder tells now
      had : IsTrue (seen h.new).world.tells → (bytes : Bytes) × Has (seen h.old) bytes
      had t = let told = here.4.told (h.turn.lane.folder.tells t) in (told.bytes, told.has)

      behind : IsTrue h.after.tells → TellsIn news a.number → EachBehind h.turn.tries
      behind t telling =
          let u : IsTrue (seen h.new).world.tells = subst (λ (w : World). IsTrue w.tells) (same_Some telling.0 (seen h.new).world (sym telling.1 ∙ back_world a.number h.new h.new_at)) telling.2 in
          h.turn.behind t u (had u).0 (had u).1

      cut : IsTrue h.after.tells → (n got : ℕ) (told : Option ℕ) → h.end ≡ Failed n (CutShort got told) → PromisedIn stems news a.number got
      cut t n got told is stem world stem_at world_at telling =
          let same : (seen h.new).world ≡ world = same_Some (seen h.new).world world (sym (back_world a.number h.new h.new_at) ∙ world_at) in
          let u : IsTrue (seen h.new).world.tells = subst (λ (w : World). IsTrue w.tells) (sym same) telling in
          let more = (h.turn.keeps u).has (had u).0 (had u).1 in
          let stem_is : (seen h.new).stem ≡ stem = h.turn.lane.stem ∙ here.4.named ∙ same_Some here.0 stem (sym here.2 ∙ stem_at) in
          subst (λ (s : Name). PromisesLeast s world.story.now got) stem_is
          (subst (λ (w : World). PromisesLeast (seen h.new).stem w.story.now got) same
          (λ bytes promise. omega (arith, h.turn.cut t u (had u).0 (had u).1 n got told is, disk_promises (seen h.new) ((had u).0 ++ more.0) more.1 bytes promise)))

      pub turned : PieceTurned wire (FoundIn stems olds) (PromisedIn stems news) (TellsIn news) pieces retries ends ds es a
      turned = record {
        piece = h.piece;
        end = h.end;
        piece_at = h.piece_at;
        end_at = h.end_at;
        complete = (seen h.old).complete;
        promised = (seen h.old).promised;
        found = found a.number h.old h.old_at;
        ends_by = subst (λ (l : List Try). Ends retries (seen h.old).complete l h.end) h.tries_are h.turn.ends;
        first = subst (λ (l : List Try). BeginsAt (seen h.old).promised l) h.tries_are h.turn.first;
        starts = subst (λ (l : List Try). StartFrom (seen h.old).promised l) h.tries_are h.turn.starts;
        address_is = subst (λ (l : List Try). All (λ (t : Try). OfAddress (address h.piece.url) t.gave) l) h.tries_are h.turn.address_is;
        worker = h.worker;
        from = h.first;
        to = h.last;
        from_at = h.first_at;
        to_at = h.last_at;
        before = h.before;
        after = h.after;
        until = h.until;
        since = h.since;
        tell = λ t. subst (λ (l : List Try). Tell h.piece l h.before h.after) h.tries_are (h.turn.tell t);
        behind = λ t telling. subst (λ (l : List Try). EachBehind l) h.tries_are (behind t telling);
        cause = λ n cause is. subst (λ (l : List Try). HasCause h.piece retries l n cause h.before h.after) h.tries_are
            (has_cause h.piece retries (seen h.old) (seen h.new) h.end h.before h.after h.turn n cause is);
        cut = cut;
      }

    all_turned : (turns : List Asked) → All Had turns → All (PieceTurned wire (FoundIn stems olds) (PromisedIn stems news) (TellsIn news) pieces retries ends ds es) turns
    all_turned [] had = All-nil (PieceTurned wire (FoundIn stems olds) (PromisedIn stems news) (TellsIn news) pieces retries ends ds es)
    all_turned (a ∷ turns) had = All-cons (PieceTurned wire (FoundIn stems olds) (PromisedIn stems news) (TellsIn news) pieces retries ends ds es) a turns
        (turned a (All-head Had a turns had)) (all_turned turns (All-tail Had a turns had))

    pub asked_all : AskedAll wire (FoundIn stems olds) (PromisedIn stems news) (TellsIn news) pieces retries ends ds es
    asked_all = record {
      count = fetched.count;
      begun = fetched.begun;
      asked = fetched.asked;
      once = fetched.once;
      last = fetched.last;
      works = fetched.works;
      turns = all_turned (joined_all fetched.asked) fetched.turns;
      turn = λ k lt. let t = fetched.turn k lt in (t.0, t.1, t.2, t.3, turned t.1 t.4);
    }

    -- ---- a piece that was begun and in reach
    in_reach : AllSteady olds → AreDoneInReach wire (FoundIn stems olds) (PromisedIn stems news) (TellsIn news) pieces retries ends ds es fetched.count
    in_reach steady k piece end lt piece_at end_at reached = by (seen h.old).complete refl
      where
        t : (i : ℕ) × (a : Asked) × (slice_get (joined_all fetched.asked) i ≡ Some a) × (a.number ≡ k) × Had a
        t = fetched.turn k lt

        h : Had t.1
        h = t.4

        lane_at : slice_get lanes k ≡ Some h.old
        lane_at = ap (slice_get lanes) (sym t.3) ∙ h.old_at

        end_is : h.end ≡ end
        end_is = one_at ends t.1.number k h.end end t.3 h.end_at end_at

        by : (c : Bool) → (seen h.old).complete ≡ c → IsTrue (is_done end) ⊎ (end ≡ Failed 1 OutOfMemory)
        by true is = inl (ap is_done (sym end_is ∙ (subst (λ (b : Bool). Ends retries b h.turn.tries h.end) is h.turn.ends).1))
        by false is =
            let o = part k h.old lane_at in
            let calm = steady k o.1 o.3 in
            fetched.whole k piece h.old end lt piece_at lane_at end_at (record {
              steady = o.4.folder.steady calm.0;
              tells = o.4.folder.still_tells calm.1;
              there = reached (seen h.old).promised (subst (λ (b : Bool). FoundIn stems olds k b (seen h.old).promised) is (found k h.old lane_at));
            })

    -- ---- a piece that failed by its folder
    counted : AreCounted ends olds news
    counted k n call old new end_at old_at new_at = ⊎_elim
        (λ lt.
        let t = fetched.turn k lt in
        let h = t.4 in
        let o = part k h.old (ap (slice_get lanes) (sym t.3) ∙ h.old_at) in
        let failed : h.end ≡ Failed n (ByFolder call) = one_at ends t.1.number k h.end (Failed n (ByFolder call)) t.3 h.end_at end_at in
        let refusal = h.turn.refused n call failed in
        let world_is : (seen h.new).world ≡ new = same_Some (seen h.new).world new (sym (back_world t.1.number h.new h.new_at) ∙ ap (slice_get news) t.3 ∙ new_at) in
        let old_is : o.1 ≡ old = same_Some o.1 old (sym o.3 ∙ old_at) in (
          subst (λ (w : World). Rose w.faults new.faults) old_is (subst (λ (w : World). Rose o.1.faults w.faults) world_is
              (omega (arith, o.4.folder.faults, refusal.rose.earlier.faults, refusal.rose.fails.rose, refusal.rose.later.faults))),
          λ steady tells. let e = refusal.steady (o.4.folder.steady (subst (λ (w : World). IsTrue w.steady) (sym old_is) steady)) (o.4.folder.still_tells (subst (λ (w : World). IsTrue w.tells) (sym old_is) tells)) in cc,
        ))
        (λ le. absurd (none_failed k refl le))
        (cases_lt k fetched.count)
      where
        not_failed : (c : Bool) → end_before c ≡ Failed n (ByFolder call) → ⊥
        not_failed true is = cc
        not_failed false is = cc

        -- A piece that was not begun is complete, or was not begun.
        none_failed : (j : ℕ) → j ≡ k → fetched.count ≤ j → ⊥
        none_failed j same le =
            let lane = lane_there k (omega (arith, fetched.many.1, slice_get_within ends k (Failed n (ByFolder call)) end_at)) in
            not_failed (seen lane.0).complete (same_Some (end_before (seen lane.0).complete) (Failed n (ByFolder call)) (sym (fetched.left k lane.0 (omega (arith, same, le)) lane.1).1 ∙ end_at))

    -- ---- all pieces are done where none failed
    stand : judged ends ≡ Ok Whole → (k : ℕ) (stem : Name) (new : World) → slice_get stems k ≡ Some stem → slice_get news k ≡ Some new → IsTrue new.tells → IsSome (new.story.now.live stem)
    stand whole k stem new stem_at new_at t =
        let there = unmapped (λ (l : Seen). l.world) (map seen back) k new new_at in
        let lane = unmapped seen back k there.0 there.1 in
        let within : k < length lanes = omega (arith, fetched.many.0, slice_get_within back k lane.0 lane.1) in
        let old = lane_there k within in
        let end = end_there k (omega (arith, fetched.many.1, within)) in
        let o = part k old.0 old.1 in
        let is_back = lane_back k old.0 lane.0 old.1 lane.1 in
        let world_is : (seen lane.0).world ≡ new = ap (λ (l : Seen). l.world) lane.2 ∙ there.2 in
        let complete : (seen lane.0).complete ≡ true = sym (fetched.done k lane.0 end.0 lane.1 end.1) ∙ all_done k end.0 end.1 in
        subst (λ (w : World). IsSome (w.story.now.live stem)) world_is
        (subst (λ (s : Name). IsSome ((seen lane.0).world.story.now.live s)) (same_Some o.0 stem (sym o.2 ∙ stem_at))
        (back_stands o.4 is_back (subst (λ (w : World). IsTrue w.tells) (sym world_is) t) complete))
      where
        all_done : (k : ℕ) (end : PieceEnd) → slice_get ends k ≡ Some end → IsTrue (is_done end)
        all_done k end at = ⊎_elim
            (λ count. ⊎_elim (λ done. done) (λ failed. absurd (let x : false ≡ true = sym (whole_none_failed ends whole k end at) ∙ failed in cc))
            (fetched.begun.begun k end (omega (arith, count, slice_get_within ends k end at)) at))
            (λ some. absurd (let x : false ≡ true = sym (whole_none_failed ends whole some.0 some.1 some.3) ∙ some.4 in cc))
            fetched.begun.all

    -- ---- the parts promise no less
    backs : AllBack IsBack (map seen lanes) (map seen back)
    backs = all_back (map seen lanes) (map seen back) (length-map back seen ∙ fetched.many.0 ∙ sym (length-map lanes seen)) (λ k old new at there.
        let a = unmapped seen lanes k old at in
        let b = unmapped seen back k new there in
        subst (λ (s : Seen). IsBack s new) a.2 (subst (λ (s : Seen). IsBack (seen a.0) s) b.2 (lane_back k a.0 b.0 a.1 b.1)))

    pub retained : AllRetained stems olds news
    retained = crew_retained 0 stems olds (map seen lanes) (map seen back) tried backs

    -- ---- all that is told of the parts
    pub fetches : length pieces ≡ length lanes → length stems ≡ length lanes → Fetches wire stems pieces retries olds news ends ds es
    unfolding asked_all
    fetches many same = record {
      many = omega (arith, fetched.many.1, many);
      turns = asked_all;
      came = λ web component is tell told. crew_came 0 (pieces_from web component 0 (lines_of pieces)) olds (map seen lanes) (map seen back)
          (subst (λ (l : List Name). AllTried 0 l olds (map seen lanes) [])
          (is ∙ ap (stems_from component 0) (sym (length-map pieces line_of)) ∙ sym (planned_stems web component 0 (lines_of pieces))) tried)
          backs (λ k piece lane new piece_at lane_at new_at t. sound_at web component tell told k piece lane new piece_at lane_at new_at t);
      stand = stand;
      counted = counted;
      calm = in_reach;
    }
      where
        sound_at : (web : Web) (component : Name) → AllTell wire es → AreTold web (lines_of pieces) (joined_all fetched.asked) → (k : ℕ) (piece : WebPiece) (lane new : Seen) → slice_get (pieces_from web component 0 (lines_of pieces)) k ≡ Some piece
            → slice_get (map seen lanes) k ≡ Some lane → slice_get (map seen back) k ≡ Some new → IsTrue new.world.tells → StaysSound piece.all lane new
        sound_at web component tell told k piece lane new piece_at lane_at new_at t =
            let line = planned_line web component 0 (lines_of pieces) k piece piece_at in
            let a = unmapped seen lanes k lane lane_at in
            let b = unmapped seen back k new new_at in
            subst (λ (o : Option Bytes). StaysSound o lane new) (sym line.2)
            (subst (λ (s : Seen). StaysSound (known web line.0) s new) a.2
            (subst (λ (s : Seen). StaysSound (known web line.0) (seen a.0) s) b.2
            (lane_sound web tell told k line.0 a.0 b.0 line.1 a.1 b.1 (subst (λ (s : Seen). IsTrue s.world.tells) (sym b.2) t))))
