-- What holds of a component from before `fan` to after `gather`.
use Rattle.std.proofs.Common.{◌≡◌, inl, inr, ⊎_elim, ℕ, zero, suc, ◌+◌, ◌<◌, ◌≤◌, Bool, true, false, not, List, [], ◌∷◌, map, length, refl, sym, ◌∙◌, ap, subst, arith}
use Rattle.std.proofs.lemmas.List.{append-nil}
use Rattle.std.proofs.lemmas.List.Elements.{All-head, All-tail}
use Rattle.std.proofs.lemmas.Option.{same_Some, none-some}
use Rattle.std.specs.List.{slice_get}
use Rattle.std.specs.Option.{option_map_or}
use Rattle.std.specs.Prelude.{Option, Some, None, IsTrue, ⊤, All, Result, option_map, if◌then◌else◌}
use Rattle.text_base.specs.Causes.{Rose}
use Rattle.text_base.specs.declared.faults.FolderFault.{FolderFault}
use Rattle.folder_base.specs.Disk.{Name, Bytes, Disk, Image, May, begins, content, settled}
use Rattle.folder_base.specs.Parts.{is_in_some, inside, AreApart}
use Rattle.folder_base.specs.Story.{World, Part, Through, Asks, Begins, AreBegun, Fans, Gathers, Collects, SomeRose, part_of, handed_part}
use Rattle.folder_base.specs.declared.store_fault.StoreFault.{StoreFault}
use Rattle.folder_base.specs.declared.store_fault.StoreFault.TheVariants as store
use Rattle.folder_base.proofs.Images.{same_name}
use Rattle.folder_base.proofs.Moments.{weaker}
use Rattle.folder_base.proofs.Synced.{part_settled}
use Rattle.folder_base.proofs.Gathered.{EachHas as EachHasByStem, AllKept as AllKeptByStem, crewed as crewed_by_stem}
use Rattle.folder_base.proofs.Crewed.{EachHas, AllKept, IsCrewed, crewed}
use Rattle.folder_steps.specs.Follow.{Always, AsRead, Follows, Beside}
use Rattle.keep_store.specs.Promise.{IfStands, PieceSound}
use Rattle.keep_store.specs.Publish.{Stays, MayRefuse}
use Rattle.keep_store.specs.Lane.{IsRefusal}
use Rattle.keep_store.specs.Safe.{reads}
use Rattle.piece_turn.specs.Lane.{NoLess}
use Rattle.plan_record.specs.Names.{record_of, pieces_of, stem_of}
use Rattle.plan_record.specs.Plan.{plan_text}
use Rattle.plan_record.specs.declared.line.Line.{Line}
use Rattle.plan_record.proofs.PlanLemmas.{plan_is_sole}
use Rattle.component_store.specs.Component.{Web, Piece, all_bytes, pieces_from, EachSound, IsPlan, PlanSound, HasRecord, HasPieces}
use Rattle.component_turn.specs.Plan.{stems_from}
use Rattle.component_turn.specs.Crew.{Endures, MayFail, IsPlanned}
use Rattle.component_turn.specs.Lanes.{AllFolders, AllCame, AllRetained, WasRefused, EachSettled, EachNoLess}
use Rattle.component_turn.proofs.LaneLemmas.{piece_local, promise_there}
use Rattle.component_turn.proofs.StemLemmas.{part_begins, off_parts}
use Rattle.component_turn.proofs.TriedLemmas.{AllStay, retained_stay}

abbrev pub piece_stem : Piece → Name
piece_stem piece = piece.stem

abbrev pub IsPieceSound : Piece → Image → Type 0
IsPieceSound piece image = PieceSound piece.all piece.stem image

-- ---- soundness

-- Each part has what is asked of its piece, so the whole image has.
each_sound : (pieces : List Piece) (image : Image) → EachHas piece_stem IsPieceSound pieces image → EachSound pieces image
each_sound [] image has = tt
each_sound (piece ∷ pieces) image has = (piece_local piece.stem image has.0.one has.0.agrees piece.all has.0.possible, each_sound pieces image has.1)

-- One plan has a record's text.
pub plan_of_text : (one other : List Line) → IsPlan one → IsPlan other → plan_text one ≡ plan_text other → one ≡ other
plan_of_text one other fit also same = plan_is_sole one other fit.1 also.1 fit.0 also.0 same

module _ (web : Web) (component : Name) (lines : List Line) (fit : IsPlan lines) where
  abbrev pieces : List Piece
  pieces = pieces_from web component 0 lines

  abbrev pub Planned : Image → Type 0
  Planned image = IsPlanned web component lines image

  -- An image under this plan's record, with its pieces and the component as they ought to be.
  under_plan : (image : Image) → HasRecord component lines image → EachSound pieces image → IfStands (image component) (λ bytes. all_bytes web lines ≡ Some bytes) → Planned image
  under_plan image is each whole = (
    is,
    λ other ok stands.
        subst (λ (p : List Line). PlanSound web component p image) (sym (plan_of_text other lines ok fit (same_Some (plan_text other) (plan_text lines) (sym stands ∙ is)))) (record { pieces = each; whole = whole }),
  )

  -- Under it there are as many pieces as it has lines.
  pub has_pieces : (image : Image) → HasRecord component lines image → HasPieces component (length lines) image
  has_pieces image is other ok stands = ap length (plan_of_text other lines ok fit (same_Some (plan_text other) (plan_text lines) (sym stands ∙ is)))

  module _ (before fanned new : World) (handed parts : List World) (apart : AreApart (map piece_stem pieces)) (always : Always Planned before.story.now)
      (off_record : is_in_some (map piece_stem pieces) (record_of component) ≡ false) (off_self : is_in_some (map piece_stem pieces) component ≡ false) where
    crewed_sound : (image : Image) → IsCrewed piece_stem IsPieceSound pieces before.story.now image → Planned image
    crewed_sound image is =
        let was = always is.rest.one is.rest.possible in
        let plan_was = was.1 lines fit was.0 in
        under_plan image
        (is.rest.agrees (record_of component) (ap not off_record) ∙ was.0)
        (each_sound pieces image is.parts)
        (subst (λ (o : Option Bytes). IfStands o (λ bytes. all_bytes web lines ≡ Some bytes)) (sym (is.rest.agrees component (ap not off_self))) plan_was.whole)

    -- From before `fan` to after `gather` the component is sound under its record.
    pub crew_sound : Fans (map piece_stem pieces) before handed fanned → AllKept piece_stem IsPieceSound pieces parts → Gathers parts fanned new → Through before.story new.story Planned
    crew_sound fans kept gathers = weaker (crewed piece_stem IsPieceSound pieces handed parts before fanned new fans kept apart gathers)
        (λ image one. ⊎_elim (λ old. always image old) (λ crew. crewed_sound image crew) one)

-- A piece that is sound of the folder as it reads is sound of its part as that reads.
inside_sound : (piece : Piece) (disk : Disk) → PieceSound piece.all piece.stem (reads disk) → PieceSound piece.all piece.stem (reads (inside piece.stem disk))
inside_sound piece disk = piece_local piece.stem (reads (inside piece.stem disk)) (reads disk) (λ name mine. ap (λ (b : Bool). option_map content (if b then disk.live name else None)) mine) piece.all

-- Parts that were handed out with nothing pending and came back have what is asked of them.
pub all_kept : (old : World) (pieces : List Piece) (parts : List World) → IsTrue old.tells → EachSettled (map piece_stem pieces) old.story.now → EachSound pieces (reads old.story.now)
    → AllCame pieces (map (part_of old) (map piece_stem pieces)) parts → AllKept piece_stem IsPieceSound pieces parts
all_kept old [] [] t settled sound came = tt
all_kept old [] (part ∷ parts) t settled sound came = absurd came
all_kept old (piece ∷ more) [] t settled sound came = absurd came
all_kept old (piece ∷ more) (part ∷ parts) t settled sound came = (
  record {
    is = ap (λ (p : Option Part). option_map_or (λ part. part.stem) p []) came.0.stays.part;
    birth = inside piece.stem old.story.now;
    moments = came.0.sound (came.0.stays.still_tells t) settled.0 (inside_sound piece old.story.now sound.0);
  },
  all_kept old more parts t settled.1 sound.1 came.1,
)

-- Behind a settle, where each image has what the pieces' names read as, nothing is pending in the parts.
pub each_settled : (component : Name) (k count : ℕ) (disk : Disk) → Always (AsRead (begins (pieces_of component)) (settled disk)) (settled disk) → EachSettled (stems_from component k count) (settled disk)
each_settled component k zero disk as_read = tt
each_settled component k (suc count) disk as_read = (
  part_settled (stem_of component k) disk (λ image may name mine. as_read image may name (part_begins component k name mine)),
  each_settled component (k + 1) count disk as_read,
)

-- ---- the parts go out and come back

-- They are those that are out, in their order: what `gather` asks.
come_back : (old : World) (stems : List Name) (parts : List World) → AllStay (map (part_of old) stems) parts → map (λ part. part.part) parts ≡ map (λ part. Some part) (map (handed_part old) stems)
come_back old [] [] came = refl
come_back old [] (part ∷ parts) came = absurd came
come_back old (stem ∷ stems) [] came = absurd came
come_back old (stem ∷ stems) (part ∷ parts) came = λ i. came.0.part i ∷ come_back old stems parts came.1 i

pub gather_asks : {F : Type 0} (w : F → World) (old fanned : World) (stems : List Name) (parts back : List F) → Fans stems old (map w parts) fanned → AllRetained stems (map w parts) (map w back)
    → map (λ part. (w part).part) back ≡ map (λ part. Some part) fanned.out
gather_asks {F} w old fanned stems parts back fans retained =
    each back ∙ come_back old stems (map w back) (subst (λ (l : List World). AllStay l (map w back)) fans.handed (retained_stay stems (map w parts) (map w back) retained)) ∙ ap (map (λ part. Some part)) (sym fans.out)
  where
    each : (all : List F) → map (λ part. (w part).part) all ≡ map (λ world. world.part) (map w all)
    each [] = refl
    each (part ∷ all) = ap (λ l. (w part).part ∷ l) (each all)

-- A part that is handed out answers for its stem's names.
are_folders : (old : World) (stems : List Name) (parts : List World) → parts ≡ map (part_of old) stems → AllFolders stems parts
are_folders old stems parts is = subst (AllFolders stems) (sym is) (by stems)
  where
    by : (all : List Name) → AllFolders all (map (part_of old) all)
    by [] = tt
    by (stem ∷ all) = ((λ t. record { none_out = refl; part = same_name stem }), by all)

-- So each part does, where it tells.
pub parts_folders : (old : World) (stems : List Name) (parts : List World) → AreBegun stems old parts → (IsTrue old.tells → parts ≡ map (part_of old) stems) → AllFolders stems parts
parts_folders old stems parts begun_are handed = by old.tells refl
  where
    silent : (all : List Name) (worlds : List World) → old.tells ≡ false → length worlds ≡ length all → All (Begins old) worlds → AllFolders all worlds
    silent [] [] no_ many each = tt
    silent [] (w ∷ worlds) no_ many each = absurd (omega (arith, many))
    silent (stem ∷ all) [] no_ many each = absurd (omega (arith, many))
    silent (stem ∷ all) (w ∷ worlds) no_ many each = (
      (λ t. absurd (let x : false ≡ true = sym no_ ∙ sym (All-head (Begins old) w worlds each).tells ∙ t in cc)),
      silent all worlds no_ (omega (arith, many)) (All-tail (Begins old) w worlds each),
    )

    by : (v : Bool) → old.tells ≡ v → AllFolders stems parts
    by true is = are_folders old stems parts (handed is)
    by false is = silent stems parts is begun_are.one_each begun_are.each

-- ---- promises and names beside

-- at each stem's names, by what the whole folder promised
abbrev AsBefore : Disk → Name → Image → Type 0
AsBefore disk stem = NoLess (reads (inside stem disk)) stem

all_retained : (old : World) (stems : List Name) (parts : List World) → IsTrue old.tells → EachSettled stems old.story.now → AllRetained stems (map (part_of old) stems) parts → AllKeptByStem (AsBefore old.story.now) stems parts
all_retained old [] [] t settled came = tt
all_retained old [] (part ∷ parts) t settled came = absurd came
all_retained old (stem ∷ stems) [] t settled came = absurd came
all_retained old (stem ∷ stems) (part ∷ parts) t settled came = (
  record {
    is = ap (λ (p : Option Part). option_map_or (λ part. part.stem) p []) came.0.stays.part;
    birth = inside stem old.story.now;
    moments = came.0.kept (came.0.stays.still_tells t) settled.0;
  },
  all_retained old stems parts t settled.1 came.1,
)

each_no_less : (disk : Disk) (stems : List Name) (image : Image) → EachHasByStem (AsBefore disk) stems image → EachNoLess (reads disk) stems image
each_no_less disk [] image has = tt
each_no_less disk (stem ∷ stems) image has = (
  (λ first promise is also. has.0.possible first promise
      (promise_there stem (reads disk) (reads (inside stem disk)) (λ name mine. sym (ap (λ (b : Bool). option_map content (if b then disk.live name else None)) mine)) first is)
      (promise_there stem image has.0.one has.0.agrees promise also)),
  each_no_less disk stems image has.1,
)

module _ (stems : List Name) (before fanned new : World) (handed parts : List World) (t : IsTrue before.tells) (apart : AreApart stems) (fans : Fans stems before handed fanned) (retained : AllRetained stems handed parts) (gathers : Gathers parts fanned new) where
  -- No piece's promise gets less than it was, where nothing was pending in the parts and each image promised as much as is read.
  pub crew_kept : EachSettled stems before.story.now → Always (EachNoLess (reads before.story.now) stems) before.story.now → Through before.story new.story (EachNoLess (reads before.story.now) stems)
  crew_kept settled was =
      weaker (crewed_by_stem (AsBefore before.story.now) stems handed parts before fanned new fans
      (all_retained before stems parts t settled (subst (λ (l : List World). AllRetained stems l parts) fans.handed retained)) apart gathers)
      (λ image one. ⊎_elim (λ old. was image old) (λ crew. each_no_less before.story.now stems image crew.parts) one)

-- A part that was handed out and came back, of whose images nothing is asked
any_kept : (old : World) (stems : List Name) (parts : List World) → AllStay (map (part_of old) stems) parts → AllKeptByStem (λ stem image. Unit {0}) stems parts
any_kept old [] [] stay = tt
any_kept old [] (part ∷ parts) stay = absurd stay
any_kept old (stem ∷ stems) [] stay = absurd stay
any_kept old (stem ∷ stems) (part ∷ parts) stay = (
  record {
    is = ap (λ (p : Option Part). option_map_or (λ part. part.stem) p []) stay.0.part;
    birth = inside stem old.story.now;
    moments = any_moments (inside stem old.story.now) part;
  },
  any_kept old stems parts stay.1,
)
  where
    -- a story that was begun without a past has had its moments
    any_moments : (birth : Disk) (world : World) → Through (record { now = birth; past = [] }) world.story (λ image. Unit {0})
    any_moments birth world = record { more = world.story.past; past = sym (append-nil world.story.past); each = λ image may. tt }

-- Names that do not begin as the pieces' do are as before.
pub crew_apart : (component : Name) (count : ℕ) (before fanned new : World) (handed parts : List World) → AreApart (stems_from component 0 count) → Fans (stems_from component 0 count) before handed fanned
    → AllStay (map (part_of before) (stems_from component 0 count)) parts → Gathers parts fanned new → Through before.story new.story (Follows (May before.story.now) (Beside (begins (pieces_of component))))
crew_apart component count before fanned new handed parts apart fans stay gathers =
    weaker (crewed_by_stem (λ stem image. Unit {0}) (stems_from component 0 count) handed parts before fanned new fans (any_kept before (stems_from component 0 count) parts stay) apart gathers)
    (λ image one. ⊎_elim
    (λ old. record { before = image; possible = old; each = λ name beside. refl })
    (λ crew. record { before = crew.rest.one; possible = crew.rest.possible; each = λ name beside. crew.rest.agrees name (ap not (off_parts component 0 count name beside)) }) one)

-- ---- counts over gather

-- One part's count makes the folder's rise.
pub some_rose : (count : World → ℕ) (parts : List World) (k : ℕ) (part : World) → slice_get parts k ≡ Some part → 0 < count part → SomeRose count parts
some_rose count [] k part at above = absurd (none-some part at)
some_rose count (w ∷ parts) zero part at above = inl (subst (λ (x : World). 0 < count x) (sym (same_Some w part at)) above)
some_rose count (w ∷ parts) (suc k) part at above = inr (some_rose count parts k part at above)

-- A refused lane's fault is one of the folder's once the parts are back.
pub refused_may_fail : (old fanned new : World) (stems : List Name) (handed parts : List World) (fault : StoreFault) → old.faults ≤ fanned.faults → (IsTrue old.steady → IsTrue old.tells → IsTrue fanned.tells) → AreBegun stems old handed
    → Collects parts fanned new → WasRefused fault stems handed parts → MayFail old new fault
refused_may_fail old fanned new stems handed parts fault later tells begun_are collects was = by stems handed parts begun_are.each was (λ rose. collects.faults.rose rose)
  where
    by : (ss : List Name) (os ns : List World) → All (Begins old) os → WasRefused fault ss os ns → (SomeRose (λ world. world.faults) ns → Rose fanned.faults new.faults) → MayFail old new fault
    by [] os ns each was rise = absurd was
    by (s ∷ ss) [] ns each was rise = absurd was
    by (s ∷ ss) (o ∷ os) [] each was rise = absurd was
    by (s ∷ ss) (o ∷ os) (n ∷ ns) each was rise = ⊎_elim
        (λ here. ⊎_elim
        (λ memory. record {
          rose = λ call is. absurd (let e : store.OutOfMemory ≡ store.Folder call = sym memory ∙ is in cc);
          steady = λ steady tells. memory;
        })
        (λ refusal. record {
          rose = λ call is.
              let between = subst (λ (f : StoreFault). MayRefuse o n f) is refusal.rose in
              let above : 0 < n.faults = omega (arith, between.earlier.faults, between.fails.rose, between.later.faults) in
              omega (arith, later, rise (inl above));
          steady = λ steady tells.
              let b = All-head (Begins old) o os each in
              refusal.steady (b.steady ∙ steady) (b.tells ∙ tells);
        }) here.cause)
        (λ more. by ss os ns (All-tail (Begins old) o os each) more (λ rose. rise (inr rose))) was

-- ---- what a call keeps that hands out parts
pub endures_stays : {old new : World} → Stays old new → Endures old new
endures_stays stays = record {
  tells = stays.tells;
  still_tells = stays.still_tells;
  steady = stays.steady;
  faults = stays.faults;
  refusals = stays.refusals;
  whole = λ t is. record { no_part = stays.part ∙ is.no_part; none_out = stays.out ∙ is.none_out };
}

pub endures_both : {first second third : World} → Endures first second → Endures second third → Endures first third
endures_both a b = record {
  tells = λ t. a.tells (b.tells t);
  still_tells = λ t. b.still_tells (a.still_tells t);
  steady = λ s. b.steady (a.steady s);
  faults = omega (arith, a.faults, b.faults);
  refusals = omega (arith, a.refusals, b.refusals);
  whole = λ t is. b.whole t (a.whole (b.tells t) is);
}

-- from `fan` to `gather`
pub endures_gather : {T : Type 0} {old fanned new : World} {stems : List Name} {handed parts : List World} {result : Result T FolderFault}
    → Asks ⊤ old fanned result → (IsTrue fanned.tells → Fans stems old handed fanned) → Collects parts fanned new → (IsTrue new.tells → Gathers parts fanned new) → Endures old new
endures_gather asks fans collects gathers = record {
  tells = λ t. asks.tells (collects.tells t);
  still_tells = λ t. collects.still_tells (asks.still_tells t);
  steady = λ s. collects.steady (asks.steady s);
  faults = omega (arith, asks.faults, collects.faults.later);
  refusals = omega (arith, asks.refusals, collects.refusals.later);
  whole = λ t is. record { no_part = (gathers t).part ∙ (fans (collects.tells t)).part ∙ is.no_part; none_out = (gathers t).out };
}

-- no call was made, and one that changed nothing but counts
pub fails_endures : {old mid new : World} {fault : StoreFault} → Endures old mid → MayFail mid new fault → MayFail old new fault
fails_endures before fails = record {
  rose = λ call is. omega (arith, before.faults, fails.rose call is);
  steady = λ steady tells. fails.steady (before.steady steady) (before.still_tells tells);
}

pub fails_then : {old mid new : World} {fault : StoreFault} → MayFail old mid fault → Endures mid new → MayFail old new fault
fails_then fails after = record { rose = λ call is. omega (arith, fails.rose call is, after.faults); steady = fails.steady }

pub refusal_fails : {old new : World} {fault : StoreFault} → IsRefusal old new fault → MayFail old new fault
refusal_fails {old} {new} {fault} refusal = record {
  rose = λ call is.
      let between = subst (λ (f : StoreFault). MayRefuse old new f) is refusal.rose in
      omega (arith, between.earlier.faults, between.fails.rose, between.later.faults);
  steady = refusal.steady;
}
