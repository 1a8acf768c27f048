-- What the calls of a component's turn come to, one after the other.
use Rattle.std.proofs.Common.{◌≡◌, ◌⊎◌, inl, inr, ℕ, zero, suc, ◌+◌, ◌<◌, ◌≤◌, Bool, true, false, List, length, refl, sym, ◌∙◌, ap, subst, arith}
use Rattle.std.proofs.lemmas.Slice.Eq.{bytes_eq-Decides}
use Rattle.std.specs.Prelude.{Option, Some, None, IsTrue, IsSome, ◌||◌, ◌&&◌, not, bytes_eq, if◌then◌else◌}
use Rattle.folder_base.specs.Disk.{Name, Bytes, Disk, Image, May, begins, settled}
use Rattle.folder_base.specs.Parts.{is_part, Agree}
use Rattle.folder_base.specs.Story.{Story, Through}
use Rattle.folder_base.proofs.Disjoint.{neither_so, so_right}
use Rattle.folder_base.proofs.Images.{settle_keeps}
use Rattle.folder_base.proofs.Moments.{joined, weaker}
use Rattle.folder_steps.specs.Follow.{Always, AsRead, Follows, Beside}
use Rattle.keep_store.specs.Safe.{reads}
use Rattle.keep_store.proofs.Opened.{one_promise}
use Rattle.piece_turn.specs.Lane.{NoLess}
use Rattle.plan_record.specs.Names.{record_of, spare_of, joined_of, pieces_of, stem_of, is_beside, is_swept, begins as begins_with}
use Rattle.plan_record.specs.declared.line.Line.{Line}
use Rattle.component_store.specs.Assemble.{IsAssembling}
use Rattle.component_store.specs.Begin.{IsBeginning, IsStarting}
use Rattle.component_store.specs.Component.{Web, HasRecord, ComponentSound}
use Rattle.component_store.proofs.FamilyLemmas.{begins_one, spare_not, pieces_joined, pieces_record, self_record, joined_record}
use Rattle.component_turn.specs.Plan.{is_of, stems_from}
use Rattle.component_turn.specs.Lanes.{EachSettled, EachNoLess}
use Rattle.component_turn.specs.Crew.{IsPlanned}
use Rattle.component_turn.proofs.CrewLemmas.{each_settled}
use Rattle.component_turn.proofs.LaneLemmas.{promise_there}
use Rattle.component_turn.proofs.StemLemmas.{part_begins}

-- A turn's last moment.
pub at_end : {old new : Story} {P : Image → Type 0} → Through old new P → Always P new.now
at_end run image may = run.each image (inl may)

-- ---- names beside the family

-- the name is none of the family's
pub record IsOutside (component name : Name) : Type 0 where
  pub self : bytes_eq component name ≡ false
  pub beside : is_beside component name ≡ false
  pub record_not : bytes_eq (record_of component) name ≡ false
  pub spare_not : bytes_eq (spare_of component) name ≡ false
  pub joined_not : bytes_eq (joined_of component) name ≡ false
  pub pieces_not : begins_with (pieces_of component) name ≡ false

pub outside : (component name : Name) → is_of component name ≡ false → IsOutside component name
outside component name is =
    let one = neither_so (bytes_eq component name) (is_beside component name) is in
    let two = neither_so (bytes_eq (record_of component) name) (bytes_eq (spare_of component) name || (bytes_eq (joined_of component) name || begins_with (pieces_of component) name)) one.1 in
    let three = neither_so (bytes_eq (spare_of component) name) (bytes_eq (joined_of component) name || begins_with (pieces_of component) name) two.1 in
    let four = neither_so (bytes_eq (joined_of component) name) (begins_with (pieces_of component) name) three.1 in
    record { self = one.0; beside = one.1; record_not = two.0; spare_not = three.0; joined_not = four.0; pieces_not = four.1 }

-- It is not swept, whether the component is final or not.
swept_not : (component : Name) (final : Bool) (name : Name) → IsOutside component name → is_swept component final name ≡ false
swept_not component final name off = λ i. off.beside i || last final i
  where
    last : (f : Bool) → (not f && bytes_eq component name) ≡ false
    last true = refl
    last false = off.self

-- What may go stays where it may not.
pub thin_same : (goes : Bool) (before now : Option Bytes) → goes ≡ false → (now ≡ before) ⊎ (IsTrue goes × (now ≡ None)) → now ≡ before
thin_same goes before now none (inl same) = same
thin_same goes before now none (inr gone) = absurd (let e : true ≡ false = sym gone.0 ∙ none in cc)

module _ (component : Name) (final : Bool) (plan : Bytes) (disk : Disk) where
  starting_beside : (image : Image) → IsStarting component final plan disk image → Follows (May disk) (Beside (is_of component)) image
  starting_beside image (inl cleared) = record {
    before = cleared.before;
    possible = cleared.possible;
    each = λ name is. let off = outside component name is in thin_same (is_swept component final name) (cleared.before name) (image name) (swept_not component final name off) (cleared.each name off.spare_not);
  }
  starting_beside image (inr started) = record {
    before = started.before;
    possible = started.possible;
    each = λ name is.
        let off = outside component name is in
        started.each name ∙ (λ i. if off.record_not i then Some plan else (if swept_not component final name off i then None else started.before name));
  }

  -- No name beside the family is touched as a component is begun,
  pub beginning_beside : (goes : Bool) (image : Image) → IsBeginning component final plan goes disk image → Follows (May disk) (Beside (is_of component)) image
  beginning_beside goes image (inl thinner) = record {
    before = thinner.before;
    possible = thinner.possible;
    each = λ name is. thin_same (bytes_eq (spare_of component) name) (thinner.before name) (image name) (outside component name is).spare_not (thinner.each name);
  }
  beginning_beside goes image (inr anew) = starting_beside image anew.1

-- nor as it is put together.
pub assembling_beside : (component : Name) (count : ℕ) (disk : Disk) (image : Image) → IsAssembling component count disk image → Follows (May disk) (Beside (is_of component)) image
assembling_beside component count disk image (inl loose) = record { before = loose.before; possible = loose.possible; each = λ name is. loose.each name (outside component name is).joined_not }
assembling_beside component count disk image (inr done) = record {
  before = done.before;
  possible = inl (inl done.possible);
  each = λ name is.
      let off = outside component name is in
      thin_same (begins (pieces_of component) name) (done.before name) (image name) (begins_one (pieces_of component) name ∙ off.pieces_not) (done.others name off.self off.joined_not);
}

-- The pieces' names are of the family.
pub pieces_beside : (component : Name) (disk : Disk) (image : Image) → Follows (May disk) (Beside (begins (pieces_of component))) image → Follows (May disk) (Beside (is_of component)) image
pieces_beside component disk image follows = record {
  before = follows.before;
  possible = follows.possible;
  each = λ name is. follows.each name (begins_one (pieces_of component) name ∙ (outside component name is).pieces_not);
}

-- An image that was possible before is one beside which nothing was touched.
pub same_beside : (loose : Name → Bool) (disk : Disk) (image : Image) → May disk image → Follows (May disk) (Beside loose) image
same_beside loose disk image may = record { before = image; possible = may; each = λ name is. refl }

-- One call more that touches none of these names
pub beside_on : {loose : Name → Bool} {old mid new : Story} → Through old mid (Follows (May old.now) (Beside loose)) → Through mid new (Follows (May mid.now) (Beside loose)) → Through old new (Follows (May old.now) (Beside loose))
beside_on {loose} {old} {mid} {new} first second = joined first (weaker second (λ image follows.
    let was = at_end first follows.before follows.possible in
    record { before = was.before; possible = was.possible; each = λ name is. follows.each name is ∙ was.each name is }))

-- ---- promises

-- An image whose piece's names are those of another promises no less than that.
pub same_no_less : (stem : Name) (entry image : Image) → Agree (is_part stem) image entry → NoLess entry stem image
same_no_less stem entry image same first promise is also = subst (λ (b : Bytes). length first ≤ length b) (one_promise stem entry first promise is (promise_there stem image entry same promise also)) (omega arith)

-- No less than at one entry is no less than at another, where the piece's names are the same there.
pub no_less_at : (stem : Name) (one other image : Image) → Agree (is_part stem) one other → NoLess other stem image → NoLess one stem image
no_less_at stem one other image same none_less first promise is also = none_less first promise (promise_there stem one other same first is) also

-- the component stands beside its plan's record
abbrev StandsBeside : Name → Bytes → Image → Type 0
StandsBeside component text image = IsSome (image component) × (image (record_of component) ≡ Some text)

module _ (component : Name) (text : Bytes) (k : ℕ) where
  -- at a part's names, none of which is the joined part's
  part_pieces : (name : Name) → is_part (stem_of component k) name ≡ true → begins_with (pieces_of component) name ≡ true
  part_pieces name mine = sym (begins_one (pieces_of component) name) ∙ part_begins component k name mine

  -- As a component that goes on is begun its pieces are as they read.
  pub beginning_kept : (final : Bool) (disk : Disk) → Always (AsRead (is_of component) disk) disk → (image : Image) → IsBeginning component final text true disk image → NoLess (reads disk) (stem_of component k) image
  beginning_kept final disk as_read image (inl thinner) = same_no_less (stem_of component k) (reads disk) image (λ name mine.
      thin_same (bytes_eq (spare_of component) name) (thinner.before name) (image name) (spare_not component name (part_pieces name mine)) (thinner.each name)
      ∙ as_read thinner.before thinner.possible name (family name (part_pieces name mine)))
    where
      family : (name : Name) → begins_with (pieces_of component) name ≡ true → is_of component name ≡ true
      family name mine = so_right (bytes_eq component name) (is_beside component name)
          (so_right (bytes_eq (record_of component) name) _ (so_right (bytes_eq (spare_of component) name) _
          (so_right (bytes_eq (joined_of component) name) _ mine)))
  beginning_kept final disk as_read image (inr anew) = absurd (let e : true ≡ false = anew.0 in cc)

  -- While the component is put together its pieces are as before, or it stands beside its record.
  pub assembling_kept : (count : ℕ) (entry : Image) (disk : Disk) → Always (NoLess entry (stem_of component k)) disk → Always (λ image. image (record_of component) ≡ Some text) disk
      → (image : Image) → IsAssembling component count disk image → NoLess entry (stem_of component k) image ⊎ StandsBeside component text image
  assembling_kept count entry disk kept recorded image (inl loose) = inl (λ first promise is also.
      kept loose.before loose.possible first promise is (promise_there (stem_of component k) image loose.before (λ name mine. loose.each name (joined_not name (part_pieces name mine))) promise also))
    where
      joined_not : (name : Name) → begins_with (pieces_of component) name ≡ true → bytes_eq (joined_of component) name ≡ false
      joined_not name mine = by (bytes_eq (joined_of component) name) refl
        where
          by : (v : Bool) → bytes_eq (joined_of component) name ≡ v → v ≡ false
          by true is = absurd (let e : true ≡ false = sym mine ∙ ap (begins_with (pieces_of component)) (sym ((bytes_eq-Decides (joined_of component) name).0 is)) ∙ pieces_joined component in cc)
          by false is = refl
  assembling_kept count entry disk kept recorded image (inr done) = inr (
    subst IsSome (sym done.whole) refl,
    record_same ∙ recorded done.before (inl (inl done.possible)),
  )
    where
      record_same : image (record_of component) ≡ done.before (record_of component)
      record_same = thin_same (begins (pieces_of component) (record_of component)) (done.before (record_of component)) (image (record_of component))
          (begins_one (pieces_of component) (record_of component) ∙ pieces_record component)
          (done.others (record_of component) (self_record component) (joined_record component))

-- of one piece among all
pub no_less_of : (entry image : Image) (component : Name) (from count k : ℕ) → k < count → EachNoLess entry (stems_from component from count) image → NoLess entry (stem_of component (from + k)) image
no_less_of entry image component from zero k lt each = absurd (omega (arith, lt))
no_less_of entry image component from (suc count) zero lt each = subst (λ (n : ℕ). NoLess entry (stem_of component n) image) (omega arith) each.0
no_less_of entry image component from (suc count) (suc k) lt each = subst (λ (n : ℕ). NoLess entry (stem_of component n) image) (omega arith) (no_less_of entry image component (from + 1) count k (omega (arith, lt)) each.1)

pub no_less_first : (entry image : Image) (component : Name) (count k : ℕ) → k < count → EachNoLess entry (stems_from component 0 count) image → NoLess entry (stem_of component k) image
no_less_first entry image component count k lt each = subst (λ (n : ℕ). NoLess entry (stem_of component n) image) (let e : 0 + k ≡ k = omega arith in e) (no_less_of entry image component 0 count k lt each)

-- of all pieces
pub each_no_less : (entry image : Image) (component : Name) (from count : ℕ) → ((k : ℕ) → NoLess entry (stem_of component k) image) → EachNoLess entry (stems_from component from count) image
each_no_less entry image component from zero each = tt
each_no_less entry image component from (suc count) each = (each from, each_no_less entry image component (from + 1) count each)

-- Where each image has what the pieces' names read as, each promises as much as is read.
pub read_no_less : (component : Name) (count : ℕ) (disk : Disk) → Always (AsRead (begins (pieces_of component)) disk) disk → Always (EachNoLess (reads disk) (stems_from component 0 count)) disk
read_no_less component count disk as_read image may =
    each_no_less (reads disk) image component 0 count (λ k. same_no_less (stem_of component k) (reads disk) image (λ name mine. as_read image may name (part_begins component k name mine)))

-- ---- soundness, call by call
module _ (web : Web) (component : Name) (lines : List Line) where
  -- Behind `begin` the record is the plan's, and the component sound.
  planned : {old begun_ : Story} → Through old begun_ (ComponentSound web component) → Always (HasRecord component lines) begun_.now → Always (IsPlanned web component lines) begun_.now
  planned run recorded image may = (recorded image may, at_end run image may)

  -- From the start to after `gather`: sound at each moment, and the record is the plan's then.
  pub to_crew : (count : ℕ) (old begun_ entered crewed : Story) → Through old begun_ (ComponentSound web component) → Always (HasRecord component lines) begun_.now
      → Always (AsRead (begins (pieces_of component)) begun_.now) begun_.now → entered.now ≡ settled begun_.now → Through begun_ entered (May begun_.now)
      → (EachSettled (stems_from component 0 count) entered.now → Always (IsPlanned web component lines) entered.now → Through entered crewed (IsPlanned web component lines))
      → Through old crewed (ComponentSound web component) × Always (IsPlanned web component lines) crewed.now
  to_crew count old begun_ entered crewed run recorded as_read now settling crew =
      let was = planned run recorded in
      let one : Through begun_ entered (IsPlanned web component lines) = weaker settling was in
      let read : Always (AsRead (begins (pieces_of component)) (settled begun_.now)) (settled begun_.now) = λ image may. as_read image (settle_keeps begun_.now image may) in
      let calm : EachSettled (stems_from component 0 count) entered.now = subst (EachSettled (stems_from component 0 count)) (sym now) (each_settled component 0 count begun_.now read) in
      let two = crew calm (at_end one) in
      (joined run (joined (weaker one (λ image h. h.1)) (weaker two (λ image h. h.1))), at_end two)

  -- And behind a settle, whatever it answers.
  pub to_settle : (old crewed after : Story) → Through crewed after (May crewed.now) → Through old crewed (ComponentSound web component) × Always (IsPlanned web component lines) crewed.now
      → Through old after (ComponentSound web component) × Always (IsPlanned web component lines) after.now
  to_settle old crewed after settling was =
      let run = weaker settling was.1 in
      (joined was.0 (weaker run (λ image h. h.1)), at_end run)
