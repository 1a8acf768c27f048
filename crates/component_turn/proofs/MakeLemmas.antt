-- What was asked, as the component's turn tells it.
use Rattle.std.proofs.Common.{◌≡◌, inl, inr, ℕ, Bool, true, false, List, [], ◌∷◌, map, refl, sym, ◌∙◌, ap, subst, arith}
use Rattle.std.proofs.lemmas.List.Elements.{All-nil, All-cons, All-head, All-tail}
use Rattle.std.proofs.lemmas.Option.{none-some}
use Rattle.std.specs.List.{slice_get}
use Rattle.std.specs.Prelude.{Option, Some, None, All, is_some, option_map}
use Rattle.folder_base.specs.Disk.{Name, Disk, content}
use Rattle.folder_base.specs.Parts.{is_part}
use Rattle.folder_base.proofs.Together.{part_has_stem}
use Rattle.keep_store.specs.Promise.{promising}
use Rattle.keep_store.specs.Safe.{reads}
use Rattle.http_reply.specs.declared.piece_fault.PieceFault.TheVariants.{CutShort}
use Rattle.link_http.specs.Wire.{Wire}
use Rattle.link_http.specs.declared.piece.Piece.{Piece}
use Rattle.claim_crew.specs.Claimed.{sum_of, joined_all, AllLastFail}
use Rattle.piece_turn.specs.Turn.{has_failed}
use Rattle.piece_turn.specs.declared.piece_end.PieceEnd.{PieceEnd}
use Rattle.piece_turn.specs.declared.piece_end.PieceEnd.TheVariants.{Failed}
use Rattle.frag_crew.specs.Asked.{Asked, numbers_of, AllWork}
use Rattle.frag_crew.proofs.WorkLemmas.{works_none}
use Rattle.plan_record.specs.Names.{stem_of}
use Rattle.component_turn.specs.Lanes.{IsFound}
use Rattle.component_turn.specs.Pieces.{PieceTurned, AskedAll}
use Rattle.component_turn.specs.Turned.{IsAt}
use Rattle.component_turn.proofs.LaneLemmas.{part_has_promise, promise_there}

-- ---- nothing was asked
abbrev no_turns : {D : Type 0} → List D → List (List Asked)
no_turns {D} ds = map (λ (d : D). []) ds

joined_none : {D : Type 0} (ds : List D) → joined_all (no_turns ds) ≡ []
joined_none [] = refl
joined_none (d ∷ ds) = joined_none ds

numbered_none : {D : Type 0} (ds : List D) → joined_all (numbers_of (no_turns ds)) ≡ []
numbered_none [] = refl
numbered_none (d ∷ ds) = numbered_none ds

work_none : {D : Type 0} (wire : D → Wire) (ds : List D) → AllWork wire (no_turns ds) ds ds
work_none wire [] = tt
work_none wire (d ∷ ds) = (works_none (wire d), work_none wire ds)

last_none : {D : Type 0} (ds : List D) → AllLastFail has_failed [] (numbers_of (no_turns ds))
last_none [] = tt
last_none (d ∷ ds) = ((λ i k y at end_at bad. absurd (none-some y end_at)), last_none ds)

-- The dialers are as they were, and no piece was begun.
pub asked_none : {D : Type 0} (wire : D → Wire) (At : ℕ → Bool → ℕ → Type 0) (After : ℕ → ℕ → Type 0) (Telling : ℕ → Type 0) (pieces : List Piece) (retries : ℕ) (ds : List D) → AskedAll wire At After Telling pieces retries [] ds ds
asked_none wire At After Telling pieces retries ds = record {
  count = 0;
  begun = record { within = omega arith; begun = λ k end lt at. absurd (none-some end at); all = inl refl };
  asked = no_turns ds;
  once = λ f. ap (sum_of f) (numbered_none ds);
  last = last_none ds;
  works = work_none wire ds;
  turns = subst (All (PieceTurned wire At After Telling pieces retries [] ds ds)) (sym (joined_none ds)) (All-nil (PieceTurned wire At After Telling pieces retries [] ds ds));
  turn = λ k lt. absurd (omega (arith, lt));
}

-- ---- the same, told of another folder
module _ {D : Type 0} (wire : D → Wire) (At At' : ℕ → Bool → ℕ → Type 0) (After After' : ℕ → ℕ → Type 0) (Telling Telling' : ℕ → Type 0) (pieces : List Piece) (retries : ℕ) (ends : List PieceEnd) (ds es : List D)
    (find : (k : ℕ) (piece : Piece) (complete : Bool) (promised : ℕ) → slice_get pieces k ≡ Some piece → At k complete promised → At' k complete promised)
    (promise : (k got n : ℕ) (told : Option ℕ) (piece : Piece) → slice_get pieces k ≡ Some piece → slice_get ends k ≡ Some (Failed n (CutShort got told)) → After k got → After' k got)
    (telling : (k : ℕ) (piece : Piece) → slice_get pieces k ≡ Some piece → Telling' k → Telling k) where
  pub turned_as : (a : Asked) → PieceTurned wire At After Telling pieces retries ends ds es a → PieceTurned wire At' After' Telling' pieces retries ends ds es a
  turned_as a t = record {
    piece = t.piece;
    end = t.end;
    piece_at = t.piece_at;
    end_at = t.end_at;
    complete = t.complete;
    promised = t.promised;
    found = find a.number t.piece t.complete t.promised t.piece_at t.found;
    ends_by = t.ends_by;
    first = t.first;
    starts = t.starts;
    address_is = t.address_is;
    worker = t.worker;
    from = t.from;
    to = t.to;
    from_at = t.from_at;
    to_at = t.to_at;
    before = t.before;
    after = t.after;
    until = t.until;
    since = t.since;
    tell = t.tell;
    behind = λ tells there. t.behind tells (telling a.number t.piece t.piece_at there);
    cause = t.cause;
    cut = λ tells n got told is. promise a.number got n told t.piece t.piece_at (t.end_at ∙ ap (λ (e : PieceEnd). Some e) is) (t.cut tells n got told is);
  }

  pub all_as : (turns : List Asked) → All (PieceTurned wire At After Telling pieces retries ends ds es) turns → All (PieceTurned wire At' After' Telling' pieces retries ends ds es) turns
  all_as [] all = All-nil (PieceTurned wire At' After' Telling' pieces retries ends ds es)
  all_as (a ∷ turns) all = All-cons (PieceTurned wire At' After' Telling' pieces retries ends ds es) a turns
      (turned_as a (All-head (PieceTurned wire At After Telling pieces retries ends ds es) a turns all)) (all_as turns (All-tail (PieceTurned wire At After Telling pieces retries ends ds es) a turns all))

  abbrev pub asked_as : AskedAll wire At After Telling pieces retries ends ds es → AskedAll wire At' After' Telling' pieces retries ends ds es
  asked_as all = record {
    count = all.count;
    begun = all.begun;
    asked = all.asked;
    once = all.once;
    last = all.last;
    works = all.works;
    turns = all_as (joined_all all.asked) all.turns;
    turn = λ k lt. let t = all.turn k lt in (t.0, t.1, t.2, t.3, turned_as t.1 t.4);
  }

-- ---- how a piece is found, by how the component was begun
-- A piece is found alike where its part's names have the same files.
pub found_as : (stem : Name) (one other : Disk) (complete : Bool) (promised : ℕ) → ((name : Name) → is_part stem name ≡ true → one.live name ≡ other.live name) → IsFound stem one complete promised → IsFound stem other complete promised
found_as stem one other complete promised same found = record {
  whole = found.whole ∙ ap is_some (same stem (part_has_stem stem));
  first = λ bytes is. found.first bytes (promise_there stem (reads other) (reads one) (λ name mine. ap (option_map content) (sym (same name mine))) bytes is);
}

-- Where no name of the piece stands none of its bytes are promised, and it is not complete.
pub found_none : (component : Name) (k : ℕ) (disk : Disk) (complete : Bool) (promised : ℕ) → ((name : Name) → is_part (stem_of component k) name ≡ true → disk.live name ≡ None) → IsFound (stem_of component k) disk complete promised → IsAt false component disk k complete promised
found_none component k disk complete promised none found = (
  found.whole ∙ ap is_some (none (stem_of component k) (part_has_stem (stem_of component k))),
  found.first [] (inr (record {
    part = ap (option_map content) (none (stem_of component k) (part_has_stem (stem_of component k)));
    promised = inl refl;
    greatest = λ digits other p. absurd (let e : None ≡ Some p.file = sym (ap (option_map content) (none (promising (stem_of component k) digits) (part_has_promise (stem_of component k) digits))) ∙ p.stands in cc);
  })),
)
