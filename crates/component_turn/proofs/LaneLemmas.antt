-- What is known of a lane from its part's birth to the crew's return.
use Rattle.std.proofs.Common.{◌≡◌, inl, inr, ⊎_elim, ℕ, true, List, [], ◌∷◌, ◌++◌, length, sym, ◌∙◌, ap, subst, append_assoc}
use Rattle.std.specs.Prelude.{Option, Some, IsTrue, IsSome, is_some, bytes_eq}
use Rattle.std.proofs.lemmas.List.{append-nil}
use Rattle.folder_base.specs.Disk.{Name, Bytes, Image, begins, IsSettled}
use Rattle.folder_base.specs.Parts.{is_part, Agree}
use Rattle.folder_base.specs.Story.{World, Through}
use Rattle.folder_base.specs.declared.store_fault.StoreFault.{StoreFault}
use Rattle.folder_base.proofs.Disjoint.{so_right}
use Rattle.folder_base.proofs.Moments.{begun, joined, weaker}
use Rattle.folder_base.proofs.Together.{part_has_stem}
use Rattle.keep_store.specs.Promise.{promising, Promises, IfStands, PieceSound, IsPromise}
use Rattle.keep_store.specs.Safe.{reads}
use Rattle.keep_store.specs.Lane.{Seen, Has}
use Rattle.keep_store.specs.Opens.{Opens, NotOpened}
use Rattle.keep_store.specs.TookLaws.{stays_none, stays_both}
use Rattle.keep_store.proofs.Naming.{begins_all}
use Rattle.keep_store.proofs.Opened.{entry_images, entry_kept, promised_first, promised_all, one_promise}
use Rattle.piece_turn.specs.Lane.{IsAsOpened, IsSoundLane, IsSamePiece, KeepsLane, StaysSound, NoLess}
use Rattle.piece_turn.proofs.LaneLemmas.{complete_stands, same_none}
use Rattle.component_store.specs.Component.{Piece}
use Rattle.component_turn.specs.Lanes.{Came, Retained, IsFound}

-- Each promise of a piece is a name of its part.
pub part_has_promise : (stem : Name) (digits : List ℕ) → is_part stem (promising stem digits) ≡ true
part_has_promise stem digits = so_right (bytes_eq stem (promising stem digits)) (begins (stem ++ 46 ∷ []) (promising stem digits))
    (subst (λ (n : Name). begins (stem ++ 46 ∷ []) n ≡ true) (sym dotted) (begins_all (stem ++ 46 ∷ []) (64 ∷ digits)))
  where
    dotted : promising stem digits ≡ (stem ++ 46 ∷ []) ++ (64 ∷ digits)
    dotted = append_assoc stem (46 ∷ 64 ∷ []) digits ∙ sym (append_assoc stem (46 ∷ []) (64 ∷ digits))

-- ---- what a piece is told by the names of its part alone
module _ (stem : Name) (image one : Image) (same : Agree (is_part stem) image one) where
  promises_there : (digits : List ℕ) (bytes : Bytes) → Promises stem image digits bytes → Promises stem one digits bytes
  promises_there digits bytes p = record { number = p.number; count = p.count; file = p.file; stands = sym (same (promising stem digits) (part_has_promise stem digits)) ∙ p.stands; front = p.front }

  promises_here : (digits : List ℕ) (bytes : Bytes) → Promises stem one digits bytes → Promises stem image digits bytes
  promises_here digits bytes p = record { number = p.number; count = p.count; file = p.file; stands = same (promising stem digits) (part_has_promise stem digits) ∙ p.stands; front = p.front }

  pub piece_local : (all : Option Bytes) → PieceSound all stem one → PieceSound all stem image
  piece_local all sound = record {
    complete = subst (λ (o : Option Bytes). IfStands o (λ file. all ≡ Some file)) (sym (same stem (part_has_stem stem))) sound.complete;
    promised = λ digits bytes is. sound.promised digits bytes (promises_there digits bytes is);
  }

  pub promise_there : (bytes : Bytes) → IsPromise stem image bytes → IsPromise stem one bytes
  promise_there bytes (inl whole) = inl (sym (same stem (part_has_stem stem)) ∙ whole)
  promise_there bytes (inr part) = inr (record {
    part = sym (same stem (part_has_stem stem)) ∙ part.part;
    promised = ⊎_elim (λ none. inl none) (λ some. inr (some.0, promises_there some.0 bytes some.1)) part.promised;
    greatest = λ digits other p. part.greatest digits other (promises_here digits other p);
  })

-- ---- a lane that was opened
module _ {old : World} {number : ℕ} {stem : Name} {lane : Seen} (opens : Opens old number stem lane) (t : IsTrue lane.world.tells) where
  -- It finds its piece as the part's names tell.
  pub opened_found : IsFound stem old.story.now lane.complete lane.promised
  opened_found =
      let told = opens.told t in
      record {
        whole = subst (λ (s : Name). lane.complete ≡ is_some (old.story.now.live s)) opens.named told.complete;
        first = λ bytes is. opens.promised ∙ sym (told.has.current opens.ready).1
            ∙ ap length (one_promise stem (reads old.story.now) told.bytes bytes (subst (λ (s : Name). IsPromise s (reads old.story.now) told.bytes) opens.named told.promise) is);
      }

  -- Where nothing was pending and the piece was sound, it is one that a crew may run.
  pub opened_sound : {all : Option Bytes} → IsSettled old.story.now → PieceSound all stem (reads old.story.now) → IsSoundLane all old.story.now lane
  opened_sound {all} settled sound =
      let told = opens.told t in
      let entered : PieceSound all lane.stem (reads old.story.now) = subst (λ (s : Name). PieceSound all s (reads old.story.now)) (sym opens.named) sound in
      record {
        bytes = told.bytes;
        has = told.has;
        since = told.since settled;
        first = promised_first all lane.stem old.story.now told.bytes entered told.promise;
        whole = λ is. promised_all all lane.stem old.story.now told.bytes entered told.promise (sym told.complete ∙ is);
        entered = entered;
      }

  pub opened_through : {all : Option Bytes} → IsSettled old.story.now → PieceSound all stem (reads old.story.now) → Through old.story lane.world.story (PieceSound all stem)
  opened_through {all} settled sound =
      subst (λ (s : Name). Through old.story lane.world.story (PieceSound all s)) opens.named
      (weaker ((opens.told t).moments settled).sound (λ image one. one all (subst (λ (s : Name). PieceSound all s (reads old.story.now)) (sym opens.named) sound)))

  pub opened_kept : IsSettled old.story.now → Through old.story lane.world.story (NoLess (reads old.story.now) stem)
  opened_kept settled =
      subst (λ (s : Name). Through old.story lane.world.story (NoLess (reads old.story.now) s)) opens.named
      (weaker ((opens.told t).moments settled).promise (λ image one first promise is also. (one first is).no_less first promise is also))

-- A lane is as it was opened.
pub as_opened : {old : World} {number : ℕ} {stem : Name} {lane : Seen} → Opens old number stem lane → IsAsOpened lane
as_opened opens = record { ready = opens.ready; promised = opens.promised }

-- ---- a lane that is back: the same piece's, and what was there is kept
pub record IsBack (old new : Seen) : Type 0 where
  pub same : IsSamePiece old new
  pub keeps : IsTrue new.world.tells → KeepsLane old new

-- one that no worker began
pub idle_back : (lane : Seen) → IsAsOpened lane → IsBack lane lane
idle_back lane opened = record {
  same = same_none lane;
  keeps = λ t. record {
    has = λ bytes has. ([], subst (Has lane) (sym (append-nil bytes)) has);
    stands = λ bytes has is. complete_stands has opened.ready is;
    kept = λ entry bytes since. begun lane.world.story (NoLess (reads entry) lane.stem) (λ image may. (since.kept image may).no_less);
  };
}

pub idle_sound : (all : Option Bytes) (lane : Seen) → StaysSound all lane lane
idle_sound all lane entry r = begun lane.world.story (PieceSound all lane.stem) (λ image may. (r.since.kept image may).sound all r.first r.whole r.entered)

module _ {old : World} {number : ℕ} {stem : Name} {lane back : Seen} (opens : Opens old number stem lane) (is_back : IsBack lane back) where
  pub came_back : (piece : Piece) → piece.stem ≡ stem → (IsTrue back.world.tells → StaysSound piece.all lane back) → Came piece old back.world
  came_back piece named sound = record {
    stays = stays_both opens.folder is_back.same.folder;
    sound = λ t settled was.
        let u = is_back.same.folder.tells t in
        let here : PieceSound piece.all stem (reads old.story.now) = subst (λ (s : Name). PieceSound piece.all s (reads old.story.now)) named was in
        subst (λ (s : Name). Through old.story back.world.story (PieceSound piece.all s)) (sym named)
        (joined (opened_through opens u settled here)
        (subst (λ (s : Name). Through lane.world.story back.world.story (PieceSound piece.all s)) opens.named (sound t old.story.now (opened_sound opens u settled here))));
  }

  pub retained_back : Retained stem old back.world
  retained_back = record {
    stays = stays_both opens.folder is_back.same.folder;
    kept = λ t settled.
        let u = is_back.same.folder.tells t in
        let told = opens.told u in
        joined (opened_kept opens u settled)
        (subst (λ (s : Name). Through lane.world.story back.world.story (NoLess (reads old.story.now) s)) opens.named ((is_back.keeps t).kept old.story.now told.bytes (told.since settled)));
  }

  -- Where it is complete its complete name stands.
  pub back_stands : IsTrue back.world.tells → back.complete ≡ true → IsSome (back.world.story.now.live stem)
  back_stands t is =
      let told = opens.told (is_back.same.folder.tells t) in
      subst (λ (s : Name). IsSome (back.world.story.now.live s)) (is_back.same.stem ∙ opens.named) ((is_back.keeps t).stands told.bytes told.has is)

-- ---- parts without a lane
pub came_refused : (piece : Piece) {old new : World} {fault : StoreFault} → NotOpened piece.stem old new fault → Came piece old new
came_refused piece refused = record { stays = refused.folder; sound = λ t settled sound. weaker (refused.moments t settled).sound (λ image one. one piece.all sound) }

pub came_untried : (piece : Piece) (old : World) → Came piece old old
came_untried piece old = record {
  stays = stays_none old;
  sound = λ t settled sound. begun old.story (PieceSound piece.all piece.stem) (λ image may. subst (PieceSound piece.all piece.stem) (sym (entry_images old.story.now settled image may)) sound);
}

pub retained_refused : {stem : Name} {old new : World} {fault : StoreFault} → NotOpened stem old new fault → Retained stem old new
retained_refused refused = record {
  stays = refused.folder;
  kept = λ t settled. weaker (refused.moments t settled).promise (λ image one first promise is also. (one first is).no_less first promise is also);
}

pub retained_untried : (stem : Name) (old : World) → Retained stem old old
retained_untried stem old = record {
  stays = stays_none old;
  kept = λ t settled. begun old.story (NoLess (reads old.story.now) stem) (λ image may first promise is also. (entry_kept stem old.story.now first true settled is image may).no_less first promise is also);
}
