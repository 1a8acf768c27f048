-- What tries leave of a lane: its bytes, its promises, and its images.
use Rattle.std.proofs.Common.{◌≡◌, inl, inr, ⊎_elim, Bool, true, IsTrue, ◌++◌, length, refl, sym, ◌∙◌, ap, subst, arith}
use Rattle.std.specs.Prelude.{Option, Some, None, IsSome, is_some, if◌then◌else◌}
use Rattle.std.proofs.lemmas.List.{append-nil}
use Rattle.folder_base.specs.Disk.{Name, Bytes, File, Disk}
use Rattle.folder_base.specs.Story.{Through}
use Rattle.folder_base.proofs.Moments.{weaker}
use Rattle.keep_store.specs.Promise.{AreFirst, PieceSound, IsNameOf, promise_name}
use Rattle.keep_store.specs.Safe.{reads}
use Rattle.keep_store.specs.Lane.{Seen, Has, Since, Took, Finishes, current_name}
use Rattle.keep_store.specs.TookLaws.{stays_none, stays_both, refusal_later, refusal_sooner}
use Rattle.piece_turn.specs.Lane.{IsSoundLane, NoLess, IsSamePiece}

-- With more of the world's bytes the lane is a sound one still,
abbrev pub took_sound : {all : Option Bytes} {entry : Disk} {old new : Seen} {bytes : Bytes} → Took old bytes new → IsTrue new.world.tells → (r : IsSoundLane all entry old) → AreFirst all (r.bytes ++ bytes) → IsSoundLane all entry new
took_sound {all} {entry} {old} {new} {bytes} took t r first =
    let keeps = took.keeps t entry r.bytes r.since in
    record {
      bytes = r.bytes ++ bytes;
      has = took.has t r.bytes r.has;
      since = subst (λ (c : Bool). Since c new entry (r.bytes ++ bytes)) (sym took.complete) keeps.since;
      first = first;
      whole = λ is. let was = sym took.complete ∙ is in r.whole was ∙ ap (λ (b : Bytes). Some b) (sym (append-nil r.bytes) ∙ ap (λ (b : Bytes). r.bytes ++ b) (sym (took.full was)));
      entered = subst (λ (s : Name). PieceSound all s (reads entry)) (sym took.stem) r.entered;
    }

-- and each image on the way is sound.
pub took_through : {all : Option Bytes} {entry : Disk} {old new : Seen} {bytes : Bytes} → Took old bytes new → IsTrue new.world.tells → (r : IsSoundLane all entry old) → AreFirst all (r.bytes ++ bytes) → Through old.world.story new.world.story (PieceSound all old.stem)
took_through {all} {entry} {old} {new} {bytes} took t r first =
    weaker (took.keeps t entry r.bytes r.since).moments (λ image kept. kept.sound all first
    (λ was. r.whole was ∙ ap (λ (b : Bytes). Some b) (sym (append-nil r.bytes) ∙ ap (λ (b : Bytes). r.bytes ++ b) (sym (took.full was)))) r.entered)

-- So is each on the way of a lane that has all the world's bytes and is finished.
pub finished_through : {all : Option Bytes} {entry : Disk} {old new : Seen} → Finishes old new → IsTrue new.world.tells → (r : IsSoundLane all entry old) → all ≡ Some r.bytes → Through old.world.story new.world.story (PieceSound all old.stem)
finished_through {all} {entry} {old} {new} finishes t r is =
    weaker (finishes.moments t entry r.bytes r.since) (λ image kept. kept.sound all r.first (λ whole. is) r.entered)

-- A lane without a fault has as many bytes as it says.
pub has_size : {lane : Seen} {bytes : Bytes} → Has lane bytes → lane.fault ≡ None → length bytes ≡ lane.size
has_size has none = (has.current none).1

-- A complete lane without a fault stands under its complete name.
pub complete_stands : {lane : Seen} {bytes : Bytes} → Has lane bytes → lane.fault ≡ None → lane.complete ≡ true → IsSome (lane.world.story.now.live lane.stem)
complete_stands {lane} {bytes} has none complete =
    let named : has.name ≡ lane.stem = (has.current none).0 ∙ by lane complete in
    ap (λ (o : Option File). is_some o) (ap lane.world.story.now.live (sym named) ∙ has.lies.stands)
  where
    by : (lane : Seen) → lane.complete ≡ true → current_name lane ≡ lane.stem
    by lane is = ap (λ (b : Bool). if b then lane.stem else promise_name lane.stem lane.promised) is

-- ---- the same piece, over some calls

pub same_none : (lane : Seen) → IsSamePiece lane lane
same_none lane = record { number = refl; stem = refl; folder = stays_none lane.world; others = λ t name not. refl; later = omega arith; cause = λ fault is. inl is }

pub same_both : {first second third : Seen} → IsSamePiece first second → IsSamePiece second third → IsSamePiece first third
same_both {first} {second} {third} a b = record {
  number = b.number ∙ a.number;
  stem = b.stem ∙ a.stem;
  folder = stays_both a.folder b.folder;
  others = λ t name not. b.others t name (λ is. not (subst (λ (s : Name). IsNameOf s name) a.stem is)) ∙ a.others (b.folder.tells t) name not;
  later = omega (arith, a.later, b.later);
  cause = λ fault is. ⊎_elim
      (λ held. ⊎_elim (λ old. inl old) (λ one. inr (refusal_sooner b.folder one)) (a.cause fault held))
      (λ two. inr (refusal_later a.folder two)) (b.cause fault is);
}

pub same_took : {old new : Seen} {bytes : Bytes} → Took old bytes new → IsSamePiece old new
same_took took = record { number = took.number; stem = took.stem; folder = took.folder; others = took.others; later = took.later; cause = took.cause }

pub same_finished : {old new : Seen} → Finishes old new → IsSamePiece old new
same_finished fin = record { number = fin.number; stem = fin.stem; folder = fin.folder; others = fin.others; later = fin.later; cause = fin.cause }

-- ---- no promise gets less

-- over puts and checkpoints
pub took_no_less : {old new : Seen} {bytes : Bytes} → Took old bytes new → IsTrue new.world.tells → (entry : Disk) (before : Bytes) → Since old.complete old entry before → Through old.world.story new.world.story (NoLess (reads entry) old.stem)
took_no_less took t entry before since = weaker (took.keeps t entry before since).moments (λ image kept. kept.no_less)

-- and over the finish
pub finished_no_less : {old new : Seen} → Finishes old new → IsTrue new.world.tells → (entry : Disk) (before : Bytes) → Since old.complete old entry before → Through old.world.story new.world.story (NoLess (reads entry) old.stem)
finished_no_less fin t entry before since = weaker (fin.moments t entry before since) (λ image kept. kept.no_less)

-- The bytes of a lane since it was opened, with what was taken since.
pub since_took : {old new : Seen} {bytes : Bytes} → Took old bytes new → IsTrue new.world.tells → (entry : Disk) (before : Bytes) → Since old.complete old entry before → Since new.complete new entry (before ++ bytes)
since_took {old} {new} {bytes} took t entry before since = subst (λ (c : Bool). Since c new entry (before ++ bytes)) (sym took.complete) (took.keeps t entry before since).since
