-- Runs of puts: none, two in turn, and what they may be refused for.
use Rattle.std.proofs.Common.{◌≡◌, ◌⊎◌, inl, inr, ⊎_elim, Bool, true, IsTrue, [], ◌∷◌, ◌++◌, refl, sym, ◌∙◌, ap, subst, arith, append_assoc}
use Rattle.std.specs.Prelude.{Option, Some, None, IsSome, MatchOption}
use Rattle.std.proofs.lemmas.List.{append-nil}
use Rattle.folder_base.specs.Disk.{Name, Bytes, Disk, Image}
use Rattle.folder_base.specs.Story.{World, Through}
use Rattle.folder_base.specs.Took.{RefusesOnlyMemory}
use Rattle.folder_base.specs.declared.store_fault.StoreFault.{StoreFault}
use Rattle.folder_base.specs.declared.store_fault.StoreFault.TheVariants.{Folder, OutOfMemory}
use Rattle.folder_base.proofs.Moments.{begun, joined, weaker}
use Rattle.text_base.specs.Causes.{Rose}
use Rattle.text_base.specs.declared.faults.FolderCall.{FolderCall}
use Rattle.keep_store.specs.Promise.{AreFirst, IsNameOf}
use Rattle.keep_store.specs.Publish.{Stays, FailedBetween, MayRefuse}
use Rattle.keep_store.specs.Safe.{Kept}
use Rattle.keep_store.specs.Lane.{Seen, Has, Since, Keeps, IsRefusal, Took, MayAnswer}

-- A folder that nothing was asked of stays so.
pub stays_none : (world : World) → Stays world world
stays_none world = record { tells = λ h. h; still_tells = λ h. h; steady = λ h. h; faults = omega arith; refusals = omega arith; part = refl; out = refl }

-- Two calls in turn leave of a folder what each of them does.
pub stays_both : {first second third : World} → Stays first second → Stays second third → Stays first third
stays_both a b = record {
  tells = λ h. a.tells (b.tells h);
  still_tells = λ h. b.still_tells (a.still_tells h);
  steady = λ h. b.steady (a.steady h);
  faults = omega (arith, a.faults, b.faults);
  refusals = omega (arith, a.refusals, b.refusals);
  part = b.part ∙ a.part;
  out = b.out ∙ a.out;
}

-- A fault of a later call, or of an earlier one.
pub refuse_later : (first second third : World) (fault : StoreFault) → Stays first second → MayRefuse second third fault → MayRefuse first third fault
refuse_later first second third (Folder call) stays failed =
    record { before = failed.before; after = failed.after; earlier = stays_both stays failed.earlier; fails = failed.fails; later = failed.later }
refuse_later first second third OutOfMemory stays rose = omega (arith, rose, stays.refusals)

-- A fault of an earlier call is one of both calls in turn.
refuse_sooner : (first second third : World) (fault : StoreFault) → Stays second third → MayRefuse first second fault → MayRefuse first third fault
refuse_sooner first second third (Folder call) stays failed =
    record { before = failed.before; after = failed.after; earlier = failed.earlier; fails = failed.fails; later = stays_both failed.later stays }
refuse_sooner first second third OutOfMemory stays rose = omega (arith, rose, stays.refusals)

-- A refusal in the second of two runs is one in both in turn.
pub refusal_later : {first second third : World} {fault : StoreFault} → Stays first second → IsRefusal second third fault → IsRefusal first third fault
refusal_later {first} {second} {third} {fault} stays is = record { rose = refuse_later first second third fault stays is.rose; steady = λ steady tells. is.steady (stays.steady steady) (stays.still_tells tells) }

-- A refusal in the first of two runs is one in both in turn.
pub refusal_sooner : {first second third : World} {fault : StoreFault} → Stays second third → IsRefusal first second fault → IsRefusal first third fault
refusal_sooner {first} {second} {third} {fault} stays is = record { rose = refuse_sooner first second third fault stays is.rose; steady = is.steady }

-- Where a call of the folder failed its count of faults rose.
pub failed_rose : {call : FolderCall} {old new : World} → FailedBetween call old new → Rose old.faults new.faults
failed_rose failed = omega (arith, failed.earlier.faults, failed.fails.rose, failed.later.faults)

-- With more bytes behind them, what was kept is kept.
pub kept_more : (stem : Name) (entry : Disk) (bytes more : Bytes) (whole : Bool) (image : Image) → (whole ≡ true → more ≡ []) → Kept stem entry bytes whole image → Kept stem entry (bytes ++ more) whole image
kept_more stem entry bytes more whole image none kept = record {
  front = λ promise is. let front = kept.front promise is in (front.0 ++ more, ap (λ (b : Bytes). b ++ more) front.1 ∙ append_assoc promise front.0 more);
  no_less = kept.no_less;
  sound = λ all first of_whole. kept.sound all (fewer all first) (λ is. of_whole is ∙ ap (λ (b : Bytes). Some (bytes ++ b)) (none is) ∙ ap (λ (b : Bytes). Some b) (append-nil bytes));
}
  where
    fewer : (all : Option Bytes) → AreFirst all (bytes ++ more) → AreFirst all bytes
    fewer None none = front_empty bytes none
      where
        front_empty : (b : Bytes) → b ++ more ≡ [] → b ≡ []
        front_empty [] e = refl
        front_empty (c ∷ b) e = absurd (cc)
    fewer (Some world) first = (more ++ first.0, first.1 ∙ append_assoc bytes more first.0)

-- A run of no puts takes nothing.
pub took_none : (lane : Seen) → Took lane [] lane
took_none lane = record {
  number = refl;
  stem = refl;
  complete = refl;
  folder = stays_none lane.world;
  held = λ h. (refl, refl);
  full = λ h. refl;
  later = omega arith;
  others = λ t name not. refl;
  cause = λ fault is. inl is;
  has = λ t before has. subst (λ (b : Bytes). Has lane b) (sym (append-nil before)) has;
  keeps = λ t entry before since. subst (λ (b : Bytes). Keeps lane.complete lane lane entry b) (sym (append-nil before))
      (record { moments = begun lane.world.story (Kept lane.stem entry before lane.complete) since.kept; since = since });
}

module _ (first second third : Seen) (front back : Bytes) (a : Took first front second) (b : Took second back third) where
  after_both : IsTrue third.world.tells → (entry : Disk) (before : Bytes) → Since first.complete first entry before → Keeps first.complete first third entry (before ++ (front ++ back))
  after_both t entry before since =
      let one = a.keeps (b.folder.tells t) entry before since in
      let two = subst (λ (c : Bool). Keeps c second third entry ((before ++ front) ++ back)) a.complete
      (b.keeps t entry (before ++ front) (subst (λ (c : Bool). Since c second entry (before ++ front)) (sym a.complete) one.since)) in
      subst (λ (b : Bytes). Keeps first.complete first third entry b) (append_assoc before front back)
      (record {
        moments = joined (weaker one.moments (λ image kept. kept_more first.stem entry (before ++ front) back first.complete image (λ is. b.full (a.complete ∙ is)) kept))
            (subst (λ (n : Name). Through second.world.story third.world.story (Kept n entry ((before ++ front) ++ back) first.complete)) a.stem two.moments);
        since = two.since;
      })

  either : (fault : StoreFault) → third.fault ≡ Some fault → (first.fault ≡ Some fault) ⊎ IsRefusal first.world third.world fault
  either fault is = ⊎_elim
      (λ held. ⊎_elim (λ old. inl old) (λ one. inr (refusal_sooner b.folder one)) (a.cause fault held))
      (λ two. inr (refusal_later a.folder two)) (b.cause fault is)

  held : IsSome first.fault → (third ≡ first) × (front ++ back ≡ [])
  held is =
      let one = a.held is in
      let two = b.held (subst (λ (lane : Seen). IsSome lane.fault) (sym one.0) is) in
      (two.0 ∙ one.0, (λ i. one.1 i ++ two.1 i))

  pub took_both : Took first (front ++ back) third
  took_both = record {
    number = b.number ∙ a.number;
    stem = b.stem ∙ a.stem;
    folder = stays_both a.folder b.folder;
    held = held;
    full = λ is. (λ i. a.full is i ++ b.full (a.complete ∙ is) i);
    later = omega (arith, a.later, b.later);
    others = λ t name not. b.others t name (λ is. not (subst (λ (s : Name). IsNameOf s name) a.stem is)) ∙ a.others (b.folder.tells t) name not;
    cause = either;
    has = λ t before has. subst (λ (b : Bytes). Has third b) (append_assoc before front back) (b.has t (before ++ front) (a.has (b.folder.tells t) before has));
    keeps = after_both;
    complete = b.complete ∙ a.complete;
  }

-- From a lane on that holds no fault over a steady folder that tells, whatever is put, a put is refused for want of memory alone.
pub refuses_only_memory : {T : Type 0} (seen : T → Seen) (lane : T) → (seen lane).fault ≡ None → IsTrue (seen lane).world.steady → IsTrue (seen lane).world.tells
    → RefusesOnlyMemory (λ old bytes new. Took (seen old) bytes (seen new)) (λ later piece fault. MayAnswer (seen later) fault) lane
refuses_only_memory {T} seen lane none steady tells bytes later took piece fault may = by (seen later).fault refl may
  where
    by : (held : Option StoreFault) → (seen later).fault ≡ held → MatchOption held (IsTrue (seen later).world.steady → IsTrue (seen later).world.tells → fault ≡ OutOfMemory) (λ f. fault ≡ f) → fault ≡ OutOfMemory
    by None is may = may (took.folder.steady steady) (took.folder.still_tells tells)
    by (Some held) is may = may ∙ ⊎_elim (λ old. absurd (let x : Some held ≡ None = sym old ∙ none in cc)) (λ refusal. refusal.steady steady tells) (took.cause held is)
