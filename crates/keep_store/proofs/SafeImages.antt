-- What a crash leaves of a lane keeps its promise.
use Rattle.std.proofs.Common.{◌≡◌, ◌⊎◌, inl, inr, ⊎_elim, ℕ, ◌≤◌, Bool, true, List, [], ◌∷◌, ◌++◌, length, take, drop, refl, sym, ◌∙◌, ap, subst, arith, append_assoc, length-append, length-take, take-append-drop}
use Rattle.std.specs.Prelude.{Option, Some, None, option_map, option_and_then, unwrap_or}
use Rattle.std.proofs.lemmas.List.{append-nil, take_at, take_all, take-take, length-take-le}
use Rattle.std.proofs.lemmas.Option.{same_Some}
use Rattle.folder_base.specs.Disk.{Name, Bytes, File, Spot, still, lost, Spots, Disk, Image, content, MayHold, MayBe, spot_file, Leaves, LeavesAny, earlier, May}
use Rattle.folder_base.proofs.Images.{same_or_not, none_is}
use Rattle.keep_store.specs.Promise.{number_of, promising, IsFront, IsPromise, IsPartPromise, Promises, PieceSound, AreFirst, IfStands}
use Rattle.keep_store.specs.Safe.{reads, MayName, IsSpot, AllEarlier, Safe, Kept}
use Rattle.keep_store.proofs.Numerals.{same_digits, same_promising, not_whole}

-- A crash leaves just the bytes of a file that is synced.
pub settled_is : (o : Option File) (b : Option Bytes) → option_and_then (λ (file : File). file.more) o ≡ None → MayBe o b → b ≡ option_map content o
settled_is None b h may = none_is b may
settled_is (Some file) None h may = absurd may
settled_is (Some file) (Some bytes) h may = ap (λ (b : Bytes). Some b) (subst (λ (more : Option Bytes). MayHold more file.sure bytes) h may ∙ sym (append-nil file.sure) ∙ ap (λ (more : Option Bytes). file.sure ++ unwrap_or more []) (sym h))

holds_sure : (more : Option Bytes) (sure bytes : Bytes) → MayHold more sure bytes → take (length sure) bytes ≡ sure
holds_sure None sure bytes h = ap (λ (b : Bytes). take (length sure) b) h ∙ take_all (length sure) sure (omega arith)
holds_sure (Some more) sure bytes h = h

-- what is left of the lane's file
record Left (file : File) (o : Option Bytes) : Type 0 where
  bytes : Bytes
  is : o ≡ Some bytes
  may : MayHold file.more file.sure bytes

left_of : (file : File) (o : Option Bytes) → MayBe (Some file) o → Left file o
left_of file None may = absurd may
left_of file (Some bytes) may = record { bytes = bytes; is = refl; may = may }

-- the front of a file whose first bytes are lasting
front_sure : (front rest bytes sure more : Bytes) → bytes ≡ front ++ rest → take (length sure) bytes ≡ sure → length front ≤ length sure → IsFront front (sure ++ more)
front_sure front rest bytes sure more is holds le = (
  drop (length front) sure ++ more,
  ap (λ (b : Bytes). b ++ more) (sym (take-append-drop (length front) sure) ∙ ap (λ (b : Bytes). b ++ drop (length front) sure) same)
      ∙ append_assoc front (drop (length front) sure) more,
)
  where
    same : take (length front) sure ≡ front
    same = ap (take (length front)) (sym holds) ∙ take-take (length front) (length sure) bytes le ∙ ap (take (length front)) is ∙ take_at front rest (length front) refl

pub same_front : (a b r s : Bytes) → length a ≡ length b → a ++ r ≡ b ++ s → a ≡ b
same_front a b r s long same = sym (take_at a r (length a) refl) ∙ ap (take (length a)) same ∙ take_at b s (length a) (sym long)

pub front_long : (front bytes : Bytes) → IsFront front bytes → length front ≤ length bytes
front_long front bytes is = omega (arith, ap length is.1, length-append front is.0)

-- Two promises of one image are as long.
pub no_longer : (stem : Name) (image : Image) (a b : Bytes) → IsPromise stem image a → IsPromise stem image b → length a ≤ length b
no_longer stem image a b (inl is) (inl also) = omega (arith, ap length (same_Some a b (sym is ∙ also)))
no_longer stem image a b (inl is) (inr also) = absurd (let e : Some a ≡ None = sym is ∙ also.part in cc)
no_longer stem image a b (inr is) (inl also) = absurd (let e : Some b ≡ None = sym also ∙ is.part in cc)
no_longer stem image a b (inr is) (inr also) = ⊎_elim (λ none. omega (arith, ap length none)) (λ some. also.greatest some.0 a some.1) is.promised

module _ (stem current : Name) (entry : Disk) (bytes : Bytes) (complete : Bool) (disk : Disk) (safe : Safe stem current entry bytes complete disk) (image : Image) where
  abbrev Own : Name → Type 0
  Own name = MayName stem entry safe.first safe.file.sure complete name

  -- nothing, what stood there at the start, or the lane's file
  abbrev OneOf : Name → Type 0
  OneOf name = (image name ≡ None) ⊎ ((image name ≡ reads entry name) ⊎ (Own name × Left safe.file (image name)))

  abbrev HasSome : Type 0
  HasSome = ((safe.first ≡ []) × (entry.live stem ≡ None)) ⊎ ((name : Name) × (Own name × Left safe.file (image name)))

  was_here : (name : Name) → MayBe (entry.live name) (image name) → image name ≡ reads entry name
  was_here name may = settled_is (entry.live name) (image name) (safe.settled.synced name) may

  now_shows : Leaves disk.live image → ((name : Name) → OneOf name) × HasSome
  now_shows leaves = (each, inr (current, (safe.here, own current refl)))
    where
      own : (name : Name) → current ≡ name → Left safe.file (image name)
      own name same = left_of safe.file (image name) (subst (λ (o : Option File). MayBe o (image name)) (ap disk.live (sym same) ∙ safe.stands) (leaves name))

      each : (name : Name) → OneOf name
      each name = elim (same_or_not current name) [
        | inl same ↦ inr (inr (subst (λ (n : Name). Own n) same.1 safe.here, own name same.1))
        | inr apart ↦ ⊎_elim (λ none. inl (none_is (image name) (subst (λ (o : Option File). MayBe o (image name)) none (leaves name))))
            (λ is. inr (inl (was_here name (subst (λ (o : Option File). MayBe o (image name)) is (leaves name))))) (safe.others name apart)
      ]

  spot_shows : (name : Name) (spot : Option Spot) → IsSpot current (λ n. MayName stem entry safe.first safe.file.sure complete n) disk.live name (entry.live name) spot → MayBe (option_and_then (spot_file disk.live) spot) (image name) → OneOf name
  spot_shows name None is may = inl (none_is (image name) may)
  spot_shows name (Some (lost gone)) is may = inr (inl (was_here name (subst (λ (o : Option File). MayBe o (image name)) (sym is) may)))
  spot_shows name (Some (still other)) (inl is) may = inr (inr (is.1, left_of safe.file (image name) (subst (λ (o : Option File). MayBe o (image name)) (ap disk.live (sym is.0) ∙ safe.stands) may)))
  spot_shows name (Some (still other)) (inr is) may = inr (inl (was_here name (subst (λ (o : Option File). MayBe o (image name)) is.1 may)))

  earlier_shows : (back : List Spots) → AllEarlier stem current entry safe.first safe.file.sure complete disk.live back → LeavesAny disk.live back image → ((name : Name) → OneOf name) × HasSome
  earlier_shows [] all h = absurd h
  earlier_shows (spots ∷ back) all (inr h) = earlier_shows back all.1 h
  earlier_shows (spots ∷ back) all (inl h) = (
    λ name. spot_shows name (spots name) (all.0.each name) (h name),
    ⊎_elim (λ none. inl none) (λ some. inr (
      some.0,
      (
        some.1.0,
        left_of safe.file (image some.0)
            (subst (λ (o : Option File). MayBe o (image some.0)) (ap (option_and_then (spot_file disk.live)) some.1.1 ∙ safe.stands) (h some.0)),
      ),
    )) all.0.some,
  )

  shows : May disk image → ((name : Name) → OneOf name) × HasSome
  shows (inl (inl h)) = now_shows h
  shows (inl (inr h)) = absurd (subst (λ (l : List Spots). LeavesAny disk.live l image) safe.loose h)
  shows (inr (inl h)) = earlier_shows (earlier disk.back) safe.back h
  shows (inr (inr h)) = absurd (subst (λ (l : List Spots). LeavesAny disk.live l image) safe.mixed h)

  whole_is : (b : Bytes) → complete ≡ true → MayHold safe.file.more safe.file.sure b → b ≡ bytes
  whole_is b done may = subst (λ (f : File). MayHold f.more f.sure b) (safe.whole done) may

  -- the promise's bytes of a name that the lane's file has
  own_front : (name : Name) (digits : List ℕ) (promise : Bytes) → name ≡ promising stem digits → Own name → Left safe.file (image name) → Promises stem image digits promise → IsFront promise bytes
  own_front name digits promise is (inr whole) left stands = absurd (not_whole stem digits (sym is ∙ whole.1))
  own_front name digits promise is (inl lasting) left stands =
      subst (λ (b : Bytes). IsFront promise b) safe.reads_as
      (front_sure promise stands.front.0 left.bytes safe.file.sure (unwrap_or safe.file.more [])
      (same_Some left.bytes stands.file (sym left.is ∙ ap image is ∙ stands.stands) ∙ stands.front.1)
      (holds_sure safe.file.more safe.file.sure left.bytes left.may)
      (let same : digits ≡ lasting.digits = same_promising stem digits lasting.digits (sym is ∙ lasting.is) in omega (arith, stands.count, lasting.most, ap number_of same)))

  -- a name that the lane's file has promises no fewer bytes than at the start
  own_promises : (name : Name) (promise : Bytes) → IsPartPromise stem image promise → Own name → Left safe.file (image name) → length safe.first ≤ length promise
  own_promises name promise part (inr whole) left = absurd (let e : Some left.bytes ≡ None = sym left.is ∙ ap image whole.1 ∙ part.part in cc)
  own_promises name promise part (inl lasting) left =
      omega (arith, lasting.least, count, part.greatest lasting.digits (take (number_of lasting.digits) left.bytes) stands)
    where
      long : length safe.file.sure ≤ length left.bytes
      long = omega (arith, ap length (holds_sure safe.file.more safe.file.sure left.bytes left.may), length-take (length safe.file.sure) left.bytes)

      count : length (take (number_of lasting.digits) left.bytes) ≡ number_of lasting.digits
      count = length-take-le (number_of lasting.digits) left.bytes (omega (arith, long, lasting.most))

      stands : Promises stem image lasting.digits (take (number_of lasting.digits) left.bytes)
      stands = record {
        number = lasting.number;
        count = count;
        file = left.bytes;
        stands = ap image (sym lasting.is) ∙ left.is;
        front = (drop (number_of lasting.digits) left.bytes, sym (take-append-drop (number_of lasting.digits) left.bytes));
      }

  module _ (each : (name : Name) → OneOf name) (some : HasSome) where
    no_less : (promise : Bytes) → IsPromise stem image promise → length safe.first ≤ length promise
    no_less promise (inl whole) = ⊎_elim (λ none. absurd (let e : Some promise ≡ None = sym whole ∙ none in cc))
        (λ other. ⊎_elim (λ was. no_longer stem (reads entry) safe.first promise safe.promised (inl (sym was ∙ whole)))
        (λ own. all_of own.0 own.1) other) (each stem)
      where
        all_of : Own stem → Left safe.file (image stem) → length safe.first ≤ length promise
        all_of (inl lasting) left = absurd (not_whole stem lasting.digits (sym lasting.is))
        all_of (inr is) left =
            let same : promise ≡ bytes = same_Some promise left.bytes (sym whole ∙ left.is) ∙ whole_is left.bytes is.0 left.may in
            omega (arith, front_long safe.first bytes safe.grown, ap length same)
    no_less promise (inr part) = ⊎_elim (λ none. omega (arith, ap length none.0)) (λ own. own_promises own.0 promise part own.1.0 own.1.1) some

    part_front : (promise : Bytes) (part : IsPartPromise stem image promise) (digits : List ℕ) → Promises stem image digits promise → IsFront promise bytes
    part_front promise part digits stands = ⊎_elim (λ none. absurd (let e : Some stands.file ≡ None = sym stands.stands ∙ none in cc))
        (λ other. ⊎_elim (λ was. from_start (record { number = stands.number; count = stands.count; file = stands.file; stands = sym was ∙ stands.stands; front = stands.front }))
        (λ own. own_front (promising stem digits) digits promise refl own.0 own.1 stands) other) (each (promising stem digits))
      where
        same_as_first : (at : List ℕ) → Promises stem (reads entry) digits promise → Promises stem (reads entry) at safe.first → length promise ≡ length safe.first → promise ≡ safe.first
        same_as_first at one two long =
            let same : digits ≡ at = same_digits digits at one.number two.number (omega (arith, one.count, two.count, long)) in
            same_front promise safe.first one.front.0 two.front.0 long
            (sym one.front.1 ∙ same_Some one.file two.file (sym one.stands ∙ ap (λ (d : List ℕ). reads entry (promising stem d)) same ∙ two.stands) ∙ two.front.1)

        as_first : IsPromise stem (reads entry) safe.first → Promises stem (reads entry) digits promise → IsFront promise bytes
        as_first (inr start) one = ⊎_elim
            (λ none. subst (λ (b : Bytes). IsFront b bytes) (sym (no_bytes promise (omega (arith, long start, ap length none)))) (bytes, refl))
            (λ two. subst (λ (b : Bytes). IsFront b bytes) (sym (same_as_first two.0 one two.1 (omega (arith, long start, no_less promise (inr part))))) safe.grown)
            start.promised
          where
            long : IsPartPromise stem (reads entry) safe.first → length promise ≤ length safe.first
            long start = start.greatest digits promise one

            no_bytes : (b : Bytes) → length b ≤ 0 → b ≡ []
            no_bytes [] le = refl
            no_bytes (c ∷ b) le = absurd (omega arith)
        as_first (inl whole) one = absurd (⊎_elim (λ none. start_stands none.1) (λ own. never own.0 own.1.0 own.1.1) some)
          where
            start_stands : entry.live stem ≡ None → ⊥
            start_stands none = let e : Some safe.first ≡ None = sym whole ∙ ap (option_map content) none in cc

            never : (name : Name) → Own name → Left safe.file (image name) → ⊥
            never name (inl lasting) left = start_stands lasting.part
            never name (inr is) left = let e : Some left.bytes ≡ None = sym left.is ∙ ap image is.1 ∙ part.part in cc

        from_start : Promises stem (reads entry) digits promise → IsFront promise bytes
        from_start one = as_first safe.promised one

    front : (promise : Bytes) → IsPromise stem image promise → IsFront promise bytes
    front promise (inr part) = ⊎_elim (λ none. subst (λ (b : Bytes). IsFront b bytes) (sym none) (bytes, refl)) (λ some. part_front promise part some.0 some.1) part.promised
    front promise (inl whole) = ⊎_elim (λ none. absurd (let e : Some promise ≡ None = sym whole ∙ none in cc))
        (λ other. ⊎_elim (λ was. from_start was safe.promised) (λ own. all_of own.0 own.1) other) (each stem)
      where
        from_start : image stem ≡ reads entry stem → IsPromise stem (reads entry) safe.first → IsFront promise bytes
        from_start was (inl start) = subst (λ (b : Bytes). IsFront b bytes) (same_Some safe.first promise (sym start ∙ sym was ∙ whole)) safe.grown
        from_start was (inr part) = absurd (let e : Some promise ≡ None = sym whole ∙ was ∙ part.part in cc)

        all_of : Own stem → Left safe.file (image stem) → IsFront promise bytes
        all_of (inl lasting) left = absurd (not_whole stem lasting.digits (sym lasting.is))
        all_of (inr is) left = ([], sym (append-nil promise ∙ same_Some promise left.bytes (sym whole ∙ left.is) ∙ whole_is left.bytes is.0 left.may))

    module _ (all : Option Bytes) (first : AreFirst all bytes) (whole_all : complete ≡ true → all ≡ Some bytes) (was : PieceSound all stem (reads entry)) where
      sound_whole : (o : Option Bytes) → image stem ≡ o → OneOf stem → IfStands o (λ file. all ≡ Some file)
      sound_whole None e is = tt
      sound_whole (Some file) e (inl none) = absurd (let x : Some file ≡ None = sym e ∙ none in cc)
      sound_whole (Some file) e (inr (inl same)) = subst (λ (o : Option Bytes). IfStands o (λ file. all ≡ Some file)) (sym same ∙ e) was.complete
      sound_whole (Some file) e (inr (inr own)) = all_of own.0 own.1
        where
          all_of : Own stem → Left safe.file (image stem) → all ≡ Some file
          all_of (inl lasting) left = absurd (not_whole stem lasting.digits (sym lasting.is))
          all_of (inr is) left = whole_all is.0 ∙ ap (λ (b : Bytes). Some b) (sym (same_Some file left.bytes (sym e ∙ left.is) ∙ whole_is left.bytes is.0 left.may))

      front_first : (o : Option Bytes) (promise : Bytes) → AreFirst o bytes → IsFront promise bytes → AreFirst o promise
      front_first None promise none is = empty promise (omega (arith, front_long promise bytes is, ap length none))
        where
          empty : (b : Bytes) → length b ≤ 0 → b ≡ []
          empty [] le = refl
          empty (c ∷ b) le = absurd (omega arith)
      front_first (Some world) promise some is = (is.0 ++ some.0, some.1 ∙ ap (λ (b : Bytes). b ++ some.0) is.1 ∙ append_assoc promise is.0 some.0)

      sound_part : (digits : List ℕ) (promise : Bytes) → Promises stem image digits promise → AreFirst all promise
      sound_part digits promise stands = ⊎_elim (λ none. absurd (let e : Some stands.file ≡ None = sym stands.stands ∙ none in cc))
          (λ other. ⊎_elim
          (λ same. was.promised digits promise (record { number = stands.number; count = stands.count; file = stands.file; stands = sym same ∙ stands.stands; front = stands.front }))
          (λ own. front_first all promise first (own_front (promising stem digits) digits promise refl own.0 own.1 stands)) other) (each (promising stem digits))

      sound : PieceSound all stem image
      sound = record { complete = sound_whole (image stem) refl (each stem); promised = sound_part }

  -- Each image keeps the promise, and agrees with the world where the lane's bytes do.
  pub safe_kept : May disk image → Kept stem entry bytes complete image
  safe_kept may = let both = shows may in record {
    front = front both.0 both.1;
    no_less = λ first promise start is. omega (arith, no_longer stem (reads entry) first safe.first start safe.promised, no_less both.0 both.1 promise is);
    sound = sound both.0 both.1;
  }
