-- An image of a part and the rest together is one of each.
use Rattle.std.proofs.Common.{◌≡◌, ◌⊎◌, inl, inr, ⊎_elim, Bool, true, false, not, ◌||◌, List, [], ◌∷◌, ◌++◌, map, refl, sym, ◌∙◌, ap, subst}
use Rattle.std.specs.Prelude.{⊤, Option, Some, None, option_map, option_and_then, if◌then◌else◌}
use Rattle.folder_base.specs.Disk.{Name, File, Names, Spot, still, lost, Spots, Older, Disk, Image, content, MayBe, spot_file, as_now, Leaves, LeavesAny, earlier, May, mark}
use Rattle.folder_base.specs.Parts.{own_spot, own_spots, touches, own_back, within, join, join_each, join_all, all_spots, oldest, of_part, of_rest, behind_rest, before_part, joined, together, is_part, is_in_some, Agree}
use Rattle.folder_base.proofs.Images.{marked, content_may, any_append}

-- At its own names, a map that is told anew stands for what it stood for, whatever stands elsewhere.
module _ (mine : Name → Bool) (live all : Names) (same : (name : Name) → mine name ≡ true → all name ≡ live name) where
  spot_owned : (spot : Spot) → option_and_then (spot_file all) (own_spot mine live spot) ≡ spot_file live spot
  spot_owned (lost file) = refl
  spot_owned (still name) = by (mine name) refl
    where
      gone : (o : Option File) → option_and_then (spot_file all) (option_map lost o) ≡ o
      gone None = refl
      gone (Some f) = refl

      by : (b : Bool) → mine name ≡ b → option_and_then (spot_file all) (if b then Some (still name) else option_map lost (live name)) ≡ live name
      by true e = same name e
      by false e = gone (live name)

  option_owned : (o : Option Spot) → option_and_then (spot_file all) (option_and_then (own_spot mine live) o) ≡ option_and_then (spot_file live) o
  option_owned None = refl
  option_owned (Some spot) = spot_owned spot

  pub owned : (spots : Spots) (name : Name) → mine name ≡ true → as_now all (own_spots mine live spots) name ≡ as_now live spots name
  owned spots name e = ap (λ (b : Bool). option_and_then (spot_file all) (if b then option_and_then (own_spot mine live) (spots name) else None)) e ∙ option_owned (spots name)

not_true : (b : Bool) → not b ≡ true → b ≡ false
not_true true e = cc
not_true false e = refl

-- An image that agrees at these names with one that has P.
pub record OneOf (P : Image → Type 0) (mine : Name → Bool) (image : Image) : Type 0 where
  pub one : Image
  pub possible : P one
  pub agrees : Agree mine image one

pub one_weaker : {P Q : Image → Type 0} {mine : Name → Bool} {image : Image} → ((other : Image) → P other → Q other) → OneOf P mine image → OneOf Q mine image
one_weaker weak one = record { one = one.one; possible = weak one.one one.possible; agrees = one.agrees }

-- what is at my names, and what stands whole elsewhere
restricted : (mine : Name → Bool) (names : Names) (image : Image) → ((n : Name) → mine n ≡ true → MayBe (names n) (image n)) → OneOf (Leaves names) mine image
restricted mine names image here = record {
  one = join mine image (λ n. option_map content (names n));
  possible = λ n. by n (mine n) refl;
  agrees = λ n e. sym (ap (λ (b : Bool). if b then image n else option_map content (names n)) e);
}
  where
    by : (n : Name) (b : Bool) → mine n ≡ b → MayBe (names n) (if b then image n else option_map content (names n))
    by n true e = here n e
    by n false e = content_may (names n)

-- a disk's images, by all of its maps
abbrev Any : Disk → Image → Type 0
Any disk = LeavesAny disk.live (all_spots disk)

any_may : (disk : Disk) (image : Image) → Any disk image → May disk image
any_may disk image (inl h) = inl (inl (λ n. subst (λ (o : Option File). MayBe o (image n)) (marked disk.live n) (h n)))
any_may disk image (inr h) = ⊎_elim
    (λ back. inr (inl back))
    (λ rest. ⊎_elim (λ loose. inl (inr loose)) (λ mixed. inr (inr mixed)) (any_append disk.live disk.loose disk.mixed image rest))
    (any_append disk.live (earlier disk.back) (disk.loose ++ disk.mixed) image h)

held_may : (disk : Disk) (image : Image) → LeavesAny disk.live (mark disk.live ∷ disk.loose) image → May disk image
held_may disk image (inl h) = inl (inl (λ n. subst (λ (o : Option File). MayBe o (image n)) (marked disk.live n) (h n)))
held_may disk image (inr h) = inl (inr h)

other_may : (disk : Disk) (image : Image) → LeavesAny disk.live (earlier disk.back ++ disk.mixed) image → May disk image
other_may disk image h = ⊎_elim (λ back. inr (inl back)) (λ mixed. inr (inr mixed)) (any_append disk.live (earlier disk.back) disk.mixed image h)

-- The names before the first change are one of a disk's maps.
oldest_may : (live : Names) (spots : Spots) (back : List Older) (image : Image) → Leaves (as_now live (oldest spots back)) image → LeavesAny live (spots ∷ earlier back) image
oldest_may live spots [] image h = inl h
oldest_may live spots (older ∷ back) image h = inr (oldest_may live older.names back image h)

oldest_is : (disk : Disk) (image : Image) → Leaves (as_now disk.live (oldest (mark disk.live) disk.back)) image → May disk image
oldest_is disk image h = ⊎_elim
    (λ here. inl (inl (λ n. subst (λ (o : Option File). MayBe o (image n)) (marked disk.live n) (here n))))
    (λ back. inr (inl back))
    (oldest_may disk.live (mark disk.live) disk.back image h)

module _ (mine : Name → Bool) (part rest : Disk) where
  abbrev others : Name → Bool
  others = λ n. not (mine n)

  abbrev all : Names
  all = join mine part.live rest.live

  abbrev Both : (Image → Type 0) → (Image → Type 0) → Image → Type 0
  Both P Q image = OneOf P mine image × OneOf Q others image

  all_mine : (n : Name) → mine n ≡ true → all n ≡ part.live n
  all_mine n e = ap (λ (b : Bool). if b then part.live n else rest.live n) e

  all_others : (n : Name) → not (mine n) ≡ true → all n ≡ rest.live n
  all_others n e = ap (λ (b : Bool). if b then part.live n else rest.live n) (not_true (mine n) e)

  module _ (image : Image) where
    split_now : Leaves all image → Both (May part) (May rest) image
    split_now h =
        let a = restricted mine part.live image (λ n e. subst (λ (o : Option File). MayBe o (image n)) (all_mine n e) (h n)) in
        let b = restricted others rest.live image (λ n e. subst (λ (o : Option File). MayBe o (image n)) (all_others n e) (h n)) in
        (record { one = a.one; possible = inl (inl a.possible); agrees = a.agrees }, record { one = b.one; possible = inl (inl b.possible); agrees = b.agrees })

    split_one : (sa sb : Spots) → Leaves (as_now all (join mine (of_part mine part rest sa) (of_rest mine part rest sb))) image → Both (Leaves (as_now part.live sa)) (Leaves (as_now rest.live sb)) image
    split_one sa sb h = (
      restricted mine (as_now part.live sa) image (λ n e. subst (λ (o : Option File). MayBe o (image n))
          (ap (λ (b : Bool). option_and_then (spot_file all) (if b then own_spots mine part.live sa n else own_spots others rest.live sb n)) e ∙ owned mine part.live all all_mine sa n e) (h n)),
      restricted others (as_now rest.live sb) image (λ n e. subst (λ (o : Option File). MayBe o (image n))
          (ap (λ (b : Bool). option_and_then (spot_file all) (if b then own_spots mine part.live sa n else own_spots others rest.live sb n)) (not_true (mine n) e) ∙ owned others rest.live all all_others sb n e) (h n)),
    )

    split_each : (sa : Spots) (bs : List Spots) → LeavesAny all (join_each mine (of_part mine part rest sa) (map (of_rest mine part rest) bs)) image → Both (Leaves (as_now part.live sa)) (LeavesAny rest.live bs) image
    split_each sa [] h = absurd h
    split_each sa (b ∷ bs) (inl h) = let both = split_one sa b h in (both.0, one_weaker (λ other p. inl p) both.1)
    split_each sa (b ∷ bs) (inr h) = let both = split_each sa bs h in (both.0, one_weaker (λ other p. inr p) both.1)

    split_all : (as_ bs : List Spots) → LeavesAny all (join_all mine (map (of_part mine part rest) as_) (map (of_rest mine part rest) bs)) image → Both (LeavesAny part.live as_) (LeavesAny rest.live bs) image
    split_all [] bs h = absurd h
    split_all (a ∷ as_) bs h = ⊎_elim
        (λ front. let both = split_each a bs front in (one_weaker (λ other p. inl p) both.0, both.1))
        (λ back. let both = split_all as_ bs back in (one_weaker (λ other p. inr p) both.0, both.1))
        (any_append all (join_each mine (of_part mine part rest a) (map (of_rest mine part rest) bs)) (join_all mine (map (of_part mine part rest) as_) (map (of_rest mine part rest) bs)) image h)

    split_behind : (back : List Older) → LeavesAny all (earlier (map (behind_rest mine part rest) back)) image → Both (LeavesAny part.live (earlier back)) (Leaves (as_now rest.live (mark rest.live))) image
    split_behind [] h = absurd h
    split_behind (older ∷ back) (inl h) = let both = split_one older.names (mark rest.live) h in (one_weaker (λ other p. inl p) both.0, both.1)
    split_behind (older ∷ back) (inr h) = let both = split_behind back h in (one_weaker (λ other p. inr p) both.0, both.1)

    split_before : (back : List Older) → LeavesAny all (earlier (map (before_part mine part rest) back)) image → Both (Leaves (as_now part.live (oldest (mark part.live) part.back))) (LeavesAny rest.live (earlier back)) image
    split_before [] h = absurd h
    split_before (older ∷ back) (inl h) = let both = split_one (oldest (mark part.live) part.back) older.names h in (both.0, one_weaker (λ other p. inl p) both.1)
    split_before (older ∷ back) (inr h) = let both = split_before back h in (both.0, one_weaker (λ other p. inr p) both.1)

    earlier_append : (front back : List Older) → LeavesAny all (earlier (front ++ back)) image → LeavesAny all (earlier front) image ⊎ LeavesAny all (earlier back) image
    earlier_append [] back h = inr h
    earlier_append (o ∷ front) back (inl h) = inl (inl h)
    earlier_append (o ∷ front) back (inr h) = ⊎_elim (λ a. inl (inr a)) (λ b. inr b) (earlier_append front back h)

    -- An image of both together is one of each.
    pub split : May (joined mine part rest) image → Both (May part) (May rest) image
    split (inl (inl now)) = split_now now
    split (inl (inr loose)) =
        let both = split_all (all_spots part) (mark rest.live ∷ rest.loose) loose in
        (one_weaker (any_may part) both.0, one_weaker (held_may rest) both.1)
    split (inr (inr mixed)) =
        let both = split_all (all_spots part) (earlier rest.back ++ rest.mixed) mixed in
        (one_weaker (any_may part) both.0, one_weaker (other_may rest) both.1)
    split (inr (inl back)) = ⊎_elim
        (λ behind. let both = split_behind part.back behind in
        (one_weaker (λ other p. inr (inl p)) both.0, one_weaker (λ other p. held_may rest other (inl p)) both.1))
        (λ before. let both = split_before rest.back before in
        (one_weaker (oldest_is part) both.0, one_weaker (λ other p. inr (inl p)) both.1))
        (earlier_append (map (behind_rest mine part rest) part.back) (map (before_part mine part rest) rest.back) back)

-- for each part, the image agrees at its names with one that has P
abbrev pub EachOf : (Name → Disk → Image → Type 0) → List (Name × Disk) → Image → Type 0
EachOf P [] image = ⊤
EachOf P (part ∷ parts) image = OneOf (P part.0 part.1) (is_part part.0) image × EachOf P parts image

abbrev pub stems_of : List (Name × Disk) → List Name
stems_of parts = map (λ part. part.0) parts

-- No name is two parts'.
abbrev pub AreDisjoint : List Name → Type 0
AreDisjoint [] = ⊤
AreDisjoint (stem ∷ stems) = ((name : Name) → is_in_some stems name ≡ true → is_part stem name ≡ false) × AreDisjoint stems

or_left : (a b : Bool) → not (a || b) ≡ true → not a ≡ true
or_left true b e = cc
or_left false b e = refl

or_right : (a b : Bool) → not (a || b) ≡ true → not b ≡ true
or_right true b e = cc
or_right false b e = e

-- what agrees with an image that agrees with one
through_agreement : {P : Image → Type 0} (mine : Name → Bool) (image other : Image) → ((n : Name) → mine n ≡ true → image n ≡ other n) → OneOf P mine other → OneOf P mine image
through_agreement mine image other same one = record { one = one.one; possible = one.possible; agrees = λ n e. same n e ∙ one.agrees n e }

is_other : (a b : Bool) → (a ≡ true → b ≡ false) → a ≡ true → not b ≡ true
is_other a b apart e = ap not (apart e)

apart_from : (stem : Name) (stems : List Name) → ((name : Name) → is_in_some stems name ≡ true → is_part stem name ≡ false)
    → (name : Name) → is_part stem name ≡ true → not (is_in_some stems name) ≡ true
apart_from stem stems disjoint name e = by (is_in_some stems name) refl
  where
    by : (b : Bool) → is_in_some stems name ≡ b → not b ≡ true
    by true in_some = let f : is_part stem name ≡ false = disjoint name in_some in cc
    by false in_none = refl

-- An image of all together is one of the rest and one of each part.
pub together_shows : (rest : Disk) (parts : List (Name × Disk)) → AreDisjoint (stems_of parts) → (image : Image) → May (together rest parts) image
    → OneOf (May rest) (λ n. not (is_in_some (stems_of parts) n)) image × EachOf (λ stem disk. May disk) parts image
together_shows rest [] disjoint image h = (record { one = image; possible = h; agrees = λ n e. refl }, tt)
together_shows rest (part ∷ parts) disjoint image h =
    let mine = is_part part.0 in
    let behind = together_shows (joined mine part.1 rest) parts disjoint.1 image h in
    let both = split mine part.1 rest behind.0.one behind.0.possible in (
      through_agreement (λ n. not (is_in_some (stems_of (part ∷ parts)) n)) image behind.0.one
          (λ n e. behind.0.agrees n (or_right (is_part part.0 n) (is_in_some (stems_of parts) n) e))
          (record { one = both.1.one; possible = both.1.possible; agrees = λ n e. both.1.agrees n (or_left (is_part part.0 n) (is_in_some (stems_of parts) n) e) }),
      (through_agreement mine image behind.0.one (λ n e. behind.0.agrees n (apart_from part.0 (stems_of parts) disjoint.0 n e)) both.0, behind.1),
    )

-- An image of some of a folder's names alone is one of the folder's, at these names.
module _ (mine : Name → Bool) (disk : Disk) where
  mine_live : (n : Name) → mine n ≡ true → (within mine disk).live n ≡ disk.live n
  mine_live n e = ap (λ (b : Bool). if b then disk.live n else None) e

  one_mine : (spots : Spots) (image : Image) → Leaves (as_now (within mine disk).live (own_spots mine disk.live spots)) image → OneOf (Leaves (as_now disk.live spots)) mine image
  one_mine spots image h = restricted mine (as_now disk.live spots) image (λ n e. subst (λ (o : Option File). MayBe o (image n)) (owned mine disk.live (within mine disk).live mine_live spots n e) (h n))

  any_mine : (all : List Spots) (image : Image) → LeavesAny (within mine disk).live (map (own_spots mine disk.live) all) image → OneOf (LeavesAny disk.live all) mine image
  any_mine [] image h = absurd h
  any_mine (spots ∷ others) image (inl h) = one_weaker (λ other p. inl p) (one_mine spots image h)
  any_mine (spots ∷ others) image (inr h) = one_weaker (λ other p. inr p) (any_mine others image h)

  back_mine : (back : List Older) (image : Image) → LeavesAny (within mine disk).live (earlier (own_back mine disk.live back)) image → OneOf (LeavesAny disk.live (earlier back)) mine image
  back_mine [] image h = absurd h
  back_mine (older ∷ back) image h = by (back_mine back image) (touches mine older.touched) h
    where
      by : (LeavesAny (within mine disk).live (earlier (own_back mine disk.live back)) image → OneOf (LeavesAny disk.live (earlier back)) mine image)
          → (b : Bool) → LeavesAny (within mine disk).live (earlier (if b then record { touched = older.touched; names = own_spots mine disk.live older.names } ∷ own_back mine disk.live back else own_back mine disk.live back)) image
          → OneOf (LeavesAny disk.live (earlier (older ∷ back))) mine image
      by behind true (inl here) = one_weaker (λ other p. inl p) (one_mine older.names image here)
      by behind true (inr there) = one_weaker (λ other p. inr p) (behind there)
      by behind false there = one_weaker (λ other p. inr p) (behind there)

  pub within_may : (image : Image) → May (within mine disk) image → OneOf (May disk) mine image
  within_may image (inl (inl h)) =
      one_weaker (λ other p. inl (inl p)) (restricted mine disk.live image (λ n e. subst (λ (o : Option File). MayBe o (image n)) (mine_live n e) (h n)))
  within_may image (inl (inr h)) = one_weaker (λ other p. inl (inr p)) (any_mine disk.loose image h)
  within_may image (inr (inl h)) = one_weaker (λ other p. inr (inl p)) (back_mine disk.back image h)
  within_may image (inr (inr h)) = one_weaker (λ other p. inr (inr p)) (any_mine disk.mixed image h)
