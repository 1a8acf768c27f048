-- What each step does to the images.
use Rattle.std.proofs.Common.{◌≡◌, ◌⊎◌, inl, inr, ⊎_elim, Bool, true, false, List, [], ◌∷◌, ◌++◌, map, refl, sym, ◌∙◌, ap, subst, length}
use Rattle.std.specs.Prelude.{Option, Some, None, option_map, option_and_then, unwrap_or, bytes_eq, if◌then◌else◌}
use Rattle.std.proofs.lemmas.Slice.Eq.{bytes_eq-Decides}
use Rattle.std.proofs.lemmas.List.{append-nil, take_at}
use Rattle.folder_base.specs.Changes.{IsSet, IsMoved, Comes}
use Rattle.folder_base.specs.Disk.{Name, Bytes, File, Names, Spot, still, lost, Spots, Older, Disk, Image, content, MayHold, MayBe, spot_file, as_now, Leaves, LeavesAny, earlier, May, put, mark, freed_spot, freed, moved_spot, taken_over, named, empty_file, created, changed, firm, synced, removed, renamed_names, renamed_apart, renamed, settled}

-- Two names are one, or they differ.
pub same_or_not : (a b : Name) → ((bytes_eq a b ≡ true) × (a ≡ b)) ⊎ (bytes_eq a b ≡ false)
same_or_not a b = by (bytes_eq a b) refl
  where
    by : (v : Bool) → bytes_eq a b ≡ v → ((bytes_eq a b ≡ true) × (a ≡ b)) ⊎ (bytes_eq a b ≡ false)
    by true e = inl (e, (bytes_eq-Decides a b).0 e)
    by false e = inr e

pub same_name : (name : Name) → bytes_eq name name ≡ true
same_name name = (bytes_eq-Decides name name).1 refl

pub put_here : {V : Type 0} (m : Name → Option V) (name : Name) (v : Option V) → put m name v name ≡ v
put_here m name v = ap (λ (b : Bool). if b then v else m name) (same_name name)

pub put_there : {V : Type 0} (m : Name → Option V) (name other : Name) (v : Option V) → bytes_eq name other ≡ false → put m name v other ≡ m other
put_there m name other v e = ap (λ (b : Bool). if b then v else m other) e

-- a fact of a map's value, by cases on the name
pub put_elim : {V : Type 0} (Q : Option V → Type 0) (m : Name → Option V) (name : Name) (v : Option V) (other : Name) → (name ≡ other → Q v) → (bytes_eq name other ≡ false → Q (m other)) → Q (put m name v other)
put_elim {V} Q m name v other here there = elim (same_or_not name other) [
  | inl same ↦ subst (λ (b : Bool). Q (if b then v else m other)) (sym same.0) (here same.1)
  | inr differs ↦ subst (λ (b : Bool). Q (if b then v else m other)) (sym differs) (there differs)
]

-- what a name has, put under it
pub put_as_was : {V : Type 0} (m : Name → Option V) (name n : Name) → put m name (m name) n ≡ m n
put_as_was m name n = put_elim (λ o. o ≡ m n) m name (m name) n (λ same. ap m same) (λ differs. refl)

pub if_through : {V W : Type 0} (t : V → W) (b : Bool) (v w : V) → t (if b then v else w) ≡ (if b then t v else t w)
if_through t true v w = refl
if_through t false v w = refl

pub put_through : {V W : Type 0} (t : Option V → Option W) (m : Name → Option V) (name : Name) (v : Option V) → (λ n. t (put m name v n)) ≡ put (λ n. t (m n)) name (t v)
put_through t m name v = λ i n. if_through t (bytes_eq name n) v (m n) i

-- Whatever is left of the first is left of the second.
abbrev pub Within : Option File → Option File → Type 0
Within new old = (bytes : Option Bytes) → MayBe new bytes → MayBe old bytes

holds_content : (more : Option Bytes) (sure : Bytes) → MayHold more sure (sure ++ unwrap_or more [])
holds_content None sure = append-nil sure
holds_content (Some more) sure = take_at sure more (length sure) refl

-- What stands may be left whole.
pub content_may : (o : Option File) → MayBe o (option_map content o)
content_may None = tt
content_may (Some file) = holds_content file.more file.sure

pub firm_within : (o : Option File) → Within (option_map firm o) o
firm_within None bytes h = h
firm_within (Some file) None h = h
firm_within (Some file) (Some bytes) h = subst (λ (b : Bytes). MayHold file.more file.sure b) (sym h) (holds_content file.more file.sure)

pub firm_is : (file : File) (bytes : Option Bytes) → MayBe (Some (firm file)) bytes → bytes ≡ Some (content file)
firm_is file None h = absurd h
firm_is file (Some bytes) h = ap (λ (b : Bytes). Some b) h

pub none_is : (bytes : Option Bytes) → MayBe None bytes → bytes ≡ None
none_is None h = refl
none_is (Some bytes) h = absurd h

pub empty_is : (bytes : Option Bytes) → MayBe (Some empty_file) bytes → bytes ≡ Some []
empty_is None h = absurd h
empty_is (Some bytes) h = ap (λ (b : Bytes). Some b) h

-- The files as they read are one of the images.
pub reads_may : (disk : Disk) → May disk (λ name. option_map content (disk.live name))
reads_may disk = inl (inl (λ name. content_may (disk.live name)))

-- One name's file may leave less: so each image was there before.
module _ (live : Names) (name : Name) (file : Option File) (within : Within file (live name)) where
  put_within : (other : Name) → Within (put live name file other) (live other)
  put_within other = put_elim (λ o. Within o (live other)) live name file other
      (λ same. subst (λ (n : Name). Within file (live n)) same within) (λ differs bytes h. h)

  spot_within : (spot : Spot) → Within (spot_file (put live name file) spot) (spot_file live spot)
  spot_within (still other) bytes h = put_within other bytes h
  spot_within (lost gone) bytes h = h

  option_within : (spot : Option Spot) → Within (option_and_then (spot_file (put live name file)) spot) (option_and_then (spot_file live) spot)
  option_within None bytes h = h
  option_within (Some spot) bytes h = spot_within spot bytes h

  any_within : (all : List Spots) (image : Image) → LeavesAny (put live name file) all image → LeavesAny live all image
  any_within [] image h = h
  any_within (spots ∷ all) image (inl h) = inl (λ n. option_within (spots n) (image n) (h n))
  any_within (spots ∷ all) image (inr h) = inr (any_within all image h)

-- A change of a file after which less is left leaves no image that was not there.
pub less_keeps : (name : Name) (change : File → File) (disk : Disk) → Within (option_map change (disk.live name)) (disk.live name)
    → (image : Image) → May (changed name change disk) image → May disk image
less_keeps name change disk within image (inl (inl now)) =
    inl (inl (λ n. put_within disk.live name (option_map change (disk.live name)) within n (image n) (now n)))
less_keeps name change disk within image (inl (inr h)) =
    inl (inr (any_within disk.live name (option_map change (disk.live name)) within disk.loose image h))
less_keeps name change disk within image (inr (inl h)) =
    inr (inl (any_within disk.live name (option_map change (disk.live name)) within (earlier disk.back) image h))
less_keeps name change disk within image (inr (inr h)) =
    inr (inr (any_within disk.live name (option_map change (disk.live name)) within disk.mixed image h))

-- A sync leaves no image that was not there.
pub sync_keeps : (name : Name) (disk : Disk) (image : Image) → May (synced name disk) image → May disk image
sync_keeps name disk = less_keeps name firm disk (firm_within (disk.live name))

-- Nor does a settle.
pub settle_keeps : (disk : Disk) (image : Image) → May (settled disk) image → May disk image
settle_keeps disk image (inl (inl now)) = inl (inl now)
settle_keeps disk image (inl (inr none)) = absurd none
settle_keeps disk image (inr (inl none)) = absurd none
settle_keeps disk image (inr (inr none)) = absurd none

pub any_append : (live : Names) (front back : List Spots) (image : Image) → LeavesAny live (front ++ back) image → LeavesAny live front image ⊎ LeavesAny live back image
any_append live [] back image h = inr h
any_append live (s ∷ front) back image (inl h) = inl (inl h)
any_append live (s ∷ front) back image (inr h) = ⊎_elim (λ a. inl (inr a)) (λ b. inr b) (any_append live front back image h)

pub marked : (live : Names) (n : Name) → as_now live (mark live) n ≡ live n
marked live n = by (live n) refl
  where
    by : (o : Option File) → live n ≡ o → option_and_then (spot_file live) (option_map (λ (f : File). still n) o) ≡ o
    by None e = refl
    by (Some f) e = e

-- The names of earlier moments stay what they were, where each is told anew.
module _ (live new : Names) (told : Spots → Spots) (same : (spots : Spots) (n : Name) → as_now new (told spots) n ≡ as_now live spots n) where
  leaves_same : (spots : Spots) (image : Image) → Leaves (as_now new (told spots)) image → Leaves (as_now live spots) image
  leaves_same spots image h n = subst (λ (o : Option File). MayBe o (image n)) (same spots n) (h n)

  any_same : (all : List Spots) (image : Image) → LeavesAny new (map told all) image → LeavesAny live all image
  any_same [] image h = h
  any_same (spots ∷ all) image (inl h) = inl (leaves_same spots image h)
  any_same (spots ∷ all) image (inr h) = inr (any_same all image h)

  back_same : (back : List Older) (image : Image)
      → LeavesAny new (earlier (map (λ older. record { touched = older.touched; names = told older.names }) back)) image → LeavesAny live (earlier back) image
  back_same [] image h = h
  back_same (older ∷ back) image (inl h) = inl (leaves_same older.names image h)
  back_same (older ∷ back) image (inr h) = inr (back_same back image h)

-- A name change leaves what was there, or what it makes of names that held.
module _ (touched : List Name) (disk : Disk) (new : Names) (told made : Spots → Spots) (by : Image → Image → Type 0)
    (same : (spots : Spots) (n : Name) → as_now new (told spots) n ≡ as_now disk.live spots n)
    (now : (image : Image) → Leaves new image → (before : Image) × Leaves disk.live before × by before image)
    (then_made : (spots : Spots) (image : Image) → Leaves (as_now new (made spots)) image → (before : Image) × Leaves (as_now disk.live spots) before × by before image) where
  loose_comes : (all : List Spots) (image : Image) → LeavesAny new (map made all) image → (before : Image) × LeavesAny disk.live all before × by before image
  loose_comes [] image h = absurd h
  loose_comes (spots ∷ all) image (inl h) = let w = then_made spots image h in (w.0, inl w.1, w.2)
  loose_comes (spots ∷ all) image (inr h) = let w = loose_comes all image h in (w.0, inr w.1, w.2)

  pub named_may : (image : Image) → May (named touched new told made disk) image → May disk image ⊎ Comes by disk image
  named_may image (inl (inl h)) = let w = now image h in inr (record { before = w.0; held = inl w.1; by_it = w.2 })
  named_may image (inl (inr h)) = let w = loose_comes disk.loose image h in inr (record { before = w.0; held = inr w.1; by_it = w.2 })
  named_may image (inr (inl (inl h))) = inl (inl (inl (λ n. subst (λ (o : Option File). MayBe o (image n)) (marked disk.live n) (leaves_same disk.live new told same (mark disk.live) image h n))))
  named_may image (inr (inl (inr h))) = inl (inr (inl (back_same disk.live new told same disk.back image h)))
  named_may image (inr (inr h)) = ⊎_elim
      (λ loose. inl (inl (inr loose))) (λ mixed. inl (inr (inr mixed)))
      (any_append disk.live disk.loose disk.mixed image (any_same disk.live new told same (disk.loose ++ disk.mixed) image h))

-- Names that differ at one name.
one_set : (old new : Names) (name : Name) (file : Option File) → new name ≡ file → ((n : Name) → bytes_eq name n ≡ false → new n ≡ old n)
    → (image : Image) → Leaves new image → (before : Image) × Leaves old before × IsSet name file before image
one_set old new name file here there image h = (
  put image name (option_map content (old name)),
  possible,
  record {
    here = subst (λ (o : Option File). MayBe o (image name)) here (h name);
    others = λ n differs. sym (put_there image name n (option_map content (old name)) differs);
  },
)
  where
    possible : Leaves old (put image name (option_map content (old name)))
    possible n = put_elim (λ o. MayBe (old n) o) image name (option_map content (old name)) n
        (λ is_name. subst (λ (m : Name). MayBe (old m) (option_map content (old name))) is_name (content_may (old name)))
        (λ differs. subst (λ (o : Option File). MayBe o (image n)) (there n differs) (h n))

freed_none : (live : Names) (name : Name) (new : Option File) (spot : Option Spot)
    → option_and_then (spot_file (put live name new)) (option_and_then (freed_spot live name) spot) ≡ option_and_then (spot_file live) spot
freed_none live name new None = refl
freed_none live name new (Some (lost file)) = refl
freed_none live name new (Some (still other)) = elim (same_or_not name other) [
  | inl same ↦
      ap (λ (b : Bool). option_and_then (spot_file (put live name new)) (if b then option_map lost (live name) else Some (still other))) same.0
      ∙ gone (live name) ∙ ap live same.1
  | inr differs ↦
      ap (λ (b : Bool). option_and_then (spot_file (put live name new)) (if b then option_map lost (live name) else Some (still other))) differs
      ∙ put_there live name other new differs
]
  where
    gone : (o : Option File) → option_and_then (spot_file (put live name new)) (option_map lost o) ≡ o
    gone None = refl
    gone (Some f) = refl

-- A name that is set anew leaves what was there, or it alone differs from names that held.
module _ (name : Name) (file : Option File) (made : Spots → Spots) (disk : Disk)
    (made_here : (spots : Spots) → as_now (put disk.live name file) (made spots) name ≡ file)
    (made_there : (spots : Spots) (n : Name) → bytes_eq name n ≡ false → made spots n ≡ freed disk.live name spots n) where
  pub set_may : (image : Image) → May (named (name ∷ []) (put disk.live name file) (freed disk.live name) made disk) image
      → May disk image ⊎ Comes (IsSet name file) disk image
  set_may = named_may (name ∷ []) disk (put disk.live name file) (freed disk.live name) made (IsSet name file)
      (λ spots n. freed_none disk.live name file (spots n))
      (one_set disk.live (put disk.live name file) name file (put_here disk.live name file) (λ n differs. put_there disk.live name n file differs))
      (λ spots. one_set (as_now disk.live spots) (as_now (put disk.live name file) (made spots)) name file (made_here spots)
      (λ n differs. ap (option_and_then (spot_file (put disk.live name file))) (made_there spots n differs) ∙ freed_none disk.live name file (spots n)))

-- A creation leaves what was there, or an empty file beside names that held.
pub create_may : (name : Name) (disk : Disk) (image : Image) → May (created name disk) image → May disk image ⊎ Comes (IsSet name (Some empty_file)) disk image
create_may name disk = set_may name (Some empty_file) (λ spots. put (freed disk.live name spots) name (Some (still name))) disk
    (λ spots. ap (option_and_then (spot_file (put disk.live name (Some empty_file)))) (put_here (freed disk.live name spots) name (Some (still name))) ∙ put_here disk.live name (Some empty_file))
    (λ spots n differs. put_there (freed disk.live name spots) name n (Some (still name)) differs)

-- A removal leaves what was there, or names that held without this one.
pub remove_may : (name : Name) (disk : Disk) (image : Image) → May (removed name disk) image → May disk image ⊎ Comes (IsSet name None) disk image
remove_may name disk = set_may name None (λ spots. put (freed disk.live name spots) name None) disk
    (λ spots. ap (option_and_then (spot_file (put disk.live name None))) (put_here (freed disk.live name spots) name None))
    (λ spots n differs. put_there (freed disk.live name spots) name n None differs)

-- Names that differ as after a rename.
one_moved : (old new : Names) (from to : Name) (file : Option File) → new from ≡ None → new to ≡ file
    → ((n : Name) → bytes_eq from n ≡ false → bytes_eq to n ≡ false → new n ≡ old n)
    → (image : Image) → Leaves new image → (before : Image) × Leaves old before × IsMoved from to file before image
one_moved old new from to file at_from at_to there image h = (
  put (put image from (option_map content (old from))) to (option_map content (old to)),
  possible,
  record {
    gone = none_is (image from) (subst (λ (o : Option File). MayBe o (image from)) at_from (h from));
    here = subst (λ (o : Option File). MayBe o (image to)) at_to (h to);
    others = λ n not_from not_to. sym (put_there (put image from (option_map content (old from))) to n (option_map content (old to)) not_to
        ∙ put_there image from n (option_map content (old from)) not_from);
  },
)
  where
    possible : Leaves old (put (put image from (option_map content (old from))) to (option_map content (old to)))
    possible n = put_elim (λ o. MayBe (old n) o) (put image from (option_map content (old from))) to (option_map content (old to)) n
        (λ is_to. subst (λ (m : Name). MayBe (old m) (option_map content (old to))) is_to (content_may (old to)))
        (λ not_to. put_elim (λ o. MayBe (old n) o) image from (option_map content (old from)) n
        (λ is_from. subst (λ (m : Name). MayBe (old m) (option_map content (old from))) is_from (content_may (old from)))
        (λ not_from. subst (λ (o : Option File). MayBe o (image n)) (there n not_from not_to) (h n)))

module _ (live : Names) (from to : Name) (apart : bytes_eq from to ≡ false) where
  abbrev after_rename : Names
  after_rename = renamed_names from to live

  after_from : after_rename from ≡ None
  after_from = put_elim (λ o. o ≡ None) (put live from None) to (live from) from
      (λ is_from. absurd (differ is_from)) (λ differs. put_here live from None)
    where
      differ : to ≡ from → ⊥
      differ e = let f : bytes_eq from to ≡ true = (bytes_eq-Decides from to).1 (sym e) in cc

  after_to : after_rename to ≡ live from
  after_to = put_here (put live from None) to (live from)

  after_there : (n : Name) → bytes_eq from n ≡ false → bytes_eq to n ≡ false → after_rename n ≡ live n
  after_there n not_from not_to = put_there (put live from None) to n (live from) not_to ∙ put_there live from n None not_from

  lost_spot : (o : Option File) → option_and_then (spot_file after_rename) (option_map (moved_spot from to) (option_map lost o)) ≡ o
  lost_spot None = refl
  lost_spot (Some f) = refl

  spot_renamed : (spot : Spot) → option_and_then (spot_file after_rename) (option_map (moved_spot from to) (freed_spot live to spot)) ≡ spot_file live spot
  spot_renamed (lost file) = refl
  spot_renamed (still other) = elim (same_or_not to other) [
    | inl same ↦
        ap (λ (b : Bool). option_and_then (spot_file after_rename) (option_map (moved_spot from to) (if b then option_map lost (live to) else Some (still other)))) same.0
        ∙ lost_spot (live to) ∙ ap live same.1
    | inr differs ↦
        ap (λ (b : Bool). option_and_then (spot_file after_rename) (option_map (moved_spot from to) (if b then option_map lost (live to) else Some (still other)))) differs
        ∙ elim (same_or_not from other) [
          | inl is_from ↦ ap (λ (b : Bool). spot_file after_rename (if b then still to else still other)) is_from.0 ∙ after_to ∙ ap live is_from.1
          | inr not_from ↦ ap (λ (b : Bool). spot_file after_rename (if b then still to else still other)) not_from ∙ after_there other not_from differs
        ]
  ]

  option_renamed : (o : Option Spot) → option_and_then (spot_file after_rename) (option_map (moved_spot from to) (option_and_then (freed_spot live to) o)) ≡ option_and_then (spot_file live) o
  option_renamed None = refl
  option_renamed (Some spot) = spot_renamed spot

  abbrev made : Spots → Spots
  made spots = put (put (taken_over live from to spots) from None) to (Some (still to))

  made_from : (spots : Spots) → as_now after_rename (made spots) from ≡ None
  made_from spots = put_elim (λ o. option_and_then (spot_file after_rename) o ≡ None) (put (taken_over live from to spots) from None) to (Some (still to)) from
      (λ is_from. ap after_rename is_from ∙ after_from)
      (λ differs. ap (option_and_then (spot_file after_rename)) (put_here (taken_over live from to spots) from None))

  made_to : (spots : Spots) → as_now after_rename (made spots) to ≡ live from
  made_to spots = ap (option_and_then (spot_file after_rename)) (put_here (put (taken_over live from to spots) from None) to (Some (still to))) ∙ after_to

  made_there : (spots : Spots) (n : Name) → bytes_eq from n ≡ false → bytes_eq to n ≡ false → as_now after_rename (made spots) n ≡ as_now live spots n
  made_there spots n not_from not_to =
      ap (option_and_then (spot_file after_rename)) (put_there (put (taken_over live from to spots) from None) to n (Some (still to)) not_to ∙ put_there (taken_over live from to spots) from n None not_from)
      ∙ option_renamed (spots n)

renamed_apart_may : (from to : Name) (disk : Disk) → bytes_eq from to ≡ false → (image : Image) → May (renamed_apart from to disk) image
    → May disk image ⊎ Comes (IsMoved from to (disk.live from)) disk image
renamed_apart_may from to disk apart = named_may (to ∷ from ∷ []) disk (renamed_names from to disk.live) (taken_over disk.live from to) (made disk.live from to apart)
    (IsMoved from to (disk.live from))
    (λ spots n. option_renamed disk.live from to apart (spots n))
    (one_moved disk.live (renamed_names from to disk.live) from to (disk.live from) (after_from disk.live from to apart) (after_to disk.live from to apart) (after_there disk.live from to apart))
    (λ spots. one_moved (as_now disk.live spots) (as_now (renamed_names from to disk.live) (made disk.live from to apart spots)) from to (disk.live from)
    (made_from disk.live from to apart spots) (made_to disk.live from to apart spots) (made_there disk.live from to apart spots))

-- A rename leaves what was there, or names that held with the file under its new name.
pub rename_may : (from to : Name) (disk : Disk) (image : Image) → May (renamed from to disk) image → May disk image ⊎ Comes (IsMoved from to (disk.live from)) disk image
rename_may from to disk image h = by (bytes_eq from to) refl
  where
    by : (b : Bool) → bytes_eq from to ≡ b → May disk image ⊎ Comes (IsMoved from to (disk.live from)) disk image
    by true e = inl (subst (λ (v : Bool). May (if v then disk else renamed_apart from to disk) image) e h)
    by false e = renamed_apart_may from to disk e image (subst (λ (v : Bool). May (if v then disk else renamed_apart from to disk) image) e h)
