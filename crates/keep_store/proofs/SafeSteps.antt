-- What each step of a lane keeps of what a crash may leave.
use Rattle.std.proofs.Common.{◌≡◌, ◌⊎◌, inl, inr, ⊎_elim, ◌≤◌, Bool, true, false, List, [], ◌∷◌, ◌++◌, map, length, refl, sym, ◌∙◌, ap, subst, arith, append_assoc, length-append}
use Rattle.std.specs.Prelude.{Option, Some, None, option_map, option_and_then, unwrap_or, bytes_eq, if◌then◌else◌}
use Rattle.std.proofs.lemmas.List.{append-nil}
use Rattle.folder_base.specs.Disk.{Name, Bytes, File, Names, Spot, still, lost, Spots, Older, Disk, content, put, mark, freed_spot, freed, moved_spot, taken_over, earlier, longer, firm, lasting_file, appended, synced, renamed_names, renamed_apart, removed}
use Rattle.folder_base.proofs.Images.{same_or_not, same_name, put_elim, put_here, put_there}
use Rattle.keep_store.specs.Promise.{IsFront}
use Rattle.keep_store.specs.Safe.{IsLasting, MayName, IsSpot, IsEarlier, AllEarlier, Safe}

pub differ_back : (a b : Name) → bytes_eq a b ≡ false → bytes_eq b a ≡ false
differ_back a b differs = elim (same_or_not b a) [
  | inl same ↦ absurd (let e : bytes_eq a b ≡ true = subst (λ (n : Name). bytes_eq n b ≡ true) same.1 (same_name b) in cc)
  | inr apart ↦ apart
]

-- A name that promised lasting bytes still does, with more of them.
pub lasting_more : (stem : Name) (entry : Disk) (first sure more : Bytes) (name : Name) → length sure ≤ length more → IsLasting stem entry first sure name → IsLasting stem entry first more name
lasting_more stem entry first sure more name le is = record { part = is.part; digits = is.digits; number = is.number; is = is.is; least = is.least; most = omega (arith, is.most, le) }

pub names_more : (stem : Name) (entry : Disk) (first sure more : Bytes) (complete : Bool) (name : Name) → length sure ≤ length more → MayName stem entry first sure complete name → MayName stem entry first more complete name
names_more stem entry first sure more complete name le (inl is) = inl (lasting_more stem entry first sure more name le is)
names_more stem entry first sure more complete name le (inr is) = inr is

-- A change of the lane's file, after which no fewer of its bytes are lasting.
module _ (stem current : Name) (entry : Disk) (first sure more : Bytes) (complete : Bool) (live : Names) (le : length sure ≤ length more) (file : Option File) where
  spot_changed : (name : Name) (start : Option File) (spot : Option Spot) → IsSpot current (MayName stem entry first sure complete) live name start spot → IsSpot current (MayName stem entry first more complete) (put live current file) name start spot
  spot_changed name start None is = tt
  spot_changed name start (Some (lost gone)) is = is
  spot_changed name start (Some (still other)) (inl is) = inl (is.0, names_more stem entry first sure more complete name le is.1)
  spot_changed name start (Some (still other)) (inr is) = inr (is.0, put_there live current other file is.0 ∙ is.1)

  some_changed : (spots : Spots) → IsEarlier stem current entry first sure complete live spots → ((first ≡ []) × (entry.live stem ≡ None)) ⊎ ((name : Name) × (MayName stem entry first more complete name × (spots name ≡ Some (still current))))
  some_changed spots is = ⊎_elim (λ none. inl none) (λ some. inr (some.0, (names_more stem entry first sure more complete some.0 le some.1.0, some.1.1))) is.some

  pub all_changed : (back : List Spots) → AllEarlier stem current entry first sure complete live back → AllEarlier stem current entry first more complete (put live current file) back
  all_changed [] all = tt
  all_changed (spots ∷ back) all = (record { each = λ name. spot_changed name (entry.live name) (spots name) (all.0.each name); some = some_changed spots all.0 }, all_changed back all.1)

front_more : (front bytes more : Bytes) → IsFront front bytes → IsFront front (bytes ++ more)
front_more front bytes more is = (is.0 ++ more, ap (λ (b : Bytes). b ++ more) is.1 ∙ append_assoc front is.0 more)

module _ (stem current : Name) (entry : Disk) (bytes : Bytes) (disk : Disk) where
  pub changed_others : (complete : Bool) (safe : Safe stem current entry bytes complete disk) (file : Option File) (name : Name) → bytes_eq current name ≡ false → (put disk.live current file name ≡ None) ⊎ (put disk.live current file name ≡ entry.live name)
  changed_others complete safe file name apart = ⊎_elim (λ none. inl (put_there disk.live current name file apart ∙ none)) (λ same. inr (put_there disk.live current name file apart ∙ same)) (safe.others name apart)

  pub safe_appended : (more : Bytes) → Safe stem current entry bytes false disk → Safe stem current entry (bytes ++ more) false (appended current more disk)
  safe_appended more safe = record {
    settled = safe.settled;
    first = safe.first;
    promised = safe.promised;
    grown = front_more safe.first bytes more safe.grown;
    file = longer more safe.file;
    stands = put_here disk.live current (option_map (longer more) (disk.live current)) ∙ ap (option_map (longer more)) safe.stands;
    reads_as = sym (append_assoc safe.file.sure (unwrap_or safe.file.more []) more) ∙ ap (λ (b : Bytes). b ++ more) safe.reads_as;
    whole = λ e. absurd (cc);
    here = safe.here;
    others = changed_others false safe (option_map (longer more) (disk.live current));
    loose = safe.loose;
    mixed = safe.mixed;
    back = all_changed stem current entry safe.first safe.file.sure safe.file.sure false disk.live (omega arith) (option_map (longer more) (disk.live current)) (earlier disk.back) safe.back;
  }

  pub grown_sure : (file : File) → length file.sure ≤ length (content file)
  grown_sure file = omega (arith, length-append file.sure (unwrap_or file.more []))

  unfoldable pub safe_synced : Safe stem current entry bytes false disk → Safe stem current entry bytes false (synced current disk)
  safe_synced safe = record {
    settled = safe.settled;
    first = safe.first;
    promised = safe.promised;
    grown = safe.grown;
    file = firm safe.file;
    stands = put_here disk.live current (option_map firm (disk.live current)) ∙ ap (option_map firm) safe.stands;
    reads_as = append-nil (content safe.file) ∙ safe.reads_as;
    whole = λ e. absurd (cc);
    here = names_more stem entry safe.first safe.file.sure (content safe.file) false current (grown_sure safe.file) safe.here;
    others = changed_others false safe (option_map firm (disk.live current));
    loose = safe.loose;
    mixed = safe.mixed;
    back = all_changed stem current entry safe.first safe.file.sure (content safe.file) false disk.live (grown_sure safe.file) (option_map firm (disk.live current)) (earlier disk.back) safe.back;
  }

-- The names after a name change, told anew.
told_back : (told : Spots → Spots) (back : List Older) → earlier (map (λ older. record { touched = older.touched; names = told older.names }) back) ≡ map told (earlier back)
told_back told [] = refl
told_back told (older ∷ back) = ap (λ (l : List Spots). told older.names ∷ l) (told_back told back)

-- The names as they stand, before a name change.
module _ (stem current : Name) (entry : Disk) (bytes : Bytes) (complete : Bool) (disk : Disk) (safe : Safe stem current entry bytes complete disk) where
  marked_spot : (name : Name) → IsSpot current (MayName stem entry safe.first safe.file.sure complete) disk.live name (entry.live name) (mark disk.live name)
  marked_spot name = by (disk.live name) refl
    where
      by : (o : Option File) → disk.live name ≡ o → IsSpot current (MayName stem entry safe.first safe.file.sure complete) disk.live name (entry.live name) (option_map (λ (f : File). still name) o)
      by None e = tt
      by (Some f) e = elim (same_or_not current name) [
        | inl same ↦ inl (same.1, subst (λ (n : Name). MayName stem entry safe.first safe.file.sure complete n) same.1 safe.here)
        | inr apart ↦ inr (apart, ⊎_elim (λ none. absurd (let x : Some f ≡ None = sym e ∙ none in cc)) (λ is. is) (safe.others name apart))
      ]

  pub marked_earlier : IsEarlier stem current entry safe.first safe.file.sure complete disk.live (mark disk.live)
  marked_earlier = record {
    each = marked_spot;
    some = inr (current, (safe.here, ap (option_map (λ (f : File). still current)) safe.stands));
  }

-- A name that is not the lane's is removed.
module _ (stem current gone : Name) (entry : Disk) (first sure : Bytes) (complete : Bool) (live : Names) (apart : bytes_eq gone current ≡ false) where
  spot_removed : (name : Name) (start : Option File) (spot : Option Spot) → IsSpot current (MayName stem entry first sure complete) live name start spot
      → IsSpot current (MayName stem entry first sure complete) (put live gone None) name start (option_and_then (freed_spot live gone) spot)
  spot_removed name start None is = tt
  spot_removed name start (Some (lost file)) is = is
  spot_removed name start (Some (still other)) is = elim (same_or_not gone other) [
    | inl same ↦ subst (λ (b : Bool). IsSpot current (MayName stem entry first sure complete) (put live gone None) name start (if b then option_map lost (live gone) else Some (still other))) (sym same.0) (was same.1 (live gone) refl is)
    | inr differs ↦ subst (λ (b : Bool). IsSpot current (MayName stem entry first sure complete) (put live gone None) name start (if b then option_map lost (live gone) else Some (still other))) (sym differs)
        (⊎_elim (λ it. inl it) (λ it. inr (it.0, put_there live gone other None differs ∙ it.1)) is)
  ]
    where
      was : gone ≡ other → (o : Option File) → live gone ≡ o → ((current ≡ other) × MayName stem entry first sure complete name) ⊎ ((bytes_eq current other ≡ false) × (live other ≡ start)) → IsSpot current (MayName stem entry first sure complete) (put live gone None) name start (option_map lost o)
      was same None e it = tt
      was same (Some f) e (inl it) = absurd (let x : bytes_eq gone current ≡ true = subst (λ (n : Name). bytes_eq gone n ≡ true) (same ∙ sym it.0) (same_name gone) in cc)
      was same (Some f) e (inr it) = sym it.1 ∙ ap live (sym same) ∙ e

  -- the lane's name is told as before
  kept_there : (spot : Option Spot) → spot ≡ Some (still current) → option_and_then (freed_spot live gone) spot ≡ Some (still current)
  kept_there spot is = ap (option_and_then (freed_spot live gone)) is ∙ ap (λ (b : Bool). if b then option_map lost (live gone) else Some (still current)) apart

  one_removed : (spots : Spots) → IsEarlier stem current entry first sure complete live spots → IsEarlier stem current entry first sure complete (put live gone None) (freed live gone spots)
  one_removed spots is = record {
    each = λ name. spot_removed name (entry.live name) (spots name) (is.each name);
    some = ⊎_elim (λ none. inl none) (λ some. inr (some.0, (some.1.0, kept_there (spots some.0) some.1.1))) is.some;
  }

  pub all_removed : (back : List Spots) → AllEarlier stem current entry first sure complete live back → AllEarlier stem current entry first sure complete (put live gone None) (map (freed live gone) back)
  all_removed [] all = tt
  all_removed (spots ∷ back) all = (one_removed spots all.0, all_removed back all.1)

none_made : (f : Spots → Spots) (spots : List Spots) → spots ≡ [] → map f spots ≡ []
none_made f spots is = ap (map f) is

none_mixed : (f : Spots → Spots) (loose mixed : List Spots) → loose ≡ [] → mixed ≡ [] → map f (loose ++ mixed) ≡ []
none_mixed f loose mixed is also = (λ i. map f (is i ++ also i))

pub safe_removed : (stem current gone : Name) (entry : Disk) (bytes : Bytes) (complete : Bool) (disk : Disk) → bytes_eq gone current ≡ false
    → Safe stem current entry bytes complete disk → Safe stem current entry bytes complete (removed gone disk)
safe_removed stem current gone entry bytes complete disk apart safe = record {
  settled = safe.settled;
  first = safe.first;
  promised = safe.promised;
  grown = safe.grown;
  file = safe.file;
  stands = put_there disk.live gone current None apart ∙ safe.stands;
  reads_as = safe.reads_as;
  whole = safe.whole;
  here = safe.here;
  others = λ name differs. put_elim (λ o. (o ≡ None) ⊎ (o ≡ entry.live name)) disk.live gone None name (λ same. inl refl) (λ not_gone. safe.others name differs);
  loose = none_made (λ spots. put (freed disk.live gone spots) gone None) disk.loose safe.loose;
  mixed = none_mixed (freed disk.live gone) disk.loose disk.mixed safe.loose safe.mixed;
  back = subst (λ (l : List Spots). AllEarlier stem current entry safe.first safe.file.sure complete (put disk.live gone None) (freed disk.live gone (mark disk.live) ∷ l)) (sym (told_back (freed disk.live gone) disk.back))
      (all_removed stem current gone entry safe.first safe.file.sure complete disk.live apart (mark disk.live ∷ earlier disk.back) (marked_earlier stem current entry bytes complete disk safe, safe.back));
}

-- The lane's file gets another name, under which nothing stood.
module _ (stem from to : Name) (entry : Disk) (first sure : Bytes) (old complete : Bool) (live : Names) (apart : bytes_eq from to ≡ false) (free : live to ≡ None)
    (names : (name : Name) → MayName stem entry first sure old name → MayName stem entry first sure complete name) where
  abbrev SpotGoal : Name → Option File → Option Spot → Type 0
  SpotGoal name start spot = IsSpot to (MayName stem entry first sure complete) (renamed_names from to live) name start spot

  abbrev WasSpot : Name → Option File → Name → Type 0
  WasSpot name start other = ((from ≡ other) × MayName stem entry first sure old name) ⊎ ((bytes_eq from other ≡ false) × (live other ≡ start))

  is_own : (name : Name) (start : Option File) (other : Name) → from ≡ other → WasSpot name start other → MayName stem entry first sure complete name
  is_own name start other same (inl it) = names name it.1
  is_own name start other same (inr it) = absurd (let x : bytes_eq from other ≡ true = subst (λ (n : Name). bytes_eq from n ≡ true) same (same_name from) in let y = it.0 in cc)

  stays : (name : Name) (start : Option File) (other : Name) → bytes_eq from other ≡ false → bytes_eq to other ≡ false → WasSpot name start other → renamed_names from to live other ≡ start
  stays name start other not_from not_to (inl it) = absurd (let x : bytes_eq from other ≡ true = subst (λ (n : Name). bytes_eq from n ≡ true) it.0 (same_name from) in cc)
  stays name start other not_from not_to (inr it) = put_there (put live from None) to other (live from) not_to ∙ put_there live from other None not_from ∙ it.1

  spot_moved : (name : Name) (start : Option File) (spot : Option Spot) → IsSpot from (MayName stem entry first sure old) live name start spot
      → SpotGoal name start (option_map (moved_spot from to) (option_and_then (freed_spot live to) spot))
  spot_moved name start None is = tt
  spot_moved name start (Some (lost file)) is = is
  spot_moved name start (Some (still other)) is = elim (same_or_not to other) [
    | inl same ↦ subst (λ (b : Bool). SpotGoal name start (option_map (moved_spot from to) (if b then option_map lost (live to) else Some (still other)))) (sym same.0)
        (subst (λ (o : Option File). SpotGoal name start (option_map (moved_spot from to) (option_map lost o))) (sym free) tt)
    | inr differs ↦ subst (λ (b : Bool). SpotGoal name start (option_map (moved_spot from to) (if b then option_map lost (live to) else Some (still other)))) (sym differs)
        (elim (same_or_not from other) [
          | inl same ↦ subst (λ (b : Bool). SpotGoal name start (Some (if b then still to else still other))) (sym same.0) (inl (refl, is_own name start other same.1 is))
          | inr not_from ↦ subst (λ (b : Bool). SpotGoal name start (Some (if b then still to else still other))) (sym not_from) (inr (differs, stays name start other not_from differs is))
        ])
  ]

  told_there : (spot : Option Spot) → spot ≡ Some (still from) → option_map (moved_spot from to) (option_and_then (freed_spot live to) spot) ≡ Some (still to)
  told_there spot is =
      ap (λ (o : Option Spot). option_map (moved_spot from to) (option_and_then (freed_spot live to) o)) is
      ∙ ap (λ (b : Bool). option_map (moved_spot from to) (if b then option_map lost (live to) else Some (still from))) (differ_back from to apart)
      ∙ ap (λ (b : Bool). Some (if b then still to else still from)) (same_name from)

  one_moved : (spots : Spots) → IsEarlier stem from entry first sure old live spots → IsEarlier stem to entry first sure complete (renamed_names from to live) (taken_over live from to spots)
  one_moved spots is = record {
    each = λ name. spot_moved name (entry.live name) (spots name) (is.each name);
    some = ⊎_elim (λ none. inl none) (λ some. inr (some.0, (names some.0 some.1.0, told_there (spots some.0) some.1.1))) is.some;
  }

  pub all_moved : (back : List Spots) → AllEarlier stem from entry first sure old live back → AllEarlier stem to entry first sure complete (renamed_names from to live) (map (taken_over live from to) back)
  all_moved [] all = tt
  all_moved (spots ∷ back) all = (one_moved spots all.0, all_moved back all.1)

pub safe_moved : (stem from to : Name) (entry : Disk) (bytes : Bytes) (old complete : Bool) (disk : Disk) → bytes_eq from to ≡ false → disk.live to ≡ None
    → (safe : Safe stem from entry bytes old disk) → (old ≡ true → complete ≡ true) → (complete ≡ true → safe.file ≡ lasting_file bytes) → MayName stem entry safe.first safe.file.sure complete to
    → Safe stem to entry bytes complete (renamed_apart from to disk)
safe_moved stem from to entry bytes old complete disk apart free safe more whole here = record {
  settled = safe.settled;
  first = safe.first;
  promised = safe.promised;
  grown = safe.grown;
  file = safe.file;
  stands = put_here (put disk.live from None) to (disk.live from) ∙ safe.stands;
  reads_as = safe.reads_as;
  whole = whole;
  here = here;
  others = λ name differs. subst (λ (o : Option File). (o ≡ None) ⊎ (o ≡ entry.live name)) (sym (put_there (put disk.live from None) to name (disk.live from) differs))
      (put_elim (λ o. (o ≡ None) ⊎ (o ≡ entry.live name)) disk.live from None name (λ same. inl refl) (λ not_from. safe.others name not_from));
  loose = none_made (λ spots. put (put (taken_over disk.live from to spots) from None) to (Some (still to))) disk.loose safe.loose;
  mixed = none_mixed (taken_over disk.live from to) disk.loose disk.mixed safe.loose safe.mixed;
  back = subst (λ (l : List Spots). AllEarlier stem to entry safe.first safe.file.sure complete (renamed_names from to disk.live) (taken_over disk.live from to (mark disk.live) ∷ l)) (sym (told_back (taken_over disk.live from to) disk.back))
      (all_moved stem from to entry safe.first safe.file.sure old complete disk.live apart free wider (mark disk.live ∷ earlier disk.back) (marked_earlier stem from entry bytes old disk safe, safe.back));
}
  where
    wider : (name : Name) → MayName stem entry safe.first safe.file.sure old name → MayName stem entry safe.first safe.file.sure complete name
    wider name (inl is) = inl is
    wider name (inr is) = inr (more is.0, is.1)
