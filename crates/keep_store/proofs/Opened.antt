-- What a crash leaves of a piece as its lane is opened, where nothing was pending.
use Rattle.std.proofs.Common.{◌≡◌, ◌⊎◌, inl, inr, ⊎_elim, ℕ, ◌-◌, ◌≤◌, Bool, true, false, List, [], ◌∷◌, ◌++◌, map, length, take, refl, sym, ◌∙◌, ap, subst, arith}
use Rattle.std.specs.Prelude.{Option, Some, None, is_some, option_map, option_and_then, unwrap_or, nat_lt, if◌then◌else◌}
use Rattle.std.proofs.lemmas.List.{append-nil, take_all, length-take-le}
use Rattle.std.proofs.lemmas.Option.{same_Some}
use Rattle.std.proofs.lemmas.Bool.Decides.{nat_tests}
use Rattle.folder_base.specs.Disk.{Name, Bytes, File, still, lost, Spots, Older, Disk, Image, content, LeavesAny, May, earlier, put, mark, freed, freed_spot, lasting_file, empty_file, shorter, cut_to, created, IsSettled}
use Rattle.folder_base.proofs.Images.{same_or_not, put_here, put_there}
use Rattle.keep_store.specs.Promise.{IsNumber, number_of, promising, IsPromise, Promises, IfStands, AreFirst, PieceSound}
use Rattle.keep_store.specs.Safe.{reads, MayName, IsSpot, AllEarlier, Safe, Kept}
use Rattle.keep_store.proofs.Numerals.{same_digits}
use Rattle.keep_store.proofs.SafeImages.{no_longer, same_front, settled_is}

-- An image has one promise.
pub one_promise : (stem : Name) (image : Image) (a b : Bytes) → IsPromise stem image a → IsPromise stem image b → a ≡ b
one_promise stem image a b (inl is) (inl also) = same_Some a b (sym is ∙ also)
one_promise stem image a b (inl is) (inr also) = absurd (let e : Some a ≡ None = sym is ∙ also.part in cc)
one_promise stem image a b (inr is) (inl also) = absurd (let e : Some b ≡ None = sym also ∙ is.part in cc)
one_promise stem image a b (inr is) (inr also) = by is.promised also.promised
  where
    long : length a ≡ length b
    long = omega (arith, no_longer stem image a b (inr is) (inr also), no_longer stem image b a (inr also) (inr is))

    empty : (x : Bytes) → length x ≤ 0 → x ≡ []
    empty [] le = refl
    empty (c ∷ x) le = absurd (omega arith)

    by : (a ≡ []) ⊎ ((digits : List ℕ) × Promises stem image digits a) → (b ≡ []) ⊎ ((digits : List ℕ) × Promises stem image digits b) → a ≡ b
    by (inl none) other = none ∙ sym (empty b (omega (arith, long, ap length none)))
    by (inr one) (inl none) = empty a (omega (arith, long, ap length none)) ∙ sym none
    by (inr one) (inr two) =
        let same : one.0 ≡ two.0 = same_digits one.0 two.0 one.1.number two.1.number (omega (arith, one.1.count, two.1.count, long)) in
        same_front a b one.1.front.0 two.1.front.0 long
        (sym one.1.front.1 ∙ same_Some one.1.file two.1.file (sym one.1.stands ∙ ap (λ (d : List ℕ). image (promising stem d)) same ∙ two.1.stands) ∙ two.1.front.1)

-- Where nothing is pending a crash leaves the files as they read.
pub entry_images : (entry : Disk) → IsSettled entry → (image : Image) → May entry image → image ≡ reads entry
entry_images entry settled image (inl (inl h)) = λ i name. settled_is (entry.live name) (image name) (settled.synced name) (h name) i
entry_images entry settled image (inl (inr h)) = absurd (subst (λ (l : List Spots). LeavesAny entry.live l image) settled.loose h)
entry_images entry settled image (inr (inl h)) = absurd (subst (λ (l : List Spots). LeavesAny entry.live l image) (ap earlier settled.back) h)
entry_images entry settled image (inr (inr h)) = absurd (subst (λ (l : List Spots). LeavesAny entry.live l image) settled.mixed h)

pub entry_kept : (stem : Name) (entry : Disk) (first : Bytes) (complete : Bool) → IsSettled entry → IsPromise stem (reads entry) first → (image : Image) → May entry image → Kept stem entry first complete image
entry_kept stem entry first complete settled is image may = subst (λ (i : Image). Kept stem entry first complete i) (sym (entry_images entry settled image may)) (record {
  front = λ promise also. ([], sym (append-nil promise ∙ sym (one_promise stem (reads entry) first promise is also)));
  no_less = λ a b one two. no_longer stem (reads entry) a b one two;
  sound = λ all front whole was. was;
})

-- Of a piece that agrees with the world's bytes the promised ones are the first, and all where it is complete.
module _ (all : Option Bytes) (stem : Name) (entry : Disk) (bytes : Bytes) (was : PieceSound all stem (reads entry)) where
  whole_all : reads entry stem ≡ Some bytes → all ≡ Some bytes
  whole_all whole = subst (λ (o : Option Bytes). IfStands o (λ file. all ≡ Some file)) whole was.complete

  none_first : (o : Option Bytes) → bytes ≡ [] → AreFirst o bytes
  none_first None none = none
  none_first (Some world) none = (world, ap (λ (b : Bytes). b ++ world) (sym none))

  pub promised_first : IsPromise stem (reads entry) bytes → AreFirst all bytes
  promised_first (inl whole) = subst (λ (o : Option Bytes). AreFirst o bytes) (sym (whole_all whole)) ([], sym (append-nil bytes))
  promised_first (inr part) = ⊎_elim (λ none. none_first all none) (λ some. was.promised some.0 bytes some.1) part.promised

  pub promised_all : IsPromise stem (reads entry) bytes → is_some (entry.live stem) ≡ true → all ≡ Some bytes
  promised_all (inl whole) stands = whole_all whole
  promised_all (inr part) stands = by (entry.live stem) refl
    where
      by : (o : Option File) → entry.live stem ≡ o → all ≡ Some bytes
      by None none = absurd (let x : false ≡ true = sym (ap (λ (o : Option File). is_some o) none) ∙ stands in cc)
      by (Some file) is = absurd (let x : Some (content file) ≡ None = sym (ap (option_map content) is) ∙ part.part in cc)

  pub kept_sound : IsPromise stem (reads entry) bytes → (image : Image) → Kept stem entry bytes (is_some (entry.live stem)) image → PieceSound all stem image
  kept_sound is image kept = kept.sound all (promised_first is) (promised_all is) was

none_back : (entry : Disk) → IsSettled entry → earlier entry.back ≡ []
none_back entry settled = ap earlier settled.back

firm_is_lasting : (file : File) → file.more ≡ None → file ≡ lasting_file (content file)
firm_is_lasting file none = λ i. record { sure = (sym (append-nil file.sure) ∙ ap (λ (m : Option Bytes). file.sure ++ unwrap_or m []) (sym none)) i; more = none i }

-- A piece that is complete.
pub safe_whole : (stem : Name) (entry : Disk) (file : File) → IsSettled entry → entry.live stem ≡ Some file → Safe stem stem entry (content file) true entry
safe_whole stem entry file settled stands = record {
  settled = settled;
  first = content file;
  promised = inl (ap (option_map content) stands);
  grown = ([], sym (append-nil (content file)));
  file = file;
  stands = stands;
  reads_as = refl;
  whole = λ is. firm_is_lasting file firm;
  here = inr (refl, refl);
  others = λ name apart. inr refl;
  loose = settled.loose;
  mixed = settled.mixed;
  back = subst (λ (l : List Spots). AllEarlier stem stem entry (content file) file.sure true entry.live l) (sym (none_back entry settled)) tt;
}
  where
    firm : file.more ≡ None
    firm = sym (ap (option_and_then (λ (f : File). f.more)) stands) ∙ settled.synced stem

take_all_none : (n : ℕ) → take n (let none : Bytes = [] in none) ≡ []
take_all_none n = take_all n [] (omega arith)

-- a lasting file, cut
cut_lasting : (bytes : Bytes) (len : ℕ) → len ≤ length bytes → (content (shorter len (lasting_file bytes)) ≡ take len bytes) × (len ≤ length (shorter len (lasting_file bytes)).sure)
cut_lasting bytes len le = by (nat_lt len (length (bytes ++ []))) refl
  where
    by : (b : Bool) → nat_lt len (length (bytes ++ [])) ≡ b → (content (if b then record { sure = take len bytes; more = Some (take (len - length bytes) []) } else lasting_file bytes) ≡ take len bytes) × (len ≤ length (if b then record { sure = take len bytes; more = Some (take (len - length bytes) []) } else lasting_file bytes).sure)
    by true e = (ap (λ (r : Bytes). take len bytes ++ r) (take_all_none (len - length bytes)) ∙ append-nil (take len bytes), omega (arith, length-take-le len bytes le))
    by false e = (append-nil bytes ∙ sym (take_all len bytes (all_of e)), le)
      where
        all_of : nat_lt len (length (bytes ++ [])) ≡ false → length bytes ≤ len
        all_of e = let l : length (bytes ++ []) ≡ length bytes = ap length (append-nil bytes) in grind (arith, nat_tests)

-- The greatest promise's file, cut to it.
pub safe_cut : (stem name : Name) (entry : Disk) (file : File) (digits : List ℕ) (first : Bytes) → IsSettled entry → IsNumber digits → name ≡ promising stem digits → entry.live stem ≡ None → entry.live name ≡ Some file
    → IsPromise stem (reads entry) first → number_of digits ≡ length first → first ≡ take (length first) (content file) → length first ≤ length (content file)
    → Safe stem name entry first false (cut_to name (length first) entry)
safe_cut stem name entry file digits first settled number is part stands promised count front enough = record {
  settled = settled;
  first = first;
  promised = promised;
  grown = ([], sym (append-nil first));
  file = shorter (length first) file;
  stands = put_here entry.live name (option_map (shorter (length first)) (entry.live name)) ∙ ap (option_map (shorter (length first))) stands;
  reads_as = facts.0 ∙ sym front;
  whole = λ e. absurd (cc);
  here = inl (record { part = part; digits = digits; number = number; is = is; least = omega (arith, count); most = omega (arith, count, facts.1) });
  others = λ other apart. inr (put_there entry.live name other (option_map (shorter (length first)) (entry.live name)) apart);
  loose = settled.loose;
  mixed = settled.mixed;
  back = subst (λ (l : List Spots). AllEarlier stem name entry first (shorter (length first) file).sure false (put entry.live name (option_map (shorter (length first)) (entry.live name))) l) (sym (none_back entry settled)) tt;
}
  where
    firm : file.more ≡ None
    firm = sym (ap (option_and_then (λ (f : File). f.more)) stands) ∙ settled.synced name

    facts : (content (shorter (length first) file) ≡ take (length first) (content file)) × (length first ≤ length (shorter (length first) file).sure)
    facts = subst (λ (f : File). (content (shorter (length first) f) ≡ take (length first) (content file)) × (length first ≤ length (shorter (length first) f).sure)) (sym (firm_is_lasting file firm)) (cut_lasting (content file) (length first) enough)

-- A new piece.
pub safe_new : (stem name : Name) (entry : Disk) (digits : List ℕ) → IsSettled entry → IsNumber digits → name ≡ promising stem digits → number_of digits ≡ 0 → entry.live stem ≡ None → entry.live name ≡ None
    → IsPromise stem (reads entry) [] → Safe stem name entry [] false (created name entry)
safe_new stem name entry digits settled number is zero_is part free promised = record {
  settled = settled;
  first = [];
  promised = promised;
  grown = ([], refl);
  file = empty_file;
  stands = put_here entry.live name (Some empty_file);
  reads_as = refl;
  whole = λ e. absurd (cc);
  here = inl (record { part = part; digits = digits; number = number; is = is; least = omega arith; most = omega (arith, zero_is) });
  others = λ other apart. inr (put_there entry.live name other (Some empty_file) apart);
  loose = ap (map (λ spots. put (freed entry.live name spots) name (Some (still name)))) settled.loose;
  mixed = (λ i. map (freed entry.live name) (settled.loose i ++ settled.mixed i));
  back = subst (λ (l : List Older). AllEarlier stem name entry [] [] false (put entry.live name (Some empty_file)) (earlier (map (λ older. record { touched = older.touched; names = freed entry.live name older.names }) (record { touched = name ∷ []; names = mark entry.live } ∷ l)))) (sym settled.back)
      (record { each = each; some = inl (refl, part) }, tt);
}
  where
    each : (other : Name) → IsSpot name (MayName stem entry [] [] false) (put entry.live name (Some empty_file)) other (entry.live other) (freed entry.live name (mark entry.live) other)
    each other = by (entry.live other) refl
      where
        by : (o : Option File) → entry.live other ≡ o → IsSpot name (MayName stem entry [] [] false) (put entry.live name (Some empty_file)) other (entry.live other) (option_and_then (freed_spot entry.live name) (option_map (λ (f : File). still other) o))
        by None e = tt
        by (Some f) e = elim (same_or_not name other) [
          | inl same ↦ absurd (let x : Some f ≡ None = sym e ∙ ap entry.live (sym same.1) ∙ free in cc)
          | inr apart ↦ subst (λ (b : Bool). IsSpot name (MayName stem entry [] [] false) (put entry.live name (Some empty_file)) other (entry.live other) (if b then option_map lost (entry.live name) else Some (still other))) (sym apart)
              (inr (apart, put_there entry.live name other (Some empty_file) apart))
        ]
