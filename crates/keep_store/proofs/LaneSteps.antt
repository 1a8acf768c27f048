-- What each step of a lane leaves of its file and names.
use Rattle.std.proofs.Common.{◌≡◌, ◌⊎◌, inl, inr, ⊎_elim, ℕ, ◌≤◌, Bool, false, [], ◌++◌, refl, sym, ◌∙◌, ap, subst, arith, append_assoc}
use Rattle.std.specs.Prelude.{None, option_map, unwrap_or, bytes_eq, if◌then◌else◌}
use Rattle.std.proofs.lemmas.List.{append-nil}
use Rattle.folder_base.specs.Disk.{Name, Bytes, File, Disk, content, put, longer, firm, appended, synced, renamed_apart, renamed, removed, changed}
use Rattle.folder_base.specs.Story.{Story}
use Rattle.folder_base.proofs.Images.{same_or_not, put_elim, put_here, put_there}
use Rattle.keep_store.specs.Promise.{IsNameOf, promising}
use Rattle.keep_store.specs.Lane.{Lies, PromisesAtLeast}
use Rattle.keep_store.specs.Publish.{IsMoving}

-- A change of the file alone.
pub lies_changed : (stem name : Name) (bytes new : Bytes) (change : File → File) (disk : Disk) → ((file : File) → content file ≡ bytes → content (change file) ≡ new)
    → Lies stem name bytes disk → Lies stem name new (changed name change disk)
lies_changed stem name bytes new change disk gives lies = record {
  file = change lies.file;
  stands = put_here disk.live name (option_map change (disk.live name)) ∙ ap (option_map change) lies.stands;
  reads_as = gives lies.file lies.reads_as;
  named = lies.named;
  only = λ other is apart. put_there disk.live name other (option_map change (disk.live name)) apart ∙ lies.only other is apart;
}

pub lies_appended : (stem name : Name) (bytes more : Bytes) (disk : Disk) → Lies stem name bytes disk → Lies stem name (bytes ++ more) (appended name more disk)
lies_appended stem name bytes more disk = lies_changed stem name bytes (bytes ++ more) (longer more) disk
    (λ file is. sym (append_assoc file.sure (unwrap_or file.more []) more) ∙ ap (λ (b : Bytes). b ++ more) is)

pub lies_synced : (stem name : Name) (bytes : Bytes) (disk : Disk) → Lies stem name bytes disk → Lies stem name bytes (synced name disk)
lies_synced stem name bytes disk = lies_changed stem name bytes bytes firm disk (λ file is. append-nil (content file) ∙ is)

pub lies_apart : (stem from to : Name) (bytes : Bytes) (disk : Disk) → IsNameOf stem to → bytes_eq from to ≡ false → Lies stem from bytes disk → Lies stem to bytes (renamed_apart from to disk)
lies_apart stem from to bytes disk is apart lies = record {
  file = lies.file;
  stands = put_here (put disk.live from None) to (disk.live from) ∙ lies.stands;
  reads_as = lies.reads_as;
  named = is;
  only = λ other named differs. put_there (put disk.live from None) to other (disk.live from) differs
      ∙ put_elim (λ o. o ≡ None) disk.live from None other (λ same. refl) (λ not_from. lies.only other named not_from);
}

pub lies_renamed : (stem from to : Name) (bytes : Bytes) (disk : Disk) → IsNameOf stem to → Lies stem from bytes disk → Lies stem to bytes (renamed from to disk)
lies_renamed stem from to bytes disk is lies = elim (same_or_not from to) [
  | inl same ↦ subst (λ (b : Bool). Lies stem to bytes (if b then disk else renamed_apart from to disk)) (sym same.0) (subst (λ (n : Name). Lies stem n bytes disk) same.1 lies)
  | inr differs ↦ subst (λ (b : Bool). Lies stem to bytes (if b then disk else renamed_apart from to disk)) (sym differs) (lies_apart stem from to bytes disk is differs lies)
]

-- Another of its names does not stand: so its removal changes nothing of the piece.
pub lies_removed : (stem name gone : Name) (bytes : Bytes) (disk : Disk) → bytes_eq gone name ≡ false → Lies stem name bytes disk → Lies stem name bytes (removed gone disk)
lies_removed stem name gone bytes disk apart lies = record {
  file = lies.file;
  stands = put_there disk.live gone name None apart ∙ lies.stands;
  reads_as = lies.reads_as;
  named = lies.named;
  only = λ other named differs. put_elim (λ o. o ≡ None) disk.live gone None other (λ same. refl) (λ not_gone. lies.only other named differs);
}

-- A name that is not the piece's is none of its file's.
pub apart_from : (stem name other : Name) → IsNameOf stem name → (IsNameOf stem other → ⊥) → bytes_eq name other ≡ false
apart_from stem name other is not = ⊎_elim (λ same. absurd (not (subst (λ (n : Name). IsNameOf stem n) same.1 is))) (λ differs. differs) (same_or_not name other)

-- It is as it was where the file alone was changed,
pub other_changed : (name other : Name) (change : File → File) (disk : Disk) → bytes_eq name other ≡ false → (changed name change disk).live other ≡ disk.live other
other_changed name other change disk apart = put_there disk.live name other (option_map change (disk.live name)) apart

-- and where the file got another name.
pub other_renamed : (from to other : Name) (disk : Disk) → bytes_eq from other ≡ false → bytes_eq to other ≡ false → (renamed from to disk).live other ≡ disk.live other
other_renamed from to other disk apart also = elim (same_or_not from to) [
  | inl same ↦ ap (λ (b : Bool). (if b then disk else renamed_apart from to disk).live other) same.0
  | inr differs ↦ ap (λ (b : Bool). (if b then disk else renamed_apart from to disk).live other) differs
      ∙ put_there (put disk.live from None) to other (disk.live from) also ∙ put_there disk.live from other None apart
]

-- So it is in each place where a move may end.
pub other_moving : (stem from to other : Name) (old new : Story) → IsNameOf stem from → IsNameOf stem to → IsMoving from to old new → (IsNameOf stem other → ⊥) → new.now.live other ≡ old.now.live other
other_moving stem from to other old new named_from named_to moving not = by moving.ends
  where
    from_apart : bytes_eq from other ≡ false
    from_apart = apart_from stem from other named_from not

    by : (new.now ≡ old.now) ⊎ ((new.now ≡ synced from old.now) ⊎ (new.now ≡ renamed from to (synced from old.now))) → new.now.live other ≡ old.now.live other
    by (inl same) = ap (λ (d : Disk). d.live other) same
    by (inr (inl firm_now)) = ap (λ (d : Disk). d.live other) firm_now ∙ other_changed from other firm old.now from_apart
    by (inr (inr done)) = ap (λ (d : Disk). d.live other) done ∙ other_renamed from to other (synced from old.now) from_apart (apart_from stem to other named_to not) ∙ other_changed from other firm old.now from_apart

-- A name of the same piece and a longer file promise no less.
pub promises_moved : (stem stem' name name' : Name) (size size' count count' : ℕ) → stem' ≡ stem → name ≡ name' → size ≤ size' → count' ≤ count → PromisesAtLeast stem name size count → PromisesAtLeast stem' name' size' count'
promises_moved stem stem' name name' size size' count count' stem_is name_is longer fewer (inl whole) = inl (sym name_is ∙ whole.0 ∙ sym stem_is, omega (arith, whole.1, longer, fewer))
promises_moved stem stem' name name' size size' count count' stem_is name_is longer fewer (inr part) = inr (record {
  digits = part.digits;
  number = part.number;
  is = sym name_is ∙ part.is ∙ ap (λ (s : Name). promising s part.digits) (sym stem_is);
  least = omega (arith, part.least, fewer);
  most = omega (arith, part.most, longer);
})
