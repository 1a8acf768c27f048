-- What a crash leaves while a new file is written beside all as it was, and while it takes a name's place.
use Rattle.std.proofs.Common.{◌≡◌, ◌⊎◌, inl, inr, ⊎_elim, Bool, true, false, [], ◌++◌, refl, sym, ◌∙◌, ap, subst, arith, append_assoc}
use Rattle.std.specs.Prelude.{Option, Some, None, IsSome, option_map, option_and_then, unwrap_or, bytes_eq, Result, Ok, Err, OnOk, if◌then◌else◌, length, take}
use Rattle.std.proofs.lemmas.List.{take_all}
use Rattle.folder_base.specs.Changes.{IsSet, Comes}
use Rattle.folder_base.specs.Disk.{Name, Bytes, File, Names, still, Disk, Image, content, spot_file, May, put, freed, firm, longer, lasting_file, empty_file, changed, created, appended, synced, renamed, renamed_apart, settled}
use Rattle.folder_base.specs.Story.{Story, Next, Through, Does, DoesSome}
use Rattle.folder_base.specs.declared.store_fault.StoreFault.{StoreFault}
use Rattle.text_base.specs.declared.faults.FolderFault.{FolderFault}
use Rattle.folder_base.proofs.Images.{same_or_not, put_here, put_there, set_may}
use Rattle.folder_base.proofs.Moments.{begun, call, goes_on, stays, outcome_some, joined, weaker}
use Rattle.keep_store.specs.Publish.{IsBeforeOrMoved}
use Rattle.folder_steps.specs.Follow.{Always}
use Rattle.folder_steps.specs.Make.{filled, HasNew, Grows, IsLoose, KeepsLoose, IsReplacing, Publishes, IsReplaced}
use Rattle.folder_steps.proofs.ImageLemmas.{ends}

-- A new file leaves what was there, or this file beside names that held.
pub filled_may : (name : Name) (file : File) (disk : Disk) (image : Image) → May (filled name file disk) image → May disk image ⊎ Comes (IsSet name (Some file)) disk image
filled_may name file disk = set_may name (Some file) (λ spots. put (freed disk.live name spots) name (Some (still name))) disk
    (λ spots. ap (option_and_then (spot_file (put disk.live name (Some file)))) (put_here (freed disk.live name spots) name (Some (still name))) ∙ put_here disk.live name (Some file))
    (λ spots n differs. put_there (freed disk.live name spots) name n (Some (still name)) differs)

put_put : {V : Type 0} (m : Name → Option V) (name : Name) (v : V) (f : Option V → Option V) → put (put m name (Some v)) name (f (put m name (Some v) name)) ≡ put m name (f (Some v))
put_put {V} m name v f = λ i n. (ap (λ (o : Option V). put (put m name (Some v)) name (f o) n) (put_here m name (Some v)) ∙ by n (bytes_eq name n)) i
  where
    by : (n : Name) (b : Bool) → (if b then f (Some v) else (if b then Some v else m n)) ≡ (if b then f (Some v) else m n)
    by n true = refl
    by n false = refl

-- a new file, its content changed
pub filled_changed : (name : Name) (file : File) (change : File → File) (disk : Disk) → changed name change (filled name file disk) ≡ filled name (change file) disk
filled_changed name file change disk = ap (λ (l : Names). record (filled name file disk) { live = l }) (put_put disk.live name file (option_map change))

longer_content : (more : Bytes) (file : File) → content (longer more file) ≡ content file ++ more
longer_content more file = sym (append_assoc file.sure (unwrap_or file.more []) more)

-- A file that is new stands.
pub new_stands : (name : Name) (bytes : Bytes) (start disk : Disk) → HasNew name bytes start disk → IsSome (disk.live name)
new_stands name bytes start disk new = subst (λ (d : Disk). IsSome (d.live name)) (sym new.filled_is) (subst (λ (o : Option File). IsSome o) (sym (put_here start.live name (Some new.file))) refl)

-- Another name has what it had at the start.
pub new_beside : (name other : Name) (bytes : Bytes) (start disk : Disk) → bytes_eq name other ≡ false → HasNew name bytes start disk → disk.live other ≡ start.live other
new_beside name other bytes start disk apart new = ap (λ (d : Disk). d.live other) new.filled_is ∙ put_there start.live name other (Some new.file) apart

as_before : (name : Name) (disk : Disk) (image : Image) → May disk image → IsLoose name disk image
as_before name disk image h = record { before = image; possible = h; each = λ n differs. refl }

loose_may : (name : Name) (disk : Disk) (file : File) (image : Image) → May (filled name file disk) image → IsLoose name disk image
loose_may name disk file image h = ⊎_elim (as_before name disk image)
    (λ new. record { before = new.before; possible = inl new.held; each = λ n differs. new.by_it.others n differs })
    (filled_may name file disk image h)

pub loose_from : (name : Name) (start : Story) → Through start start (IsLoose name start.now)
loose_from name start = begun start (IsLoose name start.now) (as_before name start.now)

-- A file was made.
pub after_create : (name : Name) {start new : Story} {proper : Type 0} (result : Result (Unit {0}) FolderFault) → Does proper (created name) start new result → Through start new (IsLoose name start.now)
after_create name {start} result does = call result (loose_from name start) does (λ proper image h. loose_may name start.now empty_file image h)

pub is_made : (name : Name) {start new : Story} → Next (created name) start new → HasNew name [] start.now new.now
is_made name next = record { file = empty_file; content_is = refl; filled_is = next.now }

-- Bytes were put behind its end.
pub grows : (name : Name) (bytes : Bytes) {old new : Story} {proper : Type 0} (result : Result (Unit {0}) FolderFault) → DoesSome proper (λ n. appended name (take n bytes)) (length bytes) old new result → Grows name bytes old new
grows name bytes result does = ⊎_elim (λ same. inl same) (λ done. inr done.1) (outcome_some result does)

is_longer : (name : Name) (before more : Bytes) (start disk : Disk) → HasNew name before start disk → HasNew name (before ++ more) start (appended name more disk)
is_longer name before more start disk new = record {
  file = longer more new.file;
  content_is = longer_content more new.file ∙ ap (λ (b : Bytes). b ++ more) new.content_is;
  filled_is = ap (appended name more) new.filled_is ∙ filled_changed name new.file (longer more) start;
}

pub has_more : (name : Name) (before more : Bytes) (start : Disk) {old new : Story} → HasNew name before start old.now → Next (appended name (take (length more) more)) old new → HasNew name (before ++ more) start new.now
has_more name before more start {old} {new} had next =
    subst (λ (d : Disk). HasNew name (before ++ more) start d) (sym (next.now ∙ ap (λ (b : Bytes). appended name b old.now) (take_all (length more) more (omega arith)))) (is_longer name before more start old.now had)

pub grown_loose : (name : Name) (more : Bytes) {old new : Story} → Grows name more old new → KeepsLoose name old new
unfolding is_longer
grown_loose name more (inl same) start bytes had run = stays run same
grown_loose name more {old} (inr done) start bytes had run =
    goes_on run done.next (λ image h. loose_may name start.now (longer (take done.count more) had.file) image (subst (λ (d : Disk). May d image) (is_longer name bytes (take done.count more) start.now old.now had).filled_is h))

-- Another name keeps what it had,
pub grows_beside : (name other : Name) (more : Bytes) {old new : Story} → bytes_eq name other ≡ false → Grows name more old new → new.now.live other ≡ old.now.live other
grows_beside name other more apart (inl same) = ap (λ (s : Story). s.now.live other) same
grows_beside name other more {old} apart (inr done) = ap (λ (d : Disk). d.live other) done.next.now ∙ put_there old.now.live name other (option_map (longer (take done.count more)) (old.now.live name)) apart

-- and the file still stands.
pub grows_stands : (name : Name) (more : Bytes) {old new : Story} → Grows name more old new → IsSome (old.now.live name) → IsSome (new.now.live name)
grows_stands name more (inl same) stands = subst (λ (s : Story). IsSome (s.now.live name)) (sym same) stands
grows_stands name more {old} (inr done) stands =
    subst (λ (d : Disk). IsSome (d.live name)) (sym done.next.now) (subst (λ (o : Option File). IsSome o) (sym (put_here old.now.live name (option_map (longer (take done.count more)) (old.now.live name)))) (by (old.now.live name) stands))
  where
    by : (o : Option File) → IsSome o → IsSome (option_map (longer (take done.count more)) o)
    by None none = none
    by (Some file) is = refl

-- the file of a name that stands
pub file_of : (o : Option File) → IsSome o → (file : File) × (o ≡ Some file)
file_of None none = absurd (let x : IsSome {T = File} None = none in cc)
file_of (Some file) is = (file, refl)

-- The names once a file was renamed, whether to its own name or to another.
pub renamed_live : (from to : Name) (disk : Disk) (n : Name) → (renamed from to disk).live n ≡ put (put disk.live from None) to (disk.live from) n
renamed_live from to disk n = elim (same_or_not from to) [
  | inl same ↦ ap (λ (b : Bool). (if b then disk else renamed_apart from to disk).live n) same.0 ∙ elim (same_or_not to n) [
    | inl here ↦ ap disk.live (sym (same.1 ∙ here.1)) ∙ sym (ap (λ (b : Bool). if b then disk.live from else put disk.live from None n) here.0)
    | inr there ↦ sym (put_there (put disk.live from None) to n (disk.live from) there ∙ put_there disk.live from n None (ap (λ (m : Name). bytes_eq m n) same.1 ∙ there))
  ]
  | inr apart ↦ ap (λ (b : Bool). (if b then disk else renamed_apart from to disk).live n) apart
]

module _ (spare to : Name) (bytes : Bytes) (start mid : Disk) (new : HasNew spare bytes start mid) where
  -- what publishing the new file leaves
  pub published : Always (IsLoose spare start) mid → (image : Image) → IsBeforeOrMoved spare to mid image → IsReplacing spare to bytes start image
  published first image (inl h) = inl (first image h)
  published first image (inr h) = let g = first h.before h.possible in inr (record {
    before = g.before;
    possible = g.possible;
    each = λ n. h.moved n ∙ ap (λ (b : Bytes). put (put h.before spare None) to (Some b) n) content_is
        ∙ ap (λ (o : Option Bytes). if bytes_eq to n then Some bytes else o) (by n g (bytes_eq spare n) refl);
  })
    where
      file_is : Some h.file ≡ Some new.file
      file_is = sym h.stood ∙ ap (λ (d : Disk). d.live spare) new.filled_is ∙ put_here start.live spare (Some new.file)

      content_is : content h.file ≡ bytes
      content_is = same h.file new.file file_is ∙ new.content_is
        where
          same : (a b : File) → Some a ≡ Some b → content a ≡ content b
          same a b e = ap (λ (o : Option File). read o) e
            where
              read : Option File → Bytes
              read None = []
              read (Some f) = content f

      by : (n : Name) (g : IsLoose spare start h.before) (b : Bool) → bytes_eq spare n ≡ b → (if b then None else h.before n) ≡ (if b then None else g.before n)
      by n g true e = refl
      by n g false e = g.each n e

  pub is_replaced : (last : Disk) → last ≡ settled (renamed spare to (synced spare mid)) → IsReplaced spare to bytes start last
  is_replaced last made = record {
    live = λ n. ap (λ (d : Disk). d.live n) made ∙ renamed_live spare to (synced spare mid) n
        ∙ ap (λ (d : Disk). put (put d.live spare None) to (d.live spare) n) (ap (synced spare) new.filled_is ∙ filled_changed spare new.file firm start)
        ∙ ap (λ (o : Option File). put (put (put start.live spare (Some (firm new.file))) spare None) to o n) (put_here start.live spare (Some (firm new.file)))
        ∙ ap (λ (b : Bytes). put (put (put start.live spare (Some (firm new.file))) spare None) to (Some (lasting_file b)) n) new.content_is
        ∙ by (bytes_eq to n) (bytes_eq spare n) n;
    back = ap (λ (d : Disk). d.back) made;
    loose = ap (λ (d : Disk). d.loose) made;
    mixed = ap (λ (d : Disk). d.mixed) made;
  }
    where
      by : (a b : Bool) (n : Name) → (if a then Some (lasting_file bytes) else (if b then None else (if b then Some (firm new.file) else start.live n))) ≡ (if a then Some (lasting_file bytes) else (if b then None else start.live n))
      by true b n = refl
      by false true n = refl
      by false false n = refl

-- Publishing it, from the start of the new file on.
pub publishes : (spare to : Name) {old new : Story} → Through old new (IsBeforeOrMoved spare to old.now) → Publishes spare to old new
publishes spare to {old} run start bytes had first =
    joined (weaker first (λ image h. inl h)) (weaker run (λ image h. published spare to bytes start.now old.now had (ends first) image h))

pub replaced_ok : (spare to : Name) (bytes : Bytes) (start old new : Disk) (result : Result (Unit {0}) StoreFault) → HasNew spare bytes start old → OnOk result (new ≡ settled (renamed spare to (synced spare old))) → OnOk result (IsReplaced spare to bytes start new)
replaced_ok spare to bytes start old new (Ok x) had made = is_replaced spare to bytes start old had new made
replaced_ok spare to bytes start old new (Err fault) had made = tt
