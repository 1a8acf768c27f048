-- What a lane counts as promised is promised on the disk, and lasting.
use Rattle.std.proofs.Common.{◌≡◌, ◌⊎◌, inl, inr, ⊎_elim, ℕ, ◌≤◌, Bool, true, false, length, take, drop, refl, sym, ◌∙◌, ap, subst, arith, take-append-drop}
use Rattle.std.specs.Prelude.{Option, Some, None, IsSome, option_map, bytes_eq}
use Rattle.std.proofs.lemmas.List.{length-take-le}
use Rattle.std.proofs.lemmas.Option.{same_Some}
use Rattle.folder_base.specs.Disk.{Name, Bytes, File, Disk, content}
use Rattle.folder_base.proofs.Images.{same_or_not}
use Rattle.keep_store.specs.Promise.{number_of, promising, IsPromise, Promises}
use Rattle.keep_store.specs.Safe.{reads, IsLasting, MayName}
use Rattle.keep_store.specs.Lane.{Seen, Has, Since, PromisesPart, PromisesAtLeast}
use Rattle.keep_store.proofs.Appending.{same_place}
use Rattle.keep_store.proofs.Numerals.{not_whole, same_promising}

module _ (lane : Seen) (bytes : Bytes) (has : Has lane bytes) where
  abbrev disk : Disk
  disk = lane.world.story.now

  reads_here : reads disk has.name ≡ Some bytes
  reads_here = ap (option_map content) has.lies.stands ∙ ap (λ (b : Bytes). Some b) has.lies.reads_as

  -- A promise's name is not the complete one, which then does not stand.
  none_whole : PromisesPart lane.stem has.name (length bytes) lane.promised → reads disk lane.stem ≡ None
  none_whole part = ap (option_map content) (has.lies.only lane.stem (inl refl)
      (⊎_elim (λ same. absurd (not_whole lane.stem part.digits (sym part.is ∙ same.1))) (λ differs. differs) (same_or_not has.name lane.stem)))

  -- The promise of the disk as it reads is no shorter than what the lane counts.
  pub disk_promises : (promise : Bytes) → IsPromise lane.stem (reads disk) promise → lane.promised ≤ length promise
  disk_promises promise is = by has.promises is
    where
      by : PromisesAtLeast lane.stem has.name (length bytes) lane.promised → IsPromise lane.stem (reads disk) promise → lane.promised ≤ length promise
      by (inl at) (inl whole) =
          let same : bytes ≡ promise = same_Some bytes promise (sym reads_here ∙ ap (reads disk) at.0 ∙ whole) in
          omega (arith, at.1, ap length same)
      by (inl at) (inr part) = absurd (let e : Some bytes ≡ None = sym reads_here ∙ ap (reads disk) at.0 ∙ part.part in cc)
      by (inr named) (inl whole) = absurd (let e : Some promise ≡ None = sym whole ∙ none_whole named in cc)
      by (inr named) (inr part) =
          let count = length-take-le (number_of named.digits) bytes named.most in
          let greatest = part.greatest named.digits (take (number_of named.digits) bytes) (record {
            number = named.number;
            count = count;
            file = bytes;
            stands = ap (reads disk) (sym named.is) ∙ reads_here;
            front = (drop (number_of named.digits) bytes, sym (take-append-drop (number_of named.digits) bytes));
          }) in
          omega (arith, named.least, count, greatest)

  -- So many bytes of its file are lasting, where nothing was pending as the lane was opened.
  module _ (whole : Bool) (entry : Disk) (all : Bytes) (since : Since whole lane entry all) where
    place : since.name ≡ has.name
    place = same_place lane.stem since.name has.name all disk since.lies has.lies.named (subst (λ (o : Option File). IsSome o) (sym has.lies.stands) refl)

    stands_here : disk.live has.name ≡ Some since.safe.file
    stands_here = ap disk.live (sym place) ∙ since.safe.stands

    pub promised_lasting : (file : File) × (disk.live has.name ≡ Some file) × (lane.promised ≤ length file.sure)
    promised_lasting = (since.safe.file, stands_here, by has.promises since.safe.here)
      where
        as_many : length all ≡ length bytes
        as_many = ap length (same_Some all bytes (ap (λ (b : Bytes). Some b) (sym since.safe.reads_as) ∙ sym (ap (option_map content) stands_here) ∙ reads_here))

        by : PromisesAtLeast lane.stem has.name (length bytes) lane.promised → MayName lane.stem entry since.safe.first since.safe.file.sure whole since.name → lane.promised ≤ length since.safe.file.sure
        by (inl at) (inl lasting) = absurd (not_whole lane.stem lasting.digits (sym lasting.is ∙ place ∙ at.0))
        by (inl at) (inr done) = omega (arith, at.1, as_many, ap (λ (f : File). length f.sure) (since.safe.whole done.0))
        by (inr named) (inl lasting) =
            let same : number_of named.digits ≡ number_of lasting.digits = ap number_of (same_promising lane.stem named.digits lasting.digits (sym named.is ∙ sym place ∙ lasting.is)) in
            omega (arith, named.least, same, lasting.most)
        by (inr named) (inr done) = absurd (not_whole lane.stem named.digits (sym named.is ∙ sym place ∙ done.1))
