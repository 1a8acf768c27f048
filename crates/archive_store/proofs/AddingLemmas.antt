-- What a crash leaves while a file is put in another's place, behind the removal of what stood under its spare name.
use Rattle.std.proofs.Common.{◌≡◌, inl, inr, ⊎_elim, Bool, true, false, refl, sym, ◌∙◌, ap, subst}
use Rattle.std.specs.Prelude.{Option, Some, None, bytes_eq, Result, Ok, Err, OnOk, if◌then◌else◌}
use Rattle.folder_base.specs.Disk.{Name, Bytes, File, Disk, Image, May, put, lasting_file}
use Rattle.folder_base.specs.Story.{Story, Through}
use Rattle.folder_base.specs.declared.store_fault.StoreFault.{StoreFault}
use Rattle.folder_base.proofs.Moments.{joined, weaker}
use Rattle.folder_steps.specs.Follow.{Always, Follows, Thinner, IsLive}
use Rattle.folder_steps.specs.Make.{IsReplacing, IsReplaced}
use Rattle.folder_steps.proofs.ImageLemmas.{ends}
use Rattle.folder_steps.proofs.RemovalLemmas.{unchanged}
use Rattle.archive_store.specs.Adding.{spare_of, bytes_at, IsAdding}
use Rattle.archive_store.specs.Lines.{grown}

never : true ≡ false → ⊥
never e = cc

-- Another name than the one that may go is as before.
as_before : (spare n : Name) (before now : Option Bytes) → bytes_eq spare n ≡ false → Thinner (bytes_eq spare) n before now → now ≡ before
as_before spare n before now differs thin = ⊎_elim (λ same. same) (λ gone. absurd (never (sym gone.0 ∙ differs))) thin

module _ (spare to : Name) (bytes : Bytes) (old : Disk) where
  -- The spare file went, and no more.
  pub only_dropped : (image : Image) → Follows (May old) (Thinner (bytes_eq spare)) image → IsReplacing spare to bytes old image
  only_dropped image h = inl (record { before = h.before; possible = h.possible; each = λ n differs. as_before spare n (h.before n) (image n) differs (h.each n) })

  -- Then the new file takes its place.
  pub after_drop : (mid : Disk) → Always (Follows (May old) (Thinner (bytes_eq spare))) mid → (image : Image) → IsReplacing spare to bytes mid image → IsReplacing spare to bytes old image
  after_drop mid first image (inl loose) = let g = first loose.before loose.possible in inl (record {
    before = g.before;
    possible = g.possible;
    each = λ n differs. loose.each n differs ∙ as_before spare n (g.before n) (loose.before n) differs (g.each n);
  })
  after_drop mid first image (inr new) = let g = first new.before new.possible in inr (record {
    before = g.before;
    possible = g.possible;
    each = λ n. new.each n ∙ ap (λ (o : Option Bytes). if bytes_eq to n then Some bytes else o) (by n g (bytes_eq spare n) refl);
  })
    where
      by : (n : Name) (g : Follows (May old) (Thinner (bytes_eq spare)) new.before) (b : Bool) → bytes_eq spare n ≡ b → (if b then None else new.before n) ≡ (if b then None else g.before n)
      by n g true e = refl
      by n g false e = as_before spare n (g.before n) (new.before n) e (g.each n)

  pub replaced_after : (mid new : Disk) (result : Result (Unit {0}) StoreFault) → IsLive (put old.live spare None) mid → OnOk result (IsReplaced spare to bytes mid new) → OnOk result (IsReplaced spare to bytes old new)
  replaced_after mid new (Err fault) gone h = tt
  replaced_after mid new (Ok x) gone h = record { live = live; back = h.back; loose = h.loose; mixed = h.mixed }
    where
      by : (b : Bool) (o : Option File) → (if b then None else (if b then None else o)) ≡ (if b then None else o)
      by true o = refl
      by false o = refl

      live : (n : Name) → new.live n ≡ put (put old.live spare None) to (Some (lasting_file bytes)) n
      live n = h.live n ∙ ap (λ (o : Option File). if bytes_eq to n then Some (lasting_file bytes) else o)
          (ap (λ (o : Option File). if bytes_eq spare n then None else o) (gone n) ∙ by (bytes_eq spare n) (old.live n))

-- The removal, and then the rest.
pub put_after : (spare to : Name) (bytes : Bytes) {old mid new : Story} → Through old mid (Follows (May old.now) (Thinner (bytes_eq spare))) → Through mid new (IsReplacing spare to bytes mid.now) → Through old new (IsReplacing spare to bytes old.now)
put_after spare to bytes {old} {mid} {new} first second = joined (weaker first (only_dropped spare to bytes old.now)) (weaker second (after_drop spare to bytes old.now mid.now (ends first)))

-- Nothing was done yet.
pub not_begun : (name line : Bytes) {old new : Story} → new ≡ old → Through old new (IsAdding name line old.now)
not_begun name line {old} {new} same = weaker (unchanged (bytes_eq (spare_of name)) same) (only_dropped (spare_of name) name (grown (bytes_at old.now name) line) old.now)

-- The file is written anew, from where it was read on.
pub adding : (name line : Bytes) {old mid new : Story} {spare bytes : Bytes} → mid ≡ old → spare ≡ spare_of name → bytes ≡ grown (bytes_at old.now name) line → Through mid new (IsReplacing spare name bytes mid.now) → Through old new (IsAdding name line old.now)
adding name line {old} {mid} {new} {spare} {bytes} same spare_is bytes_is run =
    subst (λ (b : Bytes). Through old new (IsReplacing (spare_of name) name b old.now)) bytes_is
    (subst (λ (s : Bytes). Through old new (IsReplacing s name bytes old.now)) spare_is
    (subst (λ (s : Story). Through s new (IsReplacing spare name bytes s.now)) same run))
