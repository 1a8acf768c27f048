-- Where each image has what a name reads as, its file is synced.
use Rattle.std.proofs.Common.{◌≡◌, ◌⊎◌, inl, inr, ⊎_elim, ℕ, Bool, true, false, List, [], ◌∷◌, ◌++◌, length, take, refl, sym, ◌∙◌, ap, subst, arith, length-append}
use Rattle.std.specs.Prelude.{Option, Some, None, option_map, option_and_then, unwrap_or, IsTrue, if◌then◌else◌}
use Rattle.std.proofs.lemmas.List.{take_at}
use Rattle.std.proofs.lemmas.Option.{same_Some}
use Rattle.folder_base.specs.Disk.{Name, Bytes, File, Disk, Image, content, MayHold, MayBe, Leaves, May, put, settled, IsSettled}
use Rattle.folder_base.specs.Parts.{is_part, inside}
use Rattle.folder_base.proofs.Images.{put_here, put_elim, content_may}

-- one byte more than what is read
abbrev longer_by : File → Bytes → Bytes
longer_by file more = file.sure ++ (more ++ 0 ∷ [])

pub synced_as_read : (disk : Disk) (name : Name) → ((image : Image) → May disk image → image name ≡ option_map content (disk.live name)) → option_and_then (λ file. file.more) (disk.live name) ≡ None
synced_as_read disk name same = by (disk.live name) refl
  where
    by : (o : Option File) → disk.live name ≡ o → option_and_then (λ file. file.more) o ≡ None
    by None e = refl
    by (Some file) e = inner file.more refl
      where
        inner : (m : Option Bytes) → file.more ≡ m → file.more ≡ None
        inner None is = is
        inner (Some more) is = absurd (omega (arith, ap length same_bytes, length-append file.sure (more ++ 0 ∷ []), length-append more (0 ∷ []), length-append file.sure more))
          where
            image : Image
            image = put (λ n. option_map content (disk.live n)) name (Some (longer_by file more))

            possible : Leaves disk.live image
            possible n = put_elim (λ o. MayBe (disk.live n) o) (λ n. option_map content (disk.live n)) name (Some (longer_by file more)) n
                (λ here. subst (λ (o : Option File). MayBe o (Some (longer_by file more))) (sym (ap disk.live (sym here) ∙ e))
                (subst (λ (o : Option Bytes). MayHold o file.sure (longer_by file more)) (sym is) (take_at file.sure (more ++ 0 ∷ []) (length file.sure) refl)))
                (λ there. content_may (disk.live n))

            same_bytes : longer_by file more ≡ file.sure ++ more
            same_bytes = same_Some (longer_by file more) (file.sure ++ more)
                (sym (put_here (λ n. option_map content (disk.live n)) name (Some (longer_by file more))) ∙ same image (inl (inl possible)) ∙ ap (option_map content) e
                ∙ ap (λ (o : Option Bytes). Some (file.sure ++ unwrap_or o [])) is)

-- A part that is handed out right behind a settle has nothing pending, where each image had what its names read as.
pub part_settled : (stem : Name) (disk : Disk) → ((image : Image) → May (settled disk) image → (name : Name) → IsTrue (is_part stem name) → image name ≡ option_map content (disk.live name))
    → IsSettled (inside stem (settled disk))
part_settled stem disk as_read = record {
  back = refl;
  loose = refl;
  mixed = refl;
  synced = λ name. by name (is_part stem name) refl;
}
  where
    by : (name : Name) (v : Bool) → is_part stem name ≡ v → option_and_then (λ file. file.more) (if v then disk.live name else None) ≡ None
    by name true mine = synced_as_read (settled disk) name (λ image may. as_read image may name mine)
    by name false other = refl
