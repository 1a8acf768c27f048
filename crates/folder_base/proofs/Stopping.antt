-- What a stop leaves is one of the images.
use Rattle.std.proofs.Common.{◌≡◌, ◌⊎◌, inl, inr, ⊎_elim, ℕ, Bool, true, false, List, [], ◌∷◌, ◌++◌, map, length, refl, sym, ◌∙◌, ap, subst}
use Rattle.std.specs.Prelude.{Option, Some, None, option_map, unwrap_or, nat_lt, if◌then◌else◌}
use Rattle.std.proofs.lemmas.List.{append-nil, take_at}
use Rattle.folder_base.specs.Disk.{Name, Bytes, File, Names, Spots, Older, Disk, Image, content, MayHold, MayBe, as_now, Leaves, LeavesAny, earlier, May, mark, lasting_file}
use Rattle.folder_base.specs.Log.{lasting}
use Rattle.folder_base.specs.Stop.{first_kept, filled, kept_names, stopped}
use Rattle.folder_base.proofs.Images.{marked}

either_left : (here : Bool) (live : Names) (image : Image) (spots before : Spots) (others : List Spots) → (Leaves (as_now live before) image → LeavesAny live others image)
    → Leaves (as_now live (if here then spots else before)) image → Leaves (as_now live spots) image ⊎ LeavesAny live others image
either_left true live image spots before others deeper h = inl h
either_left false live image spots before others deeper h = inr (deeper h)

-- The names in which some first changes hold are those as they are, or those before some change.
kept_left : (kept : ℕ) (live : Names) (image : Image) (spots : Spots) (back : List Older) → Leaves (as_now live (first_kept kept spots back)) image
    → Leaves (as_now live spots) image ⊎ LeavesAny live (earlier back) image
kept_left kept live image spots [] h = inl h
kept_left kept live image spots (older ∷ back) h =
    either_left (nat_lt (length back) kept) live image spots (first_kept kept older.names back) (earlier (older ∷ back)) (kept_left kept live image older.names back) h

held_bytes : (fill : ℕ) (more : Option Bytes) (sure : Bytes) → MayHold more sure (sure ++ map (λ _. fill) (unwrap_or more []))
held_bytes fill None sure = append-nil sure
held_bytes fill (Some more) sure = take_at sure (map (λ _. fill) more) (length sure) refl

whole_bytes : (fill : ℕ) (o : Option File) → MayBe o (option_map content (option_map (λ file. lasting_file (filled fill file)) o))
whole_bytes fill None = tt
whole_bytes fill (Some file) = subst (λ (b : Bytes). MayHold file.more file.sure b) (sym (append-nil (filled fill file))) (held_bytes fill file.more file.sure)

-- A crash may leave the files of a stop, whatever it kept and whatever the bytes are.
pub stopped_may : (kept fill : ℕ) (disk : Disk) → May disk (λ name. option_map content (stopped kept fill disk name))
stopped_may kept fill disk =
    let image : Image = λ name. option_map content (stopped kept fill disk name) in
    ⊎_elim
    (λ now. inl (inl (λ name. subst (λ (o : Option File). MayBe o (image name)) (marked disk.live name) (now name))))
    (λ before. inr (inl before))
    (kept_left kept disk.live image (mark disk.live) disk.back (λ name. whole_bytes fill (kept_names kept disk name)))

by_one : (fill : ℕ) (o : Option File) (bytes : Option Bytes) → MayBe (option_map (λ file. lasting_file (filled fill file)) o) bytes
    → bytes ≡ option_map content (option_map (λ file. lasting_file (filled fill file)) o)
by_one fill None None h = refl
by_one fill None (Some bytes) h = absurd h
by_one fill (Some file) None h = absurd h
by_one fill (Some file) (Some bytes) h = ap (λ (b : Bytes). Some b) (h ∙ sym (append-nil (filled fill file)))

-- Nothing else can be left of the folder that is made of them.
pub stopped_one : (kept fill : ℕ) (disk : Disk) (image : Image) → May (lasting (stopped kept fill disk)) image → (name : Name)
    → image name ≡ option_map content (stopped kept fill disk name)
stopped_one kept fill disk image (inl (inl h)) name = by_one fill (kept_names kept disk name) (image name) (h name)
stopped_one kept fill disk image (inl (inr h)) name = absurd h
stopped_one kept fill disk image (inr (inl h)) name = absurd h
stopped_one kept fill disk image (inr (inr h)) name = absurd h
