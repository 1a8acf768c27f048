-- What is asked of each name by itself, through a change of one file.
-- Where every image that a crash may leave has at each name what A asks there, so it is after the change.
use Rattle.std.proofs.Common.{◌≡◌, inl, inr, List, [], ◌∷◌, refl, sym, ◌∙◌, ap, subst}
use Rattle.std.specs.Prelude.{Option, Some, None, ⊤, option_map, option_and_then}
use Rattle.folder_base.specs.Disk.{Name, Bytes, File, Names, Spot, still, lost, Spots, Disk, Image, content, MayBe, spot_file, as_now, Leaves, LeavesAny, earlier, May, put, changed}
use Rattle.folder_base.proofs.Images.{same_or_not, put_here, put_there, put_elim, content_may}

module _ (A : Name → Option Bytes → Type 0) where
  abbrev pub At : Image → Type 0
  At image = (n : Name) → A n (image n)

  -- what holds of all images holds of each value that a name may have
  pub at_one : (names : Names) → ((image : Image) → Leaves names image → At image) → (n : Name) (o : Option Bytes) → MayBe (names n) o → A n o
  at_one names all n o may = subst (λ (v : Option Bytes). A n v) (put_here (λ m. option_map content (names m)) n o) (all (put (λ m. option_map content (names m)) n o) possible n)
    where
      possible : (m : Name) → MayBe (names m) (put (λ m. option_map content (names m)) n o m)
      possible m = put_elim (λ v. MayBe (names m) v) (λ m. option_map content (names m)) n o m
          (λ same. subst (λ (x : Name). MayBe (names x) o) same may) (λ differs. content_may (names m))

  -- where the file goes by this name in an earlier map, its new bytes may be there
  abbrev pub Allows : Name → Option File → Spots → Type 0
  Allows current file spots = (n : Name) → spots n ≡ Some (still current) → (o : Option Bytes) → MayBe file o → A n o

  abbrev pub AllAllow : Name → Option File → List Spots → Type 0
  AllAllow current file [] = ⊤
  AllAllow current file (spots ∷ back) = Allows current file spots × AllAllow current file back

  module _ (live : Names) (current : Name) (file : Option File) (here : (o : Option Bytes) → MayBe file o → A current o) where
    now_changed : ((image : Image) → Leaves live image → At image) → (image : Image) → Leaves (put live current file) image → At image
    now_changed all image h n = elim (same_or_not current n) [
      | inl same ↦ subst (λ (x : Name). A x (image x)) same.1 (here (image current) (subst (λ (f : Option File). MayBe f (image current)) (put_here live current file) (h current)))
      | inr differs ↦ at_one live all n (image n) (subst (λ (f : Option File). MayBe f (image n)) (put_there live current n file differs) (h n))
    ]

    one_changed : (spots : Spots) → Allows current file spots → ((image : Image) → Leaves (as_now live spots) image → At image) → (image : Image) → Leaves (as_now (put live current file) spots) image → At image
    one_changed spots allows all image h n = by (spots n) refl
      where
        point : MayBe (as_now live spots n) (image n) → A n (image n)
        point may = at_one (as_now live spots) all n (image n) may

        from : (o : Option Spot) → spots n ≡ o → MayBe (option_and_then (spot_file (put live current file)) o) (image n)
        from o e = subst (λ (p : Option Spot). MayBe (option_and_then (spot_file (put live current file)) p) (image n)) e (h n)

        into : (o : Option Spot) → spots n ≡ o → MayBe (option_and_then (spot_file live) o) (image n) → A n (image n)
        into o e may = point (subst (λ (p : Option Spot). MayBe (option_and_then (spot_file live) p) (image n)) (sym e) may)

        by : (o : Option Spot) → spots n ≡ o → A n (image n)
        by None e = into None e (from None e)
        by (Some (lost gone)) e = into (Some (lost gone)) e (from (Some (lost gone)) e)
        by (Some (still other)) e = elim (same_or_not current other) [
          | inl same ↦ allows n (e ∙ ap (λ (m : Name). Some (still m)) (sym same.1)) (image n) (subst (λ (f : Option File). MayBe f (image n)) (ap (put live current file) (sym same.1) ∙ put_here live current file) (from (Some (still other)) e))
          | inr differs ↦ into (Some (still other)) e (subst (λ (f : Option File). MayBe f (image n)) (put_there live current other file differs) (from (Some (still other)) e))
        ]

    any_changed : (back : List Spots) → AllAllow current file back → ((image : Image) → LeavesAny live back image → At image) → (image : Image) → LeavesAny (put live current file) back image → At image
    any_changed [] allow all image h = absurd h
    any_changed (spots ∷ back) allow all image (inl h) = one_changed spots allow.0 (λ i l. all i (inl l)) image h
    any_changed (spots ∷ back) allow all image (inr h) = any_changed back allow.1 (λ i l. all i (inr l)) image h

  -- so in each of the earlier names
  pub record Allow (current : Name) (file : Option File) (disk : Disk) : Type 0 where
    pub back : AllAllow current file (earlier disk.back)
    pub loose : AllAllow current file disk.loose
    pub mixed : AllAllow current file disk.mixed

  -- An append, a cut or a sync keeps what is asked of each name, where the new file may stand under each name that it has or had.
  pub changed_keeps : (disk : Disk) (current : Name) (change : File → File) → ((image : Image) → May disk image → At image)
      → ((o : Option Bytes) → MayBe (option_map change (disk.live current)) o → A current o) → Allow current (option_map change (disk.live current)) disk
      → (image : Image) → May (changed current change disk) image → At image
  changed_keeps disk current change always here allow image (inl (inl h)) =
      now_changed disk.live current (option_map change (disk.live current)) here (λ i l. always i (inl (inl l))) image h
  changed_keeps disk current change always here allow image (inl (inr h)) =
      any_changed disk.live current (option_map change (disk.live current)) here disk.loose allow.loose (λ i l. always i (inl (inr l))) image h
  changed_keeps disk current change always here allow image (inr (inl h)) =
      any_changed disk.live current (option_map change (disk.live current)) here (earlier disk.back) allow.back (λ i l. always i (inr (inl l))) image h
  changed_keeps disk current change always here allow image (inr (inr h)) =
      any_changed disk.live current (option_map change (disk.live current)) here disk.mixed allow.mixed (λ i l. always i (inr (inr l))) image h
