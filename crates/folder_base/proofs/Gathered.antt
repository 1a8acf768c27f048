-- What was possible from before `fan` to after `gather`, where the folder itself was left alone between them.
use Rattle.std.proofs.Common.{◌≡◌, ◌⊎◌, inl, inr, ⊎_elim, ℕ, ◌-◌, Bool, true, not, List, [], ◌∷◌, ◌++◌, map, length, take, drop, refl, sym, ◌∙◌, ap, subst, arith}
use Rattle.std.specs.Prelude.{⊤, Some}
use Rattle.std.proofs.lemmas.List.{append-nil}
use Rattle.folder_base.specs.Disk.{Name, Disk, Image, May}
use Rattle.folder_base.specs.Parts.{is_part, is_in_some, together, AreApart}
use Rattle.folder_base.specs.Story.{Moment, whole, apart, Story, World, MayAny, MayEver, MayAt, ShowsEach, Through, Fans, Gathers, disks_of, stem_of, stories, recent, ancient, time_apart, gathered, part_of, handed_part}
use Rattle.folder_base.proofs.Disjoint.{disjoint}
use Rattle.folder_base.proofs.Parted.{OneOf, EachOf, AreDisjoint, stems_of, together_shows, within_may}

-- What `gather` asks of the parts holds as `fan` hands them out.
pub handed_out : (old : World) (stems : List Name) → map (λ part. part.part) (map (part_of old) stems) ≡ map (λ part. Some part) (map (handed_part old) stems)
handed_out old [] = refl
handed_out old (stem ∷ stems) = ap (λ l. Some (handed_part old stem) ∷ l) (handed_out old stems)

-- at each part's names, the image is one that has what is asked of that part
abbrev pub EachHas : (Name → Image → Type 0) → List Name → Image → Type 0
EachHas P [] image = ⊤
EachHas P (stem ∷ stems) image = OneOf (P stem) (is_part stem) image × EachHas P stems image

-- a part with this stem was handed out without a past, and each image since then has what is asked of it
pub record Kept (P : Name → Image → Type 0) (stem : Name) (part : World) : Type 0 where
  pub is : stem_of part ≡ stem
  pub birth : Disk
  pub moments : Through (record { now = birth; past = [] }) part.story (P stem)

abbrev pub AllKept : (Name → Image → Type 0) → List Name → List World → Type 0
AllKept P [] [] = ⊤
AllKept P [] (part ∷ parts) = ⊥
AllKept P (stem ∷ stems) [] = ⊥
AllKept P (stem ∷ stems) (part ∷ parts) = Kept P stem part × AllKept P stems parts

ever_any : (past : List Moment) (image : Image) → MayAny (disks_of past) image → MayEver past image
ever_any [] image h = h
ever_any (whole disk ∷ past) image (inl h) = inl h
ever_any (whole disk ∷ past) image (inr h) = inr (ever_any past image h)
ever_any (apart rest parts ∷ past) image h = inr (ever_any past image h)

-- Each moment of a part that was handed out without a past leaves what has P alone.
pub part_ever : {P : Image → Type 0} (birth : Disk) (story : Story) → Through (record { now = birth; past = [] }) story P → (image : Image) → MayAny (story.now ∷ disks_of story.past) image → P image
part_ever birth story run image (inl now) = run.each image (inl now)
part_ever birth story run image (inr past) = run.each image (inr (subst (λ (l : List Moment). MayEver l image) (run.past ∙ append-nil run.more) (ever_any story.past image past)))

module _ (P : Name → Image → Type 0) where
  abbrev nows : List World → List (Name × Disk)
  nows parts = map (λ each. (each.0, each.1.now)) (stories parts)

  abbrev times : List World → List (Name × List Disk)
  times parts = map (λ part. (part.0, part.1.now ∷ disks_of part.1.past)) (stories parts)

  stems_are : (stems : List Name) (parts : List World) → AllKept P stems parts → stems_of (nows parts) ≡ stems
  stems_are [] [] kept = refl
  stems_are [] (part ∷ parts) kept = absurd kept
  stems_are (stem ∷ stems) [] kept = absurd kept
  stems_are (stem ∷ stems) (part ∷ parts) kept = λ i. kept.0.is i ∷ stems_are stems parts kept.1 i

  time_stems : (parts : List World) → map (λ part. part.0) (times parts) ≡ stems_of (nows parts)
  time_stems [] = refl
  time_stems (part ∷ parts) = ap (λ (l : List Name). stem_of part ∷ l) (time_stems parts)

  nows_have : (stems : List Name) (parts : List World) (image : Image) → AllKept P stems parts → EachOf (λ stem disk. May disk) (nows parts) image → EachHas P stems image
  nows_have [] parts image kept each = tt
  nows_have (stem ∷ stems) [] image kept each = absurd kept
  nows_have (stem ∷ stems) (part ∷ parts) image kept each = (
    record {
      one = each.0.one;
      possible = part_ever kept.0.birth part.story kept.0.moments each.0.one (inl each.0.possible);
      agrees = λ n e. each.0.agrees n (ap (λ (s : Name). is_part s n) kept.0.is ∙ e);
    },
    nows_have stems parts image kept.1 each.1,
  )

  times_have : (stems : List Name) (parts : List World) (image : Image) → AllKept P stems parts → ShowsEach (times parts) image → EachHas P stems image
  times_have [] parts image kept each = tt
  times_have (stem ∷ stems) [] image kept each = absurd kept
  times_have (stem ∷ stems) (part ∷ parts) image kept each = (
    record {
      one = each.0.one;
      possible = part_ever kept.0.birth part.story kept.0.moments each.0.one each.0.possible;
      agrees = λ n e. each.0.agrees n (ap (λ (s : Name). is_part s n) kept.0.is ∙ e);
    },
    times_have stems parts image kept.1 each.1,
  )

  -- an image of before, at the names that are no part's, with each part as it may have been
  pub record IsCrewed (stems : List Name) (disk : Disk) (image : Image) : Type 0 where
    pub rest : OneOf (May disk) (λ name. not (is_in_some stems name)) image
    pub parts : EachHas P stems image

  module _ (stems : List Name) (handed parts : List World) (before fanned new : World) (fans : Fans stems before handed fanned) (kept : AllKept P stems parts) (are_apart : AreApart stems) where
    rest_is : (image : Image) → May fanned.story.now image → OneOf (May before.story.now) (λ name. not (is_in_some stems name)) image
    rest_is image h = within_may (λ name. not (is_in_some stems name)) before.story.now image (subst (λ (d : Disk). May d image) fans.now h)

    none_since : length fanned.story.past - fanned.since ≡ 0
    none_since = omega (arith, fans.since)

    via : (mine : Name → Bool) (image one : Image) → ((n : Name) → mine n ≡ true → image n ≡ one n) → OneOf (May before.story.now) mine one → OneOf (May before.story.now) mine image
    via mine image one same has = record { one = has.one; possible = has.possible; agrees = λ n e. same n e ∙ has.agrees n e }

    now_is : (image : Image) → May (together fanned.story.now (nows parts)) image → IsCrewed stems before.story.now image
    now_is image h =
        let stems_same = stems_are stems parts kept in
        let both = together_shows fanned.story.now (nows parts) (subst AreDisjoint (sym stems_same) (disjoint stems are_apart)) image h in
        record {
          rest = via (λ name. not (is_in_some stems name)) image both.0.one (λ n e. both.0.agrees n (ap (λ (l : List Name). not (is_in_some l n)) stems_same ∙ e)) (rest_is both.0.one both.0.possible);
          parts = nows_have stems parts image kept both.1;
        }

    time_is : (image : Image) → MayAt (apart (fanned.story.now ∷ disks_of (recent fanned.since fanned.story)) (times parts)) image → IsCrewed stems before.story.now image
    time_is image shows = record {
      rest = via (λ name. not (is_in_some stems name)) image shows.0.one
          (λ n e. shows.0.agrees n (ap (λ (l : List Name). not (is_in_some l n)) (time_stems parts ∙ stems_are stems parts kept) ∙ e))
          (rest_is shows.0.one (⊎_elim (λ now. now) (λ past. absurd (subst (λ (n : ℕ). MayAny (disks_of (take n fanned.story.past)) shows.0.one) none_since past)) shows.0.possible));
      parts = times_have stems parts image kept shows.1;
    }

    -- Each image from before `fan` to after `gather` is one of before, or has each part as it may have been.
    pub crewed : Gathers parts fanned new → Through before.story new.story (λ image. May before.story.now image ⊎ IsCrewed stems before.story.now image)
    crewed gathers = by parts refl
      where
        none_recent : (m : Moment) → map (λ _. m) (recent fanned.since fanned.story) ++ ancient fanned.since fanned.story ≡ fanned.story.past
        none_recent m = subst (λ (n : ℕ). map (λ _. m) (take n fanned.story.past) ++ drop n fanned.story.past ≡ fanned.story.past) (sym none_since) refl

        by : (all : List World) → parts ≡ all → Through before.story new.story (λ image. May before.story.now image ⊎ IsCrewed stems before.story.now image)
        by [] is =
            let same : new.story ≡ fanned.story = gathers.story ∙ ap (λ (l : List World). gathered fanned.since (stories l) fanned.story) is in
            record {
              more = whole before.story.now ∷ [];
              past = ap (λ (s : Story). s.past) same ∙ fans.past;
              each = λ image h. ⊎_elim
                  (λ now. inr (now_is image (subst (λ (l : List World). May (together fanned.story.now (nows l)) image) (sym is) (subst (λ (s : Story). May s.now image) same now))))
                  (λ past. ⊎_elim (λ old. inl old) (λ none. absurd none) past) h;
            }
        by (part ∷ others) is =
            let same : new.story ≡ gathered fanned.since (stories (part ∷ others)) fanned.story = gathers.story ∙ ap (λ (l : List World). gathered fanned.since (stories l) fanned.story) is in
            let time : Moment = time_apart fanned.since (stories (part ∷ others)) fanned.story in
            record {
              more = time ∷ whole before.story.now ∷ [];
              past = ap (λ (s : Story). s.past) same ∙ ap (λ (l : List Moment). time ∷ l) (none_recent time ∙ fans.past);
              each = λ image h. ⊎_elim
                  (λ now. inr (now_is image (subst (λ (l : List World). May (together fanned.story.now (nows l)) image) (sym is) (subst (λ (s : Story). May s.now image) same now))))
                  (λ past. ⊎_elim
                  (λ at. inr (time_is image (subst (λ (l : List World). MayAt (apart (fanned.story.now ∷ disks_of (recent fanned.since fanned.story)) (times l)) image) (sym is) at)))
                  (λ old. ⊎_elim (λ o. inl o) (λ none. absurd none) old) past) h;
            }
