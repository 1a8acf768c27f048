-- How a run of calls goes on.
use Rattle.std.proofs.Common.{◌≡◌, ◌⊎◌, inl, inr, ⊎_elim, ℕ, ◌-◌, ◌≤◌, List, [], ◌∷◌, ◌++◌, length, take, refl, sym, ◌∙◌, ap, subst, arith, append_assoc, length-append}
use Rattle.std.proofs.lemmas.List.{take_at}
use Rattle.folder_base.specs.Disk.{Disk, Image, May}
use Rattle.std.specs.Prelude.{Result, Ok, Err}
use Rattle.folder_base.specs.Story.{Moment, whole, Story, MayEver, MaySince, clock, Next, Through, Does, DoneInPart, DoesSome}
use Rattle.text_base.specs.declared.faults.FolderFault.{FolderFault}
use Rattle.text_base.specs.declared.faults.FolderFault.TheVariants.{Failed, OutOfMemory}

-- before the first call
pub begun : (story : Story) (P : Image → Type 0) → ((image : Image) → May story.now image → P image) → Through story story P
begun story P here = record { more = []; past = refl; each = λ image h. ⊎_elim (here image) (λ none. absurd none) h }

-- one step more, after which a crash leaves what has P
pub goes_on : {step : Disk → Disk} {old mid new : Story} {P : Image → Type 0} → Through old mid P → Next step mid new → ((image : Image) → May (step mid.now) image → P image) → Through old new P
goes_on {step} {old} {mid} {new} {P} so_far next here = record {
  more = whole mid.now ∷ so_far.more;
  past = next.past ∙ ap (λ (l : List Moment). whole mid.now ∷ l) so_far.past;
  each = λ image h. ⊎_elim (λ now. here image (subst (λ (d : Disk). May d image) next.now now)) (so_far.each image) h;
}

-- none, or one
pub stays : {old mid new : Story} {P : Image → Type 0} → Through old mid P → new ≡ mid → Through old new P
stays {old} {mid} {new} {P} so_far same = subst (λ (s : Story). Through old s P) (sym same) so_far

pub may_go_on : {step : Disk → Disk} {old mid new : Story} {P : Image → Type 0} → Through old mid P → (new ≡ mid) ⊎ Next step mid new → ((image : Image) → May (step mid.now) image → P image) → Through old new P
may_go_on so_far (inl same) here = stays so_far same
may_go_on so_far (inr next) here = goes_on so_far next here

ever_append : (front back : List Moment) (image : Image) → MayEver (front ++ back) image → MayEver front image ⊎ MayEver back image
ever_append [] back image h = inr h
ever_append (m ∷ front) back image (inl h) = inl (inl h)
ever_append (m ∷ front) back image (inr h) = ⊎_elim (λ a. inl (inr a)) (λ b. inr b) (ever_append front back image h)

-- one run after another
pub joined : {old mid new : Story} {P : Image → Type 0} → Through old mid P → Through mid new P → Through old new P
joined {old} {mid} {new} {P} first second = record {
  more = second.more ++ first.more;
  past = second.past ∙ ap (λ (l : List Moment). second.more ++ l) first.past ∙ sym (append_assoc second.more first.more old.past);
  each = λ image h. ⊎_elim (second.each image) (λ earlier. first.each image (inr earlier)) (ever_append (whole new.now ∷ second.more) first.more image h);
}

pub weaker : {old new : Story} {P Q : Image → Type 0} → Through old new P → ((image : Image) → P image → Q image) → Through old new Q
weaker run weak = record { more = run.more; past = run.past; each = λ image h. weak image (run.each image h) }

first_of_run : {old new : Story} {P : Image → Type 0} (run : Through old new P) → take (length new.past - length old.past) new.past ≡ run.more
first_of_run {old} {new} run =
    ap (λ (l : List Moment). take (length l - length old.past) l) run.past ∙ take_at run.more old.past (length (run.more ++ old.past) - length old.past) (omega (arith, length-append run.more old.past))

-- two facts of one run
pub both : {old new : Story} {P Q : Image → Type 0} → Through old new P → Through old new Q → Through old new (λ image. P image × Q image)
both a b = record {
  more = a.more;
  past = a.past;
  each = λ image h. (a.each image h, b.each image (⊎_elim (λ now. inl now) (λ past. inr (subst (λ (l : List Moment). MayEver l image) (sym (first_of_run a) ∙ first_of_run b) past)) h));
}

-- what it says of the clock
pub since : {old new : Story} {P : Image → Type 0} → Through old new P → (image : Image) → MaySince (clock old) new image → P image
since {old} {new} {P} run image h =
    run.each image (⊎_elim (λ now. inl now) (λ past. inr (subst (λ (l : List Moment). MayEver l image) (first_of_run run) past)) h)

-- a call did nothing or its step
pub outcome : {step : Disk → Disk} {proper : Type 0} {old new : Story} (result : Result (Unit {0}) FolderFault) → Does proper step old new result → (new ≡ old) ⊎ (proper × Next step old new)
outcome (Ok x) does = inr (does.was_proper, does.done)
outcome (Err Failed) does = does.failed refl
outcome (Err OutOfMemory) does = inl (does.refused refl)

-- one call more
pub call : {step : Disk → Disk} {proper : Type 0} {old mid new : Story} {P : Image → Type 0} (result : Result (Unit {0}) FolderFault) → Through old mid P → Does proper step mid new result
    → (proper → (image : Image) → May (step mid.now) image → P image) → Through old new P
call result so_far does here = ⊎_elim (λ same. stays so_far same) (λ done. goes_on so_far done.1 (here done.0)) (outcome result does)

pub outcome_some : {step : ℕ → Disk → Disk} {proper : Type 0} {all : ℕ} {old new : Story} (result : Result (Unit {0}) FolderFault) → DoesSome proper step all old new result → (new ≡ old) ⊎ (proper × DoneInPart step all old new)
outcome_some {step} {proper} {all} (Ok x) does = inr (does.was_proper, record { count = all; within = omega arith; next = does.done })
outcome_some (Err Failed) does = does.failed refl
outcome_some (Err OutOfMemory) does = inl (does.refused refl)

pub call_some : {step : ℕ → Disk → Disk} {proper : Type 0} {all : ℕ} {old mid new : Story} {P : Image → Type 0} (result : Result (Unit {0}) FolderFault) → Through old mid P → DoesSome proper step all mid new result
    → (proper → (n : ℕ) → n ≤ all → (image : Image) → May (step n mid.now) image → P image) → Through old new P
call_some result so_far does here = ⊎_elim (λ same. stays so_far same) (λ done. goes_on so_far done.1.next (here done.0 done.1.count done.1.within)) (outcome_some result does)
