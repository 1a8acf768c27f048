-- What is known of the formats of an item.
use Rattle.std.proofs.Common.{◌≡◌, ◌⊎◌, inl, inr, ℕ, zero, suc, ◌+◌, ◌<◌, List, [], ◌∷◌, Bool, true, false, not, cond, Option, Some, None, length, get_or, set, drop, drop-cons, add-one, refl, sym, ◌∙◌, ap}
use Rattle.std.specs.Prelude.{All, is_some, slice_get}
use Rattle.std.specs.List.{position_from}
use Rattle.std.specs.Option.{option_map_or}
use Rattle.std.proofs.lemmas.Iterator.Adapters.{position_from-zero}
use Rattle.std.proofs.lemmas.Option.{slice_get_within, get_or_from_slice_get}
use Rattle.std.proofs.lemmas.List.{length-set}
use Rattle.info_item.specs.Item.{Format}
use Rattle.job_pieces.specs.Pieces.{pieces_of, can_fetch}
use Rattle.job_plan.specs.Draft.{part_without_pieces}
use Rattle.job_plan.specs.Fetchable.{Told}
use Rattle.job_plan.specs.declared.fetchable.Fetchable.{Fetchable}

-- the answer about a format
abbrev Answer : Type 0
Answer = Option Bool

none_known : (answers : List Answer) → All (λ answer. answer ≡ None) answers → (place : ℕ) (can : Bool) → slice_get answers place ≡ Some (Some can) → ⊥
none_known answers none place can e =
    let known : get_or answers place None ≡ Some can = get_or_from_slice_get answers place (Some can) None e in
    let unknown : get_or answers place None ≡ None = none place None (slice_get_within answers place (Some can) e) in
    absurd (cc)

-- where nothing is known, no answer is wrong
pub told_none : (f : Fetchable) → length f.answers.items ≡ length f.formats.now → All (λ answer. answer ≡ None) f.answers.items → Told f.formats.now f
told_none f count none = record {
  formats_are = refl;
  count = count;
  right = λ place can e. absurd (none_known f.answers.items none place can e);
}

set_cases : (answers : List Answer) (i k : ℕ) (new answer : Answer) → slice_get (set answers i new) k ≡ Some answer → ((k ≡ i) × (answer ≡ new)) ⊎ (slice_get answers k ≡ Some answer)
set_cases [] zero k new answer e = inr e
set_cases [] (suc i) k new answer e = inr e
set_cases (first ∷ answers) zero zero new answer e = let same : answer ≡ new = cc in inl (refl, same)
set_cases (first ∷ answers) zero (suc k) new answer e = inr e
set_cases (first ∷ answers) (suc i) zero new answer e = inr e
set_cases (first ∷ answers) (suc i) (suc k) new answer e = by (set_cases answers i k new answer e)
  where
    by : ((k ≡ i) × (answer ≡ new)) ⊎ (slice_get answers k ≡ Some answer) → ((suc k ≡ suc i) × (answer ≡ new)) ⊎ (slice_get answers k ≡ Some answer)
    by (inl h) = inl (ap suc h.0, h.1)
    by (inr h) = inr h

-- whether the format that stands at a place can be fetched
pub can_at : (formats : List Format) (f : Fetchable) (place : ℕ) (format : Format) (can : Bool) → Told formats f → Some format ≡ slice_get f.formats.now place → can ≡ is_some (pieces_of format.tree) →
    can ≡ can_fetch formats place
can_at formats f place format can told at is =
    is ∙ ap (λ o. option_map_or (λ (f : Format). is_some (pieces_of f.tree)) o true) (at ∙ ap (λ (l : List Format). slice_get l place) told.formats_are)

-- where none stands nothing is in the way
pub can_past : (formats : List Format) (f : Fetchable) (place : ℕ) → Told formats f → None ≡ slice_get f.formats.now place → true ≡ can_fetch formats place
can_past formats f place told none =
    ap (λ o. option_map_or (λ (f : Format). is_some (pieces_of f.tree)) o true) (none ∙ ap (λ (l : List Format). slice_get l place) told.formats_are)

-- a right answer more
pub told_more : (formats : List Format) (old new : Fetchable) (place : ℕ) (can : Bool) → Told formats old → new.formats.now ≡ old.formats.now → new.answers.items ≡ set old.answers.items place (Some can) →
    can ≡ can_fetch formats place → Told formats new
told_more formats old new place can told same answers is = record {
  formats_are = same ∙ told.formats_are;
  count = ap length answers ∙ length-set old.answers.items place (Some can) ∙ told.count;
  right = λ k other e. by k other (set_cases old.answers.items place k (Some can) (Some other) (sym (ap (λ (l : List Answer). slice_get l k) answers) ∙ e));
}
  where
    by : (k : ℕ) (other : Bool) → ((k ≡ place) × (Some other ≡ Some can)) ⊎ (slice_get old.answers.items k ≡ Some (Some other)) → other ≡ can_fetch formats k
    by k other (inl h) = let same : other ≡ can = cc in same ∙ is ∙ ap (can_fetch formats) (sym h.0)
    by k other (inr h) = told.right k other h

-- ---- the first part that can't be fetched

next_part : (formats : List Format) (places : List ℕ) (part : ℕ) → part < length places →
    position_from (λ place. not (can_fetch formats place)) part (drop part places)
    ≡ cond (not (can_fetch formats (get_or places part 0))) (Some part) (position_from (λ place. not (can_fetch formats place)) (part + 1) (drop (part + 1) places))
next_part formats places part within =
    ap (position_from (λ place. not (can_fetch formats place)) part) (drop-cons places part 0 within)
    ∙ ap (λ n. cond (not (can_fetch formats (get_or places part 0))) (Some part) (position_from (λ place. not (can_fetch formats place)) (part + 1) (drop n places))) (sym (add-one part))

-- a part more that can be fetched
pub part_passed : (formats : List Format) (places : List ℕ) (part : ℕ) (can : Bool) → part < length places → can ≡ can_fetch formats (get_or places part 0) → can ≡ true →
    position_from (λ place. not (can_fetch formats place)) part (drop part places) ≡ part_without_pieces formats places →
    position_from (λ place. not (can_fetch formats place)) (part + 1) (drop (part + 1) places) ≡ part_without_pieces formats places
part_passed formats places part can within is can_be so =
    ap (λ (b : Bool). cond (not b) (Some part) (position_from (λ place. not (can_fetch formats place)) (part + 1) (drop (part + 1) places))) (sym can_be ∙ is) ∙ sym (next_part formats places part within) ∙ so

-- the first one that can't
pub part_found : (formats : List Format) (places : List ℕ) (part : ℕ) (can : Bool) → part < length places → can ≡ can_fetch formats (get_or places part 0) → can ≡ false →
    position_from (λ place. not (can_fetch formats place)) part (drop part places) ≡ part_without_pieces formats places → Some part ≡ part_without_pieces formats places
part_found formats places part can within is cannot so =
    ap (λ (b : Bool). cond (not b) (Some part) (position_from (λ place. not (can_fetch formats place)) (part + 1) (drop (part + 1) places))) (sym cannot ∙ is) ∙ sym (next_part formats places part within) ∙ so

-- before any part is asked
pub parts_begin : (formats : List Format) (places : List ℕ) → position_from (λ place. not (can_fetch formats place)) 0 places ≡ part_without_pieces formats places
parts_begin formats places = sym (position_from-zero (λ place. not (can_fetch formats place)) places)
