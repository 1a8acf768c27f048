-- Entries with their pieces, one after another.
use Rattle.std.proofs.Common.{◌≡◌, ◌⊎◌, inl, inr, ℕ, List, [], ◌∷◌, ◌++◌, Option, length, map, append_assoc, append-nil, refl, sym, ◌∙◌, ap, subst, arith, Bor}
use Rattle.std.specs.Prelude.{All}
use Rattle.std.proofs.lemmas.List.{map_push}
use Rattle.std.proofs.lemmas.List.Elements.{All-push}
use Rattle.info_item.specs.declared.format.Format.{Format as HeldFormat}
use Rattle.job_names.specs.Text.{Text}
use Rattle.job_plan.specs.Jobs.{component_of, components_of}
use Rattle.job_plan.specs.Passes.{all_settled, settled_entry}
use Rattle.job_plan.specs.Views.{plain_drafted}
use Rattle.job_plan.specs.declared.draft.Drafted.{Drafted}

-- ---- lists that are gone through, and what is made of them

-- one more is made, as the rest begins with it
pub next_made : {A B : Type 0} (view : A → B) (made : B) (old new : List A) (one : A) (rest left all : List B) → new ≡ old ++ one ∷ [] → view one ≡ made → left ≡ made ∷ rest →
    map view old ++ left ≡ all → map view new ++ rest ≡ all
next_made view made old new one rest left all push is begins so =
    ap (λ l. l ++ rest) (ap (map view) push ∙ map_push view old one) ∙ append_assoc (map view old) (view one ∷ []) rest ∙ ap (λ b. map view old ++ b ∷ rest) is
    ∙ ap (λ l. map view old ++ l) (sym begins) ∙ so

-- nothing is left to be made
pub all_made : {A B : Type 0} (view : A → B) (made : List A) (left all : List B) → left ≡ [] → map view made ++ left ≡ all → map view made ≡ all
all_made view made left all none so = sym (append-nil (map view made)) ∙ ap (λ l. map view made ++ l) (sym none) ∙ so

-- what holds of all that was made holds with one more
pub next_kept : {A B : Type 0} (view : A → B) (P : B → Type 0) (old new : List A) (one : A) → new ≡ old ++ one ∷ [] → P (view one) → All P (map view old) → All P (map view new)
next_kept view P old new one push kept all =
    subst (All P) (sym (ap (map view) push ∙ map_push view old one)) (All-push P (map view old) (view one) all kept)

-- ---- components

pub next_component : (names later : List Text) (parts rest : List (Bor HeldFormat)) (name : Text) (part : Bor HeldFormat) → names ≡ name ∷ later → parts ≡ part ∷ rest →
    components_of names (map (λ f. f.now) parts) ≡ component_of name part.now ∷ components_of later (map (λ f. f.now) rest)
next_component names later parts rest name part is are =
    ap (λ (l : List Text). components_of l (map (λ f. f.now) parts)) is ∙ ap (λ (l : List (Bor HeldFormat)). components_of (name ∷ later) (map (λ f. f.now) l)) are

pub no_components : (names : List Text) (parts : List (Bor HeldFormat)) → (length names ≡ 0) ⊎ (length parts ≡ 0) → components_of names (map (λ f. f.now) parts) ≡ []
no_components [] parts none = refl
no_components (name ∷ names) [] none = refl
no_components (name ∷ names) (part ∷ parts) (inl none) = absurd (omega (arith, none))
no_components (name ∷ names) (part ∷ parts) (inr none) = absurd (omega (arith, none))

-- ---- entries

pub next_settled : (drafts later : List Drafted) (mets rest : List (Option ℕ)) (one : Drafted) (met : Option ℕ) → drafts ≡ one ∷ later → mets ≡ met ∷ rest →
    all_settled (map plain_drafted drafts) mets ≡ settled_entry (plain_drafted one) met ∷ all_settled (map plain_drafted later) rest
next_settled drafts later mets rest one met is are =
    ap (λ (l : List Drafted). all_settled (map plain_drafted l) mets) is ∙ ap (all_settled (map plain_drafted (one ∷ later))) are

pub none_settled : (drafts : List Drafted) (mets : List (Option ℕ)) → (length drafts ≡ 0) ⊎ (length mets ≡ 0) → all_settled (map plain_drafted drafts) mets ≡ []
none_settled [] mets none = refl
none_settled (one ∷ drafts) [] none = refl
none_settled (one ∷ drafts) (met ∷ mets) (inl none) = absurd (omega (arith, none))
none_settled (one ∷ drafts) (met ∷ mets) (inr none) = absurd (omega (arith, none))
