-- A template is filled part by part: once the whole is too long, it stays so.
use Rattle.std.proofs.Common.{get_or, drop, drop-cons, suc, ◌≡◌, ◌≤◌, ◌<◌, ◌⊎◌, inl, inr, ℕ, List, [], ◌∷◌, ◌++◌, length, refl, sym, ap, ◌∙◌, arith, append_assoc, append-nil, length-append}
use Rattle.std.specs.Prelude.{Option, Some, None}
use Rattle.std.specs.Option.{option_map, option_and_then}
use Rattle.info_tree.specs.Tree.{Tree}
use Rattle.tpl_lang.specs.declared.template.Part.{Part}
use Rattle.tpl_eval.specs.declared.marks.Clean.{Clean}
use Rattle.tpl_eval.specs.Field.{part_text, within, most_bytes}
use Rattle.tpl_eval.specs.Fill.{parts_text, fill_of, extended}
use Rattle.std.proofs.lemmas.Bool.{cases_lt}
use Rattle.std.proofs.lemmas.List.{drop_all}
use borrow.Author.Tests.{le-leb, lt-leb}

module _ (t : Tree) (na : List ℕ) (clean : Clean) where
  -- a text with the texts of further parts behind it
  abbrev pub filled : List ℕ → List Part → Option (List ℕ)
  filled out [] = Some out
  filled out (p ∷ ps) = option_and_then (λ o. filled o ps) (extended out (part_text t na clean p))

  short : (s : List ℕ) → length s ≤ most_bytes → within s ≡ Some s
  short s h = rw (le-leb (length s) most_bytes h) refl

  long : (s : List ℕ) → most_bytes < length s → within s ≡ None
  long s h = rw (lt-leb (length s) most_bytes h) refl

  too_long : (out s : List ℕ) (o : Option (List ℕ)) → most_bytes < length (out ++ s) → None ≡ option_and_then within (option_map (λ rest. out ++ rest) (option_map (λ rest. s ++ rest) o))
  too_long out s None h = refl
  too_long out s (Some r) h =
      let more : most_bytes < length (out ++ (s ++ r)) = omega (arith, length-append out s, length-append out (s ++ r), length-append s r) in
      sym (long (out ++ (s ++ r)) more)

  joined : (out s : List ℕ) (o : Option (List ℕ)) → option_and_then within (option_map (λ rest. (out ++ s) ++ rest) o) ≡ option_and_then within (option_map (λ rest. out ++ rest) (option_map (λ rest. s ++ rest) o))
  joined out s None = refl
  joined out s (Some r) = ap within (append_assoc out s r)

  -- what is said of a text and the parts behind it
  abbrev IsWithin : List ℕ → List Part → Type 0
  IsWithin out ps = filled out ps ≡ option_and_then within (option_map (λ rest. out ++ rest) (parts_text t na clean ps))

  by_length : (out s : List ℕ) (ps : List Part) → ((o : List ℕ) → length o ≤ most_bytes → IsWithin o ps) → (most_bytes < length (out ++ s)) ⊎ (length (out ++ s) ≤ most_bytes) →
      option_and_then (λ o. filled o ps) (within (out ++ s)) ≡ option_and_then within (option_map (λ rest. out ++ rest) (option_map (λ rest. s ++ rest) (parts_text t na clean ps)))
  by_length out s ps rec (inr few) = rw (short (out ++ s) few) (rec (out ++ s) few ∙ joined out s (parts_text t na clean ps))
  by_length out s ps rec (inl many) = rw (long (out ++ s) many) (too_long out s (parts_text t na clean ps) many)

  step : (out : List ℕ) (ps : List Part) → ((o : List ℕ) → length o ≤ most_bytes → IsWithin o ps) → (o : Option (List ℕ)) →
      option_and_then (λ o. filled o ps) (extended out o)
      ≡ option_and_then within (option_map (λ rest. out ++ rest) (option_and_then (λ s. option_map (λ rest. s ++ rest) (parts_text t na clean ps)) o))
  step out ps rec None = refl
  step out ps rec (Some s) = by_length out s ps rec (cases_lt most_bytes (length (out ++ s)))

  filled-within : (out : List ℕ) (ps : List Part) → length out ≤ most_bytes → IsWithin out ps
  filled-within out [] h = sym (rw (append-nil out) (short out h))
  filled-within out (p ∷ ps) h = step out ps (λ o few. filled-within o ps few) (part_text t na clean p)

  unchanged : (o : Option (List ℕ)) → option_and_then within (option_map (λ rest. [] ++ rest) o) ≡ option_and_then within o
  unchanged None = refl
  unchanged (Some s) = refl

  pub fill-is : (ps : List Part) → fill_of t na clean ps ≡ filled [] ps
  unfolding fill_of
  fill-is ps = sym (filled-within [] ps (omega arith) ∙ unchanged (parts_text t na clean ps))

  -- the whole is too long as soon as the text so far is, with the next part
  pub is_long : (out : List ℕ) (ps : List Part) (i : ℕ) (p : Part) → i < length ps → p ≡ get_or ps i p → filled out (drop i ps) ≡ filled [] ps → extended out (part_text t na clean p) ≡ None →
      fill_of t na clean ps ≡ None
  is_long out ps i p less is so_far none =
      let next : drop i ps ≡ p ∷ drop (suc i) ps = drop-cons ps i p less ∙ ap (λ (x : Part). x ∷ drop (suc i) ps) (sym is) in
      fill-is ps ∙ sym so_far ∙ ap (λ (l : List Part). filled out l) next ∙ ap (λ (o : Option (List ℕ)). option_and_then (λ q. filled q (drop (suc i) ps)) o) none

  -- behind the last part the text so far is the whole
  pub is_all : (out : List ℕ) (ps : List Part) (i : ℕ) → length ps ≤ i → filled out (drop i ps) ≡ filled [] ps → fill_of t na clean ps ≡ Some out
  is_all out ps i past so_far = fill-is ps ∙ sym so_far ∙ ap (λ (l : List Part). filled out l) (drop_all i ps past)
