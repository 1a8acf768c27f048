-- Two jobs that read nothing, of which one makes nothing.
use Rattle.std.proofs.Common.{◌≡◌, ◌⊎◌, inl, inr, false, ◌||◌, List, [], ◌∷◌, refl, sym, ◌∙◌, ap, subst}
use Rattle.std.specs.Prelude.{Option, Some, None, All, IfSome, bytes_eq}
use Rattle.std.specs.Option.{option_map_or}
use Rattle.std.proofs.lemmas.List.Elements.{All-nil}
use Rattle.folder_base.specs.Disk.{Name}
use Rattle.tool_chain.specs.Jobs.{Job, is_output, is_output_of, OutputsApart}

none_read : (job : Job) (jobs : List Job) → job.inputs ≡ [] → All (λ input. is_output_of jobs input ≡ false) job.inputs
none_read job jobs is = subst (λ (l : List Name). All (λ input. is_output_of jobs input ≡ false) l) (sym is) (All-nil (λ (input : Name). is_output_of jobs input ≡ false))

last_apart : (o : Option Name) → IfSome o (λ output. is_output_of [] output ≡ false)
last_apart None = tt
last_apart (Some name) = refl

-- The last of a chain.
one_apart : (job : Job) → job.inputs ≡ [] → OutputsApart (job ∷ [])
one_apart job is = (none_read job (job ∷ []) is, (last_apart job.output, tt))

first_apart : (o p : Option Name) (job : Job) → job.output ≡ p → (o ≡ None) ⊎ (p ≡ None) → IfSome o (λ output. is_output_of (job ∷ []) output ≡ false)
first_apart None p job is one = tt
first_apart (Some name) p job is one = ap (λ (q : Option Name). option_map_or (λ output. bytes_eq output name) q false || false) (is ∙ none one)
  where
    none : (Some name ≡ None) ⊎ (p ≡ None) → p ≡ None
    none (inl e) = absurd (cc)
    none (inr e) = e

pub pair_apart : (a b : Job) → a.inputs ≡ [] → b.inputs ≡ [] → (a.output ≡ None) ⊎ (b.output ≡ None) → OutputsApart (a ∷ b ∷ [])
pair_apart a b ai bi one = (none_read a (a ∷ b ∷ []) ai, (first_apart a.output b.output b refl one, one_apart b bi))
