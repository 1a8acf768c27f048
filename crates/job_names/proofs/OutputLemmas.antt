-- The outputs of children, as they are listed.
use Rattle.std.proofs.Common.{◌≡◌, ℕ, suc, ◌+◌, ◌<◌, List, [], ◌∷◌, ◌++◌, Bool, false, not, ◌||◌, ◌==◌, Option, Some, None, is_some, length, map, flat_map, filter_map, take, get_or, if◌then◌else◌, refl, sym, ◌∙◌, ap, append_assoc, eqb-true, arith}
use Rattle.std.specs.List.{list_any, cons_option}
use Rattle.std.proofs.lemmas.Bool.{false_from_ne_true}
use Rattle.std.proofs.lemmas.List.{take_more}
use Rattle.std.proofs.Math.Seq.{take-length}
use Rattle.tool_chain.specs.Jobs.{job_of}
use Rattle.tool_chain.specs.declared.job.ToolJob.{ToolJob}
use Rattle.job_names.specs.Text.{Text}
use Rattle.job_names.specs.Family.{Names, component_names, own_final, exact_names}

-- the outputs of children as the program holds them
abbrev pub outputs : List ToolJob → List Text
outputs jobs = filter_map (λ step. step.output) (map job_of jobs)

-- more than nothing is not nothing
some_more : (n : ℕ) → (suc n == 0) ≡ false
some_more n = false_from_ne_true (suc n == 0) (λ t. grind (arith, eqb-true (suc n) 0 t))

-- some child has an output where the list of outputs is not empty
pub has_outputs : (jobs : List ToolJob) → list_any (λ job. is_some job.output) jobs ≡ not (length (outputs jobs) == 0)
has_outputs [] = refl
has_outputs (job ∷ jobs) = by job.output (has_outputs jobs)
  where
    by : (o : Option Text) → list_any (λ job. is_some job.output) jobs ≡ not (length (outputs jobs) == 0) →
        (is_some o || list_any (λ job. is_some job.output) jobs) ≡ not (length (cons_option o (outputs jobs)) == 0)
    by None rest = rest
    by (Some output) rest = ap not (sym (some_more (length (outputs jobs))))

outputs_last : (jobs : List ToolJob) (job : ToolJob) → outputs (jobs ++ job ∷ []) ≡ outputs jobs ++ cons_option job.output []
outputs_last [] job = refl
outputs_last (first ∷ jobs) job = by first.output (outputs_last jobs job)
  where
    by : (o : Option Text) → outputs (jobs ++ job ∷ []) ≡ outputs jobs ++ cons_option job.output [] →
        cons_option o (outputs (jobs ++ job ∷ [])) ≡ cons_option o (outputs jobs) ++ cons_option job.output []
    by None rest = rest
    by (Some output) rest = ap (λ (texts : List Text). output ∷ texts) rest

outputs_more : (jobs : List ToolJob) (i : ℕ) (job : ToolJob) → i < length jobs → job ≡ get_or jobs i job → outputs (take (i + 1) jobs) ≡ outputs (take i jobs) ++ cons_option job.output []
outputs_more jobs i job within at =
    ap outputs (take_more jobs i job within) ∙ ap (λ (j : ToolJob). outputs (take i jobs ++ j ∷ [])) (sym at) ∙ outputs_last (take i jobs) job

pub output_pushed : (jobs : List ToolJob) (i : ℕ) (job : ToolJob) (front before after : List Text) (output : Text) → i < length jobs → job ≡ get_or jobs i job → job.output ≡ Some output →
    before ≡ front ++ outputs (take i jobs) → after ≡ before ++ output ∷ [] → after ≡ front ++ outputs (take (i + 1) jobs)
output_pushed jobs i job front before after output within at is so push =
    push ∙ ap (λ (texts : List Text). texts ++ output ∷ []) so ∙ append_assoc front (outputs (take i jobs)) (output ∷ [])
    ∙ ap (λ (texts : List Text). front ++ texts) (ap (λ o. outputs (take i jobs) ++ cons_option o []) (sym is) ∙ sym (outputs_more jobs i job within at))

pub output_none : (jobs : List ToolJob) (i : ℕ) (job : ToolJob) (front before : List Text) → i < length jobs → job ≡ get_or jobs i job → job.output ≡ None →
    before ≡ front ++ outputs (take i jobs) → before ≡ front ++ outputs (take (i + 1) jobs)
output_none jobs i job front before within at is so =
    so ∙ ap (λ (texts : List Text). front ++ texts) (sym (append_nil (outputs (take i jobs))) ∙ ap (λ o. outputs (take i jobs) ++ cons_option o []) (sym is) ∙ sym (outputs_more jobs i job within at))
  where
    append_nil : (texts : List Text) → texts ++ [] ≡ texts
    append_nil [] = refl
    append_nil (t ∷ texts) = ap (λ (ts : List Text). t ∷ ts) (append_nil texts)

own_is : (names : Names) (has : Bool) → has ≡ not (length names.outputs == 0) → (if has then names.final_name ∷ [] else []) ≡ own_final names
own_is names has e = by names.outputs e
  where
    by : (outs : List Text) → has ≡ not (length outs == 0) → (if has then names.final_name ∷ [] else []) ≡ (if length outs == 0 then [] else names.final_name ∷ [])
    by [] h = ap (λ (b : Bool). if b then names.final_name ∷ [] else []) h
    by (o ∷ outs) h =
        ap (λ (b : Bool). if b then names.final_name ∷ [] else []) (h ∙ ap not (some_more (length outs)))
        ∙ ap (λ (b : Bool). if b then [] else names.final_name ∷ []) (sym (some_more (length outs)))

-- the exact names as they are put together
pub exact_made : (names : Names) (has : Bool) (first middle all : List Text) (i : ℕ) → has ≡ not (length names.outputs == 0) → first ≡ (if has then names.final_name ∷ [] else []) →
    i ≡ length names.components → middle ≡ first ++ flat_map component_names (take i names.components) → all ≡ middle ++ names.outputs → all ≡ exact_names names
exact_made names has first middle all i so own end behind last =
    last ∙ ap (λ (t : List Text). t ++ names.outputs) (behind ∙ (λ k. (own ∙ own_is names has so) k ++ flat_map component_names ((ap (λ n. take n names.components) end ∙ take-length names.components) k)))
    ∙ append_assoc (own_final names) (flat_map component_names names.components) names.outputs
