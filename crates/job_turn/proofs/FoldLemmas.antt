-- That what steps left is what a job makes of the world's bytes of its components.
use Rattle.std.proofs.Common.{◌≡◌, ◌⊎◌, inl, inr, ⊎_elim, Bool, true, false, List, [], ◌∷◌, map, refl, sym, ◌∙◌, ap, subst}
use Rattle.std.proofs.lemmas.List.Elements.{All-head, All-tail}
use Rattle.std.proofs.lemmas.Option.{same_Some}
use Rattle.std.proofs.lemmas.Slice.Eq.{bytes_eq-Decides}
use Rattle.std.specs.List.{list_any}
use Rattle.std.specs.Option.{option_map_or}
use Rattle.std.specs.Prelude.{Option, Some, None, All, IfSome, IsTrue, bytes_eq, unwrap_or, if◌then◌else◌}
use Rattle.folder_base.specs.Disk.{Name, Bytes, Disk, Image, put}
use Rattle.folder_base.proofs.Disjoint.{neither_so, some_so, so_left, so_right}
use Rattle.folder_base.proofs.Images.{same_name, put_here, put_there}
use Rattle.keep_store.specs.Safe.{reads}
use Rattle.tool_chain.specs.Chain.{AllMade, InputsCome}
use Rattle.tool_chain.specs.Jobs.{Job as Command, is_output, is_output_of, OutputsApart, OutputIs}
use Rattle.tool_chain.specs.Runs.{Making}
use Rattle.component_store.specs.Component.{Web, all_bytes}
use Rattle.component_turn.specs.Plan.{is_of, lines_of}
use Rattle.job_pieces.specs.declared.component.Component.{Component}
use Rattle.job_plan.specs.Laws.{last_output}
use Rattle.job_turn.specs.Clearing.{is_of_some}
use Rattle.job_turn.specs.Sound.{fetched, stepped, all_stepped, made_of}
use Rattle.job_turn.proofs.FamilyLemmas.{never, last_is_output}

-- ---- steps, one after the other

-- Inputs that are the same are read alike.
inputs_same : (image : Image) (disk : Disk) (there : Name → Type 0) → ((n : Name) → there n → image n ≡ reads disk n) → (inputs : List Name) → All there inputs → map image inputs ≡ map (reads disk) inputs
inputs_same image disk there same [] all = refl
inputs_same image disk there same (n ∷ inputs) all =
    let first = same n (All-head there n inputs all) in
    let rest = inputs_same image disk there same inputs (All-tail there n inputs all) in
    λ i. first i ∷ rest i

module _ (make : Making) (disk : Disk) where
  -- Each output has, by the fold of the steps over files that were the same, what it reads as.
  pub all_stepped_reads : (there : Name → Type 0) (steps : List Command) (image : Image) → OutputsApart steps → ((n : Name) → there n → image n ≡ reads disk n) → ((n : Name) → there n → is_output_of steps n ≡ false)
      → InputsCome there steps → AllMade make steps disk → (n : Name) → there n ⊎ (is_output_of steps n ≡ true) → all_stepped make steps image n ≡ reads disk n
  all_stepped_reads there [] image apart same off come made n (inl is) = same n is
  all_stepped_reads there [] image apart same off come made n (inr is) = absurd (never (sym is))
  all_stepped_reads there (step ∷ steps) image apart same off come made n at =
      by (λ other is_same is_off comes here. all_stepped_reads (λ m. there m ⊎ (step.output ≡ Some m)) steps other apart.1.1 is_same is_off comes (All-tail (λ (job : Command). OutputIs (make job.args (map (reads disk) job.inputs)) job disk) step steps made) n here) step.output refl
    where
      made_bytes : Option Bytes
      made_bytes = Some (make step.args (map image step.inputs))

      next : Name → Type 0
      next m = there m ⊎ (step.output ≡ Some m)

      is_out : (o : Option Name) → step.output ≡ o → (m : Name) → is_output step m ≡ option_map_or (λ output. bytes_eq output m) o false
      is_out o is m = ap (λ (p : Option Name). option_map_or (λ output. bytes_eq output m) p false) is

      here : (o : Option Name) → step.output ≡ o → all_stepped make steps (stepped make step image) n ≡ all_stepped make steps (option_map_or (λ output. put image output made_bytes) o image) n
      here o is = ap (λ (p : Option Name). all_stepped make steps (option_map_or (λ output. put image output made_bytes) p image) n) is

      is_made : (output : Name) → step.output ≡ Some output → made_bytes ≡ reads disk output
      is_made output is = ap (λ (l : List (Option Bytes)). Some (make step.args l)) (inputs_same image disk there same step.inputs come.0)
          ∙ sym (All-head (λ (job : Command). OutputIs (make job.args (map (reads disk) job.inputs)) job disk) step steps made output is)

      no_output : {A : Type 0} (m : Name) → step.output ≡ None → step.output ≡ Some m → A
      no_output m is e = absurd (let x : None ≡ Some m = sym is ∙ e in cc)

      off_next : (m : Name) → next m → is_output_of steps m ≡ false
      off_next m (inl t) = (neither_so (is_output step m) (is_output_of steps m) (off m t)).1
      off_next m (inr e) = subst (λ (p : Option Name). IfSome p (λ output. is_output_of steps output ≡ false)) e apart.1.0

      Again : Type 0
      Again = (other : Image) → ((m : Name) → next m → other m ≡ reads disk m) → ((m : Name) → next m → is_output_of steps m ≡ false) → InputsCome next steps → next n ⊎ (is_output_of steps n ≡ true) → all_stepped make steps other n ≡ reads disk n

      by : Again → (o : Option Name) → step.output ≡ o → all_stepped make (step ∷ steps) image n ≡ reads disk n
      by again None is = here None is ∙ again image (λ m h. ⊎_elim (λ (t : there m). same m t) (λ (e : step.output ≡ Some m). no_output m is e) h) off_next come.1
          (⊎_elim (λ (t : there n). inl (inl t))
          (λ (so : is_output_of (step ∷ steps) n ≡ true). ⊎_elim (λ (one : is_output step n ≡ true). absurd (never (sym one ∙ is_out None is n))) (λ (others : is_output_of steps n ≡ true). inr others) (some_so (is_output step n) (is_output_of steps n) so)) at)
      by again (Some output) is = here (Some output) is ∙ again (put image output made_bytes) same_next off_next come.1
          (⊎_elim (λ (t : there n). inl (inl t))
          (λ (so : is_output_of (step ∷ steps) n ≡ true). ⊎_elim
          (λ (one : is_output step n ≡ true). inl (inr (is ∙ ap (λ (m : Name). Some m) ((bytes_eq-Decides output n).0 (sym (is_out (Some output) is n) ∙ one)))))
          (λ (others : is_output_of steps n ≡ true). inr others) (some_so (is_output step n) (is_output_of steps n) so)) at)
        where
          same_next : (m : Name) → next m → put image output made_bytes m ≡ reads disk m
          same_next m (inl t) = put_there image output m made_bytes (sym (is_out (Some output) is m) ∙ (neither_so (is_output step m) (is_output_of steps m) (off m t)).0) ∙ same m t
          same_next m (inr e) = subst (λ (o : Name). put image output made_bytes o ≡ reads disk o) (same_Some output m (sym is ∙ e)) (put_here image output made_bytes ∙ is_made output is)

-- ---- components

-- the component's name has the world's bytes of its lines
abbrev pub HoldsWorld : Web → Component → Image → Type 0
HoldsWorld web component image = image component.name ≡ all_bytes web (lines_of component.pieces.items)

-- Of components that hold the world's bytes those are what was fetched.
pub fetched_is : (web : Web) (image : Image) (components : List Component) → All (λ component. HoldsWorld web component image) components → (n : Name) → IsTrue (list_any (bytes_eq n) (map (λ component. component.name) components))
    → fetched web components n ≡ image n
fetched_is web image [] all n is = absurd (never (sym is))
fetched_is web image (c ∷ cs) all n is = by (λ more. fetched_is web image cs (All-tail (λ (d : Component). HoldsWorld web d image) c cs all) n more) (bytes_eq c.name n) refl
  where
    choose : (b : Bool) → bytes_eq c.name n ≡ b → fetched web (c ∷ cs) n ≡ (if b then all_bytes web (lines_of c.pieces.items) else fetched web cs n)
    choose b e = ap (λ (v : Bool). if v then all_bytes web (lines_of c.pieces.items) else fetched web cs n) e

    others : bytes_eq c.name n ≡ false → IsTrue (list_any (bytes_eq n) (map (λ (d : Component). d.name) cs))
    others e = ⊎_elim (λ (same : bytes_eq n c.name ≡ true). absurd (never (sym (same_name n) ∙ ap (λ (m : Name). bytes_eq m n) ((bytes_eq-Decides n c.name).0 same) ∙ e)))
        (λ (more : IsTrue (list_any (bytes_eq n) (map (λ (d : Component). d.name) cs))). more) (some_so (bytes_eq n c.name) (list_any (bytes_eq n) (map (λ (d : Component). d.name) cs)) is)

    by : (IsTrue (list_any (bytes_eq n) (map (λ (d : Component). d.name) cs)) → fetched web cs n ≡ image n) → (b : Bool) → bytes_eq c.name n ≡ b → fetched web (c ∷ cs) n ≡ image n
    by again true e = choose true e ∙ sym (All-head (λ (d : Component). HoldsWorld web d image) c cs all) ∙ ap image ((bytes_eq-Decides c.name n).0 e)
    by again false e = choose false e ∙ again (others e)

-- A component's name is of its family.
pub named_of_some : (n : Name) (components : List Name) → IsTrue (list_any (bytes_eq n) components) → is_of_some components n ≡ true
named_of_some n [] is = absurd (never (sym is))
named_of_some n (c ∷ cs) is = ⊎_elim
    (λ (same : bytes_eq n c ≡ true). so_left (is_of c n) (is_of_some cs n) (so_left (bytes_eq c n) _ (subst (λ (m : Name). bytes_eq m n ≡ true) ((bytes_eq-Decides n c).0 same) (same_name n))))
    (λ (more : IsTrue (list_any (bytes_eq n) cs)). so_right (is_of c n) (is_of_some cs n) (named_of_some n cs more)) (some_so (bytes_eq n c) (list_any (bytes_eq n) cs) is)

-- What a job makes is what its last output reads as.
pub made_reads : (web : Web) (make : Making) (disk : Disk) (components : List Component) (steps : List Command) (final output : Name) → last_output steps ≡ Some output → OutputsApart steps
    → ((n : Name) → is_output_of steps n ≡ true → is_of_some (map (λ component. component.name) components) n ≡ false) → InputsCome (λ n. IsTrue (list_any (bytes_eq n) (map (λ component. component.name) components))) steps
    → All (λ component. HoldsWorld web component (reads disk)) components → AllMade make steps disk → made_of web make components steps final ≡ reads disk output
made_reads web make disk components steps final output is apart outputs come holds made =
    ap (λ (o : Option Name). all_stepped make steps (fetched web components) (unwrap_or o final)) is
    ∙ all_stepped_reads make disk (λ n. IsTrue (list_any (bytes_eq n) names)) steps (fetched web components) apart (λ n there. fetched_is web (reads disk) components holds n there) off come made output (inr (last_is_output steps output is))
  where
    names : List Name
    names = map (λ (c : Component). c.name) components

    off : (n : Name) → IsTrue (list_any (bytes_eq n) names) → is_output_of steps n ≡ false
    off n there = by (is_output_of steps n) refl
      where
        by : (b : Bool) → is_output_of steps n ≡ b → is_output_of steps n ≡ false
        by true e = absurd (never (sym (named_of_some n names there) ∙ outputs n e))
        by false e = e
