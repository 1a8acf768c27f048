-- That a job of one component, which is its file, can be done.
use Rattle.std.proofs.Common.{◌≡◌, ◌∙◌, inl, ◌<◌, true, false, List, [], ◌∷◌, length, map, refl, sym, ap, subst, arith}
use Rattle.std.proofs.lemmas.List.Elements.{All-nil, All-cons}
use Rattle.std.specs.List.{list_any}
use Rattle.std.specs.Prelude.{◌≢◌, All, None, filter_map, codes, IsTrue, bytes_eq, ◌==◌}
use Rattle.job_names.specs.Family.{meets_itself}
use Rattle.job_pieces.specs.Component.{Component as Plain}
use Rattle.job_pieces.specs.Views.{plain_piece, plain_component}
use Rattle.job_pieces.specs.declared.component.Component.{Component}
use Rattle.job_plan.specs.declared.job.Job.{Job}
use Rattle.job_turn.specs.Clearing.{AreNamesApart}
use Rattle.job_turn.specs.Job.{names_of, HasPieces, IsReady}
use Rattle.link_http.specs.declared.piece.Piece.{Piece}
use Rattle.tool_chain.specs.Chain.{InputsCome}
use Rattle.tool_chain.specs.Jobs.{Job as Command, job_of, is_output_of, OutputsApart}
use Rattle.tool_chain.specs.declared.job.ToolJob.{ToolJob}

never : {A : Type 0} → false ≡ true → A
never e = absurd cc

some_left : (pieces : List Piece) → 0 < length pieces → map plain_piece pieces ≢ []
some_left [] some = λ e. absurd (omega (arith, some))
some_left (piece ∷ pieces) some = λ e. cc

module _ (job : Job) (component : Component) (final : job.final_name ≡ codes "v.mp4") (named : component.name ≡ codes "v.mp4") (components : job.components.items ≡ component ∷ [])
    (steps : job.steps.items ≡ []) (execs : job.execs.items ≡ []) (has : HasPieces component) where
  pub ready : IsReady job
  ready = record {
    whole = record {
      alone =
          (λ i. meets_itself (record {
            final_name = final i;
            components = map (λ (c : Plain). c.name) (map plain_component (components i));
            outputs = filter_map (λ (step : Command). step.output) (map job_of (steps i));
          }))
          ∙ (λ i. meets_itself (record { final_name = codes "v.mp4"; components = named i ∷ []; outputs = [] }));
      apart = subst (λ (ss : List ToolJob). OutputsApart (map job_of ss)) (sym steps) tt;
      come = subst (λ (ss : List ToolJob). InputsCome (λ name. IsTrue (list_any (bytes_eq name) (map (λ (c : Plain). c.name) (map plain_component job.components.items)))) (map job_of ss)) (sym steps) tt;
      made = inl (ap (map job_of) steps, (λ i. map (λ (c : Plain). c.name) (map plain_component (components i))) ∙ (λ i. (named ∙ sym final) i ∷ []));
      fetched = subst (λ (cs : List Component). All (λ (c : Plain). c.pieces ≢ []) (map plain_component cs)) (sym components)
          (All-cons (λ (c : Plain). c.pieces ≢ []) (plain_component component) [] (some_left component.pieces.items has.some) (All-nil (λ (c : Plain). c.pieces ≢ [])));
      silent = subst (λ (es : List ToolJob). All (λ (e : Command). e.output ≡ None) (map job_of es)) (sym execs) (All-nil (λ (e : Command). e.output ≡ None));
    };
    apart = record {
      components = subst (λ (cs : List Component). AreNamesApart (map (λ (c : Component). c.name) cs)) (sym components) ((λ n is. refl), tt);
      outputs = λ name is. never (subst (λ (ss : List ToolJob). is_output_of (map job_of ss) name ≡ true) steps is);
      final_is_none = λ alone. never (sym alone ∙ ap (λ (ss : List ToolJob). length ss == 0) steps);
      final_is_no_output = subst (λ (ss : List ToolJob). is_output_of (map job_of ss) job.final_name ≡ false) (sym steps) refl;
    };
    pieces = subst (All HasPieces) (sym components) (All-cons HasPieces component [] has (All-nil HasPieces));
    come = subst (λ (ss : List ToolJob). InputsCome (λ name. IsTrue (list_any (bytes_eq name) (names_of job))) (map job_of ss)) (sym steps) tt;
    silent = subst (λ (es : List ToolJob). All (λ (e : Command). e.output ≡ None) (map job_of es)) (sym execs) (All-nil (λ (e : Command). e.output ≡ None));
  }
