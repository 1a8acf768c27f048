use Rattle.std.proofs.Common.{◌≡◌, length, refl, ap, ◌∙◌, arith}
use Rattle.std.specs.Prelude.{bytes_eq}
use Rattle.plan_record.specs.Names.{begins, pieces_of}
use Rattle.job_names.specs.Family.{exact_names}
use Rattle.job_names.specs.Index.{told, has_exact, has_component, has_piece_of}
use Rattle.job_names.proofs.IndexLemmas.{text_end, ascending_last}
use Rattle.job_names.proofs.index.NameIndex.add.Goals as goal

pub returns : goal.returns
returns c = λ log names is below exact components.
    let names_end : c.loop-name.name-index ≡ length c.args.exact.now = omega (arith, c.loop-name-test.false, c.loop-name.auto.name-index-end) in
    let components_end : c.loop-component.component-index ≡ length c.args.components.now = omega (arith, c.loop-component-test.false, c.loop-component.auto.component-index-end) in
    record {
      exact = λ name. ap (λ m. told m name) c.loop-component.invariant.exact
          ∙ text_end (told c.args.self.now.exact name) (told c.loop-name.self.exact name) (has_exact name) (bytes_eq name) log c.args.place names c.args.exact.now (exact_names names)
          c.loop-name.name-index (is.exact name) names_end exact refl (c.loop-name.invariant.exact name);
      components = λ name. text_end (told c.loop-name.self.components name) (told c.loop-component.self.components name) (has_component name) (bytes_eq name) log c.args.place names
          c.args.components.now names.components c.loop-component.component-index (ap (λ m. told m name) c.loop-name.invariant.components ∙ is.components name) components_end components refl
          (c.loop-component.invariant.components name);
      under = λ component. ap (λ m. told m component) c.loop-component.invariant.under
          ∙ text_end (told c.args.self.now.under component) (told c.loop-name.self.under component) (has_piece_of component) (λ name. begins (pieces_of component) name) log c.args.place names
          c.args.exact.now (exact_names names) c.loop-name.name-index (is.under component) names_end exact refl (c.loop-name.invariant.under component);
      ascending = ascending_last log c.args.place names is.ascending below;
    }
