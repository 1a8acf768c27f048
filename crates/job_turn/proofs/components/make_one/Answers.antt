use Rattle.std.proofs.Common.{◌≡◌, ◌∙◌, ℕ, List, inl, inr, refl, subst}
use Rattle.std.specs.Prelude.{take, drop}
use Rattle.component_turn.specs.Component.{workers_for}
use Rattle.component_turn.specs.Turned.{Turned}
use Rattle.component_turn.specs.declared.settings.Settings.{Settings as MakingSettings}
use Rattle.job_turn.proofs.components.make_one.Goals as goal

pub returns-in_default-clause-made : goal.returns-in_default-clause-made
returns-in_default-clause-made g c = inr (record { refused = refl; same = refl; unasked = refl })

pub returns-clause-made : goal.returns-clause-made
returns-clause-made g c =
    let how : ℕ → MakingSettings = λ n. record { fresh = c.args.settings.fresh; workers = c.args.settings.workers; retries = n } in
    let asked_by : ℕ → List g.row.D.Denot → List g.row.D.Denot = λ n ds. take (workers_for c.in-Ok.making (how n)) ds in
    inl (record {
      making = c.in-Ok.making;
      is_of = record { named = c.in-Ok.ensures.named ∙ c.as_str.ensures; pieces = c.in-Ok.ensures.pieces; is_final = c.in-Ok.ensures.is_final };
      turned = subst (λ (n : ℕ). Turned g.D.Dialer.wire c.in-Ok.making (how n) (g.F.Folder.world c.args.folder.now) (g.F.Folder.world c.make_component.new.folder) c.make_component.result (asked_by n c.args.dialers.now.items)
          (asked_by n c.make_component.new.dialers.items)) c.retries_for.ensures c.make_component.ensures.turned;
      idle = subst (λ (n : ℕ). drop (workers_for c.in-Ok.making (how n)) c.make_component.new.dialers.items ≡ drop (workers_for c.in-Ok.making (how n)) c.args.dialers.now.items) c.retries_for.ensures c.make_component.ensures.idle;
    })
