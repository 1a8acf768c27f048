use Rattle.std.proofs.Common.{◌≡◌, ◌∙◌, sym, subst, ap, refl, length}
use Rattle.std.specs.Prelude.{All}
use Rattle.folder_base.specs.Content.{content_tale}
use Rattle.folder_base.specs.Memory.{is_steady}
use Rattle.folder_base.specs.Plan.{plans_nothing}
use Rattle.folder_base.specs.Tale.{Tale}
use Rattle.folder_base.specs.declared.line.Line.{Line}
use Rattle.folder_base.specs.declared.plan.Plan.{Plan}
use Rattle.folder_base.proofs.Fanning.{handed_worlds, go_on}
use Rattle.folder_base.proofs.memory.FolderMem.hand_out.Goals as goal

pub returns-clause-hands : goal.returns-clause-hands
returns-clause-hands c =
    let self = c.args.self.now in
    let fanned = c.in_ok-lines.ensures in (
      record {
        now = ap (λ (t : Tale). t.story.now) fanned.tale_is;
        past = ap (λ (t : Tale). t.story.past) fanned.tale_is;
        part = ap (λ (t : Tale). t.part) fanned.tale_is;
        out = ap (λ (t : Tale). t.out) fanned.tale_is;
        since = ap (λ (t : Tale). t.since) fanned.tale_is ∙ sym (ap (λ (t : Tale). length t.story.past) fanned.tale_is);
        handed = c.make_parts.ensures.worlds
            ∙ handed_worlds self.content.line.log.value.plan (is_steady self) self.faults self.refusals (content_tale self.content) c.args.stems.now.items c.in_ok-lines.lines.items refl fanned.plans fanned.tales;
      },
      ap plans_nothing fanned.plan,
      refl,
      refl,
    )

pub returns-clause-goes_on : goal.returns-clause-goes_on
returns-clause-goes_on c =
    let self = record c.args.self.now { content = c.fan.new.self } in
    let same = c.in_ok-lines.ensures.plan in
    let plans_are = subst (λ (p : Plan). All (λ (l : Line). l.log.value.plan ≡ p) c.in_ok-lines.lines.items) (sym same) c.in_ok-lines.ensures.plans in
    go_on self c.make_parts.new.parts.items c.in_ok-lines.lines.items plans_are c.make_parts.ensures.numbers
