use Rattle.std.proofs.Common.{◌≡◌, ◌∙◌, sym, ap, subst}
use Rattle.folder_base.specs.Disk.{Names}
use Rattle.folder_base.specs.Lines.{start, HasOwn}
use Rattle.folder_base.specs.Log.{told, log_story, left}
use Rattle.folder_base.specs.Files.{names_of}
use Rattle.folder_base.specs.Parts.{is_in_some}
use Rattle.folder_base.specs.Steps.{Agrees}
use Rattle.folder_base.specs.declared.side.Side.{Side}
use Rattle.folder_base.proofs.Splitting.{outside_left, outside_own}
use Rattle.folder_base.proofs.line.Line.leave.Goals as goal

pub invariant_of-self : goal.invariant_of-self
invariant_of-self c =
    let self = c.args.self.now in
    let log = self.log.value in
    let files' = c.leave_names.new.files in
    let whole : names_of self.files ≡ (log_story log).now.live = self.agrees ∙ (λ i. (told (start log (c.requires.all i)) (c.requires.steps i)).now.live) in
    let left_is : names_of files' ≡ (left log.stems.items (log_story log)).now.live = c.leave_names.ensures.files ∙ outside_left log c.args.lines.now.items c.requires.lines (names_of self.files) whole in
    record {
      agrees = subst (λ (s : Side). Agrees (start log s) self.steps.items files') (sym c.leave_names.ensures.side) (left_is ∙ ap (λ l. (told (left log.stems.items (log_story log)) l).now.live) (sym c.requires.steps));
      own = subst (λ (s : Side). HasOwn log s files') (sym c.leave_names.ensures.side)
          (λ name e. ap (λ (m : Names). m name) left_is ∙ outside_own (is_in_some log.stems.items name) ((log_story log).now.live name) e);
    }
