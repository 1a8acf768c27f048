use Rattle.std.proofs.Common.{◌∙◌, refl, ap, List}
use Rattle.folder_base.specs.Log.{told, chapter_of}
use Rattle.folder_base.specs.declared.step.Step.{Step}
use Rattle.folder_base.proofs.Telling.{told_append}
use Rattle.folder_base.proofs.log.Log.seal.Goals as goal

pub returns : goal.returns
returns c = record {
  plan = refl;
  chapter = refl;
  story = ap (λ (l : List Step). told (chapter_of c.args.self.now).story l) c.in_ok-append.ensures.items ∙ told_append (chapter_of c.args.self.now).story c.args.self.now.steps.items c.args.steps.now.items;
  moved = c.in_ok-append.ensures.other_items;
  stems_are = refl;
}
