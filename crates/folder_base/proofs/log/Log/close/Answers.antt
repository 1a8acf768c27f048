use Rattle.std.proofs.Common.{◌∙◌, refl, ap, map}
use Rattle.folder_base.specs.Log.{Chapter, begun, told, chapter_of, rejoined}
use Rattle.folder_base.proofs.Telling.{round_pushed}
use Rattle.folder_base.proofs.log.Log.close.Goals as goal

pub returns : goal.returns
returns c =
    let first : Chapter = record { story = begun c.args.self.now.birth.items; since = 0 } in
    record {
      plan = refl;
      chapter = round_pushed first c.args.self.now.rounds.items _ c.push.new.self.items _ c.push.ensures.items (c.push.ensures.succeeds c.requires)
          ∙ (λ i. rejoined (told (chapter_of c.args.self.now).story (c.replace-before.ensures.value i).items) (c.replace-stems.ensures.value i).items c.args.rest.items (map (λ steps. steps.items) c.args.parts.items));
      steps = ap (λ v. v.items) c.replace-before.ensures.after ∙ c.new.ensures.items;
      stems = ap (λ v. v.items) c.replace-stems.ensures.after ∙ c.new-2.ensures.items;
    }
