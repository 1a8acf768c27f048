use Rattle.std.proofs.Common.{◌≡◌, ◌∙◌, List, map, sym, ap, length, subst}
use Rattle.std.specs.Prelude.{All}
use Rattle.std.proofs.lemmas.List.{length-map}
use Rattle.folder_base.specs.Memory.{world_of}
use Rattle.folder_base.specs.Story.{World, Begins, part_of}
use Rattle.folder_base.proofs.Fanning.{begin_so}
use Rattle.folder_base.proofs.memory.FolderMemFolder.fan.Goals as goal

pub returns-in-Ok-clause-begun : goal.returns-in-Ok-clause-begun
returns-in-Ok-clause-begun c =
    let stems = c.args.stems.now.items in
    let mid = world_of c.is_planned.new.self in
    let old_is : mid ≡ world_of c.args.self.now = ap world_of c.is_planned.ensures.same in
    let handed = c.in-Ok.ensures.hands.0.handed in
    record {
      one_each = ap length handed ∙ length-map stems (part_of mid);
      each = subst (λ (l : List World). All (Begins (world_of c.args.self.now)) l) (sym handed)
          (subst (λ (w : World). All (Begins w) (map (part_of mid) stems)) old_is (begin_so mid stems));
    }
