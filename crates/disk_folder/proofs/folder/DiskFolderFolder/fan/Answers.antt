use Rattle.std.proofs.Common.{◌∙◌}
use Rattle.std.proofs.lemmas.List.{length-map}
use Rattle.disk_folder.specs.Silent.{world_of}
use Rattle.disk_folder.proofs.CountLemmas.{all_begin}
use Rattle.disk_folder.proofs.folder.DiskFolderFolder.fan.Goals as goal

pub returns-in-Ok-clause-begun : goal.returns-in-Ok-clause-begun
returns-in-Ok-clause-begun g c = record {
  one_each = length-map c.in-Ok.parts.items world_of ∙ c.in-Ok.ensures.one_each;
  each = all_begin world_of c.args.self.now.faults.count c.in-Ok.parts.items c.in-Ok.ensures.begun;
}
