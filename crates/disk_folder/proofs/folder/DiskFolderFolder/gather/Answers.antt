use Rattle.std.proofs.Common.{refl}
use Rattle.disk_folder.specs.Silent.{world_of}
use Rattle.disk_folder.proofs.CountLemmas.{collects}
use Rattle.disk_folder.proofs.folder.DiskFolderFolder.gather.Goals as goal

pub returns-clause-kept : goal.returns-clause-kept
returns-clause-kept g c =
    collects world_of c.args.self.now.faults.count c.count_back.new.self.faults.count c.args.parts.items c.have_faults-faulty.result (λ part. refl) c.have_faults-faulty.ensures c.count_back.ensures.rose c.count_back.ensures.later
