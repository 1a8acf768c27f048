-- What a folder on the disk tells: its count of faults alone.
use Rattle.std.specs.Prelude.{ℕ, false, [], None}
use Rattle.folder_base.specs.Story.{World}
use Rattle.disk_folder.specs.declared.folder.DiskFolder.{DiskFolder}

-- nothing but so many faults
abbrev pub silent : ℕ → World
silent faults = record {
  tells = false;
  steady = false;
  faults = faults;
  refusals = 0;
  part = None;
  out = [];
  since = 0;
  story = record { now = record { live = λ name. None; back = []; loose = []; mixed = [] }; past = [] };
}

-- what the folder tells
abbrev pub world_of : {R F D : Type 0} → DiskFolder R F D → World
world_of folder = silent folder.faults.count
