use Rattle.std.proofs.Common.{◌≡◌, false, take}
use Rattle.folder_base.specs.Disk.{Name}
use Rattle.folder_base.specs.Files.{names_of}
use Rattle.folder_base.specs.Places.{stands_in, all_over}
use Rattle.folder_base.proofs.places.copy_places.Given as goal

abbrev pub invariant-loop-place : goal.invariant-loop-place
invariant-loop-place l = record {
  copied : names_of l.files ≡ all_over (take l.place-index l.place-items) (names_of l.initial.files);
  others : (name : Name) → stands_in l.place-items name ≡ false → names_of l.files name ≡ names_of l.initial.files name;
}
