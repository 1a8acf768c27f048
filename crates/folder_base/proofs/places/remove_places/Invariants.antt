use Rattle.std.proofs.Common.{◌≡◌, take}
use Rattle.folder_base.specs.Files.{names_of}
use Rattle.folder_base.proofs.Merging.{bare}
use Rattle.folder_base.proofs.places.remove_places.Given as goal

abbrev pub invariant-loop-place : goal.invariant-loop-place
invariant-loop-place l = names_of l.files ≡ bare (take l.place-index l.place-items) (names_of l.initial.files)
