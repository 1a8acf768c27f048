use Rattle.std.proofs.Common.{◌≡◌, None, take}
use Rattle.folder_base.specs.Files.{names_of}
use Rattle.folder_base.specs.Log.{stood}
use Rattle.folder_base.proofs.files.store_all.Given as goal

abbrev pub invariant-loop-file : goal.invariant-loop-file
invariant-loop-file l = names_of l.files ≡ stood (λ _. None) (take l.file-index l.file-items)
