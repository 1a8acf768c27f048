use Rattle.std.proofs.Common.{◌≡◌, map, take}
use Rattle.folder_base.specs.Files.{names_of}
use Rattle.folder_base.specs.Split.{without_all}
use Rattle.folder_base.proofs.starts.remove_starts.Given as goal

abbrev pub invariant-loop-start : goal.invariant-loop-start
invariant-loop-start l = names_of l.files ≡ without_all (map (λ start. names_of start.files) (take l.start-index l.start-items)) (names_of l.initial.files)
