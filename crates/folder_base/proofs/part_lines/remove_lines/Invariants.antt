use Rattle.std.proofs.Common.{◌≡◌, map, take}
use Rattle.folder_base.specs.Files.{names_of}
use Rattle.folder_base.specs.Split.{without_all}
use Rattle.folder_base.proofs.part_lines.remove_lines.Given as goal

abbrev pub invariant-loop-line : goal.invariant-loop-line
invariant-loop-line l = names_of l.files ≡ without_all (map (λ line. names_of line.files) (take l.line-index l.line-items)) (names_of l.initial.files)
