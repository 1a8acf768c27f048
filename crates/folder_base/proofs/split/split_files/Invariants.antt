use Rattle.std.proofs.Common.{◌≡◌, ◌++◌, map, string_bytes}
use Rattle.std.specs.BTreeMap.{keys}
use Rattle.folder_base.specs.Files.{names_of}
use Rattle.folder_base.proofs.Splitting.{HasSplit}
use Rattle.folder_base.proofs.split.split_files.Given as goal

abbrev pub invariant-loop-name : goal.invariant-loop-name
invariant-loop-name l = record {
  split : HasSplit l.stems.items (map (λ key. string_bytes key.now) l.yielded) (names_of l.files) l.split.items;
  rest : map (λ key. key.now) l.yielded ++ l.name-iterator ≡ keys l.files;
}
