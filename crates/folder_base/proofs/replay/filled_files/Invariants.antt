use Rattle.std.proofs.Common.{◌≡◌, ◌++◌, map, string_bytes, None}
use Rattle.std.specs.BTreeMap.{keys}
use Rattle.folder_base.specs.Files.{names_of}
use Rattle.folder_base.specs.Log.{stood}
use Rattle.folder_base.specs.Stop.{filled_names}
use Rattle.folder_base.proofs.Copied.{laid}
use Rattle.folder_base.proofs.replay.filled_files.Given as goal

abbrev pub invariant-loop-name : goal.invariant-loop-name
invariant-loop-name l = record {
  stand : stood (λ _. None) l.filled.items ≡ laid (map (λ key. string_bytes key.now) l.yielded) (filled_names l.fill (names_of l.files)) (λ _. None);
  rest : map (λ key. key.now) l.yielded ++ l.name-iterator ≡ keys l.files;
}
