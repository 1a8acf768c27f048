use Rattle.std.proofs.Common.{◌≡◌, ◌++◌, map, string_bytes}
use Rattle.std.specs.BTreeMap.{keys}
use Rattle.folder_base.specs.Files.{names_of}
use Rattle.folder_base.proofs.Copied.{laid}
use Rattle.folder_base.proofs.files.copy_all.Given as goal

abbrev pub invariant-loop-name : goal.invariant-loop-name
invariant-loop-name l = record {
  copied : names_of l.to ≡ laid (map (λ key. string_bytes key.now) l.yielded) (names_of l.from) (names_of l.initial.to);
  rest : map (λ key. key.now) l.yielded ++ l.name-iterator ≡ keys l.from;
}
