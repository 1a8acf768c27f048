use Rattle.std.proofs.Common.{◌≡◌, ◌++◌, map, string_bytes}
use Rattle.std.specs.BTreeMap.{keys}
use Rattle.std.specs.List.{filter}
use Rattle.folder_base.specs.Disk.{begins}
use Rattle.folder_base.proofs.listing.list_names.Given as goal

abbrev pub invariant-loop-name : goal.invariant-loop-name
invariant-loop-name l = record {
  listed : l.names.items ≡ filter (begins l.prefix) (map (λ key. string_bytes key.now) l.yielded);
  rest : map (λ key. key.now) l.yielded ++ l.name-iterator ≡ keys l.files;
}
