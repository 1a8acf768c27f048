use Rattle.std.proofs.Common.{◌≡◌, ◌++◌, List, true, map, string_bytes}
use Rattle.std.specs.Prelude.{bytes_eq}
use Rattle.std.specs.List.{list_any}
use Rattle.std.specs.BTreeMap.{keys}
use Rattle.folder_base.specs.Disk.{Name}
use Rattle.folder_base.specs.Index.{IsIndex, FindsPart}
use Rattle.folder_base.proofs.owning.are_names_of.Given as goal

abbrev pub invariant-loop-name : goal.invariant-loop-name
invariant-loop-name l = record {
  found : (stems : List Name) → IsIndex stems l.index → (name : Name) → list_any (bytes_eq name) (map (λ key. string_bytes key.now) l.yielded) ≡ true → FindsPart stems name l.place;
  rest : map (λ key. key.now) l.yielded ++ l.name-iterator ≡ keys l.files;
}
