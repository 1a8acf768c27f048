use Rattle.std.proofs.Common.{◌≡◌, ◌++◌, map, string_bytes}
use Rattle.std.specs.List.{filter, AllByRecursion}
use Rattle.std.specs.List.Sorted.{IsStrictlySortedBy}
use Rattle.std.specs.String.{string_cmp}
use Rattle.name_listing.specs.Names.{begins, names_of}
use Rattle.name_listing.proofs.OrderLemmas.{From}
use Rattle.name_listing.proofs.names.Names.list.Given as goal

abbrev pub invariant-loop-name : goal.invariant-loop-name
invariant-loop-name l = record {
  can : (goal.iterator-loop-name).can_next l.name-iterator;
  ends : (goal.iterator-loop-name).is_finite l.name-iterator;
  listed : l.list.items ++ filter (begins l.prefix) (map (λ key. string_bytes key) l.name-iterator) ≡ filter (begins l.prefix) (names_of l.self);
  ordered : IsStrictlySortedBy string_cmp l.name-iterator;
  from : AllByRecursion (λ key. From l.prefix (string_bytes key)) l.name-iterator;
}
