use Rattle.std.proofs.Common.{◌≡◌, ◌++◌, true, map, string_bytes}
use Rattle.std.specs.Prelude.{if◌then◌else◌}
use Rattle.name_listing.specs.Names.{Name, has}
use Rattle.name_listing.proofs.SetLemmas.{among}
use Rattle.name_listing.proofs.names.Names.take_in.Given as goal

abbrev pub invariant-loop-name : goal.invariant-loop-name
invariant-loop-name l = record {
  noted : (name : Name) → has l.self name ≡ (if among name (map (λ key. string_bytes key.now) l.yielded) then true else has l.fn.self name);
  rest : map (λ key. key.now) l.yielded ++ l.name-iterator ≡ l.share.set.keys;
}
