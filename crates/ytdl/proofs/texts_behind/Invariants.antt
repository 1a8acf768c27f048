use Rattle.std.proofs.Common.{◌≡◌, ◌++◌, map, string_bytes}
use Rattle.std.specs.Vec.Iter.{into_iter_items}
use Rattle.ytdl.proofs.texts_behind.Given as goal

abbrev pub invariant-loop-text : goal.invariant-loop-text
invariant-loop-text l = record {
  texts : l.texts.items ≡ map string_bytes l.yielded;
  rest : l.yielded ++ into_iter_items l.text-iterator ≡ into_iter_items l.initial.text-iterator;
}
