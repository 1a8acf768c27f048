use Rattle.std.proofs.Common.{◌≡◌, ℕ, List}
use Rattle.link_http.specs.Memory.{world_at, world_of}
use Rattle.link_http.proofs.dialer_mem.placed.Given as goal

abbrev pub invariant-loop-page : goal.invariant-loop-page
invariant-loop-page l = (url : List ℕ) → world_at l.resources.items url ≡ world_of l.yielded url
