use Rattle.std.proofs.Common.{◌≡◌, ◌≤◌, ℕ, ◌-◌, List, arith, ap, length, drop, slice_range, ◌∙◌}
use Rattle.link_http.specs.Wire.{Held}
use Rattle.link_http.proofs.WindowLemmas.{pass-bytes, length-range}
use Rattle.link_http.proofs.window.Window.pass.Goals as goal

pub returns : goal.returns
returns c =
    let w = c.self.inside in
    let held : length (slice_range w.store.items w.start w.end) ≡ length c.args.self.now.bytes = ap (λ (h : Held). length h.bytes) c.self.view_is in
    let whole = length-range w.store.items w.start w.end c.self.invariant.1 in
    let fits : c.args.n ≤ w.end - w.start = omega arith in
    ap (λ (b : List ℕ). record { bytes = b; room = length w.store.items }) (pass-bytes w.store.items w.start w.end c.args.n fits)
    ∙ ap (λ (h : Held). record { bytes = drop c.args.n h.bytes; room = h.room }) c.self.view_is
