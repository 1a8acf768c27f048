use Rattle.std.proofs.Common.{◌≡◌, ◌-◌, arith, ap, length, take, slice_range, ◌∙◌}
use Rattle.link_http.specs.Wire.{Held}
use Rattle.link_http.proofs.WindowLemmas.{fills-from, length-range}
use Rattle.link_http.proofs.window.Window.fill.Goals as goal

pub returns-clause-told : goal.returns-clause-told
returns-clause-told g c = λ t.
    let w = c.self.inside in
    let k = w.end - w.start in
    let held : take k c.receive.new.store.items ≡ c.args.self.now.bytes =
    c.in_ok-n.ensures.kept ∙ c.to_front.ensures.moved ∙ ap (λ (h : Held). h.bytes) c.self.view_is in
    let whole = length-range w.store.items w.start w.end c.self.invariant.1 in
    let same : length (slice_range w.store.items w.start w.end) ≡ length c.args.self.now.bytes = ap (λ (h : Held). length h.bytes) c.self.view_is in
    let room : length w.store.items ≡ c.args.self.now.room = ap (λ (h : Held). h.room) c.self.view_is in
    fills-from c.receive.new.store.items c.args.self.now.bytes k c.in_ok-n.n _ _ _ held (c.in_ok-n.ensures.told t) (omega arith)
