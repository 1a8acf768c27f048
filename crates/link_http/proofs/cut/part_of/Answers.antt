use Rattle.std.proofs.Common.{ap, ◌∙◌, arith, ◌≡◌, ◌≤◌, ◌+◌, subst}
use Rattle.http_reply.specs.Content.{behind}
use Rattle.link_http.specs.declared.share.Share.{Share}
use Rattle.http_reply.specs.Chunked.{limit}
use Rattle.link_http.specs.Body.{poured, HasRoom}
use Rattle.link_http.proofs.BodyLemmas.{cut_after, cut_more}
use Rattle.link_http.proofs.cut.part_of.Goals as goal

pub returns-in-After-clause-cuts : goal.returns-in-After-clause-cuts
returns-in-After-clause-cuts c = λ piece content is.
    ap (λ (s : Share). poured s (behind piece content)) c.in-After.is
    ∙ rw (c.below-from.ensures) (cut_after c.in-After.skip c.in-After.passed c.args.n piece content is)

pub returns-else-left-n-clause-cuts : goal.returns-else-left-n-clause-cuts
returns-else-left-n-clause-cuts c = λ piece content is.
    ap (λ (s : Share). poured s (behind piece content)) c.in-Upto.is
    ∙ cut_more c.in-Upto.left c.in-Upto.passed c.args.n piece content is (omega arith)

pub returns-in-After-clause-room : goal.returns-in-After-clause-room
returns-in-After-clause-room c = λ p spare fits room.
    let has : (c.in-After.passed ≡ p) × (limit ≤ spare + c.in-After.passed + c.in-After.skip) = subst (λ (s : Share). HasRoom s p spare) c.in-After.is room in
    let is = has.0 in
    let more = has.1 in
    let from = c.below-from.ensures in
    (omega arith, (omega arith, omega arith))

pub returns-then-left-n-clause-room : goal.returns-then-left-n-clause-room
returns-then-left-n-clause-room c = λ p spare fits room.
    let has : (c.in-Upto.passed ≡ p) × (c.in-Upto.left ≤ spare) = subst (λ (s : Share). HasRoom s p spare) c.in-Upto.is room in
    let more = has.1 in
    (omega arith, tt)

pub returns-else-left-n-clause-room : goal.returns-else-left-n-clause-room
returns-else-left-n-clause-room c = λ p spare fits room.
    let has : (c.in-Upto.passed ≡ p) × (c.in-Upto.left ≤ spare) = subst (λ (s : Share). HasRoom s p spare) c.in-Upto.is room in
    let is = has.0 in
    let more = has.1 in
    (omega arith, (omega arith, omega arith))
