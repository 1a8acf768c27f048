use Rattle.std.proofs.Common.{◌≡◌, ◌<◌, rules, arith, subst, take, length, get_or, Some}
use Rattle.std.proofs.lemmas.Grind.{common_steps}
use Rattle.folder_base.specs.Disk.{Name}
use Rattle.folder_base.specs.Index.{place_of, FindsPart}
use Rattle.folder_base.proofs.Indexed.{found_front, found_last}
use Rattle.folder_base.proofs.index.find_part.Goals as goal

pub returns-in-Some : goal.returns-in-Some
returns-in-Some c stems is =
    let name = c.as_bytes-name.result.now in
    let at = c.loop-at.at in
    let lt : at < length name = omega arith in
    let point : get_or name at 0 ≡ 46 = c.if-byte-eq46.true in
    let found : place_of c.args.index.now (take at name) ≡ Some c.in-Some.place.now = search rules in
    subst (λ (n : Name). FindsPart stems n (Some c.in-Some.place.now)) c.as_bytes-name.ensures.value (found_front stems c.args.index.now is name at c.in-Some.place.now lt point found)

pub returns : goal.returns
returns c stems is =
    let name = c.as_bytes-name.result.now in
    let whole : c.copied.result ≡ place_of c.args.index.now name = first_of (search rules, grind (arith, common_steps)) in
    subst (λ (n : Name). FindsPart stems n c.copied.result) c.as_bytes-name.ensures.value
    (found_last stems c.args.index.now is name c.copied.result whole (λ at lt. c.loop-at.invariant at (omega (arith, lt, c.loop-at-test.false))))
