use Rattle.std.proofs.Common.{◌≡◌, ◌≢◌, true, false, refl, rules, sym, ◌≤◌, ℕ, List, [], length, drop, ap, ◌∙◌, arith, append-nil, subst, length-drop, Err}
use Rattle.std.proofs.lemmas.Grind.{common_steps}
use Rattle.httparse.specs.Grammar.{ResponseHead, ReadsResponse, HasNoResponse, NeverHasResponse}
use Rattle.httparse.specs.declared.Error.TheVariants.{TooManyHeaders}
use Rattle.httparse.specs.Spans.{IsResponseAt, IsResponseWithin}
use Rattle.http_reply.specs.Heads.{heads_room}
use Rattle.http_reply.proofs.HeadLemmas.{shows_whole, shows_none, shows_crowded, false_true}
use Rattle.http_reply.specs.declared.heads.HeadNext.TheVariants.{More}
use Rattle.http_reply.proofs.heads.next_head.Goals as goal

pub returns-in-Ok-Complete : goal.returns-in-Ok-Complete
returns-in-Ok-Complete c =
    let said = rw c.in-Ok-Complete.field-0-is at c.in-Ok-Complete.ensures in
    let back = c.split_at.ensures.back in
    let found = subst (λ (b : List ℕ). (h : ResponseHead) × IsResponseAt b c.parse_response.new.headers c.in-Ok-Complete.spans h) back said.complete in
    let inside = subst (λ (b : List ℕ). IsResponseWithin b c.parse_response.new.headers c.in-Ok-Complete.spans) back said.within in
    let shows = shows_whole c.args.came.now c.args.at c.args.ended c.parse_response.new.headers c.in-Ok-Complete.spans c.requires.within c.requires.fits found inside in
    record { shows = rw c.whole_head.ensures shows }

pub returns-in-Ok-Partial : goal.returns-in-Ok-Partial
returns-in-Ok-Partial c =
    let said = rw c.in-Ok-Partial.field-0-is at c.in-Ok-Partial.ensures in
    let none = subst HasNoResponse c.split_at.ensures.back said.partial in
    record { shows = rw c.no_head.ensures (shows_none c.args.came.now c.args.at c.args.ended c.parse_response.new.headers (More false) c.requires.within c.requires.fits none (λ more less. (more, less, none, λ never. absurd (false_true never)))) }

pub returns-in-Err-TooManyHeaders : goal.returns-in-Err-TooManyHeaders
returns-in-Err-TooManyHeaders c =
    let said = rw c.in-Err-TooManyHeaders.field-0-is at c.in-Err-TooManyHeaders.ensures in
    let came = rw c.split_at.ensures.back at (said.too_many refl) in
    let crowded = rw (sym c.parse_response.auto.headers) at came in
    record { shows = shows_crowded c.args.came.now c.args.at c.args.ended c.parse_response.new.headers c.requires.fits crowded }

pub returns-in-Err : goal.returns-in-Err
returns-in-Err c =
    let other : c.in-Err.field-0 ≢ TooManyHeaders = λ is. absurd (grind (arith, common_steps)) in
    let never = subst NeverHasResponse c.split_at.ensures.back (c.in-Err.ensures.invalid other) in
    let none = λ (h : ResponseHead) (rest : List ℕ) (reads : ReadsResponse (drop c.args.at c.args.came.now) h rest). never [] h rest (reads.0, append-nil (drop c.args.at c.args.came.now) ∙ reads.1) in
    record { shows = rw c.no_head-in-Err.ensures (shows_none c.args.came.now c.args.at c.args.ended c.parse_response.new.headers (More true) c.requires.within c.requires.fits none (λ more less. (more, less, none, λ is. never))) }
