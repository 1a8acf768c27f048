use Rattle.std.proofs.Common.{◌≡◌, List, ℕ, sym, ap, ◌∙◌, subst, rules, arith, Bor}
use Rattle.std.specs.Prelude.{Option, option_copied}
use Rattle.std.proofs.lemmas.Grind.{common_steps}
use Rattle.link_http.specs.declared.turn.Turn.{Turn}
use Rattle.link_http.specs.declared.turn.Turn.TheVariants.{Honest}
use Rattle.link_http.specs.declared.resource.Resource.{Resource}
use Rattle.link_http.specs.Asked.{asked_from}
use Rattle.link_http.specs.Memory.{place_of, asked_bytes, reply_at, world_at}
use Rattle.link_http.specs.Replies.{reply_of}
use Rattle.link_http.specs.Turns.{turn_at}
use Rattle.link_http.specs.Wire.{IsServed}
use Rattle.link_http.proofs.ServedLemmas.{served, lent_or}
use Rattle.link_http.proofs.dialer_mem.DialerMem.answer.Goals as goal

pub returns-clause-ok : goal.returns-clause-ok
returns-clause-ok c =
    let self = c.args.self.now in
    let line = c.args.line.now in
    let text = line.sent.items in
    let turn : c.unwrap_or-turn.result.now ≡ turn_at self.script.items line.turn =
    ap (λ (t : Bor Turn). t.now) c.unwrap_or-turn.ensures ∙ lent_or c.get.result _
    ∙ c.get.ensures.lookup.4 (omega arith) Honest ∙ ap (λ (script : List Turn). turn_at script line.turn) c.deref.ensures.value in
    let found : option_copied c.asked_bytes-found.result ≡ asked_bytes self.resources.items (place_of line.dial) text =
    c.asked_bytes-found.ensures
    ∙ ap (λ (resources : List Resource). asked_bytes resources (place_of line.dial) c.deref-3.result.now) c.deref-2.ensures.value
    ∙ ap (λ (t : List ℕ). asked_bytes self.resources.items (place_of line.dial) t) c.deref-3.ensures.value in
    let from : c.asked_from.result ≡ asked_from text = c.asked_from.ensures ∙ ap asked_from c.deref-4.ensures.value in
    let exact : c.in_ok-reply.reply.items ≡ reply_at self.script.items self.resources.items line text =
    c.in_ok-reply.ensures
    ∙ ap (λ (t : Turn). reply_of t (option_copied c.asked_bytes-found.result) c.asked_from.result) turn
    ∙ ap (λ (o : Option (List ℕ)). reply_of (turn_at self.script.items line.turn) o c.asked_from.result) found
    ∙ ap (λ (n : ℕ). reply_of (turn_at self.script.items line.turn) (asked_bytes self.resources.items (place_of line.dial) text) n) from in
    (search rules, first_of (search rules, grind (arith, common_steps)), exact, λ all. subst (IsServed (world_at self.resources.items) (place_of line.dial) text) (sym exact) (served self.script.items self.resources.items line text all))
