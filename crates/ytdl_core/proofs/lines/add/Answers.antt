use Rattle.std.proofs.Common.{◌≡◌, ◌∙◌, Bool, true, false, not, refl, sym, rules}
use denote.Enum.Bare.{same_true}
use Rattle.ytdl_core.specs.contracts.run_fault.Which.{the_type}
use Rattle.ytdl_core.proofs.ScriptLemmas.{script_of-push, script_of-grown}
use Rattle.ytdl_core.proofs.lines.add.Goals as goal

is_true : (b : Bool) → false ≡ not b → b ≡ true
is_true true e = refl
is_true false e = cc e

pub returns-then-ne : goal.returns-then-ne
returns-then-ne c =
    let back : c.push-then-ne.new.self.items ≡ c.args.chunks.now.items = c.in_ok-push-2.ensures.items ∙ sym c.in-Some.ensures.items in
    rw (c.in_ok-push-3.ensures.items, back) (script_of-push c.args.chunks.now.items c.args.chunk)

pub returns : goal.returns
returns c =
    let sink : c.in-Some.last.which ≡ c.args.chunk.which = same_true the_type (search rules) _ _ (is_true _ c.if-ne.ensures) in
    rw (c.in_ok-push-4.ensures.items, c.in-Some.ensures.items)
    (script_of-grown c.pop.new.self.items c.in-Some.last (record { which = c.in-Some.last.which; bytes = c.push_str.new.self }) c.args.chunk
    refl sink (rw c.as_str.ensures.value at c.in_ok-push_str.ensures.bytes))
