use Rattle.std.proofs.Common.{List, ℕ, [], ◌∷◌, ◌++◌, map, drop, ap, ◌∙◌, sym, arith, length-drop}
use Rattle.std.specs.Prelude.{string_bytes}
use Rattle.std.proofs.lemmas.List.{take_all, map-append}
use Rattle.ytdl_stub.specs.Job.{is_input}
use Rattle.ytdl_stub.proofs.JobLemmas.{input_taken}
use Rattle.ytdl_stub.proofs.job.joining_of.Goals as goal

pub words-preserved-then-is_input : goal.words-preserved-then-is_input
words-preserved-then-is_input c =
    let names = map (λ name. name.now) c.words.inputs.items in
    let is = ap is_input (sym c.as_str-in-len2-up.ensures.value) ∙ sym c.is_input.ensures ∙ c.if-is_input.true in
    let one = ap (map (λ name. name.now)) c.in_ok-push-in-len2-up.ensures.items
    ∙ map-append (λ name. name.now) c.words.inputs.items (c.as_str-then-is_input.result ∷ [])
    ∙ ap (λ (n : List ℕ). names ++ n ∷ []) c.as_str-then-is_input.ensures.value in
    input_taken string_bytes names _ c.words.rest.now _ c.word-item-in-words.result c.name-item.result _
    c.words.invariant c.in-len2-up.len_at_least c.word-item-in-words.is c.name-item.is is
    (take_all _ (drop 2 c.words.rest.now) (omega (arith, length-drop 2 c.words.rest.now))) one
