use Rattle.std.proofs.Common.{◌<◌, ◌∙◌, sym, get_or, arith}
use Rattle.std.proofs.lemmas.Bool.{ltb-true}
use Rattle.std.proofs.lemmas.Str.{IsCharBoundary-after_ascii}
use Rattle.word_list.proofs.FormLemmas.{short_of_letter, short_past_ascii, joined_none, joined_some}
use Rattle.word_list.proofs.form.short_form.Goals as goal

pub returns-then-not-is_ascii : goal.returns-then-not-is_ascii
returns-then-not-is_ascii c = short_past_ascii c.args.word.now (rw c.as_bytes.ensures.value at c.if-not-is_ascii.ensures)

pub split_at-requires : goal.split_at-requires
split_at-requires c =
    let small : get_or c.args.word.now 1 0 < 128 = ltb-true (get_or c.args.word.now 1 0) 128 (sym (rw c.as_bytes.ensures.value at c.if-not-is_ascii.ensures)) in
    IsCharBoundary-after_ascii c.args.word.now 1 c.utf8.word (omega arith) small

pub returns-then-is_empty : goal.returns-then-is_empty
returns-then-is_empty c =
    c.formed.ensures ∙ short_of_letter c.args.word.now c.split_at.result.0.now c.split_at.result.1.now _
    (rw c.as_bytes.ensures.value at c.if-not-is_ascii.ensures) c.split_at.ensures.front c.split_at.ensures.back (joined_none c.split_at.result.1.now c.if-is_empty.ensures)

pub returns-else-is_empty : goal.returns-else-is_empty
returns-else-is_empty c =
    c.formed-else-is_empty.ensures ∙ short_of_letter c.args.word.now c.split_at.result.0.now c.split_at.result.1.now _
    (rw c.as_bytes.ensures.value at c.if-not-is_ascii.ensures) c.split_at.ensures.front c.split_at.ensures.back (joined_some c.split_at.result.1.now c.if-is_empty.ensures)
