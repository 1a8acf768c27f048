use Rattle.std.proofs.Common.{rules, ◌≡◌, ◌++◌, ap, map, sym, ◌∙◌, Ok, List}
use Rattle.std.specs.Prelude.{reverse}
use Rattle.fmt_sort.specs.Reading.{pieces_given, pieces_of}
use Rattle.fmt_sort.specs.Read.{given_in, pieces_in}
use Rattle.fmt_sort.specs.Spec.{given_of}
use Rattle.fmt_sort.specs.declared.given.GivenField.{GivenField}
use Rattle.fmt_sort.proofs.NumberLemmas.{word_read}
use Rattle.fmt_sort.proofs.ReadingLemmas.{latest_more}
use Rattle.fmt_sort.proofs.sort_words.SortWords.read.Goals as goal

pub returns-clause-good : goal.returns-clause-good
returns-clause-good c =
    let read : pieces_given (pieces_in c.args.self.now) (pieces_of c.args.word.now) ≡ Ok (map given_of c.in_ok-fields.fields.items) =
    rw c.as_bytes.ensures.value at c.in_ok-fields.ensures.fields in
    read ∙ ap (λ z. Ok z) (sym (word_read (pieces_in c.args.self.now) c.args.word.now (map given_of c.in_ok-fields.fields.items) read))

pub returns-clause-fields : goal.returns-clause-fields
returns-clause-fields c =
    let read : pieces_given (pieces_in c.args.self.now) (pieces_of c.args.word.now) ≡ Ok (map given_of c.in_ok-fields.fields.items) =
    rw c.as_bytes.ensures.value at c.in_ok-fields.ensures.fields in
    let more : c.extend_from_slice.new.self.items ≡ c.args.self.now.fields.items ++ reverse c.in_ok-fields.fields.items = search rules in
    latest_more c.args.self.now.fields.items c.extend_from_slice.new.self.items c.in_ok-fields.fields.items more
    ∙ ap (λ z. z ++ given_in c.args.self.now) (sym (word_read (pieces_in c.args.self.now) c.args.word.now (map given_of c.in_ok-fields.fields.items) read))
