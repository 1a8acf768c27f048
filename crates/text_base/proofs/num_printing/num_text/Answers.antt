use Rattle.std.proofs.Common.{◌≡◌, ◌∙◌, ap, rules}
use Rattle.std.specs.Int.{w64}
use Rattle.std.specs.Prelude.{FitsSigned}
use Rattle.std.specs.Fmt.{signed_decimal}
use Rattle.std.proofs.lemmas.Int.{to_z-of_z}
use Rattle.text_base.proofs.ReadBackLemmas.{whole_reads_back, decimal_reads_back}
use Rattle.text_base.proofs.num_printing.num_text.Goals as goal

pub returns-in-Int-clause-is_number : goal.returns-in-Int-clause-is_number
returns-in-Int-clause-is_number c =
    let f : FitsSigned w64 c.in-Int.n = search rules in
    let t : c.int_text.result.bytes ≡ signed_decimal c.in-Int.n = c.int_text.ensures ∙ ap signed_decimal (to_z-of_z w64 c.in-Int.n f) in
    rw t ((whole_reads_back c.in-Int.n f.sfits).0)

pub returns-in-Int-clause-reads_back : goal.returns-in-Int-clause-reads_back
returns-in-Int-clause-reads_back c =
    let f : FitsSigned w64 c.in-Int.n = search rules in
    let t : c.int_text.result.bytes ≡ signed_decimal c.in-Int.n = c.int_text.ensures ∙ ap signed_decimal (to_z-of_z w64 c.in-Int.n f) in
    rw t (rw c.in-Int.is ((whole_reads_back c.in-Int.n f.sfits).1))

pub returns-in-Dec-clause-is_number : goal.returns-in-Dec-clause-is_number
returns-in-Dec-clause-is_number c = rw c.dec_text.ensures ((decimal_reads_back c.in-Dec.dec.nano c.in-Dec.dec.in_range).0)

pub returns-in-Dec-clause-reads_back : goal.returns-in-Dec-clause-reads_back
returns-in-Dec-clause-reads_back c = rw c.dec_text.ensures (rw c.in-Dec.is ((decimal_reads_back c.in-Dec.dec.nano c.in-Dec.dec.in_range).1))
