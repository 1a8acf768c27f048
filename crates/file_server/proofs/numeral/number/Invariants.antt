use Rattle.std.proofs.Common.{◌≡◌, take}
use Rattle.std.specs.List.{list_all}
use Rattle.std.specs.Char.{is_ascii_digit}
use Rattle.std.specs.Str.Parse.{digits_value}
use Rattle.std.specs.Prelude.{true}
use Rattle.file_server.specs.Number.{capped}
use Rattle.file_server.proofs.numeral.number.Given as goal

abbrev pub invariant-loop-byte : goal.invariant-loop-byte
invariant-loop-byte l =
    (l.value ≡ capped (digits_value 10 (take l.byte-index l.text))) × (list_all is_ascii_digit (take l.byte-index l.text) ≡ true)
