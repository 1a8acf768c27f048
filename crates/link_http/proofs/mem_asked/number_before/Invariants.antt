use Rattle.std.proofs.Common.{◌≡◌, ℕ, ◌<◌, take, get_or, true}
use Rattle.std.specs.Char.{is_ascii_digit}
use Rattle.std.specs.Str.Parse.{digits_value}
use Rattle.http_reply.specs.Chunked.{capped}
use Rattle.link_http.proofs.mem_asked.number_before.Given as goal

abbrev pub invariant-loop-byte : goal.invariant-loop-byte
invariant-loop-byte l =
    (l.value ≡ capped (digits_value 10 (take l.byte-index l.text)))
    × ((k : ℕ) → k < l.byte-index → is_ascii_digit (get_or l.text k 0) ≡ true)
