-- What a dialer in memory answers, by its turn.
use Rattle.std.specs.Prelude.{ℕ, ◌-◌, List, [], ◌++◌, length, take, drop, Option, Some, None, nat_lt, ◌==◌, if◌then◌else◌, codes, decimal}
use Rattle.link_http.specs.declared.turn.Turn.{Turn}
use Rattle.link_http.specs.declared.turn.Turn.TheVariants.{Honest, Whole, Cut, Status, Raw, DialFails, SendFails, RecvFails}
use Rattle.link_http.specs.Request.{line}

-- the head of a whole resource of this length
abbrev pub whole_head : ℕ → List ℕ
whole_head total = line (codes "HTTP/1.1 200 OK") ++ line (codes "Content-Length: " ++ decimal total) ++ line []

-- the head of what stands from a place in it on
abbrev pub part_head : ℕ → ℕ → List ℕ
part_head from total =
    line (codes "HTTP/1.1 206 Partial Content")
    ++ line (codes "Content-Range: bytes " ++ decimal from ++ codes "-" ++ decimal (total - 1) ++ codes "/" ++ decimal total)
    ++ line (codes "Content-Length: " ++ decimal (total - from)) ++ line []

-- the head where nothing does
abbrev pub past_head : ℕ → List ℕ
past_head total =
    line (codes "HTTP/1.1 416 Range Not Satisfiable") ++ line (codes "Content-Range: bytes */" ++ decimal total)
    ++ line (codes "Content-Length: 0") ++ line []

-- the head of a server that knows ranges
abbrev pub honest_head : ℕ → ℕ → List ℕ
honest_head from total =
    if from == 0 then whole_head total
    else (if nat_lt from total then part_head from total else past_head total)

-- all bytes, or so many of them
abbrev pub cut_to : Option ℕ → List ℕ → List ℕ
cut_to None bytes = bytes
cut_to (Some n) bytes = take n bytes

-- an honest reply of these bytes from a place on, whole or cut after so many bytes of its body
abbrev pub honest_reply : Option ℕ → List ℕ → ℕ → List ℕ
honest_reply room bytes from = honest_head from (length bytes) ++ cut_to room (drop from bytes)

-- the zeros in front of a code of less than three digits
abbrev pub zeros : ℕ → List ℕ
zeros code = if nat_lt code 10 then codes "00" else (if nat_lt code 100 then codes "0" else [])

-- a status without a body
abbrev pub status_reply : ℕ → List ℕ
status_reply code = line (codes "HTTP/1.1 " ++ zeros code ++ decimal code ++ codes " Status") ++ line (codes "Content-Length: 0") ++ line []

-- what is asked, if it is in the world
abbrev pub found_reply : Option ℕ → Option (List ℕ) → ℕ → List ℕ
found_reply room (Some bytes) from = honest_reply room bytes from
found_reply room None from = status_reply 404

-- the reply at a turn, by the bytes that are asked and the place that they are asked from
abbrev pub reply_of : Turn → Option (List ℕ) → ℕ → List ℕ
reply_of Honest found from = found_reply None found from
reply_of Whole found from = found_reply None found 0
reply_of (Cut n) found from = found_reply (Some n) found from
reply_of (Status code) found from = status_reply code
reply_of (Raw bytes) found from = bytes.items
reply_of DialFails found from = found_reply None found from
reply_of SendFails found from = found_reply None found from
reply_of (RecvFails n) found from = found_reply None found from
