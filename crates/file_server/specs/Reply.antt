-- What a request for a file gets (RFC 9110, sections 14.1.2, 14.4, 15.3.7 and 15.5.17).
use Rattle.std.specs.Prelude.{ℕ, ◌+◌, ◌-◌, ◌≤◌, ◌<◌, ⊤, Bool, List, [], ◌++◌, min, nat_le, Option, Some, None, unwrap_or, codes, decimal, if◌then◌else◌}
use Rattle.httparse.specs.Ascii.{crlf_bytes}
use Rattle.file_server.specs.declared.byte_range.ByteRange.{ByteRange}
use Rattle.file_server.specs.declared.reply.Reply.{Reply}
use Rattle.file_server.specs.declared.reply.Reply.TheVariants.{Refused, Absent, Whole, Part, Outside}

-- a range does not end before it begins
abbrev pub is_ordered : ByteRange → Bool
is_ordered range = nat_le range.first (unwrap_or range.last range.first)

-- what is there of a range in a file of so many bytes
abbrev pub reply_in : ByteRange → ℕ → Reply
reply_in range len =
    if nat_le len range.first then Outside len
    else Part range.first (min (unwrap_or range.last (len - 1)) (len - 1)) len

-- the reply to a range, or to none, of a file of so many bytes, or of one that is not there
abbrev pub reply_to : Option ByteRange → Option ℕ → Reply
reply_to range None = Absent
reply_to None (Some len) = Whole len
reply_to (Some range) (Some len) = if is_ordered range then reply_in range len else Whole len

-- a part has bytes, and they are in the file
abbrev pub IsSound : Reply → Type 0
IsSound (Part first last len) = (first ≤ last) × (last < len)
IsSound Refused = ⊤
IsSound Absent = ⊤
IsSound (Whole len) = ⊤
IsSound (Outside len) = ⊤

-- where the body begins in the file
abbrev pub first_of : Reply → ℕ
first_of (Part first last len) = first
first_of Refused = 0
first_of Absent = 0
first_of (Whole len) = 0
first_of (Outside len) = 0

-- how many bytes the body has
abbrev pub count_of : Reply → ℕ
count_of (Whole len) = len
count_of (Part first last len) = last - first + 1
count_of Refused = 0
count_of Absent = 0
count_of (Outside len) = 0

-- a line
abbrev pub line : List ℕ → List ℕ
line text = text ++ crlf_bytes

-- which bytes of how many
abbrev pub part_line : ℕ → ℕ → ℕ → List ℕ
part_line first last len = line (codes "Content-Range: bytes " ++ decimal first ++ codes "-" ++ decimal last ++ codes "/" ++ decimal len)

-- none of so many bytes
abbrev pub outside_line : ℕ → List ℕ
outside_line len = line (codes "Content-Range: bytes */" ++ decimal len)

-- the status, and the range where there is one
abbrev pub status : Reply → List ℕ
status Refused = line (codes "HTTP/1.1 400 Bad Request")
status Absent = line (codes "HTTP/1.1 404 Not Found")
status (Whole len) = line (codes "HTTP/1.1 200 OK")
status (Part first last len) = line (codes "HTTP/1.1 206 Partial Content") ++ part_line first last len
status (Outside len) = line (codes "HTTP/1.1 416 Range Not Satisfiable") ++ outside_line len

-- the length of the body
abbrev pub length_line : ℕ → List ℕ
length_line count = line (codes "Content-Length: " ++ decimal count)

-- the head of a reply
abbrev pub head : Reply → List ℕ
head reply =
    status reply
    ++ length_line (count_of reply)
    ++ line (codes "Connection: close")
    ++ line []
