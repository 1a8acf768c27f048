-- Replies that tell the truth of a world.
use Rattle.std.specs.Prelude.{◌≡◌, ◌≢◌, ℕ, ◌-◌, ◌<◌, ◌≤◌, ◌⊎◌, IsTrue, IsFalse, List, ◌++◌, length, drop, Option, Some, MatchOption, All}
use Rattle.std.specs.List.{flat_map}
use Rattle.httparse.specs.Ascii.{crlf_bytes}
use Rattle.httparse.specs.Grammar.{ResponseHead, IsResponseHead, print_response, status_code}
use Rattle.http_reply.specs.declared.chunk_line.LineRead.TheVariants.{Whole}
use Rattle.http_reply.specs.Chunked.{chunk_line}
use Rattle.http_reply.specs.Heads.{is_informal, heads_room}
use Rattle.http_reply.specs.Fields.{Fields, fields_of, is_encoded, is_chunked, has_no_length_but, length_told, content_range}
use Rattle.http_reply.specs.declared.range.Range.TheVariants.{Part, Past}

-- a chunk: a line that tells the size of its data
pub record Chunk : Type 0 where
  pub line : List ℕ
  pub bytes : List ℕ

-- a chunk as it is sent
abbrev pub print_chunk : Chunk → List ℕ
print_chunk c = c.line ++ (c.bytes ++ crlf_bytes)

-- A chunk has bytes, and its line tells how many.
pub record IsChunk (c : Chunk) : Type 0 where
  pub some : 0 < length c.bytes
  pub reads : chunk_line c.line ≡ Whole (length c.bytes) (length c.line)

-- the body of these bytes in chunks, with anything after it
pub record IsChunkedBody (fields : Fields) (content text : List ℕ) : Type 0 where
  pub chunked : IsTrue (is_chunked fields)
  pub chunks : List Chunk
  pub last : List ℕ
  pub after : List ℕ
  pub are : All IsChunk chunks
  pub ends : chunk_line last ≡ Whole 0 (length last)
  pub content_is : content ≡ flat_map (λ c. c.bytes) chunks
  pub text_is : text ≡ flat_map print_chunk chunks ++ (last ++ after)

-- with its length
pub record IsSizedBody (fields : Fields) (content text : List ℕ) : Type 0 where
  pub not_chunked : IsFalse (is_chunked fields)
  pub told : length_told fields ≡ Some (length content)
  pub text_is : text ≡ content

-- The text is the body of these bytes, by its length or in chunks.
abbrev pub IsBody : Fields → List ℕ → List ℕ → Type 0
IsBody fields content text = IsSizedBody fields content text ⊎ IsChunkedBody fields content text

-- a readable final head that fits, with 1xx heads before it
pub record HasHeads (reply : List ℕ) (early : List ResponseHead) (head : ResponseHead) (body : List ℕ) : Type 0 where
  pub early_are : All (λ h. IsResponseHead h × IsTrue (is_informal h) × (length h.fields ≤ 128)) early
  pub head_is : IsResponseHead head
  pub final : IsFalse (is_informal head)
  pub fields : length head.fields ≤ 128
  pub fits : length (flat_map print_response early ++ print_response head) ≤ heads_room
  pub reply_is : reply ≡ flat_map print_response early ++ print_response head ++ body

-- the body of a part: its length is told by its range, and may be told once more
pub record IsPlainBody (fields : Fields) (content text : List ℕ) : Type 0 where
  pub not_chunked : IsFalse (is_chunked fields)
  pub text_is : text ≡ content

-- The text is the body of a part, plain or in chunks.
abbrev pub IsPartBody : Fields → List ℕ → List ℕ → Type 0
IsPartBody fields content text = IsPlainBody fields content text ⊎ IsChunkedBody fields content text

-- what a server that has these bytes answers from `from` on
abbrev pub Answers : List ℕ → ℕ → ResponseHead → List ℕ → Type 0
Answers bytes from head body =
    let fields = fields_of head in
    ((status_code head ≡ 200) × IsBody fields bytes body)
    ⊎ ((0 < from) × (from < length bytes) × (status_code head ≡ 206) × (content_range fields ≡ Part from (length bytes - 1) (length bytes))
    × IsTrue (has_no_length_but (length bytes - from) fields) × IsPartBody fields (drop from bytes) body)
    ⊎ ((0 < from) × (from ≡ length bytes) × (status_code head ≡ 416) × (content_range fields ≡ Past from))

-- The reply is one that a server with these bytes gives from `from` on, with heads before it as it may have.
pub record IsHonest (bytes : List ℕ) (from : ℕ) (reply : List ℕ) : Type 0 where
  pub early : List ResponseHead
  pub head : ResponseHead
  pub body : List ℕ
  pub heads : HasHeads reply early head body
  pub plain : IsFalse (is_encoded (fields_of head))
  pub answers : Answers bytes from head body

-- The reply has a status that gives nothing of a resource.
pub record IsRefusing (reply : List ℕ) : Type 0 where
  pub early : List ResponseHead
  pub head : ResponseHead
  pub body : List ℕ
  pub heads : HasHeads reply early head body
  pub not_200 : status_code head ≢ 200
  pub not_206 : status_code head ≢ 206
  pub not_416 : status_code head ≢ 416

-- a front of an honest reply, or of a refusing one
abbrev pub IsTruthful : Option (List ℕ) → ℕ → List ℕ → Type 0
IsTruthful resource from reply =
    (more : List ℕ) × (IsRefusing (reply ++ more) ⊎ MatchOption resource ⊥ (λ bytes. IsHonest bytes from (reply ++ more)))
