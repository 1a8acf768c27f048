-- What a whole reply gives: the bytes to take, the total that it told, and the total or the cause.
use Rattle.std.specs.Prelude.{⊤, ◌<◌, ◌≤◌, ◌≡◌, ℕ, ◌+◌, ◌-◌, Bool, ◌||◌, not, List, [], length, take, drop, Option, Some, None, Result, Ok, Err, nat_lt, nat_le, ◌==◌, if◌then◌else◌}
use Rattle.httparse.specs.Grammar.{status_code}
use Rattle.http_reply.specs.declared.stop.Stop.{Stop}
use Rattle.http_reply.specs.declared.stop.Stop.TheVariants.{Last, Cut, Bad, Long}
use Rattle.http_reply.specs.Content.{Content, sized}
use Rattle.http_reply.specs.Chunked.{limit, chunks}
use Rattle.http_reply.specs.Heads.{HeadsEnd, final, bad, long, short, Heads}
use Rattle.http_reply.specs.declared.piece_fault.PieceFault.{PieceFault}
use Rattle.http_reply.specs.declared.piece_fault.PieceFault.TheVariants.{Status, CutShort, BadHead, HeadLong, NoLength, BadRange, SizeChanged, Encoded, PieceLong}
use Rattle.http_reply.specs.Fields.{Fields, fields_of, length_told, has_no_length_but, is_encoded, is_chunked, content_range}
use Rattle.http_reply.specs.declared.range.Range.{Range}
use Rattle.http_reply.specs.declared.range.Range.TheVariants.{Part, Open, Past, Unreadable}
use Rattle.http_reply.specs.declared.plan.Plan.{Plan}
use Rattle.http_reply.specs.declared.plan.Plan.TheVariants.{Nothing, Whole, Ranged}
use Rattle.http_reply.specs.declared.judged.Judged.{Judged}

-- the bytes to take, the total that the reply told, and the total or the cause
pub record Verdict : Type 0 where
  pub bytes : List ℕ
  pub told : Option ℕ
  pub end : Result ℕ PieceFault

-- a head that gives nothing, with the total that it told
abbrev pub refuse : Option ℕ → PieceFault → Judged
refuse told fault = record { told = told; plan = Err fault }

-- a head whose body is taken by this plan, with the total that it told
abbrev pub accept : Option ℕ → Plan → Judged
accept told plan = record { told = told; plan = Ok plan }

-- the total is another than the one known
abbrev pub changes : Option ℕ → ℕ → Option PieceFault
changes None total = None
changes (Some known) total = if known == total then None else Some (SizeChanged known total)

-- the total may be too large, or another than the one known
abbrev pub total_fault : Option ℕ → ℕ → Option PieceFault
total_fault known total = if nat_lt limit total then Some (PieceLong total) else changes known total

-- a refusal where there is a fault, and else what comes next
abbrev pub refuse_or : Option ℕ → Option PieceFault → Judged → Judged
refuse_or told (Some fault) next = refuse told fault
refuse_or told None next = next

-- a refusal where the total has a fault, and else what comes next
abbrev pub with_total : Option ℕ → ℕ → Judged → Judged
with_total known total next = refuse_or (Some total) (total_fault known total) next

-- a whole resource: by the length that its head tells
abbrev pub judge_200 : ℕ → Option ℕ → Option ℕ → Judged
judge_200 from known None = refuse None NoLength
judge_200 from known (Some total) =
    with_total known total (
    if nat_lt total from then refuse (Some total) (BadRange from (Some total)) else accept (Some total) (Whole (Some total)))

-- a part of a resource: by its range, which has to begin where it was asked to
abbrev pub judge_206 : ℕ → Option ℕ → Fields → Range → Judged
judge_206 from known fields (Part a b n) =
    with_total known n (
    if from == 0 then refuse (Some n) (BadRange from None)
    else (if not (a == from) || nat_lt b a || nat_le n b || not (has_no_length_but (b - a + 1) fields)
    then refuse (Some n) (BadRange from (Some a))
    else accept (Some n) (Ranged (b - a + 1) n (is_chunked fields))))
judge_206 from known fields Open = refuse None NoLength
judge_206 from known fields (Past n) = refuse None (BadRange from None)
judge_206 from known fields Unreadable = refuse None (BadRange from None)

-- a range past the end: nothing is left where the total is the place asked from, which is not the start
abbrev pub judge_416 : ℕ → Option ℕ → Fields → Range → Judged
judge_416 from known fields (Past n) =
    if from == 0 then refuse None (Status 416)
    else (if is_encoded fields then refuse None Encoded
    else with_total known n (if n == from then accept (Some n) (Nothing n) else refuse (Some n) (BadRange from (Some n))))
judge_416 from known fields (Part a b n) = refuse None (Status 416)
judge_416 from known fields Open = refuse None (Status 416)
judge_416 from known fields Unreadable = refuse None (Status 416)

-- a final head, by its status and fields
unfoldable pub judge : ℕ → Option ℕ → ℕ → Fields → Judged
judge from known code fields =
    if code == 416 then judge_416 from known fields (content_range fields)
    else (if not (code == 200 || code == 206) then refuse None (Status code)
    else (if is_encoded fields then refuse None Encoded
    else (if code == 206 then judge_206 from known fields (content_range fields)
    else (if is_chunked fields then accept None (Whole None)
    else judge_200 from known (length_told fields)))))

-- a body that stops before its end
abbrev pub stop_fault : ℕ → Option ℕ → Stop → PieceFault
stop_fault got told Last = CutShort got told
stop_fault got told Cut = CutShort got told
stop_fault got told (Bad at) = BadHead at
stop_fault got told (Long sum) = PieceLong sum

-- a fault where there is one, and else what comes next
abbrev pub fault_or : Option PieceFault → Result ℕ PieceFault → Result ℕ PieceFault
fault_or (Some fault) next = Err fault
fault_or None next = next

-- where the bytes behind the first ones end
abbrev pub got_after : ℕ → List ℕ → ℕ
got_after from content = from + length (drop from content)

-- the answer where the last chunk tells the total
abbrev pub total_end : ℕ → Option ℕ → ℕ → Result ℕ PieceFault
total_end from known total = fault_or (changes known total) (if nat_lt total from then Err (BadRange from (Some total)) else Ok total)

-- a whole resource in chunks: its total is told by the last of them
abbrev pub chunked_verdict : ℕ → Option ℕ → List ℕ → Stop → Verdict
chunked_verdict from known content Last =
    let total = length content in
    record {
      bytes = drop from content;
      told = Some total;
      end = total_end from known total;
    }
chunked_verdict from known content Cut = record { bytes = drop from content; told = None; end = Err (CutShort (got_after from content) None) }
chunked_verdict from known content (Bad at) = record { bytes = drop from content; told = None; end = Err (BadHead at) }
chunked_verdict from known content (Long sum) = record { bytes = drop from content; told = None; end = Err (PieceLong sum) }

-- a whole resource of a length
abbrev pub sized_end : ℕ → ℕ → Stop → Result ℕ PieceFault
sized_end total got Last = Ok total
sized_end total got Cut = Err (CutShort got (Some total))
sized_end total got (Bad at) = Err (BadHead at)
sized_end total got (Long sum) = Err (PieceLong sum)

-- a range of count bytes
abbrev pub ranged_end : ℕ → ℕ → ℕ → Content → Result ℕ PieceFault
ranged_end from count total content =
    if nat_le count (length content.bytes)
    then (if from + count == total then Ok total else Err (CutShort (from + count) (Some total)))
    else Err (stop_fault (from + length content.bytes) (Some total) content.stop)

-- the content of a range, in chunks or of a length
abbrev pub ranged_content : Bool → ℕ → ℕ → List ℕ → Content
ranged_content chunked count at rest = if chunked then chunks at 0 rest else sized count rest

-- the rest of the reply, from `at` on, by the plan
abbrev pub plan_verdict : ℕ → Option ℕ → ℕ → List ℕ → Plan → Verdict
plan_verdict from known at rest (Nothing total) = record { bytes = []; told = Some total; end = Ok total }
plan_verdict from known at rest (Whole (Some total)) =
    let content = sized total rest in
    let bytes = drop from content.bytes in
    record { bytes = bytes; told = Some total; end = sized_end total (got_after from content.bytes) content.stop }
plan_verdict from known at rest (Whole None) =
    let content = chunks at 0 rest in chunked_verdict from known content.bytes content.stop
plan_verdict from known at rest (Ranged count total chunked) =
    let content = ranged_content chunked count at rest in
    record { bytes = take count content.bytes; told = Some total; end = ranged_end from count total content }

-- the verdict on a head and the rest of the reply: no bytes where the head gives nothing
abbrev pub judged_verdict : ℕ → Option ℕ → ℕ → List ℕ → Option ℕ → Result Plan PieceFault → Verdict
judged_verdict from known at rest told (Err fault) = record { bytes = []; told = told; end = Err fault }
judged_verdict from known at rest told (Ok plan) = plan_verdict from known at rest plan

-- no bytes, no total, and this fault
abbrev pub refused : PieceFault → Verdict
refused fault = record { bytes = []; told = None; end = Err fault }

-- by where the heads end
abbrev pub heads_verdict : ℕ → Option ℕ → List ℕ → HeadsEnd → Verdict
heads_verdict from known reply (bad at) = refused (BadHead at)
heads_verdict from known reply long = refused HeadLong
heads_verdict from known reply short = refused (CutShort from None)
heads_verdict from known reply (final head at) =
    let judged = judge from known (status_code head) (fields_of head) in
    judged_verdict from known at (drop at reply) judged.told judged.plan

-- the verdict of a whole reply
pub record IsVerdict (from : ℕ) (known : Option ℕ) (reply : List ℕ) (verdict : Verdict) : Type 0 where
  pub ending : HeadsEnd
  pub heads : Heads reply 0 ending
  pub is : verdict ≡ heads_verdict from known reply ending

-- a plan for a try from a place on: the piece is not too long, and what is asked of the body lies in it
abbrev pub FitsPlan : ℕ → Plan → Type 0
FitsPlan from (Nothing total) = ⊤
FitsPlan from (Whole None) = ⊤
FitsPlan from (Whole (Some total)) = (total ≤ limit) × (from ≤ total)
FitsPlan from (Ranged count total chunked) = (0 < count) × (from + count ≤ total) × (total ≤ limit)
