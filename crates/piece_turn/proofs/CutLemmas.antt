-- A verdict that names a place where the reply was cut short names the place where its bytes end.
use Rattle.std.proofs.Common.{◌≡◌, ℕ, ◌+◌, ◌-◌, ◌≤◌, ◌<◌, Bool, true, false, List, length, take, drop, refl, sym, ◌∙◌, ap, subst, arith, length-take, leb-true, leb-false}
use Rattle.std.specs.Prelude.{Option, Some, None, Result, Ok, Err, nat_le, nat_lt, ◌==◌, ◌||◌, not, if◌then◌else◌}
use Rattle.httparse.specs.Grammar.{status_code}
use Rattle.http_reply.specs.Chunked.{limit, chunks}
use Rattle.http_reply.specs.Content.{Content, sized}
use Rattle.http_reply.specs.Heads.{HeadsEnd, final, bad, long, short}
use Rattle.http_reply.specs.Fields.{Fields, fields_of, length_told, has_no_length_but, is_encoded, is_chunked, content_range}
use Rattle.http_reply.specs.Verdict.{Verdict, IsVerdict, heads_verdict, judge, judge_200, judge_206, judge_416, judged_verdict, plan_verdict, refuse, accept, refuse_or, with_total, changes, chunked_verdict, total_end, fault_or, got_after, sized_end, ranged_end, ranged_content, stop_fault}
use Rattle.http_reply.specs.declared.judged.Judged.{Judged}
use Rattle.http_reply.specs.declared.plan.Plan.{Plan}
use Rattle.http_reply.specs.declared.plan.Plan.TheVariants.{Nothing, Whole, Ranged}
use Rattle.http_reply.specs.declared.range.Range.{Range}
use Rattle.http_reply.specs.declared.range.Range.TheVariants.{Part, Open, Past, Unreadable}
use Rattle.http_reply.specs.declared.stop.Stop.{Stop}
use Rattle.http_reply.specs.declared.stop.Stop.TheVariants.{Last, Cut, Bad, Long}
use Rattle.http_reply.specs.declared.piece_fault.PieceFault.{PieceFault}
use Rattle.http_reply.specs.declared.piece_fault.PieceFault.TheVariants.{Status, CutShort, BadHead, HeadLong, BadRange, SizeChanged, Encoded, PieceLong}

-- where the end is that the reply was cut short, it was at this place
abbrev CutsAt : ℕ → Result ℕ PieceFault → Type 0
CutsAt place end = (got : ℕ) (told : Option ℕ) → end ≡ Err (CutShort got told) → got ≡ place

-- so of a verdict
abbrev CutsWell : ℕ → Verdict → Type 0
CutsWell from v = CutsAt (from + length v.bytes) v.end

-- ---- ends of which each is one of these

same_got : (got got' : ℕ) (told told' : Option ℕ) → ◌≡◌ {A = Result ℕ PieceFault} (Err (CutShort got told)) (Err (CutShort got' told')) → got' ≡ got
same_got got got' told told' e = cc

ok_cuts : (place total : ℕ) → CutsAt place (Ok total)
ok_cuts place total got told e = absurd (cc)

cut_cuts : (place got : ℕ) (told : Option ℕ) → got ≡ place → CutsAt place (Err (CutShort got told))
cut_cuts place got told is got' told' e = same_got got got' told told' e ∙ is

if_cuts : (place : ℕ) (b : Bool) (x y : Result ℕ PieceFault) → (b ≡ true → CutsAt place x) → (b ≡ false → CutsAt place y) → CutsAt place (if b then x else y)
if_cuts place true x y one two = one refl
if_cuts place false x y one two = two refl

-- ---- a head is never cut short

abbrev is_cut : PieceFault → Bool
is_cut (CutShort got told) = true
is_cut _ = false

abbrev NoCut : Result Plan PieceFault → Type 0
NoCut (Ok plan) = Unit {0}
NoCut (Err fault) = is_cut fault ≡ false

no_cut_if : (b : Bool) (x y : Judged) → NoCut x.plan → NoCut y.plan → NoCut (if b then x else y).plan
no_cut_if true x y one two = one
no_cut_if false x y one two = two

no_cut_total : (known : Option ℕ) (total : ℕ) (next : Judged) → NoCut next.plan → NoCut (with_total known total next).plan
no_cut_total known total next is = by (nat_lt limit total) known
  where
    none : (b : Bool) (k : ℕ) → NoCut (refuse_or (Some total) (if b then None else Some (SizeChanged k total)) next).plan
    none true k = is
    none false k = refl

    by : (b : Bool) (known : Option ℕ) → NoCut (refuse_or (Some total) (if b then Some (PieceLong total) else changes known total) next).plan
    by true known = refl
    by false None = is
    by false (Some k) = none (k == total) k

no_cut_200 : (from : ℕ) (known told : Option ℕ) → NoCut (judge_200 from known told).plan
no_cut_200 from known None = refl
no_cut_200 from known (Some total) = no_cut_total known total (if nat_lt total from then refuse (Some total) (BadRange from (Some total)) else accept (Some total) (Whole (Some total)))
    (no_cut_if (nat_lt total from) (refuse (Some total) (BadRange from (Some total))) (accept (Some total) (Whole (Some total))) refl tt)

no_cut_206 : (from : ℕ) (known : Option ℕ) (fields : Fields) (range : Range) → NoCut (judge_206 from known fields range).plan
no_cut_206 from known fields (Part a b n) = no_cut_total known n _
    (no_cut_if (from == 0) (refuse (Some n) (BadRange from None)) _ refl
    (no_cut_if (not (a == from) || nat_lt b a || nat_le n b || not (has_no_length_but (b - a + 1) fields)) (refuse (Some n) (BadRange from (Some a)))
    (accept (Some n) (Ranged (b - a + 1) n (is_chunked fields))) refl tt))
no_cut_206 from known fields Open = refl
no_cut_206 from known fields (Past n) = refl
no_cut_206 from known fields Unreadable = refl

no_cut_416 : (from : ℕ) (known : Option ℕ) (fields : Fields) (range : Range) → NoCut (judge_416 from known fields range).plan
no_cut_416 from known fields (Past n) =
    no_cut_if (from == 0) (refuse None (Status 416)) _ refl
    (no_cut_if (is_encoded fields) (refuse None Encoded) _ refl
    (no_cut_total known n _ (no_cut_if (n == from) (accept (Some n) (Nothing n)) (refuse (Some n) (BadRange from (Some n))) tt refl)))
no_cut_416 from known fields (Part a b n) = refl
no_cut_416 from known fields Open = refl
no_cut_416 from known fields Unreadable = refl

no_cut : (from : ℕ) (known : Option ℕ) (code : ℕ) (fields : Fields) → NoCut (judge from known code fields).plan
unfolding judge
no_cut from known code fields =
    no_cut_if (code == 416) (judge_416 from known fields (content_range fields)) _ (no_cut_416 from known fields (content_range fields))
    (no_cut_if _ (refuse None (Status code)) _ refl
    (no_cut_if (is_encoded fields) (refuse None Encoded) _ refl
    (no_cut_if (code == 206) (judge_206 from known fields (content_range fields)) _ (no_cut_206 from known fields (content_range fields))
    (no_cut_if (is_chunked fields) (accept None (Whole None)) (judge_200 from known (length_told fields)) tt (no_cut_200 from known (length_told fields))))))

-- ---- a body that is cut short is so where its bytes end

not_cut : (place : ℕ) (fault : PieceFault) → is_cut fault ≡ false → CutsAt place (Err fault)
not_cut place fault never got told e = absurd (let x : true ≡ false = sym (ap (λ (r : Result ℕ PieceFault). of r) e) ∙ never in cc)
  where
    of : Result ℕ PieceFault → Bool
    of (Ok total) = false
    of (Err fault) = is_cut fault

sized_cuts : (place total got : ℕ) (stop : Stop) → got ≡ place → CutsAt place (sized_end total got stop)
sized_cuts place total got Last is = ok_cuts place total
sized_cuts place total got Cut is = cut_cuts place got (Some total) is
sized_cuts place total got (Bad at) is = not_cut place (BadHead at) refl
sized_cuts place total got (Long sum) is = not_cut place (PieceLong sum) refl

total_cuts : (place from : ℕ) (known : Option ℕ) (total : ℕ) → CutsAt place (total_end from known total)
total_cuts place from known total = by known
  where
    ends : CutsAt place (if nat_lt total from then Err (BadRange from (Some total)) else Ok total)
    ends = if_cuts place (nat_lt total from) (Err (BadRange from (Some total))) (Ok total) (λ _. not_cut place (BadRange from (Some total)) refl) (λ _. ok_cuts place total)

    same : (b : Bool) (k : ℕ) → CutsAt place (fault_or (if b then None else Some (SizeChanged k total)) (if nat_lt total from then Err (BadRange from (Some total)) else Ok total))
    same true k = ends
    same false k = not_cut place (SizeChanged k total) refl

    by : (known : Option ℕ) → CutsAt place (total_end from known total)
    by None = ends
    by (Some k) = same (k == total) k

chunked_cuts : (from : ℕ) (known : Option ℕ) (content : List ℕ) (stop : Stop) → CutsWell from (chunked_verdict from known content stop)
chunked_cuts from known content Last = total_cuts (from + length (drop from content)) from known (length content)
chunked_cuts from known content Cut = cut_cuts _ (got_after from content) None refl
chunked_cuts from known content (Bad at) = not_cut _ (BadHead at) refl
chunked_cuts from known content (Long sum) = not_cut _ (PieceLong sum) refl

stop_cuts : (place got : ℕ) (told : Option ℕ) (stop : Stop) → got ≡ place → CutsAt place (Err (stop_fault got told stop))
stop_cuts place got told Last is = cut_cuts place got told is
stop_cuts place got told Cut is = cut_cuts place got told is
stop_cuts place got told (Bad at) is = not_cut place (BadHead at) refl
stop_cuts place got told (Long sum) is = not_cut place (PieceLong sum) refl

ranged_cuts : (from count total : ℕ) (content : Content) → CutsAt (from + length (take count content.bytes)) (ranged_end from count total content)
ranged_cuts from count total content =
    let long = length-take count content.bytes in
    if_cuts _ (nat_le count (length content.bytes)) _ _
    (λ is. if_cuts _ (from + count == total) (Ok total) (Err (CutShort (from + count) (Some total))) (λ _. ok_cuts _ total)
    (λ _. cut_cuts _ (from + count) (Some total) (let le : count ≤ length content.bytes = leb-true count (length content.bytes) is in omega (arith, long, le))))
    (λ is. stop_cuts _ (from + length content.bytes) (Some total) content.stop (let lt : length content.bytes < count = leb-false count (length content.bytes) is in omega (arith, long, lt)))

plan_cuts : (from : ℕ) (known : Option ℕ) (at : ℕ) (rest : List ℕ) (plan : Plan) → CutsWell from (plan_verdict from known at rest plan)
plan_cuts from known at rest (Nothing total) = ok_cuts _ total
plan_cuts from known at rest (Whole (Some total)) = let content = sized total rest in sized_cuts _ total (got_after from content.bytes) content.stop refl
plan_cuts from known at rest (Whole None) = let content = chunks at 0 rest in chunked_cuts from known content.bytes content.stop
plan_cuts from known at rest (Ranged count total chunked) = ranged_cuts from count total (ranged_content chunked count at rest)

judged_cuts : (from : ℕ) (known : Option ℕ) (at : ℕ) (rest : List ℕ) (told : Option ℕ) (plan : Result Plan PieceFault) → NoCut plan → CutsWell from (judged_verdict from known at rest told plan)
judged_cuts from known at rest told (Err fault) none = not_cut _ fault none
judged_cuts from known at rest told (Ok plan) none = plan_cuts from known at rest plan

heads_cuts : (from : ℕ) (known : Option ℕ) (reply : List ℕ) (ending : HeadsEnd) → CutsWell from (heads_verdict from known reply ending)
heads_cuts from known reply (bad at) = not_cut _ (BadHead at) refl
heads_cuts from known reply long = not_cut _ HeadLong refl
heads_cuts from known reply short = cut_cuts _ from None (omega arith)
heads_cuts from known reply (final head at) =
    let j = judge from known (status_code head) (fields_of head) in
    judged_cuts from known at (drop at reply) j.told j.plan (no_cut from known (status_code head) (fields_of head))

-- A reply that was cut short was so where the bytes that it gives end.
pub cut_place : (from : ℕ) (known : Option ℕ) (reply : List ℕ) (v : Verdict) → IsVerdict from known reply v → (got : ℕ) (told : Option ℕ) → v.end ≡ Err (CutShort got told) → got ≡ from + length v.bytes
cut_place from known reply v is got told e =
    subst (CutsWell from) (sym is.is) (heads_cuts from known reply is.ending) got told e
