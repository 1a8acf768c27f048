-- A whole honest reply gives the whole resource.
use Rattle.std.proofs.Common.{◌≡◌, ◌≢◌, ℕ, ◌+◌, ◌-◌, ◌<◌, ◌≤◌, ◌⊎◌, ◌==◌, List, [], ◌∷◌, ◌++◌, length, take, drop, refl, sym, ap, ◌∙◌, subst, arith, append_assoc, length-append, length-drop, inl, inr, true, false, Option, Some, None, Ok}
use Rattle.std.specs.Prelude.{All, IsTrue, IsFalse, nat_lt, nat_le}
use Rattle.std.specs.List.{flat_map}
use Rattle.std.proofs.lemmas.Bool.{eq-eqb, ne_eqb, le-ltb, le-leb, lt-leb}
use Rattle.std.proofs.lemmas.List.{take_all, drop_all, take-append-le, drop-append-le}
use Rattle.std.proofs.lemmas.List.Elements.{All-head, All-tail}
use Rattle.httparse.specs.Ascii.{crlf_bytes}
use Rattle.httparse.specs.Grammar.{ResponseHead, IsResponseHead, ReadsResponse, print_response, status_code}
use Rattle.http_reply.specs.declared.stop.Stop.TheVariants.{Last}
use Rattle.http_reply.specs.declared.chunk_line.LineRead.TheVariants.{Whole}
use Rattle.http_reply.specs.declared.range.Range.TheVariants.{Part, Past}
use Rattle.http_reply.specs.declared.plan.Plan.{Plan}
use Rattle.http_reply.specs.declared.plan.Plan.TheVariants as plan
use Rattle.http_reply.specs.declared.judged.Judged.{Judged}
use Rattle.http_reply.specs.Content.{Content, behind, sized}
use Rattle.http_reply.specs.Chunked.{chunks, chunk_line, in_data, after_data, limit}
use Rattle.http_reply.specs.Fields.{Fields, fields_of, is_encoded, is_chunked, has_no_length_but, length_told, content_range}
use Rattle.http_reply.specs.Heads.{whole, StandsAt, heads_at, heads_room, final, Heads, stop, go, is_informal}
use Rattle.http_reply.specs.Verdict.{Verdict, IsVerdict, heads_verdict, judge, judged_verdict, plan_verdict, total_fault, changes, accept, ranged_end, ranged_content}
use Rattle.http_reply.specs.Truth.{Chunk, IsChunk, print_chunk, IsChunkedBody, IsBody, IsPartBody, HasHeads, Answers, IsHonest}
use Rattle.http_reply.proofs.ContentLemmas.{take_past, drop_past, in_data-long}
use Rattle.http_reply.proofs.ChunkedLemmas.{line_last, line_data}
use Rattle.http_reply.proofs.HeadLemmas.{heads_unique}

-- ---- the heads

-- a head that was printed stands where it was
stands_at : (p rest : List ℕ) (h : ResponseHead) → IsResponseHead h → length p + length (print_response h) ≤ heads_room
    → StandsAt (heads_at (p ++ (print_response h ++ rest)) (length p)) (whole h (length (print_response h)))
stands_at p rest h is fits =
    let text = print_response h in
    let more = take (heads_room - length p - length text) rest in
    let here : heads_at (p ++ (text ++ rest)) (length p) ≡ text ++ more =
    ap (drop (length p)) (take_past p (text ++ rest) heads_room (omega arith))
    ∙ drop_past p (take (heads_room - length p) (text ++ rest)) (length p) (omega arith)
    ∙ (let none : length p - length p ≡ 0 = omega arith in rw none refl)
    ∙ take_past text rest (heads_room - length p) (omega arith) in
    let behind_ : drop (length text) (text ++ more) ≡ more =
    drop_past text more (length text) (omega arith) ∙ (let none : length text - length text ≡ 0 = omega arith in rw none refl) in
    let reads : ReadsResponse (text ++ more) h (drop (length text) (text ++ more)) = (is, ap (λ (r : List ℕ). text ++ r) (sym behind_)) in
    subst (λ (b : List ℕ). StandsAt b (whole h (length text))) (sym here) (reads, refl)

abbrev IsEarly : ResponseHead → Type 0
IsEarly h = IsResponseHead h × IsTrue (is_informal h) × (length h.fields ≤ 128)

heads_from : (early : List ResponseHead) (head : ResponseHead) (reply p body : List ℕ) → All IsEarly early → IsResponseHead head → IsFalse (is_informal head)
    → length head.fields ≤ 128 → reply ≡ p ++ (flat_map print_response early ++ (print_response head ++ body))
    → length p + (length (flat_map print_response early) + length (print_response head)) ≤ heads_room
    → Heads reply (length p) (final head (length p + (length (flat_map print_response early) + length (print_response head))))
heads_from [] head reply p body all is fin few split fits =
    let at = length p in
    let none : 0 + length (print_response head) ≡ length (print_response head) = omega arith in
    let few_ : nat_lt 128 (length head.fields) ≡ false = le-ltb 128 (length head.fields) few in
    let stands = stands_at p body head is (omega arith) in
    let here : StandsAt (heads_at reply at) (whole head (length (print_response head))) =
    subst (λ (r : List ℕ). StandsAt (heads_at r at) (whole head (length (print_response head)))) (sym split) stands in
    stop at _ (whole head (length (print_response head))) here (rw (few_, fin, none) refl)
heads_from (h ∷ early) head reply p body all is fin few split fits =
    let at = length p in
    let text = print_response h in
    let rest = flat_map print_response early ++ (print_response head ++ body) in
    let first : IsEarly h = All-head IsEarly h early all in
    let few_ : nat_lt 128 (length h.fields) ≡ false = le-ltb 128 (length h.fields) first.2 in
    let inner : (text ++ flat_map print_response early) ++ (print_response head ++ body) ≡ text ++ rest = append_assoc text (flat_map print_response early) (print_response head ++ body) in
    let all_len = length-append text (flat_map print_response early) in
    let stands = stands_at p rest h first.0 (omega (arith, all_len)) in
    let split' : reply ≡ p ++ (text ++ rest) = split ∙ ap (λ (r : List ℕ). p ++ r) inner in
    let here : StandsAt (heads_at reply at) (whole h (length text)) =
    subst (λ (r : List ℕ). StandsAt (heads_at r at) (whole h (length text))) (sym split') stands in
    let size : length (p ++ text) ≡ at + length text = length-append p text in
    let place : length (p ++ text) + (length (flat_map print_response early) + length (print_response head))
    ≡ at + (length (text ++ flat_map print_response early) + length (print_response head)) = omega (arith, all_len, size) in
    let next = heads_from early head reply (p ++ text) body (All-tail IsEarly h early all) is fin few (split' ∙ sym (append_assoc p text rest)) (omega (arith, place)) in
    let next' : Heads reply (at + length text) (final head (at + (length (text ++ flat_map print_response early) + length (print_response head)))) =
    subst (λ (n : ℕ). Heads reply n (final head (at + (length (text ++ flat_map print_response early) + length (print_response head))))) size
    (subst (λ (n : ℕ). Heads reply (length (p ++ text)) (final head n)) place next) in
    go at (at + length text) _ (whole h (length text)) here (rw (few_, first.1) refl) next'

abbrev pub heads_len : List ResponseHead → ResponseHead → ℕ
heads_len early head = length (flat_map print_response early) + length (print_response head)

pub honest_heads : (reply body : List ℕ) (early : List ResponseHead) (head : ResponseHead) → HasHeads reply early head body
    → Heads reply 0 (final head (heads_len early head)) × (drop (heads_len early head) reply ≡ body)
honest_heads reply body early head h =
    let front = flat_map print_response early in
    let text = print_response head in
    let split : reply ≡ front ++ (text ++ body) = h.reply_is ∙ append_assoc front text body in
    let size = length-append front text in
    let none : 0 + (length front + length text) ≡ length front + length text = omega arith in
    let found = heads_from early head reply [] body h.early_are h.head_is h.final h.fields split (omega (arith, size, h.fits)) in
    let gone : length front + length text - length (front ++ text) ≡ 0 = omega (arith, size) in (
      subst (λ (n : ℕ). Heads reply 0 (final head n)) none found,
      ap (drop (length front + length text)) h.reply_is
          ∙ drop_past (front ++ text) body (length front + length text) (omega (arith, size))
          ∙ (rw gone refl),
    )

-- ---- the body

end_here : (at sum : ℕ) (later : List ℕ) → after_data chunks at sum (crlf_bytes ++ later) ≡ chunks (at + 2) sum later
end_here at sum later = refl

abbrev pub chunk_bytes : List Chunk → List ℕ
chunk_bytes cs = flat_map (λ (c : Chunk). c.bytes) cs

pub honest_chunks : (cs : List Chunk) (last after : List ℕ) (at sum : ℕ) → All IsChunk cs → chunk_line last ≡ Whole 0 (length last)
    → sum + length (chunk_bytes cs) ≤ limit
    → chunks at sum (flat_map print_chunk cs ++ (last ++ after)) ≡ record { bytes = chunk_bytes cs; stop = Last }
honest_chunks [] last after at sum all ends fits = line_last at sum 0 (length last) last after ends refl
honest_chunks (c ∷ cs) last after at sum all ends fits =
    let is : IsChunk c = All-head IsChunk c cs all in
    let rest = flat_map print_chunk cs ++ (last ++ after) in
    let size = length c.bytes in
    let some : size ≢ 0 = λ e. let s = is.some in absurd (omega (arith, s, e)) in
    let sizes = length-append c.bytes (chunk_bytes cs) in
    let split : (c.line ++ (c.bytes ++ crlf_bytes)) ++ flat_map print_chunk cs ++ (last ++ after) ≡ c.line ++ (c.bytes ++ (crlf_bytes ++ rest)) =
    simp append_assoc in
    let none : drop (length c.line) c.line ≡ [] = drop_all (length c.line) c.line (omega arith) in
    let taken : take size (c.bytes ++ (crlf_bytes ++ rest)) ≡ c.bytes = take-append-le size c.bytes (crlf_bytes ++ rest) (omega arith) ∙ take_all size c.bytes (omega arith) in
    let dropped : drop size (c.bytes ++ (crlf_bytes ++ rest)) ≡ crlf_bytes ++ rest =
    drop-append-le size c.bytes (crlf_bytes ++ rest) (omega arith) ∙ ap (λ (r : List ℕ). r ++ (crlf_bytes ++ rest)) (drop_all size c.bytes (omega arith)) in
    ap (chunks at sum) split
    ∙ line_data at sum size (length c.line) c.line (c.bytes ++ (crlf_bytes ++ rest)) is.reads some (omega (arith, sizes, fits))
    ∙ ap (λ (r : List ℕ). in_data chunks size (at + length c.line) (sum + size) (r ++ (c.bytes ++ (crlf_bytes ++ rest)))) none
    ∙ in_data-long chunks size (at + length c.line) (sum + size) (c.bytes ++ (crlf_bytes ++ rest)) (omega (arith, length-append c.bytes (crlf_bytes ++ rest)))
    ∙ ap (λ (r : List ℕ). behind r (after_data chunks (at + length c.line + size) (sum + size) (drop size (c.bytes ++ (crlf_bytes ++ rest))))) taken
    ∙ ap (λ (r : List ℕ). behind c.bytes (after_data chunks (at + length c.line + size) (sum + size) r)) dropped
    ∙ ap (behind c.bytes) (honest_chunks cs last after (at + length c.line + size + 2) (sum + size) (All-tail IsChunk c cs all) ends (omega (arith, sizes, fits)))

-- ---- the verdict

abbrev pub Agrees : Option ℕ → ℕ → Type 0
Agrees known total = (known ≡ None) ⊎ (known ≡ Some total)

no_change : (known : Option ℕ) (total : ℕ) → Agrees known total → changes known total ≡ None
no_change known total (inl none) = rw none refl
no_change known total (inr some) = let same = eq-eqb total total refl in rw some (rw same refl)

no_fault : (known : Option ℕ) (total : ℕ) → Agrees known total → total ≤ limit → total_fault known total ≡ None
no_fault known total agrees fits = let within = le-ltb limit total fits in rw within (no_change known total agrees)

abbrev whole_verdict : ℕ → List ℕ → Verdict
whole_verdict from bytes = record { bytes = drop from bytes; told = Some (length bytes); end = Ok (length bytes) }

sized_whole : (bytes body : List ℕ) → body ≡ bytes → sized (length bytes) body ≡ record { bytes = bytes; stop = Last }
sized_whole bytes body is =
    let all = le-leb (length bytes) (length bytes) (omega arith) in
    rw is (rw (take_all (length bytes) bytes (omega arith), all) refl)

-- a body as it is told is its content
chunked_whole : (fields : Fields) (content body : List ℕ) (at : ℕ) → IsChunkedBody fields content body → length content ≤ limit
    → chunks at 0 body ≡ record { bytes = content; stop = Last }
chunked_whole fields content body at b fits =
    ap (chunks at 0) b.text_is
    ∙ honest_chunks b.chunks b.last b.after at 0 b.are b.ends (let size = ap (λ (l : List ℕ). length l) b.content_is in omega (arith, size, fits))
    ∙ ap (λ (l : List ℕ). let c : Content = record { bytes = l; stop = Last } in c) (sym b.content_is)

judged_200 : (from n : ℕ) (known : Option ℕ) (fields : Fields) → IsFalse (is_encoded fields) → IsFalse (is_chunked fields) → length_told fields ≡ Some n
    → from ≤ n → n ≤ limit → Agrees known n → judge from known 200 fields ≡ accept (Some n) (plan.Whole (Some n))
unfolding judge
judged_200 from n known fields plain not_chunked told within fits agrees =
    let short : nat_lt n from ≡ false = le-ltb n from within in
    rw (plain, not_chunked, told, no_fault known n agrees fits, short) refl

pub judged_chunked : (from : ℕ) (known : Option ℕ) (fields : Fields) → IsFalse (is_encoded fields) → IsTrue (is_chunked fields)
    → judge from known 200 fields ≡ accept None (plan.Whole None)
unfolding judge
judged_chunked from known fields plain chunked = rw (plain, chunked) refl

whole_sized : (bytes body : List ℕ) (from at : ℕ) (known : Option ℕ) → body ≡ bytes
    → plan_verdict from known at body (plan.Whole (Some (length bytes))) ≡ whole_verdict from bytes
whole_sized bytes body from at known is =
    let all = take_all (length bytes) bytes (omega arith) in
    let enough = le-leb (length bytes) (length bytes) (omega arith) in
    rw is (rw (all, enough) refl)

whole_chunked : (bytes body : List ℕ) (from at : ℕ) (known : Option ℕ) → chunks at 0 body ≡ record { bytes = bytes; stop = Last } → from ≤ length bytes
    → Agrees known (length bytes) → plan_verdict from known at body (plan.Whole None) ≡ whole_verdict from bytes
whole_chunked bytes body from at known is within agrees =
    let short : nat_lt (length bytes) from ≡ false = le-ltb (length bytes) from within in
    rw is (rw (no_change known (length bytes) agrees, short) refl)

pub by_judged : (from : ℕ) (known : Option ℕ) (at : ℕ) (body : List ℕ) (told : Option ℕ) (p : Plan) (j : Judged) → j ≡ accept told p
    → judged_verdict from known at body j.told j.plan ≡ plan_verdict from known at body p
by_judged from known at body told p j is = rw is refl

answers_200 : (bytes body : List ℕ) (from at : ℕ) (known : Option ℕ) (fields : Fields) → IsFalse (is_encoded fields) → IsBody fields bytes body
    → length bytes ≤ limit → from ≤ length bytes → Agrees known (length bytes)
    → judged_verdict from known at body (judge from known 200 fields).told (judge from known 200 fields).plan ≡ whole_verdict from bytes
answers_200 bytes body from at known fields plain (inl b) fits within agrees =
    by_judged from known at body (Some (length bytes)) (plan.Whole (Some (length bytes))) (judge from known 200 fields)
    (judged_200 from (length bytes) known fields plain b.not_chunked b.told within fits agrees)
    ∙ whole_sized bytes body from at known b.text_is
answers_200 bytes body from at known fields plain (inr b) fits within agrees =
    by_judged from known at body None (plan.Whole None) (judge from known 200 fields) (judged_chunked from known fields plain b.chunked)
    ∙ whole_chunked bytes body from at known (chunked_whole fields bytes body at b fits) within agrees

ranged_whole : (bytes : List ℕ) (from : ℕ) (content : Content) → from ≤ length bytes → content ≡ record { bytes = drop from bytes; stop = Last }
    → ◌≡◌ {A = Verdict}
    (record { bytes = take (length bytes - from) content.bytes; told = Some (length bytes); end = ranged_end from (length bytes - from) (length bytes) content })
    (whole_verdict from bytes)
ranged_whole bytes from content within is =
    let count = length bytes - from in
    let size = length-drop from bytes in
    let all = take_all count (drop from bytes) (omega (arith, size)) in
    let enough = le-leb count (length (drop from bytes)) (omega (arith, size)) in
    let sum = eq-eqb (from + count) (length bytes) (omega arith) in
    rw is (rw (all, enough, sum) refl)

part_content_is : (bytes body : List ℕ) (from at : ℕ) (fields : Fields) → IsPartBody fields (drop from bytes) body → length bytes ≤ limit → from ≤ length bytes
    → ranged_content (is_chunked fields) (length bytes - from) at body ≡ record { bytes = drop from bytes; stop = Last }
part_content_is bytes body from at fields (inl b) fits within =
    let size : length bytes - from ≡ length (drop from bytes) = sym (length-drop from bytes) in
    rw (b.not_chunked, size) (sized_whole (drop from bytes) body b.text_is)
part_content_is bytes body from at fields (inr b) fits within =
    rw b.chunked (chunked_whole fields (drop from bytes) body at b (omega (arith, length-drop from bytes)))

judged_206 : (from n : ℕ) (known : Option ℕ) (fields : Fields) → IsFalse (is_encoded fields) → 0 < from → from < n → n ≤ limit → Agrees known n
    → content_range fields ≡ Part from (n - 1) n → IsTrue (has_no_length_but (n - from) fields)
    → judge from known 206 fields ≡ accept (Some n) (plan.Ranged (n - from) n (is_chunked fields))
unfolding judge
judged_206 from n known fields plain some less fits agrees range told =
    let e0 : (from == 0) ≡ false = ne_eqb from 0 (λ e. absurd (omega arith)) in
    let e1 : (from == from) ≡ true = eq-eqb from from refl in
    let e2 : nat_lt (n - 1) from ≡ false = le-ltb (n - 1) from (omega arith) in
    let e3 : nat_le n (n - 1) ≡ false = lt-leb n (n - 1) (omega arith) in
    let e4 : n - 1 - from + 1 ≡ n - from = omega arith in
    rw (plain, range) (rw (no_fault known n agrees fits, e0, e1, e2, e3, e4, told) refl)

judged_416 : (from : ℕ) (known : Option ℕ) (fields : Fields) → IsFalse (is_encoded fields) → 0 < from → from ≤ limit → Agrees known from
    → content_range fields ≡ Past from → judge from known 416 fields ≡ accept (Some from) (plan.Nothing from)
unfolding judge
judged_416 from known fields plain some fits agrees range =
    let e0 : (from == 0) ≡ false = ne_eqb from 0 (λ e. absurd (omega arith)) in
    let e1 : (from == from) ≡ true = eq-eqb from from refl in
    rw range (rw (e0, plain, no_fault known from agrees fits, e1) refl)

answered : (bytes body : List ℕ) (from at : ℕ) (known : Option ℕ) (head : ResponseHead) → IsFalse (is_encoded (fields_of head)) → Answers bytes from head body
    → length bytes ≤ limit → from ≤ length bytes → Agrees known (length bytes)
    → let j = judge from known (status_code head) (fields_of head) in judged_verdict from known at body j.told j.plan ≡ whole_verdict from bytes
answered bytes body from at known head plain (inl a) fits within agrees =
    let fields = fields_of head in
    ap (λ (code : ℕ). judged_verdict from known at body (judge from known code fields).told (judge from known code fields).plan) a.0
    ∙ answers_200 bytes body from at known fields plain a.1 fits within agrees
answered bytes body from at known head plain (inr (inl a)) fits within agrees =
    let fields = fields_of head in
    let n = length bytes in
    ap (λ (code : ℕ). judged_verdict from known at body (judge from known code fields).told (judge from known code fields).plan) a.2
    ∙ by_judged from known at body (Some n) (plan.Ranged (n - from) n (is_chunked fields)) (judge from known 206 fields)
    (judged_206 from n known fields plain a.0 a.1 fits agrees a.3 a.4)
    ∙ ranged_whole bytes from (ranged_content (is_chunked fields) (n - from) at body) within (part_content_is bytes body from at fields a.5 fits within)
answered bytes body from at known head plain (inr (inr a)) fits within agrees =
    let fields = fields_of head in
    let same : length bytes ≡ from = sym a.1 in
    let none : drop from bytes ≡ [] = drop_all from bytes (omega arith) in
    ap (λ (code : ℕ). judged_verdict from known at body (judge from known code fields).told (judge from known code fields).plan) a.2
    ∙ by_judged from known at body (Some from) (plan.Nothing from) (judge from known 416 fields)
    (judged_416 from known fields plain a.0 (omega arith) (subst (Agrees known) same agrees) a.3)
    ∙ (rw (none, same) refl)

-- The verdict of a whole honest reply: the bytes from the place on, and the total.
pub honest_verdict : (bytes : List ℕ) (from : ℕ) (known : Option ℕ) (reply : List ℕ) (v : Verdict) → IsHonest bytes from reply
    → length bytes ≤ limit → from ≤ length bytes → Agrees known (length bytes) → IsVerdict from known reply v
    → v ≡ record { bytes = drop from bytes; told = Some (length bytes); end = Ok (length bytes) }
honest_verdict bytes from known reply v honest fits within agrees is =
    let at = heads_len honest.early honest.head in
    let found = honest_heads reply honest.body honest.early honest.head honest.heads in
    let ending = heads_unique reply 0 is.ending (final honest.head at) is.heads found.0 in
    let j = judge from known (status_code honest.head) (fields_of honest.head) in
    is.is ∙ ap (heads_verdict from known reply) ending
    ∙ ap (λ (rest : List ℕ). judged_verdict from known at rest j.told j.plan) found.1
    ∙ answered bytes honest.body from at known honest.head honest.plain honest.answers fits within agrees
