-- The verdict on a truthful reply is true.
use Rattle.std.proofs.Common.{◌≡◌, ◌≢◌, ℕ, ◌+◌, ◌-◌, ◌<◌, ◌≤◌, ◌==◌, List, [], ◌++◌, length, take, drop, refl, sym, ap, ◌∙◌, subst, arith, append-nil, length-append, length-drop, inl, inr, true, false, Option, Some, None, Result, Ok, Err}
use Rattle.std.specs.Prelude.{IsTrue, IsFalse, nat_lt, nat_le, if◌then◌else◌}
use Rattle.std.specs.List.{flat_map}
use Rattle.std.proofs.lemmas.Bool.{cases_Bool, cases_lt, eq-eqb, ne_eqb, le-ltb, le-leb, lt-leb}
use Rattle.std.proofs.lemmas.List.{take_all, drop_all, drop-append-le}
use Rattle.httparse.specs.Grammar.{ResponseHead, status_code}
use Rattle.http_reply.specs.declared.stop.Stop.{Stop}
use Rattle.http_reply.specs.declared.stop.Stop.TheVariants.{Last, Cut, Bad, Long}
use Rattle.http_reply.specs.declared.piece_fault.PieceFault.{PieceFault}
use Rattle.http_reply.specs.declared.piece_fault.PieceFault.TheVariants.{Status, BadRange, BadHead, HeadLong, CutShort, PieceLong}
use Rattle.http_reply.specs.declared.range.Range.TheVariants.{Part, Past}
use Rattle.http_reply.specs.declared.plan.Plan.TheVariants as plan
use Rattle.http_reply.specs.declared.judged.Judged.{Judged}
use Rattle.http_reply.specs.Content.{Content, sized}
use Rattle.http_reply.specs.Chunked.{chunks}
use Rattle.http_reply.specs.Fields.{Fields, fields_of, is_encoded, is_chunked, has_no_length_but, length_told, content_range}
use Rattle.http_reply.specs.Heads.{HeadsEnd, final, bad, long, short, Heads}
use Rattle.http_reply.specs.Verdict.{Verdict, IsVerdict, heads_verdict, judge, judged_verdict, plan_verdict, refuse, accept, refuse_or, total_fault, changes, total_end, sized_end, got_after, chunked_verdict, ranged_end, ranged_content}
use Rattle.http_reply.specs.Truth.{print_chunk, IsBody, IsPartBody, IsChunkedBody, Answers, IsTruthful}
use Rattle.http_reply.specs.Laws.{IsTrueOf}
use Rattle.http_reply.proofs.ContentLemmas.{drop_past}
use Rattle.http_reply.proofs.HeadLemmas.{heads_unique}
use Rattle.http_reply.proofs.HonestLemmas.{honest_heads, heads_len, judged_chunked}
use Rattle.http_reply.proofs.TruthLemmas.{none_left, final_stays, Fronts, chunked_fronts, chunked_cut, sized_cut}

refused_by : (resource : Option (List ℕ)) (from : ℕ) (told : Option ℕ) (cause : PieceFault) → IsTrueOf resource from (record { bytes = []; told = told; end = Err cause })
refused_by None from told cause = (refl, refl)
refused_by (Some bytes) from told cause = (drop from bytes, refl, tt)

true_as : (resource : Option (List ℕ)) (from : ℕ) (v w : Verdict) → v ≡ w → IsTrueOf resource from w → IsTrueOf resource from v
true_as resource from v w is t = subst (λ (x : Verdict). IsTrueOf resource from x) (sym is) t

-- ---- a body

drop_front : (from : ℕ) (xs ys : List ℕ) → drop from (xs ++ ys) ≡ drop from xs ++ drop (from - length xs) ys
drop_front from xs ys =
    elim (cases_lt (length xs) from) [
      | inl past ↦
          let gone = drop_all from xs (omega arith) in
          drop_past xs ys from (omega arith) ∙ ap (λ (b : List ℕ). b ++ drop (from - length xs) ys) (sym gone)
      | inr within ↦
          let zero_ : from - length xs ≡ 0 = omega arith in
          drop-append-le from xs ys within ∙ (rw zero_ refl)
    ]

drop_none : (n : ℕ) (xs : List ℕ) → xs ≡ [] → drop n xs ≡ []
drop_none n xs is = rw is (drop_all n [] (omega arith))

err_total : (cause : PieceFault) (total : ℕ) → ◌≡◌ {A = Result ℕ PieceFault} (Err cause) (Ok total) → ⊥
err_total cause total e = absurd (cc)

ok_total : (a b : ℕ) → ◌≡◌ {A = Result ℕ PieceFault} (Ok a) (Ok b) → a ≡ b
ok_total a b e = cc

-- the front of the bytes from the place on, by how the body ends
true_whole : (bytes : List ℕ) (from : ℕ) (c : Content) (told : Option ℕ) (end : Result ℕ PieceFault) → Fronts bytes c
    → ((total : ℕ) → end ≡ Ok total → (c.stop ≡ Last) × (total ≡ length bytes))
    → IsTrueOf (Some bytes) from (record { bytes = drop from c.bytes; told = told; end = end })
true_whole bytes from c told (Err cause) f law = (drop (from - length c.bytes) f.rest, ap (drop from) f.front ∙ drop_front from c.bytes f.rest, tt)
true_whole bytes from c told (Ok total) f law = (
  drop (from - length c.bytes) f.rest,
  ap (drop from) f.front ∙ drop_front from c.bytes f.rest,
  ((law total refl).1, drop_none (from - length c.bytes) f.rest (f.whole_ (law total refl).0)),
)

sized_law : (n got : ℕ) (s : Stop) (total : ℕ) → sized_end n got s ≡ Ok total → (s ≡ Last) × (total ≡ n)
sized_law n got Last total is = (refl, sym (ok_total n total is))
sized_law n got Cut total is = absurd (err_total (CutShort got (Some n)) total is)
sized_law n got (Bad at) total is = absurd (err_total (BadHead at) total is)
sized_law n got (Long sum) total is = absurd (err_total (PieceLong sum) total is)

total_law : (from : ℕ) (known : Option ℕ) (n total : ℕ) (change : Option PieceFault) → changes known n ≡ change → total_end from known n ≡ Ok total → total ≡ n
total_law from known n total (Some cause) is end = absurd (err_total cause total (rw is at end))
total_law from known n total None is end =
    elim (cases_Bool (nat_lt n from)) [
      | inl short_ ↦ absurd (err_total (BadRange from (Some n)) total (rw (is, short_) at end))
      | inr fits ↦ let e : ◌≡◌ {A = Result ℕ PieceFault} (Ok n) (Ok total) = rw (is, fits) at end in sym (ok_total n total e)
    ]

true_chunked : (bytes : List ℕ) (from : ℕ) (known : Option ℕ) (content : List ℕ) (s : Stop) → Fronts bytes (record { bytes = content; stop = s })
    → IsTrueOf (Some bytes) from (chunked_verdict from known content s)
true_chunked bytes from known content Last f =
    let none_ = f.whole_ refl in
    let size : length content ≡ length bytes = ap (λ (b : List ℕ). length b) (sym (f.front ∙ ap (λ (b : List ℕ). content ++ b) none_ ∙ append-nil content)) in
    true_whole bytes from (record { bytes = content; stop = Last }) (Some (length content)) (total_end from known (length content)) f
    (λ total is. (refl, total_law from known (length content) total (changes known (length content)) refl is ∙ size))
true_chunked bytes from known content Cut f =
    true_whole bytes from (record { bytes = content; stop = Cut }) None _ f (λ total is. absurd (err_total (CutShort (got_after from content) None) total is))
true_chunked bytes from known content (Bad at) f =
    true_whole bytes from (record { bytes = content; stop = Bad at }) None _ f (λ total is. absurd (err_total (BadHead at) total is))
true_chunked bytes from known content (Long sum) f =
    true_whole bytes from (record { bytes = content; stop = Long sum }) None _ f (λ total is. absurd (err_total (PieceLong sum) total is))

true_ranged : (bytes : List ℕ) (from : ℕ) (c : Content) → from ≤ length bytes → Fronts (drop from bytes) c
    → IsTrueOf (Some bytes) from (record { bytes = take (length bytes - from) c.bytes; told = Some (length bytes); end = ranged_end from (length bytes - from) (length bytes) c })
true_ranged bytes from c within f =
    let count = length bytes - from in
    let size = length-drop from bytes in
    let sizes : length (drop from bytes) ≡ length (c.bytes ++ f.rest) = ap (λ (b : List ℕ). length b) f.front in
    let joined = length-append c.bytes f.rest in
    let all : take count c.bytes ≡ c.bytes = take_all count c.bytes (omega (arith, size, sizes, joined)) in
    let sum : (from + count == length bytes) ≡ true = eq-eqb (from + count) (length bytes) (omega arith) in
    let front : drop from bytes ≡ take count c.bytes ++ f.rest = f.front ∙ ap (λ (b : List ℕ). b ++ f.rest) (sym all) in
    elim (cases_lt (length c.bytes) count) [
      | inl less ↦ let t = lt-leb count (length c.bytes) less in rw t (f.rest, front, tt)
      | inr enough ↦
          let t = le-leb count (length c.bytes) enough in
          rw (t, sum) (f.rest, front, (refl, none_left f.rest (omega (arith, size, sizes, joined))))
    ]

-- a body that is told by its chunks, and what came of it
chunked_came : (fields : Fields) (content came more : List ℕ) (at : ℕ) → IsChunkedBody fields content (came ++ more) → Fronts content (chunks at 0 came)
chunked_came fields content came more at b =
    let told = chunked_fronts b.chunks b.last b.after at 0 b.are b.ends in
    let all : Fronts content (chunks at 0 (came ++ more)) =
    subst (λ (t : List ℕ). Fronts content (chunks at 0 t)) (sym b.text_is)
    (subst (λ (x : List ℕ). Fronts x (chunks at 0 (flat_map print_chunk b.chunks ++ (b.last ++ b.after)))) (sym b.content_is) told) in
    chunked_cut content came more at all

-- ---- the final head

by_refusal : (resource : Option (List ℕ)) (from : ℕ) (known : Option ℕ) (at : ℕ) (rest : List ℕ) (told : Option ℕ) (tf : Option PieceFault) (next : Judged)
    → IsTrueOf resource from (judged_verdict from known at rest next.told next.plan)
    → IsTrueOf resource from (judged_verdict from known at rest (refuse_or told tf next).told (refuse_or told tf next).plan)
by_refusal resource from known at rest told (Some cause) next t = refused_by resource from told cause
by_refusal resource from known at rest told None next t = t

true_judged : (resource : Option (List ℕ)) (from : ℕ) (known : Option ℕ) (at : ℕ) (rest : List ℕ) (i j : Judged) → i ≡ j
    → IsTrueOf resource from (judged_verdict from known at rest j.told j.plan) → IsTrueOf resource from (judged_verdict from known at rest i.told i.plan)
true_judged resource from known at rest i j is t =
    subst (λ (x : Judged). IsTrueOf resource from (judged_verdict from known at rest x.told x.plan)) (sym is) t

told_200 : (from n : ℕ) (known : Option ℕ) (fields : Fields) → IsFalse (is_encoded fields) → IsFalse (is_chunked fields) → length_told fields ≡ Some n
    → judge from known 200 fields ≡ refuse_or (Some n) (total_fault known n)
    (if nat_lt n from then refuse (Some n) (BadRange from (Some n)) else accept (Some n) (plan.Whole (Some n)))
unfolding judge
told_200 from n known fields plain not_chunked told = rw (plain, not_chunked, told) refl

told_206 : (from n : ℕ) (known : Option ℕ) (fields : Fields) → IsFalse (is_encoded fields) → 0 < from → from < n
    → content_range fields ≡ Part from (n - 1) n → IsTrue (has_no_length_but (n - from) fields)
    → judge from known 206 fields ≡ refuse_or (Some n) (total_fault known n) (accept (Some n) (plan.Ranged (n - from) n (is_chunked fields)))
unfolding judge
told_206 from n known fields plain some less range told =
    let e0 : (from == 0) ≡ false = ne_eqb from 0 (λ e. absurd (omega arith)) in
    let e1 : (from == from) ≡ true = eq-eqb from from refl in
    let e2 : nat_lt (n - 1) from ≡ false = le-ltb (n - 1) from (omega arith) in
    let e3 : nat_le n (n - 1) ≡ false = lt-leb n (n - 1) (omega arith) in
    let e4 : n - 1 - from + 1 ≡ n - from = omega arith in
    rw (plain, range) (rw (e0, e1, e2, e3, e4, told) refl)

told_416 : (from : ℕ) (known : Option ℕ) (fields : Fields) → IsFalse (is_encoded fields) → 0 < from → content_range fields ≡ Past from
    → judge from known 416 fields ≡ refuse_or (Some from) (total_fault known from) (accept (Some from) (plan.Nothing from))
unfolding judge
told_416 from known fields plain some range =
    let e0 : (from == 0) ≡ false = ne_eqb from 0 (λ e. absurd (omega arith)) in
    let e1 : (from == from) ≡ true = eq-eqb from from refl in
    rw range (rw (e0, plain, e1) refl)

true_200 : (bytes came more : List ℕ) (from at : ℕ) (known : Option ℕ) (fields : Fields) → IsFalse (is_encoded fields) → IsBody fields bytes (came ++ more)
    → IsTrueOf (Some bytes) from (judged_verdict from known at came (judge from known 200 fields).told (judge from known 200 fields).plan)
true_200 bytes came more from at known fields plain (inl b) =
    let n = length bytes in
    let content = sized n came in
    let body : IsTrueOf (Some bytes) from (plan_verdict from known at came (plan.Whole (Some n))) =
    true_whole bytes from content (Some n) (sized_end n (got_after from content.bytes) content.stop) (sized_cut bytes came more (sym b.text_is))
    (λ total is. sized_law n (got_after from content.bytes) content.stop total is) in
    true_judged (Some bytes) from known at came (judge from known 200 fields) _ (told_200 from n known fields plain b.not_chunked b.told)
    (by_refusal (Some bytes) from known at came (Some n) (total_fault known n) _ (
    elim (cases_Bool (nat_lt n from)) [
      | inl less ↦ rw less (refused_by (Some bytes) from (Some n) (BadRange from (Some n)))
      | inr fits ↦ rw fits body
    ]
    ))
true_200 bytes came more from at known fields plain (inr b) =
    let content = chunks at 0 came in
    true_judged (Some bytes) from known at came (judge from known 200 fields) (accept None (plan.Whole None)) (judged_chunked from known fields plain b.chunked)
    (true_chunked bytes from known content.bytes content.stop (chunked_came fields bytes came more at b))

part_came : (bytes came more : List ℕ) (from at : ℕ) (fields : Fields) → from ≤ length bytes → IsPartBody fields (drop from bytes) (came ++ more)
    → Fronts (drop from bytes) (ranged_content (is_chunked fields) (length bytes - from) at came)
part_came bytes came more from at fields within (inl b) =
    let size : length bytes - from ≡ length (drop from bytes) = sym (length-drop from bytes) in
    rw (b.not_chunked, size) (sized_cut (drop from bytes) came more (sym b.text_is))
part_came bytes came more from at fields within (inr b) = rw b.chunked (chunked_came fields (drop from bytes) came more at b)

true_answer : (bytes came more : List ℕ) (from at : ℕ) (known : Option ℕ) (head : ResponseHead) → IsFalse (is_encoded (fields_of head)) → Answers bytes from head (came ++ more)
    → let j = judge from known (status_code head) (fields_of head) in IsTrueOf (Some bytes) from (judged_verdict from known at came j.told j.plan)
true_answer bytes came more from at known head plain (inl a) =
    let fields = fields_of head in
    true_judged (Some bytes) from known at came _ (judge from known 200 fields) (ap (λ (code : ℕ). judge from known code fields) a.0)
    (true_200 bytes came more from at known fields plain a.1)
true_answer bytes came more from at known head plain (inr (inl a)) =
    let fields = fields_of head in
    let n = length bytes in
    true_judged (Some bytes) from known at came _ _
    (ap (λ (code : ℕ). judge from known code fields) a.2 ∙ told_206 from n known fields plain a.0 a.1 a.3 a.4)
    (by_refusal (Some bytes) from known at came (Some n) (total_fault known n) (accept (Some n) (plan.Ranged (n - from) n (is_chunked fields)))
    (true_ranged bytes from (ranged_content (is_chunked fields) (n - from) at came) (omega arith) (part_came bytes came more from at fields (omega arith) a.5)))
true_answer bytes came more from at known head plain (inr (inr a)) =
    let fields = fields_of head in
    let none_ : drop from bytes ≡ [] = drop_all from bytes (omega arith) in
    true_judged (Some bytes) from known at came _ _
    (ap (λ (code : ℕ). judge from known code fields) a.2 ∙ told_416 from known fields plain a.0 a.3)
    (by_refusal (Some bytes) from known at came (Some from) (total_fault known from) (accept (Some from) (plan.Nothing from)) ([], none_, (a.1, refl)))

refused_status : (from : ℕ) (known : Option ℕ) (code : ℕ) (fields : Fields) → code ≢ 200 → code ≢ 206 → code ≢ 416
    → judge from known code fields ≡ refuse None (Status code)
unfolding judge
refused_status from known code fields n200 n206 n416 = rw (ne_eqb code 416 n416, ne_eqb code 200 n200, ne_eqb code 206 n206) refl

-- ---- the whole

final_head : (h k : ResponseHead) (m n : ℕ) → final h m ≡ final k n → (h ≡ k) × (m ≡ n)
final_head h k m n e = (cc, cc)

by_ending : (resource : Option (List ℕ)) (from : ℕ) (known : Option ℕ) (reply : List ℕ) (ending : HeadsEnd) → IsTruthful resource from reply → Heads reply 0 ending
    → IsTrueOf resource from (heads_verdict from known reply ending)
by_ending resource from known reply (bad at) t heads = refused_by resource from None (BadHead at)
by_ending resource from known reply long t heads = refused_by resource from None HeadLong
by_ending resource from known reply short t heads = refused_by resource from None (CutShort from None)
by_ending resource from known reply (final h at) (more, inl r) heads =
    let stays = final_stays reply more 0 h at (final h at) refl heads in
    let found = honest_heads (reply ++ more) r.body r.early r.head r.heads in
    let same = final_head h r.head at (heads_len r.early r.head) (heads_unique (reply ++ more) 0 (final h at) (final r.head (heads_len r.early r.head)) stays.heads found.0) in
    let code : status_code h ≡ status_code r.head = ap (λ (x : ResponseHead). status_code x) same.0 in
    true_judged resource from known at (drop at reply) (judge from known (status_code h) (fields_of h)) (refuse None (Status (status_code h)))
    (refused_status from known (status_code h) (fields_of h) (λ e. r.not_200 (sym code ∙ e)) (λ e. r.not_206 (sym code ∙ e)) (λ e. r.not_416 (sym code ∙ e)))
    (refused_by resource from None (Status (status_code h)))
by_ending None from known reply (final h at) (more, inr none_) heads = absurd none_
by_ending (Some bytes) from known reply (final h at) (more, inr honest) heads =
    let stays = final_stays reply more 0 h at (final h at) refl heads in
    let place = heads_len honest.early honest.head in
    let found = honest_heads (reply ++ more) honest.body honest.early honest.head honest.heads in
    let same = final_head h honest.head at place (heads_unique (reply ++ more) 0 (final h at) (final honest.head place) stays.heads found.0) in
    let body : honest.body ≡ drop at reply ++ more =
    sym found.1 ∙ ap (λ (n : ℕ). drop n (reply ++ more)) (sym same.1) ∙ drop-append-le at reply more stays.within in
    let answers : Answers bytes from h (drop at reply ++ more) =
    subst (λ (b : List ℕ). Answers bytes from h b) body (subst (λ (x : ResponseHead). Answers bytes from x honest.body) (sym same.0) honest.answers) in
    let plain : IsFalse (is_encoded (fields_of h)) = subst (λ (x : ResponseHead). IsFalse (is_encoded (fields_of x))) (sym same.0) honest.plain in
    true_answer bytes (drop at reply) more from at known h plain answers

pub truthful : (resource : Option (List ℕ)) (from : ℕ) (known : Option ℕ) (reply : List ℕ) (v : Verdict) → IsTruthful resource from reply → IsVerdict from known reply v
    → IsTrueOf resource from v
truthful resource from known reply v t is =
    true_as resource from v (heads_verdict from known reply is.ending) is.is (by_ending resource from known reply is.ending t is.heads)
