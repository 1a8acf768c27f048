-- The final head is one at most.
use Rattle.std.proofs.Common.{◌≡◌, ℕ, zero, suc, ◌⊎◌, ◌*◌, ◌+◌, ◌-◌, ◌<◌, ◌≤◌, List, [], ◌∷◌, ◌++◌, length, take, drop, refl, sym, ap, subst, ◌∙◌, arith, append-nil, length-append, length-drop, inl, inr, Bool, true, false, not}
use Rattle.std.proofs.lemmas.List.{length-map, length-take-le, drop-append-le}
use Rattle.std.specs.Prelude.{All, nat_lt, nat_le, ◌&&◌, IsTrue, IsFalse}
use Rattle.std.proofs.lemmas.Bool.{cases_Bool, and_parts, and_cases, not-true, not-false, lt-leb, le-leb, ltb-true, ltb-false, cases_lt}
use Rattle.std.specs.List.{flat_map}
use Rattle.httparse.specs.Grammar.{LineEnd, crlf, lf, print_end, Field, IsField, print_field, ResponseHead, ReadsResponse, HasNoResponse, print_response, status_code}
use Rattle.httparse.specs.Spans.{ResponseExceeds, IsResponseAt, IsResponseWithin, name_and_value, header_bytes}
use Rattle.httparse.proofs.GrammarLemmas.{response_unique, ReadsResponse-append}
use Rattle.std.proofs.lemmas.List.Elements.{All-head, All-tail}
use Rattle.http_reply.specs.Heads.{Standing, whole, none, StandsAt, heads_at, heads_room, after_head, HeadStep, again, ends, HeadsEnd, Heads, stop, go, final, long, Steps, HeadShows, head_next, none_next, may_start, fields_room}
use Rattle.http_reply.specs.declared.heads.HeadNext.{HeadNext}
use Rattle.http_reply.specs.declared.heads.HeadNext.TheVariants.{Crowded}
use Rattle.httparse.specs.declared.spans.HeaderSpan.{HeaderSpan}
use Rattle.httparse.specs.declared.spans.ResponseSpans.{ResponseSpans}
use Rattle.http_reply.proofs.ContentLemmas.{take_past}

pub false_true : false ≡ true → ⊥
false_true e = absurd (cc)

pub stands_unique : (bytes : List ℕ) (s t : Standing) → StandsAt bytes s → StandsAt bytes t → s ≡ t
stands_unique bytes (whole h m) (whole k n) x y =
    let same = response_unique bytes h k (drop m bytes) (drop n bytes) x.0 y.0 in
    let head : h ≡ k = same.0 in
    let len : m ≡ n = x.1 ∙ ap (λ (r : ResponseHead). length (print_response r)) head ∙ sym y.1 in
    cc
stands_unique bytes (whole h m) none x y = absurd (y h (drop m bytes) x.0)
stands_unique bytes none (whole k n) x y = absurd (x k (drop n bytes) y.0)
stands_unique bytes none none x y = refl

pub heads_unique : (reply : List ℕ) (at : ℕ) (d e : HeadsEnd) → Heads reply at d → Heads reply at e → d ≡ e
heads_unique reply at d e (stop _ _ s x p) (stop _ _ t y q) =
    let same = stands_unique (heads_at reply at) s t x y in
    cc
heads_unique reply at d e (stop _ _ s x p) (go _ n _ t y q more) =
    let same = stands_unique (heads_at reply at) s t x y in
    absurd (cc)
heads_unique reply at d e (go _ m _ s x p less) (stop _ _ t y q) =
    let same = stands_unique (heads_at reply at) s t x y in
    absurd (cc)
heads_unique reply at d e (go _ m _ s x p less) (go _ n _ t y q more) =
    let same = stands_unique (heads_at reply at) s t x y in
    let next : n ≡ m = cc in
    heads_unique reply m d e less (subst (λ (k : ℕ). Heads reply k e) next more)

-- What came is the front of what is judged.
pub heads_split : (came later : List ℕ) (at : ℕ) → at ≤ length came → length came ≤ heads_room
    → heads_at (came ++ later) at ≡ drop at came ++ take (heads_room - length came) later
heads_split came later at within fits =
    ap (drop at) (take_past came later heads_room fits) ∙ drop-append-le at came (take (heads_room - length came) later) within

pub whole_stays : (came later : List ℕ) (at : ℕ) (h : ResponseHead) (len : ℕ) → at ≤ length came → length came ≤ heads_room
    → StandsAt (drop at came) (whole h len) → len ≤ length (drop at came) → StandsAt (heads_at (came ++ later) at) (whole h len)
whole_stays came later at h len within fits x inside =
    let more = take (heads_room - length came) later in
    let split = heads_split came later at within fits in
    let rest : drop len (drop at came ++ more) ≡ drop len (drop at came) ++ more = drop-append-le len (drop at came) more inside in
    let reads : ReadsResponse (drop at came ++ more) h (drop len (drop at came ++ more)) =
    rw rest (ReadsResponse-append (drop at came) h (drop len (drop at came)) more x.0) in
    subst (λ (b : List ℕ). StandsAt b (whole h len)) (sym split) (reads, x.1)

-- A field has at least three bytes.
end_some : (e : LineEnd) → 0 < length (print_end e)
end_some crlf = omega arith
end_some lf = omega arith

pub fields_long : (fields : List Field) → All IsField fields → 3 * length fields ≤ length (flat_map print_field fields)
fields_long [] ok = omega arith
fields_long (f ∷ fields) ok =
    let here : IsField f = All-head IsField f fields ok in
    let rest = fields_long fields (All-tail IsField f fields ok) in
    let ends_ = end_some f.end in
    let name = here.name.0 in
    let line : length (print_field f) ≡ length f.name + (1 + length f.raw) + length (print_end f.end) = simp length-append (omega arith) in
    omega (arith, length-append (print_field f) (flat_map print_field fields), line)

-- So many fields do not fit in what is read for the heads.
pub no_excess : (came : List ℕ) (count : ℕ) → length came ≤ heads_room → fields_room ≤ count → ResponseExceeds count came → ⊥
unfolding print_response
no_excess came count fits many x =
    let front = x.0 in
    let h = x.3 in
    let reads = x.4 in
    let long = fields_long h.fields reads.0.fields in
    let all : length (front ++ print_end lf) ≡ length (print_response h ++ []) = ap length reads.1 in
    let inside : length (flat_map print_field h.fields) ≤ length (print_response h) = simp length-append (omega arith) in
    let whole_ : length came ≡ length front + length x.1 = ap length x.2 ∙ length-append front x.1 in
    omega (arith, length-append front (print_end lf), length-append (print_response h) [], x.5)

-- A head that has more fields than there is room for: this is not the whole room.
pub shows_crowded : (came : List ℕ) (at : ℕ) (ended : Bool) (headers : List HeaderSpan) → length came ≤ heads_room
    → ResponseExceeds (length headers) (drop at came) → HeadShows came at ended headers Crowded
shows_crowded came at ended headers fits x =
    elim (cases_lt (length headers) fields_room) [
      | inl less ↦ (less, x)
      | inr all ↦ absurd (no_excess (drop at came) (length headers) (omega (arith, length-drop at came)) all x)
    ]

take_nothing : (n : ℕ) → ◌≡◌ {A = List ℕ} (take n []) []
take_nothing zero = refl
take_nothing (suc n) = refl

-- Nothing more is judged, where the reply has ended or all that is read for the heads came.
pub heads_same : (came later : List ℕ) (at : ℕ) → at ≤ length came → length came ≤ heads_room → (later ≡ []) ⊎ (heads_room ≤ length came)
    → heads_at (came ++ later) at ≡ drop at came
heads_same came later at within fits over =
    let more = take (heads_room - length came) later in
    let none_ : more ≡ [] = elim over [
      | inl gone ↦ ap (take (heads_room - length came)) gone ∙ take_nothing (heads_room - length came)
      | inr full ↦ let zero_ : heads_room - length came ≡ 0 = omega arith in rw zero_ refl
    ] in
    heads_split came later at within fits ∙ rw none_ (append-nil (drop at came))

-- A whole head's step.
steps_whole : (came : List ℕ) (at : ℕ) (ended : Bool) (h : ResponseHead) (len : ℕ) (step : HeadStep) → at ≤ length came → length came ≤ heads_room
    → StandsAt (drop at came) (whole h len) → len ≤ length (drop at came)
    → ((reply : List ℕ) → after_head reply at (whole h len) ≡ step) → Steps came at ended step
steps_whole came at ended h len step within fits x inside after = record {
  standing = whole h len;
  stands = λ later over. whole_stays came later at h len within fits x inside;
  after = λ later over. after (came ++ later);
}

-- A head has some bytes.
pub response_some : (h : ResponseHead) → 0 < length (print_response h)
unfolding print_response
response_some h = grind (arith, length-append)

pub shows_whole : (came : List ℕ) (at : ℕ) (ended : Bool) (headers : List HeaderSpan) (spans : ResponseSpans) → at ≤ length came → length came ≤ heads_room
    → (h : ResponseHead) × IsResponseAt (drop at came) headers spans h → IsResponseWithin (drop at came) headers spans
    → HeadShows came at ended headers (head_next at spans)
shows_whole came at ended headers spans within fits found inside =
    let h = found.0 in
    let x = found.1 in
    let stands : StandsAt (drop at came) (whole h spans.len) = (x.reads, x.len) in
    let counted : length (take spans.headers headers) ≡ spans.headers = length-take-le spans.headers headers inside.section.count_fits in
    let fields : length h.fields ≡ spans.headers =
    sym (length-map h.fields name_and_value) ∙ ap length (sym x.fields) ∙ length-map (take spans.headers headers) (header_bytes (drop at came)) ∙ counted in
    let code : status_code h ≡ spans.code = sym x.code in
    let next = λ (step : HeadStep). steps_whole came at ended h spans.len step within fits stands inside.section.len_fits in
    elim (cases_Bool (nat_lt 128 spans.headers)) [
      | inl many ↦ rw many (next (ends long) (λ reply. rw (fields, many) refl))
      | inr few ↦ elim (cases_Bool (nat_le 100 spans.code && nat_lt spans.code 200)) [
        | inl inf ↦ rw (few, inf) (
          omega (arith, x.len, response_some h),
          omega (arith, within, length-drop at came, inside.section.len_fits),
          next (again (at + spans.len)) (λ reply. rw (fields, few, code, inf) refl),
        )
        | inr fin ↦ rw (few, fin) (h, next (ends (final h (at + spans.len))) (λ reply. rw (fields, few, code, fin) refl), x, inside, refl)
      ]
    ]

pub shows_none : (came : List ℕ) (at : ℕ) (ended : Bool) (headers : List HeaderSpan) (waits : HeadNext) → at ≤ length came → length came ≤ heads_room
    → HasNoResponse (drop at came) → (IsFalse ended → length came < heads_room → HeadShows came at ended headers waits)
    → HeadShows came at ended headers (none_next came at ended waits)
shows_none came at ended headers waits within fits no_head more_comes =
    let bytes = drop at came in
    let stands : (later : List ℕ) → (later ≡ []) ⊎ (heads_room ≤ length came) → StandsAt (heads_at (came ++ later) at) none =
    λ later over. subst HasNoResponse (sym (heads_same came later at within fits over)) no_head in
    elim (cases_Bool (not ended && nat_lt (length came) heads_room)) [
      | inl more ↦
          let parts = and_parts (not ended) (nat_lt (length came) heads_room) more in
          rw more (more_comes (not-true ended parts.0) (ltb-true (length came) heads_room parts.1))
      | inr over ↦
          let over_ : (later : List ℕ) → (IsTrue ended → later ≡ []) → (later ≡ []) ⊎ (heads_room ≤ length came) = λ later said.
          elim (and_cases (not ended) (nat_lt (length came) heads_room) over) [
            | inl gone ↦ inl (said (not-false ended gone))
            | inr full ↦ inr (ltb-false (length came) heads_room full)
          ] in
          let same = λ (later : List ℕ) (said : IsTrue ended → later ≡ []). heads_same came later at within fits (over_ later said) in
          elim (cases_Bool (may_start bytes)) [
            | inl begins ↦ elim (cases_Bool (nat_lt (length came) heads_room)) [
              | inl less ↦ rw (over, begins, less) (record {
                standing = none;
                stands = λ later said. stands later (over_ later said);
                after = λ later said.
                    let gone : later ≡ [] = elim (over_ later said) [ inl e ↦ e | inr full ↦ let lt : length came < heads_room = ltb-true (length came) heads_room less in absurd (omega arith) ] in
                    let size : length (came ++ later) ≡ length came = rw gone (ap length (append-nil came)) in
                    let short_ : nat_le heads_room (length (came ++ later)) ≡ false = lt-leb heads_room (length (came ++ later)) (rw size (ltb-true (length came) heads_room less)) in
                    rw (same later said, begins, short_) refl;
              })
              | inr full ↦ rw (over, begins, full) (record {
                standing = none;
                stands = λ later said. stands later (over_ later said);
                after = λ later said.
                    let long_ : nat_le heads_room (length (came ++ later)) ≡ true =
                    le-leb heads_room (length (came ++ later)) (omega (arith, length-append came later, ltb-false (length came) heads_room full)) in
                    rw (same later said, begins, long_) refl;
              })
            ]
            | inr begins ↦ rw (over, begins) (
              refl,
              record {
                standing = none;
                stands = λ later said. stands later (over_ later said);
                after = λ later said. rw (same later said, begins) refl;
              },
            )
          ]
    ]
