-- A head ends where its first empty line behind text does, and not before.
use Rattle.std.proofs.Common.{◌≡◌, ℕ, ◌+◌, ◌-◌, ◌<◌, ◌≤◌, ◌⊎◌, List, [], ◌∷◌, ◌++◌, length, take, drop, refl, sym, ap, ◌∙◌, subst, arith, append_assoc, length-append, length-drop, inl, inr, Bool, true, false}
use Rattle.std.specs.Prelude.{◌==◌, ◌&&◌, ◌||◌, not, IsTrue, IsFalse}
use Rattle.std.specs.List.{flat_map}
use Rattle.std.proofs.Math.Seq.{drop-append_seam}
use Rattle.std.proofs.lemmas.Bool.{cases_Bool, cases_lt}
use Rattle.std.proofs.lemmas.List.{take_all, drop_all, length-take, length-take-le, take-append-le, drop-append-le, take-append-drop}
use Rattle.httparse.specs.Ascii.{crlf_bytes, line_feed, colon, space}
use Rattle.httparse.specs.Grammar.{LineEnd, crlf, lf, print_end, print_blank, print_version, print_reason, Field, print_field, ResponseHead, ReadsResponse, HasNoResponse, NeverHasResponse, print_response}
use Rattle.http_reply.proofs.ContentLemmas.{take_past}
use Rattle.http_reply.proofs.HeadLemmas.{response_some}
use Rattle.link_http.specs.declared.head_lines.LinePlace.{LinePlace}
use Rattle.link_http.specs.declared.head_lines.LinePlace.TheVariants.{Start, Text, Empty}
use Rattle.link_http.specs.declared.head_lines.HeadLines.{HeadLines}
use Rattle.link_http.specs.HeadLines.{place_after, lines_after, ends_on, ends_in, seen_of, Looked}

not_ends : (b : Bool) → not b ≡ true → b ≡ false
not_ends true is = absurd (cc)
not_ends false is = refl

true_false : true ≡ false → ⊥
true_false e = absurd (cc)

lines-append : (place : LinePlace) (a b : List ℕ) → lines_after place (a ++ b) ≡ lines_after (lines_after place a) b
lines-append place [] b = refl
lines-append place (x ∷ a) b = lines-append (place_after place x) a b

ends-append : (place : LinePlace) (a b : List ℕ) → ends_in place a ≡ true → ends_in place (a ++ b) ≡ true
ends-append place [] b is = absurd (true_false (sym is))
ends-append place (x ∷ a) b is =
    elim (cases_Bool (ends_on place x)) [
      | inl here ↦ rw here refl
      | inr other ↦ rw other (ends-append (place_after place x) a b (rw other at is))
    ]

-- Behind LF, or LF and CR, that ends a line of text, LF ends an empty line.
ends_at : (place : LinePlace) (bytes : List ℕ) → lines_after place bytes ≡ Empty → ends_in place (bytes ++ 10 ∷ []) ≡ true
ends_at place [] is = subst (λ (p : LinePlace). ends_in p (10 ∷ []) ≡ true) (sym is) refl
ends_at place (b ∷ bytes) is =
    elim (cases_Bool (ends_on place b)) [
      | inl here ↦ rw here refl
      | inr other ↦ rw other (ends_at (place_after place b) bytes is)
    ]

-- ---- where the lines of a head stand

abbrev has_text : LinePlace → Bool
has_text Start = false
has_text Text = true
has_text Empty = true

text_stays : (place : LinePlace) (b : ℕ) → has_text place ≡ true → has_text (place_after place b) ≡ true
text_stays Start b is = absurd (true_false (sym is))
text_stays Text b is =
    elim (cases_Bool (b == 13)) [
      | inl cr ↦ rw cr refl
      | inr other ↦ elim (cases_Bool (b == 10)) [ inl line ↦ rw (other, line) refl | inr text ↦ rw (other, text) refl ]
    ]
text_stays Empty b is =
    elim (cases_Bool (b == 13)) [
      | inl cr ↦ rw cr refl
      | inr other ↦ elim (cases_Bool (b == 10)) [ inl line ↦ rw (other, line) refl | inr text ↦ rw (other, text) refl ]
    ]

texts_stay : (place : LinePlace) (bytes : List ℕ) → has_text place ≡ true → has_text (lines_after place bytes) ≡ true
texts_stay place [] is = is
texts_stay place (b ∷ bytes) is = texts_stay (place_after place b) bytes (text_stays place b is)

text_more : (a b : List ℕ) → has_text (lines_after Start a) ≡ true → has_text (lines_after Start (a ++ b)) ≡ true
text_more a b is = ap (λ (p : LinePlace). has_text p) (lines-append Start a b) ∙ texts_stay (lines_after Start a) b is

version_text : (place : LinePlace) (minor : ℕ) → has_text (lines_after place (print_version minor)) ≡ true
version_text place minor = texts_stay Text (drop 1 (print_version minor)) refl

end_empty : (place : LinePlace) (e : LineEnd) → has_text place ≡ true → lines_after place (print_end e) ≡ Empty
end_empty Start e is = absurd (true_false (sym is))
end_empty Text crlf is = refl
end_empty Text lf is = refl
end_empty Empty crlf is = refl
end_empty Empty lf is = refl

line_empty : (line : List ℕ) (e : LineEnd) (place : LinePlace) → has_text place ≡ true → lines_after place (line ++ print_end e) ≡ Empty
line_empty line e place is = lines-append place line (print_end e) ∙ end_empty (lines_after place line) e (texts_stay place line is)

fields_empty : (fields : List Field) → lines_after Empty (flat_map print_field fields) ≡ Empty
fields_empty [] = refl
fields_empty (f ∷ fields) =
    lines-append Empty (print_field f) (flat_map print_field fields)
    ∙ ap (λ (p : LinePlace). lines_after p (flat_map print_field fields)) (line_empty (f.name ++ colon ∷ f.raw) f.end Empty refl)
    ∙ fields_empty fields

-- text that ends with LF, behind which an empty line has begun before
record EndsEmpty (text : List ℕ) : Type 0 where
  body : List ℕ
  is : text ≡ body ++ 10 ∷ []
  place : lines_after Start body ≡ Empty

by_end : (front : List ℕ) (e : LineEnd) → lines_after Start front ≡ Empty → EndsEmpty (front ++ print_end e)
by_end front lf is = record { body = front; is = refl; place = is }
by_end front crlf is = record {
  body = front ++ 13 ∷ [];
  is = sym (append_assoc front (13 ∷ []) (10 ∷ []));
  place = lines-append Start front (13 ∷ []) ∙ ap (λ (p : LinePlace). lines_after p (13 ∷ [])) is;
}

-- A head ends with its empty line.
head_ends : (h : ResponseHead) → EndsEmpty (print_response h)
unfolding print_response
head_ends h =
    let start = print_blank h.blank ++ print_version h.minor in
    let line = start ++ space ∷ h.digits ++ print_reason h.reason in
    let fields = flat_map print_field h.fields in
    let first : has_text (lines_after Start start) ≡ true =
    ap (λ (p : LinePlace). has_text p) (lines-append Start (print_blank h.blank) (print_version h.minor)) ∙ version_text (lines_after Start (print_blank h.blank)) h.minor in
    let text : has_text (lines_after Start line) ≡ true = text_more (start ++ space ∷ h.digits) (print_reason h.reason) (text_more start (space ∷ h.digits) first) in
    let ended : lines_after Start (line ++ print_end h.line_end) ≡ Empty =
    lines-append Start line (print_end h.line_end) ∙ end_empty (lines_after Start line) h.line_end text in
    let all : lines_after Start (line ++ print_end h.line_end ++ fields) ≡ Empty =
    lines-append Start (line ++ print_end h.line_end) fields ∙ ap (λ (p : LinePlace). lines_after p fields) ended ∙ fields_empty h.fields in
    subst EndsEmpty (append_assoc (line ++ print_end h.line_end) fields (print_end h.last)) (by_end (line ++ print_end h.line_end ++ fields) h.last all)

-- Where no head stands, and no empty line ends in the bytes behind, none stands with these.
none_yet : (old new : List ℕ) → HasNoResponse old → ends_in (lines_after Start old) new ≡ false → HasNoResponse (old ++ new)
none_yet old new none quiet h rest reads =
    let e = head_ends h in
    let k = length old in
    let all : old ++ new ≡ (e.body ++ 10 ∷ []) ++ rest = reads.1 ∙ ap (λ (b : List ℕ). b ++ rest) e.is in
    let size : length (print_response h) ≡ length e.body + 1 = ap (λ (b : List ℕ). length b) e.is ∙ length-append e.body (10 ∷ []) in
    let front : take k (old ++ new) ≡ old = take-append-le k old new (omega arith) ∙ take_all k old (omega arith) in
    elim (cases_lt (length e.body) k) [
      | inl less ↦
          none h (take (k - length (print_response h)) rest)
          (reads.0, sym front ∙ ap (λ (b : List ℕ). take k b) reads.1 ∙ take_past (print_response h) rest k (omega (arith, size)))
      | inr more ↦
          let joined = length-append e.body (10 ∷ []) in
          let new_is : new ≡ (drop k e.body ++ 10 ∷ []) ++ rest =
          sym (drop-append_seam old new) ∙ ap (λ (b : List ℕ). drop k b) all ∙ drop-append-le k (e.body ++ 10 ∷ []) rest (omega (arith, joined))
          ∙ ap (λ (b : List ℕ). b ++ rest) (drop-append-le k e.body (10 ∷ []) more) in
          let old_is : old ≡ take k e.body =
          sym front ∙ ap (λ (b : List ℕ). take k b) all ∙ take-append-le k (e.body ++ 10 ∷ []) rest (omega (arith, joined)) ∙ take-append-le k e.body (10 ∷ []) more in
          let body_is : old ++ drop k e.body ≡ e.body = ap (λ (b : List ℕ). b ++ drop k e.body) old_is ∙ take-append-drop k e.body in
          let place : lines_after (lines_after Start old) (drop k e.body) ≡ Empty =
          sym (lines-append Start old (drop k e.body)) ∙ ap (λ (b : List ℕ). lines_after Start b) body_is ∙ e.place in
          let ends : ends_in (lines_after Start old) ((drop k e.body ++ 10 ∷ []) ++ rest) ≡ true =
          ends-append (lines_after Start old) (drop k e.body ++ 10 ∷ []) rest (ends_at (lines_after Start old) (drop k e.body) place) in
          true_false (sym ends ∙ ap (λ (b : List ℕ). ends_in (lines_after Start old) b) (sym new_is) ∙ quiet)
    ]

-- ---- what was looked at

-- What came is what was looked at, and the rest.
seen_more : (lines : HeadLines) (came : List ℕ) → Looked lines came → drop lines.at came ≡ seen_of lines came ++ drop lines.seen came
seen_more lines came looked =
    ap (λ (b : List ℕ). drop lines.at b) (sym (take-append-drop lines.seen came))
    ∙ drop-append-le lines.at (take lines.seen came) (drop lines.seen came) (omega (arith, length-take-le lines.seen came looked.seen, looked.at))

no_bytes : HasNoResponse []
no_bytes h rest reads =
    let none : 0 ≡ length (print_response h) + length rest = ap (λ (b : List ℕ). length b) reads.1 ∙ length-append (print_response h) rest in
    omega (arith, response_some h, none)

-- Nothing was looked at.
pub looked_new : (lines : HeadLines) (came : List ℕ) → lines.seen ≡ lines.at → lines.place ≡ Start → lines.is_over ≡ false → lines.at ≤ length came → Looked lines came
looked_new lines came seen place open_ within =
    let nothing : seen_of lines came ≡ [] = drop_all lines.at (take lines.seen came) (omega (arith, length-take lines.seen came, seen)) in
    record {
      at = omega (arith, seen);
      seen = omega (arith, seen, within);
      place = place ∙ ap (λ (b : List ℕ). lines_after Start b) (sym nothing);
      none = subst HasNoResponse (sym nothing) no_bytes;
      over = λ over. absurd (true_false (sym over ∙ open_));
    }

-- No whole head came with what was quiet.
pub quiet_none : (lines : HeadLines) (came : List ℕ) → Looked lines came → (lines.is_over || not (ends_in lines.place (drop lines.seen came))) ≡ true
    → HasNoResponse (drop lines.at came)
quiet_none lines came looked quiet =
    let old = seen_of lines came in
    let new = drop lines.seen came in
    let none : HasNoResponse (old ++ new) = elim (cases_Bool lines.is_over) [
      | inl over ↦ looked.over over new
      | inr more ↦ none_yet old new looked.none (ap (λ (p : LinePlace). ends_in p new) (sym looked.place) ∙ not_ends (ends_in lines.place new) (rw more at quiet))
    ] in
    subst HasNoResponse (sym (seen_more lines came looked)) none

pub over_never : (lines : HeadLines) (came : List ℕ) → Looked lines came → IsTrue lines.is_over → NeverHasResponse (drop lines.at came)
over_never lines came looked over more =
    let old = seen_of lines came in
    let new = drop lines.seen came in
    let all : old ++ (new ++ more) ≡ drop lines.at came ++ more = sym (append_assoc old new more) ∙ ap (λ (b : List ℕ). b ++ more) (sym (seen_more lines came looked)) in
    subst HasNoResponse all (looked.over over (new ++ more))

-- All that came was looked at.
pub looked_all : (old new : HeadLines) (came : List ℕ) → Looked old came → new.at ≡ old.at → new.seen ≡ length came
    → new.place ≡ lines_after old.place (drop old.seen came) → HasNoResponse (drop old.at came)
    → (IsTrue new.is_over → NeverHasResponse (drop old.at came)) → Looked new came
looked_all old new came looked at seen place none never =
    let all : drop old.at came ≡ seen_of new came =
    ap (λ (n : ℕ). drop n came) (sym at) ∙ ap (λ (b : List ℕ). drop new.at b) (sym (take_all new.seen came (omega (arith, seen)))) in
    record {
      at = omega (arith, at, seen, looked.at, looked.seen);
      seen = omega (arith, seen);
      place = place ∙ ap (λ (p : LinePlace). lines_after p (drop old.seen came)) looked.place
          ∙ sym (lines-append Start (seen_of old came) (drop old.seen came)) ∙ ap (λ (b : List ℕ). lines_after Start b) (sym (seen_more old came looked) ∙ all);
      none = subst HasNoResponse all none;
      over = λ over. subst NeverHasResponse all (never over);
    }

-- More came.
pub looked_later : (lines : HeadLines) (came later : List ℕ) → Looked lines came → take (length came) later ≡ came → length came ≤ length later → Looked lines later
looked_later lines came later looked is longer =
    let whole : later ≡ came ++ drop (length came) later = sym (take-append-drop (length came) later) ∙ ap (λ (b : List ℕ). b ++ drop (length came) later) is in
    let same : seen_of lines came ≡ seen_of lines later =
    ap (λ (b : List ℕ). drop lines.at b) (sym (ap (λ (b : List ℕ). take lines.seen b) whole ∙ take-append-le lines.seen came (drop (length came) later) looked.seen)) in
    record {
      at = looked.at;
      seen = omega (arith, looked.seen, longer);
      place = looked.place ∙ ap (λ (b : List ℕ). lines_after Start b) same;
      none = subst HasNoResponse same looked.none;
      over = λ over. subst NeverHasResponse same (looked.over over);
    }
