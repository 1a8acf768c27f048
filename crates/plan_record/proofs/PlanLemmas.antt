-- A record's text tells its plan.
use Rattle.std.proofs.Common.{◌≡◌, ℕ, suc, ◌+◌, ◌<◌, ◌^◌, true, List, [], ◌∷◌, ◌++◌, length, get_or, drop, drop-cons, refl, sym, ◌∙◌, ap, arith, append_assoc}
use Rattle.std.specs.Prelude.{not, codes, decimal, nat_eq}
use Rattle.std.proofs.lemmas.Bool.{and_parts}
use Rattle.std.proofs.lemmas.Bool.Decides.{nat_tests}
use Rattle.std.proofs.lemmas.List.{append_cancel_left}
use Rattle.text_base.proofs.Logic.{same_head, same_tail}
use Rattle.plan_record.specs.declared.line.Line.{Line}
use Rattle.plan_record.specs.declared.line.Line.TheVariants.{Url, NoUrl}
use Rattle.plan_record.specs.Plan.{line_text, lines_text, plan_text, is_without, are_lines}
use Rattle.plan_record.proofs.DigitLemmas.{no_line_feed}

not_itself : (c d : ℕ) → not (nat_eq c d) ≡ true → c ≡ d → ⊥
not_itself c d differ same = grind (arith, nat_tests, differ, same)

-- The first of a byte in two equal texts stands at one place.
pub split_at : (byte : ℕ) (a b r s : List ℕ) → is_without byte a ≡ true → is_without byte b ≡ true → a ++ byte ∷ r ≡ b ++ byte ∷ s → (a ≡ b) × (r ≡ s)
split_at byte [] [] r s one two same = (refl, same_tail byte byte r s same)
split_at byte [] (d ∷ b) r s one two same = absurd (not_itself byte d (and_parts (not (nat_eq byte d)) (is_without byte b) two).0 (same_head byte d r (b ++ byte ∷ s) same))
split_at byte (c ∷ a) [] r s one two same = absurd (not_itself byte c (and_parts (not (nat_eq byte c)) (is_without byte a) one).0 (sym (same_head c byte (a ++ byte ∷ r) s same)))
split_at byte (c ∷ a) (d ∷ b) r s one two same =
    let first = same_head c d (a ++ byte ∷ r) (b ++ byte ∷ s) same in
    let more = split_at byte a b r s (and_parts (not (nat_eq byte c)) (is_without byte a) one).1 (and_parts (not (nat_eq byte d)) (is_without byte b) two).1 (same_tail c d (a ++ byte ∷ r) (b ++ byte ∷ s) same) in
    (λ i. first i ∷ more.0 i, more.1)

-- a line with what follows it
url_line : (url rest : List ℕ) → line_text (Url url) ++ rest ≡ codes "u " ++ (url ++ 10 ∷ rest)
url_line url rest = ap (λ (bytes : List ℕ). codes "u " ++ bytes) (append_assoc url (codes "\n") rest)

-- The lines are told by their text.
pub lines_sole : (one other : List Line) → are_lines one ≡ true → are_lines other ≡ true → lines_text one ≡ lines_text other → one ≡ other
lines_sole [] [] free also same = refl
lines_sole [] (Url url ∷ other) free also same = absurd (let long : 0 ≡ length (lines_text (Url url ∷ other)) = ap length same in omega (arith, long))
lines_sole [] (NoUrl ∷ other) free also same = absurd (let long : 0 ≡ length (lines_text (NoUrl ∷ other)) = ap length same in omega (arith, long))
lines_sole (Url url ∷ one) [] free also same = absurd (let long : length (lines_text (Url url ∷ one)) ≡ 0 = ap length same in omega (arith, long))
lines_sole (NoUrl ∷ one) [] free also same = absurd (let long : length (lines_text (NoUrl ∷ one)) ≡ 0 = ap length same in omega (arith, long))
lines_sole (Url url ∷ one) (NoUrl ∷ other) free also same = absurd (let first : 117 ≡ 120 = ap (λ (bytes : List ℕ). get_or bytes 0 0) same in omega (arith, first))
lines_sole (NoUrl ∷ one) (Url url ∷ other) free also same = absurd (let first : 120 ≡ 117 = ap (λ (bytes : List ℕ). get_or bytes 0 0) same in omega (arith, first))
lines_sole (NoUrl ∷ one) (NoUrl ∷ other) free also same =
    λ i. NoUrl ∷ lines_sole one other free also (ap (λ (bytes : List ℕ). drop 2 bytes) same) i
lines_sole (Url url ∷ one) (Url also_url ∷ other) free also same = λ i. Url (parts.0 i) ∷ lines_sole one other one_free.1 other_free.1 parts.1 i
  where
    one_free : (is_without 10 url ≡ true) × (are_lines one ≡ true)
    one_free = and_parts (is_without 10 url) (are_lines one) free

    other_free : (is_without 10 also_url ≡ true) × (are_lines other ≡ true)
    other_free = and_parts (is_without 10 also_url) (are_lines other) also

    behind : url ++ 10 ∷ lines_text one ≡ also_url ++ 10 ∷ lines_text other
    behind = ap (λ (bytes : List ℕ). drop 2 bytes) (sym (url_line url (lines_text one)) ∙ same ∙ url_line also_url (lines_text other))

    parts : (url ≡ also_url) × (lines_text one ≡ lines_text other)
    parts = split_at 10 url also_url (lines_text one) (lines_text other) one_free.0 other_free.0 behind

-- One text, one plan.
pub plan_is_sole : (one other : List Line) → length one < 2 ^ 64 → length other < 2 ^ 64 → are_lines one ≡ true → are_lines other ≡ true → plan_text one ≡ plan_text other → one ≡ other
plan_is_sole one other small also_small free also same =
    lines_sole one other free also (split_at 10 (decimal (length one)) (decimal (length other)) (lines_text one) (lines_text other)
    (no_line_feed (length one) small) (no_line_feed (length other) also_small)
    (append_cancel_left (codes "ytdl-plan 1\n") (decimal (length one) ++ 10 ∷ lines_text one) (decimal (length other) ++ 10 ∷ lines_text other) same)).1

-- one line more is written
pub line_written : (text before : List ℕ) (lines : List Line) (i : ℕ) → i < length lines → text ≡ before ++ line_text (get_or lines i NoUrl) → text ++ lines_text (drop (i + 1) lines) ≡ before ++ lines_text (drop i lines)
line_written text before lines i below is =
    ap (λ (bytes : List ℕ). bytes ++ lines_text (drop (i + 1) lines)) is
    ∙ append_assoc before (line_text (get_or lines i NoUrl)) (lines_text (drop (i + 1) lines))
    ∙ ap (λ (bytes : List ℕ). before ++ bytes) (sym whole)
  where
    next : lines_text (drop (suc i) lines) ≡ lines_text (drop (i + 1) lines)
    next = let same : suc i ≡ i + 1 = omega arith in ap (λ (k : ℕ). lines_text (drop k lines)) same

    whole : lines_text (drop i lines) ≡ line_text (get_or lines i NoUrl) ++ lines_text (drop (i + 1) lines)
    whole = ap lines_text (drop-cons lines i NoUrl below) ∙ ap (λ (bytes : List ℕ). line_text (get_or lines i NoUrl) ++ bytes) next
