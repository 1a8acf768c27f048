-- A text of lines has one empty line, its last.
use Rattle.std.proofs.Common.{◌≡◌, ℕ, ◌-◌, ◌<◌, List, [], ◌∷◌, ◌++◌, length, take, drop, refl, sym, ap, ◌∙◌, subst, arith, append_assoc, length-append, length-drop, inl, inr, ◌⊎◌, true, false}
use Rattle.std.specs.Prelude.{All}
use Rattle.std.proofs.lemmas.Bool.{cases_Bool}
use Rattle.std.proofs.lemmas.Bool.Decides.{Decides-eqb}
use Rattle.std.proofs.lemmas.Slice.Eq.{ends_is}
use Rattle.std.proofs.lemmas.List.{take-append-drop}
use Rattle.std.proofs.lemmas.List.Elements.{All-head, All-tail}
use Rattle.link_http.specs.Wire.{ends_request}
use Rattle.link_http.specs.Request.{line}
use Rattle.link_http.specs.Sending.{IsWholeText, IsClean, is_clean}

abbrev pub empty_line : List ℕ → List ℕ
empty_line rest = 13 ∷ 10 ∷ 13 ∷ 10 ∷ rest

-- lines that are not empty, and then an empty one
pub data Lines : List ℕ → Type 0 where
  last : (text : List ℕ) → text ≡ 13 ∷ 10 ∷ [] → Lines text
  more : (text : List ℕ) (b : ℕ) (body rest : List ℕ) → text ≡ (b ∷ body) ++ (13 ∷ 10 ∷ rest) → All IsClean (b ∷ body) → Lines rest → Lines text

head_same : (a b : ℕ) (xs ys : List ℕ) → a ∷ xs ≡ b ∷ ys → a ≡ b
head_same a b xs ys e = cc

tail_same : (a b : ℕ) (xs ys : List ℕ) → a ∷ xs ≡ b ∷ ys → xs ≡ ys
tail_same a b xs ys e = cc

lf_cr : ◌≡◌ {A = ℕ} 10 13 → ⊥
lf_cr e = absurd (omega arith)

not_cr : (b : ℕ) → IsClean b → b ≡ 13 → ⊥
not_cr b clean e = let no_ : false ≡ true = subst (λ n. is_clean n ≡ true) e clean in absurd (cc)

-- An empty line stands right behind the first line, or further on.
behind_line : (xs rest q r : List ℕ) → All IsClean xs → xs ++ (13 ∷ 10 ∷ rest) ≡ q ++ empty_line r
    → (rest ≡ 13 ∷ 10 ∷ r) ⊎ ((p : List ℕ) × (rest ≡ p ++ empty_line r))
behind_line [] rest [] r clean e = inl (tail_same _ _ _ _ (tail_same _ _ _ _ e))
behind_line [] rest (a ∷ []) r clean e = absurd (lf_cr (head_same _ _ _ _ (tail_same _ _ _ _ e)))
behind_line [] rest (a ∷ b ∷ q) r clean e = inr (q, tail_same _ _ _ _ (tail_same _ _ _ _ e))
behind_line (x ∷ xs) rest [] r clean e = absurd (not_cr x (All-head IsClean x xs clean) (head_same _ _ _ _ e))
behind_line (x ∷ xs) rest (a ∷ q) r clean e = behind_line xs rest q r (All-tail IsClean x xs clean) (tail_same _ _ _ _ e)

not_begun : (text r : List ℕ) → Lines text → text ≡ 13 ∷ 10 ∷ r → r ≡ []
not_begun text r (last _ is) e = tail_same _ _ _ _ (tail_same _ _ _ _ (sym e ∙ is))
not_begun text r (more _ b body rest is clean lines) e =
    absurd (not_cr b (All-head IsClean b body clean) (head_same _ _ _ _ (sym is ∙ e)))

-- Nothing stands behind an empty line.
pub one_empty : (text q r : List ℕ) → Lines text → text ≡ q ++ empty_line r → r ≡ []
one_empty text q r (last _ is) e =
    let size : length (q ++ empty_line r) ≡ 2 = ap length (sym e ∙ is) in
    absurd (omega (arith, size, length-append q (empty_line r)))
one_empty text q r (more _ b body rest is clean lines) e =
    elim (behind_line (b ∷ body) rest q r clean (sym is ∙ e)) [
      | inl here ↦ not_begun rest r lines here
      | inr further ↦ one_empty rest further.0 r lines further.1
    ]

-- It ends with an empty line where it has a line before.
ends_with_empty : (text : List ℕ) → Lines text → (text ≡ 13 ∷ 10 ∷ []) ⊎ ((q : List ℕ) × (text ≡ q ++ empty_line []))
ends_with_empty text (last _ is) = inl is
ends_with_empty text (more _ b body rest is clean lines) =
    elim (ends_with_empty rest lines) [
      | inl e ↦ inr (b ∷ body, is ∙ ap (λ (r : List ℕ). (b ∷ body) ++ (13 ∷ 10 ∷ r)) e)
      | inr p ↦ inr (
        (b ∷ body) ++ (13 ∷ 10 ∷ p.0),
        is ∙ ap (λ (r : List ℕ). (b ∷ body) ++ (13 ∷ 10 ∷ r)) p.1 ∙ sym (append_assoc (b ∷ body) (13 ∷ 10 ∷ p.0) (empty_line [])),
      )
    ]

-- Lines, one of them at least before the empty one, are a whole text.
pub whole_lines : (text : List ℕ) → Lines text → 2 < length text → IsWholeText text
whole_lines text lines some = record {
  ends = elim (ends_with_empty text lines) [
    | inl e ↦ let size : length text ≡ 2 = ap length e in absurd (omega (arith, size))
    | inr p ↦ (ends_is Decides-eqb text (empty_line []) (ends_request text) refl).1 p.0 p.1
  ];
  once = λ n less.
      elim (cases_Bool (ends_request (take n text))) [
        | inl is ↦
            let front = (ends_is Decides-eqb (take n text) (empty_line []) (ends_request (take n text)) refl).0 is in
            let k = length (take n text) - length (empty_line []) in
            let all : text ≡ take k (take n text) ++ empty_line (drop n text) =
            sym (take-append-drop n text) ∙ ap (λ (t : List ℕ). t ++ drop n text) front
            ∙ append_assoc (take k (take n text)) (empty_line []) (drop n text) in
            let gone : length (drop n text) ≡ 0 = ap length (one_empty text (take k (take n text)) (drop n text) lines all) in
            absurd (omega (arith, gone, length-drop n text))
        | inr not_ ↦ not_
      ];
}

-- A line that is not empty, and then lines.
pub lines_line : (t rest : List ℕ) → 0 < length t → All IsClean t → Lines rest → Lines (line t ++ rest)
lines_line [] rest some clean lines = absurd (omega arith)
lines_line (b ∷ body) rest some clean lines = more _ b body rest (append_assoc (b ∷ body) (13 ∷ 10 ∷ []) rest) clean lines

pub lines_end : Lines (line [])
lines_end = last _ refl
