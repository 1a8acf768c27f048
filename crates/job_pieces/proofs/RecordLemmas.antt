-- What a component's record tells of its URLs.
use Rattle.std.proofs.Common.{◌≡◌, ℕ, ◌<◌, ◌^◌, List, [], ◌∷◌, Bool, true, false, not, None, map, filter_map, length, refl, sym, ap, subst, inl, inr, arith, nat_eq}
use Rattle.std.specs.Prelude.{All, Ok, Err, is_ok, nat_le, if◌then◌else◌}
use Rattle.std.specs.Result.{result_ok}
use Rattle.std.proofs.lemmas.Bool.{and_from}
use Rattle.std.proofs.lemmas.Bool.Decides.{nat_tests}
use Rattle.std.proofs.lemmas.List.{length-map}
use Rattle.std.proofs.lemmas.List.Elements.{All-weaker, All-head, All-tail}
use Rattle.url.specs.declared.slicing.Position.TheVariants.{AfterPath}
use Rattle.url.specs.Parser.{Parsed, parse_url}
use Rattle.url.specs.Parts.{Parts, IsValid, text_before}
use Rattle.url.proofs.InputLemmas.{Passes}
use Rattle.url.proofs.TextLemmas.{is_body_byte, body_bytes, is_query_byte}
use Rattle.url.proofs.RoundTrip.{All-query_text}
use Rattle.link_http.specs.Request.{address, address_of}
use Rattle.http_reply.specs.declared.piece_fault.PieceFault.TheVariants.{Url as NotUrl}
use Rattle.plan_record.specs.Plan.{is_without, is_line, are_lines}
use Rattle.plan_record.specs.declared.line.Line.TheVariants.{Url, NoUrl}
use Rattle.plan_record.proofs.PlanLemmas.{plan_is_sole}
use Rattle.job_pieces.specs.Component.{Text, Piece, Component}
use Rattle.job_pieces.specs.Pieces.{parsed, printed_url}
use Rattle.job_pieces.specs.Kept.{IsKept, AreKept}
use Rattle.job_pieces.specs.Views.{plain_component, plain_piece}
use Rattle.job_pieces.specs.declared.component.Component.{Component as HeldComponent}
use Rattle.job_pieces.specs.Record.{leads, line_of, lines_of, record_text, http_urls, url_of_line}

-- ---- a printed URL has no end of a line

-- a byte inside a line
abbrev Inside : ℕ → Type 0
Inside b = not (nat_eq 10 b) ≡ true

without_end : (xs : Text) → All Inside xs → is_without 10 xs ≡ true
without_end [] all = refl
without_end (x ∷ xs) all = and_from (not (nat_eq 10 x)) (is_without 10 xs) (All-head Inside x xs all) (without_end xs (All-tail Inside x xs all))

body_inside : (b : ℕ) → Passes is_body_byte b → Inside b
body_inside b passes = grind (arith, nat_tests)

query_inside : (b : ℕ) → Passes is_query_byte b → Inside b
query_inside b passes = grind (arith, nat_tests)

printed_inside : (url : Parts) → IsValid url → All Inside (printed_url url)
printed_inside url valid =
    All-query_text Inside url valid (All-weaker (Passes is_body_byte) Inside body_inside (text_before url AfterPath) (body_bytes url valid)) refl query_inside

-- ---- lines

-- what leads over HTTP is a URL
leads_parsed : (url : Text) → parsed None url ≡ None → leads url ≡ true → ⊥
unfolding parsed address
leads_parsed url none leads = by (nat_le (length url) 268435456) (parse_url None url) none leads
  where
    by : (b : Bool) (p : Parsed Parts) → (if b then result_ok p else None) ≡ None → is_ok (if b then address_of p else Err NotUrl) ≡ true → ⊥
    by true (Ok u) h l = absurd (cc)
    by true (Err e) h l = absurd (cc)
    by false p h l = absurd (cc)

kept_line : (url : Text) → IsKept url → leads url ≡ true → is_without 10 url ≡ true
kept_line url (inl none) leads = absurd (leads_parsed url none leads)
kept_line url (inr kept) leads = subst (λ t. is_without 10 t ≡ true) (sym kept.1.1) (without_end (printed_url kept.0) (printed_inside kept.0 kept.1.0))

line_kept : (piece : Piece) → IsKept piece.url → is_line (line_of piece) ≡ true
line_kept piece kept = by (leads piece.url) refl
  where
    by : (b : Bool) → leads piece.url ≡ b → is_line (if b then Url piece.url else NoUrl) ≡ true
    by true e = kept_line piece.url kept e
    by false e = refl

-- no line of a component has an end of a line inside
pub lines_kept : (pieces : List Piece) → All (λ piece. IsKept piece.url) pieces → are_lines (map line_of pieces) ≡ true
lines_kept [] all = refl
lines_kept (piece ∷ pieces) all =
    and_from (is_line (line_of piece)) (are_lines (map line_of pieces)) (line_kept piece (All-head (λ piece. IsKept piece.url) piece pieces all))
    (lines_kept pieces (All-tail (λ piece. IsKept piece.url) piece pieces all))

-- one text, one list of URLs
pub one_plan : (one other : Component) → length (lines_of one) < 2 ^ 64 → length (lines_of other) < 2 ^ 64 → AreKept one → AreKept other →
    record_text one ≡ record_text other → http_urls one ≡ http_urls other
one_plan one other small also_small kept also same =
    ap (λ lines. filter_map url_of_line lines)
    (plan_is_sole (lines_of one) (lines_of other) small also_small (lines_kept one.pieces kept) (lines_kept other.pieces also) same)

-- a component that the program holds has fewer lines than a number counts
pub lines_small : (component : HeldComponent) → length (lines_of (plain_component component)) < 2 ^ 64
lines_small component =
    omega (arith, length-map (map plain_piece component.pieces.items) line_of, length-map component.pieces.items plain_piece, component.pieces.ok, component.pieces.small)
