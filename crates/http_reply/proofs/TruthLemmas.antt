-- What a truthful reply gives is true, however early it was cut off.
use Rattle.std.proofs.Common.{◌≡◌, ◌≢◌, ℕ, ◌+◌, ◌≤◌, List, [], ◌∷◌, ◌++◌, length, take, drop, refl, sym, ap, ◌∙◌, subst, arith, append_assoc, length-append, length-drop, inl, inr}
use Rattle.std.specs.Prelude.{All, nat_lt, nat_le}
use Rattle.std.specs.List.{flat_map}
use Rattle.std.proofs.lemmas.Bool.{cases_Bool, cases_lt, le-leb, lt-leb}
use Rattle.std.proofs.lemmas.List.{length-take, take_all, drop_all, take-append-le, drop-append-le}
use Rattle.std.proofs.lemmas.List.Elements.{All-head, All-tail}
use Rattle.httparse.specs.Ascii.{crlf_bytes}
use Rattle.httparse.specs.Grammar.{ResponseHead, print_response}
use Rattle.http_reply.specs.declared.stop.Stop.TheVariants.{Last, Cut, Long}
use Rattle.http_reply.specs.declared.chunk_line.LineRead.TheVariants.{Whole}
use Rattle.http_reply.specs.Content.{Content, stopped, behind, sized}
use Rattle.http_reply.specs.Chunked.{chunks, chunk_line, in_data, after_data, limit, capped}
use Rattle.http_reply.specs.Heads.{whole, none, StandsAt, heads_at, heads_room, HeadsEnd, again, ends, final, bad, long, short, Heads, stop, go, after_head, may_start, is_informal}
use Rattle.http_reply.specs.Truth.{Chunk, IsChunk, print_chunk}
use Rattle.http_reply.proofs.ContentLemmas.{in_data-long}
use Rattle.http_reply.proofs.ChunkedLemmas.{line_last, line_data, line_long}
use Rattle.http_reply.proofs.GrowLemmas.{Grows, chunks-grow}
use Rattle.http_reply.proofs.HeadLemmas.{whole_stays, response_some}
use Rattle.http_reply.proofs.HonestLemmas.{chunk_bytes}

pub none_left : (xs : List ℕ) → length xs ≤ 0 → xs ≡ []
none_left [] h = refl
none_left (x ∷ xs) h = absurd (omega arith)

last_cut : Last ≡ Cut → ⊥
last_cut e = absurd (cc)

-- ---- a final head stays where it stands

-- the bytes that are judged, of a reply that goes on
judged_more : (reply more : List ℕ) → heads_room ≤ length reply → take heads_room (reply ++ more) ≡ take heads_room reply
judged_more reply more long_ = take-append-le heads_room reply more long_

within_reply : (reply : List ℕ) (at : ℕ) (h : ResponseHead) (len : ℕ) → StandsAt (heads_at reply at) (whole h len) → at + len ≤ length reply
within_reply reply at h len x =
    let size : length (heads_at reply at) ≡ length (print_response h ++ drop len (heads_at reply at)) = ap (λ (b : List ℕ). length b) x.0.1 in
    let whole_ = length-append (print_response h) (drop len (heads_at reply at)) in
    let judged = length-drop at (take heads_room reply) in
    let some = response_some h in
    omega (arith, size, whole_, judged, length-take heads_room reply, x.1, some)

-- a whole head stays
stays : (reply more : List ℕ) (at : ℕ) (h : ResponseHead) (len : ℕ) → StandsAt (heads_at reply at) (whole h len) → StandsAt (heads_at (reply ++ more) at) (whole h len)
stays reply more at h len x =
    let inside = within_reply reply at h len x in
    elim (cases_lt (length reply) heads_room) [
      | inl less ↦
          let all : take heads_room reply ≡ reply = take_all heads_room reply (omega arith) in
          let here : StandsAt (drop at reply) (whole h len) = subst (λ (b : List ℕ). StandsAt (drop at b) (whole h len)) all x in
          whole_stays reply more at h len (omega arith) (omega arith) here (omega (arith, length-drop at reply))
      | inr long_ ↦ subst (λ (b : List ℕ). StandsAt (drop at b) (whole h len)) (sym (judged_more reply more long_)) x
    ]

none_final : (reply : List ℕ) (at : ℕ) (e : HeadsEnd) (h : ResponseHead) (place : ℕ) → after_head reply at none ≡ ends e → e ≡ final h place → ⊥
none_final reply at e h place p is =
    elim (cases_Bool (may_start (heads_at reply at))) [
      | inl begins ↦ elim (cases_Bool (nat_le heads_room (length reply))) [
        | inl long_ ↦ let q : ends long ≡ ends e = rw (begins, long_) at p in absurd (cc)
        | inr short_ ↦ let q : ends short ≡ ends e = rw (begins, short_) at p in absurd (cc)
      ]
      | inr other ↦ let q : ends (bad at) ≡ ends e = rw other at p in absurd (cc)
    ]

none_again : (reply : List ℕ) (at next : ℕ) → after_head reply at none ≡ again next → ⊥
none_again reply at next p =
    elim (cases_Bool (may_start (heads_at reply at))) [
      | inl begins ↦ elim (cases_Bool (nat_le heads_room (length reply))) [
        | inl long_ ↦ let q : ends long ≡ again next = rw (begins, long_) at p in absurd (cc)
        | inr short_ ↦ let q : ends short ≡ again next = rw (begins, short_) at p in absurd (cc)
      ]
      | inr other ↦ let q : ends (bad at) ≡ again next = rw other at p in absurd (cc)
    ]

final_same : (k h : ResponseHead) (m n : ℕ) → ends (final k m) ≡ ends (final h n) → n ≡ m
final_same k h m n e = cc

whole_final : (reply : List ℕ) (at len : ℕ) (k h : ResponseHead) (place : ℕ) → after_head reply at (whole k len) ≡ ends (final h place) → place ≡ at + len
whole_final reply at len k h place p =
    elim (cases_Bool (nat_lt 128 (length k.fields))) [
      | inl many ↦ let q : ends long ≡ ends (final h place) = rw many at p in absurd (cc)
      | inr few ↦ elim (cases_Bool (is_informal k)) [
        | inl early ↦ let q : again (at + len) ≡ ends (final h place) = rw (few, early) at p in absurd (cc)
        | inr last_ ↦ let q : ends (final k (at + len)) ≡ ends (final h place) = rw (few, last_) at p in final_same k h (at + len) place q
      ]
    ]

pub record FinalAt (reply more : List ℕ) (from : ℕ) (h : ResponseHead) (at : ℕ) : Type 0 where
  pub heads : Heads (reply ++ more) from (final h at)
  pub within : at ≤ length reply

pub final_stays : (reply more : List ℕ) (from : ℕ) (h : ResponseHead) (at : ℕ) (ending : HeadsEnd) → ending ≡ final h at → Heads reply from ending → FinalAt reply more from h at
final_stays reply more from h at ending is (stop _ _ none x p) = absurd (none_final reply from ending h at p is)
final_stays reply more from h at ending is (stop _ _ (whole k len) x p) =
    let same = p ∙ ap ends is in
    let place = whole_final reply from len k h at same in
    record {
      heads = stop from (final h at) (whole k len) (stays reply more from k len x) same;
      within = omega (arith, place, within_reply reply from k len x);
    }
final_stays reply more from h at ending is (go _ next _ none x p rest) = absurd (none_again reply from next p)
final_stays reply more from h at ending is (go _ next _ (whole k len) x p rest) =
    let r = final_stays reply more next h at ending is rest in
    record { heads = go from next (final h at) (whole k len) (stays reply more from k len x) p r.heads; within = r.within }

-- ---- a body that was cut off

-- the content is a front of these bytes, and all of them where it stops at its end
pub record Fronts (all : List ℕ) (c : Content) : Type 0 where
  pub rest : List ℕ
  pub front : all ≡ c.bytes ++ rest
  pub whole_ : c.stop ≡ Last → rest ≡ []

pub fronts_as : (all : List ℕ) (c d : Content) → d ≡ c → Fronts all c → Fronts all d
fronts_as all c d is f = subst (λ (x : Content). Fronts all x) (sym is) f

fronts_behind : (xs all : List ℕ) (c : Content) → Fronts all c → Fronts (xs ++ all) (behind xs c)
fronts_behind xs all c f = record {
  rest = f.rest;
  front = ap (λ (b : List ℕ). xs ++ b) f.front ∙ sym (append_assoc xs c.bytes f.rest);
  whole_ = f.whole_;
}

pub chunked_fronts : (cs : List Chunk) (last after : List ℕ) (at sum : ℕ) → All IsChunk cs → chunk_line last ≡ Whole 0 (length last)
    → Fronts (chunk_bytes cs) (chunks at sum (flat_map print_chunk cs ++ (last ++ after)))
chunked_fronts [] last after at sum all ends_ =
    fronts_as [] (stopped Last) _ (line_last at sum 0 (length last) last after ends_ refl) (record { rest = []; front = refl; whole_ = λ e. refl })
chunked_fronts (c ∷ cs) last after at sum all ends_ =
    let is : IsChunk c = All-head IsChunk c cs all in
    let rest = flat_map print_chunk cs ++ (last ++ after) in
    let size = length c.bytes in
    let some : size ≢ 0 = λ e. let s = is.some in absurd (omega (arith, s, e)) in
    let split : (c.line ++ (c.bytes ++ crlf_bytes)) ++ flat_map print_chunk cs ++ (last ++ after) ≡ c.line ++ (c.bytes ++ (crlf_bytes ++ rest)) =
    simp append_assoc in
    elim (cases_lt limit (sum + size)) [
      | inl over ↦
          let e = ap (chunks at sum) split ∙ line_long at sum size (length c.line) c.line (c.bytes ++ (crlf_bytes ++ rest)) is.reads some over in
          fronts_as _ (stopped (Long (capped (sum + size)))) _ e (record { rest = c.bytes ++ chunk_bytes cs; front = refl; whole_ = λ s. absurd (cc) })
      | inr fits ↦
          let none_ : drop (length c.line) c.line ≡ [] = drop_all (length c.line) c.line (omega arith) in
          let taken : take size (c.bytes ++ (crlf_bytes ++ rest)) ≡ c.bytes = take-append-le size c.bytes (crlf_bytes ++ rest) (omega arith) ∙ take_all size c.bytes (omega arith) in
          let dropped : drop size (c.bytes ++ (crlf_bytes ++ rest)) ≡ crlf_bytes ++ rest =
          drop-append-le size c.bytes (crlf_bytes ++ rest) (omega arith) ∙ ap (λ (r : List ℕ). r ++ (crlf_bytes ++ rest)) (drop_all size c.bytes (omega arith)) in
          let e =
          ap (chunks at sum) split
          ∙ line_data at sum size (length c.line) c.line (c.bytes ++ (crlf_bytes ++ rest)) is.reads some fits
          ∙ ap (λ (r : List ℕ). in_data chunks size (at + length c.line) (sum + size) (r ++ (c.bytes ++ (crlf_bytes ++ rest)))) none_
          ∙ in_data-long chunks size (at + length c.line) (sum + size) (c.bytes ++ (crlf_bytes ++ rest)) (omega (arith, length-append c.bytes (crlf_bytes ++ rest)))
          ∙ ap (λ (r : List ℕ). behind r (after_data chunks (at + length c.line + size) (sum + size) (drop size (c.bytes ++ (crlf_bytes ++ rest))))) taken
          ∙ ap (λ (r : List ℕ). behind c.bytes (after_data chunks (at + length c.line + size) (sum + size) r)) dropped in
          let next = chunks (at + length c.line + size + 2) (sum + size) rest in
          fronts_as _ (behind c.bytes next) _ e
          (fronts_behind c.bytes (chunk_bytes cs) next (chunked_fronts cs last after (at + length c.line + size + 2) (sum + size) (All-tail IsChunk c cs all) ends_))
    ]

-- of a longer body to a front of it
fronts_less : (all : List ℕ) (less more : Content) → Grows less more → Fronts all more → Fronts all less
fronts_less all less more g f = record {
  rest = g.rest ++ f.rest;
  front = f.front ∙ ap (λ (b : List ℕ). b ++ f.rest) g.front ∙ append_assoc less.bytes g.rest f.rest;
  whole_ = λ at_end.
      let same = g.same (λ cut. absurd (last_cut (sym at_end ∙ cut))) in
      let sizes : length less.bytes ≡ length (less.bytes ++ g.rest) = ap (λ (c : Content). length c.bytes) (sym same) ∙ ap (λ (b : List ℕ). length b) g.front in
      let gone : g.rest ≡ [] = none_left g.rest (omega (arith, sizes, length-append less.bytes g.rest)) in
      let none_ = f.whole_ (ap (λ (c : Content). c.stop) same ∙ at_end) in
      rw (gone, none_) refl;
}

pub chunked_cut : (all : List ℕ) (body more : List ℕ) (at : ℕ) → Fronts all (chunks at 0 (body ++ more)) → Fronts all (chunks at 0 body)
chunked_cut all body more at f = fronts_less all (chunks at 0 body) (chunks at 0 (body ++ more)) (chunks-grow at 0 body more) f

pub sized_cut : (all body more : List ℕ) → all ≡ body ++ more → Fronts all (sized (length all) body)
sized_cut all body more is =
    let sizes = ap (λ (b : List ℕ). length b) is in
    let joined = length-append body more in
    let whole_is = take_all (length all) body (omega (arith, sizes, joined)) in
    elim (cases_lt (length body) (length all)) [
      | inl less ↦
          let t = lt-leb (length all) (length body) less in
          fronts_as all (record { bytes = body; stop = Cut }) _ (rw (whole_is, t) refl)
          (record { rest = more; front = is; whole_ = λ e. absurd (cc) })
      | inr enough ↦
          let t = le-leb (length all) (length body) enough in
          fronts_as all (record { bytes = body; stop = Last }) _ (rw (whole_is, t) refl)
          (record { rest = more; front = is; whole_ = λ e. none_left more (omega (arith, sizes, joined)) })
    ]
