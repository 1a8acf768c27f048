-- A reply has one verdict, and it cannot be that it has none.
use Rattle.std.proofs.Common.{◌≡◌, ℕ, zero, suc, ◌+◌, ◌<◌, ◌≤◌, ◌⊎◌, List, ◌++◌, length, take, drop, Option, refl, sym, ap, ◌∙◌, subst, arith, length-append, length-drop, inl, inr}
use Rattle.std.specs.Prelude.{nat_lt, nat_le, ◌&&◌}
use Rattle.std.proofs.Math.Seq.{drop-append_seam}
use Rattle.std.proofs.lemmas.Bool.{cases_Bool}
use Rattle.httparse.specs.Grammar.{ResponseHead, ReadsResponse, HasNoResponse, print_response, status_code}
use Rattle.http_reply.specs.Heads.{whole, none, StandsAt, heads_at, heads_room, after_head, is_informal, may_start, HeadStep, again, ends, HeadsEnd, final, bad, long, short, Heads, stop, go}
use Rattle.http_reply.specs.Verdict.{Verdict, IsVerdict, heads_verdict}
use Rattle.http_reply.specs.Laws.{HasVerdict}
use Rattle.http_reply.proofs.HeadLemmas.{heads_unique, response_some}

pub verdict_unique : (from : ℕ) (known : Option ℕ) (reply : List ℕ) (v w : Verdict)
    → IsVerdict from known reply v → IsVerdict from known reply w → v ≡ w
verdict_unique from known reply v w x y =
    x.is ∙ ap (heads_verdict from known reply) (heads_unique reply 0 x.ending y.ending x.heads y.heads) ∙ sym y.is

again_ends : (next : ℕ) (e : HeadsEnd) → again next ≡ ends e → ⊥
again_ends next e is = absurd (cc)

again_same : (m n : ℕ) → again m ≡ again n → m ≡ n
again_same m n is = cc

-- A whole head that is passed over is followed by the next one.
again_behind : (reply : List ℕ) (at : ℕ) (h : ResponseHead) (len next : ℕ) → after_head reply at (whole h len) ≡ again next → next ≡ at + len
again_behind reply at h len next is =
    elim (cases_Bool (nat_lt 128 (length h.fields))) [
      | inl many ↦ absurd (again_ends next long (sym (rw many at is)))
      | inr few ↦ elim (cases_Bool (nat_le 100 (status_code h) && nat_lt (status_code h) 200)) [
        | inl informal ↦ again_same next (at + len) (sym (rw (few, informal) at is))
        | inr last ↦ absurd (again_ends next (final h (at + len)) (sym (rw (few, last) at is)))
      ]
    ]

-- Where no whole head stands the heads end.
none_ends : (reply : List ℕ) (at : ℕ) → (e : HeadsEnd) × (after_head reply at none ≡ ends e)
none_ends reply at =
    elim (cases_Bool (may_start (heads_at reply at))) [
      | inl begins ↦ elim (cases_Bool (nat_le heads_room (length reply))) [
        | inl full ↦ (long, rw (begins, full) refl)
        | inr less ↦ (short, rw (begins, less) refl)
      ]
      | inr other ↦ (bad at, rw other refl)
    ]

step_cases : (s : HeadStep) → ((next : ℕ) × (s ≡ again next)) ⊎ ((e : HeadsEnd) × (s ≡ ends e))
step_cases (again next) = inl (next, refl)
step_cases (ends e) = inr (e, refl)

-- Where the heads have no end, and those from later places on have one, no whole head stands.
no_whole : (reply : List ℕ) (at : ℕ)
    → ((next : ℕ) → length (heads_at reply next) < length (heads_at reply at) → ((e : HeadsEnd) → Heads reply next e → ⊥) → ⊥)
    → ((e : HeadsEnd) → Heads reply at e → ⊥) → HasNoResponse (heads_at reply at)
no_whole reply at later endless h rest reads =
    let len = length (print_response h) in
    let bytes = heads_at reply at in
    let behind : drop len bytes ≡ rest = ap (λ (b : List ℕ). drop len b) reads.1 ∙ drop-append_seam (print_response h) rest in
    let here : StandsAt bytes (whole h len) = ((reads.0, reads.1 ∙ ap (λ (r : List ℕ). print_response h ++ r) (sym behind)), refl) in
    elim (step_cases (after_head reply at (whole h len))) [
      | inr end ↦ endless end.0 (stop at end.0 (whole h len) here end.1)
      | inl on ↦
          let next : on.0 ≡ at + len = again_behind reply at h len on.0 on.1 in
          let size : length bytes ≡ len + length rest = ap (λ (b : List ℕ). length b) reads.1 ∙ length-append (print_response h) rest in
          let shorter : length (heads_at reply on.0) < length (heads_at reply at) =
          omega (arith, size, next, response_some h, length-drop on.0 (take heads_room reply), length-drop at (take heads_room reply)) in
          later on.0 shorter (λ e heads. endless e (go at on.0 e (whole h len) here on.1 heads))
    ]

-- It cannot be that the heads from a place on have no end: at most so many bytes are left for them.
heads_end : (room : ℕ) (reply : List ℕ) (at : ℕ) → length (heads_at reply at) ≤ room → ((e : HeadsEnd) → Heads reply at e → ⊥) → ⊥
heads_end zero reply at fits endless =
    let last = none_ends reply at in
    endless last.0 (stop at last.0 none (no_whole reply at (λ next shorter never. absurd (omega arith)) endless) last.1)
heads_end (suc room) reply at fits endless =
    let last = none_ends reply at in
    endless last.0 (stop at last.0 none (no_whole reply at (λ next shorter never. heads_end room reply next (omega arith) never) endless) last.1)

pub has_verdict : (from : ℕ) (known : Option ℕ) (reply : List ℕ) → HasVerdict from known reply
has_verdict from known reply never =
    heads_end (length (heads_at reply 0)) reply 0 (omega arith)
    (λ e heads. never (heads_verdict from known reply e) (record { ending = e; heads = heads; is = refl }))
