-- Laws of shares.
use Rattle.std.proofs.Common.{◌≡◌, ℕ, zero, suc, ◌*◌, ◌+◌, ◌-◌, ◌<◌, ◌≤◌, List, [], ◌++◌, length, take, drop, slice_range, min, refl, sym, ap, ◌∙◌, arith, append_assoc, append-nil, length-append, length-drop, inl, inr, Option, Some, None, Result, Ok, Err}
use Rattle.std.proofs.Math.Nat.{sub-zero, mul-le-mul_right}
use Rattle.std.specs.Prelude.{IsTrue}
use Rattle.std.proofs.lemmas.Bool.{cond-true, cond-false, le-leb, lt-leb, cases_lt}
use Rattle.std.proofs.lemmas.List.{take_all, drop_all, take-append-le, drop-append-le, drop-take, take-take}
use Rattle.http_reply.specs.Content.{Content, stopped, behind}
use Rattle.http_reply.proofs.ContentLemmas.{take_past, drop_past}
use Rattle.http_reply.specs.declared.stop.Stop.{Stop}
use Rattle.http_reply.specs.declared.stop.Stop.TheVariants.{Cut}
use Rattle.link_http.specs.declared.share.Share.{Share}
use Rattle.link_http.specs.declared.share.Share.TheVariants.{After, Upto}
use Rattle.link_http.specs.declared.body_end.BodyEnd.{BodyEnd}
use Rattle.link_http.specs.declared.body_end.BodyEnd.TheVariants.{Full, Stopped}
use Rattle.link_http.specs.declared.body_fault.BodyFault.{BodyFault}
use Rattle.folder_base.specs.declared.store_fault.StoreFault.{StoreFault}
use Rattle.http_reply.specs.declared.chunks.Chunks.{Chunks}
use Rattle.http_reply.specs.Machine.{content_of}
use Rattle.link_http.specs.Wire.{Wire, Held, left, AsksNothing}
use Rattle.link_http.specs.Body.{poured, onto, Cuts, Poured, share_end, IsWanting, At, to_come, Turns, Hands, Reads, Goes, Ends, Fails, passed_of}

-- the bytes behind the first ones, of two pieces
drop-two : (skip n : ℕ) (piece bytes : List ℕ) → length piece ≡ n
    → drop skip (piece ++ bytes) ≡ drop (min skip n) piece ++ drop (skip - min skip n) bytes
drop-two skip n piece bytes is =
    elim (cases_lt n skip) [
      | inl past ↦
          let from : min skip n ≡ n = omega arith in
          let all : drop n piece ≡ [] = drop_all n piece (omega arith) in
          rw (from, all, drop_past piece bytes skip (omega arith), is) refl
      | inr within ↦
          let from : min skip n ≡ skip = omega arith in
          let none : skip - skip ≡ 0 = omega arith in
          rw (from, drop-append-le skip piece bytes (omega arith), none) refl
    ]

pub cut_after : (skip passed n : ℕ) (piece : List ℕ) (c : Content) → length piece ≡ n
    → poured (After skip passed) (behind piece c) ≡ onto (slice_range piece (min skip n) n) (poured (After (skip - min skip n) (passed + n)) c)
cut_after skip passed n piece c is =
    let all : passed + length (piece ++ c.bytes) ≡ passed + n + length c.bytes = omega (arith, length-append piece c.bytes) in
    let whole : slice_range piece (min skip n) n ≡ drop (min skip n) piece =
    take_all (n - min skip n) (drop (min skip n) piece) (omega (arith, length-drop (min skip n) piece)) in
    rw (whole, drop-two skip n piece c.bytes is, all) refl

pub cut_full : (left passed n : ℕ) (piece : List ℕ) (c : Content) → length piece ≡ n → left ≤ n
    → poured (Upto left passed) (behind piece c) ≡ record { bytes = slice_range piece 0 left; end = Full }
cut_full left passed n piece c is within =
    let full = cond-true _ Full (Stopped c.stop (passed + length (piece ++ c.bytes))) (le-leb left (length (piece ++ c.bytes)) (omega (arith, length-append piece c.bytes))) in
    rw (sub-zero, full, take-append-le left piece c.bytes (omega arith)) refl

same_end : (left passed n : ℕ) (piece : List ℕ) (c : Content) → length piece ≡ n → n < left
    → share_end (Upto left passed) (behind piece c) ≡ share_end (Upto (left - n) (passed + n)) c
same_end left passed n piece c is over =
    let all = length-append piece c.bytes in
    elim (cases_lt (length c.bytes) (left - n)) [
      | inl less ↦
          cond-false _ _ _ (lt-leb left (length (piece ++ c.bytes)) (omega arith))
          ∙ ap (Stopped c.stop) (omega (arith, all))
          ∙ sym (cond-false _ _ _ (lt-leb (left - n) (length c.bytes) less))
      | inr more ↦
          cond-true _ _ _ (le-leb left (length (piece ++ c.bytes)) (omega arith))
          ∙ sym (cond-true _ _ _ (le-leb (left - n) (length c.bytes) more))
    ]

pub cut_more : (left passed n : ℕ) (piece : List ℕ) (c : Content) → length piece ≡ n → n < left
    → poured (Upto left passed) (behind piece c) ≡ onto (slice_range piece 0 n) (poured (Upto (left - n) (passed + n)) c)
cut_more left passed n piece c is over =
    let fits : n - 0 ≡ n = omega arith in
    let short = take_past piece c.bytes left (omega arith) in
    rw (fits, take_all n piece (omega arith), short, is, same_end left passed n piece c is over) refl

-- A part of the first n bytes.
pub range-take : (n from to : ℕ) (w : List ℕ) → from ≤ to → to ≤ n → slice_range (take n w) from to ≡ slice_range w from to
range-take n from to w ordered within =
    let split : n ≡ from + (n - from) = omega arith in
    let inner : drop from (take n w) ≡ take (n - from) (drop from w) =
    ap (λ (m : ℕ). drop from (take m w)) split ∙ drop-take from (n - from) w in
    rw (inner, take-take (to - from) (n - from) (drop from w) (omega arith)) refl

-- The part is a front of what comes.
pub cuts_front : (rest : Option Share) (share : Share) (xs piece : List ℕ) (c : Content) → Cuts rest share xs piece c
    → (more : List ℕ) × ((poured share (behind piece c)).bytes ≡ xs ++ more)
cuts_front (Some rest) share xs piece c law = ((poured rest c).bytes, ap (λ (p : Poured). p.bytes) law)
cuts_front None share xs piece c law = ([], ap (λ (p : Poured). p.bytes) law ∙ sym (append-nil xs))

-- A body that stops here.
pub poured-stopped : (share : Share) (stop : Stop) → IsWanting share
    → poured share (stopped stop) ≡ record { bytes = []; end = Stopped stop (passed_of share) }
poured-stopped (After zero passed) stop w = let e : passed + 0 ≡ passed = omega arith in rw e refl
poured-stopped (After (suc skip) passed) stop w = let e : passed + 0 ≡ passed = omega arith in rw e refl
poured-stopped (Upto zero passed) stop w = absurd (omega arith)
poured-stopped (Upto (suc left) passed) stop w =
    let e : passed + 0 ≡ passed = omega arith in
    let none = cond-false _ Full (Stopped stop (passed + 0)) (lt-leb (suc left) 0 (omega arith)) in
    rw (none, e) refl

onto-onto : (xs ys : List ℕ) (p : Poured) → onto xs (onto ys p) ≡ onto (xs ++ ys) p
onto-onto xs ys p = let e = append_assoc xs ys p.bytes in cc

-- What may still be read falls, where a byte was passed.
pub work-falls : (a b size x y : ℕ) → a < b → y ≤ size → (a + 1) * (size + 1) - x < (b + 1) * (size + 1) - y
work-falls a b size x y less fits =
    let step : (a + 1) * (size + 1) ≤ b * (size + 1) = mul-le-mul_right (size + 1) (omega arith) in
    omega (arith, step)

pub asks-nothing : (w : Wire) → AsksNothing w w
asks-nothing w = record { world = refl; dials = refl; talks = refl }

pub asks-both : {u v w : Wire} → AsksNothing u v → AsksNothing v w → AsksNothing u w
asks-both a b = record { world = b.world ∙ a.world; dials = b.dials ∙ a.dials; talks = b.talks ∙ a.talks }

-- A piece that was handed over is a turn.
module _ {T : Type 0} (took : T → List ℕ → T → Type 0) (may_refuse : T → List ℕ → StoreFault → Type 0) where
  pub take_turns : (r : Result (Option BodyEnd) BodyFault) (share : Share) (chunks : Chunks) (held : Held) (wire : Wire) (t : T)
      (share' : Share) (chunks' : Chunks) (held' : Held) (u : T) (n : ℕ)
      → Hands took may_refuse r (take n held.bytes) share t share' u
      → ((later : List ℕ) → content_of chunks (held.bytes ++ later) ≡ behind (take n held.bytes) (content_of chunks' (drop n held.bytes ++ later)))
      → (r ≡ Ok None → held'.bytes ≡ drop n held.bytes)
      → ((s : T) → took s [] s)
      → Turns took may_refuse r (record { share = share; chunks = chunks; held = held; wire = wire }) t
      (record { share = share'; chunks = chunks'; held = held'; wire = wire }) u
  take_turns (Ok None) share chunks held wire t share' chunks' held' u n hands law moved none = record {
    bytes = hands.0;
    taken = hands.1;
    rest = λ tells.
        ap (poured share) (law (left wire)) ∙ hands.2 (content_of chunks' (drop n held.bytes ++ left wire))
        ∙ ap (λ (b : List ℕ). onto hands.0 (poured share' (content_of chunks' (b ++ left wire)))) (sym (moved refl));
    asks = λ tells. asks-nothing wire;
  }
  take_turns (Ok (Some end)) share chunks held wire t share' chunks' held' u n hands law moved none = record {
    bytes = hands.0;
    taken = hands.1;
    whole = λ tells. ap (poured share) (law (left wire)) ∙ hands.2 (content_of chunks' (drop n held.bytes ++ left wire));
    asks = λ tells. asks-nothing wire;
  }
  take_turns (Err fault) share chunks held wire t share' chunks' held' u n hands law moved none = record {
    bytes = [];
    between = t;
    piece = hands.0;
    taken = none t;
    some = hands.1;
    why = hands.2;
    front = λ tells.
        let more = hands.3 (content_of chunks' (drop n held.bytes ++ left wire)) in
        (more.0, ap (λ (c : Content). (poured share c).bytes) (law (left wire)) ∙ more.1);
    asks = λ tells. asks-nothing wire;
  }

  pub pass_turns : ((s : T) → took s [] s) → (share : Share) (chunks chunks' : Chunks) (held held' : Held) (wire : Wire) (t : T) (n : ℕ)
      → ((later : List ℕ) → content_of chunks (held.bytes ++ later) ≡ content_of chunks' (drop n held.bytes ++ later))
      → held'.bytes ≡ drop n held.bytes
      → Goes took may_refuse (record { share = share; chunks = chunks; held = held; wire = wire }) t
      (record { share = share; chunks = chunks'; held = held'; wire = wire }) t
  pass_turns none share chunks chunks' held held' wire t n law moved = record {
    bytes = [];
    taken = none t;
    rest = λ tells. ap (poured share) (law (left wire)) ∙ ap (λ (b : List ℕ). poured share (content_of chunks' (b ++ left wire))) (sym moved);
    asks = λ tells. asks-nothing wire;
  }

  pub need_turns : ((s : T) → took s [] s) → (r : Result (Option BodyEnd) BodyFault) (share : Share) (chunks chunks' : Chunks) (held held' : Held) (old new : Wire) (t : T)
      → Reads (passed_of share) r held.bytes held'.bytes old new → content_of chunks held.bytes ≡ stopped Cut → chunks' ≡ chunks → IsWanting share
      → (IsTrue new.tells → AsksNothing old new)
      → Turns took may_refuse r (record { share = share; chunks = chunks; held = held; wire = old }) t
      (record { share = share; chunks = chunks'; held = held'; wire = new }) t
  need_turns none (Ok None) share chunks chunks' held held' old new t reads cut same wanting asks_ = record {
    bytes = [];
    taken = none t;
    rest = λ now.
        ap (λ (b : List ℕ). poured share (content_of chunks b)) (sym (reads.1 now))
        ∙ ap (λ (c : Chunks). poured share (content_of c (held'.bytes ++ left new))) (sym same);
    asks = asks_;
  }
  need_turns none (Ok (Some end)) share chunks chunks' held held' old new t reads cut same wanting asks_ = record {
    bytes = [];
    taken = none t;
    whole = λ now.
        ap (λ (b : List ℕ). poured share (content_of chunks (held.bytes ++ b))) (reads.1 now)
        ∙ ap (λ (b : List ℕ). poured share (content_of chunks b)) (append-nil held.bytes)
        ∙ ap (poured share) cut ∙ poured-stopped share Cut wanting
        ∙ ap (λ (e : BodyEnd). let p : Poured = record { bytes = []; end = e } in p) (sym reads.0);
    asks = asks_;
  }
  need_turns none (Err fault) share chunks chunks' held held' old new t reads cut same wanting asks_ = record {
    bytes = [];
    between = t;
    piece = [];
    taken = none t;
    some = record { count = 0; within = omega arith; front = none t };
    why = rw reads refl;
    front = λ now. ((poured share (content_of chunks (held.bytes ++ left old))).bytes, refl);
    asks = asks_;
  }

  -- Turns in a row are one run.
  pub goes_on : ((s t u : T) (xs ys : List ℕ) → took s xs t → took t ys u → took s (xs ++ ys) u)
      → (a b c : At) (t u v : T) → (IsTrue c.wire.tells → IsTrue b.wire.tells) → Goes took may_refuse a t b u → Goes took may_refuse b u c v → Goes took may_refuse a t c v
  goes_on both a b c t u v tells first then_ = record {
    bytes = first.bytes ++ then_.bytes;
    taken = both t u v first.bytes then_.bytes first.taken then_.taken;
    rest = λ now. first.rest (tells now) ∙ ap (onto first.bytes) (then_.rest now) ∙ onto-onto first.bytes then_.bytes (to_come c);
    asks = λ now. asks-both (first.asks (tells now)) (then_.asks now);
  }

  pub goes_end : ((s t u : T) (xs ys : List ℕ) → took s xs t → took t ys u → took s (xs ++ ys) u)
      → (a b : At) (t u v : T) (wire : Wire) (end : BodyEnd) → (IsTrue wire.tells → IsTrue b.wire.tells) → Goes took may_refuse a t b u → Ends took may_refuse end b u wire v → Ends took may_refuse end a t wire v
  goes_end both a b t u v wire end tells first then_ = record {
    bytes = first.bytes ++ then_.bytes;
    taken = both t u v first.bytes then_.bytes first.taken then_.taken;
    whole = λ now. first.rest (tells now) ∙ ap (onto first.bytes) (then_.whole now);
    asks = λ now. asks-both (first.asks (tells now)) (then_.asks now);
  }

  pub goes_fail : ((s t u : T) (xs ys : List ℕ) → took s xs t → took t ys u → took s (xs ++ ys) u)
      → (a b : At) (t u v : T) (wire : Wire) (fault : BodyFault) → (IsTrue wire.tells → IsTrue b.wire.tells) → Goes took may_refuse a t b u
      → Fails took may_refuse fault b u wire v → Fails took may_refuse fault a t wire v
  goes_fail both a b t u v wire fault tells first then_ = record {
    bytes = first.bytes ++ then_.bytes;
    between = then_.between;
    piece = then_.piece;
    taken = both t u then_.between first.bytes then_.bytes first.taken then_.taken;
    some = then_.some;
    why = then_.why;
    front = λ now.
        let more = then_.front now in
        (more.0, ap (λ (p : Poured). p.bytes) (first.rest (tells now)) ∙ ap (λ (b : List ℕ). first.bytes ++ b) more.1 ∙ sym (append_assoc first.bytes then_.bytes (then_.piece ++ more.0)));
    asks = λ now. asks-both (first.asks (tells now)) (then_.asks now);
  }
