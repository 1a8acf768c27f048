-- A request that is sent in pieces.
use Rattle.std.proofs.Common.{◌≡◌, ◌<◌, ◌+◌, ℕ, List, [], ◌++◌, length, take, drop, refl, sym, ap, ◌∙◌, subst, arith, Some, Option}
use Rattle.std.specs.Prelude.{IsTrue, true, false, unwrap_or, option_map}
use Rattle.std.proofs.Math.Seq.{take-add}
use Rattle.std.proofs.lemmas.List.{take_all}
use Rattle.link_http.specs.Request.{Place}
use Rattle.link_http.specs.Wire.{World, Wire, Connection, Sends, SendsOn, IsServed, ends_request, left}
use Rattle.link_http.specs.Sending.{IsWholeText, Partly, Asked}

some_same : {A : Type 0} (x y : A) → Some x ≡ Some y → x ≡ y
some_same x y e = cc

connection_is : (c : Connection) (place : Place) (dial : ℕ) (sent rest : List ℕ) → c.place ≡ place → c.dial ≡ dial → c.sent ≡ sent → c.left ≡ rest
    → c ≡ record { place = place; dial = dial; sent = sent; left = rest }
connection_is c place dial sent rest p d s l =
    subst (λ (q : Place). c ≡ record { place = q; dial = dial; sent = sent; left = rest }) p
    (subst (λ (q : ℕ). c ≡ record { place = c.place; dial = q; sent = sent; left = rest }) d
    (subst (λ (q : List ℕ). c ≡ record { place = c.place; dial = c.dial; sent = q; left = rest }) s
    (subst (λ (q : List ℕ). c ≡ record { place = c.place; dial = c.dial; sent = c.sent; left = q }) l refl)))

-- what is asked, where so much of the text was sent
sends_on : (place : Place) (dial : ℕ) (text : List ℕ) (at n : ℕ) (old now new : Wire) → Partly place dial text at old now
    → (s : Sends (take n (drop at text)) now new)
    → SendsOn (ends_request (take (at + n) text)) (take (at + n) text) s.before s.after now new
    × (s.before ≡ record { place = place; dial = dial; sent = take at text; left = [] })
sends_on place dial text at n old now new partly s =
    let before : s.before ≡ record { place = place; dial = dial; sent = take at text; left = [] } = some_same _ _ (sym s.was ∙ partly.line) in
    let sent : s.before.sent ++ take n (drop at text) ≡ take (at + n) text =
    ap (λ (c : Connection). c.sent ++ take n (drop at text)) before ∙ sym (take-add at n text) in
    (subst (λ t. SendsOn (ends_request t) t s.before s.after now new) sent s.asks, before)

-- More of the text, but not all.
pub partly_more : (place : Place) (dial : ℕ) (text : List ℕ) (at n : ℕ) (old now new : Wire) → IsWholeText text → at + n < length text
    → Partly place dial text at old now → Sends (take n (drop at text)) now new → Partly place dial text (at + n) old new
partly_more place dial text at n old now new whole within partly s =
    let on = sends_on place dial text at n old now new partly s in
    let off : SendsOn false (take (at + n) text) s.before s.after now new =
    subst (λ b. SendsOn b (take (at + n) text) s.before s.after now new) (whole.once (at + n) within) on.0 in
    let after : s.after ≡ record { place = place; dial = dial; sent = take (at + n) text; left = [] } =
    connection_is s.after place dial (take (at + n) text) [] (s.place ∙ ap (λ (c : Connection). c.place) on.1) (s.dial ∙ ap (λ (c : Connection). c.dial) on.1) off.0
    (off.1 ∙ ap (λ (c : Connection). c.left) on.1) in
    record {
      line = s.is ∙ ap Some after;
      asks = record {
        world = s.world ∙ partly.asks.world;
        dials = s.dials ∙ partly.asks.dials;
        talks = off.2 ∙ partly.asks.talks;
      };
    }

-- All of it.
pub asked_whole : (place : Place) (dial : ℕ) (text : List ℕ) (at n : ℕ) (old now new : Wire) → IsWholeText text → at + n ≡ length text
    → Partly place dial text at old now → (IsTrue old.serves → IsTrue now.serves) → Sends (take n (drop at text)) now new → Asked place dial text old new
asked_whole place dial text at n old now new whole all partly serves s =
    let on = sends_on place dial text at n old now new partly s in
    let same : take (at + n) text ≡ text = take_all (at + n) text (omega arith) in
    let there : SendsOn (ends_request text) text s.before s.after now new =
    subst (λ t. SendsOn (ends_request t) t s.before s.after now new) same on.0 in
    let off : SendsOn true text s.before s.after now new =
    subst (λ b. SendsOn b text s.before s.after now new) whole.ends there in
    let at_place : s.before.place ≡ place = ap (λ (c : Connection). c.place) on.1 in
    let of_dial : s.before.dial ≡ dial = ap (λ (c : Connection). c.dial) on.1 in
    let rest : left new ≡ s.after.left = ap (λ (l : Option Connection). unwrap_or (option_map (λ (c : Connection). c.left) l) []) s.is in
    record {
      world = s.world ∙ partly.asks.world;
      dials = s.dials ∙ partly.asks.dials;
      talks = off.1 ∙ (rw (at_place, of_dial, partly.asks.talks, sym rest) refl);
      served = λ old_serves.
          subst (λ (r : List ℕ). IsServed old.world place text r) (sym rest)
          (subst (λ (p : Place). IsServed old.world p text s.after.left) at_place
          (subst (λ (w : World). IsServed w s.before.place text s.after.left) partly.asks.world (off.2 (serves old_serves))));
    }
