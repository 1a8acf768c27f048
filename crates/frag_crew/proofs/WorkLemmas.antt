-- A worker's turns over its dialer, one after the other.
use Rattle.std.proofs.Common.{◌≡◌, ℕ, ◌+◌, ◌-◌, ◌^◌, ◌≤◌, min, cond, List, [], ◌∷◌, ◌++◌, refl, sym, ◌∙◌, ap, subst, arith, append_assoc}
use Rattle.std.specs.List.{flat_map}
use Rattle.std.proofs.lemmas.List.{append-nil}
use Rattle.std.proofs.lemmas.List.Sums.{sum_by-append}
use Rattle.std.proofs.lemmas.Grind.{flat_map-append}
use Rattle.keep_store.specs.Lane.{Seen}
use Rattle.link_http.specs.declared.piece.Piece.{Piece}
use Rattle.link_http.specs.Taking.{names_call}
use Rattle.link_http.specs.Wire.{Wire}
use Rattle.piece_turn.specs.Try.{Try}
use Rattle.piece_turn.specs.Turn.{failed_calls, StaysDialer, Tell, TakesTurn}
use Rattle.piece_turn.specs.declared.piece_end.PieceEnd.{PieceEnd}
use Rattle.frag_crew.specs.Asked.{Asked, tries_of, Lasts, TellsTurns, Works}

-- ---- what a dialer keeps

pub lasts_none : (w : Wire) → Lasts w w
lasts_none w = record { tells = λ h. h; goes_on = λ h. h; steady = λ h. h; serves = λ h. h; world = λ h. refl }

pub lasts_both : {a b c : Wire} → Lasts a b → Lasts b c → Lasts a c
lasts_both {a} {b} {c} p q = record {
  tells = λ h. p.tells (q.tells h);
  goes_on = λ h. q.goes_on (p.goes_on h);
  steady = λ h. q.steady (p.steady h);
  serves = λ h. q.serves (p.serves h);
  world = λ h. q.world h ∙ p.world (q.tells h);
}

pub lasts_turn : {piece : Piece} {retries : ℕ} {old new : Seen} {end : PieceEnd} {d e : Wire} → TakesTurn piece retries old new end d e → Lasts d e
lasts_turn {piece} {retries} {old} {new} {end} {d} {e} turn = record {
  tells = turn.dialer.tells;
  goes_on = turn.dialer.goes_on;
  steady = turn.dialer.steady;
  serves = turn.dialer.serves;
  world = λ h. (turn.tell h).world;
}

-- ---- its count

-- a count that rose by m and then by n rose by both
rose_both : (a b c m n k : ℕ) → k ≡ m + n → min (a + m) (2 ^ 64 - 1) ≤ b → min (b + n) (2 ^ 64 - 1) ≤ c → min (a + k) (2 ^ 64 - 1) ≤ c
rose_both a b c m n k is one other = omega (arith, is, one, other)

calls_append : (ts us : List Try) → failed_calls (ts ++ us) ≡ failed_calls ts + failed_calls us
calls_append ts us = sum_by-append (λ (t : Try). cond (names_call t.gave) 1 0) ts us

stays_none : (w : Wire) → StaysDialer [] w w
stays_none w = record { counted = omega arith; still = λ _. refl; steady = λ h. h; serves = λ h. h; tells = λ h. h; goes_on = λ h. h }

stays_both : (ts us : List Try) (a b c : Wire) → StaysDialer ts a b → StaysDialer us b c → StaysDialer (ts ++ us) a c
stays_both ts us a b c p q = record {
  counted = rose_both a.faults b.faults c.faults (failed_calls ts) (failed_calls us) (failed_calls (ts ++ us)) (calls_append ts us) p.counted q.counted;
  still = λ none. q.still (omega (arith, calls_append ts us, none)) ∙ p.still (omega (arith, calls_append ts us, none));
  steady = λ h. q.steady (p.steady h);
  serves = λ h. q.serves (p.serves h);
  tells = λ h. p.tells (q.tells h);
  goes_on = λ h. q.goes_on (p.goes_on h);
}

-- ---- the turns

tries_append : (us vs : List Asked) → tries_of (us ++ vs) ≡ tries_of us ++ tries_of vs
tries_append us vs = flat_map-append (λ (a : Asked). a.tries) us vs

all_append : {A : Type 0} (f : Try → List A) (us vs : List Asked) → flat_map f (tries_of (us ++ vs)) ≡ flat_map f (tries_of us) ++ flat_map f (tries_of vs)
all_append f us vs = ap (flat_map f) (tries_append us vs) ∙ flat_map-append f (tries_of us) (tries_of vs)

-- what stands behind a list, and then what stands behind that
behind : {A : Type 0} (f : Try → List A) (us vs : List Asked) (a b c : List A) → b ≡ a ++ flat_map f (tries_of us) → c ≡ b ++ flat_map f (tries_of vs) → c ≡ a ++ flat_map f (tries_of (us ++ vs))
behind f us vs a b c one other =
    other ∙ ap (λ l. l ++ flat_map f (tries_of vs)) one ∙ append_assoc a (flat_map f (tries_of us)) (flat_map f (tries_of vs)) ∙ ap (λ l. a ++ l) (sym (all_append f us vs))

pub works_none : (w : Wire) → Works [] w w
works_none w = record { dialer = stays_none w; tell = λ h. record { world = refl; dials = sym (append-nil w.dials); talks = sym (append-nil w.talks); paired = λ p. p } }

pub works_both : (us vs : List Asked) (a b c : Wire) → Works us a b → Works vs b c → Works (us ++ vs) a c
works_both us vs a b c p q = record {
  dialer = subst (λ (l : List Try). StaysDialer l a c) (sym (tries_append us vs)) (stays_both (tries_of us) (tries_of vs) a b c p.dialer q.dialer);
  tell = λ h.
      let one : TellsTurns us a b = p.tell (q.dialer.tells h) in
      let other : TellsTurns vs b c = q.tell h in
      record {
        world = other.world ∙ one.world;
        dials = behind (λ (t : Try). t.dials) us vs a.dials b.dials c.dials one.dials other.dials;
        talks = behind (λ (t : Try). t.talks) us vs a.talks b.talks c.talks one.talks other.talks;
        paired = λ h. other.paired (one.paired h);
      };
}

-- One turn.
pub works_one : {piece : Piece} {retries : ℕ} {old new : Seen} {end : PieceEnd} {d e : Wire} (turn : TakesTurn piece retries old new end d e) (k : ℕ) → Works (record { number = k; tries = turn.tries } ∷ []) d e
works_one {piece} {retries} {old} {new} {end} {d} {e} turn k = record {
  dialer = subst (λ (l : List Try). StaysDialer l d e) (sym (append-nil turn.tries)) turn.dialer;
  tell = λ h.
      let told : Tell piece turn.tries d e = turn.tell h in
      record {
        world = told.world;
        dials = told.dials ∙ ap (λ (l : List Try). d.dials ++ flat_map (λ (t : Try). t.dials) l) (sym (append-nil turn.tries));
        talks = told.talks ∙ ap (λ (l : List Try). d.talks ++ flat_map (λ (t : Try). t.talks) l) (sym (append-nil turn.tries));
        paired = told.paired;
      };
}
