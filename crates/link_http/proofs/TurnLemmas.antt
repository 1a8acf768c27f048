-- What a dialer in memory does by its turns.
use Rattle.std.proofs.Common.{◌≡◌, ℕ, zero, suc, ◌<◌, ◌≤◌, List, [], ◌∷◌, get_or, refl, true, false}
use Rattle.std.specs.Prelude.{Bool, ◌&&◌}
use Rattle.std.proofs.lemmas.Bool.{and_parts}
use Rattle.link_http.specs.declared.turn.Turn.{Turn}
use Rattle.link_http.specs.declared.turn.Turn.TheVariants.{Honest, Whole, Cut, Status, Raw, DialFails, SendFails, RecvFails}
use Rattle.link_http.specs.Turns.{is_steady, plans_no_fault, turn_at, fails_dial, fails_send, fails_recv}

steady_at : (script : List Turn) (n : ℕ) → plans_no_fault script ≡ true → is_steady (get_or script n Honest) ≡ true
steady_at [] n all = refl
steady_at (turn ∷ script) zero all = (and_parts _ _ all).0
steady_at (turn ∷ script) (suc n) all = steady_at script n (and_parts _ _ all).1

steady_dial : (turn : Turn) → is_steady turn ≡ true → fails_dial turn ≡ false
steady_dial Honest is = refl
steady_dial Whole is = refl
steady_dial (Cut n) is = refl
steady_dial (Status code) is = refl
steady_dial (Raw bytes) is = refl
steady_dial DialFails is = absurd (cc)
steady_dial SendFails is = absurd (cc)
steady_dial (RecvFails n) is = absurd (cc)

steady_send : (turn : Turn) (before : ℕ) → is_steady turn ≡ true → fails_send turn before ≡ false
steady_send Honest before is = refl
steady_send Whole before is = refl
steady_send (Cut n) before is = refl
steady_send (Status code) before is = refl
steady_send (Raw bytes) before is = refl
steady_send DialFails before is = absurd (cc)
steady_send SendFails before is = absurd (cc)
steady_send (RecvFails n) before is = absurd (cc)

steady_recv : (turn : Turn) (before : ℕ) → is_steady turn ≡ true → fails_recv turn before ≡ false
steady_recv Honest before is = refl
steady_recv Whole before is = refl
steady_recv (Cut n) before is = refl
steady_recv (Status code) before is = refl
steady_recv (Raw bytes) before is = refl
steady_recv DialFails before is = absurd (cc)
steady_recv SendFails before is = absurd (cc)
steady_recv (RecvFails n) before is = absurd (cc)

-- A script that plans no fault fails no call.
pub no_failed_dial : (script : List Turn) (n : ℕ) → plans_no_fault script ≡ true → fails_dial (turn_at script n) ≡ false
no_failed_dial script n all = steady_dial (turn_at script n) (steady_at script n all)

pub no_failed_send : (script : List Turn) (n before : ℕ) → plans_no_fault script ≡ true → fails_send (turn_at script n) before ≡ false
no_failed_send script n before all = steady_send (turn_at script n) before (steady_at script n all)

pub no_failed_recv : (script : List Turn) (n before : ℕ) → plans_no_fault script ≡ true → fails_recv (turn_at script n) before ≡ false
no_failed_recv script n before all = steady_recv (turn_at script n) before (steady_at script n all)
