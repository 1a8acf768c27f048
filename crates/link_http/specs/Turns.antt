-- What a dialer in memory plans.
use Rattle.std.specs.Prelude.{ℕ, Bool, true, false, ◌==◌, List, slice_index_or}
use Rattle.std.specs.List.{list_all}
use Rattle.link_http.specs.declared.turn.Turn.{Turn}
use Rattle.link_http.specs.declared.turn.Turn.TheVariants.{Honest, Whole, Cut, Status, Raw, DialFails, SendFails, RecvFails}

-- the dial fails
abbrev pub fails_dial : Turn → Bool
fails_dial DialFails = true
fails_dial Honest = false
fails_dial Whole = false
fails_dial (Cut n) = false
fails_dial (Status code) = false
fails_dial (Raw bytes) = false
fails_dial SendFails = false
fails_dial (RecvFails n) = false

-- a `send` fails, behind so many of its connection: the first one
abbrev pub fails_send : Turn → ℕ → Bool
fails_send SendFails before = before == 0
fails_send Honest before = false
fails_send Whole before = false
fails_send (Cut n) before = false
fails_send (Status code) before = false
fails_send (Raw bytes) before = false
fails_send DialFails before = false
fails_send (RecvFails n) before = false

-- a `recv` fails, behind so many of its connection: the one that the turn names
abbrev pub fails_recv : Turn → ℕ → Bool
fails_recv (RecvFails n) before = n == before
fails_recv Honest before = false
fails_recv Whole before = false
fails_recv (Cut n) before = false
fails_recv (Status code) before = false
fails_recv (Raw bytes) before = false
fails_recv DialFails before = false
fails_recv SendFails before = false

-- no call behind the turn is planned to fail
abbrev pub is_steady : Turn → Bool
is_steady Honest = true
is_steady Whole = true
is_steady (Cut n) = true
is_steady (Status code) = true
is_steady (Raw bytes) = true
is_steady DialFails = false
is_steady SendFails = false
is_steady (RecvFails n) = false

-- no call at all is
abbrev pub plans_no_fault : List Turn → Bool
plans_no_fault script = list_all is_steady script

-- each reply of the turn to a request for a resource is a whole honest one
abbrev pub is_whole : Turn → Bool
is_whole Honest = true
is_whole Whole = true
is_whole (Cut n) = false
is_whole (Status code) = false
is_whole (Raw bytes) = false
is_whole DialFails = true
is_whole SendFails = true
is_whole (RecvFails n) = true

-- the replies of each turn are
abbrev pub plans_whole_replies : List Turn → Bool
plans_whole_replies script = list_all is_whole script

-- the turn of a dial: later ones are honest
abbrev pub turn_at : List Turn → ℕ → Turn
turn_at script n = slice_index_or script n Honest
