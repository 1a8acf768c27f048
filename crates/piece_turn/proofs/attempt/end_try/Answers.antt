use Rattle.std.proofs.Common.{◌≡◌, refl, sym, ◌∙◌, ap, subst, Result, Ok, Err}
use Rattle.folder_base.specs.declared.store_fault.StoreFault.{StoreFault}
use Rattle.http_reply.specs.declared.piece_fault.PieceFault.{PieceFault}
use Rattle.http_reply.specs.declared.piece_fault.PieceFault.TheVariants.{Url, Scheme}
use Rattle.link_http.specs.declared.fetched.Fetched.{Fetched}
use Rattle.keep_store.specs.Lane.{Seen}
use Rattle.keep_store.specs.Seen.{lane_seen}
use Rattle.piece_turn.specs.Step.{EndsTry}
use Rattle.piece_turn.specs.Try.{answer_of}
use Rattle.piece_turn.proofs.attempt.end_try.Goals as goal

-- the try's answer, and how it ended
abbrev Ended : PieceFault → Result Fetched PieceFault → Seen → Type 0
Ended fault gave lane = (kept : Result (Unit {0}) StoreFault) × (◌≡◌ {A = Result (Unit {0}) PieceFault} (Err fault) (answer_of gave kept)) × EndsTry gave kept lane lane

ended_by : (fault : PieceFault) (gave : Result Fetched PieceFault) (lane : Seen) → gave ≡ Err fault → Ended fault (Err fault) lane → Ended fault gave lane
ended_by fault gave lane is ended = subst (λ (g : Result Fetched PieceFault). Ended fault g lane) (sym is) ended

pub returns-in-Err-Url : goal.returns-in-Err-Url
returns-in-Err-Url g c =
    let lane = lane_seen {folder = g.F.Folder} c.args.lane.now in
    let one = c.in-Err-Url.is in
    let two = c.in-Err-Url.field-0-is in
    let three : c.in-Err-Url.field-0 ≡ Url = rw one at two in
    let is : c.args.gave ≡ Err Url = one ∙ ap (λ (f : PieceFault). Err f) three in
    ended_by Url c.args.gave lane is (Ok tt, refl, record { whole = tt; part = (refl, refl) })

pub returns-in-Err-Scheme : goal.returns-in-Err-Scheme
returns-in-Err-Scheme g c =
    let lane = lane_seen {folder = g.F.Folder} c.args.lane.now in
    let one = c.in-Err-Scheme.is in
    let two = c.in-Err-Scheme.field-0-is in
    let three : c.in-Err-Scheme.field-0 ≡ Scheme = rw one at two in
    let is : c.args.gave ≡ Err Scheme = one ∙ ap (λ (f : PieceFault). Err f) three in
    ended_by Scheme c.args.gave lane is (Ok tt, refl, record { whole = tt; part = (refl, refl) })
