-- Tries one after the other.
use Rattle.std.proofs.Common.{◌≡◌, ℕ, ◌+◌, ◌-◌, ◌^◌, ◌≤◌, min, Bool, true, false, cond, List, [], ◌∷◌, ◌++◌, length, refl, sym, ◌∙◌, ap, subst, arith, append_assoc, length-append}
use Rattle.std.specs.Prelude.{Option, IsTrue, Result, Ok, Err, All, MatchBool}
use Rattle.std.specs.List.{flat_map}
use Rattle.std.proofs.lemmas.List.{append-nil}
use Rattle.std.proofs.lemmas.List.Sums.{sum_by-cons}
use Rattle.std.proofs.lemmas.List.Elements.{All-nil, All-cons, All-head, All-tail}
use Rattle.folder_base.specs.Disk.{Bytes}
use Rattle.folder_base.specs.declared.store_fault.StoreFault.{StoreFault}
use Rattle.folder_base.specs.declared.store_fault.StoreFault.TheVariants as store
use Rattle.http_reply.specs.Truth.{IsTruthful}
use Rattle.http_reply.specs.Verdict.{Verdict, IsVerdict}
use Rattle.http_reply.specs.declared.piece_fault.PieceFault.{PieceFault}
use Rattle.http_reply.specs.declared.piece_fault.PieceFault.TheVariants.{Url, Scheme}
use Rattle.link_http.specs.declared.fetched.Fetched.{Fetched}
use Rattle.link_http.specs.declared.piece.Piece.{Piece}
use Rattle.link_http.specs.Request.{address}
use Rattle.link_http.specs.Taking.{names_call, is_judged, of_store}
use Rattle.link_http.specs.Try.{OfAddress, IsPaired}
use Rattle.link_http.specs.Wire.{Wire, Talk}
use Rattle.keep_store.specs.Calls.{Checkpoints}
use Rattle.keep_store.specs.Promise.{AreFirst}
use Rattle.keep_store.specs.Lane.{Seen, Has, Took}
use Rattle.keep_store.specs.TookLaws.{took_none, took_both}
use Rattle.piece_turn.specs.Lane.{IsAsOpened, IsSamePiece}
use Rattle.piece_turn.specs.Try.{Try, answer, answer_of, calls_for_another, is_retried, unless_folder, is_url_fault, Asks, AreTruthful}
use Rattle.piece_turn.specs.Step.{At, EndsTry, Tried}
use Rattle.piece_turn.specs.Turn.{StartFrom, BeginsAt, NextBehind, EachBehind, KnowInTurn, failed_calls, StaysDialer}
use Rattle.piece_turn.proofs.LaneLemmas.{same_none, same_both, same_took, same_finished, has_size}

-- the tries, each from what the one before left
abbrev pub AllTried : Piece → List Try → At → At → Type 0
AllTried piece [] old new = old ≡ new
AllTried piece (t ∷ tries) old new = (mid : At) × Tried piece t old mid × AllTried piece tries mid new

-- one more try
pub tried_more : (piece : Piece) (tries : List Try) (t : Try) (old mid new : At) → AllTried piece tries old mid → Tried piece t mid new → AllTried piece (tries ++ t ∷ []) old new
tried_more piece [] t old mid new same one = (new, subst (λ (s : At). Tried piece t s new) (sym same) one, refl)
tried_more piece (u ∷ tries) t old mid new all one = (all.0, all.1, tried_more piece tries t all.0 mid new all.2 one)

-- the try calls for another
abbrev pub CallsOn : Try → Type 0
CallsOn t = IsTrue (calls_for_another (answer t))

-- ---- one try

pub ended_same : (gave : Result Fetched PieceFault) (kept : Result (Unit {0}) StoreFault) (mid new : Seen) → EndsTry gave kept mid new → IsSamePiece mid new
ended_same (Ok fetched) kept mid new ended = same_finished ended.whole.finished
ended_same (Err fault) kept mid new ended = by (is_url_fault fault) ended.part
  where
    by : (b : Bool) → MatchBool b ((new ≡ mid) × (kept ≡ Ok tt)) (Checkpoints mid new kept) → IsSamePiece mid new
    by true nothing = subst (IsSamePiece mid) (sym nothing.0) (same_none mid)
    by false checked = same_took checked.taken

-- A try leaves the lane the same piece's.
pub tried_same : {piece : Piece} {t : Try} {old new : At} → Tried piece t old new → IsSamePiece old.lane new.lane
tried_same {piece} {t} {old} {new} tried = same_both (same_took tried.took.1) (ended_same t.gave t.kept tried.mid new.lane tried.ended)

not_url : (fault : PieceFault) → IsTrue (is_retried (unless_folder fault)) → is_url_fault fault ≡ false
not_url Url retried = absurd (cc)
not_url Scheme retried = absurd (cc)
not_url fault retried = refl

pub store_ends : (fault : StoreFault) → IsTrue (is_retried (of_store fault)) → ⊥
store_ends (store.Folder call) retried = absurd (cc)
store_ends store.OutOfMemory retried = absurd (cc)

checked_by : (gave : Result Fetched PieceFault) (kept : Result (Unit {0}) StoreFault) (mid new : Seen) → EndsTry gave kept mid new → IsTrue (calls_for_another (answer_of gave kept)) → Checkpoints mid new (Ok tt)
checked_by (Ok fetched) (Err fault) mid new ended calls = absurd (store_ends fault calls)
checked_by (Err cause) (Err fault) mid new ended calls = absurd (store_ends fault calls)
checked_by (Ok fetched) (Ok done) mid new ended calls = absurd (cc)
checked_by (Err fault) (Ok done) mid new ended calls =
    subst (λ (b : Bool). MatchBool b ((new ≡ mid) × (◌≡◌ {A = Result (Unit {0}) StoreFault} (Ok done) (Ok tt))) (Checkpoints mid new (Ok done))) (not_url fault calls) ended.part

-- Where a try calls for another, what came is promised.
pub checked : {piece : Piece} {t : Try} {old new : At} (tried : Tried piece t old new) → CallsOn t → Checkpoints tried.mid new.lane (Ok tt)
checked {piece} {t} {old} {new} tried calls = checked_by t.gave t.kept tried.mid new.lane tried.ended calls

-- ---- the lane over tries that call for another

-- Bytes were taken, all that there is is promised, and the lane holds no fault.
pub record Passed (old new : Seen) : Type 0 where
  pub bytes : Bytes
  pub took : Took old bytes new
  pub opened : IsAsOpened new

pub passed_one : {piece : Piece} {t : Try} {old new : At} → Tried piece t old new → CallsOn t → Passed old.lane new.lane
passed_one {piece} {t} {old} {new} tried calls =
    let c = checked tried calls in
    record {
      bytes = tried.took.0 ++ [];
      took = took_both old.lane tried.mid new.lane tried.took.0 [] tried.took.1 c.taken;
      opened = record { ready = c.free; promised = c.promised };
    }

pub passed_all : (piece : Piece) (tries : List Try) (old new : At) → AllTried piece tries old new → All CallsOn tries → IsAsOpened old.lane → Passed old.lane new.lane
passed_all piece [] old new same calls opened = subst (λ (s : At). Passed old.lane s.lane) same (record { bytes = []; took = took_none old.lane; opened = opened })
passed_all piece (t ∷ tries) old new all calls opened =
    let one = passed_one all.1 (All-head CallsOn t tries calls) in
    let rest = passed_all piece tries all.0 new all.2 (All-tail CallsOn t tries calls) one.opened in
    record { bytes = one.bytes ++ rest.bytes; took = took_both old.lane all.0.lane new.lane one.bytes rest.bytes one.took rest.took; opened = rest.opened }

-- ---- the dialer

pub count_more : (t : Try) (tries : List Try) → failed_calls (t ∷ tries) ≡ cond (names_call t.gave) 1 0 + failed_calls tries
count_more t tries = sum_by-cons (λ (u : Try). cond (names_call u.gave) 1 0) t tries

-- One try before the others.
dialer_more : (piece : Piece) (t : Try) (tries : List Try) (old mid new : At) → Tried piece t old mid → StaysDialer tries mid.wire new.wire → StaysDialer (t ∷ tries) old.wire new.wire
dialer_more piece t tries old mid new one rest = by (names_call t.gave) refl
  where
    with : (calls : ℕ) → failed_calls (t ∷ tries) ≡ calls → min (old.wire.faults + calls) (2 ^ 64 - 1) ≤ new.wire.faults → (calls ≡ 0 → new.wire.faults ≡ old.wire.faults) → StaysDialer (t ∷ tries) old.wire new.wire
    with calls is counted still = record {
      counted = subst (λ (n : ℕ). min (old.wire.faults + n) (2 ^ 64 - 1) ≤ new.wire.faults) (sym is) counted;
      still = λ none. still (sym is ∙ none);
      steady = λ h. rest.steady (one.counts.steady h);
      serves = λ h. rest.serves (one.counts.serves h);
      tells = λ h. one.counts.tells (rest.tells h);
      goes_on = λ h. rest.goes_on (one.counts.goes_on h);
    }

    by : (b : Bool) → names_call t.gave ≡ b → StaysDialer (t ∷ tries) old.wire new.wire
    by true is = with (1 + failed_calls tries) (count_more t tries ∙ ap (λ (b : Bool). cond b 1 0 + failed_calls tries) is)
        (omega (arith, one.counts.rises is, rest.counted)) (λ none. absurd (omega (arith, none)))
    by false is = with (failed_calls tries) (let none : 0 + failed_calls tries ≡ failed_calls tries = omega arith in count_more t tries ∙ ap (λ (b : Bool). cond b 1 0 + failed_calls tries) is ∙ none)
        (omega (arith, one.counts.still is, rest.counted)) (λ none. rest.still none ∙ one.counts.still is)

-- The dialer's count and what it tells of itself.
pub dialer_all : (piece : Piece) (tries : List Try) (old new : At) → AllTried piece tries old new → StaysDialer tries old.wire new.wire
dialer_all piece [] old new same = subst (λ (s : At). StaysDialer [] old.wire s.wire) same
    (record { counted = omega arith; still = λ _. refl; steady = λ h. h; serves = λ h. h; tells = λ h. h; goes_on = λ h. h })
dialer_all piece (t ∷ tries) old new all = dialer_more piece t tries old all.0 new all.1 (dialer_all piece tries all.0 new all.2)

-- What a dialer that tells tells of all tries.
pub record TellAll (piece : Piece) (known : Option ℕ) (tries : List Try) (old new : Wire) : Type 0 where
  pub world : new.world ≡ old.world
  pub dials : new.dials ≡ old.dials ++ flat_map (λ (t : Try). t.dials) tries
  pub talks : new.talks ≡ old.talks ++ flat_map (λ (t : Try). t.talks) tries
  pub paired : IsPaired old → IsPaired new
  pub asked : All (Asks piece) tries
  pub knows : KnowInTurn known tries

pub tell_all : (piece : Piece) (tries : List Try) (old new : At) → AllTried piece tries old new → IsTrue new.wire.tells → TellAll piece old.known tries old.wire new.wire
tell_all piece [] old new same tells = subst (λ (s : At). TellAll piece old.known [] old.wire s.wire) same
    (record { world = refl; dials = sym (append-nil old.wire.dials); talks = sym (append-nil old.wire.talks); paired = λ h. h; asked = All-nil (Asks piece); knows = tt })
tell_all piece (t ∷ tries) old new all tells =
    let rest = tell_all piece tries all.0 new all.2 tells in
    let one = all.1.tell ((dialer_all piece tries all.0 new all.2).tells tells) in
    record {
      world = rest.world ∙ one.world;
      dials = rest.dials ∙ ap (λ l. l ++ flat_map (λ (t : Try). t.dials) tries) one.dials ∙ append_assoc old.wire.dials t.dials (flat_map (λ (t : Try). t.dials) tries);
      talks = rest.talks ∙ ap (λ l. l ++ flat_map (λ (t : Try). t.talks) tries) one.talks ∙ append_assoc old.wire.talks t.talks (flat_map (λ (t : Try). t.talks) tries);
      paired = λ h. rest.paired (one.paired h);
      asked = All-cons (Asks piece) t tries one.asked rest.asked;
      knows = (all.1.known, all.0.known, one.knows, rest.knows);
    }

-- Each try came to a fault of the URL exactly where it leads nowhere.
pub addressed : (piece : Piece) (tries : List Try) (old new : At) → AllTried piece tries old new → All (λ (t : Try). OfAddress (address piece.url) t.gave) tries
addressed piece [] old new same = All-nil (λ (t : Try). OfAddress (address piece.url) t.gave)
addressed piece (t ∷ tries) old new all = All-cons (λ (t : Try). OfAddress (address piece.url) t.gave) t tries all.1.address_is (addressed piece tries all.0 new all.2)

start_later : (low high : ℕ) (tries : List Try) → low ≤ high → StartFrom high tries → StartFrom low tries
start_later low high [] le starts = tt
start_later low high (t ∷ tries) le starts = (omega (arith, le, starts.0), starts.1)

-- Each try asks from the promise.
pub starts_all : (piece : Piece) (tries : List Try) (old new : At) → AllTried piece tries old new → StartFrom old.lane.promised tries
starts_all piece [] old new same = tt
starts_all piece (t ∷ tries) old new all =
    (omega (arith, all.1.from), start_later t.from all.0.lane.promised tries (omega (arith, all.1.from, (tried_same all.1).later)) (starts_all piece tries all.0 new all.2))

-- The first asks from exactly the promise.
pub first_from : (piece : Piece) (tries : List Try) (old new : At) → AllTried piece tries old new → BeginsAt old.lane.promised tries
first_from piece [] old new same = tt
first_from piece (t ∷ tries) old new all = all.1.from

-- Where no call failed, all that the reply to a try gave is promised as the next begins.
reached : {piece : Piece} {t : Try} {old new : At} (tried : Tried piece t old new) → CallsOn t → IsAsOpened old.lane → IsTrue new.wire.tells → IsTrue new.lane.world.tells → (had : Bytes) → Has old.lane had
    → (talk : Talk) (verdict : Verdict) → t.talks ≡ talk ∷ [] → IsVerdict t.from t.known talk.reply verdict → IsTrue (is_judged t.gave) → new.lane.promised ≡ t.from + length verdict.bytes
reached {piece} {t} {old} {new} tried calls opened wt lt had has talk verdict one is judged =
    let check = checked tried calls in
    let took = tried.judged wt judged talk verdict one is in
    let came = check.taken.has lt (had ++ verdict.bytes) (took.has (check.taken.folder.tells lt) had has) in
    omega (
      arith,
      check.promised,
      has_size came check.free,
      has_size has opened.ready,
      opened.promised,
      tried.from,
      length-append (had ++ verdict.bytes) [],
      length-append had verdict.bytes,
    )

next_behind : (piece : Piece) (t : Try) (tries : List Try) (last : Try) (at mid : At) → AllTried piece tries at mid → last.from ≡ mid.lane.promised
    → ((talk : Talk) (verdict : Verdict) → t.talks ≡ talk ∷ [] → IsVerdict t.from t.known talk.reply verdict → IsTrue (is_judged t.gave) → at.lane.promised ≡ t.from + length verdict.bytes)
    → NextBehind t (tries ++ last ∷ [])
next_behind piece t [] last at mid same from reach = λ talk verdict one is judged. from ∙ ap (λ (s : At). s.lane.promised) (sym same) ∙ reach talk verdict one is judged
next_behind piece t (u ∷ us) last at mid all from reach = λ talk verdict one is judged. all.1.from ∙ reach talk verdict one is judged

-- Each try asks from behind what the one before gave.
pub each_behind : (piece : Piece) (tries : List Try) (last : Try) (old mid : At) → AllTried piece tries old mid → All CallsOn tries → IsAsOpened old.lane → IsTrue mid.wire.tells → IsTrue mid.lane.world.tells
    → (had : Bytes) → Has old.lane had → last.from ≡ mid.lane.promised → EachBehind (tries ++ last ∷ [])
each_behind piece [] last old mid same calls opened wt lt had has from = (tt, tt)
each_behind piece (t ∷ tries) last old mid all calls opened wt lt had has from =
    let on = All-head CallsOn t tries calls in
    let later = All-tail CallsOn t tries calls in
    let passed = passed_one all.1 on in
    let told = (passed_all piece tries all.0 mid all.2 later passed.opened).took.folder.tells lt in (
      next_behind piece t tries last all.0 mid all.2 from (reached all.1 on opened ((dialer_all piece tries all.0 mid all.2).tells wt) told had has),
      each_behind piece tries last all.0 mid all.2 later passed.opened wt lt (had ++ passed.bytes) (passed.took.has told had has) from,
    )

-- The lane stays the same piece's.
pub same_all : (piece : Piece) (tries : List Try) (old new : At) → AllTried piece tries old new → IsSamePiece old.lane new.lane
same_all piece [] old new same = subst (λ (s : At). IsSamePiece old.lane s.lane) same (same_none old.lane)
same_all piece (t ∷ tries) old new all = same_both (tried_same all.1) (same_all piece tries all.0 new all.2)

-- ---- truthful replies

-- the replies of the try are truthful
abbrev pub IsTruthfulTry : Option Bytes → Try → Type 0
IsTruthfulTry all t = All (λ (talk : Talk). IsTruthful all t.from talk.reply) t.talks

-- Truthful replies gave the lane the first of the world's bytes, behind those that it had.
pub truth_all : (piece : Piece) (all : Option Bytes) (tries : List Try) (old new : At) → AllTried piece tries old new → All CallsOn tries → IsAsOpened old.lane
    → IsTrue new.wire.tells → IsTrue new.lane.world.tells → AreTruthful all tries → (had : Bytes) → Has old.lane had → AreFirst all had
    → (bytes : Bytes) × Took old.lane bytes new.lane × AreFirst all (had ++ bytes)
truth_all piece all [] old new same calls opened wt lt truthful had has first =
    ([], subst (λ (s : At). Took old.lane [] s.lane) same (took_none old.lane), subst (AreFirst all) (sym (append-nil had)) first)
truth_all piece all (t ∷ tries) old new tried calls opened wt lt truthful had has first =
    let mid = tried.0 in
    let one = tried.1 in
    let on = All-head CallsOn t tries calls in
    let later = All-tail CallsOn t tries calls in
    let passed = passed_one one on in
    let check = checked one on in
    let mt = (passed_all piece tries mid new tried.2 later passed.opened).took.folder.tells lt in
    let gave = one.truth ((dialer_all piece tries mid new tried.2).tells wt) all had
    (All-cons (IsTruthfulTry all) t [] (All-head (IsTruthfulTry all) t tries truthful) (All-nil (IsTruthfulTry all)))
    (has_size has opened.ready ∙ sym opened.promised ∙ sym one.from) first in
    let took = took_both old.lane one.mid mid.lane gave.bytes [] gave.took check.taken in
    let rest = truth_all piece all tries mid new tried.2 later passed.opened wt lt (All-tail (IsTruthfulTry all) t tries truthful)
    (had ++ (gave.bytes ++ [])) (took.has mt had has) (subst (λ (b : Bytes). AreFirst all (had ++ b)) (sym (append-nil gave.bytes)) gave.first) in (
      (gave.bytes ++ []) ++ rest.0,
      took_both old.lane mid.lane new.lane (gave.bytes ++ []) rest.0 took rest.1,
      subst (AreFirst all) (append_assoc had (gave.bytes ++ []) rest.0) rest.2,
    )
