-- Where the cause of a piece that failed comes from.
use Rattle.std.proofs.Common.{◌≡◌, ◌≢◌, ◌⊎◌, inl, inr, ⊎_elim, ℕ, ◌+◌, ◌<◌, Bool, true, false, not, cond, List, [], ◌∷◌, ◌++◌, length, refl, sym, ◌∙◌, ap, subst, arith}
use Rattle.std.specs.Prelude.{IsTrue, Result, Ok, Err, All}
use Rattle.std.proofs.lemmas.List.Elements.{All-head}
use Rattle.text_base.specs.Causes.{Rose}
use Rattle.folder_base.specs.declared.store_fault.StoreFault.{StoreFault}
use Rattle.folder_base.specs.declared.store_fault.StoreFault.TheVariants as store
use Rattle.http_reply.specs.Faults.{Origin, of_asking, of_hearing, of_taking, of_url, of_reply, origin, dials, replies, breaks, is_call, is_cause}
use Rattle.http_reply.specs.declared.piece_fault.PieceFault.{PieceFault}
use Rattle.http_reply.specs.declared.piece_fault.PieceFault.TheVariants.{Dial, Send, Url, Scheme, Folder, OutOfMemory}
use Rattle.link_http.specs.declared.fetched.Fetched.{Fetched}
use Rattle.link_http.specs.declared.piece.Piece.{Piece}
use Rattle.link_http.specs.Request.{Address, address}
use Rattle.link_http.specs.Taking.{of_store, names_call, is_judged, as_end}
use Rattle.link_http.specs.Try.{OfAddress}
use Rattle.link_http.specs.Wire.{Wire}
use Rattle.keep_store.specs.Lane.{Seen}
use Rattle.piece_turn.specs.declared.piece_end.PieceEnd.{PieceEnd}
use Rattle.piece_turn.specs.declared.piece_end.PieceEnd.TheVariants.{Done, Failed}
use Rattle.piece_turn.specs.Try.{Try, answer, answer_of, calls_for_another, is_retried, unless_folder, is_url_fault, may_differ, comes_from_url, Asks, AsksAt}
use Rattle.piece_turn.specs.Turn.{end_of, failed_calls, Ends, EndsBy, TakesTurn}
use Rattle.piece_turn.specs.Ends.{HasCause, IsLastVerdict}
use Rattle.piece_turn.proofs.ChainLemmas.{CallsOn, store_ends, count_more}
use Rattle.piece_turn.proofs.TriedLemmas.{address_fault, UrlFault}
use Rattle.piece_turn.proofs.TurnLemmas.{all_parts}

-- a fault of another origin than the lane's
abbrev NotTaking : PieceFault → Type 0
NotTaking fault = origin fault ≢ of_taking

of_store_taking : (fault : StoreFault) → origin (of_store fault) ≡ of_taking
of_store_taking (store.Folder call) = refl
of_store_taking store.OutOfMemory = refl

unless_same : (fault : PieceFault) → (origin (unless_folder fault) ≡ of_taking) ⊎ (unless_folder fault ≡ fault)
unless_same (Folder call) = inl refl
unless_same fault = inr refl

same_failed : (n m : ℕ) (a b : PieceFault) → Failed n a ≡ Failed m b → (n ≡ m) × (a ≡ b)
same_failed n m a b e = (cc, cc)

-- A cause that is not the lane's is what the reply gave, or why none came.
gave_cause : (n m : ℕ) (cause : PieceFault) (gave : Result Fetched PieceFault) (kept : Result (Unit {0}) StoreFault) → end_of m (answer_of gave kept) ≡ Failed n cause → NotTaking cause
    → (gave ≡ Err cause) × (answer_of gave kept ≡ Err cause) × (n ≡ m)
gave_cause n m cause gave (Err fault) e never =
    absurd (never (ap origin (sym (same_failed m n (of_store fault) cause e).1) ∙ of_store_taking fault))
gave_cause n m cause (Ok fetched) (Ok done) e never = absurd (cc)
gave_cause n m cause (Err fault) (Ok done) e never =
    let same = same_failed m n (unless_folder fault) cause e in (
      ⊎_elim (λ taking. absurd (never (ap origin (sym same.1) ∙ taking))) (λ is. ap (λ (f : PieceFault). Err f) (sym is ∙ same.1)) (unless_same fault),
      ap (λ (f : PieceFault). Err f) same.1,
      sym same.0,
    )

-- ---- origins

url_origin : (o : Origin) → IsTrue (comes_from_url o) → o ≡ of_url
url_origin of_asking is = absurd (cc)
url_origin of_hearing is = absurd (cc)
url_origin of_taking is = absurd (cc)
url_origin of_url is = refl
url_origin of_reply is = absurd (cc)

call_retried : (o : Origin) → IsTrue (dials o) → IsTrue (may_differ o) × (o ≢ of_taking)
call_retried of_asking is = (refl, λ e. cc)
call_retried of_hearing is = (refl, λ e. cc)
call_retried of_taking is = absurd (cc)
call_retried of_url is = absurd (cc)
call_retried of_reply is = absurd (cc)

reply_retried : (o : Origin) → IsTrue (replies o) → IsTrue (may_differ o) × (o ≢ of_taking) × (o ≢ of_url) × (o ≢ of_asking) × IsTrue (not (breaks o))
reply_retried of_asking is = absurd (cc)
reply_retried of_hearing is = absurd (cc)
reply_retried of_taking is = absurd (cc)
reply_retried of_url is = absurd (cc)
reply_retried of_reply is = (refl, λ e. cc, λ e. cc, λ e. cc, refl)

-- ---- the URL

same_err : (a b : PieceFault) → ◌≡◌ {A = Result Fetched PieceFault} (Err a) (Err b) → a ≡ b
same_err a b e = cc

url_or_scheme : (fault : PieceFault) → origin fault ≡ of_url → (fault ≡ Url) ⊎ (fault ≡ Scheme)
url_or_scheme Url is = inl refl
url_or_scheme Scheme is = inr refl
url_or_scheme fault is = absurd (cc)

-- Where a try gave a fault of the URL, it leads nowhere, for that fault.
leads_nowhere : (a : Result Address PieceFault) (cause : PieceFault) (gave : Result Fetched PieceFault) → OfAddress a gave → gave ≡ Err cause → origin cause ≡ of_url → a ≡ Err cause
leads_nowhere (Err fault) cause gave of is url = ⊎_elim
    (λ e. ap (λ (f : PieceFault). Err f) (same_err fault cause (sym e ∙ is)))
    (λ e. absurd (let x : of_taking ≡ of_url = ap origin (same_err OutOfMemory cause (sym e ∙ is)) ∙ url in cc)) of
leads_nowhere (Ok to) cause gave of is url = absurd (⊎_elim
    (λ e. of.0 (is ∙ ap (λ (f : PieceFault). Err f) e))
    (λ e. of.1 (is ∙ ap (λ (f : PieceFault). Err f) e)) (url_or_scheme cause url))

-- Where the URL leads nowhere no try calls for another,
nowhere_ends : (fault : PieceFault) (gave : Result Fetched PieceFault) (kept : Result (Unit {0}) StoreFault) → origin fault ≡ of_url → (gave ≡ Err fault) ⊎ (gave ≡ Err OutOfMemory) → IsTrue (calls_for_another (answer_of gave kept)) → ⊥
nowhere_ends fault gave (Err stored) url of calls = store_ends stored calls
nowhere_ends fault gave (Ok done) url of calls = ⊎_elim (by fault (url_or_scheme fault url))
    (λ e. let x : false ≡ true = ap (λ (g : Result Fetched PieceFault). calls_for_another (answer_of g (Ok done))) (sym e) ∙ calls in cc) of
  where
    by : (f : PieceFault) → (f ≡ Url) ⊎ (f ≡ Scheme) → gave ≡ Err f → ⊥
    by f (inl u) e = let x : false ≡ true = ap (λ (g : Result Fetched PieceFault). calls_for_another (answer_of g (Ok done))) (sym (e ∙ ap (λ (c : PieceFault). Err c) u)) ∙ calls in cc
    by f (inr s) e = let x : false ≡ true = ap (λ (g : Result Fetched PieceFault). calls_for_another (answer_of g (Ok done))) (sym (e ∙ ap (λ (c : PieceFault). Err c) s)) ∙ calls in cc

-- so the first is the last.
first_last : (fault : PieceFault) (earlier : List Try) → origin fault ≡ of_url → All (λ (t : Try). OfAddress (Err fault) t.gave) earlier → All CallsOn earlier → earlier ≡ []
first_last fault [] url of calls = refl
first_last fault (t ∷ earlier) url of calls = absurd (nowhere_ends fault t.gave t.kept url (All-head (λ (t : Try). OfAddress (Err fault) t.gave) t earlier of) (All-head CallsOn t earlier calls))

-- ---- the count

some_calls : (earlier : List Try) (last : Try) → IsTrue (names_call last.gave) → 0 < failed_calls (earlier ++ last ∷ [])
some_calls [] last is = let one : failed_calls (last ∷ []) ≡ 1 + failed_calls [] = count_more last [] ∙ ap (λ (b : Bool). cond b 1 0 + failed_calls []) is in omega (arith, one)
some_calls (t ∷ earlier) last is = omega (arith, count_more t (earlier ++ last ∷ []), some_calls earlier last is)

-- ---- the causes

module _ (piece : Piece) (retries : ℕ) (old new : Seen) (end : PieceEnd) (d e : Wire) (turn : TakesTurn piece retries old new end d e) where
  -- A piece that failed was tried.
  pub tried_by : (n : ℕ) (cause : PieceFault) → end ≡ Failed n cause → EndsBy retries turn.tries end
  tried_by n cause is = by old.complete turn.ends
    where
      by : (complete : Bool) → Ends retries complete turn.tries end → EndsBy retries turn.tries end
      by true none = absurd (let x : Done 0 ≡ Failed n cause = sym none.1 ∙ is in cc)
      by false ends = ends

  module _ (n : ℕ) (cause : PieceFault) (is : end ≡ Failed n cause) where
    abbrev by_tries : EndsBy retries turn.tries end
    by_tries = tried_by n cause is

    last_gave : NotTaking cause → (by_tries.last.gave ≡ Err cause) × (answer by_tries.last ≡ Err cause) × (n ≡ length by_tries.earlier + 1)
    last_gave never = gave_cause n (length by_tries.earlier + 1) cause by_tries.last.gave by_tries.last.kept (sym by_tries.end_is ∙ is) never

    of_url_each : All (λ (t : Try). OfAddress (address piece.url) t.gave) (by_tries.earlier ++ by_tries.last ∷ [])
    of_url_each = subst (All (λ (t : Try). OfAddress (address piece.url) t.gave)) by_tries.tries_are turn.address_is

    of_url_last : OfAddress (address piece.url) by_tries.last.gave
    of_url_last = All-head (λ (t : Try). OfAddress (address piece.url) t.gave) by_tries.last [] (all_parts (λ (t : Try). OfAddress (address piece.url) t.gave) by_tries.earlier (by_tries.last ∷ []) of_url_each).1

    all_used : NotTaking cause → IsTrue (is_retried cause) → n ≡ retries + 1
    all_used never retried =
        let gave = last_gave never in
        omega (arith, gave.2, by_tries.all_used (subst (λ (a : Result (Unit {0}) PieceFault). IsTrue (calls_for_another a)) (sym gave.1) retried))

    not_taking_url : IsTrue (is_url_fault cause) → NotTaking cause
    not_taking_url url taking = let x : of_url ≡ of_taking = sym (url_origin (origin cause) url) ∙ taking in cc

    url_cause : IsTrue (is_url_fault cause) → (address piece.url ≡ Err cause) × (n ≡ 1)
    url_cause url =
        let never = not_taking_url url in
        let gave = last_gave never in
        let from_url = url_origin (origin cause) url in
        let leads = leads_nowhere (address piece.url) cause by_tries.last.gave of_url_last gave.0 from_url in
        let none = first_last cause by_tries.earlier from_url
        (subst (λ (a : Result Address PieceFault). All (λ (t : Try). OfAddress a t.gave) by_tries.earlier) leads
        (all_parts (λ (t : Try). OfAddress (address piece.url) t.gave) by_tries.earlier (by_tries.last ∷ []) of_url_each).0) by_tries.retried in
        (leads, omega (arith, gave.2, ap length none))

    call_cause : IsTrue (is_call cause) → (n ≡ retries + 1) × Rose d.faults e.faults
    call_cause call =
        let o = call_retried (origin cause) call in
        let gave = last_gave o.1 in
        let some = some_calls by_tries.earlier by_tries.last (subst (λ (g : Result Fetched PieceFault). IsTrue (names_call g)) (sym gave.0) call) in
        (all_used o.1 o.0, omega (arith, turn.dialer.counted, some, ap failed_calls by_tries.tries_are))

    asked_last : IsTrue e.tells → Asks piece by_tries.last
    asked_last tells = All-head (Asks piece) by_tries.last []
        (all_parts (Asks piece) by_tries.earlier (by_tries.last ∷ []) (subst (All (Asks piece)) by_tries.tries_are (turn.tell tells).asked)).1

    -- the last try asked, and its cause is the verdict
    last_verdict : by_tries.last.gave ≡ Err cause → IsTrue (not (breaks (origin cause))) → NotTaking cause → origin cause ≢ of_url → origin cause ≢ of_asking
        → (a : Result Address PieceFault) → UrlFault a → OfAddress a by_tries.last.gave → AsksAt a piece.headers.items by_tries.last → IsLastVerdict cause turn.tries
    last_verdict gave whole taking url asking (Err fault) of_url_fault of asks = absurd (⊎_elim
        (λ e. url (ap origin (same_err cause fault (sym gave ∙ e)) ∙ of_url_fault))
        (λ e. taking (ap origin (same_err cause OutOfMemory (sym gave ∙ e)))) of)
    last_verdict gave whole taking url asking (Ok to) none of (inl asked) =
        let judged = asked.judged (subst (λ (g : Result Fetched PieceFault). IsTrue (is_judged g)) (sym gave) whole) in
        record {
          earlier = by_tries.earlier;
          last = by_tries.last;
          tries_are = by_tries.tries_are;
          talk = asked.talk;
          talked = asked.talks;
          verdict = judged.0;
          is = judged.1;
          end_is = judged.2 ∙ ap as_end gave;
        }
    last_verdict gave whole taking url asking (Ok to) none of (inr nothing) = absurd (⊎_elim
        (λ e. asking (ap origin (same_err cause Dial (sym gave ∙ e))))
        (λ r. ⊎_elim (λ e. asking (ap origin (same_err cause Send (sym gave ∙ e)))) (λ e. taking (ap origin (same_err cause OutOfMemory (sym gave ∙ e)))) r) nothing.why)

    reply_cause : IsTrue (is_cause cause) → (n ≡ retries + 1) × (IsTrue e.tells → IsLastVerdict cause turn.tries)
    reply_cause reply =
        let o = reply_retried (origin cause) reply in
        let gave = last_gave o.1 in
        (all_used o.1 o.0, λ tells. last_verdict gave.0 o.4 o.1 o.2 o.3 (address piece.url) (address_fault piece.url) of_url_last (asked_last tells))

    pub has_cause : HasCause piece retries turn.tries n cause d e
    has_cause = record { url = url_cause; call = call_cause; reply = reply_cause }

-- A piece whose URL leads nowhere fails for it with one try, unless the lane refuses or memory does.
pub bad_url : (piece : Piece) (retries : ℕ) (old new : Seen) (end : PieceEnd) (d e : Wire) → TakesTurn piece retries old new end d e → old.complete ≡ false → (fault : PieceFault) → address piece.url ≡ Err fault
    → (end ≡ Failed 1 fault) ⊎ ((cause : PieceFault) × (end ≡ Failed 1 cause) × (origin cause ≡ of_taking))
bad_url piece retries old new end d e turn part fault leads = by (subst (λ (c : Bool). Ends retries c turn.tries end) part turn.ends)
  where
    from_url : origin fault ≡ of_url
    from_url = subst UrlFault leads (address_fault piece.url)

    -- by what the last try gave
    ended : (gave : Result Fetched PieceFault) (kept : Result (Unit {0}) StoreFault) → (gave ≡ Err fault) ⊎ (gave ≡ Err OutOfMemory)
        → (end_of 1 (answer_of gave kept) ≡ Failed 1 fault) ⊎ ((cause : PieceFault) × (end_of 1 (answer_of gave kept) ≡ Failed 1 cause) × (origin cause ≡ of_taking))
    ended gave (Err stored) of = inr (of_store stored, refl, of_store_taking stored)
    ended gave (Ok done) (inr none) = inr (OutOfMemory, ap (λ (g : Result Fetched PieceFault). end_of 1 (answer_of g (Ok done))) none, refl)
    ended gave (Ok done) (inl is) = inl (ap (λ (g : Result Fetched PieceFault). end_of 1 (answer_of g (Ok done))) is ∙ ap (λ (f : PieceFault). Failed 1 f) (own fault from_url))
      where
        own : (f : PieceFault) → origin f ≡ of_url → unless_folder f ≡ f
        own (Folder call) url = absurd (cc)
        own f url = refl

    by : EndsBy retries turn.tries end → (end ≡ Failed 1 fault) ⊎ ((cause : PieceFault) × (end ≡ Failed 1 cause) × (origin cause ≡ of_taking))
    by ends =
        let each = all_parts (λ (t : Try). OfAddress (Err fault) t.gave) ends.earlier (ends.last ∷ [])
        (subst (All (λ (t : Try). OfAddress (Err fault) t.gave)) ends.tries_are (subst (λ (a : Result Address PieceFault). All (λ (t : Try). OfAddress a t.gave) turn.tries) leads turn.address_is)) in
        let none = first_last fault ends.earlier from_url each.0 ends.retried in
        let one : length ends.earlier + 1 ≡ 1 = omega (arith, ap length none) in
        let is : end ≡ end_of 1 (answer ends.last) = ends.end_is ∙ ap (λ (n : ℕ). end_of n (answer ends.last)) one in
        subst (λ (x : PieceEnd). (x ≡ Failed 1 fault) ⊎ ((cause : PieceFault) × (x ≡ Failed 1 cause) × (origin cause ≡ of_taking))) (sym is)
        (ended ends.last.gave ends.last.kept (All-head (λ (t : Try). OfAddress (Err fault) t.gave) ends.last [] each.1))
