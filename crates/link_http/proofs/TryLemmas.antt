-- From the calls of a try to what the try does.
use Rattle.std.proofs.Common.{◌≡◌, ◌≢◌, length, ℕ, List, [], ◌∷◌, ◌++◌, ◌⊎◌, refl, sym, ap, ◌∙◌, subst, arith, append-nil, inl, inr, true, false, not, Result, Ok, Err, Option, Some, None}
use Rattle.std.specs.Prelude.{IsTrue, IsFalse, IsOk, IsErrOf, IfErr, IfSome, All, map, ⊤}
use Rattle.std.specs.Option.{option_or}
use Rattle.std.proofs.lemmas.Bool.{cases_Bool}
use Rattle.std.proofs.lemmas.List.Elements.{All-nil, All-cons, All-head}
use Rattle.text_base.specs.Causes.{Rose}
use Rattle.text_base.specs.declared.faults.FolderFault.{FolderFault}
use Rattle.text_base.specs.declared.faults.FolderFault.TheVariants as memory
use Rattle.text_base.specs.declared.faults.FolderCall.{FolderCall}
use Rattle.folder_base.specs.declared.store_fault.StoreFault.{StoreFault}
use Rattle.http_reply.specs.declared.piece_fault.PieceFault.{PieceFault}
use Rattle.http_reply.specs.declared.piece_fault.PieceFault.TheVariants.{Dial, Send, Recv, Status, CutShort, BadHead, HeadLong, NoLength, BadRange, SizeChanged, Encoded, Url, Scheme, Folder, OutOfMemory, PieceLong}
use Rattle.http_reply.specs.Faults.{of_asking, of_taking, of_url, origin, is_broken, is_call, is_after_request}
use Rattle.http_reply.specs.Verdict.{Verdict, IsVerdict}
use Rattle.http_reply.specs.Truth.{IsHonest}
use Rattle.http_reply.proofs.HonestLemmas.{honest_verdict}
use Rattle.link_http.specs.declared.header.Header.{Header}
use Rattle.link_http.specs.declared.fetched.Fetched.{Fetched}
use Rattle.link_http.specs.Request.{Address, Place, request}
use Rattle.link_http.specs.Wire.{Wire, Counts, Dials, AsksNothing, IsServed, left}
use Rattle.link_http.specs.Sending.{Asked}
use Rattle.folder_base.specs.declared.store_fault.StoreFault.TheVariants as store
use Rattle.folder_base.specs.Took.{RefusesOnlyMemory}
use Rattle.link_http.specs.Taking.{names_call, of_store, Broke, Keeps, Follows}
use Rattle.link_http.specs.Try.{DialsOnce, Asks, Answers, Tries, Talks, DialsAndTalks, Fetches, OfAddress, IsThere}
use Rattle.link_http.proofs.FollowLemmas.{nothing_taken}

err_addr : (a b : PieceFault) → ◌≡◌ {A = Result Address PieceFault} (Err a) (Err b) → a ≡ b
err_addr a b e = cc

true_false : true ≡ false → ⊥
true_false e = absurd (cc)

-- ---- faults

pub after_origin : (fault : PieceFault) → IsTrue (is_after_request fault) → origin fault ≢ of_url
after_origin Dial after is = absurd (cc)
after_origin Send after is = absurd (cc)
after_origin Recv after is = absurd (cc)
after_origin (Folder c) after is = absurd (cc)
after_origin OutOfMemory after is = absurd (cc)
after_origin Url after is = absurd (cc)
after_origin Scheme after is = absurd (cc)
after_origin (Status code) after is = absurd (cc)
after_origin (CutShort got told) after is = absurd (cc)
after_origin (BadHead at) after is = absurd (cc)
after_origin HeadLong after is = absurd (cc)
after_origin NoLength after is = absurd (cc)
after_origin (BadRange asked told) after is = absurd (cc)
after_origin (SizeChanged before now) after is = absurd (cc)
after_origin Encoded after is = absurd (cc)
after_origin (PieceLong told) after is = absurd (cc)

not_after : (fault other : PieceFault) → IsTrue (is_after_request fault) → is_after_request other ≡ false → fault ≢ other
not_after fault other after never is = true_false (sym after ∙ ap (λ (f : PieceFault). is_after_request f) is ∙ never)

not_folder : (fault : PieceFault) → IsFalse (is_broken fault) → (call : FolderCall) → fault ≢ Folder call
not_folder fault whole call is = true_false (sym (ap (λ (f : PieceFault). is_broken f) is) ∙ whole)

abbrev pub IsAsking : PieceFault → Type 0
IsAsking fault = (fault ≡ Send) ⊎ (fault ≡ OutOfMemory)

pub asking_folder : (fault : PieceFault) → IsAsking fault → (call : FolderCall) → fault ≢ Folder call
asking_folder fault (inl send) call is = absurd (cc)
asking_folder fault (inr memory) call is = absurd (cc)

pub asking_origin : (fault : PieceFault) → IsAsking fault → origin fault ≢ of_url
asking_origin fault (inl send) is = let e : of_asking ≡ of_url = sym (ap (λ (f : PieceFault). origin f) send) ∙ is in absurd (cc)
asking_origin fault (inr memory) is = let e : of_taking ≡ of_url = sym (ap (λ (f : PieceFault). origin f) memory) ∙ is in absurd (cc)

-- ---- the dial

pub dials_talked : (r : Result ⊤ FolderFault) (host : List ℕ) (port : ℕ) (old now new : Wire) (replies : List (List ℕ)) → IsOk r → Dials host port old now r → new.dials ≡ now.dials
    → DialsOnce (record { host = host; port = port }) replies old new
dials_talked r host port old now new replies ok dials same = elim dials.dials [
  | inl one ↦ inl (same ∙ one)
  | inr none ↦ let no_ : IsOk {T = ⊤} {E = FolderFault} (Err memory.OutOfMemory) = subst (λ (x : Result ⊤ FolderFault). IsOk x) none.0 ok in absurd (true_false (sym no_))
]

pub dials_ended : (r : Result ⊤ FolderFault) (host : List ℕ) (port : ℕ) (old new : Wire) → Dials host port old new r
    → DialsOnce (record { host = host; port = port }) [] old new
dials_ended r host port old new dials = elim dials.dials [ inl one ↦ inl one | inr none ↦ inr (refl, none.1) ]

pub known_same : (known : Option ℕ) → IfSome known (λ total. known ≡ Some total)
known_same None = tt
known_same (Some n) = refl

-- ---- what was asked

pub asks_none : (place : Place) (dial : ℕ) (text : List ℕ) (old new : Wire) → new.world ≡ old.world → new.talks ≡ old.talks → Asks place dial text old new []
asks_none place dial text old new world talks = record {
  world = world;
  talks = talks ∙ sym (append-nil old.talks);
  once = inl refl;
  served = λ serves. All-nil (IsServed old.world place text);
}

pub asks_one : (place : Place) (dial : ℕ) (text : List ℕ) (old now new : Wire) → Asked place dial text old now → AsksNothing now new → Asks place dial text old new (left now ∷ [])
asks_one place dial text old now new asked nothing = record {
  world = nothing.world ∙ asked.world;
  talks = nothing.talks ∙ asked.talks;
  once = inr (left now, refl);
  served = λ serves. All-cons (IsServed old.world place text) (left now) [] (asked.served serves) (All-nil (IsServed old.world place text));
}

pub asks_then : (place : Place) (dial : ℕ) (text : List ℕ) (old now new : Wire) (replies : List (List ℕ)) → Asks place dial text old now replies → AsksNothing now new
    → Asks place dial text old new replies
asks_then place dial text old now new replies asks nothing = record {
  world = nothing.world ∙ asks.world;
  talks = nothing.talks ∙ asks.talks;
  once = asks.once;
  served = asks.served;
}

-- Nothing was asked before.
pub asks_first : (place : Place) (dial : ℕ) (text : List ℕ) (old now new : Wire) (replies : List (List ℕ)) → now.world ≡ old.world → now.talks ≡ old.talks
    → (IsTrue old.serves → IsTrue now.serves) → Asks place dial text now new replies → Asks place dial text old new replies
asks_first place dial text old now new replies world talks serves asks = record {
  world = asks.world ∙ world;
  talks = asks.talks ∙ ap (λ t. t ++ map (λ reply. record { place = place; dial = dial; request = text; reply = reply }) replies) talks;
  once = asks.once;
  served = λ s. subst (λ w. All (IsServed w place text) replies) world (asks.served (serves s));
}

module _ {T : Type 0} (took : T → List ℕ → T → Type 0) (may_refuse : T → List ℕ → StoreFault → Type 0) where
  -- ---- what was put

  pub keeps_asking : ((s : T) → took s [] s) → (fault : PieceFault) (t : T) → IsAsking fault → Broke took may_refuse fault t t
  keeps_asking none fault t asking = nothing_taken took may_refuse none fault t (asking_folder fault asking)

  keeps_whole : ((s : T) → took s [] s) → (fault : PieceFault) (t u : T) (bytes : List ℕ) → took t bytes u → IsFalse (is_broken fault) → Broke took may_refuse fault t u
  keeps_whole none fault t u bytes taken_ whole = record {
    bytes = bytes;
    between = u;
    piece = [];
    taken = taken_;
    some = record { count = 0; within = omega arith; front = none u };
    why = inl (refl, not_folder fault whole);
  }

  pub keeps_after : ((s : T) → took s [] s) → (tells : Type 0) (from : ℕ) (known known' : Option ℕ) (reply : List ℕ) (result : Result Fetched PieceFault) (t u : T)
      → Follows took may_refuse tells from known reply result t known' u → Keeps took may_refuse result t u
  keeps_after none tells from known known' reply (Ok fetched) t u follows = let j = follows.judged refl in (j.0, j.1)
  keeps_after none tells from known known' reply (Err fault) t u follows =
      elim (cases_Bool (is_broken fault)) [
        | inl broken ↦ (follows.broken fault refl broken).0
        | inr whole ↦ let j = follows.judged (ap not whole) in keeps_whole none fault t u j.0 j.1 whole
      ]

  -- ---- the try

  answers_by : (from : ℕ) (known known' : Option ℕ) (reply : List ℕ) (end : Result ℕ PieceFault) (t u : T) (bytes : List ℕ) → took t bytes u
      → (verdict : Verdict) × IsVerdict from known reply verdict × (verdict.bytes ≡ bytes) × (verdict.end ≡ end) × (known' ≡ option_or known verdict.told)
      → Answers took may_refuse from known reply end t known' u
  answers_by from known known' reply end t u bytes taken_ v = record {
    verdict = v.0;
    is = v.1;
    end_is = sym v.3;
    taken = subst (λ (b : List ℕ). took t b u) (sym v.2) taken_;
    known_is = v.4;
  }

  pub tries_after : (from : ℕ) (known known' : Option ℕ) (reply : List ℕ) (result : Result Fetched PieceFault) (t u : T) (tells : Type 0) → tells
      → IfErr result (λ fault. IsTrue (is_after_request fault))
      → Follows took may_refuse tells from known reply result t known' u → Tries took may_refuse from known (reply ∷ []) result t known' u
  tries_after from known known' reply (Ok fetched) t u tells now after follows =
      let j = follows.judged refl in answers_by from known known' reply (Ok fetched.total) t u j.0 j.1 (j.2 now)
  tries_after from known known' reply (Err fault) t u tells now after follows = (
    not_after fault Dial after refl,
    not_after fault Send after refl,
    λ whole. let j = follows.judged (ap not whole) in answers_by from known known' reply (Err fault) t u j.0 j.1 (j.2 now),
    λ broken.
        let b = follows.broken fault refl broken in
        record { broke = b.0; front = λ v is. (b.1 now v is).0; known_is = λ v is. (b.1 now v is).1 },
  )

  pub keeps_dial : ((s : T) → took s [] s) → (t : T) → Broke took may_refuse Dial t t
  keeps_dial none t = nothing_taken took may_refuse none Dial t (λ call e. absurd (cc))

  pub keeps_url : ((s : T) → took s [] s) → (fault : PieceFault) (t : T) → origin fault ≡ of_url → Broke took may_refuse fault t t
  keeps_url none fault t is =
      nothing_taken took may_refuse none fault t (λ call e. let no_ : of_taking ≡ of_url = sym (ap (λ (f : PieceFault). origin f) e) ∙ is in absurd (cc))

  pub keeps_refused : {A : Type 0} → ((s : T) → took s [] s) → (fault : PieceFault) (t : T) → (fault ≡ OutOfMemory) ⊎ ((fault ≡ Url) × A) → Broke took may_refuse fault t t
  keeps_refused none fault t (inl out) = keeps_asking none fault t (inr out)
  keeps_refused none fault t (inr is) = keeps_url none fault t (ap (λ (f : PieceFault). origin f) is.0)

  -- ---- a try that ends before the dial

  abbrev pub IsEarly : Result Address PieceFault → PieceFault → Type 0
  IsEarly leads fault = (fault ≡ OutOfMemory) ⊎ (leads ≡ Err fault)

  pub early_fetches : ((s : T) → took s [] s) → (leads : Result Address PieceFault) (fault : PieceFault) (headers : List Header) (from : ℕ) (wire : Wire) (known : Option ℕ) (t : T)
      → IsEarly leads fault → Fetches took may_refuse leads headers from wire known (Err fault) t wire known t
  early_fetches none (Err cause) fault headers from wire known t (inl memory) = (inr (ap Err memory), record { world = refl; dials = refl; talks = refl }, none t, refl)
  early_fetches none (Err cause) fault headers from wire known t (inr is) = (inl (ap Err (sym (err_addr cause fault is))), record { world = refl; dials = refl; talks = refl }, none t, refl)
  early_fetches none (Ok to) fault headers from wire known t (inl memory) = (
    ([], asks_none to.place (length wire.dials) (request to headers from) wire wire refl refl, (inr (inr memory), none t, refl)),
    inr (refl, refl),
  )
  early_fetches none (Ok to) fault headers from wire known t (inr is) = absurd (cc)

  pub fetches_by : (leads : Result Address PieceFault) (to : Address) (text : List ℕ) (headers : List Header) (from : ℕ) (old new : Wire) (known known' : Option ℕ)
      (result : Result Fetched PieceFault) (t u : T) → leads ≡ Ok to → text ≡ request to headers from
      → DialsAndTalks took may_refuse to.place text from old known result t new known' u
      → Fetches took may_refuse leads headers from old known result t new known' u
  fetches_by leads to text headers from old new known known' result t u is same talked =
      subst (λ (l : Result Address PieceFault). Fetches took may_refuse l headers from old known result t new known' u) (sym is)
      (subst (λ (x : List ℕ). DialsAndTalks took may_refuse to.place x from old known result t new known' u) same talked)

  pub fetches_then : (leads : Result Address PieceFault) (result : Result Fetched PieceFault) (headers : List Header) (from : ℕ) (old now new : Wire) (known known' : Option ℕ) (t u : T)
      → AsksNothing now new → Fetches took may_refuse leads headers from old known result t now known' u → Fetches took may_refuse leads headers from old known result t new known' u
  fetches_then (Err cause) result headers from old now new known known' t u nothing f =
      (f.0, record { world = nothing.world ∙ f.1.world; dials = nothing.dials ∙ f.1.dials; talks = nothing.talks ∙ f.1.talks }, f.2, f.3)
  fetches_then (Ok to) result headers from old now new known known' t u nothing f = (
    (f.0.0, asks_then to.place (length old.dials) (request to headers from) old now new f.0.0 f.0.1 nothing, f.0.2),
    elim f.1 [ inl one ↦ inl (nothing.dials ∙ one) | inr none ↦ inr (none.0, nothing.dials ∙ none.1) ],
  )

pub early_address : (leads : Result Address PieceFault) (fault : PieceFault) → (fault ≡ OutOfMemory) ⊎ (leads ≡ Err fault) → OfAddress leads (Err fault)
early_address (Err cause) fault (inl memory) = inr (ap Err memory)
early_address (Err cause) fault (inr is) = inl (ap Err (sym (err_addr cause fault is)))
early_address (Ok to) fault (inl memory) = (λ e. absurd (cc), λ e. absurd (cc))
early_address (Ok to) fault (inr is) = absurd (cc)

-- ---- a resource that is there

broken_by : (fault : PieceFault) → is_broken fault ≡ true
    → IsTrue (is_call fault) ⊎ ((fault ≡ OutOfMemory) ⊎ ((call : FolderCall) × (fault ≡ Folder call)))
broken_by Dial broken = inl refl
broken_by Send broken = inl refl
broken_by Recv broken = inl refl
broken_by (Folder call) broken = inr (inr (call, refl))
broken_by OutOfMemory broken = inr (inl refl)
broken_by Url broken = absurd (cc)
broken_by Scheme broken = absurd (cc)
broken_by (Status code) broken = absurd (cc)
broken_by (CutShort got told) broken = absurd (cc)
broken_by (BadHead at) broken = absurd (cc)
broken_by HeadLong broken = absurd (cc)
broken_by NoLength broken = absurd (cc)
broken_by (BadRange asked told) broken = absurd (cc)
broken_by (SizeChanged before now) broken = absurd (cc)
broken_by Encoded broken = absurd (cc)
broken_by (PieceLong told) broken = absurd (cc)

asking_broken : (fault : PieceFault) → (fault ≡ Dial) ⊎ ((fault ≡ Send) ⊎ (fault ≡ OutOfMemory)) → is_broken fault ≡ true
asking_broken fault (inl e) = ap (λ (f : PieceFault). is_broken f) e
asking_broken fault (inr (inl e)) = ap (λ (f : PieceFault). is_broken f) e
asking_broken fault (inr (inr e)) = ap (λ (f : PieceFault). is_broken f) e

ok_same : (a b : ℕ) → ◌≡◌ {A = Result ℕ PieceFault} (Ok a) (Ok b) → a ≡ b
ok_same a b e = cc

err_ok : (fault : PieceFault) (n : ℕ) → ◌≡◌ {A = Result ℕ PieceFault} (Err fault) (Ok n) → ⊥
err_ok fault n e = absurd (cc)

-- the reply to a request for a resource that is there gives its total
total_there : (old new : Wire) (url : List ℕ) (to : Address) (headers : List Header) (from : ℕ) (known : Option ℕ) (bytes reply : List ℕ) (replies : List (List ℕ)) (v : Verdict)
    → IsThere old url to from known bytes → Asks to.place (length old.dials) (request to headers from) old new (reply ∷ replies) → IsVerdict from known reply v
    → v.end ≡ Ok (length bytes)
total_there old new url to headers from known bytes reply replies v there asks is =
    let served = All-head (IsServed old.world to.place (request to headers from)) reply replies (asks.served there.serves) in
    let honest : IsHonest bytes from reply = served url to.target headers from bytes there.leads refl there.there there.within in
    ap (λ (x : Verdict). x.end) (honest_verdict bytes from known reply v honest there.fits there.within there.known_is is)

module _ {T : Type 0} (took : T → List ℕ → T → Type 0) (may_refuse : T → List ℕ → StoreFault → Type 0) where
  -- no call failed, so the reply was heard
  unbroken : (result : Result Fetched PieceFault) (fault : PieceFault) (old new : Wire) (t u : T) → result ≡ Err fault
      → Counts old new (names_call result) → Broke took may_refuse fault t u → IsTrue old.steady
      → RefusesOnlyMemory took may_refuse t → result ≢ Err OutOfMemory → is_broken fault ≡ true → ⊥
  unbroken result fault old new t u is counts broke steady never memory broken =
      elim (broken_by fault broken) [
        | inl call ↦ true_false (sym call ∙ sym (ap (λ (r : Result Fetched PieceFault). names_call r) is) ∙ counts.no_fault steady)
        | inr (inl out) ↦ memory (is ∙ ap Err out)
        | inr (inr folder) ↦ elim broke.why [
          | inl why ↦ why.1 folder.0 folder.1
          | inr why ↦
              let only : why.0 ≡ store.OutOfMemory = never broke.bytes broke.between broke.taken broke.piece why.0 why.2 in
              let out : fault ≡ OutOfMemory = why.1 ∙ ap of_store only in
              memory (is ∙ ap Err out)
        ]
      ]

  by_replies : (to : Address) (url : List ℕ) (headers : List Header) (from : ℕ) (old new : Wire) (known known' : Option ℕ) (result : Result Fetched PieceFault)
      (t u : T) (bytes : List ℕ) (replies : List (List ℕ))
      → Counts old new (names_call result) → Keeps took may_refuse result t u
      → Asks to.place (length old.dials) (request to headers from) old new replies → Tries took may_refuse from known replies result t known' u
      → IsThere old url to from known bytes → RefusesOnlyMemory took may_refuse t → result ≢ Err OutOfMemory → result ≡ Ok (record { total = length bytes })
  by_replies to url headers from old new known known' (Ok fetched) t u bytes [] counts kept asks tries there never memory = absurd tries
  by_replies to url headers from old new known known' (Ok fetched) t u bytes (reply ∷ replies) counts kept asks tries there never memory =
      let total = ok_same fetched.total (length bytes) (tries.end_is ∙ total_there old new url to headers from known bytes reply replies tries.verdict there asks tries.is) in
      ap (λ (n : ℕ). let r : Result Fetched PieceFault = Ok (record { total = n }) in r) total
  by_replies to url headers from old new known known' (Err fault) t u bytes [] counts kept asks tries there never memory =
      absurd (unbroken (Err fault) fault old new t u refl counts kept there.steady never memory (asking_broken fault tries.0))
  by_replies to url headers from old new known known' (Err fault) t u bytes (reply ∷ replies) counts kept asks tries there never memory =
      elim (cases_Bool (is_broken fault)) [
        | inl broken ↦ absurd (unbroken (Err fault) fault old new t u refl counts kept there.steady never memory broken)
        | inr whole ↦
            let answers = tries.2 whole in
            absurd (err_ok fault (length bytes) (answers.end_is ∙ total_there old new url to headers from known bytes reply replies answers.verdict there asks answers.is))
      ]

  pub complete : (leads : Result Address PieceFault) (url : List ℕ) (to : Address) (headers : List Header) (from : ℕ) (old new : Wire) (known known' : Option ℕ)
      (result : Result Fetched PieceFault) (t u : T) (bytes : List ℕ) → leads ≡ Ok to
      → Counts old new (names_call result) → Keeps took may_refuse result t u
      → Fetches took may_refuse leads headers from old known result t new known' u
      → IsThere old url to from known bytes → RefusesOnlyMemory took may_refuse t → result ≢ Err OutOfMemory → result ≡ Ok (record { total = length bytes })
  complete leads url to headers from old new known known' result t u bytes is counts kept fetches there never memory =
      let talked = (subst (λ (l : Result Address PieceFault). Fetches took may_refuse l headers from old known result t new known' u) is fetches).0 in
      by_replies to url headers from old new known known' result t u bytes talked.0 counts kept talked.1 talked.2 there never memory
