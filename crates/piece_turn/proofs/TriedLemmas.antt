-- One try, from what the calls of the lane and the dialer did to what the try is.
use Rattle.std.proofs.Common.{◌≡◌, ◌≢◌, ◌⊎◌, inl, inr, ⊎_elim, ℕ, ◌+◌, Bool, true, false, not, List, [], ◌∷◌, ◌++◌, length, take, refl, sym, ◌∙◌, ap, subst}
use Rattle.std.specs.Prelude.{Option, Some, None, IsTrue, IsFalse, Result, Ok, Err, OnOk, All, option_map, unwrap_or, nat_le, bytes_eq, codes, if◌then◌else◌}
use Rattle.std.specs.Option.{option_or}
use Rattle.std.proofs.lemmas.List.{append-nil}
use Rattle.std.proofs.lemmas.List.Elements.{All-head}
use Rattle.folder_base.specs.Disk.{Bytes}
use Rattle.folder_base.specs.Took.{RefusesOnlyMemory}
use Rattle.folder_base.specs.declared.store_fault.StoreFault.{StoreFault}
use Rattle.http_reply.specs.Truth.{IsTruthful}
use Rattle.http_reply.specs.Verdict.{Verdict, IsVerdict}
use Rattle.http_reply.specs.Faults.{is_broken, origin, of_url}
use Rattle.http_reply.specs.declared.piece_fault.PieceFault.{PieceFault}
use Rattle.http_reply.specs.declared.piece_fault.PieceFault.TheVariants.{Dial, Send, CutShort, OutOfMemory, Url, Scheme}
use Rattle.http_reply.proofs.VerdictLemmas.{verdict_unique}
use Rattle.link_http.specs.declared.fetched.Fetched.{Fetched}
use Rattle.link_http.specs.declared.piece.Piece.{Piece}
use Rattle.url.specs.Parts.{Parts, nonempty_host}
use Rattle.url.specs.Parser.{Parsed, parse_url}
use Rattle.url.specs.Host.{host_text}
use Rattle.link_http.specs.Request.{Address, Place, address, address_at, address_of, to_target, request}
use Rattle.link_http.specs.Taking.{Keeps, names_call, is_judged, as_end}
use Rattle.link_http.specs.Try.{Tries, Fetches, DialsOnce, OfAddress, IsThere, IsPaired, Asks as AsksFor}
use Rattle.link_http.specs.Wire.{Wire, Talk, Counts, AsksNothing}
use Rattle.keep_store.specs.Promise.{AreFirst}
use Rattle.keep_store.specs.Lane.{Seen, Took, MayAnswer}
use Rattle.keep_store.specs.TookLaws.{took_both, refuses_only_memory}
use Rattle.piece_turn.specs.Try.{Try, AsksAt, AreTruthful}
use Rattle.piece_turn.specs.Step.{TellsTry, GaveTruth, Tried, EndsTry}
use Rattle.piece_turn.proofs.CutLemmas.{cut_place}
use Rattle.piece_turn.proofs.TruthLemmas.{gave_none, gave_truth}

-- ---- the faults of a URL

abbrev pub IsOfUrl : PieceFault → Type 0
IsOfUrl fault = origin fault ≡ of_url

abbrev pub UrlFault : Result Address PieceFault → Type 0
UrlFault (Ok to) = Unit {0}
UrlFault (Err fault) = IsOfUrl fault

url_not_cut : (got : ℕ) (told : Option ℕ) → IsOfUrl (CutShort got told) → ⊥
url_not_cut got told is = cc

if_url : (b : Bool) (x y : Result Address PieceFault) → UrlFault x → UrlFault y → UrlFault (if b then x else y)
if_url true x y one two = one
if_url false x y one two = two

at_url : (url : Parts) (host : Option (List ℕ)) → UrlFault (address_at url host)
at_url url None = refl
at_url url (Some host) = if_url (not (bytes_eq url.scheme (codes "http"))) (Err Scheme) (Ok (to_target host (unwrap_or url.port 80) url)) refl tt

of_parsed : (parsed : Parsed Parts) → UrlFault (address_of parsed)
of_parsed (Err e) = refl
of_parsed (Ok url) = at_url url (option_map host_text (nonempty_host url))

-- Where a URL leads nowhere the fault is the URL's.
pub address_fault : (url : List ℕ) → UrlFault (address url)
unfolding address
address_fault url = if_url (nat_le (length url) 268435456) (address_of (parse_url None url)) (Err Url) (of_parsed (parse_url None url)) refl

-- What was put, whatever the answer, is one run of puts.
pub kept_took : {T : Type 0} (seen : T → Seen) (may_refuse : T → List ℕ → StoreFault → Type 0) (gave : Result Fetched PieceFault) (t u : T)
    → Keeps (λ a bytes b. Took (seen a) bytes (seen b)) may_refuse gave t u → (bytes : Bytes) × Took (seen t) bytes (seen u)
kept_took seen may_refuse (Ok fetched) t u kept = kept
kept_took seen may_refuse (Err fault) t u broke =
    (broke.bytes ++ take broke.some.count broke.piece, took_both (seen t) (seen broke.between) (seen u) broke.bytes (take broke.some.count broke.piece) broke.taken broke.some.front)

module _ {T : Type 0} (seen : T → Seen) (piece : Piece) (d e : Wire) (from : ℕ) (known known' : Option ℕ) (gave : Result Fetched PieceFault) (kept : Result (Unit {0}) StoreFault) (t u : T) where
  abbrev took : T → List ℕ → T → Type 0
  took = λ old bytes new. Took (seen old) bytes (seen new)

  abbrev may : T → List ℕ → StoreFault → Type 0
  may = λ lane bytes fault. MayAnswer (seen lane) fault

  -- the try, with what was dialed and asked
  abbrev pub the_try : List Place → List Talk → Try
  the_try dials talks = record { from = from; known = known; dials = dials; talks = talks; gave = gave; kept = kept }

  -- the request that it asks, with this reply
  abbrev the_talk : Address → List ℕ → Talk
  the_talk to reply = record { place = to.place; dial = length d.dials; request = request to piece.headers.items from; reply = reply }

  -- What a dialer that tells tells of it.
  pub record Told (tr : Try) : Type 0 where
    pub tell : TellsTry piece tr d e known'
    pub truth : (all : Option Bytes) (had : Bytes) → AreTruthful all (tr ∷ []) → length had ≡ from → AreFirst all had → GaveTruth all had gave (seen t) (seen u)
    pub judged : IsTrue (is_judged gave) → (talk : Talk) (verdict : Verdict) → tr.talks ≡ talk ∷ [] → IsVerdict from known talk.reply verdict → Took (seen t) verdict.bytes (seen u)
    pub cut : (got : ℕ) (told : Option ℕ) → gave ≡ Err (CutShort got told) → (bytes : Bytes) × Took (seen t) bytes (seen u) × (got ≡ from + length bytes)

  abbrev Telling : Type 0
  Telling = (dials : List Place) × (talks : List Talk) × Told (the_try dials talks)

  no_ok : {fault : PieceFault} → gave ≡ Err fault → OnOk gave ⊥
  no_ok is = subst (λ (r : Result Fetched PieceFault). OnOk r ⊥) (sym is) tt

  not_cut : (fault : PieceFault) (got : ℕ) (told : Option ℕ) → gave ≡ Err fault → fault ≢ CutShort got told → gave ≢ Err (CutShort got told)
  not_cut fault got told is never e = never (same_fault fault (CutShort got told) (sym is ∙ e))
    where
      same_fault : (a b : PieceFault) → ◌≡◌ {A = Result Fetched PieceFault} (Err a) (Err b) → a ≡ b
      same_fault a b e = cc

  -- what the reply says of the answer, where no call failed
  answers : (reply : List ℕ) (others : List (List ℕ)) → Tries took may from known (reply ∷ others) gave t known' u → IsTrue (is_judged gave)
      → (verdict : Verdict) × IsVerdict from known reply verdict × (verdict.end ≡ as_end gave) × took t verdict.bytes u × (known' ≡ option_or known verdict.told)
  answers reply others tries judged = by gave tries judged
    where
      by : (g : Result Fetched PieceFault) → Tries took may from known (reply ∷ others) g t known' u → IsTrue (is_judged g)
          → (verdict : Verdict) × IsVerdict from known reply verdict × (verdict.end ≡ as_end g) × took t verdict.bytes u × (known' ≡ option_or known verdict.told)
      by (Ok fetched) a j = (a.verdict, a.is, sym a.end_is, a.taken, a.known_is)
      by (Err fault) tries j = let a = tries.2 (so (is_broken fault) j) in (a.verdict, a.is, sym a.end_is, a.taken, a.known_is)
        where
          so : (b : Bool) → IsTrue (not b) → IsFalse b
          so true h = absurd (cc)
          so false h = refl

  learnt : (reply : List ℕ) (others : List (List ℕ)) → Tries took may from known (reply ∷ others) gave t known' u
      → (verdict : Verdict) → IsVerdict from known reply verdict → (known' ≡ known) ⊎ (known' ≡ option_or known verdict.told)
  learnt reply others tries verdict is = by gave tries
    where
      by : (g : Result Fetched PieceFault) → Tries took may from known (reply ∷ others) g t known' u → (known' ≡ known) ⊎ (known' ≡ option_or known verdict.told)
      by (Ok fetched) a = inr (a.known_is ∙ ap (λ (v : Verdict). option_or known v.told) (verdict_unique from known reply a.verdict verdict a.is is))
      by (Err fault) tries = two (is_broken fault) refl
        where
          two : (b : Bool) → is_broken fault ≡ b → (known' ≡ known) ⊎ (known' ≡ option_or known verdict.told)
          two false whole = let a = tries.2 whole in inr (a.known_is ∙ ap (λ (v : Verdict). option_or known v.told) (verdict_unique from known reply a.verdict verdict a.is is))
          two true broken = (tries.3 broken).known_is verdict is

  -- where the URL leads nowhere
  told_nowhere : (IsPaired d → IsPaired e) → (fault : PieceFault) → address piece.url ≡ Err fault → ((gave ≡ Err fault) ⊎ (gave ≡ Err OutOfMemory)) → AsksNothing d e → took t [] u → known' ≡ known → Telling
  told_nowhere paired fault leads why nothing none same = (
    [],
    [],
    record {
      tell = record {
        world = nothing.world;
        dials = nothing.dials ∙ sym (append-nil d.dials);
        talks = nothing.talks ∙ sym (append-nil d.talks);
        paired = paired;
        asked = subst (λ (a : Result Address PieceFault). AsksAt a piece.headers.items (the_try [] [])) (sym leads) (refl, refl);
        knows = record {
          unasked = λ e. same;
          judged = λ j talk verdict one is. absurd (let x : ◌≡◌ {A = List Talk} [] (talk ∷ []) = one in cc);
          asked = λ talk verdict one is. absurd (let x : ◌≡◌ {A = List Talk} [] (talk ∷ []) = one in cc);
        };
      };
      truth = λ all had truthful len first. gave_none seen may all had first known t known' u gave (⊎_elim no_ok no_ok why) none;
      judged = λ j talk verdict one is. absurd (let x : ◌≡◌ {A = List Talk} [] (talk ∷ []) = one in cc);
      cut = λ got told e. absurd (⊎_elim
          (λ is. not_cut fault got told is (λ cut. url_not_cut got told (subst IsOfUrl cut (subst UrlFault leads (address_fault piece.url)))) e)
          (λ is. not_cut OutOfMemory got told is (λ f. absurd (cc)) e) why);
    },
  )

  -- where a place is dialed
  told_asked : (IsPaired d → IsPaired e) → (to : Address) → address piece.url ≡ Ok to → (replies : List (List ℕ))
      → AsksFor to.place (length d.dials) (request to piece.headers.items from) d e replies → Tries took may from known replies gave t known' u → DialsOnce to.place replies d e → Telling
  told_asked paired to leads [] asks tries dials = ⊎_elim (λ one. with (to.place ∷ []) one (inr refl)) (λ none. with [] (none.1 ∙ sym (append-nil d.dials)) (inl refl)) dials
    where
      why : (g : Result Fetched PieceFault) → Tries took may from known [] g t known' u → ((g ≡ Err Dial) ⊎ ((g ≡ Err Send) ⊎ (g ≡ Err OutOfMemory))) × took t [] u × (known' ≡ known)
      why (Ok fetched) h = absurd h
      why (Err fault) h = (⊎_elim (λ e. inl (ap (λ (f : PieceFault). Err f) e)) (λ r. inr (⊎_elim (λ e. inl (ap (λ (f : PieceFault). Err f) e)) (λ e. inr (ap (λ (f : PieceFault). Err f) e)) r)) h.0, h.1, h.2)

      with : (places : List Place) → e.dials ≡ d.dials ++ places → (places ≡ []) ⊎ (places ≡ to.place ∷ []) → Telling
      with places is which = (
        places,
        [],
        record {
          tell = record {
            world = asks.world;
            dials = is;
            talks = asks.talks;
            paired = paired;
            asked = subst (λ (a : Result Address PieceFault). AsksAt a piece.headers.items (the_try places [])) (sym leads)
                (inr (record { talks = refl; dials = which; why = (why gave tries).0 }));
            knows = record {
              unasked = λ e. (why gave tries).2;
              judged = λ j talk verdict one is. absurd (let x : ◌≡◌ {A = List Talk} [] (talk ∷ []) = one in cc);
              asked = λ talk verdict one is. absurd (let x : ◌≡◌ {A = List Talk} [] (talk ∷ []) = one in cc);
            };
          };
          truth = λ all had truthful len first. gave_truth seen may all had first known t known' u [] gave (λ reply others e. absurd (cc))
              (subst (λ (n : ℕ). Tries took may n known [] gave t known' u) (sym len) tries);
          judged = λ j talk verdict one is. absurd (let x : ◌≡◌ {A = List Talk} [] (talk ∷ []) = one in cc);
          cut = λ got told e. absurd (⊎_elim (λ is. not_cut Dial got told is (λ f. absurd (cc)) e)
              (λ r. ⊎_elim (λ is. not_cut Send got told is (λ f. absurd (cc)) e) (λ is. not_cut OutOfMemory got told is (λ f. absurd (cc)) e) r) (why gave tries).0);
        },
      )
  told_asked paired to leads (reply ∷ []) asks tries dials = (
    to.place ∷ [],
    the_talk to reply ∷ [],
    record {
      tell = record {
        world = asks.world;
        dials = ⊎_elim (λ one. one) (λ none. absurd (let x : reply ∷ [] ≡ [] = none.0 in cc)) dials;
        talks = asks.talks;
        paired = paired;
        asked = subst (λ (a : Result Address PieceFault). AsksAt a piece.headers.items (the_try (to.place ∷ []) (the_talk to reply ∷ []))) (sym leads)
            (inl (record {
              talk = the_talk to reply;
              talks = refl;
              dials = refl;
              place = refl;
              request_is = refl;
              judged = λ j. let a = answers reply [] tries j in (a.0, a.1, a.2);
            }));
        knows = record {
          unasked = λ e. absurd (let x : ◌≡◌ {A = List Talk} (the_talk to reply ∷ []) [] = e in cc);
          judged = λ j talk verdict one is.
              let a = answers reply [] tries j in
              a.4 ∙ ap (λ (v : Verdict). option_or known v.told) (verdict_unique from known reply a.0 verdict a.1 (mine talk verdict one is));
          asked = λ talk verdict one is. learnt reply [] tries verdict (mine talk verdict one is);
        };
      };
      truth = λ all had truthful len first. gave_truth seen may all had first known t known' u (reply ∷ []) gave
          (λ other others e. let same : reply ≡ other = cc in
          subst (λ (n : ℕ). IsTruthful all n other) (sym len) (subst (IsTruthful all from) same (All-head (λ (talk : Talk). IsTruthful all from talk.reply) (the_talk to reply) [] (All-head (λ (tr : Try). All (λ (talk : Talk). IsTruthful all tr.from talk.reply) tr.talks) (the_try (to.place ∷ []) (the_talk to reply ∷ [])) [] truthful))))
          (subst (λ (n : ℕ). Tries took may n known (reply ∷ []) gave t known' u) (sym len) tries);
      judged = λ j talk verdict one is.
          let a = answers reply [] tries j in
          subst (λ (v : Verdict). Took (seen t) v.bytes (seen u)) (verdict_unique from known reply a.0 verdict a.1 (mine talk verdict one is)) a.3;
      cut = λ got told e.
          let a = answers reply [] tries (subst (λ (r : Result Fetched PieceFault). IsTrue (is_judged r)) (sym e) refl) in
          (a.0.bytes, a.3, cut_place from known reply a.0 a.1 got told (a.2 ∙ ap as_end e));
    },
  )
    where
      -- the verdict on the one reply that was asked for
      mine : (talk : Talk) (verdict : Verdict) → ◌≡◌ {A = List Talk} (the_talk to reply ∷ []) (talk ∷ []) → IsVerdict from known talk.reply verdict → IsVerdict from known reply verdict
      mine talk verdict one is = let same : the_talk to reply ≡ talk = cc in subst (λ (r : List ℕ). IsVerdict from known r verdict) (sym (ap (λ (k : Talk). k.reply) same)) is
  told_asked paired to leads (reply ∷ other ∷ others) asks tries dials =
      absurd (⊎_elim (λ none. let x : reply ∷ other ∷ others ≡ [] = none in cc) (λ one. let x : reply ∷ other ∷ others ≡ one.0 ∷ [] = one.1 in cc) asks.once)

  pub told : (IsPaired d → IsPaired e) → Fetches took may (address piece.url) piece.headers.items from d known gave t e known' u → Telling
  told paired fetches = by (address piece.url) refl fetches
    where
      by : (a : Result Address PieceFault) → address piece.url ≡ a → Fetches took may a piece.headers.items from d known gave t e known' u → Telling
      by (Err fault) leads f = told_nowhere paired fault leads f.0 f.1 f.2 f.3
      by (Ok to) leads f = told_asked paired to leads f.0.0 f.0.1 f.0.2 f.1

  -- The try, told or not.
  pub tried : (new : Seen) → (seen t).promised ≡ from → OfAddress (address piece.url) gave → Counts d e (names_call gave) → Keeps took may gave t u
      → (IsTrue e.tells → Fetches took may (address piece.url) piece.headers.items from d known gave t e known' u) → (IsTrue e.tells → IsPaired d → IsPaired e)
      → (IsTrue e.tells → (to : Address) (bytes : List ℕ) → IsThere d piece.url to from known bytes → RefusesOnlyMemory took may t → gave ≢ Err OutOfMemory → gave ≡ Ok (record { total = length bytes }))
      → EndsTry gave kept (seen u) new
      → (tr : Try) × (tr.gave ≡ gave) × (tr.kept ≡ kept) × Tried piece tr (record { lane = seen t; wire = d; known = known }) (record { lane = new; wire = e; known = known' })
  tried new promised leads counts keeps fetches paired complete ended = by e.tells refl
    where
      with : (dials : List Place) (talks : List Talk) → (IsTrue e.tells → Told (the_try dials talks))
          → Tried piece (the_try dials talks) (record { lane = seen t; wire = d; known = known }) (record { lane = new; wire = e; known = known' })
      with dials talks told = record {
        from = sym promised;
        known = refl;
        address_is = leads;
        counts = counts;
        tell = λ tells. (told tells).tell;
        mid = seen u;
        took = kept_took seen may gave t u keeps;
        ended = ended;
        truth = λ tells. (told tells).truth;
        judged = λ tells. (told tells).judged;
        cut = λ tells. (told tells).cut;
        whole = λ tells to bytes there ready steady folder_tells enough.
            complete tells to bytes there (refuses_only_memory seen t ready steady folder_tells) enough;
      }

      by : (b : Bool) → e.tells ≡ b → (tr : Try) × (tr.gave ≡ gave) × (tr.kept ≡ kept) × Tried piece tr (record { lane = seen t; wire = d; known = known }) (record { lane = new; wire = e; known = known' })
      by false never = (the_try [] [], refl, refl, with [] [] (λ t. absurd (let x : true ≡ false = sym t ∙ never in cc)))
      by true tells = let telling = told (paired tells) (fetches tells) in (the_try telling.0 telling.1, refl, refl, with telling.0 telling.1 (λ _. telling.2))
