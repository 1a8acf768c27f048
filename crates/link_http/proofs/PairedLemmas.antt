-- Each request follows a dial to its own place.
use Rattle.std.proofs.Common.{◌≡◌, ℕ, zero, suc, ◌<◌, ◌⊎◌, List, [], ◌∷◌, ◌++◌, length, refl, sym, ap, ◌∙◌, subst, arith, append-nil, inl, inr, Result, Ok, Err, Option, Some, None}
use Rattle.std.specs.Prelude.{slice_get, map}
use Rattle.std.proofs.lemmas.Option.{slice_get_within}
use Rattle.folder_base.specs.declared.store_fault.StoreFault.{StoreFault}
use Rattle.http_reply.specs.declared.piece_fault.PieceFault.{PieceFault}
use Rattle.link_http.specs.declared.fetched.Fetched.{Fetched}
use Rattle.link_http.specs.declared.header.Header.{Header}
use Rattle.link_http.specs.Request.{Address, Place, request}
use Rattle.link_http.specs.Wire.{Wire, Talk}
use Rattle.link_http.specs.Try.{Asks, DialsOnce, Fetches, IsPaired}

some_same : {X : Type 0} (x y : X) → Some x ≡ Some y → x ≡ y
some_same x y is = cc

none_some : {X : Type 0} (x : X) → ◌≡◌ {A = Option X} None (Some x) → ⊥
none_some x is = absurd (cc)

get_left : {X : Type 0} (xs ys : List X) (i : ℕ) (x : X) → slice_get xs i ≡ Some x → slice_get (xs ++ ys) i ≡ Some x
get_left [] ys i x is = absurd (none_some x is)
get_left (y ∷ xs) ys zero x is = is
get_left (y ∷ xs) ys (suc i) x is = get_left xs ys i x is

get_end : {X : Type 0} (xs : List X) (x : X) → slice_get (xs ++ x ∷ []) (length xs) ≡ Some x
get_end [] x = refl
get_end (y ∷ xs) x = get_end xs x

get_cases : {X : Type 0} (xs : List X) (x y : X) (i : ℕ) → slice_get (xs ++ x ∷ []) i ≡ Some y
    → (slice_get xs i ≡ Some y) ⊎ ((i ≡ length xs) × (x ≡ y))
get_cases [] x y zero is = inr (refl, some_same x y is)
get_cases [] x y (suc i) is = absurd (none_some y is)
get_cases (z ∷ xs) x y zero is = inl is
get_cases (z ∷ xs) x y (suc i) is = elim (get_cases xs x y i is) [ inl old ↦ inl old | inr new ↦ inr (ap suc new.0, new.1) ]

-- No request was asked.
paired_same : (old new : Wire) (more : List Place) → new.dials ≡ old.dials ++ more → new.talks ≡ old.talks → IsPaired old → IsPaired new
paired_same old new more dials talks paired =
    let was : (i : ℕ) (t : Talk) → slice_get new.talks i ≡ Some t → slice_get old.talks i ≡ Some t = λ i t is. subst (λ (l : List Talk). slice_get l i ≡ Some t) talks is in
    record {
      place = λ i t is.
          subst (λ (l : List Place). slice_get l t.dial ≡ Some t.place) (sym dials) (get_left old.dials more t.dial t.place (paired.place i t (was i t is)));
      rising = λ i j a b less at_i at_j. paired.rising i j a b less (was i a at_i) (was j b at_j);
    }

-- One was, over the connection of a new dial to its place.
paired_more : (old new : Wire) (talk : Talk) → talk.dial ≡ length old.dials → new.dials ≡ old.dials ++ talk.place ∷ [] → new.talks ≡ old.talks ++ talk ∷ []
    → IsPaired old → IsPaired new
paired_more old new talk dial dials talks paired =
    let was : (i : ℕ) (t : Talk) → slice_get new.talks i ≡ Some t → (slice_get old.talks i ≡ Some t) ⊎ ((i ≡ length old.talks) × (talk ≡ t)) =
    λ i t is. get_cases old.talks talk t i (subst (λ (l : List Talk). slice_get l i ≡ Some t) talks is) in
    let end : slice_get new.dials talk.dial ≡ Some talk.place =
    subst (λ (l : List Place). slice_get l talk.dial ≡ Some talk.place) (sym dials)
    (subst (λ (n : ℕ). slice_get (old.dials ++ talk.place ∷ []) n ≡ Some talk.place) (sym dial) (get_end old.dials talk.place)) in
    record {
      place = λ i t is. elim (was i t is) [
        | inl before ↦
            subst (λ (l : List Place). slice_get l t.dial ≡ Some t.place) (sym dials)
            (get_left old.dials (talk.place ∷ []) t.dial t.place (paired.place i t before))
        | inr last ↦ subst (λ (x : Talk). slice_get new.dials x.dial ≡ Some x.place) last.1 end
      ];
      rising = λ i j a b less at_i at_j. elim (was j b at_j) [
        | inl b_before ↦ elim (was i a at_i) [
          | inl a_before ↦ paired.rising i j a b less a_before b_before
          | inr a_last ↦ let within = slice_get_within old.talks j b b_before in absurd (omega (arith, within, a_last.0, less))
        ]
        | inr b_last ↦ elim (was i a at_i) [
          | inl a_before ↦
              let within = slice_get_within old.dials a.dial a.place (paired.place i a a_before) in
              let at : b.dial ≡ length old.dials = ap (λ (t : Talk). t.dial) (sym b_last.1) ∙ dial in
              omega (arith, within, at)
          | inr a_last ↦ absurd (omega (arith, a_last.0, b_last.0, less))
        ]
      ];
    }

asked : (place : Place) (text : List ℕ) (old new : Wire) (replies : List (List ℕ)) → Asks place (length old.dials) text old new replies → DialsOnce place replies old new
    → IsPaired old → IsPaired new
asked place text old new replies asks dials paired =
    elim asks.once [
      | inl none ↦
          let talks : new.talks ≡ old.talks =
          asks.talks ∙ ap (λ (r : List (List ℕ)). old.talks ++ map (λ reply. record { place = place; dial = length old.dials; request = text; reply = reply }) r) none ∙ append-nil old.talks in
          elim dials [
            | inl one ↦ paired_same old new (place ∷ []) one talks paired
            | inr same ↦ paired_same old new [] (same.1 ∙ sym (append-nil old.dials)) talks paired
          ]
      | inr some ↦
          let talk : Talk = record { place = place; dial = length old.dials; request = text; reply = some.0 } in
          let talks : new.talks ≡ old.talks ++ talk ∷ [] =
          asks.talks ∙ ap (λ (r : List (List ℕ)). old.talks ++ map (λ reply. record { place = place; dial = length old.dials; request = text; reply = reply }) r) some.1 in
          elim dials [
            | inl one ↦ paired_more old new talk refl one talks paired
            | inr same ↦ let no_ : some.0 ∷ [] ≡ [] = sym some.1 ∙ same.0 in absurd (cc)
          ]
    ]

pub paired : {T : Type 0} (took : T → List ℕ → T → Type 0) (may_refuse : T → List ℕ → StoreFault → Type 0)
    (leads : Result Address PieceFault) (headers : List Header) (from : ℕ) (old new : Wire) (known known' : Option ℕ) (result : Result Fetched PieceFault) (t u : T)
    → Fetches took may_refuse leads headers from old known result t new known' u → IsPaired old → IsPaired new
paired took may_refuse (Err fault) headers from old new known known' result t u fetches before =
    paired_same old new [] (fetches.1.dials ∙ sym (append-nil old.dials)) fetches.1.talks before
paired took may_refuse (Ok to) headers from old new known known' result t u fetches before =
    asked to.place (request to headers from) old new fetches.0.0 fetches.0.1 fetches.1 before
