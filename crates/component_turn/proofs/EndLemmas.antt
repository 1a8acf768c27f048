-- A component's turn at each of its ends.
use Rattle.std.proofs.Common.{◌≡◌, ◌⊎◌, inl, inr, ⊎_elim, ℕ, Bool, true, false, List, [], refl, sym, ◌∙◌, ap, subst, arith}
use Rattle.std.proofs.lemmas.Option.{slice_get_within}
use Rattle.std.specs.List.{slice_get}
use Rattle.std.specs.Prelude.{Option, Some, None, IsTrue, Result, Ok, Err}
use Rattle.text_base.specs.declared.faults.FolderCall.{FolderCall}
use Rattle.folder_base.specs.Disk.{Name, Disk, settled}
use Rattle.folder_base.specs.Story.{World, Through}
use Rattle.folder_base.specs.declared.store_fault.StoreFault.{StoreFault}
use Rattle.folder_base.specs.declared.store_fault.StoreFault.TheVariants as store
use Rattle.folder_steps.specs.Follow.{Always}
use Rattle.http_reply.specs.declared.piece_fault.PieceFault.TheVariants.{CutShort}
use Rattle.keep_store.specs.Publish.{Stays}
use Rattle.link_http.specs.Wire.{Wire}
use Rattle.link_http.specs.declared.piece.Piece.{Piece}
use Rattle.claim_crew.specs.Claimed.{joined_all}
use Rattle.piece_turn.specs.declared.piece_end.PieceEnd.{PieceEnd}
use Rattle.piece_turn.specs.declared.piece_end.PieceEnd.TheVariants.{Failed}
use Rattle.plan_record.specs.Names.{stem_of}
use Rattle.component_store.specs.Assemble.{IsAssembling, IsAssembled, IsPutTogether}
use Rattle.component_store.specs.Component.{Web, HasPieces, ComponentSound}
use Rattle.component_store.specs.declared.begun.Begun.TheVariants.{Complete}
use Rattle.component_turn.specs.declared.component.Component.{Component}
use Rattle.component_turn.specs.declared.component_end.ComponentEnd.{ComponentEnd}
use Rattle.component_turn.specs.declared.component_end.ComponentEnd.TheVariants.{Whole}
use Rattle.component_turn.specs.declared.settings.Settings.{Settings}
use Rattle.component_turn.specs.Component.{name_of, text_of, count_of}
use Rattle.component_turn.specs.Plan.{lines_of}
use Rattle.component_turn.specs.Crew.{Endures, MayFail, FoundAt, PromisedAt, Crews}
use Rattle.component_turn.specs.Judge.{first_call, some_lacks, first_failed, decided, judged}
use Rattle.component_turn.specs.Lanes.{PromisesLeast}
use Rattle.component_turn.specs.Pieces.{AllTell, AreTold, IsReached, AskedAll}
use Rattle.component_turn.specs.Turned.{goes, is_complete, IsAt, Found, Promised, EndIs, Underway, Turned}
use Rattle.component_turn.proofs.BackLemmas.{there}
use Rattle.component_turn.proofs.CrewLemmas.{endures_stays, endures_both, fails_endures, fails_then}
use Rattle.component_turn.proofs.EnterLemmas.{Began, Entered, was_complete, begun_record, begun_whole, began_underway}
use Rattle.component_turn.proofs.HeldLemmas.{Held, put_underway, put_record, put_whole, put_gone}
use Rattle.component_turn.proofs.JudgeLemmas.{ended, faulted, whole_none_failed, calm_ends}
use Rattle.component_turn.proofs.UnderwayLemmas.{underway_of}
use Rattle.component_turn.proofs.MakeLemmas.{asked_none, asked_as, found_as, found_none}

module _ {D : Type 0} (wire : D → Wire) (component : Component) (settings : Settings) (old new : World) where
  abbrev C : Name
  C = name_of component

  abbrev Turns : Result ComponentEnd StoreFault → List PieceEnd → List D → List D → Type 0
  Turns result ends ds es = AskedAll wire (Found component settings old) (Promised component new result) (λ k. IsTrue new.tells) component.pieces.items settings.retries ends ds es

  nothing_asked : (result : Result ComponentEnd StoreFault) (ds : List D) → Turns result [] ds ds
  nothing_asked result ds = asked_none wire (Found component settings old) (Promised component new result) (λ k. IsTrue new.tells) component.pieces.items settings.retries ds

  -- A fault leaves nothing to be told of what stands.
  failed : (fault : StoreFault) (ends : List PieceEnd) (ds es : List D) → Endures old new → MayFail old new fault → (turns : Turns (Err fault) ends ds es)
      → (IsTrue new.tells → EndIs (is_complete component settings old) (count_of component) ends (Err fault))
      → (IsTrue new.tells → is_complete component settings old ≡ true → es ≡ ds)
      → (IsTrue new.tells → Underway component settings (λ web. AllTell wire es × AreTold web (lines_of component.pieces.items) (joined_all turns.asked)) old new)
      → Turned wire component settings old new (Err fault) ds es
  failed fault ends ds es endures fails turns end nothing underway = record {
    endures = endures;
    refused = fails;
    ends = ends;
    turns = turns;
    end = end;
    nothing = nothing;
    each = λ t not_yet is. absurd (not_ok is);
    underway = underway;
    stands = λ t. record {
      record_is = λ ok. absurd (let e : false ≡ true = ok in cc);
      whole = λ is. absurd (not_ok is);
      gone = λ is. absurd (not_ok is);
    };
    calm = λ steady tells reach. inr (ap (λ (f : StoreFault). Err f) (fails.steady steady tells));
  }
    where
      not_ok : faulted fault ≡ ended Whole → ⊥
      not_ok e = cc

  -- No piece was begun.
  pub none_turned : (fault : StoreFault) (ds : List D) → Endures old new → MayFail old new fault → (IsTrue new.tells → Underway component settings (λ web. Unit {0}) old new) → Turned wire component settings old new (Err fault) ds ds
  none_turned fault ds endures fails underway = failed fault [] ds ds endures fails (nothing_asked (Err fault) ds)
      (λ t. record {
        whole = λ is. refl;
        all = λ is ok. absurd (let e : false ≡ true = ok in cc);
        end = tt;
        first = λ other is. absurd (let e : ended Whole ≡ faulted other = is in cc);
      })
      (λ t is. refl)
      (λ t. underway_of (underway t) _)

  -- It was complete.
  pub complete_turned : (ds : List D) → Stays old new → Began C component.target.is_final (text_of component) settings.fresh old new (Ok Complete) → Turned wire component settings old new (Ok Whole) ds ds
  complete_turned ds stays began = record {
    endures = endures_stays stays;
    refused = tt;
    ends = [];
    turns = nothing_asked (Ok Whole) ds;
    end = λ t. record {
      whole = λ is. refl;
      all = λ is. absurd (let e : true ≡ false = sym (complete t) ∙ is in cc);
      end = refl;
      first = λ other is. absurd (let e : ended Whole ≡ faulted other = is in cc);
    };
    nothing = λ t is. refl;
    each = λ t is. absurd (let e : true ≡ false = sym (complete t) ∙ is in cc);
    underway = λ t. began_underway component settings old new (Ok Complete) began _ t;
    stands = λ t. record {
      record_is = λ ok was. begun_record component settings old new Complete began t was;
      whole = λ is was. begun_whole component settings old new Complete began t was refl;
      gone = λ is not_yet. absurd (let e : true ≡ false = sym (complete t) ∙ not_yet in cc);
    };
    calm = λ steady tells reach. inl refl;
  }
    where
      complete : IsTrue new.tells → is_complete component settings old ≡ true
      complete t = was_complete component settings old new Complete began t refl

  -- ---- the pieces were fetched
  module _ (entered held : World) (ends : List PieceEnd) (ds es : List D) (enters : Entered component settings old entered) (crews : Crews wire component settings.retries entered held ends ds es) (fetched : Endures entered held) (later : Endures held new) where
    abbrev Truth : Web → Type 0
    Truth web = AllTell wire es × AreTold web (lines_of component.pieces.items) (joined_all crews.turns.asked)

    find : (k : ℕ) (complete : Bool) (promised : ℕ) → FoundAt C entered k complete promised → Found component settings old k complete promised
    find k complete promised found t = by (goes component settings old) refl
      where
        u : IsTrue entered.tells
        u = enters.endures.still_tells t

        by : (b : Bool) → goes component settings old ≡ b → IsAt b C old.story.now k complete promised
        by true g = found_as (stem_of C k) entered.story.now old.story.now complete promised (λ name mine. enters.same u g k name mine) (found u)
        by false g = found_none C k entered.story.now complete promised (λ name mine. enters.none u g k name mine) (found u)

    abbrev turns_as : (result : Result ComponentEnd StoreFault)
        → ((k got n : ℕ) (told : Option ℕ) (piece : Piece) → slice_get component.pieces.items k ≡ Some piece → slice_get ends k ≡ Some (Failed n (CutShort got told)) → PromisedAt C held k got → Promised component new result k got) → Turns result ends ds es
    turns_as result promise = asked_as wire (FoundAt C entered) (Found component settings old) (PromisedAt C held) (Promised component new result) (λ k. IsTrue held.tells) (λ k. IsTrue new.tells) component.pieces.items settings.retries ends ds es
        (λ k piece complete promised at found. find k complete promised found)
        promise
        (λ k piece at t. later.tells t)
        crews.turns

    not_complete : IsTrue new.tells → is_complete component settings old ≡ true → ⊥
    not_complete t is = let e : false ≡ true = sym (enters.open_ (fetched.tells (later.tells t))) ∙ is in cc

    -- A call was refused, or the pieces' ends are a fault.
    pub crew_failed : (fault : StoreFault) → MayFail old new fault → ((other : StoreFault) → judged ends ≡ Err other → faulted fault ≡ faulted other)
        → (IsTrue new.tells → Underway component settings Truth old new) → Turned wire component settings old new (Err fault) ds es
    crew_failed fault fails first underway = failed fault ends ds es (endures_both enters.endures (endures_both fetched later)) fails
        (turns_as (Err fault) (λ k got n told piece at end_at after ok. absurd (let e : false ≡ true = ok in cc)))
        (λ t. record {
          whole = λ is. absurd (not_complete t is);
          all = λ is ok. absurd (let e : false ≡ true = ok in cc);
          end = tt;
          first = first;
        })
        (λ t is. absurd (not_complete t is))
        underway

    -- The ends decide.
    pub judge_fails : (fault : StoreFault) → judged ends ≡ Err fault → MayFail old new fault
    judge_fails fault is = fails_then (fails_endures enters.endures (crews.counted fault is)) later

    -- Over steady objects, all in reach, the component is whole, or memory was refused.
    calm_judge : IsTrue old.steady → IsTrue old.tells
        → ((k : ℕ) (piece : Piece) (promised : ℕ) → slice_get component.pieces.items k ≡ Some piece → IsAt (goes component settings old) C old.story.now k false promised → IsReached wire piece promised ds)
        → (judged ends ≡ Ok Whole) ⊎ (judged ends ≡ Err store.OutOfMemory)
    calm_judge steady tells reach = calm_ends crews.turns.count ends crews.turns.begun
        (λ k end lt at.
        let piece = there component.pieces.items k (omega (arith, slice_get_within ends k end at, crews.many)) in
        crews.calm (enters.endures.steady steady) (enters.endures.still_tells tells) k piece.0 end lt piece.1 at
        (λ promised found. reach k piece.0 promised piece.1 (find k false promised found tells)))
        (no_call (first_call ends) refl)
      where
        no_call : (o : Option FolderCall) → first_call ends ≡ o → first_call ends ≡ None
        no_call None is = is
        no_call (Some call) is =
            let fails = crews.counted (store.Folder call) (ap (λ (o : Option FolderCall). decided o (some_lacks ends) (first_failed 0 ends)) is) in
            absurd (let e : store.Folder call ≡ store.OutOfMemory = fails.steady (enters.endures.steady steady) (enters.endures.still_tells tells) in cc)

    -- What the ends are is told.
    module _ (end : ComponentEnd) (is : judged ends ≡ Ok end) where
      told_end : IsTrue new.tells → EndIs (is_complete component settings old) (count_of component) ends (Ok end)
      told_end t = record {
        whole = λ complete. absurd (not_complete t complete);
        all = λ not_yet ok. crews.many;
        end = is;
        first = λ other other_is. absurd (let e : ended end ≡ faulted other = sym is ∙ other_is in cc);
      }

      -- Some piece failed.
      pub end_turned : (end ≡ Whole → ⊥) → (IsTrue new.tells → new.story.now ≡ settled held.story.now) → Held component settings Truth old new → Turned wire component settings old new (Ok end) ds es
      end_turned not_whole done holds = record {
        endures = endures_both enters.endures (endures_both fetched later);
        refused = tt;
        ends = ends;
        turns = turns_as (Ok end) (λ k got n told piece at end_at after ok t.
            subst (λ (d : Disk). PromisesLeast (stem_of C k) d got) (sym (done t)) (after (later.tells t)));
        end = told_end;
        nothing = λ t complete. absurd (not_complete t complete);
        each = λ t not_yet whole. absurd (not_whole (same_ok whole));
        underway = holds.underway;
        stands = λ t. record {
          record_is = λ ok was. holds.recorded t was;
          whole = λ whole. absurd (not_whole (same_ok whole));
          gone = λ whole. absurd (not_whole (same_ok whole));
        };
        calm = λ steady tells reach. ⊎_elim (λ e. inl (sym is ∙ e)) (λ e. inr (sym is ∙ e)) (calm_judge steady tells reach);
      }
        where
          same_ok : ended end ≡ ended Whole → end ≡ Whole
          same_ok e = cc

    -- It was put together from behind a settle.
    pub whole_turned : (after : World) → judged ends ≡ Ok Whole → Held component settings Truth old after → Stays after new
        → (IsTrue new.tells → Through after.story new.story (IsAssembling C (count_of component) after.story.now))
        → (IsTrue new.tells → (web : Web) → Always (HasPieces C (count_of component)) after.story.now → Always (ComponentSound web C) after.story.now → Through after.story new.story (ComponentSound web C))
        → (IsTrue new.tells → IsPutTogether C (count_of component) after.story.now new.story.now)
        → (IsTrue new.tells → Always (IsAssembled C (count_of component) after.story.now) new.story.now) → Turned wire component settings old new (Ok Whole) ds es
    whole_turned after is holds stays moments sound done in_all = record {
      endures = endures_both enters.endures (endures_both fetched later);
      refused = tt;
      ends = ends;
      turns = turns_as (Ok Whole) (λ k got n told piece at end_at promised. absurd (let e : true ≡ false = whole_none_failed ends is k (Failed n (CutShort got told)) end_at in cc));
      end = told_end Whole is;
      nothing = λ t complete. absurd (not_complete t complete);
      each = λ t not_yet whole. ⊎_elim (λ all. omega (arith, all, crews.many))
          (λ some. absurd (let e : true ≡ false = sym some.4 ∙ whole_none_failed ends is some.0 some.1 some.3 in cc))
          crews.turns.begun.all;
      underway = λ t. put_underway component settings Truth old after new holds stays t (moments t) (sound t);
      stands = λ t. record {
        record_is = λ ok was. put_record component settings Truth old after new holds (stays.tells t) (in_all t) was;
        whole = λ whole was. put_whole component settings Truth old after new (in_all t);
        gone = λ whole not_yet k lt. put_gone C (count_of component) after.story.now new.story.now (done t) k lt;
      };
      calm = λ steady tells reach. inl refl;
    }
