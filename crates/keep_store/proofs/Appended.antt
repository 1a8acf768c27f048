-- A lane's state over a folder, and what it is once bytes were put behind its file's end.
use Rattle.std.proofs.Common.{◌≡◌, ◌⊎◌, inr, ⊎_elim, ℕ, ◌+◌, ◌<◌, ◌^◌, Bool, true, false, IsTrue, [], length, take, refl, sym, ◌∙◌, ap, subst, arith, append_assoc, length-append, string_bytes}
use Rattle.std.specs.Prelude.{Option, Some, None, IsSome, Result, option_map, unwrap_or, if◌then◌else◌}
use Rattle.std.proofs.lemmas.Option.{same_Some}
use Rattle.text_base.specs.declared.faults.FolderFault.{FolderFault}
use Rattle.folder_base.specs.declared.store_fault.StoreFault.{StoreFault}
use Rattle.folder_base.specs.Disk.{Name, Bytes, File, Disk, content, appended, longer}
use Rattle.folder_base.specs.Story.{World, Story, stands, is_own, Next, DoesSome}
use Rattle.folder_base.specs.Took.{TookSome}
use Rattle.folder_base.proofs.Images.{put_here}
use Rattle.folder_base.proofs.Moments.{outcome_some}
use Rattle.keep_store.specs.Promise.{IsNameOf, promise_name}
use Rattle.keep_store.specs.Publish.{Stays}
use Rattle.keep_store.specs.Lane.{Seen, IsRefusal, Took, current_name}
use Rattle.keep_store.specs.State.{seen, Holds, IsReady}
use Rattle.keep_store.specs.declared.lane_state.LaneState.{LaneState}
use Rattle.keep_store.proofs.Appending.{appended_has, appended_keeps, same_has, same_keeps}
use Rattle.keep_store.proofs.LaneSteps.{apart_from, other_changed}
use Rattle.keep_store.proofs.Naming.{own_name}
use Rattle.keep_store.proofs.Numerals.{name_is_promising}

pub some_of : {A B : Type 0} (f : A → B) (o : Option A) (b : B) → option_map f o ≡ Some b → IsSome o
some_of f None b e = absurd (cc)
some_of f (Some a) b e = refl

pub current_is : (world : World) (state : LaneState) → state.complete ≡ false → current_name (seen world state) ≡ promise_name state.stem state.promised
current_is world state part = ap (λ (b : Bool). if b then state.stem else promise_name state.stem state.promised) part

pub named_current : (world : World) (state : LaneState) (name : Name) → name ≡ current_name (seen world state) → state.complete ≡ false → state.promised < 2 ^ 64 → IsNameOf state.stem name
named_current world state name is part small = subst (λ (n : Name). IsNameOf state.stem n) (sym (is ∙ current_is world state part)) (inr (name_is_promising state.stem state.promised small))

-- the state that holds a fault is not one without
pub not_held : {fault : StoreFault} → Some fault ≡ None → ⊥
not_held e = cc

module _ (world : World) (state : LaneState) (name : Name) (name_is : name ≡ string_bytes state.current) (holds : Holds world state) (ready : IsReady world state) (none : state.fault ≡ None) (part : state.complete ≡ false) (small : state.size < 2 ^ 64) where
  pub at_current : name ≡ current_name (seen world state)
  at_current = name_is ∙ ready.name

  pub is_named : IsNameOf state.stem name
  is_named = named_current world state name at_current part (omega (arith, holds.promised, small))

  pub is_standing : IsTrue world.tells → IsSome (world.story.now.live name)
  is_standing t = subst (λ (n : Name). IsSome (world.story.now.live n)) (sym at_current) (some_of (λ (file : File). length (content file)) (world.story.now.live (current_name (seen world state))) state.size (ready.stands t))

  pub own_current : IsTrue world.tells → IsTrue (is_own world name)
  own_current t = own_name state.stem name world (holds.folder t) is_named

  pub not_fault : {T : Type 0} → IsSome state.fault → T
  not_fault some = absurd (let x : IsSome {T = StoreFault} None = subst (λ (o : Option StoreFault). IsSome o) none some in cc)

  pub not_complete : {T : Type 0} → state.complete ≡ true → T
  not_complete is = absurd (cc)

  -- Bytes were put behind the file's end.
  module _ (new : World) (fault : Option StoreFault) (size : ℕ) (more : Bytes)
      (cause : (held : StoreFault) → fault ≡ Some held → (state.fault ≡ Some held) ⊎ IsRefusal world new held)
      (stays : Stays world new)
      (lane_size : fault ≡ None → size ≡ state.size + length more)
      (next : IsTrue new.tells → Next (appended name more) world.story new.story) where
    abbrev Later : Seen
    Later = record {
      world = new;
      number = state.number;
      stem = state.stem;
      size = size;
      promised = state.promised;
      complete = state.complete;
      fault = fault;
    }

    pub took_more : Took (seen world state) more Later
    took_more = record {
      number = refl;
      stem = refl;
      folder = stays;
      held = λ some. not_fault some;
      full = λ is. not_complete is;
      later = omega arith;
      others = λ t other not. ap (λ (d : Disk). d.live other) (next t).now ∙ other_changed name other (longer more) world.story.now (apart_from state.stem name other is_named not);
      cause = cause;
      has = λ t before has. appended_has (seen world state) Later name is_named (is_standing (stays.tells t)) part refl more (next t)
          (λ is. (at_current, λ b is_size. length-append b more ∙ ap (λ (n : ℕ). n + length more) is_size ∙ sym (lane_size is))) none refl before has;
      keeps = λ t entry before since. appended_keeps (seen world state) Later name is_named (is_standing (stays.tells t)) part refl more (next t) entry before since;
      complete = refl;
    }

  -- Nothing was done, and the lane holds a fault.
  module _ (new : World) (fault : StoreFault) (refusal : IsRefusal world new fault) (stays : Stays world new) (same : IsTrue new.tells → new.story ≡ world.story) where
    abbrev Held : Seen
    Held = record {
      world = new;
      number = state.number;
      stem = state.stem;
      size = state.size;
      promised = state.promised;
      complete = state.complete;
      fault = Some fault;
    }

    pub took_nothing : Took (seen world state) [] Held
    took_nothing = record {
      number = refl;
      stem = refl;
      folder = stays;
      held = λ some. not_fault some;
      full = λ is. not_complete is;
      later = omega arith;
      others = λ t other not. ap (λ (s : Story). s.now.live other) (same t);
      cause = λ held is. inr (subst (λ (f : StoreFault). IsRefusal world new f) (same_Some fault held is) refusal);
      has = λ t before has. same_has (seen world state) Held name is_named (is_standing (stays.tells t)) part refl (same t) not_held refl before has;
      keeps = λ t entry before since. same_keeps (seen world state) Held name is_named (is_standing (stays.tells t)) part refl (same t) entry before since;
      complete = refl;
    }

  -- Some of the bytes were put there, and the lane holds a fault.
  module _ (new : World) (fault : StoreFault) (refusal : IsRefusal world new fault) (stays : Stays world new) (bytes : Bytes) (result : Result (Unit {0}) FolderFault)
      (told : IsTrue new.tells → DoesSome (stands world name) (λ count. appended name (take count bytes)) (length bytes) world.story new.story result) where
    abbrev Some_held : Seen
    Some_held = record {
      world = new;
      number = state.number;
      stem = state.stem;
      size = state.size;
      promised = state.promised;
      complete = state.complete;
      fault = Some fault;
    }

    none_taken : (IsTrue new.tells → new.story ≡ world.story) → TookSome Took (seen world state) bytes Some_held
    none_taken same = record { count = 0; within = omega arith; front = took_nothing new fault refusal stays same }

    by_telling : (b : Bool) → new.tells ≡ b → TookSome Took (seen world state) bytes Some_held
    by_telling false e = none_taken (λ t. absurd (cc))
    by_telling true e = ⊎_elim (λ same. none_taken (λ t. same))
        (λ done. record {
          count = done.1.count;
          within = done.1.within;
          front = took_more new (Some fault) state.size (take done.1.count bytes)
              (λ held is. inr (subst (λ (f : StoreFault). IsRefusal world new f) (same_Some fault held is) refusal)) stays (λ is. absurd (not_held is)) (λ t. done.1.next);
        }) (outcome_some result (told e))

    pub took_some : TookSome Took (seen world state) bytes Some_held
    took_some = by_telling new.tells refl

  pub ready_more : (new : World) (size : ℕ) (more : Bytes) → Stays world new → size ≡ state.size + length more → (IsTrue new.tells → Next (appended name more) world.story new.story)
      → IsReady new (record state { size = size })
  ready_more new size more stays is next = record {
    name = ready.name;
    stands = λ t. ap (option_map (λ (file : File). length (content file))) (live_is t) ∙ longer_by (world.story.now.live (current_name (seen world state))) (ready.stands (stays.tells t));
  }
    where
      live_is : IsTrue new.tells → new.story.now.live (current_name (seen world state)) ≡ option_map (longer more) (world.story.now.live (current_name (seen world state)))
      live_is t = ap (λ (d : Disk). d.live (current_name (seen world state))) (next t).now
          ∙ subst (λ (n : Name). (appended n more world.story.now).live (current_name (seen world state)) ≡ option_map (longer more) (world.story.now.live (current_name (seen world state)))) (sym at_current)
          (put_here world.story.now.live (current_name (seen world state)) (option_map (longer more) (world.story.now.live (current_name (seen world state)))))

      longer_by : (o : Option File) → option_map (λ (file : File). length (content file)) o ≡ Some state.size → option_map (λ (file : File). length (content file)) (option_map (longer more) o) ≡ Some size
      longer_by None e = absurd (cc)
      longer_by (Some file) e = ap (λ (n : ℕ). Some n) (ap length (sym (append_assoc file.sure (unwrap_or file.more []) more)) ∙ length-append (content file) more ∙ ap (λ (n : ℕ). n + length more) (same_Some (length (content file)) state.size e) ∙ sym is)
