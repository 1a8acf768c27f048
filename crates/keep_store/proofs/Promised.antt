-- A lane's state once all its bytes were promised.
use Rattle.std.proofs.Common.{◌≡◌, inl, inr, ⊎_elim, ℕ, ◌<◌, ◌≤◌, ◌^◌, Bool, true, false, IsTrue, [], length, refl, sym, ◌∙◌, ap, subst, arith, string_bytes}
use Rattle.std.specs.Prelude.{Option, Some, None, option_map, bytes_eq, if◌then◌else◌}
use Rattle.std.proofs.lemmas.Option.{same_Some}
use Rattle.std.proofs.lemmas.Fmt.{decimal_injective}
use Rattle.folder_base.specs.declared.store_fault.StoreFault.{StoreFault}
use Rattle.folder_base.specs.Disk.{Name, Bytes, File, Disk, content, put, firm, synced, renamed, renamed_apart}
use Rattle.folder_base.specs.Story.{World, is_own}
use Rattle.folder_base.proofs.Images.{same_or_not, put_here}
use Rattle.keep_store.specs.Promise.{IsNameOf, promise_name}
use Rattle.keep_store.specs.Publish.{Stays, IsMoving}
use Rattle.keep_store.specs.Lane.{Seen, Has, IsRefusal, Took, Finishes, PromisesAtLeast, current_name}
use Rattle.keep_store.specs.State.{seen, Holds, IsReady}
use Rattle.keep_store.specs.declared.lane_state.LaneState.{LaneState}
use Rattle.keep_store.proofs.Appended.{at_current, is_named, not_fault, not_complete, not_held, current_is}
use Rattle.keep_store.proofs.LaneSteps.{other_moving}
use Rattle.keep_store.proofs.Naming.{own_name}
use Rattle.keep_store.proofs.Numerals.{decimal_is_number, number_of-decimal, not_whole, name_is_promising, same_promising}
use Rattle.std.specs.Fmt.{decimal}
use Rattle.keep_store.proofs.Promising.{has_done, has_ended, part_keeps, whole_moments, whole_since}
use Rattle.std.proofs.lemmas.List.{append-nil}
use Rattle.std.specs.Prelude.{String}
use Rattle.std.specs.declared.alloc.Global.{Global}

-- Names of different promises differ.
names_differ : (stem : Name) (a b : ℕ) → a < 2 ^ 64 → b < 2 ^ 64 → (a ≡ b → ⊥) → bytes_eq (promise_name stem a) (promise_name stem b) ≡ false
names_differ stem a b small also apart = ⊎_elim (λ same. absurd (apart (decimal_injective a b small also (same_promising stem _ _ same.1)))) (λ differs. differs) (same_or_not (promise_name stem a) (promise_name stem b))

apart_from_stem : (stem : Name) (a : ℕ) → bytes_eq (promise_name stem a) stem ≡ false
apart_from_stem stem a = ⊎_elim (λ same. absurd (not_whole stem _ same.1)) (λ differs. differs) (same_or_not (promise_name stem a) stem)

-- as many bytes as before, under the new name
moved_size : (from to : Name) (disk : Disk) (size : ℕ) → bytes_eq from to ≡ false → option_map (λ (file : File). length (content file)) (disk.live from) ≡ Some size
    → option_map (λ (file : File). length (content file)) ((renamed from to (synced from disk)).live to) ≡ Some size
moved_size from to disk size apart is =
    ap (λ (b : Bool). option_map (λ (file : File). length (content file)) ((if b then synced from disk else renamed_apart from to (synced from disk)).live to)) apart
    ∙ ap (option_map (λ (file : File). length (content file))) (put_here (put (synced from disk).live from None) to ((synced from disk).live from) ∙ put_here disk.live from (option_map firm (disk.live from)))
    ∙ firm_size (disk.live from) ∙ is
  where
    firm_size : (o : Option File) → option_map (λ (file : File). length (content file)) (option_map firm o) ≡ option_map (λ (file : File). length (content file)) o
    firm_size None = refl
    firm_size (Some file) = ap (λ (b : Bytes). Some (length b)) (append-nil (content file))

module _ (world : World) (state : LaneState) (name : Name) (name_is : name ≡ string_bytes state.current) (holds : Holds world state) (ready : IsReady world state) (none : state.fault ≡ None) (part : state.complete ≡ false) (small : state.size < 2 ^ 64) where
  from_is : name ≡ promise_name state.stem state.promised
  from_is = at_current world state name name_is holds ready none part small ∙ current_is world state part

  named : IsNameOf state.stem name
  named = is_named world state name name_is holds ready none part small

  sized : IsTrue world.tells → option_map (λ (file : File). length (content file)) (world.story.now.live name) ≡ Some state.size
  sized t = subst (λ (n : Name). option_map (λ (file : File). length (content file)) (world.story.now.live n) ≡ Some state.size) (sym (at_current world state name name_is holds ready none part small)) (ready.stands t)

  -- the name that promises all
  module _ (to : Name) (to_is : to ≡ promise_name state.stem state.size) (apart : state.promised ≡ state.size → ⊥) where
    named_to : IsNameOf state.stem to
    named_to = subst (λ (n : Name). IsNameOf state.stem n) (sym to_is) (inr (name_is_promising state.stem state.size small))

    pub own_part : IsTrue world.tells → IsTrue (is_own world to)
    own_part t = own_name state.stem to world (holds.folder t) named_to

    differ_part : bytes_eq name to ≡ false
    differ_part = (λ i. bytes_eq (from_is i) (to_is i)) ∙ names_differ state.stem state.promised state.size (omega (arith, holds.promised, small)) small apart

    -- It promises all, so no less than what was promised.
    promises_part : (count : ℕ) → count ≤ state.size → PromisesAtLeast state.stem to state.size count
    promises_part count fewer = inr (record {
      digits = decimal state.size;
      number = decimal_is_number state.size small;
      is = to_is;
      least = omega (arith, number_of-decimal state.size small, fewer);
      most = omega (arith, number_of-decimal state.size small);
    })

    module _ (new : World) (stays : Stays world new) (moved : IsTrue new.tells → IsMoving name to world.story new.story) where
      module _ (fault : StoreFault) (refusal : IsRefusal world new fault) where
        abbrev Part_held : Seen
        Part_held = record { world = new; number = state.number; stem = state.stem; size = state.size; promised = state.promised; complete = state.complete; fault = Some fault }

        pub part_refused : Took (seen world state) [] Part_held
        part_refused = record {
          number = refl;
          stem = refl;
          complete = refl;
          folder = stays;
          held = λ some. not_fault world state name name_is holds ready none part small some;
          full = λ is. refl;
          later = omega arith;
          others = λ t other not. other_moving state.stem name to other world.story new.story named named_to (moved t) not;
          cause = λ held is. inr (subst (λ (f : StoreFault). IsRefusal world new f) (same_Some fault held is) refusal);
          has = λ t before has. subst (λ (b : Bytes). Has Part_held b) (sym (append-nil before))
              (has_ended (seen world state) Part_held name to refl part named named_to differ_part (sized (stays.tells t)) (moved t) not_held refl (promises_part state.promised holds.promised) before has);
          keeps = λ t entry before since. part_keeps (seen world state) Part_held name to refl part named named_to differ_part (sized (stays.tells t)) (moved t) entry before since small to_is;
        }

      module _ (done : IsTrue new.tells → new.story.now ≡ renamed name to (synced name world.story.now)) where
        abbrev Part_done : Seen
        Part_done = record { world = new; number = state.number; stem = state.stem; size = state.size; promised = state.size; complete = state.complete; fault = state.fault }

        to_current : to ≡ current_name Part_done
        to_current = to_is ∙ sym (ap (λ (b : Bool). if b then state.stem else promise_name state.stem state.size) part)

        pub part_done : Took (seen world state) [] Part_done
        part_done = record {
          number = refl;
          stem = refl;
          complete = refl;
          folder = stays;
          held = λ some. not_fault world state name name_is holds ready none part small some;
          full = λ is. refl;
          later = omega (arith, holds.promised);
          others = λ t other not. other_moving state.stem name to other world.story new.story named named_to (moved t) not;
          cause = λ held is. inl is;
          has = λ t before has. subst (λ (b : Bytes). Has Part_done b) (sym (append-nil before))
              (has_done (seen world state) Part_done name to refl part named named_to differ_part (sized (stays.tells t)) (moved t) (done t) (λ is. (to_current, refl)) (promises_part state.size (omega arith)) before has);
          keeps = λ t entry before since. part_keeps (seen world state) Part_done name to refl part named named_to differ_part (sized (stays.tells t)) (moved t) entry before since small to_is;
        }

        -- a state with these fields
        pub part_ready : (current next : String Global) → string_bytes current ≡ to → IsReady new (record state { current = current; next = next; promised = state.size })
        part_ready current next is = record {
          name = is ∙ to_current;
          stands = λ t. subst (λ (n : Name). option_map (λ (file : File). length (content file)) (new.story.now.live n) ≡ Some state.size) to_current
              (ap (λ (d : Disk). option_map (λ (file : File). length (content file)) (d.live to)) (done t) ∙ moved_size name to world.story.now state.size differ_part (sized (stays.tells t)));
        }

  -- the complete name
  module _ (to : Name) (to_is : to ≡ state.stem) where
    named_whole : IsNameOf state.stem to
    named_whole = inl to_is

    pub own_whole : IsTrue world.tells → IsTrue (is_own world to)
    own_whole t = own_name state.stem to world (holds.folder t) named_whole

    differ_whole : bytes_eq name to ≡ false
    differ_whole = (λ i. bytes_eq (from_is i) (to_is i)) ∙ apart_from_stem state.stem state.promised

    module _ (new : World) (stays : Stays world new) (moved : IsTrue new.tells → IsMoving name to world.story new.story) where
      module _ (fault : StoreFault) (refusal : IsRefusal world new fault) where
        abbrev Whole_held : Seen
        Whole_held = record { world = new; number = state.number; stem = state.stem; size = state.size; promised = state.promised; complete = state.complete; fault = Some fault }

        pub whole_refused : Finishes (seen world state) Whole_held
        whole_refused = record {
          number = refl;
          stem = refl;
          folder = stays;
          held = λ some. not_fault world state name name_is holds ready none part small some;
          later = omega arith;
          others = λ t other not. other_moving state.stem name to other world.story new.story named named_whole (moved t) not;
          cause = λ held is. inr (subst (λ (f : StoreFault). IsRefusal world new f) (same_Some fault held is) refusal);
          has = λ t bytes has. has_ended (seen world state) Whole_held name to refl part named named_whole differ_whole (sized (stays.tells t)) (moved t) not_held refl (inl (to_is, holds.promised)) bytes has;
          moments = λ t entry bytes since. whole_moments (seen world state) Whole_held name to refl part named named_whole differ_whole (sized (stays.tells t)) (moved t) entry bytes since to_is;
          since = λ t is. not_complete world state name name_is holds ready none part small is;
        }

      module _ (done : IsTrue new.tells → new.story.now ≡ renamed name to (synced name world.story.now)) where
        abbrev Whole_done : Seen
        Whole_done = record { world = new; number = state.number; stem = state.stem; size = state.size; promised = state.size; complete = true; fault = state.fault }

        pub whole_done : Finishes (seen world state) Whole_done
        whole_done = record {
          number = refl;
          stem = refl;
          folder = stays;
          held = λ some. not_fault world state name name_is holds ready none part small some;
          later = omega (arith, holds.promised);
          others = λ t other not. other_moving state.stem name to other world.story new.story named named_whole (moved t) not;
          cause = λ held is. inl is;
          has = λ t bytes has. has_done (seen world state) Whole_done name to refl part named named_whole differ_whole (sized (stays.tells t)) (moved t) (done t) (λ is. (to_is, refl)) (inl (to_is, omega arith)) bytes has;
          moments = λ t entry bytes since. whole_moments (seen world state) Whole_done name to refl part named named_whole differ_whole (sized (stays.tells t)) (moved t) entry bytes since to_is;
          since = λ t is entry bytes since. whole_since (seen world state) Whole_done name to refl part named named_whole differ_whole (sized (stays.tells t)) (moved t) entry bytes since to_is (done t);
        }

        pub whole_ready : (current next : String Global) → string_bytes current ≡ to → IsReady new (record state { current = current; next = next; promised = state.size; complete = true })
        whole_ready current next is = record {
          name = is ∙ to_is;
          stands = λ t. subst (λ (n : Name). option_map (λ (file : File). length (content file)) (new.story.now.live n) ≡ Some state.size) to_is
              (ap (λ (d : Disk). option_map (λ (file : File). length (content file)) (d.live to)) (done t) ∙ moved_size name to world.story.now state.size differ_whole (sized (stays.tells t)));
        }
