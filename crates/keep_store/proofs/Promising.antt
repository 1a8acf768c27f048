-- What a lane is once its file was made lasting and got another of its names.
use Rattle.std.proofs.Common.{◌≡◌, ◌⊎◌, inl, inr, ⊎_elim, ℕ, ◌<◌, ◌^◌, Bool, true, false, [], ◌++◌, length, refl, sym, ◌∙◌, ap, subst, arith}
use Rattle.std.specs.Prelude.{Option, Some, None, IsSome, option_map, bytes_eq, if◌then◌else◌}
use Rattle.std.proofs.lemmas.List.{append-nil}
use Rattle.std.proofs.lemmas.Option.{same_Some}
use Rattle.std.specs.Fmt.{decimal}
use Rattle.folder_base.specs.Disk.{Name, Bytes, File, Disk, Image, content, May, lasting_file, firm, synced, renamed, renamed_apart}
use Rattle.folder_base.specs.Story.{Through}
use Rattle.folder_base.proofs.Moments.{begun, weaker}
use Rattle.keep_store.specs.TookLaws.{took_none}
use Rattle.keep_store.specs.Promise.{IsNameOf, promise_name}
use Rattle.keep_store.specs.Publish.{IsMoving}
use Rattle.keep_store.specs.Safe.{MayName, Safe, Kept}
use Rattle.keep_store.specs.Lane.{Seen, Lies, Has, Since, Keeps, Finishes, PromisesAtLeast, current_name}
use Rattle.keep_store.proofs.Appending.{same_place}
use Rattle.keep_store.proofs.LaneSteps.{lies_synced, lies_renamed, promises_moved}
use Rattle.keep_store.proofs.SafeSteps.{safe_synced, safe_moved}
use Rattle.keep_store.proofs.SafeImages.{safe_kept, front_long}
use Rattle.keep_store.proofs.Numerals.{decimal_is_number, number_of-decimal}

-- less is asked where the bytes may be all
pub kept_whole : (stem : Name) (entry : Disk) (bytes : Bytes) (complete : Bool) (image : Image) → complete ≡ false → Kept stem entry bytes complete image → Kept stem entry bytes true image
kept_whole stem entry bytes complete image part kept = record {
  front = kept.front;
  no_less = kept.no_less;
  sound = λ all first whole. kept.sound all first (λ is. absurd (cc));
}

module _ (stem from to : Name) (entry : Disk) (bytes : Bytes) (disk : Disk) (named : IsNameOf stem to) (apart : bytes_eq from to ≡ false) (lies : Lies stem from bytes disk) (safe : Safe stem from entry bytes false disk) where
  abbrev Moved_disk : Disk
  Moved_disk = renamed from to (synced from disk)

  abbrev firm_safe : Safe stem from entry bytes false (synced from disk)
  firm_safe = safe_synced stem from entry bytes disk safe

  free : (synced from disk).live to ≡ None
  free = (lies_synced stem from bytes disk lies).only to named apart

  moved_to : (complete : Bool) → MayName stem entry safe.first (content safe.file) complete to → Safe stem to entry bytes complete Moved_disk
  unfolding safe_synced
  moved_to complete here = subst (λ (b : Bool). Safe stem to entry bytes complete (if b then synced from disk else renamed_apart from to (synced from disk))) (sym apart)
      (safe_moved stem from to entry bytes false complete (synced from disk) apart free firm_safe (λ is. absurd (cc)) (λ is. ap lasting_file safe.reads_as) here)

  -- a promise of all bytes
  pub moved_part : to ≡ promise_name stem (length bytes) → length bytes < 2 ^ 64 → Safe stem to entry bytes false Moved_disk
  moved_part is small = moved_to false (lasting safe.here)
    where
      lasting : MayName stem entry safe.first safe.file.sure false from → MayName stem entry safe.first (content safe.file) false to
      lasting (inr done) = absurd (let e = done.0 in cc)
      lasting (inl old) = inl (record {
        part = old.part;
        digits = decimal (length bytes);
        number = decimal_is_number (length bytes) small;
        is = is;
        least = omega (arith, number_of-decimal (length bytes) small, front_long safe.first bytes safe.grown);
        most = omega (arith, number_of-decimal (length bytes) small, ap length safe.reads_as);
      })

  -- the complete name
  pub moved_whole : to ≡ stem → Safe stem to entry bytes true Moved_disk
  moved_whole is = moved_to true (inr (refl, is))

module _ (lane new : Seen) (from to : Name) (stem_is : new.stem ≡ lane.stem) (part : lane.complete ≡ false) (named_from : IsNameOf lane.stem from) (named : IsNameOf lane.stem to) (apart : bytes_eq from to ≡ false)
    (sized : option_map (λ (file : File). length (content file)) (lane.world.story.now.live from) ≡ Some lane.size) (moving : IsMoving from to lane.world.story new.world.story) where
  stands : IsSome (lane.world.story.now.live from)
  stands = by (lane.world.story.now.live from) sized
    where
      by : (o : Option File) → option_map (λ (file : File). length (content file)) o ≡ Some lane.size → IsSome o
      by None e = absurd (cc)
      by (Some file) e = refl

  lies_from : (name : Name) (bytes : Bytes) → Lies lane.stem name bytes lane.world.story.now → Lies lane.stem from bytes lane.world.story.now
  lies_from name bytes lies = subst (λ (n : Name). Lies lane.stem n bytes lane.world.story.now) (same_place lane.stem name from bytes lane.world.story.now lies named_from stands) lies

  -- as many bytes as the lane has
  count : (bytes : Bytes) → Lies lane.stem from bytes lane.world.story.now → length bytes ≡ lane.size
  count bytes lies = ap length (sym lies.reads_as) ∙ same_Some (length (content lies.file)) lane.size (ap (option_map (λ (file : File). length (content file))) (sym lies.stands) ∙ sized)

  lies_there : (name : Name) (bytes : Bytes) (disk : Disk) → new.world.story.now ≡ disk → Lies lane.stem name bytes disk → Lies new.stem name bytes new.world.story.now
  lies_there name bytes disk is lies = subst (λ (s : Name). Lies s name bytes new.world.story.now) (sym stem_is) (subst (λ (d : Disk). Lies lane.stem name bytes d) (sym is) lies)

  abbrev At_end : Disk
  At_end = renamed from to (synced from lane.world.story.now)

  lies_end : (name : Name) (bytes : Bytes) → Lies lane.stem name bytes lane.world.story.now → Lies lane.stem to bytes At_end
  lies_end name bytes lies = lies_renamed lane.stem from to bytes (synced from lane.world.story.now) named (lies_synced lane.stem from bytes lane.world.story.now (lies_from name bytes lies))

  -- what the new name promises
  promises_at : (bytes : Bytes) → Lies lane.stem from bytes lane.world.story.now → PromisesAtLeast lane.stem to lane.size new.promised → PromisesAtLeast new.stem to (length bytes) new.promised
  promises_at bytes lies promises = promises_moved lane.stem new.stem to to lane.size (length bytes) new.promised new.promised stem_is refl (omega (arith, count bytes lies)) (omega arith) promises

  pub has_done : new.world.story.now ≡ At_end → (new.fault ≡ None → (to ≡ current_name new) × (new.size ≡ lane.size)) → PromisesAtLeast lane.stem to lane.size new.promised → (bytes : Bytes) → Has lane bytes → Has new bytes
  has_done done current promises bytes has = record {
    name = to;
    promises = promises_at bytes (lies_from has.name bytes has.lies) promises;
    lies = lies_there to bytes At_end done (lies_end has.name bytes has.lies);
    current = λ none. ((current none).0, count bytes (lies_from has.name bytes has.lies) ∙ sym (current none).1);
  }

  pub has_ended : (new.fault ≡ None → ⊥) → new.promised ≡ lane.promised → PromisesAtLeast lane.stem to lane.size new.promised → (bytes : Bytes) → Has lane bytes → Has new bytes
  has_ended held promised_is promises bytes has = by moving.ends
    where
      at : (name : Name) → Lies new.stem name bytes new.world.story.now → PromisesAtLeast new.stem name (length bytes) new.promised → Has new bytes
      at name lies promises = record { name = name; lies = lies; promises = promises; current = λ none. absurd (held none) }

      as_before : PromisesAtLeast new.stem from (length bytes) new.promised
      as_before = promises_moved lane.stem new.stem has.name from (length bytes) (length bytes) lane.promised new.promised stem_is
          (same_place lane.stem has.name from bytes lane.world.story.now has.lies named_from stands) (omega arith) (omega (arith, promised_is)) has.promises

      by : (new.world.story.now ≡ lane.world.story.now) ⊎ ((new.world.story.now ≡ synced from lane.world.story.now) ⊎ (new.world.story.now ≡ At_end)) → Has new bytes
      by (inl same) = at from (lies_there from bytes lane.world.story.now same (lies_from has.name bytes has.lies)) as_before
      by (inr (inl firm)) = at from (lies_there from bytes (synced from lane.world.story.now) firm (lies_synced lane.stem from bytes lane.world.story.now (lies_from has.name bytes has.lies))) as_before
      by (inr (inr done)) = at to (lies_there to bytes At_end done (lies_end has.name bytes has.lies)) (promises_at bytes (lies_from has.name bytes has.lies) promises)

  module _ (entry : Disk) (bytes : Bytes) (since : Since lane.complete lane entry bytes) where
    from_is : since.name ≡ from
    from_is = same_place lane.stem since.name from bytes lane.world.story.now since.lies named_from stands

    lies : Lies lane.stem from bytes lane.world.story.now
    lies = lies_from since.name bytes since.lies

    safe : Safe lane.stem from entry bytes false lane.world.story.now
    safe = subst (λ (b : Bool). Safe lane.stem from entry bytes b lane.world.story.now) part (subst (λ (n : Name). Safe lane.stem n entry bytes lane.complete lane.world.story.now) from_is since.safe)

    -- the lane since then, in a disk that its new world has
    since_in : (complete : Bool) (name : Name) (disk : Disk) → new.world.story.now ≡ disk → Lies lane.stem name bytes disk → Safe lane.stem name entry bytes complete disk → Since complete new entry bytes
    since_in complete name disk is lies safe = record {
      name = name;
      lies = lies_there name bytes disk is lies;
      safe = subst (λ (s : Name). Safe s name entry bytes complete new.world.story.now) (sym stem_is) (subst (λ (d : Disk). Safe lane.stem name entry bytes complete d) (sym is) safe);
      kept = λ image may. subst (λ (s : Name). Kept s entry bytes complete image) (sym stem_is) (safe_kept lane.stem name entry bytes complete disk safe image (subst (λ (d : Disk). May d image) is may));
    }

    -- the piece is promised by its bytes
    module _ (small : lane.size < 2 ^ 64) (is : to ≡ promise_name lane.stem lane.size) where
      end_safe : Safe lane.stem to entry bytes false At_end
      end_safe = moved_part lane.stem from to entry bytes lane.world.story.now named apart lies safe (is ∙ ap (λ (n : ℕ). promise_name lane.stem n) (sym (count bytes lies))) (omega (arith, count bytes lies, small))

      part_moments : Through lane.world.story new.world.story (Kept lane.stem entry bytes false)
      part_moments = weaker moving.moments (λ image may. ⊎_elim (λ old. safe_kept lane.stem from entry bytes false lane.world.story.now safe image old) (λ end. safe_kept lane.stem to entry bytes false At_end end_safe image end) may)

      part_since : Since false new entry bytes
      part_since = by moving.ends
        where
          by : (new.world.story.now ≡ lane.world.story.now) ⊎ ((new.world.story.now ≡ synced from lane.world.story.now) ⊎ (new.world.story.now ≡ At_end)) → Since false new entry bytes
          by (inl same) = since_in false from lane.world.story.now same lies safe
          by (inr (inl firm)) = since_in false from (synced from lane.world.story.now) firm (lies_synced lane.stem from bytes lane.world.story.now lies) (safe_synced lane.stem from entry bytes lane.world.story.now safe)
          by (inr (inr done)) = since_in false to At_end done (lies_end since.name bytes since.lies) end_safe

      pub part_keeps : Keeps lane.complete lane new entry (bytes ++ [])
      part_keeps = subst (λ (b : Bytes). Keeps lane.complete lane new entry b) (sym (append-nil bytes)) (subst (λ (c : Bool). Keeps c lane new entry bytes) (sym part) (record { moments = part_moments; since = part_since }))

    -- the piece is promised whole
    module _ (is : to ≡ lane.stem) where
      whole_safe : Safe lane.stem to entry bytes true At_end
      whole_safe = moved_whole lane.stem from to entry bytes lane.world.story.now named apart lies safe is

      pub whole_moments : Through lane.world.story new.world.story (Kept lane.stem entry bytes true)
      whole_moments = weaker moving.moments (λ image may. ⊎_elim
          (λ old. kept_whole lane.stem entry bytes false image refl (safe_kept lane.stem from entry bytes false lane.world.story.now safe image old))
          (λ end. safe_kept lane.stem to entry bytes true At_end whole_safe image end) may)

      pub whole_since : new.world.story.now ≡ At_end → Since true new entry bytes
      whole_since done = since_in true to At_end done (lies_end since.name bytes since.lies) whole_safe

-- Of a lane that is not complete, nothing was done.
pub finishes_none : (lane : Seen) → lane.complete ≡ false → Finishes lane lane
finishes_none lane part = record {
  number = refl;
  stem = refl;
  folder = (took_none lane).folder;
  held = λ some. refl;
  later = omega arith;
  others = λ t name not. refl;
  cause = λ fault is. inl is;
  has = λ t bytes has. has;
  moments = λ t entry bytes since. begun lane.world.story (Kept lane.stem entry bytes true) (λ image may. kept_whole lane.stem entry bytes lane.complete image part (since.kept image may));
  since = λ t is. absurd (cc);
}
