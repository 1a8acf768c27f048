-- What a crash leaves while a component is put together, and its soundness through it.
use Rattle.std.proofs.Common.{◌≡◌, inl, inr, ⊎_elim, ℕ, ◌+◌, Bool, true, false, IsTrue, List, [], ◌∷◌, length, refl, sym, ◌∙◌, ap, subst, arith}
use Rattle.std.specs.Prelude.{Option, Some, None, IsSome, bytes_eq, option_map, ◌||◌, ◌&&◌, not, nat_eq, if◌then◌else◌}
use Rattle.std.proofs.lemmas.Bool.Decides.{nat_tests}
use Rattle.std.proofs.lemmas.List.{append-nil}
use Rattle.folder_base.specs.Disk.{Name, Bytes, File, Names, Spots, Disk, Image, MayBe, Leaves, LeavesAny, May, earlier, put, content, firm, lasting_file, begins, synced, renamed, settled}
use Rattle.folder_base.specs.Story.{Story, Through}
use Rattle.folder_base.proofs.Images.{same_or_not, same_name, put_here, put_there, put_elim, content_may, none_is}
use Rattle.folder_base.proofs.Moments.{begun}
use Rattle.keep_store.specs.Promise.{IfStands, promising}
use Rattle.keep_store.specs.Publish.{IsBeforeOrMoved}
use Rattle.keep_store.specs.Safe.{reads}
use Rattle.folder_steps.specs.Follow.{Always, Follows, Thinner, IsLive}
use Rattle.folder_steps.specs.Make.{IsLoose, Replaced, IsReplaced}
use Rattle.folder_steps.proofs.NewFileLemmas.{renamed_live, file_of}
use Rattle.plan_record.specs.Names.{record_of, joined_of, pieces_of, stem_of, begins as begins_with}
use Rattle.plan_record.specs.declared.line.Line.{Line}
use Rattle.component_store.specs.Component.{Web, known, both, all_bytes, pieces_from, EachSound, HasRecord, ComponentSound, HasPieces}
use Rattle.component_store.specs.Assemble.{JoinsFrom, is_stem, IsPutTogether, IsAssembled, IsAssembling, IsJoining, IsJoined}
use Rattle.component_store.proofs.FamilyLemmas.{never, begins_one, joined_self, joined_record, joined_stem, joined_promise, self_record, self_stem, self_promise, pieces_stem, pieces_record, pieces_self}
use Rattle.component_store.proofs.JoinLemmas.{joins_same, stem_begins}
use Rattle.component_store.proofs.SoundLemmas.{PiecesLess, pieces_less, less_sound, thin_less}

-- Every image once a file has taken another's place comes of the names as they were.
pub replaced_images : (spare to : Name) (bytes : Bytes) (old new : Disk) → IsReplaced spare to bytes old new → Always (Follows (Leaves old.live) (Replaced spare to bytes)) new
replaced_images spare to bytes old new is image may = record { before = unmade; possible = possible; each = each }
  where
    unmade : Image
    unmade = put (put image spare (option_map content (old.live spare))) to (option_map content (old.live to))

    now : Leaves new.live image
    now = only may
      where
        only : May new image → Leaves new.live image
        only (inl (inl h)) = h
        only (inl (inr h)) = absurd (subst (λ (l : List Spots). LeavesAny new.live l image) is.loose h)
        only (inr (inl h)) = absurd (subst (λ b. LeavesAny new.live (earlier b) image) is.back h)
        only (inr (inr h)) = absurd (subst (λ (l : List Spots). LeavesAny new.live l image) is.mixed h)

    h : (n : Name) → MayBe (put (put old.live spare None) to (Some (lasting_file bytes)) n) (image n)
    h n = subst (λ (o : Option File). MayBe o (image n)) (is.live n) (now n)

    holds : (o : Option Bytes) → MayBe (Some (lasting_file bytes)) o → o ≡ Some bytes
    holds None e = absurd e
    holds (Some b) e = ap (λ (x : Bytes). Some x) e

    possible : (n : Name) → MayBe (old.live n) (unmade n)
    possible n =
        put_elim (λ o. MayBe (old.live n) o) (put image spare (option_map content (old.live spare))) to (option_map content (old.live to)) n
        (λ is_to. subst (λ (m : Name). MayBe (old.live m) (option_map content (old.live to))) is_to (content_may (old.live to)))
        (λ not_to. put_elim (λ o. MayBe (old.live n) o) image spare (option_map content (old.live spare)) n
        (λ is_spare. subst (λ (m : Name). MayBe (old.live m) (option_map content (old.live spare))) is_spare (content_may (old.live spare)))
        (λ not_spare. subst (λ (o : Option File). MayBe o (image n)) (put_there (put old.live spare None) to n (Some (lasting_file bytes)) not_to ∙ put_there old.live spare n None not_spare) (h n)))

    each : (n : Name) → image n ≡ (if bytes_eq to n then Some bytes else (if bytes_eq spare n then None else unmade n))
    each n = elim (same_or_not to n) [
      | inl is_to ↦ holds (image n) (subst (λ (b : Bool). MayBe (if b then Some (lasting_file bytes) else put old.live spare None n) (image n)) is_to.0 (h n)) ∙ sym (ap (λ (b : Bool). if b then Some bytes else (if bytes_eq spare n then None else unmade n)) is_to.0)
      | inr not_to ↦ elim (same_or_not spare n) [
        | inl is_spare ↦ none_is (image n) (subst (λ (b : Bool). MayBe (if b then None else old.live n) (image n)) is_spare.0 (subst (λ (b : Bool). MayBe (if b then Some (lasting_file bytes) else put old.live spare None n) (image n)) not_to (h n)))
            ∙ sym (ap (λ (b : Bool). if b then Some bytes else (if bytes_eq spare n then None else unmade n)) not_to ∙ ap (λ (b : Bool). if b then None else unmade n) is_spare.0)
        | inr not_spare ↦ sym (ap (λ (b : Bool). if b then Some bytes else (if bytes_eq spare n then None else unmade n)) not_to ∙ ap (λ (b : Bool). if b then None else unmade n) not_spare
            ∙ put_there (put image spare (option_map content (old.live spare))) to n (option_map content (old.live to)) not_to ∙ put_there image spare n (option_map content (old.live spare)) not_spare)
      ]
    ]

module _ (component : Name) where
  -- where the component has taken the place of its joined part, or of its only piece
  module _ (count : ℕ) (spare : Name) (bytes : Bytes) (disk : Disk) (joins : JoinsFrom disk component 0 count bytes) (mine : (n : Name) → bytes_eq spare n ≡ true → bytes_eq (joined_of component) n ≡ false → IsTrue (begins (pieces_of component) n)) where
    pub assembled_by : (image : Image) → Follows (Leaves disk.live) (Replaced spare component bytes) image → IsAssembled component count disk image
    assembled_by image f = record {
      bytes = bytes;
      joins = joins;
      before = f.before;
      possible = f.possible;
      whole = f.each component ∙ ap (λ (b : Bool). if b then Some bytes else (if bytes_eq spare component then None else f.before component)) (same_name component);
      others = λ n not_self not_joined. by n not_self not_joined (bytes_eq spare n) refl;
    }
      where
        by : (n : Name) → bytes_eq component n ≡ false → bytes_eq (joined_of component) n ≡ false → (b : Bool) → bytes_eq spare n ≡ b → Thinner (begins (pieces_of component)) n (f.before n) (image n)
        by n not_self not_joined false e = inl (f.each n ∙ ap (λ (b : Bool). if b then Some bytes else (if bytes_eq spare n then None else f.before n)) not_self ∙ ap (λ (b : Bool). if b then None else f.before n) e)
        by n not_self not_joined true e = inr (mine n e not_joined, f.each n ∙ ap (λ (b : Bool). if b then Some bytes else (if bytes_eq spare n then None else f.before n)) not_self ∙ ap (λ (b : Bool). if b then None else f.before n) e)

  -- The joined part, as the spare name, is left out.
  joined_mine : (n : Name) → bytes_eq (joined_of component) n ≡ true → bytes_eq (joined_of component) n ≡ false → IsTrue (begins (pieces_of component) n)
  joined_mine n same differs = absurd (never (sym same ∙ differs))

  stem_mine : (k : ℕ) (n : Name) → bytes_eq (stem_of component k) n ≡ true → bytes_eq (joined_of component) n ≡ false → IsTrue (begins (pieces_of component) n)
  stem_mine k n same differs = elim (same_or_not (stem_of component k) n) [
    | inl one ↦ begins_one (pieces_of component) n ∙ ap (begins_with (pieces_of component)) (sym one.1) ∙ pieces_stem component k
    | inr not ↦ absurd (never (sym same ∙ not))
  ]

  -- from before an old joined part was removed
  module _ (count : ℕ) (old mid : Disk) (first : Always (Follows (May old) (Thinner (bytes_eq (joined_of component)))) mid) (dropped : IsLive (put old.live (joined_of component) None) mid) (only : Always (Leaves mid.live) mid) where
    assembled_before : (image : Image) → IsAssembled component count mid image → IsAssembled component count old image
    assembled_before image a = record {
      bytes = a.bytes;
      joins = joins_same component mid old (λ k. dropped (stem_of component k) ∙ put_there old.live (joined_of component) (stem_of component k) None (joined_stem component k)) count 0 a.bytes a.joins;
      before = put a.before (joined_of component) (option_map content (old.live (joined_of component)));
      possible = λ n. put_elim (λ o. MayBe (old.live n) o) a.before (joined_of component) (option_map content (old.live (joined_of component))) n
          (λ same. subst (λ (m : Name). MayBe (old.live m) (option_map content (old.live (joined_of component)))) same (content_may (old.live (joined_of component))))
          (λ differs. subst (λ (o : Option File). MayBe o (a.before n)) (dropped n ∙ put_there old.live (joined_of component) n None differs) (a.possible n));
      whole = a.whole;
      others = λ n not_self not_joined. ⊎_elim (λ e. inl (e ∙ sym (put_there a.before (joined_of component) n (option_map content (old.live (joined_of component))) not_joined))) (λ e. inr e) (a.others n not_self not_joined);
    }

    loose_before : (image : Image) → IsLoose (joined_of component) mid image → IsLoose (joined_of component) old image
    loose_before image f = let g = first f.before f.possible in record {
      before = g.before;
      possible = g.possible;
      each = λ n differs. f.each n differs ∙ ⊎_elim (λ e. e) (λ e. absurd (never (sym e.0 ∙ differs))) (g.each n);
    }

    pub joining_before : (image : Image) → IsJoining component count mid image → IsAssembling component count old image
    joining_before image (inl f) = inl (loose_before image f)
    joining_before image (inr j) = inr (assembled_before image (assembled_by count (joined_of component) j.0 mid j.1 joined_mine image
        (record { before = j.2.before; possible = only j.2.before j.2.possible; each = j.2.each })))

    pub joined_all : (later : Disk) → IsJoined component count mid later → Always (IsAssembled component count old) later
    joined_all later j image h = assembled_before image (assembled_by count (joined_of component) j.0 mid j.1 joined_mine image (replaced_images (joined_of component) component j.0 mid later j.2 image h))

  pub dropping_joined : (count : ℕ) (old : Disk) (image : Image) → Follows (May old) (Thinner (bytes_eq (joined_of component))) image → IsAssembling component count old image
  dropping_joined count old image f = inl (record { before = f.before; possible = f.possible; each = λ n differs. ⊎_elim (λ e. e) (λ e. absurd (never (sym e.0 ∙ differs))) (f.each n) })

  -- while the pieces go
  pub assembled_thin : (count : ℕ) (old later : Disk) → Always (IsAssembled component count old) later → (image : Image) → Follows (May later) (Thinner (begins (pieces_of component))) image → IsAssembled component count old image
  assembled_thin count old later all image f = let a = all f.before f.possible in record {
    bytes = a.bytes;
    joins = a.joins;
    before = a.before;
    possible = a.possible;
    whole = ⊎_elim (λ e. e ∙ a.whole) (λ e. absurd (never (sym e.0 ∙ (begins_one (pieces_of component) component ∙ pieces_self component)))) (f.each component);
    others = λ n not_self not_joined. ⊎_elim (λ e. ⊎_elim (λ d. inl (e ∙ d)) (λ d. inr (d.0, e ∙ d.1)) (a.others n not_self not_joined)) (λ e. inr e) (f.each n);
  }

  -- The files then, of several pieces,
  pub all_names : (count : ℕ) (old mid later last : Disk) → nat_eq count 1 ≡ false → IsLive (put old.live (joined_of component) None) mid → IsJoined component count mid later
      → IsLive (λ n. if is_stem component count n then None else later.live n) last → IsPutTogether component count old last
  all_names count old mid later last several dropped j gone = record {
    bytes = j.0;
    joins = joins_same component mid old (λ k. dropped (stem_of component k) ∙ put_there old.live (joined_of component) (stem_of component k) None (joined_stem component k)) count 0 j.0 j.1;
    live = λ n. gone n ∙ ap (λ (o : Option File). if is_stem component count n then None else o) (j.2.live n ∙ ap (λ (o : Option File). if bytes_eq component n then Some (lasting_file j.0) else (if bytes_eq (joined_of component) n then None else o)) (dropped n))
        ∙ by n (bytes_eq component n) refl (is_stem component count n) refl (bytes_eq (joined_of component) n)
        ∙ ap (λ (b : Bool). if bytes_eq component n then Some (lasting_file j.0) else (if is_stem component count n || (not b && bytes_eq (joined_of component) n) then None else old.live n)) (sym several);
  }
    where
      by : (n : Name) (c : Bool) → bytes_eq component n ≡ c → (s : Bool) → is_stem component count n ≡ s → (p : Bool)
          → (if s then None else (if c then Some (lasting_file j.0) else (if p then None else (if p then None else old.live n)))) ≡ (if c then Some (lasting_file j.0) else (if s || p then None else old.live n))
      by n false e false f false = refl
      by n false e false f true = refl
      by n false e true f p = refl
      by n true e false f p = refl
      by n true e true f p = absurd (never (sym (stem_begins component count n f) ∙ elim (same_or_not component n) [
        | inl same ↦ ap (begins (pieces_of component)) (sym same.1) ∙ begins_one (pieces_of component) component ∙ pieces_self component
        | inr not ↦ absurd (never (sym e ∙ not))
      ]))

  -- of one piece that was published
  module _ (old mid : Disk) (kept : Always (May old) mid) (same : mid.live ≡ old.live) (only : Always (Leaves mid.live) mid) {stem : Name} (is_stem_0 : stem ≡ stem_of component 0) where
    one_joins : (file : File) → mid.live stem ≡ Some file → JoinsFrom old component 0 1 (content file)
    one_joins file stood = (file, [], sym (ap (λ (l : Names). l (stem_of component 0)) same) ∙ sym (ap mid.live is_stem_0) ∙ stood, refl, sym (append-nil (content file)))

    pub one_moments : (image : Image) → IsBeforeOrMoved stem component mid image → IsAssembling component 1 old image
    one_moments image (inl may) = inl (record { before = image; possible = kept image may; each = λ n differs. refl })
    one_moments image (inr p) = inr (assembled_by 1 (stem_of component 0) (content p.file) old (one_joins p.file p.stood) (stem_mine 0) image (record {
      before = p.before;
      possible = subst (λ (l : Names). Leaves l p.before) same (only p.before p.possible);
      each = λ n. p.moved n ∙ ap (λ (s : Name). if bytes_eq component n then Some (content p.file) else (if bytes_eq s n then None else p.before n)) is_stem_0;
    }))

    one_replaced : (file : File) → mid.live stem ≡ Some file → (later : Disk) → later ≡ settled (renamed stem component (synced stem mid)) → IsReplaced (stem_of component 0) component (content file) old later
    one_replaced file stood later made = record {
      live = λ n. ap (λ (d : Disk). d.live n) made ∙ renamed_live stem component (synced stem mid) n
          ∙ ap (λ (o : Option File). if bytes_eq component n then o else (if bytes_eq stem n then None else (if bytes_eq stem n then option_map firm (mid.live stem) else mid.live n))) (put_here mid.live stem (option_map firm (mid.live stem)) ∙ ap (option_map firm) stood)
          ∙ by (bytes_eq component n) (bytes_eq stem n) n ∙ ap (λ (s : Name). if bytes_eq component n then Some (lasting_file (content file)) else (if bytes_eq s n then None else mid.live n)) is_stem_0
          ∙ ap (λ (l : Names). if bytes_eq component n then Some (lasting_file (content file)) else (if bytes_eq (stem_of component 0) n then None else l n)) same;
      back = ap (λ (d : Disk). d.back) made;
      loose = ap (λ (d : Disk). d.loose) made;
      mixed = ap (λ (d : Disk). d.mixed) made;
    }
      where
        by : (c s : Bool) (n : Name) → (if c then Some (lasting_file (content file)) else (if s then None else (if s then option_map firm (mid.live stem) else mid.live n))) ≡ (if c then Some (lasting_file (content file)) else (if s then None else mid.live n))
        by true s n = refl
        by false true n = refl
        by false false n = refl

    pub one_done : IsSome (mid.live stem) → (later : Disk) → later ≡ settled (renamed stem component (synced stem mid)) → IsPutTogether component 1 old later
    one_done stands later made = let found = file_of (mid.live stem) stands in record {
      bytes = content found.0;
      joins = one_joins found.0 found.1;
      live = λ n. (one_replaced found.0 found.1 later made).live n ∙ by (content found.0) n (bytes_eq component n) (bytes_eq (stem_of component 0) n);
    }
      where
        by : (bytes : Bytes) (n : Name) (c s : Bool) → (if c then Some (lasting_file bytes) else (if s then None else old.live n)) ≡ (if c then Some (lasting_file bytes) else (if (s || false) || false then None else old.live n))
        by bytes n true s = refl
        by bytes n false true = refl
        by bytes n false false = refl

    pub one_all : IsSome (mid.live stem) → (later : Disk) → later ≡ settled (renamed stem component (synced stem mid)) → Always (IsAssembled component 1 old) later
    one_all stands later made image h = let found = file_of (mid.live stem) stands in
        assembled_by 1 (stem_of component 0) (content found.0) old (one_joins found.0 found.1) (stem_mine 0) image (replaced_images (stem_of component 0) component (content found.0) old later (one_replaced found.0 found.1 later made) image h)

-- The joined pieces are the world's bytes of all of them, where each has its own.
module _ (web : Web) (component : Name) (disk : Disk) (image : Image) (as_read : (k : ℕ) → image (stem_of component k) ≡ reads disk (stem_of component k)) where
  all_joined : (lines : List Line) (k : ℕ) (bytes : Bytes) → EachSound (pieces_from web component k lines) image → JoinsFrom disk component k (length lines) bytes → all_bytes web lines ≡ Some bytes
  all_joined [] k bytes h joins = ap (λ (b : Bytes). Some b) (sym joins)
  all_joined (line ∷ lines) k bytes h joins =
      let this : known web line ≡ Some (content joins.0) = subst (λ (o : Option Bytes). IfStands o (λ file. known web line ≡ Some file)) (as_read k ∙ ap (λ (o : Option File). option_map content o) joins.2) h.0.complete in
      ap (λ (o : Option Bytes). both o (all_bytes web lines)) this ∙ ap (λ (o : Option Bytes). both (Some (content joins.0)) o) (all_joined lines (k + 1) joins.1 h.1 joins.3) ∙ ap (λ (b : Bytes). Some b) (sym joins.4)

-- Putting it together keeps it sound, where each plan's record that stands has as many pieces.
module _ (web : Web) (component : Name) (count : ℕ) (old : Disk) (sound : Always (ComponentSound web component) old) (counted : Always (HasPieces component count) old) where
  module _ (image : Image) (a : IsAssembled component count old image) where
    -- the pieces as they read
    abbrev read_pieces : Image
    read_pieces n = if begins_with (pieces_of component) n then reads old n else a.before n

    read_possible : Leaves old.live read_pieces
    read_possible n = by (begins_with (pieces_of component) n)
      where
        by : (b : Bool) → MayBe (old.live n) (if b then reads old n else a.before n)
        by true = content_may (old.live n)
        by false = a.possible n

    record_same : image (record_of component) ≡ a.before (record_of component)
    record_same = ⊎_elim (λ e. e) (λ e. absurd (never (sym e.0 ∙ (begins_one (pieces_of component) (record_of component) ∙ pieces_record component)))) (a.others (record_of component) (self_record component) (joined_record component))

    files_less : PiecesLess component a.before image
    files_less = record {
      stem_less = λ k. thin_less (begins (pieces_of component)) _ _ _ (a.others (stem_of component k) (self_stem component k) (joined_stem component k));
      promise_less = λ k digits. thin_less (begins (pieces_of component)) _ _ _ (a.others (promising (stem_of component k) digits) (self_promise component k digits) (joined_promise component k digits));
    }

    assembled_sound : ComponentSound web component image
    assembled_sound lines ok is =
        let before_is : HasRecord component lines a.before = sym record_same ∙ is in
        let read_is : HasRecord component lines read_pieces = ap (λ (b : Bool). if b then reads old (record_of component) else a.before (record_of component)) (pieces_record component) ∙ before_is in
        let each_count = counted a.before (inl (inl a.possible)) lines ok before_is in
        let all = all_joined web component old read_pieces (λ k. ap (λ (b : Bool). if b then reads old (stem_of component k) else a.before (stem_of component k)) (pieces_stem component k)) lines 0 a.bytes
        (sound read_pieces (inl (inl read_possible)) lines ok read_is).pieces (subst (λ (j : ℕ). JoinsFrom old component 0 j a.bytes) (sym each_count) a.joins) in
        record {
          pieces = pieces_less web component a.before image files_less lines 0 (sound a.before (inl (inl a.possible)) lines ok before_is).pieces;
          whole = subst (λ (o : Option Bytes). IfStands o (λ bytes. all_bytes web lines ≡ Some bytes)) (sym a.whole) all;
        }

  loose_sound : (image : Image) → IsLoose (joined_of component) old image → ComponentSound web component image
  loose_sound image f = less_sound web component f.before image (record {
    record_less = inl (f.each (record_of component) (joined_record component));
    self_less = inl (f.each component (joined_self component));
    less = record {
      stem_less = λ k. inl (f.each (stem_of component k) (joined_stem component k));
      promise_less = λ k digits. inl (f.each (promising (stem_of component k) digits) (joined_promise component k digits));
    };
  }) (sound f.before f.possible)

  pub assembling_sound : (image : Image) → IsAssembling component count old image → ComponentSound web component image
  assembling_sound image (inl f) = loose_sound image f
  assembling_sound image (inr a) = assembled_sound image a

-- Nothing was done.
pub as_before : (component : Name) (count : ℕ) (story : Story) → Through story story (IsAssembling component count story.now)
as_before component count story = begun story (IsAssembling component count story.now) (λ image may. inl (record { before = image; possible = may; each = λ n differs. refl }))

-- More than one piece, or none.
pub not_one : (count : ℕ) → (count ≡ 1 → ⊥) → nat_eq count 1 ≡ false
not_one count not = by (nat_eq count 1) refl
  where
    by : (b : Bool) → nat_eq count 1 ≡ b → b ≡ false
    by false e = refl
    by true e = absurd (not (grind (arith, nat_tests, e)))

module _ (component : Name) where
  -- The joined part, by its name as it is written.
  pub joined_dropped : {name : Name} (now live : Names) → name ≡ joined_of component → ((n : Name) → now n ≡ put live name None n) → (n : Name) → now n ≡ put live (joined_of component) None n
  joined_dropped {name} now live is gone = subst (λ (m : Name). (n : Name) → now n ≡ put live m None n) is gone

  pub joined_thin : {name : Name} {old mid : Story} → name ≡ joined_of component → Through old mid (Follows (May old.now) (Thinner (bytes_eq name))) → Through old mid (Follows (May old.now) (Thinner (bytes_eq (joined_of component))))
  joined_thin {name} {old} {mid} is run = subst (λ (n : Name). Through old mid (Follows (May old.now) (Thinner (bytes_eq n)))) is run

  -- Once they are joined the pieces are as they were.
  pub stems_left : (count : ℕ) (mid later : Disk) → IsJoined component count mid later → (k : ℕ) → later.live (stem_of component k) ≡ mid.live (stem_of component k)
  stems_left count mid later j k = j.2.live (stem_of component k) ∙ put_there (put mid.live (joined_of component) None) component (stem_of component k) (Some (lasting_file j.0)) (self_stem component k) ∙ put_there mid.live (joined_of component) (stem_of component k) None (joined_stem component k)
