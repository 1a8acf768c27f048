-- What a crash leaves while a component is begun, and what is known of its files then.
use Rattle.std.proofs.Common.{◌≡◌, ◌⊎◌, inl, inr, ⊎_elim, Bool, true, false, IsTrue, List, refl, sym, ◌∙◌, ap, subst}
use Rattle.std.specs.Prelude.{Option, Some, None, bytes_eq, not, if◌then◌else◌, option_map, IsSome, is_some, Result, Ok, Err, OnOk, IfOk}
use Rattle.folder_base.specs.Disk.{Name, Bytes, File, Names, Spots, Disk, Image, May, MayBe, LeavesAny, Leaves, earlier, put, content, lasting_file}
use Rattle.folder_base.specs.Story.{Story, Through}
use Rattle.folder_base.specs.declared.store_fault.StoreFault.{StoreFault}
use Rattle.folder_base.proofs.Images.{same_name, put_there, none_is}
use Rattle.folder_base.proofs.Moments.{joined, weaker}
use Rattle.keep_store.specs.Safe.{reads}
use Rattle.folder_steps.specs.Follow.{Always, IsAsRead, Follows, Thinner, IsLive}
use Rattle.folder_steps.specs.Make.{IsLoose, Replaced, IsReplacing, IsReplaced}
use Rattle.folder_steps.specs.Reading.{has_bytes}
use Rattle.folder_steps.proofs.ImageLemmas.{ends}
use Rattle.std.proofs.lemmas.Slice.Eq.{bytes_eq-Decides}
use Rattle.plan_record.specs.Names.{record_of, spare_of, pieces_of, is_swept, begins as begins_with}
use Rattle.component_store.specs.declared.begun.Begun.{Begun}
use Rattle.component_store.specs.declared.begun.Begun.TheVariants.{Complete, Open}
use Rattle.component_store.specs.Begin.{goes_on, begun_as, begun_names, Cleared, Started, IsStarting, IsBeginning, IsStarted, InAll}
use Rattle.component_store.proofs.FamilyLemmas.{never, true_or_not, begins_one, spare_record, spare_self, spare_not, record_not}
use Rattle.component_store.proofs.ClearLemmas.{spare_goes, pieces_go}

-- the family cleared, and then the record put in its place
module _ (component : Name) (final : Bool) (plan : Bytes) (old mid : Disk) where
  spare_stays : (n : Name) → is_swept component final n ≡ false → bytes_eq (spare_of component) n ≡ false
  spare_stays n e = ⊎_elim (λ h. absurd (never (sym (spare_goes component final false n h) ∙ e))) (λ h. h) (true_or_not (bytes_eq (spare_of component) n))

  module _ (first : Always (Follows (May old) (Thinner (is_swept component final))) mid) (cleared : IsLive (λ n. if is_swept component final n then None else old.live n) mid) (only : Always (Leaves mid.live) mid) where
    begun_loose : (image : Image) → IsLoose (spare_of component) mid image → Follows (May old) (Cleared component final) image
    begun_loose image h = let g = first h.before h.possible in record {
      before = g.before;
      possible = g.possible;
      each = λ n differs. ⊎_elim (λ e. inl (h.each n differs ∙ e)) (λ e. inr (e.0, h.each n differs ∙ e.1)) (g.each n);
    }

    begun_new : (image : Image) → Follows (May mid) (Replaced (spare_of component) (record_of component) plan) image → Follows (May old) (Started component final plan) image
    begun_new image h = let g = first h.before h.possible in record {
      before = g.before;
      possible = g.possible;
      each = λ n. h.each n ∙ ap (λ (o : Option Bytes). if bytes_eq (record_of component) n then Some plan else o) (by n g (true_or_not (is_swept component final n)));
    }
      where
        by : (n : Name) (g : Follows (May old) (Thinner (is_swept component final)) h.before) → (is_swept component final n ≡ true) ⊎ (is_swept component final n ≡ false) → (if bytes_eq (spare_of component) n then None else h.before n) ≡ (if is_swept component final n then None else g.before n)
        by n g (inl goes) =
            let none : h.before n ≡ None = none_is (h.before n) (subst (λ (o : Option File). MayBe o (h.before n)) (cleared n ∙ ap (λ (b : Bool). if b then None else old.live n) goes) (only h.before h.possible n)) in
            ap (λ (o : Option Bytes). if bytes_eq (spare_of component) n then None else o) none ∙ same_either (bytes_eq (spare_of component) n) None ∙ sym (ap (λ (b : Bool). if b then None else g.before n) goes)
          where
            same_either : (b : Bool) (o : Option Bytes) → (if b then o else o) ≡ o
            same_either true o = refl
            same_either false o = refl
        by n g (inr stays) =
            ap (λ (b : Bool). if b then None else h.before n) (spare_stays n stays)
            ∙ ⊎_elim (λ e. e) (λ e. absurd (never (sym e.0 ∙ stays))) (g.each n)
            ∙ sym (ap (λ (b : Bool). if b then None else g.before n) stays)

    pub begun_step : {spare to bytes : Bytes} → spare ≡ spare_of component → to ≡ record_of component → bytes ≡ plan → (image : Image) → IsReplacing spare to bytes mid image → IsStarting component final plan old image
    begun_step {spare} {to} {bytes} e1 e2 e3 image h = here (subst (λ (x : Name). IsReplacing x (record_of component) plan mid image) e1 (subst (λ (x : Name). IsReplacing spare x plan mid image) e2 (subst (λ (x : Bytes). IsReplacing spare to x mid image) e3 h)))
      where
        here : IsReplacing (spare_of component) (record_of component) plan mid image → IsStarting component final plan old image
        here (inl loose) = inl (begun_loose image loose)
        here (inr new) = inr (begun_new image new)

-- The files of the family were removed, and no more.
pub clear_only : (component : Name) (final : Bool) (plan : Bytes) (old : Disk) (image : Image) → Follows (May old) (Thinner (is_swept component final)) image → IsStarting component final plan old image
clear_only component final plan old image h = inl (record { before = h.before; possible = h.possible; each = λ n differs. h.each n })

pub begun_done : (component : Name) (final : Bool) (plan : Bytes) (old mid new : Disk) {spare to bytes : Bytes} (result : Result (Unit {0}) StoreFault) → IsLive (λ n. if is_swept component final n then None else old.live n) mid
    → spare ≡ spare_of component → to ≡ record_of component → bytes ≡ plan → OnOk result (IsReplaced spare to bytes mid new) → OnOk result (IsStarted component final plan old new)
begun_done component final plan old mid new {spare} {to} {bytes} (Err fault) cleared e1 e2 e3 h = tt
begun_done component final plan old mid new {spare} {to} {bytes} (Ok x) cleared e1 e2 e3 h = record { live = live; back = h.back; loose = h.loose; mixed = h.mixed }
  where
    live : (n : Name) → new.live n ≡ (if bytes_eq (record_of component) n then Some (lasting_file plan) else (if is_swept component final n then None else old.live n))
    live n = h.live n ∙ ap (λ (s : Name). put (put mid.live s None) to (Some (lasting_file bytes)) n) e1 ∙ ap (λ (r : Name). put (put mid.live (spare_of component) None) r (Some (lasting_file bytes)) n) e2
        ∙ ap (λ (b : Bytes). put (put mid.live (spare_of component) None) (record_of component) (Some (lasting_file b)) n) e3
        ∙ ap (λ (o : Option File). if bytes_eq (record_of component) n then Some (lasting_file plan) else o)
        (ap (λ (o : Option File). if bytes_eq (spare_of component) n then None else o) (cleared n) ∙ by (bytes_eq (spare_of component) n) refl (is_swept component final n) refl)
      where
        by : (s : Bool) → bytes_eq (spare_of component) n ≡ s → (w : Bool) → is_swept component final n ≡ w → (if s then None else (if w then None else old.live n)) ≡ (if w then None else old.live n)
        by true e true f = refl
        by false e true f = refl
        by false e false f = refl
        by true e false f = absurd (never (sym (spare_goes component final false n e) ∙ f))

-- The file under the spare name went,
module _ (component : Name) (final : Bool) (plan : Bytes) (old mid : Disk) where
  -- and the family after it.
  pub starting_after : Always (Follows (May old) (Thinner (bytes_eq (spare_of component)))) mid → (image : Image) → IsStarting component final plan mid image → IsStarting component final plan old image
  starting_after first image (inl h) = let g = first h.before h.possible in inl (record {
    before = g.before;
    possible = g.possible;
    each = λ n differs. ⊎_elim (λ e. ⊎_elim (λ d. inl (e ∙ d)) (λ d. inr (spare_goes component final false n d.0, e ∙ d.1)) (g.each n)) (λ e. inr e) (h.each n differs);
  })
  starting_after first image (inr h) = let g = first h.before h.possible in inr (record {
    before = g.before;
    possible = g.possible;
    each = λ n. h.each n ∙ ap (λ (o : Option Bytes). if bytes_eq (record_of component) n then Some plan else o) (by n g (true_or_not (is_swept component final n)));
  })
    where
      by : (n : Name) (g : Follows (May old) (Thinner (bytes_eq (spare_of component))) h.before) → (is_swept component final n ≡ true) ⊎ (is_swept component final n ≡ false) → (if is_swept component final n then None else h.before n) ≡ (if is_swept component final n then None else g.before n)
      by n g (inl goes) = ap (λ (b : Bool). if b then None else h.before n) goes ∙ sym (ap (λ (b : Bool). if b then None else g.before n) goes)
      by n g (inr stays) = ap (λ (o : Option Bytes). if is_swept component final n then None else o)
          (⊎_elim (λ e. e) (λ e. absurd (never (sym (spare_goes component final false n e.0) ∙ stays))) (g.each n))

  -- The files then are those that they would be without it.
  pub started_names : (new : Disk) → IsLive (put old.live (spare_of component) None) mid → IsStarted component final plan mid new → IsLive (begun_names component final plan false old.live) new
  started_names new gone is n = is.live n ∙ ap (λ (o : Option File). if bytes_eq (record_of component) n then Some (lasting_file plan) else (if is_swept component final n then None else o)) (gone n)
      ∙ ap (λ (o : Option File). if bytes_eq (record_of component) n then Some (lasting_file plan) else o) (by (is_swept component final n) refl (bytes_eq (spare_of component) n) refl)
    where
      by : (w : Bool) → is_swept component final n ≡ w → (s : Bool) → bytes_eq (spare_of component) n ≡ s → (if w then None else (if s then None else old.live n)) ≡ (if w then None else old.live n)
      by true f s e = refl
      by false f false e = refl
      by false f true e = absurd (never (sym (spare_goes component final false n e) ∙ f))

-- It is begun anew.
pub beginning_anew : (component : Name) (final : Bool) (plan : Bytes) (goes : Bool) {old mid new : Story} → goes ≡ false → Through old mid (Follows (May old.now) (Thinner (bytes_eq (spare_of component)))) → Through mid new (IsStarting component final plan mid.now) → Through old new (IsBeginning component final plan goes old.now)
beginning_anew component final plan goes {old} {mid} {new} not first second =
    joined (weaker first (λ image h. inl h)) (weaker second (λ image h. inr (not, starting_after component final plan old.now mid.now (ends first) image h)))

-- The other names are as they read in each image, where they were so before.
module _ (spare : Name) (old new : Disk) (run : Always (Follows (May old) (Thinner (bytes_eq spare))) new) (live : IsLive (put old.live spare None) new) where
  pub kept_reads : (n : Name) → bytes_eq spare n ≡ false → Always (IsAsRead n old) old → Always (IsAsRead n new) new
  kept_reads n differs as_read image h =
      let f = run image h in
      ⊎_elim (λ e. e ∙ as_read f.before f.possible ∙ ap (λ (o : Option File). option_map content o) (sym (live n ∙ put_there old.live spare n None differs)))
      (λ e. absurd (never (sym e.0 ∙ differs))) (f.each n)

-- What each image has where it goes on,
module _ (component : Name) (plan : Bytes) (old new : Disk) (run : Always (Follows (May old) (Thinner (bytes_eq (spare_of component)))) new) (live : IsLive (put old.live (spare_of component) None) new) where
  same_read : (n : Name) → bytes_eq (spare_of component) n ≡ false → reads new n ≡ reads old n
  same_read n differs = ap (λ (o : Option File). option_map content o) (live n ∙ put_there old.live (spare_of component) n None differs)

  pub goes_on_in_all : (begun : Begun) → true ≡ has_bytes (reads old (record_of component)) plan → begun ≡ begun_as true (is_some (new.live component)) → InAll component plan true old new begun
  goes_on_in_all begun same answer = record {
    record_is = λ as_read image h. kept_reads (spare_of component) old new run live (record_of component) (spare_record component) (as_read refl) image h ∙ same_read (record_of component) (spare_record component) ∙ by_test (reads old (record_of component)) plan (sym same);
    pieces = λ as_read image h n mine. kept_reads (spare_of component) old new run live n (spare_not component n (sym (begins_one (pieces_of component) n) ∙ mine)) (λ before may. as_read refl before may n mine) image h;
    whole = λ complete as_read image h. subst (λ (o : Option Bytes). IsSome o) (sym (kept_reads (spare_of component) old new run live component (spare_self component) as_read image h)) (some (new.live component) (stands (new.live component) (sym answer ∙ complete)));
  }
    where
      by_test : (o : Option Bytes) (bytes : Bytes) → has_bytes o bytes ≡ true → o ≡ Some bytes
      by_test None bytes e = absurd (never (sym e))
      by_test (Some content) bytes e = ap (λ (b : Bytes). Some b) ((bytes_eq-Decides content bytes).0 e)

      stands : (o : Option File) → begun_as true (is_some o) ≡ Complete → is_some o ≡ true
      stands None e = absurd (let x : Open ≡ Complete = e in cc)
      stands (Some file) e = refl

      some : (o : Option File) → is_some o ≡ true → IsSome (option_map content o)
      some None e = e
      some (Some file) e = e

-- and where it was begun anew.
module _ (component : Name) (final : Bool) (plan : Bytes) (old mid new : Disk) (is : IsStarted component final plan mid new) where
  only_live : (image : Image) → May new image → Leaves new.live image
  only_live image (inl (inl h)) = h
  only_live image (inl (inr h)) = absurd (subst (λ (l : List Spots). LeavesAny new.live l image) is.loose h)
  only_live image (inr (inl h)) = absurd (subst (λ b. LeavesAny new.live (earlier b) image) is.back h)
  only_live image (inr (inr h)) = absurd (subst (λ (l : List Spots). LeavesAny new.live l image) is.mixed h)

  has : (o : Option Bytes) → MayBe (Some (lasting_file plan)) o → o ≡ Some plan
  has None h = absurd h
  has (Some bytes) h = ap (λ (b : Bytes). Some b) h

  pub anew_in_all : (goes : Bool) → InAll component plan goes old new Open
  anew_in_all goes = record {
    record_is = λ as_read image h. has (image (record_of component)) (subst (λ (o : Option File). MayBe o (image (record_of component)))
        (is.live (record_of component) ∙ ap (λ (b : Bool). if b then Some (lasting_file plan) else (if is_swept component final (record_of component) then None else mid.live (record_of component))) (same_name (record_of component)))
        (only_live image h (record_of component)));
    pieces = λ as_read image h n mine. let none = gone n (sym (begins_one (pieces_of component) n) ∙ mine) in none_is (image n) (subst (λ (o : Option File). MayBe o (image n)) none (only_live image h n)) ∙ sym (ap (option_map content) none);
    whole = λ complete as_read image h. absurd (let x : Open ≡ Complete = complete in cc);
  }
    where
      gone : (n : Name) → IsTrue (begins_with (pieces_of component) n) → new.live n ≡ None
      gone n mine = is.live n ∙ ap (λ (b : Bool). if b then Some (lasting_file plan) else (if is_swept component final n then None else mid.live n)) (record_not component n mine)
          ∙ ap (λ (b : Bool). if b then None else mid.live n) (pieces_go component final false n mine)

pub ok_anyway : {T A : Type 0} (result : Result T StoreFault) → A → OnOk result A
ok_anyway (Ok x) a = a
ok_anyway (Err fault) a = tt

-- Whether the record is the plan's does not hang on the spare name.
pub recorded_same : (component plan bytes name : Bytes) (old mid : Disk) → name ≡ record_of component → bytes ≡ plan → IsLive (put old.live (spare_of component) None) mid → has_bytes (reads mid name) bytes ≡ has_bytes (reads old (record_of component)) plan
recorded_same component plan bytes name old mid is_record is_plan live =
    ap (λ (n : Name). has_bytes (reads mid n) bytes) is_record
    ∙ ap (λ (o : Option File). has_bytes (option_map content o) bytes) (live (record_of component) ∙ put_there old.live (spare_of component) (record_of component) None (spare_record component))
    ∙ ap (λ (b : Bytes). has_bytes (reads old (record_of component)) b) is_plan

-- What each image has where it goes on, of an answer by the files as they are.
pub goes_on_all : (component plan : Bytes) (goes : Bool) (old mid : Disk) {new : Disk} (result : Result Begun StoreFault) → goes ≡ true → goes ≡ has_bytes (reads old (record_of component)) plan → new ≡ mid
    → Always (Follows (May old) (Thinner (bytes_eq (spare_of component)))) mid → IsLive (put old.live (spare_of component) None) mid
    → IfOk result (λ begun. begun ≡ begun_as true (is_some (mid.live component))) → IfOk result (InAll component plan goes old new)
goes_on_all component plan goes old mid {new} (Err fault) so same is run live answer = tt
goes_on_all component plan goes old mid {new} (Ok begun) so same is run live answer =
    subst (λ (b : Bool). InAll component plan b old new begun) (sym so)
    (subst (λ (d : Disk). InAll component plan true old d begun) (sym is) (goes_on_in_all component plan old mid run live begun (sym so ∙ same) answer))

-- It goes on only where the record is the plan's.
pub goes_by_record : (component plan : Bytes) (fresh : Bool) (disk : Disk) → goes_on component plan fresh disk ≡ true → goes_on component plan fresh disk ≡ has_bytes (reads disk (record_of component)) plan
goes_by_record component plan true disk e = absurd (never (sym e))
goes_by_record component plan false disk e = refl

-- The file under the spare name, by its name as it is written.
pub spare_thin : (component : Name) {name : Name} {old mid : Story} → name ≡ spare_of component → Through old mid (Follows (May old.now) (Thinner (bytes_eq name))) → Through old mid (Follows (May old.now) (Thinner (bytes_eq (spare_of component))))
spare_thin component {name} {old} {mid} is run = subst (λ (n : Name). Through old mid (Follows (May old.now) (Thinner (bytes_eq n)))) is run

pub spare_dropped : (component : Name) {name : Name} (now live : Names) → name ≡ spare_of component → ((n : Name) → now n ≡ put live name None n) → (n : Name) → now n ≡ put live (spare_of component) None n
spare_dropped component {name} now live is gone = subst (λ (m : Name). (n : Name) → now n ≡ put live m None n) is gone
