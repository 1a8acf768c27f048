-- The pieces of a component joined, one after another.
use Rattle.std.proofs.Common.{◌≡◌, inl, inr, ⊎_elim, ℕ, zero, suc, ◌+◌, ◌<◌, ◌≤◌, ◌^◌, Bool, true, false, IsTrue, [], ◌++◌, refl, sym, ◌∙◌, ap, subst, arith, append_assoc}
use Rattle.std.specs.Prelude.{Option, Some, None, IsSome, ◌||◌, bytes_eq, Result, Ok, Err, OnOk, if◌then◌else◌}
use Rattle.std.proofs.lemmas.List.{append-nil}
use Rattle.folder_base.specs.Disk.{Name, Bytes, File, Names, Disk, May, put, content, begins}
use Rattle.folder_base.specs.Story.{Story, Through}
use Rattle.folder_base.specs.declared.store_fault.StoreFault.{StoreFault}
use Rattle.folder_base.proofs.Images.{same_or_not}
use Rattle.folder_base.proofs.Moments.{weaker}
use Rattle.folder_steps.specs.Follow.{Follows, Thinner}
use Rattle.folder_steps.specs.Make.{HasNew, IsLoose, KeepsLoose, Publishes, IsReplaced}
use Rattle.folder_steps.proofs.NewFileLemmas.{new_beside, file_of}
use Rattle.folder_steps.proofs.RemovalLemmas.{thin_runs}
use Rattle.plan_record.specs.Names.{joined_of, pieces_of, stem_of, begins as begins_with}
use Rattle.plan_record.proofs.NameLemmas.{stem_sole}
use Rattle.component_store.specs.Assemble.{AllComplete, JoinsFrom, is_stem, HasJoined, IsJoining, IsJoined, PoursLoose}
use Rattle.component_store.proofs.FamilyLemmas.{never, begins_one, joined_stem, pieces_stem}

-- one piece more
pub joins_next : (disk : Disk) (component : Name) (k count : ℕ) (bytes : Bytes) (file : File) → JoinsFrom disk component k count bytes → disk.live (stem_of component (k + count)) ≡ Some file → JoinsFrom disk component k (suc count) (bytes ++ content file)
joins_next disk component k zero bytes file joins stands =
    (file, [], subst (λ (j : ℕ). disk.live (stem_of component j) ≡ Some file) (omega arith) stands, refl, ap (λ (b : Bytes). b ++ content file) joins ∙ sym (append-nil (content file)))
joins_next disk component k (suc count) bytes file joins stands = (
  joins.0,
  joins.1 ++ content file,
  joins.2,
  joins_next disk component (k + 1) count joins.1 file joins.3 (subst (λ (j : ℕ). disk.live (stem_of component j) ≡ Some file) (omega arith) stands),
  ap (λ (b : Bytes). b ++ content file) joins.4 ∙ append_assoc (content joins.0) joins.1 (content file),
)

-- The same pieces give the same bytes.
pub joins_same : (component : Name) (a b : Disk) → ((k : ℕ) → a.live (stem_of component k) ≡ b.live (stem_of component k)) → (count k : ℕ) (bytes : Bytes) → JoinsFrom a component k count bytes → JoinsFrom b component k count bytes
joins_same component a b same zero k bytes joins = joins
joins_same component a b same (suc count) k bytes joins = (joins.0, joins.1, sym (same k) ∙ joins.2, joins_same component a b same count (k + 1) joins.1 joins.3, joins.4)

-- The pieces are complete as they were.
pub complete_same : (component : Name) (count : ℕ) (live new : Names) → ((k : ℕ) → new (stem_of component k) ≡ live (stem_of component k)) → AllComplete component count live → AllComplete component count new
complete_same component count live new same all k below = subst (λ (o : Option File). IsSome o) (sym (same k)) (all k below)

module _ (component : Name) where
  -- the joined part as it is made
  pub none_joined : {name : Name} (start disk : Disk) → name ≡ joined_of component → HasNew name [] start disk → HasNew (joined_of component) [] start disk
  none_joined start disk is made = subst (λ (n : Name). HasNew n [] start disk) is made

  pub begun_joined : (start disk : Disk) → HasNew (joined_of component) [] start disk → HasJoined component 0 start disk
  begun_joined start disk made = record { bytes = []; joins = refl; new = made }

  -- one piece poured
  pub poured_next : (k : ℕ) (start : Disk) {mid new : Disk} {from to : Name} → to ≡ joined_of component → from ≡ stem_of component k → HasJoined component k start mid → IsSome (mid.live (stem_of component k))
      → ((first : Disk) (before : Bytes) (file : File) → HasNew to before first mid → mid.live from ≡ Some file → HasNew to (before ++ content file) first new) → HasJoined component (k + 1) start new
  poured_next k start {mid} {new} {from} {to} is_to is_from so_far stands pours =
      let found = file_of (mid.live (stem_of component k)) stands in
      let next : suc k ≡ k + 1 = omega arith in
      let stood : start.live (stem_of component k) ≡ Some found.0 = sym (new_beside (joined_of component) (stem_of component k) so_far.bytes start mid (joined_stem component k) so_far.new) ∙ found.1 in
      record {
        bytes = so_far.bytes ++ content found.0;
        joins = subst (λ (j : ℕ). JoinsFrom start component 0 j (so_far.bytes ++ content found.0)) next (joins_next start component 0 k so_far.bytes found.0 so_far.joins (subst (λ (j : ℕ). start.live (stem_of component j) ≡ Some found.0) (omega arith) stood));
        new = subst (λ (n : Name). HasNew n (so_far.bytes ++ content found.0) start new) is_to
            (pours start so_far.bytes found.0 (subst (λ (n : Name). HasNew n so_far.bytes start mid) (sym is_to) so_far.new) (ap mid.live is_from ∙ found.1));
      }

  -- and only the joined part may differ.
  pub pours_on : (k : ℕ) {old mid new : Story} {to : Name} → to ≡ joined_of component → ((start : Disk) → HasNew (joined_of component) [] start old.now → HasJoined component k start mid.now)
      → PoursLoose (joined_of component) old mid → KeepsLoose to mid new → PoursLoose (joined_of component) old new
  pours_on k {old} {mid} {new} {to} is_to joined so_far keeps start made run =
      let had = joined start.now made in
      subst (λ (n : Name). KeepsLoose n mid new) is_to keeps start had.bytes had.new (so_far start made run)

  -- The joined part published.
  pub publishes_joined : (count : ℕ) {old mid new : Story} {spare to : Name} → spare ≡ joined_of component → to ≡ component → HasJoined component count old.now mid.now
      → Through old mid (IsLoose (joined_of component) old.now) → Publishes spare to mid new → Through old new (IsJoining component count old.now)
  publishes_joined count {old} {mid} {new} {spare} {to} is_spare is_to had run publishes =
      weaker (subst (λ (n : Name). Publishes (joined_of component) n mid new) is_to (subst (λ (n : Name). Publishes n to mid new) is_spare publishes) old had.bytes had.new run)
      (λ image h. ⊎_elim (λ loose. inl loose) (λ whole. inr (had.bytes, had.joins, whole)) h)

  pub is_joined : (count : ℕ) (old mid new : Disk) {spare to : Name} (result : Result (Unit {0}) StoreFault) → spare ≡ joined_of component → to ≡ component → HasJoined component count old mid
      → ((start : Disk) (bytes : Bytes) → HasNew spare bytes start mid → OnOk result (IsReplaced spare to bytes start new)) → OnOk result (IsJoined component count old new)
  is_joined count old mid new {spare} {to} (Err fault) is_spare is_to had done = tt
  is_joined count old mid new {spare} {to} (Ok x) is_spare is_to had done = (
    had.bytes,
    had.joins,
    subst (λ (n : Name). IsReplaced (joined_of component) n had.bytes old new) is_to (subst (λ (n : Name). IsReplaced n to had.bytes old new) is_spare
        (done old had.bytes (subst (λ (n : Name). HasNew n had.bytes old mid) (sym is_spare) had.new))),
  )

  -- a name among those of the pieces
  pub stem_begins : (count : ℕ) (name : Name) → is_stem component count name ≡ true → IsTrue (begins (pieces_of component) name)
  stem_begins zero name e = absurd (never (sym e))
  stem_begins (suc k) name e = by (stem_begins k name) (bytes_eq (stem_of component k) name) refl e
    where
      by : (is_stem component k name ≡ true → IsTrue (begins (pieces_of component) name)) → (b : Bool) → bytes_eq (stem_of component k) name ≡ b → (b || is_stem component k name) ≡ true → IsTrue (begins (pieces_of component) name)
      by earlier false differs rest = earlier rest
      by earlier true same rest = elim (same_or_not (stem_of component k) name) [
        | inl is ↦ begins_one (pieces_of component) name ∙ ap (begins_with (pieces_of component)) (sym is.1) ∙ pieces_stem component k
        | inr not ↦ absurd (never (sym same ∙ not))
      ]

  -- The first pieces are gone, and the others stand.
  abbrev pub IsGone : ℕ → Names → Names → Type 0
  IsGone k live now = (n : Name) → now n ≡ (if is_stem component k n then None else live n)

  pub one_gone : (k : ℕ) (live mid now : Names) {name : Name} → name ≡ stem_of component k → IsGone k live mid → ((n : Name) → now n ≡ put mid name None n) → IsGone (suc k) live now
  one_gone k live mid now {name} is so_far gone n = gone n ∙ ap (λ (m : Name). put mid m None n) is ∙ ap (λ (o : Option File). if bytes_eq (stem_of component k) n then None else o) (so_far n) ∙ by (bytes_eq (stem_of component k) n) (is_stem component k n)
    where
      by : (a b : Bool) → (if a then None else (if b then None else live n)) ≡ (if a || b then None else live n)
      by true b = refl
      by false true = refl
      by false false = refl

  not_among : (k j : ℕ) → k ≤ j → j < 2 ^ 64 → is_stem component k (stem_of component j) ≡ false
  not_among zero j le small = refl
  not_among (suc k) j le small = by (not_among k j (omega arith) small) (bytes_eq (stem_of component k) (stem_of component j)) refl
    where
      by : is_stem component k (stem_of component j) ≡ false → (b : Bool) → bytes_eq (stem_of component k) (stem_of component j) ≡ b → (b || is_stem component k (stem_of component j)) ≡ false
      by earlier false differs = earlier
      by earlier true same = elim (same_or_not (stem_of component k) (stem_of component j)) [
        | inl is ↦ absurd (let one : k ≡ j = stem_sole component k j (omega arith) small is.1 in omega (arith, one, le))
        | inr not ↦ absurd (never (sym same ∙ not))
      ]

  pub still_stands : (k count : ℕ) (live now : Names) → k < count → count < 2 ^ 64 → AllComplete component count live → IsGone k live now → IsSome (now (stem_of component k))
  still_stands k count live now below small all gone =
      subst (λ (o : Option File). IsSome o) (sym (gone (stem_of component k) ∙ ap (λ (b : Bool). if b then None else live (stem_of component k)) (not_among k k (omega arith) (omega arith)))) (all k below)

  -- One piece more was removed.
  pub piece_step : (k : ℕ) {old mid new : Story} {name : Name} → name ≡ stem_of component k → Through old mid (Follows (May old.now) (Thinner (begins (pieces_of component)))) → Through mid new (Follows (May mid.now) (Thinner (bytes_eq name)))
      → Through old new (Follows (May old.now) (Thinner (begins (pieces_of component))))
  piece_step k {old} {mid} {new} {name} is so_far run = thin_runs (bytes_eq name) (begins (pieces_of component)) mine so_far run
    where
      mine : (n : Name) → IsTrue (bytes_eq name n) → IsTrue (begins (pieces_of component) n)
      mine n same = elim (same_or_not name n) [
        | inl one ↦ begins_one (pieces_of component) n ∙ ap (begins_with (pieces_of component)) (sym (sym is ∙ one.1)) ∙ pieces_stem component k
        | inr not ↦ absurd (never (sym same ∙ not))
      ]
