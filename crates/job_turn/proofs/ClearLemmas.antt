-- What removals one after the other come to.
use Rattle.std.proofs.Common.{◌≡◌, ℕ, zero, suc, ◌+◌, ◌<◌, Bool, true, false, IsTrue, List, [], ◌∷◌, length, drop, get_or, refl, sym, ◌∙◌, ap, subst}
use Rattle.std.proofs.lemmas.List.{drop_more}
use Rattle.std.specs.Option.{option_map_or}
use Rattle.std.specs.Prelude.{Option, Some, None, Result, Ok, Err, OnOk, is_some, bytes_eq, not, ◌||◌, ◌&&◌, if◌then◌else◌}
use Rattle.folder_base.specs.Disk.{Name, File, Names, May, put}
use Rattle.folder_base.specs.Story.{World, Story, Through}
use Rattle.folder_base.proofs.Disjoint.{so_left, so_right}
use Rattle.folder_base.proofs.Images.{same_name}
use Rattle.folder_base.proofs.Moments.{weaker}
use Rattle.folder_steps.specs.Follow.{Follows, Thinner, IsLive}
use Rattle.folder_steps.proofs.RemovalLemmas.{thin_more, thin_runs, unchanged, from_same}
use Rattle.keep_store.specs.Opening.{Looked}
use Rattle.keep_store.specs.Publish.{Stays}
use Rattle.keep_store.specs.TookLaws.{stays_none, stays_both}
use Rattle.tool_chain.specs.Jobs.{Job as Command, is_output}
use Rattle.plan_record.specs.Names.{record_of}
use Rattle.component_store.specs.Tidy.{is_cleared, is_tidied}
use Rattle.component_turn.specs.Plan.{is_of}
use Rattle.component_turn.proofs.TurnLemmas.{outside}
use Rattle.job_turn.specs.Clearing.{Clears, some_recorded, is_tidied_of, is_of_some, AreNamesApart}

-- the files but for those that go
abbrev pub without : (Name → Bool) → Names → Name → Option File
without goes live name = if goes name then None else live name

-- Nothing went, for no name may go.
pub clears_none : {E : Type 0} (goes : Name → Bool) (world : World) → ((n : Name) → goes n ≡ false) → Clears {E = E} goes world world (Ok tt)
clears_none goes world none = record {
  stays = stays_none world;
  moments = λ t. unchanged goes refl;
  gone = λ t n. ap (λ (b : Bool). if b then None else world.story.now.live n) (sym (none n));
}

-- Nothing went, for the call was refused before.
pub clears_not : {E : Type 0} (goes : Name → Bool) (world : World) (fault : E) → Clears goes world world (Err fault)
clears_not goes world fault = record { stays = stays_none world; moments = λ t. unchanged goes refl; gone = λ t. tt }

-- A refusal after removals: more might have gone.
pub clears_stop : {E F : Type 0} {old new : World} (few goes : Name → Bool) (fault : E) (told : F) → ((n : Name) → IsTrue (few n) → IsTrue (goes n)) → Clears few old new (Err fault) → Clears goes old new (Err told)
clears_stop few goes fault told more clears = record {
  stays = clears.stays;
  moments = λ t. weaker (clears.moments t) (λ image f. thin_more few goes more image f);
  gone = λ t. tt;
}

-- One removal after another, for files twice removed.
gone_both : (first second : Bool) (file mid now : Option File) → mid ≡ (if first then None else file) → now ≡ (if second then None else mid) → now ≡ (if first || second then None else file)
gone_both true true file mid now is last = last
gone_both true false file mid now is last = last ∙ is
gone_both false true file mid now is last = last
gone_both false false file mid now is last = last ∙ is

-- What went first, and what goes behind it.
pub clears_next : {E F : Type 0} {old mid new : World} (first second : Name → Bool) (result : Result (Unit {0}) F) → Clears {E = E} first old mid (Ok tt) → Clears second mid new result → Clears (λ n. first n || second n) old new result
clears_next {E} {F} {old} {mid} {new} first second result a b = record {
  stays = stays_both a.stays b.stays;
  moments = λ t. thin_runs second (λ n. first n || second n) (λ n goes. so_right (first n) (second n) goes)
      (weaker (a.moments (b.stays.tells t)) (λ image f. thin_more first (λ n. first n || second n) (λ n goes. so_left (first n) (second n) goes) image f)) (b.moments t);
  gone = λ t. by result (b.gone t) (a.gone (b.stays.tells t));
}
  where
    by : (r : Result (Unit {0}) F) → OnOk r (IsLive (without second mid.story.now.live) new.story.now) → IsLive (without first old.story.now.live) mid.story.now → OnOk r (IsLive (without (λ n. first n || second n) old.story.now.live) new.story.now)
    by (Err fault) rest is = tt
    by (Ok x) rest is = λ n. gone_both (first n) (second n) (old.story.now.live n) (mid.story.now.live n) (new.story.now.live n) (is n) (rest n)

-- The same removal, told by other words for what goes.
pub clears_as : {E : Type 0} {old new : World} (goes other : Name → Bool) (result : Result (Unit {0}) E) → (IsTrue new.tells → (n : Name) → goes n ≡ other n) → Clears goes old new result → Clears other old new result
clears_as {E} {old} {new} goes other result same a = record {
  stays = a.stays;
  moments = λ t. subst (λ (g : Name → Bool). Through old.story new.story (Follows (May old.story.now) (Thinner g))) (λ i n. same t n i) (a.moments t);
  gone = λ t. subst (λ (g : Name → Bool). OnOk result (IsLive (without g old.story.now.live) new.story.now)) (λ i n. same t n i) (a.gone t);
}

-- One file went, where it stood.
pub clears_one : {E : Type 0} {old new : World} (name : Name) (goes : Name → Bool) (result : Result (Unit {0}) E) → ((n : Name) → bytes_eq name n ≡ goes n) → Stays old new
    → (IsTrue new.tells → Through old.story new.story (Follows (May old.story.now) (Thinner (bytes_eq name)))) → (IsTrue new.tells → OnOk result (IsLive (put old.story.now.live name None) new.story.now)) → Clears goes old new result
clears_one name goes result same stays moments gone = clears_as (bytes_eq name) goes result (λ t n. same n) (record { stays = stays; moments = moments; gone = gone })

-- Which files are a step's output.
pub output_is : (step : Command) (name : Name) → step.output ≡ Some name → (n : Name) → bytes_eq name n ≡ is_output step n
output_is step name is n = sym (ap (λ (o : Option Name). option_map_or (λ output. bytes_eq output n) o false) is)

pub output_none : (step : Command) → step.output ≡ None → (n : Name) → is_output step n ≡ false
output_none step is n = ap (λ (o : Option Name). option_map_or (λ output. bytes_eq output n) o false) is

-- Whether a record stands from a place on hangs on the component there, and on those behind it.
pub recorded_from : (live : Names) (all : List Name) (k : ℕ) (component : Name) → k < length all → component ≡ get_or all k component → some_recorded live (drop k all) ≡ (is_some (live (record_of component)) || some_recorded live (drop (k + 1) all))
recorded_from live all k component below is = ap (some_recorded live) (drop_more all k component below) ∙ (λ i. is_some (live (record_of (sym is i))) || some_recorded live (drop (k + 1) all))

-- One that was asked for is not recorded, and the others are left to ask for;
pub recorded_not : (live : Names) (all : List Name) (k : ℕ) (item component : Name) (told : Bool) → k < length all → item ≡ get_or all k item → component ≡ item → told ≡ is_some (live (record_of component)) → told ≡ false
    → some_recorded live (drop k all) ≡ some_recorded live (drop (k + 1) all)
recorded_not live all k item component told below is same answer off =
    recorded_from live all k item below is ∙ ap (λ (b : Bool). b || some_recorded live (drop (k + 1) all)) (ap (λ (n : Name). is_some (live (record_of n))) (sym same) ∙ sym answer ∙ off)

-- or it is.
pub recorded_here : (live : Names) (all : List Name) (k : ℕ) (item component : Name) (told : Bool) → k < length all → item ≡ get_or all k item → component ≡ item → told ≡ is_some (live (record_of component)) → told ≡ true → some_recorded live (drop k all) ≡ true
recorded_here live all k item component told below is same answer on =
    recorded_from live all k item below is ∙ ap (λ (b : Bool). b || some_recorded live (drop (k + 1) all)) (ap (λ (n : Name). is_some (live (record_of n))) (sym same) ∙ sym answer ∙ on)

-- One look behind another.
pub looks_next : {old mid new : World} → Looked old mid → Looked mid new → Looked old new
looks_next a b = record { stays = stays_both a.stays b.stays; same = λ t. b.same t ∙ a.same (b.stays.tells t) }

-- A look before it changes nothing.
pub clears_looked : {E : Type 0} {old mid new : World} (goes : Name → Bool) (result : Result (Unit {0}) E) → Looked old mid → Clears goes mid new result → Clears goes old new result
clears_looked {E} {old} {mid} {new} goes result looked a = record {
  stays = stays_both looked.stays a.stays;
  moments = λ t. from_same goes (looked.same (a.stays.tells t)) (a.moments t);
  gone = λ t. subst (λ (s : Story). OnOk result (IsLive (without goes s.now.live) new.story.now)) (looked.same (a.stays.tells t)) (a.gone t);
}

-- ---- components, one after the other

-- It does not go as the component is cleared.
cleared_not : (component : Name) (component_stays record_stays : Bool) (n : Name) → is_of component n ≡ false → is_cleared component component_stays record_stays n ≡ false
cleared_not component component_stays record_stays n off = let out = outside component n off in
    λ i. (may_not (not record_stays) out.record_not i || (out.spare_not i || (out.joined_not i || out.pieces_not i))) || may_not (not component_stays) out.self i
  where
    may_not : (b : Bool) {c : Bool} → c ≡ false → (b && c) ≡ false
    may_not true e = e
    may_not false e = refl

-- A name that is none of the family's does not go as the component is tidied.
pub tidied_not : (component : Name) (final keep : Bool) (live : Names) (n : Name) → is_of component n ≡ false → is_tidied component final keep live n ≡ false
tidied_not component final keep live n off = by (is_some (live (record_of component))) (cleared_not component (final || keep) (keep && is_some (live component)) n off)
  where
    by : (b : Bool) → is_cleared component (final || keep) (keep && is_some (live component)) n ≡ false → (b && is_cleared component (final || keep) (keep && is_some (live component)) n) ≡ false
    by true none = none
    by false none = refl

-- A component was tidied, by its target.
pub tidies : {E : Type 0} {old new : World} (named component : Name) (is_final final keep : Bool) (result : Result (Unit {0}) E) → named ≡ component → is_final ≡ final → Stays old new
    → (IsTrue new.tells → Through old.story new.story (Follows (May old.story.now) (Thinner (is_tidied named is_final keep old.story.now.live))))
    → (IsTrue new.tells → OnOk result (IsLive (without (is_tidied named is_final keep old.story.now.live) old.story.now.live) new.story.now)) → Clears (is_tidied component final keep old.story.now.live) old new result
tidies {E} {old} {new} named component is_final final keep result same same_final stays moments gone =
    clears_as (is_tidied named is_final keep old.story.now.live) (is_tidied component final keep old.story.now.live) result
    (λ t n i. is_tidied (same i) (same_final i) keep old.story.now.live n) (record { stays = stays; moments = moments; gone = gone })

-- Which files go hangs on the record and on the component alone.
pub tidied_same : (component : Name) (final keep : Bool) (live other : Names) → other (record_of component) ≡ live (record_of component) → other component ≡ live component → (n : Name) → is_tidied component final keep other n ≡ is_tidied component final keep live n
tidied_same component final keep live other recorded same n = λ i. is_some (recorded i) && is_cleared component (final || keep) (keep && is_some (same i)) n

-- The names of a family.
pub record_is_of : (component : Name) → is_of component (record_of component) ≡ true
record_is_of component = so_right (bytes_eq component (record_of component)) _ (so_left _ _ (same_name (record_of component)))

pub self_is_of : (component : Name) → is_of component component ≡ true
self_is_of component = so_left _ _ (same_name component)

-- What is of none of these families is of none of each.
pub tidied_of_same : (final keep : Bool) (live other : Names) (components : List Name) → ((n : Name) → is_of_some components n ≡ true → other n ≡ live n) → (n : Name) → is_tidied_of final keep other components n ≡ is_tidied_of final keep live components n
tidied_of_same final keep live other [] same n = refl
tidied_of_same final keep live other (component ∷ components) same n =
    let here = tidied_same component final keep live other
    (same (record_of component) (so_left _ (is_of_some components (record_of component)) (record_is_of component)))
    (same component (so_left _ (is_of_some components component) (self_is_of component))) n in
    let there = tidied_of_same final keep live other components (λ m is. same m (so_right (is_of component m) _ is)) n in
    λ i. here i || there i

-- A component that was tidied, and those behind it.
pub tidies_next : {E F : Type 0} {old mid new : World} (final keep : Bool) (component : Name) (components : List Name) (result : Result (Unit {0}) F) → ((n : Name) → is_of component n ≡ true → is_of_some components n ≡ false)
    → Clears {E = E} (is_tidied component final keep old.story.now.live) old mid (Ok tt) → Clears (is_tidied_of final keep mid.story.now.live components) mid new result
    → Clears (is_tidied_of final keep old.story.now.live (component ∷ components)) old new result
tidies_next {E} {F} {old} {mid} {new} final keep component components result apart first rest =
    clears_next {E = E} (is_tidied component final keep old.story.now.live) (is_tidied_of final keep old.story.now.live components) result first
    (clears_as (is_tidied_of final keep mid.story.now.live components) (is_tidied_of final keep old.story.now.live components) result
    (λ t n. tidied_of_same final keep old.story.now.live mid.story.now.live components (λ m is. still m is (first.gone (rest.stays.tells t) m)) n) rest)
  where
    never : true ≡ false → ⊥
    never e = cc

    still : (m : Name) → is_of_some components m ≡ true → mid.story.now.live m ≡ without (is_tidied component final keep old.story.now.live) old.story.now.live m → mid.story.now.live m ≡ old.story.now.live m
    still m is now = now ∙ ap (λ (b : Bool). if b then None else old.story.now.live m) (tidied_not component final keep old.story.now.live m (off (is_of component m) refl))
      where
        off : (b : Bool) → is_of component m ≡ b → is_of component m ≡ false
        off true e = absurd (never (sym is ∙ apart m e))
        off false e = e

-- The components from a place on are apart, too.
pub names_apart_at : (all : List Name) (k : ℕ) → AreNamesApart all → AreNamesApart (drop k all)
names_apart_at all zero apart = apart
names_apart_at [] (suc k) apart = apart
names_apart_at (component ∷ all) (suc k) apart = names_apart_at all k apart.1

-- From a place on there is the component there, and what is behind it.
pub here_at : (all : List Name) (k : ℕ) (item component : Name) → k < length all → item ≡ get_or all k item → component ≡ item → drop k all ≡ component ∷ drop (k + 1) all
here_at all k item component below is same = drop_more all k item below ∙ ap (λ (n : Name). n ∷ drop (k + 1) all) (sym is ∙ sym same)

-- The component at a place was tidied, and those behind it.
pub tidies_from : {E F : Type 0} {old mid new : World} (final keep : Bool) (all : List Name) (k : ℕ) (component : Name) (result : Result (Unit {0}) F) → AreNamesApart all → drop k all ≡ component ∷ drop (k + 1) all
    → Clears {E = E} (is_tidied component final keep old.story.now.live) old mid (Ok tt) → Clears (is_tidied_of final keep mid.story.now.live (drop (k + 1) all)) mid new result
    → Clears (is_tidied_of final keep old.story.now.live (drop k all)) old new result
tidies_from {E} {F} {old} {mid} {new} final keep all k component result apart here first rest =
    subst (λ (names : List Name). Clears (is_tidied_of final keep old.story.now.live names) old new result) (sym here)
    (tidies_next {E = E} final keep component (drop (k + 1) all) result (subst AreNamesApart here (names_apart_at all k apart)).0 first rest)

-- That of a place was refused.
pub tidies_stop : {E F : Type 0} {old new : World} (final keep : Bool) (all : List Name) (k : ℕ) (component : Name) (fault : E) (told : F) → drop k all ≡ component ∷ drop (k + 1) all
    → Clears (is_tidied component final keep old.story.now.live) old new (Err fault) → Clears (is_tidied_of final keep old.story.now.live (drop k all)) old new (Err told)
tidies_stop {E} {F} {old} {new} final keep all k component fault told here clears =
    subst (λ (names : List Name). Clears (is_tidied_of final keep old.story.now.live names) old new (Err told)) (sym here)
    (clears_stop (is_tidied component final keep old.story.now.live) (is_tidied_of final keep old.story.now.live (component ∷ drop (k + 1) all)) fault told
    (λ n goes. so_left _ (is_tidied_of final keep old.story.now.live (drop (k + 1) all) n) goes) clears)
