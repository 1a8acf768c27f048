-- Files that are handed out to parts name by name.
use Rattle.std.proofs.Common.{◌≡◌, ◌⊎◌, inl, inr, ⊎_elim, ℕ, zero, suc, ◌+◌, ◌<◌, ◌≢◌, ◌||◌, Bool, true, false, not, map, List, [], ◌∷◌, ◌++◌, length, length-append, get_or, refl, sym, ◌∙◌, ap, is_some, arith}
use Rattle.std.specs.Prelude.{Option, Some, None, Vec, if◌then◌else◌, slice_get, slice_set, All}
use Rattle.std.specs.BTreeMap.{BTreeMap}
use Rattle.std.specs.declared.alloc.Global.{Global}
use Rattle.std.proofs.lemmas.Option.{slice_get-get_or, slice_get_within}
use Rattle.folder_base.specs.Disk.{Name, File, Names, put}
use Rattle.folder_base.specs.Files.{names_of, if_none, without}
use Rattle.folder_base.specs.Index.{IsIndex, FindsPart}
use Rattle.folder_base.specs.Line.{line_tale, line_names, AreLines}
use Rattle.folder_base.specs.Log.{log_story, left}
use Rattle.folder_base.specs.Merge.{Files}
use Rattle.folder_base.specs.Tale.{part_tale}
use Rattle.folder_base.specs.declared.line.Line.{Line}
use Rattle.folder_base.specs.declared.log.Log.{Log}
use Rattle.folder_base.specs.declared.side.Side.TheVariants.{Rest}
use Rattle.std.proofs.lemmas.Grind.{common_steps}
use Rattle.std.proofs.lemmas.List.{map-append}
use Rattle.std.proofs.lemmas.List.Elements.{All-head, All-tail, All-cons}
use Rattle.folder_base.specs.Parts.{is_part, is_in_some, AreApart}
use Rattle.folder_base.specs.Split.{part_names, AreEmpty, GivesPart, without_all}
use Rattle.folder_base.proofs.Copied.{laid, laid_more}
use Rattle.folder_base.proofs.Images.{put_here, put_there, same_or_not}
use Rattle.folder_base.proofs.Disjoint.{disjoint}
use Rattle.folder_base.proofs.Merging.{in_some}
use Rattle.folder_base.proofs.Parted.{AreDisjoint}
use Rattle.folder_base.proofs.Listed.{key_names, keys_stand}

-- a part's names among these
abbrev pub portion : Name → List Name → Names → Names
portion stem front names = part_names stem (laid front names (λ _. None))

pub record HasSplit (stems front : List Name) (names : Names) (split : List Files) : Type 0 where
  pub many : length split ≡ length stems
  pub each : (at : ℕ) (stem : Name) (files : Files) → slice_get stems at ≡ Some stem → slice_get split at ≡ Some files → names_of files ≡ portion stem front names

module _ (stem name : Name) (front : List Name) (names : Names) where
  abbrev before : Names
  before = laid front names (λ _. None)

  abbrev after : Names
  after = laid (front ++ name ∷ []) names (λ _. None)

  after_is : after ≡ put before name (names name)
  after_is = laid_more front names (λ _. None) name

  pub own_more : is_part stem name ≡ true → portion stem (front ++ name ∷ []) names ≡ put (portion stem front names) name (names name)
  own_more own = λ i n. by n i
    where
      by : (n : Name) → portion stem (front ++ name ∷ []) names n ≡ put (portion stem front names) name (names name) n
      by n = elim (same_or_not name n) [
        | inl same ↦
            ap (λ (b : Bool). if b then after n else None) (ap (is_part stem) (sym same.1) ∙ own) ∙ ap (λ (m : Names). m n) after_is
            ∙ ap (put before name (names name)) (sym same.1) ∙ put_here before name (names name) ∙ sym (put_here (portion stem front names) name (names name)) ∙ ap (put (portion stem front names) name (names name)) same.1
        | inr differs ↦
            ap (λ (o : Option File). if is_part stem n then o else None) (ap (λ (m : Names). m n) after_is ∙ put_there before name n (names name) differs)
            ∙ sym (put_there (portion stem front names) name n (names name) differs)
      ]

  pub other_more : is_part stem name ≡ false → portion stem (front ++ name ∷ []) names ≡ portion stem front names
  other_more other = λ i n. by n i
    where
      by : (n : Name) → portion stem (front ++ name ∷ []) names n ≡ portion stem front names n
      by n = elim (same_or_not name n) [
        | inl same ↦
            let not_own : is_part stem n ≡ false = ap (is_part stem) (sym same.1) ∙ other in
            ap (λ (b : Bool). if b then after n else None) not_own ∙ sym (ap (λ (b : Bool). if b then before n else None) not_own)
        | inr differs ↦ ap (λ (o : Option File). if is_part stem n then o else None) (ap (λ (m : Names). m n) after_is ∙ put_there before name n (names name) differs)
      ]

  -- a name more, whichever part it is given to
  pub split_more : (own : Bool) → is_part stem name ≡ own → (given : Names) → given ≡ portion stem front names → (if own then put given name (names name) else given) ≡ portion stem (front ++ name ∷ []) names
  split_more true e given is = ap (λ (m : Names). put m name (names name)) is ∙ sym (own_more e)
  split_more false e given is = is ∙ sym (other_more e)

pub split_whole : (stem : Name) (files : Files) → portion stem (key_names files) (names_of files) ≡ part_names stem (names_of files)
split_whole stem files = λ i n. ap (λ (o : Option File). if is_part stem n then o else None) (ap (λ (b : Bool). if b then names_of files n else None) (keys_stand n files) ∙ by (names_of files n)) i
  where
    by : (o : Option File) → (if is_some o then o else None) ≡ o
    by None = refl
    by (Some f) = refl

none_in : (stem n : Name) (b : Bool) → None ≡ (if b then (let v : Option File = None in v) else None)
none_in stem n true = refl
none_in stem n false = refl

pub split_none : (stems : List Name) (names : Names) (split : List Files) → AreEmpty stems split → HasSplit stems [] names split
split_none stems names split empty = record {
  many = empty.many;
  each = λ at stem files stands is. empty.each at files is ∙ (λ i n. none_in stem n (is_part stem n) i);
}

pub empty_more : (stems : List Name) (stem : Name) (split : List Files) (files : Files) → AreEmpty stems split → names_of files ≡ (λ _. None) → AreEmpty (stems ++ stem ∷ []) (split ++ files ∷ [])
empty_more stems stem split files empty none = record {
  many = length-append split (files ∷ []) ∙ ap (λ (n : ℕ). n + 1) empty.many ∙ sym (length-append stems (stem ∷ []));
  each = λ at f is. ⊎_elim (λ before. empty.each at f before) (λ (last : files ≡ f). ap names_of (sym last) ∙ none) (last_or split files at f is);
}
  where
    last_or : (l : List Files) (x : Files) (at : ℕ) (f : Files) → slice_get (l ++ x ∷ []) at ≡ Some f → (slice_get l at ≡ Some f) ⊎ (x ≡ f)
    last_or [] x zero f e = inr (let h : x ≡ f = cc in h)
    last_or [] x (suc at) f e = absurd (cc)
    last_or (y ∷ l) x zero f e = inl e
    last_or (y ∷ l) x (suc at) f e = last_or l x at f e

set_here : (l : List Files) (at : ℕ) (x before : Files) → slice_get l at ≡ Some before → slice_get (slice_set l at x) at ≡ Some x
set_here [] at x before e = absurd (cc)
set_here (y ∷ l) zero x before e = refl
set_here (y ∷ l) (suc at) x before e = set_here l at x before e

set_cases : (l : List Files) (i j : ℕ) (x before after : Files) → slice_get l j ≡ Some before → slice_get (slice_set l i x) j ≡ Some after → (j ≡ i) ⊎ (after ≡ before)
set_cases [] i j x before after e f = absurd (cc)
set_cases (y ∷ l) zero zero x before after e f = inl refl
set_cases (y ∷ l) zero (suc j) x before after e f = inr (let h : after ≡ before = cc in h)
set_cases (y ∷ l) (suc i) zero x before after e f = inr (let h : after ≡ before = cc in h)
set_cases (y ∷ l) (suc i) (suc j) x before after e f = ⊎_elim (λ same. inl (ap suc same)) (λ same. inr same) (set_cases l i j x before after e f)

set_many : (l : List Files) (i : ℕ) (x : Files) → length (slice_set l i x) ≡ length l
set_many [] i x = refl
set_many (y ∷ l) zero x = refl
set_many (y ∷ l) (suc i) x = ap suc (set_many l i x)

pub two_parts : (stems : List Name) → AreDisjoint stems → (i j : ℕ) (a b name : Name) → slice_get stems i ≡ Some a → slice_get stems j ≡ Some b → is_part a name ≡ true → is_part b name ≡ true → i ≡ j
two_parts [] apart i j a b name e f own_a own_b = absurd (cc)
two_parts (stem ∷ stems) apart zero zero a b name e f own_a own_b = refl
two_parts (stem ∷ stems) apart zero (suc j) a b name e f own_a own_b =
    let same : stem ≡ a = cc in
    let not_own : is_part stem name ≡ false = apart.0 name (in_some stems j b name f own_b) in
    let own : is_part stem name ≡ true = ap (λ (s : Name). is_part s name) same ∙ own_a in
    absurd (cc)
two_parts (stem ∷ stems) apart (suc i) zero a b name e f own_a own_b =
    let same : stem ≡ b = cc in
    let not_own : is_part stem name ≡ false = apart.0 name (in_some stems i a name e own_a) in
    let own : is_part stem name ≡ true = ap (λ (s : Name). is_part s name) same ∙ own_b in
    absurd (cc)
two_parts (stem ∷ stems) apart (suc i) (suc j) a b name e f own_a own_b = ap suc (two_parts stems apart.1 i j a b name e f own_a own_b)

module _ (names : Names) (name : Name) (index : BTreeMap (Vec ℕ Global) ℕ) (old : List Files) where
  -- the part that answers for the name is given it
  pub gives_there : (at : ℕ) (item given : Files) → slice_get old at ≡ Some item → names_of given ≡ put (names_of item) name (names name)
      → ((stems : List Name) → IsIndex stems index → FindsPart stems name (Some at)) → GivesPart names name index old (slice_set old at given)
  gives_there at item given stands given_is finds = record {
    many = set_many old at given;
    each = λ stems is apart many j stem before after stem_is before_is after_is. by stems (finds stems is) apart j stem before after stem_is before_is after_is (is_part stem name) refl;
  }
    where
      by : (stems : List Name) → FindsPart stems name (Some at) → AreApart stems → (j : ℕ) (stem : Name) (before after : Files) → slice_get stems j ≡ Some stem → slice_get old j ≡ Some before
          → slice_get (slice_set old at given) j ≡ Some after → (own : Bool) → is_part stem name ≡ own → names_of after ≡ (if is_part stem name then put (names_of before) name (names name) else names_of before)
      by stems found apart j stem before after stem_is before_is after_is true own =
          let same : j ≡ at = two_parts stems (disjoint stems apart) j at stem found.0 name stem_is found.1 own found.2 in
          let here : slice_get (slice_set old at given) at ≡ Some given = set_here old at given item stands in
          let there : slice_get (slice_set old at given) at ≡ Some after = ap (slice_get (slice_set old at given)) (sym same) ∙ after_is in
          let after_given : given ≡ after = cc in
          let item_there : slice_get old at ≡ Some before = ap (slice_get old) (sym same) ∙ before_is in
          let item_before : item ≡ before = cc in
          ap names_of (sym after_given) ∙ given_is ∙ ap (λ (f : Files). put (names_of f) name (names name)) item_before
          ∙ sym (ap (λ (b : Bool). if b then put (names_of before) name (names name) else names_of before) own)
      by stems found apart j stem before after stem_is before_is after_is false other = ⊎_elim
          (λ same. absurd (let here : slice_get stems at ≡ Some stem = ap (slice_get stems) (sym same) ∙ stem_is in let stem_found : stem ≡ found.0 = cc_some stem found.0 (sym here ∙ found.1) in bad (sym other ∙ ap (λ (s : Name). is_part s name) stem_found ∙ found.2)))
          (λ same. ap names_of same ∙ sym (ap (λ (b : Bool). if b then put (names_of before) name (names name) else names_of before) other))
          (set_cases old at j given before after before_is after_is)
        where
          bad : false ≡ true → ⊥
          bad e = absurd (cc)

          cc_some : (a b : Name) → Some a ≡ Some b → a ≡ b
          cc_some a b e = cc

  -- no part answers for it
  pub gives_none : ((stems : List Name) → IsIndex stems index → length old ≡ length stems → (at : ℕ) (stem : Name) → slice_get stems at ≡ Some stem → is_part stem name ≡ false) → GivesPart names name index old old
  gives_none none = record {
    many = refl;
    each = λ stems is apart many j stem before after stem_is before_is after_is.
        ap names_of (cc_files after before (sym after_is ∙ before_is)) ∙ sym (ap (λ (b : Bool). if b then put (names_of before) name (names name) else names_of before) (none stems is many j stem stem_is));
  }
    where
      cc_files : (a b : Files) → Some a ≡ Some b → a ≡ b
      cc_files a b e = cc

pub not_in_some : (stems : List Name) (at : ℕ) (stem name : Name) → is_in_some stems name ≡ false → slice_get stems at ≡ Some stem → is_part stem name ≡ false
not_in_some stems at stem name none is = by (is_part stem name) refl
  where
    by : (b : Bool) → is_part stem name ≡ b → is_part stem name ≡ false
    by true e = let some : is_in_some stems name ≡ true = in_some stems at stem name is e in absurd (cc)
    by false e = e

pub split_step : (stems front : List Name) (name : Name) (names : Names) (index : BTreeMap (Vec ℕ Global) ℕ) (old new : List Files) → IsIndex stems index → AreApart stems
    → HasSplit stems front names old → GivesPart names name index old new → HasSplit stems (front ++ name ∷ []) names new
split_step stems front name names index old new is apart has gives = record {
  many = gives.many ∙ has.many;
  each = λ at stem files stem_is files_is.
      let within : at < length new = slice_get_within new at files files_is in
      let before : slice_get old at ≡ Some (get_or old at files) = slice_get-get_or old at files (omega (arith, within, gives.many)) in
      gives.each stems is apart has.many at stem (get_or old at files) files stem_is before files_is
      ∙ split_more stem name front names (is_part stem name) refl (names_of (get_or old at files)) (has.each at stem (get_or old at files) stem_is before);
}

pub without_more : (front : List Names) (names others : Names) → without_all (front ++ names ∷ []) others ≡ without names (without_all front others)
without_more [] names others = refl
without_more (first ∷ front) names others = without_more front names (without first others)

none_without : (o : Option File) → if_none o None ≡ None
none_without None = refl
none_without (Some f) = refl

-- Without the names of all parts, the others are left.
pub left_over : (stems : List Name) (live names : Names) → ((n : Name) → (names n ≡ live n) ⊎ (names n ≡ None)) → without_all (map (λ stem. part_names stem live) stems) names ≡ (λ n. if is_in_some stems n then None else names n)
left_over [] live names within = refl
left_over (stem ∷ stems) live names within =
    left_over stems live (without (part_names stem live) names) (λ n. still n (is_part stem n) (within n)) ∙ (λ i n. by n (is_part stem n) refl (is_in_some stems n) (within n) i)
  where
    one : (o v : Option File) → (v ≡ o) ⊎ (v ≡ None) → if_none o v ≡ None
    one None v (inl e) = e
    one None v (inr e) = e
    one (Some f) v h = refl

    still : (n : Name) (b : Bool) → (names n ≡ live n) ⊎ (names n ≡ None) → (if_none (if b then live n else None) (names n) ≡ live n) ⊎ (if_none (if b then live n else None) (names n) ≡ None)
    still n true h = inr (one (live n) (names n) h)
    still n false h = h

    by : (n : Name) (b : Bool) → is_part stem n ≡ b → (c : Bool) → (names n ≡ live n) ⊎ (names n ≡ None)
        → (if c then None else if_none (part_names stem live n) (names n)) ≡ (if (is_part stem n || c) then None else names n)
    by n true e c h =
        ap (λ (o : Option File). if c then None else if_none o (names n)) (ap (λ (b : Bool). if b then live n else None) e) ∙ ap (λ (o : Option File). if c then None else o) (one (live n) (names n) h)
        ∙ both c ∙ sym (ap (λ (b : Bool). if (b || c) then None else names n) e)
      where
        both : (c : Bool) → (if c then None else None) ≡ (let v : Option File = None in v)
        both true = refl
        both false = refl
    by n false e c h =
        ap (λ (o : Option File). if c then None else if_none o (names n)) (ap (λ (b : Bool). if b then live n else None) e)
        ∙ sym (ap (λ (b : Bool). if (b || c) then None else names n) e)

-- one part's line more
pub lines_more : (log : Log) (front : List Name) (lines : List Line) (stem : Name) (line : Line) → AreLines log front lines → line_tale line ≡ part_tale (log_story log).now stem → line.log.value.plan ≡ log.plan → line.side ≢ Rest
    → names_of line.files ≡ part_names stem (log_story log).now.live → AreLines log (front ++ stem ∷ []) (lines ++ line ∷ [])
lines_more log front lines stem line are tale_is plan_is part files_is = record {
  tales = map-append line_tale lines (line ∷ []) ∙ (λ i. are.tales i ++ tale_is i ∷ []) ∙ sym (map-append (part_tale (log_story log).now) front (stem ∷ []));
  plans = all_more (λ (l : Line). l.log.value.plan ≡ log.plan) lines line are.plans plan_is;
  parts = all_more (λ (l : Line). l.side ≢ Rest) lines line are.parts part;
  files = map-append (λ (l : Line). names_of l.files) lines (line ∷ []) ∙ (λ i. are.files i ++ files_is i ∷ []) ∙ sym (map-append (λ (s : Name). part_names s (log_story log).now.live) front (stem ∷ []));
}
  where
    all_more : (P : Line → Type 0) (l : List Line) (x : Line) → All P l → P x → All P (l ++ x ∷ [])
    all_more P [] x all here = λ k d lt. grind (arith, common_steps)
    all_more P (y ∷ l) x all here = All-cons P y (l ++ x ∷ []) (All-head P y l all) (all_more P l x (All-tail P y l all) here)

pub at_seam : (front : List Files) (x : Files) (back : List Files) → slice_get (front ++ x ∷ back) (length front) ≡ Some x
at_seam [] x back = refl
at_seam (y ∷ front) x back = at_seam front x back

-- What the parts leave is what stands outside them.
pub outside_left : (log : Log) (lines : List Line) → AreLines log log.stems.items lines → (names : Names) → names ≡ (log_story log).now.live
    → without_all (line_names lines) names ≡ (left log.stems.items (log_story log)).now.live
outside_left log lines are names is =
    (λ i. without_all (are.files i) (is i)) ∙ left_over log.stems.items (log_story log).now.live (log_story log).now.live (λ n. inl refl) ∙ (λ i n. turn (is_in_some log.stems.items n) ((log_story log).now.live n) i)
  where
    turn : (b : Bool) (o : Option File) → (if b then None else o) ≡ (if not b then o else None)
    turn true o = refl
    turn false o = refl

pub outside_own : (b : Bool) (o : Option File) → not b ≡ false → (if not b then o else None) ≡ None
outside_own true o e = refl
outside_own false o e = absurd (cc)
