-- What is known once one folder's names are others.
use Rattle.std.proofs.Common.{◌≡◌, Bool, true, false, cond, refl, sym, ◌∙◌, ap, String, BTreeMap}
use Rattle.std.specs.Prelude.{Option, Some, None, option_map, bytes_eq, is_err, Result, Ok, Err, OnOk, OnErr, if◌then◌else◌}
use Rattle.std.specs.BTreeMap.{UpdatesBy, get_by_text}
use Rattle.std.specs.String.{string_cmp, string_bytes}
use Rattle.std.specs.Ordering.{nat_cmp}
use Rattle.std.specs.Cmp.Lexicographic.{slice_cmp}
use Rattle.std.specs.declared.alloc.Global.{Global}
use Rattle.std.proofs.lemmas.Map.Text.{btree_map_updates_text}
use Rattle.std.proofs.lemmas.Slice.Eq.{bytes_eq-Decides}
use Rattle.name_listing.specs.Names.{Name, has}
use Rattle.name_listing.specs.Listing.{noted}
use Rattle.name_listing.specs.declared.names.Names.{Names}

abbrev Folders : Type 0
Folders = BTreeMap (String Global) Names

-- what is known by the sets of names
abbrev pub known_in : Folders → Name → Name → Option Bool
known_in folders folder name = option_map (λ names. has names name) (get_by_text folders folder)

-- One folder's names are these, or are not known.
abbrev Sets : Name → Folders → Folders → Option Names → Type 0
Sets folder old new names = UpdatesBy string_cmp (λ k. slice_cmp nat_cmp folder (string_bytes k)) old new names

pub known_by : (folder : Name) (old new : Folders) (names : Option Names) → Sets folder old new names
    → (other name : Name) → known_in new other name ≡ (if bytes_eq folder other then option_map (λ (n : Names). has n name) names else known_in old other name)
known_by folder old new names sets other name =
    ap (λ (o : Option Names). option_map (λ (n : Names). has n name) o) (btree_map_updates_text folder old new names sets other) ∙ by (bytes_eq folder other)
  where
    by : (b : Bool) → option_map (λ (n : Names). has n name) (cond b names (get_by_text old other)) ≡ (if b then option_map (λ (n : Names). has n name) names else known_in old other name)
    by true = refl
    by false = refl

-- A folder whose names were others, and then are not known.
pub forgotten : (folder : Name) (old mid new : Folders) (names : Names) → Sets folder old mid (Some names) → Sets folder mid new None
    → (other name : Name) → known_in new other name ≡ (if bytes_eq folder other then None else known_in old other name)
forgotten folder old mid new names first second other name =
    known_by folder mid new None second other name ∙ ap (λ (o : Option Bool). if bytes_eq folder other then None else o) (known_by folder old mid (Some names) first other name) ∙ by (bytes_eq folder other)
  where
    by : (b : Bool) → (if b then None else (if b then Some (has names name) else known_in old other name)) ≡ (if b then None else known_in old other name)
    by true = refl
    by false = refl

-- Some names were noted in a folder that is known.
pub noted_by : (folder : Name) (share : Name → Bool) (stand : Bool) (old new : Folders) (names after : Names) → get_by_text old folder ≡ Some names → Sets folder old new (Some after)
    → ((one : Name) → has after one ≡ (if share one then stand else has names one)) → (other one : Name) → known_in new other one ≡ noted folder share stand (known_in old) other one
noted_by folder share stand old new names after was sets is other one = known_by folder old new (Some after) sets other one ∙ by (bytes_eq folder other) refl
  where
    by : (b : Bool) → bytes_eq folder other ≡ b
        → (if b then Some (has after one) else known_in old other one) ≡ (if b then option_map (λ (stood : Bool). if share one then stand else stood) (known_in old other one) else known_in old other one)
    by false e = refl
    by true e = ap (λ (b : Bool). Some b) (is one)
        ∙ sym (ap (λ (o : Option Names). option_map (λ (stood : Bool). if share one then stand else stood) (option_map (λ (n : Names). has n one) o))
        (ap (λ (f : Name). get_by_text old f) (sym ((bytes_eq-Decides folder other).0 e)) ∙ was))

-- What holds of an answer that is no error.
pub holds_then : {T E : Type 0} {P : Type 0} (r : Result T E) → is_err r ≡ false → OnOk r P → P
holds_then (Ok x) e h = h
holds_then (Err x) e h = absurd (cc)

-- What holds whatever the error.
pub on_err : {T E : Type 0} {P : Type 0} (r : Result T E) → P → OnErr r P
on_err (Ok x) p = tt
on_err (Err x) p = p
