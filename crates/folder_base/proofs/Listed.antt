-- Names that begin with some bytes, of a map's keys.
use Rattle.std.proofs.Common.{◌≡◌, ◌∙◌, sym, Bool, true, false, ◌&&◌, ◌||◌, List, [], ◌∷◌, ◌++◌, refl, ap, nat_eq, map, string_bytes, String, BTreeMap, is_some, cond, Less, Bor}
use Rattle.std.specs.Prelude.{Option, Some, None, option_map, bytes_eq}
use Rattle.std.specs.List.{starts_with, filter, list_any, AllByRecursion}
use Rattle.std.specs.List.Sorted.{IsStrictlySortedBy}
use Rattle.std.specs.Cmp.Lexicographic.{slice_cmp}
use Rattle.std.specs.Ordering.{nat_cmp}
use Rattle.std.specs.String.{string_cmp}
use Rattle.std.specs.Map.{lookup}
use Rattle.std.specs.BTreeMap.{keys, IsOrdered, is_at}
use Rattle.std.specs.declared.alloc.Global.{Global}
use Rattle.std.proofs.lemmas.List.Kept.{IsStrictlySortedBy-filter}
use Rattle.std.proofs.lemmas.List.{map-append}
use Rattle.std.proofs.lemmas.Slice.Eq.{bytes_eq-Decides}
use Rattle.std.proofs.lemmas.Cmp.{nat_list_eq_equiv}
use Rattle.std.proofs.lemmas.Map.Text.{is_eq-slice_cmp}
use Rattle.std.proofs.lemmas.Map.Views.{Contains-from_any, list_any-from_Contains}
use Rattle.folder_base.specs.Disk.{Name, begins}
use Rattle.folder_base.specs.Files.{names_of}
use Rattle.folder_base.specs.Stored.{file_of}
use Rattle.folder_base.specs.Names.{Lists}
use Rattle.folder_base.specs.declared.stored.Stored.{Stored}

pub begins_is : (prefix name : Name) → starts_with nat_eq name prefix ≡ begins prefix name
begins_is [] name = refl
begins_is (c ∷ cs) [] = refl
begins_is (c ∷ cs) (d ∷ ds) = ap (λ (b : Bool). nat_eq c d && b) (begins_is cs ds)

abbrev Entries : Type 0
Entries = List (String Global × Stored)

abbrev pub key_names : BTreeMap (String Global) Stored → List Name
key_names files = map (λ key. string_bytes key) (keys files)

above : (name : String Global) (all : List (String Global)) → AllByRecursion (λ other. string_cmp name other ≡ Less) all
    → AllByRecursion (λ other. slice_cmp nat_cmp (string_bytes name) other ≡ Less) (map (λ key. string_bytes key) all)
above name [] h = h
above name (first ∷ all) h = (h.0, above name all h.1)

in_order : (all : List (String Global)) → IsStrictlySortedBy string_cmp all → IsStrictlySortedBy (slice_cmp nat_cmp) (map (λ key. string_bytes key) all)
unfolding IsStrictlySortedBy
in_order [] h = h
in_order (first ∷ all) h = (above first all h.0, in_order all h.1)

or_is : (a b : Bool) (o : Option Stored) (s : Stored) → b ≡ is_some o → (a || b) ≡ is_some (cond a (Some s) o)
or_is true b o s e = refl
or_is false b o s e = e

-- a look-up finds just the keys
found_is : (name : Name) (entries : Entries) → list_any (bytes_eq name) (map (λ key. string_bytes key) (map (λ entry. entry.0) entries))
    ≡ is_some (lookup (is_at (λ key. slice_cmp nat_cmp name (string_bytes key))) entries)
found_is name [] = refl
found_is name (entry ∷ entries) =
    ap (λ (b : Bool). b || list_any (bytes_eq name) (map (λ key. string_bytes key) (map (λ e. e.0) entries))) (sym (is_eq-slice_cmp name (string_bytes entry.0)))
    ∙ or_is (is_at (λ key. slice_cmp nat_cmp name (string_bytes key)) entry.0) (list_any (bytes_eq name) (map (λ key. string_bytes key) (map (λ e. e.0) entries)))
    (lookup (is_at (λ key. slice_cmp nat_cmp name (string_bytes key))) entries) entry.1 (found_is name entries)

is_some_map : (o : Option Stored) → is_some o ≡ is_some (option_map file_of o)
is_some_map None = refl
is_some_map (Some s) = refl

-- one name, and the rest, by whether it passes
one_more : (a t b c : Bool) (name first : Name) (rest : List Name) → bytes_eq name first ≡ a → list_any (bytes_eq name) rest ≡ (t && c)
    → (a ≡ true → b ≡ t) → list_any (bytes_eq name) (cond b (first ∷ rest) rest) ≡ (t && (a || c))
one_more true t true c name first rest is after same = ap (λ (v : Bool). v || list_any (bytes_eq name) rest) is ∙ ap (λ (v : Bool). v && true) (same refl)
one_more true t false c name first rest is after same = after ∙ ap (λ (v : Bool). v && c) (sym (same refl)) ∙ ap (λ (v : Bool). v && true) (same refl)
one_more false t true c name first rest is after same = ap (λ (v : Bool). v || list_any (bytes_eq name) rest) is ∙ after
one_more false t false c name first rest is after same = after

none_left : (b : Bool) → false ≡ (b && false)
none_left true = refl
none_left false = refl

-- of those that pass a test
any_filter : (name : Name) (test : Name → Bool) (all : List Name) → list_any (bytes_eq name) (filter test all) ≡ (test name && list_any (bytes_eq name) all)
any_filter name test [] = none_left (test name)
any_filter name test (first ∷ all) =
    one_more (bytes_eq name first) (test name) (test first) (list_any (bytes_eq name) all) name first (filter test all) refl (any_filter name test all)
    (λ same. ap test (sym ((bytes_eq-Decides name first).0 same)))

-- A name is among the keys where it stands.
pub keys_stand : (name : Name) (files : BTreeMap (String Global) Stored) → list_any (bytes_eq name) (key_names files) ≡ is_some (names_of files name)
keys_stand name files = found_is name files.entries ∙ is_some_map (lookup (is_at (λ key. slice_cmp nat_cmp name (string_bytes key))) files.entries)

both_so : (a b : Bool) → (a && b) ≡ true → (a ≡ true) × (b ≡ true)
both_so true b e = (refl, e)
both_so false b e = cc

so_both : (a b : Bool) → a ≡ true → b ≡ true → (a && b) ≡ true
so_both a b e f = (λ i. e i && f i)

pub lists_these : (prefix : Name) (files : BTreeMap (String Global) Stored) → IsOrdered string_cmp files → Lists prefix (names_of files) (filter (begins prefix) (key_names files))
lists_these prefix files ordered = record {
  each = λ name. (
    λ has. both_so (begins prefix name) (is_some (names_of files name)) (sym (listed name) ∙ list_any-from_Contains nat_list_eq_equiv name (filter (begins prefix) (key_names files)) has),
    λ h. Contains-from_any (λ x y. (bytes_eq-Decides x y).0) name (filter (begins prefix) (key_names files)) (listed name ∙ so_both (begins prefix name) (is_some (names_of files name)) h.0 h.1),
  );
  ordered = IsStrictlySortedBy-filter (slice_cmp nat_cmp) (begins prefix) (key_names files) (in_order (keys files) ordered);
}
  where
    listed : (name : Name) → list_any (bytes_eq name) (filter (begins prefix) (key_names files)) ≡ (begins prefix name && is_some (names_of files name))
    listed name = any_filter name (begins prefix) (key_names files)
        ∙ ap (λ (b : Bool). begins prefix name && b) (keys_stand name files)

pub map_twice : (all : List (Bor (String Global))) → map (λ key. string_bytes key.now) all ≡ map (λ key. string_bytes key) (map (λ key. key.now) all)
map_twice [] = refl
map_twice (first ∷ all) = ap (λ (l : List Name). string_bytes first.now ∷ l) (map_twice all)

-- a map's keys, as far as they have been gone through
pub keys_so_far : (files : BTreeMap (String Global) Stored) (front : List (Bor (String Global))) (rest : List (String Global))
    → map (λ key. key.now) front ++ rest ≡ keys files → map (λ key. string_bytes key.now) front ++ map (λ key. string_bytes key) rest ≡ key_names files
keys_so_far files front rest is =
    ap (λ (l : List Name). l ++ map (λ key. string_bytes key) rest) (map_twice front)
    ∙ sym (map-append (λ (key : String Global). string_bytes key) (map (λ key. key.now) front) rest) ∙ ap (map (λ key. string_bytes key)) is
