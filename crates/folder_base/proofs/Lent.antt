-- What a file that was lent from a map leaves there.
use Rattle.std.proofs.Common.{◌≡◌, ◌≢◌, inl, inr, is_some, Bool, true, false, refl, sym, ◌∙◌, ap, String, BTreeMap, Some, None}
use Rattle.std.specs.Prelude.{Option, option_map, if◌then◌else◌}
use Rattle.std.specs.BTreeMap.{UpdatesBy, get_by_text}
use Rattle.std.specs.Str.{bytes_eq}
use Rattle.std.specs.String.{string_cmp, string_bytes}
use Rattle.std.specs.Ordering.{nat_cmp}
use Rattle.std.specs.Cmp.Lexicographic.{slice_cmp}
use Rattle.std.specs.declared.alloc.Global.{Global}
use Rattle.std.proofs.lemmas.Map.Text.{btree_map_updates_text}
use Rattle.folder_base.specs.Disk.{Name, File, Names, put}
use Rattle.folder_base.proofs.Images.{put_elim, put_here, put_there, same_or_not}
use Rattle.folder_base.specs.Stored.{file_of}
use Rattle.folder_base.specs.Files.{names_of, changed_name}
use Rattle.folder_base.specs.declared.stored.Stored.{Stored}

map_if : (b : Bool) (v : Option Stored) (o : Option Stored) → option_map file_of (if b then v else o) ≡ (if b then option_map file_of v else option_map file_of o)
map_if true v o = refl
map_if false v o = refl

pub updated : (name : Name) (old new : BTreeMap (String Global) Stored) (w : Option Stored) → UpdatesBy string_cmp (λ k. slice_cmp nat_cmp name (string_bytes k)) old new w
    → names_of new ≡ put (names_of old) name (option_map file_of w)
updated name old new w updates = λ i n. (ap (λ (o : Option Stored). option_map file_of o) (btree_map_updates_text name old new w updates n) ∙ map_if (bytes_eq name n) w (get_by_text old n)) i

pub put_same : (m : Names) (name : Name) (v : Option File) → m name ≡ v → put m name v ≡ m
put_same m name v is = λ i n. put_elim (λ o. o ≡ m n) m name v n (λ same. sym is ∙ ap m same) (λ differs. refl) i

-- a name that does not stand
pub none_changed : (name : Name) (change : File → File) (files : BTreeMap (String Global) Stored) → get_by_text files name ≡ None → names_of files ≡ changed_name name change (names_of files)
none_changed name change files none = sym (put_same (names_of files) name (option_map change (names_of files name))
    (ap (λ (o : Option Stored). option_map file_of o) none ∙ sym (ap (λ (o : Option Stored). option_map change (option_map file_of o)) none)))

module _ (name : Name) (old new : BTreeMap (String Global) Stored) (w s : Stored) (was : get_by_text old name ≡ Some s) (updates : UpdatesBy string_cmp (λ k. slice_cmp nat_cmp name (string_bytes k)) old new (Some w)) where
  pub set_to : (change : File → File) → file_of w ≡ change (file_of s) → names_of new ≡ changed_name name change (names_of old)
  set_to change is = updated name old new (Some w) updates ∙ ap (λ (o : Option File). put (names_of old) name o) (ap (λ (f : File). Some f) is ∙ ap (λ (o : Option Stored). option_map change (option_map file_of o)) (sym was))

  pub kept : file_of w ≡ file_of s → names_of new ≡ names_of old
  kept is = updated name old new (Some w) updates ∙ put_same (names_of old) name (Some (file_of w)) (ap (λ (o : Option Stored). option_map file_of o) was ∙ ap (λ (f : File). Some f) (sym is))

-- The last of two values at one name counts.
again_at : (m : Names) (from to : Name) (e v : Option File) (n : Name) → put (put (put m to e) from None) to v n ≡ put (put m from None) to v n
again_at m from to e v n = elim (same_or_not to n) [
  | inl same ↦ ap (λ (b : Bool). if b then v else put (put m to e) from None n) same.0 ∙ sym (ap (λ (b : Bool). if b then v else put m from None n) same.0)
  | inr differs ↦ put_there (put (put m to e) from None) to n v differs
      ∙ ap (λ (o : Option File). if bytes_eq from n then None else o) (put_there m to n e differs)
      ∙ sym (put_there (put m from None) to n v differs)
]

pub put_again : (m : Names) (from to : Name) (e v : Option File) → put (put (put m to e) from None) to v ≡ put (put m from None) to v
put_again m from to e v = λ i n. again_at m from to e v n i

pub not_same : (from to : Name) → from ≢ to → bytes_eq to from ≡ false
not_same from to apart = elim (same_or_not to from) [ inl same ↦ absurd (apart (sym same.1)) | inr differs ↦ differs ]

pub still_there : (files files' : BTreeMap (String Global) Stored) (from to : Name) (e : Option File) → names_of files' ≡ put (names_of files) to e → from ≢ to
    → names_of files' from ≡ names_of files from
still_there files files' from to e is apart = ap (λ (m : Names). m from) is ∙ put_there (names_of files) to from e (not_same from to apart)

pub stood_name : (files : BTreeMap (String Global) Stored) (name : Name) → is_some (get_by_text files name) ≡ true → is_some (names_of files name) ≡ true
stood_name files name = by (get_by_text files name)
  where
    by : (o : Option Stored) → is_some o ≡ true → is_some (option_map file_of o) ≡ true
    by None e = cc
    by (Some s) e = refl

-- what was made under another name leaves this one
pub not_lost : (files files' : BTreeMap (String Global) Stored) (from to : Name) (e : Option File) → names_of files' ≡ put (names_of files) to e → from ≢ to
    → is_some (get_by_text files from) ≡ true → get_by_text files' from ≡ None → ⊥
not_lost files files' from to e is apart stood gone =
    let here : is_some (names_of files from) ≡ true = stood_name files from stood in
    let none : names_of files' from ≡ None = ap (λ (o : Option Stored). option_map file_of o) gone in
    let same : names_of files' from ≡ names_of files from = still_there files files' from to e is apart in
    absurd (let bad : false ≡ true = ap is_some (sym none ∙ same) ∙ here in cc)

pub made_stands : (m made : Names) (from to : Name) (f : File) → made ≡ put m to (Some f) → from ≢ to → is_some (put made from None to) ≡ true
made_stands m made from to f is apart =
    ap is_some (put_there made from to None (not_same to from (λ e. apart (sym e))) ∙ ap (λ (n : Names). n to) is ∙ put_here m to (Some f))
