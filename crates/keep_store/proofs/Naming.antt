-- The names of a piece: which they are, and whose.
use Rattle.std.proofs.Common.{◌≡◌, inl, inr, ⊎_elim, ℕ, ◌-◌, Bool, true, false, IsTrue, [], ◌∷◌, ◌++◌, length, take, drop, length-drop, eq-eqb, refl, sym, ◌∙◌, ap, subst, arith, append_assoc}
use Rattle.std.specs.Prelude.{Option, Some, None, ◌||◌, ◌&&◌, not, bytes_eq, nat_eq}
use Rattle.std.specs.Option.{option_map_or}
use Rattle.std.specs.List.{starts_with}
use Rattle.std.proofs.lemmas.Bool.Decides.{nat_tests}
use Rattle.std.proofs.lemmas.List.{take_all}
use Rattle.folder_base.specs.Disk.{Name, begins}
use Rattle.folder_base.specs.Parts.{is_part, is_in_some}
use Rattle.folder_base.specs.Story.{World, Part, is_own, stems}
use Rattle.folder_base.proofs.Images.{same_or_not, same_name}
use Rattle.folder_base.proofs.Listed.{begins_is}
use Rattle.keep_store.specs.Promise.{promise_prefix, promising, IsNameOf}
use Rattle.keep_store.specs.Publish.{Stays}
use Rattle.keep_store.specs.Lane.{IsLaneFolder}
use Rattle.keep_store.specs.Opening.{OwnsPromises}

same_byte : (c d : ℕ) → nat_eq c d ≡ true → c ≡ d
same_byte c d is = grind (arith, nat_tests)

and_parts : (a b : Bool) → (a && b) ≡ true → (a ≡ true) × (b ≡ true)
and_parts true true e = (refl, refl)
and_parts true false e = absurd (cc)
and_parts false b e = absurd (cc)

pub begins_split : (prefix name : Name) → begins prefix name ≡ true → name ≡ prefix ++ drop (length prefix) name
begins_split [] name e = refl
begins_split (c ∷ cs) [] e = absurd (cc)
begins_split (c ∷ cs) (d ∷ ds) e = let h = and_parts (nat_eq c d) (begins cs ds) e in (λ i. sym (same_byte c d h.0) i ∷ begins_split cs ds h.1 i)

pub begins_all : (a b : Name) → begins a (a ++ b) ≡ true
begins_all [] b = refl
begins_all (c ∷ a) b = (λ i. eq-eqb c c refl i && begins_all a b i)

-- what is behind a name's beginning, as it is cut off
pub behind_is : (prefix name prefix' name' : Name) → prefix' ≡ prefix → name' ≡ name → starts_with nat_eq name' prefix' ≡ true → name ≡ prefix ++ take (length name' - length prefix') (drop (length prefix') name')
behind_is prefix name prefix' name' same also is = split ∙ (λ i. prefix ++ take (length (sym also i) - length (sym same i)) (drop (length (sym same i)) (sym also i)))
  where
    begins_so : begins prefix name ≡ true
    begins_so = sym (begins_is prefix name) ∙ (λ i. starts_with nat_eq (sym also i) (sym same i)) ∙ is

    split : name ≡ prefix ++ take (length name - length prefix) (drop (length prefix) name)
    split = begins_split prefix name begins_so ∙ ap (λ (b : Name). prefix ++ b) (sym (take_all (length name - length prefix) (drop (length prefix) name) (omega (arith, length-drop (length prefix) name))))

pub not_behind : (prefix name prefix' name' : Name) → prefix' ≡ prefix → name' ≡ name → starts_with nat_eq name' prefix' ≡ false → begins prefix name ≡ false
not_behind prefix name prefix' name' same also is = sym (begins_is prefix name) ∙ (λ i. starts_with nat_eq (sym also i) (sym same i)) ∙ is

or_left : (a b : Bool) → a ≡ true → (a || b) ≡ true
or_left true b h = refl
or_left false b h = cc

or_right : (a b : Bool) → b ≡ true → (a || b) ≡ true
or_right true b h = refl
or_right false b h = h

named_part : (stem name : Name) → IsNameOf stem name → is_part stem name ≡ true
named_part stem name (inl is) = or_left (bytes_eq stem name) (begins (stem ++ 46 ∷ []) name) (subst (λ (n : Name). bytes_eq stem n ≡ true) (sym is) (same_name stem))
named_part stem name (inr is) = or_right (bytes_eq stem name) (begins (stem ++ 46 ∷ []) name)
    (subst (λ (n : Name). begins (stem ++ 46 ∷ []) n ≡ true) (sym (is.is ∙ dotted)) (begins_all (stem ++ 46 ∷ []) (64 ∷ is.digits)))
  where
    dotted : promising stem is.digits ≡ (stem ++ 46 ∷ []) ++ (64 ∷ is.digits)
    dotted = append_assoc stem (46 ∷ 64 ∷ []) is.digits ∙ sym (append_assoc stem (46 ∷ []) (64 ∷ is.digits))

-- A lane's folder answers for each name of its piece.
pub own_name : (stem name : Name) (world : World) → IsLaneFolder stem world → IsNameOf stem name → IsTrue (is_own world name)
own_name stem name world is named = (λ i. option_map_or (λ (part : Part). is_part part.stem name) world.part true && not (is_in_some (stems (is.none_out i)) name)) ∙ and_true (by world.part is.part)
  where
    and_true : {b : Bool} → b ≡ true → (b && true) ≡ true
    and_true {b} e = ap (λ (v : Bool). v && true) e

    by : (part : Option Part) → option_map_or (λ (part : Part). bytes_eq part.stem stem) part true ≡ true → option_map_or (λ (part : Part). is_part part.stem name) part true ≡ true
    by None e = refl
    by (Some part) e = ⊎_elim (λ same. subst (λ (s : Name). is_part s name ≡ true) (sym same.1) (named_part stem name named)) (λ apart. absurd (let x = apart in cc)) (same_or_not part.stem stem)

-- It still does once calls were made.
pub folder_after : (stem : Name) (old new : World) → Stays old new → IsLaneFolder stem old → IsLaneFolder stem new
folder_after stem old new stays is = record {
  none_out = stays.out ∙ is.none_out;
  part = ap (λ (p : Option Part). option_map_or (λ (part : Part). bytes_eq part.stem stem) p true) stays.part ∙ is.part;
}

pub own_after : (stem name : Name) (old new : World) → Stays old new → (IsTrue old.tells → IsLaneFolder stem old) → IsNameOf stem name → IsTrue new.tells → IsTrue (is_own new name)
own_after stem name old new stays is named t = own_name stem name new (folder_after stem old new stays (is (stays.tells t))) named

pub owns_after : (stem : Name) (old new : World) → Stays old new → (IsTrue old.tells → IsLaneFolder stem old) → OwnsPromises (promise_prefix stem) new
owns_after stem old new stays is digits number t = own_after stem (promising stem digits) old new stays is (inr (record { digits = digits; number = number; is = refl })) t
