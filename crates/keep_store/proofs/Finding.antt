-- How a standing promise is found.
use Rattle.std.proofs.Common.{◌≡◌, ⊎_elim, ℕ, zero, suc, ◌+◌, ◌<◌, ◌≤◌, ◌^◌, Bool, true, false, List, [], ◌∷◌, ◌++◌, length, get_or, refl, sym, ◌∙◌, ap, subst, arith}
use Rattle.std.specs.Prelude.{Option, Some, None, ⊤, MatchOption, IfSome, IfNone, option_map, nat_le, if◌then◌else◌}
use Rattle.std.proofs.lemmas.Bool.{cases_lt}
use Rattle.std.proofs.lemmas.Bool.Decides.{nat_tests}
use Rattle.std.proofs.lemmas.List.{append_cancel_left}
use Rattle.std.proofs.lemmas.Option.{same_Some}
use Rattle.folder_base.specs.Disk.{Name, File, Names, content, begins}
use Rattle.keep_store.specs.Promise.{IsNumber, number_of}
use Rattle.keep_store.specs.Opening.{StandsAt, IsStanding, standing_len, AtMost, IsGreatest, larger}
use Rattle.keep_store.proofs.Naming.{begins_all}

-- A name that does not begin so, or is no number behind it, promises nothing.
pub none_standing : (prefix name : Name) (live : Names) → ((digits : List ℕ) → IsNumber digits → name ≡ prefix ++ digits → ⊥) → IsStanding prefix live name None
none_standing prefix name live never len = (λ stands. absurd (never stands.digits stands.number stands.is), λ e. absurd (cc))

pub not_begun : (prefix name : Name) → begins prefix name ≡ false → (digits : List ℕ) → name ≡ prefix ++ digits → ⊥
not_begun prefix name not digits is = let e : begins prefix name ≡ true = ap (begins prefix) is ∙ begins_all prefix digits in cc

module _ (prefix name : Name) (live : Names) (digits : List ℕ) (is : name ≡ prefix ++ digits) (number : IsNumber digits) where
  same : (len : ℕ) (stands : StandsAt prefix live name len) → number_of digits ≡ len
  same len stands = ap number_of (append_cancel_left prefix digits stands.digits (sym is ∙ stands.is)) ∙ stands.spells

  at : (len : ℕ) (file : File) → live name ≡ Some file → number_of digits ≡ len → len ≤ length (content file) → StandsAt prefix live name len
  at len file stands spells enough = record { digits = digits; number = number; is = is; spells = spells; file = file; stands = stands; enough = enough }

  sized : (file : File) (size : Option ℕ) → live name ≡ Some file → size ≡ option_map (λ (f : File). length (content f)) (live name) → size ≡ Some (length (content file))
  sized file size stands told = told ∙ ap (option_map (λ (f : File). length (content f))) stands

  by_len : (p n : ℕ) → number_of digits ≡ p → Some n ≡ option_map (λ (f : File). length (content f)) (live name) → (b : Bool) → nat_le p n ≡ b → IsStanding prefix live name (if b then Some p else None)
  by_len p n spells told true e len = (λ stands. ap (λ (m : ℕ). Some m) (sym spells ∙ same len stands), λ found. by (live name) refl (same_Some p len found))
    where
      by : (o : Option File) → live name ≡ o → p ≡ len → StandsAt prefix live name len
      by None none is = absurd (let x : Some n ≡ None = told ∙ ap (option_map (λ (f : File). length (content f))) none in cc)
      by (Some file) stands is =
          let long : n ≡ length (content file) = same_Some n (length (content file)) (sized file (Some n) stands told) in
          let le : p ≤ n = grind (arith, nat_tests) in
          at len file stands (spells ∙ is) (omega arith)
  by_len p n spells told false e len = (λ stands. absurd (more stands), λ found. absurd (cc))
    where
      more : StandsAt prefix live name len → ⊥
      more stands =
          let long : n ≡ length (content stands.file) = same_Some n (length (content stands.file)) (sized stands.file (Some n) stands.stands told) in
          let gt : n < p = grind (arith, nat_tests) in
          let is = same len stands in
          omega (arith, stands.enough)

  pub standing_is : (promised size : Option ℕ) → IfSome promised (λ n. n ≡ number_of digits) → IfNone promised (2 ^ 64 ≤ number_of digits)
      → size ≡ option_map (λ (f : File). length (content f)) (live name) → IfSome size (λ n. n < 2 ^ 64) → IsStanding prefix live name (standing_len promised size)
  standing_is None None some none told small len = (λ stands. absurd (let e = sized stands.file None stands.stands told in cc), λ e. absurd (cc))
  standing_is None (Some n) some none told small len = (λ stands. absurd (never stands), λ e. absurd (cc))
    where
      never : StandsAt prefix live name len → ⊥
      never stands =
          let long : n ≡ length (content stands.file) = same_Some n (length (content stands.file)) (sized stands.file (Some n) stands.stands told) in
          let is = same len stands in
          omega (arith, stands.enough, none, small)
  standing_is (Some p) None some none told small len = (λ stands. absurd (let e = sized stands.file None stands.stands told in cc), λ e. absurd (cc))
  standing_is (Some p) (Some n) some none told small len = by_len p n (sym some) told (nat_le p n) refl len

larger_if : (Q : Option ℕ → Type 0) (a b : ℕ) → ((nat_le a b ≡ true) → Q (Some b)) → ((nat_le a b ≡ false) → Q (Some a)) → Q (larger (Some a) (Some b))
larger_if Q a b at_most above = by (nat_le a b) refl
  where
    by : (v : Bool) → nat_le a b ≡ v → Q (if v then Some b else Some a)
    by true e = at_most e
    by false e = above e

larger_left : (len : ℕ) (a b : Option ℕ) → AtMost len a → AtMost len (larger a b)
larger_left len None b le = absurd le
larger_left len (Some a) None le = le
larger_left len (Some a) (Some b) le = larger_if (AtMost len) a b (λ e. let l : a ≤ b = grind (arith, nat_tests) in omega arith) (λ e. le)

larger_right : (len : ℕ) (a : Option ℕ) → AtMost len (larger a (Some len))
larger_right len None = omega arith
larger_right len (Some a) = larger_if (AtMost len) a len (λ e. omega arith) (λ e. let l : len < a = grind (arith, nat_tests) in omega arith)

some_larger : (P : ℕ → Type 0) (a b : Option ℕ) → MatchOption a ⊤ P → MatchOption b ⊤ P → MatchOption (larger a b) ⊤ P
some_larger P None b one two = two
some_larger P (Some a) None one two = one
some_larger P (Some a) (Some b) one two = larger_if (λ o. MatchOption o ⊤ P) a b (λ e. two) (λ e. one)

-- one name more
pub greatest_one : (prefix : Name) (live : Names) (names : List Name) (i : ℕ) (name : Name) (most found : Option ℕ) → i < length names → ((d : Name) → get_or names i d ≡ name)
    → IsGreatest prefix live names i most → IsStanding prefix live name found → IsGreatest prefix live names (i + 1) (larger most found)
greatest_one prefix live names i name most found below is_name so_far standing = record { each = each; some = some_larger (λ n. (m : Name) × StandsAt prefix live m n) most found so_far.some (one found standing) }
  where
    one : (o : Option ℕ) → IsStanding prefix live name o → MatchOption o ⊤ (λ n. (m : Name) × StandsAt prefix live m n)
    one None is = tt
    one (Some n) is = (name, (is n).1 refl)

    each : (k : ℕ) (n : Name) (len : ℕ) → k < i + 1 → k < length names → get_or names k n ≡ n → StandsAt prefix live n len → AtMost len (larger most found)
    each k n len before inside at stands = ⊎_elim (λ earlier. larger_left len most found (so_far.each k n len earlier inside at stands)) (λ le. here (omega arith)) (cases_lt k i)
      where
        here : i ≡ k → AtMost len (larger most found)
        here same =
            let is : name ≡ n = sym (is_name n) ∙ ap (λ (j : ℕ). get_or names j n) same ∙ at in
            subst (λ (o : Option ℕ). AtMost len (larger most o)) (sym ((standing len).0 (subst (λ (m : Name). StandsAt prefix live m len) (sym is) stands))) (larger_right len most)

-- an item of a list, whatever stands for one past its end
pub item_is : (xs : List Name) (i : ℕ) (item name : Name) → i < length xs → item ≡ get_or xs i item → name ≡ item → (d : Name) → get_or xs i d ≡ name
item_is xs i item name below is named d = any xs i d item below ∙ sym is ∙ sym named
  where
    any : (xs : List Name) (i : ℕ) (d e : Name) → i < length xs → get_or xs i d ≡ get_or xs i e
    any [] i d e below = absurd (omega arith)
    any (x ∷ xs) zero d e below = refl
    any (x ∷ xs) (suc i) d e below = any xs i d e (omega arith)
