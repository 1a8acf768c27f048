-- What stands under a key where pairs are put over others.
use Rattle.std.proofs.Common.{◌≡◌, ℕ, List, [], ◌∷◌, refl, sym, ap, subst, ◌∙◌, Bool, true, false, cond}
use Rattle.std.specs.Prelude.{Option, Some, None, if◌then◌else◌}
use Rattle.std.specs.Option.{option_or}
use Rattle.std.specs.Str.{bytes_eq}
use Rattle.std.proofs.lemmas.Cmp.{nat_list_eq_equiv}
use Rattle.std.proofs.lemmas.Slice.Eq.{bytes_eq-Decides}
use Rattle.info_tree.specs.Tree.{Tree, null, truth, number, text, list, mapping}
use Rattle.info_tree.specs.Pairs.{value_at, put, member, HaveDistinctKeys}
use Rattle.info_item.specs.View.{over, others, is_shared, map_pairs}

module _ (key : List ℕ) where
  pub value_at-put : (ps : List (List ℕ × Tree)) (k : List ℕ) (t : Tree) → value_at (put ps k t) key ≡ (if bytes_eq key k then Some t else value_at ps key)
  value_at-put [] k t = refl
  value_at-put (p ∷ ps) k t = step (value_at-put ps k t) (bytes_eq k p.0) refl (bytes_eq key p.0) refl
    where
      step : value_at (put ps k t) key ≡ (if bytes_eq key k then Some t else value_at ps key) →
          (b : Bool) → bytes_eq k p.0 ≡ b → (c : Bool) → bytes_eq key p.0 ≡ c →
          value_at (cond b ((p.0, t) ∷ ps) (p ∷ put ps k t)) key ≡ cond (bytes_eq key k) (Some t) (cond c (Some p.1) (value_at ps key))
      step less true same c e =
          let is : k ≡ p.0 = (bytes_eq-Decides k p.0).0 same in
          rw is (rw e (cond_twice c))
        where
          cond_twice : (c : Bool) → cond c (Some t) (value_at ps key) ≡ cond c (Some t) (cond c (Some p.1) (value_at ps key))
          cond_twice true = refl
          cond_twice false = refl
      step less false differ true e =
          let is : key ≡ p.0 = (bytes_eq-Decides key p.0).0 e in
          let no : bytes_eq key k ≡ false = subst (λ (w : List ℕ). bytes_eq w k ≡ false) (sym is) (nat_list_eq_equiv.symm p.0 k ∙ differ) in
          rw e (rw no refl)
      step less false differ false e = rw e less

  pub value_at-over : (ps qs : List (List ℕ × Tree)) → HaveDistinctKeys qs → value_at (over ps qs) key ≡ option_or (value_at qs key) (value_at ps key)
  value_at-over ps [] distinct = refl
  value_at-over ps (q ∷ qs) distinct =
      value_at-over (put ps q.0 q.1) qs distinct.1 ∙ ap (option_or (value_at qs key)) (value_at-put ps q.0 q.1) ∙ step (bytes_eq key q.0) refl
    where
      step : (b : Bool) → bytes_eq key q.0 ≡ b →
          option_or (value_at qs key) (cond b (Some q.1) (value_at ps key)) ≡ option_or (cond b (Some q.1) (value_at qs key)) (value_at ps key)
      step true e =
          let is : q.0 ≡ key = sym ((bytes_eq-Decides key q.0).0 e) in
          let none : value_at qs key ≡ None = subst (λ (w : List ℕ). value_at qs w ≡ None) is distinct.0 in
          rw none refl
      step false e = refl

  pub value_at-others : (ps : List (List ℕ × Tree)) → value_at (others ps) key ≡ (if is_shared key then None else value_at ps key)
  value_at-others [] = none (is_shared key)
    where
      none : (b : Bool) → ◌≡◌ {A = Option Tree} None (cond b None None)
      none true = refl
      none false = refl
  value_at-others (p ∷ ps) = step (value_at-others ps) (bytes_eq key p.0) refl (is_shared p.0) refl
    where
      step : value_at (others ps) key ≡ (if is_shared key then None else value_at ps key) → (b : Bool) → bytes_eq key p.0 ≡ b → (c : Bool) → is_shared p.0 ≡ c →
          value_at (cond c (others ps) (p ∷ others ps)) key ≡ cond (is_shared key) None (cond b (Some p.1) (value_at ps key))
      step less true e c m =
          let is : p.0 ≡ key = sym ((bytes_eq-Decides key p.0).0 e) in
          let same : is_shared key ≡ c = subst (λ (w : List ℕ). is_shared w ≡ c) is m in
          rw same (here c same)
        where
          here : (c : Bool) → is_shared key ≡ c → value_at (cond c (others ps) (p ∷ others ps)) key ≡ cond c None (Some p.1)
          here true same = less ∙ rw same refl
          here false same = rw e refl
      step less false e true m = less
      step less false e false m = rw e less

pub member-is : (tree : Tree) (key : List ℕ) → member tree key ≡ value_at (map_pairs tree) key
member-is null key = refl
member-is (truth b) key = refl
member-is (number n) key = refl
member-is (text s) key = refl
member-is (list ts) key = refl
member-is (mapping ps) key = refl

-- what stands over others is found first, and the others behind it
module _ (key : List ℕ) (ps qs : List (List ℕ × Tree)) (distinct : HaveDistinctKeys qs) where
  pub over-first : (t : Tree) → Some t ≡ value_at qs key → Some t ≡ value_at (over ps qs) key
  over-first t e = sym (value_at-over key ps qs distinct ∙ ap (λ o. option_or o (value_at ps key)) (sym e))

  pub over-rest : None ≡ value_at qs key → value_at ps key ≡ value_at (over ps qs) key
  over-rest e = sym (value_at-over key ps qs distinct ∙ ap (λ o. option_or o (value_at ps key)) (sym e))

-- of several parts the item's value is found but where they share its key
module _ (key : List ℕ) (item : Tree) where
  pub hidden : is_shared key ≡ true → None ≡ value_at (others (map_pairs item)) key
  hidden e = sym (value_at-others key (map_pairs item) ∙ rw e refl)

  pub shown : is_shared key ≡ false → member item key ≡ value_at (others (map_pairs item)) key
  shown e = member-is item key ∙ sym (value_at-others key (map_pairs item) ∙ rw e refl)
