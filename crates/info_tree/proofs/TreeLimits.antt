-- The tokens that a tree is printed as open just as many levels as it has, and their numbers have values.
use Rattle.std.proofs.Common.{◌≡◌, ℕ, ◌+◌, ◌≤◌, List, ◌∷◌, subst, sym, arith, refl, Bool}
use Rattle.info_tree.specs.Tree.{Tree, null, truth, number, text, list, mapping, Trees, no_trees, a_tree, Pairs, no_pairs, a_pair}
use Rattle.info_tree.specs.Token.{Token, end_list, end_map}
use Rattle.info_tree.specs.Levels.{level, StayWithin}
use Rattle.info_tree.specs.Reading.{AreAccepted}
use Rattle.info_tree.specs.ReadsAgain.{tree_levels, trees_levels, pairs_levels, IsSound, AreSound, HaveSound}
use Rattle.info_tree.proofs.TreeTokens.{tokens, item_tokens, more_item_tokens, member_tokens, more_member_tokens}

-- ---- they open no more levels than the tree has
closed : (limit n : ℕ) (t : Token) (more : List Token) → n ≤ limit → level (n + 1) t ≡ n → StayWithin limit n more → StayWithin limit (n + 1) (t ∷ more)
closed limit n t more l e s = (omega (arith, e, l), subst (λ (m : ℕ). StayWithin limit m more) (sym e) s)

mutual
  pub stays : (limit n : ℕ) (a : Bool) (t : Tree) (more : List Token) → n + tree_levels t ≤ limit → StayWithin limit n more → StayWithin limit n (tokens a t more)
  stays limit n a null more l s = (omega (arith, l), s)
  stays limit n a (truth b) more l s = (omega (arith, l), s)
  stays limit n a (number m) more l s = (omega (arith, l), s)
  stays limit n a (text t) more l s = (omega (arith, l), s)
  stays limit n a (list ts) more l s =
      (omega (arith, l), items_stay limit (n + 1) a ts (end_list ∷ more) (omega (arith, l)) (closed limit n end_list more (omega (arith, l)) (omega arith) s))
  stays limit n a (mapping ps) more l s =
      (omega (arith, l), members_stay limit (n + 1) a ps (end_map ∷ more) (omega (arith, l)) (closed limit n end_map more (omega (arith, l)) (omega arith) s))

  items_stay : (limit n : ℕ) (a : Bool) (ts : Trees) (more : List Token) → n + trees_levels ts ≤ limit → StayWithin limit n more → StayWithin limit n (item_tokens a ts more)
  items_stay limit n a no_trees more l s = s
  items_stay limit n a (a_tree t ts) more l s =
      stays limit n a t (more_item_tokens a ts more) (omega (arith, l)) (more_items_stay limit n a ts more (omega (arith, l)) s)

  more_items_stay : (limit n : ℕ) (a : Bool) (ts : Trees) (more : List Token) → n + trees_levels ts ≤ limit → StayWithin limit n more → StayWithin limit n (more_item_tokens a ts more)
  more_items_stay limit n a no_trees more l s = s
  more_items_stay limit n a (a_tree t ts) more l s =
      (omega (arith, l), stays limit n a t (more_item_tokens a ts more) (omega (arith, l)) (more_items_stay limit n a ts more (omega (arith, l)) s))

  members_stay : (limit n : ℕ) (a : Bool) (ps : Pairs) (more : List Token) → n + pairs_levels ps ≤ limit → StayWithin limit n more → StayWithin limit n (member_tokens a ps more)
  members_stay limit n a no_pairs more l s = s
  members_stay limit n a (a_pair k t ps) more l s =
      (omega (arith, l), (omega (arith, l), stays limit n a t (more_member_tokens a ps more) (omega (arith, l)) (more_members_stay limit n a ps more (omega (arith, l)) s)))

  more_members_stay : (limit n : ℕ) (a : Bool) (ps : Pairs) (more : List Token) → n + pairs_levels ps ≤ limit → StayWithin limit n more → StayWithin limit n (more_member_tokens a ps more)
  more_members_stay limit n a no_pairs more l s = s
  more_members_stay limit n a (a_pair k t ps) more l s =
      (omega (arith, l), (omega (arith, l), (omega (arith, l), stays limit n a t (more_member_tokens a ps more) (omega (arith, l)) (more_members_stay limit n a ps more (omega (arith, l)) s))))

-- ---- nor fewer
-- the levels of these tokens and of what stands before others, and that the others stay within the limit
abbrev Opened : ℕ → ℕ → ℕ → List Token → Type 0
Opened limit n levels more = (n + levels ≤ limit) × StayWithin limit n more

opened : (limit n levels : ℕ) (t : Token) (more : List Token) → level (n + 1) t ≡ n → Opened limit (n + 1) levels (t ∷ more) → Opened limit n (levels + 1) more
opened limit n levels t more e o = (omega (arith, o.0), subst (λ (m : ℕ). StayWithin limit m more) e o.1.1)

mutual
  pub opens : (limit n : ℕ) (a : Bool) (t : Tree) (more : List Token) → StayWithin limit n (tokens a t more) → Opened limit n (tree_levels t) more
  opens limit n a null more s = (omega (arith, s.0), s.1)
  opens limit n a (truth b) more s = (omega (arith, s.0), s.1)
  opens limit n a (number m) more s = (omega (arith, s.0), s.1)
  opens limit n a (text t) more s = (omega (arith, s.0), s.1)
  opens limit n a (list ts) more s = opened limit n (trees_levels ts) end_list more (omega arith) (items_open limit (n + 1) a ts (end_list ∷ more) s.0 s.1)
  opens limit n a (mapping ps) more s = opened limit n (pairs_levels ps) end_map more (omega arith) (members_open limit (n + 1) a ps (end_map ∷ more) s.0 s.1)

  items_open : (limit n : ℕ) (a : Bool) (ts : Trees) (more : List Token) → n ≤ limit → StayWithin limit n (item_tokens a ts more) → Opened limit n (trees_levels ts) more
  items_open limit n a no_trees more l s = (omega (arith, l), s)
  items_open limit n a (a_tree t ts) more l s =
      let one = opens limit n a t (more_item_tokens a ts more) s in
      let others = more_items_open limit n a ts more l one.1 in
      (omega (arith, one.0, others.0), others.1)

  more_items_open : (limit n : ℕ) (a : Bool) (ts : Trees) (more : List Token) → n ≤ limit → StayWithin limit n (more_item_tokens a ts more) → Opened limit n (trees_levels ts) more
  more_items_open limit n a no_trees more l s = (omega (arith, l), s)
  more_items_open limit n a (a_tree t ts) more l s =
      let one = opens limit n a t (more_item_tokens a ts more) s.1 in
      let others = more_items_open limit n a ts more l one.1 in
      (omega (arith, one.0, others.0), others.1)

  members_open : (limit n : ℕ) (a : Bool) (ps : Pairs) (more : List Token) → n ≤ limit → StayWithin limit n (member_tokens a ps more) → Opened limit n (pairs_levels ps) more
  members_open limit n a no_pairs more l s = (omega (arith, l), s)
  members_open limit n a (a_pair k t ps) more l s =
      let one = opens limit n a t (more_member_tokens a ps more) s.1.1 in
      let others = more_members_open limit n a ps more l one.1 in
      (omega (arith, one.0, others.0), others.1)

  more_members_open : (limit n : ℕ) (a : Bool) (ps : Pairs) (more : List Token) → n ≤ limit → StayWithin limit n (more_member_tokens a ps more) → Opened limit n (pairs_levels ps) more
  more_members_open limit n a no_pairs more l s = (omega (arith, l), s)
  more_members_open limit n a (a_pair k t ps) more l s =
      let one = opens limit n a t (more_member_tokens a ps more) s.1.1.1 in
      let others = more_members_open limit n a ps more l one.1 in
      (omega (arith, one.0, others.0), others.1)

-- ---- their numbers have values
mutual
  pub accepted : (a : Bool) (t : Tree) (more : List Token) → IsSound t → AreAccepted more → AreAccepted (tokens a t more)
  accepted a null more s h = (tt, h)
  accepted a (truth b) more s h = (tt, h)
  accepted a (number n) more s h = (rw s.1 refl, h)
  accepted a (text t) more s h = (tt, h)
  accepted a (list ts) more s h = (tt, items_accepted a ts (end_list ∷ more) s (tt, h))
  accepted a (mapping ps) more s h = (tt, members_accepted a ps (end_map ∷ more) s.1 (tt, h))

  items_accepted : (a : Bool) (ts : Trees) (more : List Token) → AreSound ts → AreAccepted more → AreAccepted (item_tokens a ts more)
  items_accepted a no_trees more s h = h
  items_accepted a (a_tree t ts) more s h = accepted a t (more_item_tokens a ts more) s.0 (more_items_accepted a ts more s.1 h)

  more_items_accepted : (a : Bool) (ts : Trees) (more : List Token) → AreSound ts → AreAccepted more → AreAccepted (more_item_tokens a ts more)
  more_items_accepted a no_trees more s h = h
  more_items_accepted a (a_tree t ts) more s h = (tt, accepted a t (more_item_tokens a ts more) s.0 (more_items_accepted a ts more s.1 h))

  members_accepted : (a : Bool) (ps : Pairs) (more : List Token) → HaveSound ps → AreAccepted more → AreAccepted (member_tokens a ps more)
  members_accepted a no_pairs more s h = h
  members_accepted a (a_pair k t ps) more s h = (tt, (tt, accepted a t (more_member_tokens a ps more) s.1 (more_members_accepted a ps more s.2 h)))

  more_members_accepted : (a : Bool) (ps : Pairs) (more : List Token) → HaveSound ps → AreAccepted more → AreAccepted (more_member_tokens a ps more)
  more_members_accepted a no_pairs more s h = h
  more_members_accepted a (a_pair k t ps) more s h = (tt, (tt, (tt, accepted a t (more_member_tokens a ps more) s.1 (more_members_accepted a ps more s.2 h))))
