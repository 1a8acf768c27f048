-- A key is sought among the keys as among the pairs.
use Rattle.std.proofs.Common.{◌≡◌, ℕ, zero, suc, List, [], ◌∷◌, ◌++◌, length, refl, sym, ap, subst, ◌∙◌, arith, Bool, true, false, cond}
use Rattle.std.specs.Prelude.{Option, Some, None, map, slice_get, slice_set}
use Rattle.std.specs.Option.{option_map}
use Rattle.std.specs.List.{zip, position}
use Rattle.std.specs.Str.{bytes_eq}
use Rattle.info_tree.specs.Tree.{Tree as Plain, trees_of, tree_list, pairs_of}
use Rattle.info_tree.specs.Plain.{plain}
use Rattle.info_tree.specs.Pairs.{value_at, put, pair_list}
use Rattle.info_tree.specs.declared.tree.Tree.{Tree}
use Rattle.info_tree.proofs.Places.{next_place, find_at, position_is}

module _ (q : List ℕ) where
  abbrev test : List ℕ → Bool
  test = bytes_eq q

  abbrev view : List (List ℕ) → List Tree → List (List ℕ × Plain)
  view ks vs = zip ks (map plain vs)

  abbrev at : List Tree → Option ℕ → Option Plain
  at vs None = None
  at vs (Some i) = option_map plain (slice_get vs i)

  at_next : (v : Tree) (vs : List Tree) (o : Option ℕ) → at vs o ≡ at (v ∷ vs) (next_place o)
  at_next v vs None = refl
  at_next v vs (Some i) = refl

  found : (ks : List (List ℕ)) (vs : List Tree) → length ks ≡ length vs → value_at (view ks vs) q ≡ at vs (find_at test ks)
  found [] [] same = refl
  found [] (v ∷ vs) same = refl
  found (k ∷ ks) [] same = absurd (omega (arith, same))
  found (k ∷ ks) (v ∷ vs) same =
      let less : length ks ≡ length vs = omega (arith, same) in step (test k) (found ks vs less)
    where
      step : (b : Bool) → value_at (view ks vs) q ≡ at vs (find_at test ks) →
          cond b (Some (plain v)) (value_at (view ks vs) q) ≡ at (v ∷ vs) (cond b (Some 0) (next_place (find_at test ks)))
      step true h = refl
      step false h = h ∙ at_next v vs (find_at test ks)

  pub value_at_is : (ks : List (List ℕ)) (vs : List Tree) → length ks ≡ length vs → value_at (view ks vs) q ≡ at vs (position test ks)
  value_at_is ks vs same = found ks vs same ∙ ap (at vs) (sym (position_is test ks))

  abbrev puts : List (List ℕ) → List Tree → Plain → Tree → Option ℕ → Type 0
  puts ks vs u t None = put (view ks vs) q u ≡ view ks vs ++ (q, u) ∷ []
  puts ks vs u t (Some i) = u ≡ plain t → view ks (slice_set vs i t) ≡ put (view ks vs) q u

  put_found : (ks : List (List ℕ)) (vs : List Tree) (t : Tree) → length ks ≡ length vs → puts ks vs (plain t) t (find_at test ks)
  put_found [] [] t same = refl
  put_found [] (v ∷ vs) t same = refl
  put_found (k ∷ ks) [] t same = absurd (omega (arith, same))
  put_found (k ∷ ks) (v ∷ vs) t same =
      let less : length ks ≡ length vs = omega (arith, same) in step (test k) refl (find_at test ks) (put_found ks vs t less)
    where
      step : (b : Bool) → test k ≡ b → (o : Option ℕ) → puts ks vs (plain t) t o → puts (k ∷ ks) (v ∷ vs) (plain t) t (cond b (Some 0) (next_place o))
      step true e o h = λ f. rw e refl
      step false e None h = rw e (ap (λ l. (k, plain v) ∷ l) h)
      step false e (Some i) h = λ f. rw e (ap (λ l. (k, plain v) ∷ l) (h f))

  pub put_at : (ks : List (List ℕ)) (vs : List Tree) (t : Tree) (i : ℕ) → length ks ≡ length vs → position test ks ≡ Some i →
      view ks (slice_set vs i t) ≡ put (view ks vs) q (plain t)
  put_at ks vs t i same e =
      (subst (λ (o : Option ℕ). puts ks vs (plain t) t o) (sym (position_is test ks) ∙ e) (put_found ks vs t same)) refl

  pub put_new : (ks : List (List ℕ)) (vs : List Tree) (t : Tree) → length ks ≡ length vs → position test ks ≡ None →
      put (view ks vs) q (plain t) ≡ view ks vs ++ (q, plain t) ∷ []
  put_new ks vs t same e = subst (λ (o : Option ℕ). puts ks vs (plain t) t o) (sym (position_is test ks) ∙ e) (put_found ks vs t same)

pub zip_push : {A B : Type 0} (xs : List A) (ys : List B) (x : A) (y : B) → length xs ≡ length ys → zip (xs ++ x ∷ []) (ys ++ y ∷ []) ≡ zip xs ys ++ (x, y) ∷ []
zip_push [] [] x y same = refl
zip_push [] (b ∷ ys) x y same = absurd (omega (arith, same))
zip_push (a ∷ xs) [] x y same = absurd (omega (arith, same))
zip_push (a ∷ xs) (b ∷ ys) x y same = let less : length xs ≡ length ys = omega (arith, same) in ap (λ l. (a, b) ∷ l) (zip_push xs ys x y less)

pub length-zip : {A B : Type 0} (xs : List A) (ys : List B) → length xs ≡ length ys → length (zip xs ys) ≡ length ys
length-zip [] [] same = refl
length-zip [] (b ∷ ys) same = same
length-zip (a ∷ xs) [] same = absurd (omega (arith, same))
length-zip (a ∷ xs) (b ∷ ys) same = let less : length xs ≡ length ys = omega (arith, same) in ap suc (length-zip xs ys less)

length-mapped : {A B : Type 0} (f : A → B) (xs : List A) → length (map f xs) ≡ length xs
length-mapped f [] = refl
length-mapped f (x ∷ xs) = ap suc (length-mapped f xs)

pub length-view : (ks : List (List ℕ)) (vs : List Tree) → length ks ≡ length vs → length vs ≡ length (zip ks (map plain vs))
length-view ks vs same =
    sym (length-zip ks (map plain vs) (same ∙ sym (length-mapped plain vs)) ∙ length-mapped plain vs)

map-push : {A B : Type 0} (f : A → B) (xs : List A) (x : A) → map f (xs ++ x ∷ []) ≡ map f xs ++ f x ∷ []
map-push f [] x = refl
map-push f (y ∷ ys) x = ap (λ l. f y ∷ l) (map-push f ys x)

-- a new key and its value go last
pub view-push : (ks : List (List ℕ)) (vs : List Tree) (k : List ℕ) (t : Tree) → length ks ≡ length vs →
    zip (ks ++ k ∷ []) (map plain (vs ++ t ∷ [])) ≡ zip ks (map plain vs) ++ (k, plain t) ∷ []
view-push ks vs k t same =
    rw (map-push plain vs t) (zip_push ks (map plain vs) k (plain t) (same ∙ sym (length-mapped plain vs)))

pub pair_list-pairs_of : (ps : List (List ℕ × Plain)) → pair_list (pairs_of ps) ≡ ps
pair_list-pairs_of [] = refl
pair_list-pairs_of (p ∷ ps) = ap (λ l. p ∷ l) (pair_list-pairs_of ps)

pub tree_list-trees_of : (ts : List Plain) → tree_list (trees_of ts) ≡ ts
tree_list-trees_of [] = refl
tree_list-trees_of (t ∷ ts) = ap (λ l. t ∷ l) (tree_list-trees_of ts)

abbrev pub paired : Option (List ℕ) → Option Plain → Option (List ℕ × Plain)
paired None o = None
paired (Some k) None = None
paired (Some k) (Some t) = Some (k, t)

paired-none : (o : Option (List ℕ)) → None ≡ paired o None
paired-none None = refl
paired-none (Some k) = refl

-- the pair at a place is the key there with the value there
pub pair_at : (ks : List (List ℕ)) (vs : List Tree) (i : ℕ) →
    slice_get (zip ks (map plain vs)) i ≡ paired (slice_get ks i) (option_map plain (slice_get vs i))
pair_at [] vs i = refl
pair_at (k ∷ ks) [] i = paired-none (slice_get (k ∷ ks) i)
pair_at (k ∷ ks) (v ∷ vs) zero = refl
pair_at (k ∷ ks) (v ∷ vs) (suc i) = pair_at ks vs i
