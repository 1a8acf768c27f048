use Rattle.std.proofs.Common.{◌≡◌, ℕ, List, length, ◌*◌, ◌<◌, ◌++◌, ◌∙◌, ap, arith, rules, subst}
use Rattle.std.specs.Prelude.{Some, None, slice_get, [], ◌∷◌, codes}
use Rattle.std.specs.Str.{IsUtf8}
use Rattle.std.specs.String.{string_bytes}
use Rattle.std.proofs.lemmas.Option.{slice_get_past}
use Rattle.info_tree.specs.Tree.{Tree as Plain, tree_size, trees_of, pairs_of}
use Rattle.info_tree.specs.Pairs.{pair_list, HaveDistinctKeys}
use Rattle.info_tree.specs.ReadsAgain.{IsSound, AreSound, HaveSound}
use Rattle.info_tree.specs.Plain.{plain}
use Rattle.info_tree.specs.Printed.{printed, items, members, quoted, deeper}
use Rattle.info_tree.proofs.PairLemmas.{pair_list-pairs_of}
use Rattle.info_tree.proofs.Parts.{item_size, pair_size, all_taken}
use Rattle.info_tree.proofs.PrintedLaw.{item_sound, pair_sound}
use Rattle.info_tree.proofs.Printing.{mark, item_put, member_put, items_done, members_done, list_put, map_put}
use Rattle.info_tree.proofs.json.+print.Goals.{push_list-else-loop-place-test, push_list-then-loop-place-test+in_default, push_map-else-loop-place-test, push_map-then-loop-place-test+in_default}
use Rattle.info_tree.proofs.json.+print.Goals as goal

pub push_list-push_tree-requires : goal.push_list-push_tree-requires
push_list-push_tree-requires c = λ a.
    let got : slice_get a.args.list.now a.loop-place.place ≡ Some (plain a.in-Some.tree.now) = search rules in
    let less : 2 * tree_size (plain a.in-Some.tree.now) < c = omega (arith, item_size a.args.list.now a.loop-place.place (plain a.in-Some.tree.now) got, a.requires) in
    (less, tt)

pub push_map-push_tree-requires : goal.push_map-push_tree-requires
push_map-push_tree-requires c = λ a.
    let got : slice_get a.args.map.now a.loop-place.place ≡ Some (a.in-Some.key.now, plain a.in-Some.tree.now) = search rules in
    let less : 2 * tree_size (plain a.in-Some.tree.now) < c = omega (arith, pair_size a.args.map.now a.loop-place.place (a.in-Some.key.now, plain a.in-Some.tree.now) got, a.requires) in
    (less, tt)

pub push_map-loop-place-preserved : goal.push_map-loop-place-preserved
push_map-loop-place-preserved c = λ a.
    let inner = string_bytes a.in_ok-inner.inner in
    let t = plain a.in-Some.tree.now in
    let got : slice_get a.args.map.now a.loop-place.place ≡ Some (a.in-Some.key.now, t) = search rules in
    let first : string_bytes a.push_line.new.out ≡ string_bytes a.loop-place.out ++ (mark a.args.style.pretty a.loop-place.place ++ inner) = search rules in
    let second : string_bytes a.push_quoted.new.out ≡ string_bytes a.push_line.new.out ++ quoted a.args.style.ascii a.in-Some.key.now = search rules in
    let third : string_bytes a.push_str-in-loop-place.new.self ≡ string_bytes a.push_quoted.new.out ++ codes ": " = search rules in
    let fourth : string_bytes a.push_tree.new.out ≡ string_bytes a.push_str-in-loop-place.new.self ++ printed a.args.style inner t = search rules in
    let sound : IsSound t = search rules in
    let utf8 : IsUtf8 a.in-Some.key.now = search rules in
    record {
      out = member_put a.args.style inner a.args.map.now a.loop-place.place (a.in-Some.key.now, t) (string_bytes a.loop-place.out) (string_bytes a.push_line.new.out)
          (string_bytes a.push_quoted.new.out) (string_bytes a.push_str-in-loop-place.new.self) (string_bytes a.push_tree.new.out) _
          got first second third fourth a.loop-place.invariant.out;
      sound = pair_sound a.args.map.now a.loop-place.place (a.in-Some.key.now, t) a.loop-place.invariant.sound got utf8 sound;
    }

pub push_list-loop-place-preserved : goal.push_list-loop-place-preserved
push_list-loop-place-preserved c = λ a.
    let inner = string_bytes a.in_ok-inner.inner in
    let t = plain a.in-Some.tree.now in
    let got : slice_get a.args.list.now a.loop-place.place ≡ Some t = search rules in
    let first : string_bytes a.push_line.new.out ≡ string_bytes a.loop-place.out ++ (mark a.args.style.pretty a.loop-place.place ++ inner) = search rules in
    let second : string_bytes a.push_tree.new.out ≡ string_bytes a.push_line.new.out ++ printed a.args.style inner t = search rules in
    let sound : IsSound t = search rules in
    record {
      out = item_put a.args.style inner a.args.list.now a.loop-place.place t (string_bytes a.loop-place.out) (string_bytes a.push_line.new.out) (string_bytes a.push_tree.new.out) _
          got first second a.loop-place.invariant.out;
      sound = item_sound a.args.list.now a.loop-place.place t a.loop-place.invariant.sound got sound;
    }

pub push_list-returns-clause-out : goal.push_list-returns-clause-out
push_list-returns-clause-out c = λ a.
    let s = a.args.style in
    let inner = string_bytes a.in_ok-inner.inner in
    let line = a.args.line.now in
    let parts = a.args.list.now in
    let past : slice_get parts a.loop-place.place ≡ None = elim a.loop-place-test.branch [
      | push_list-else-loop-place-test w ↦ slice_get_past parts a.loop-place.place (search rules)
      | push_list-then-loop-place-test+in_default w ↦ search rules
    ] in
    let many : length parts ≡ 0 → ⊥ = λ e. a.if-len-eq0.false (a.len.ensures ∙ e) in
    let begun : string_bytes a.push.new.self ≡ string_bytes a.args.out.now ++ 91 ∷ [] = search rules in
    let deep : inner ≡ deeper s.pretty line = a.in_ok-inner.ensures in
    let all : string_bytes a.loop-place.out ≡ string_bytes a.push.new.self ++ items s inner [] (trees_of parts) =
    items_done s inner parts a.loop-place.place (string_bytes a.loop-place.out) _ past a.loop-place.invariant.out in
    let broken : string_bytes a.push_str-2.new.self ≡ string_bytes a.loop-place.out ++ line = search rules in
    let closed : string_bytes a.push-2.new.self ≡ string_bytes a.push_str-2.new.self ++ 93 ∷ [] = search rules in
    list_put s line parts (string_bytes a.args.out.now) (string_bytes a.push.new.self) (string_bytes a.loop-place.out) (string_bytes a.push_str-2.new.self) (string_bytes a.push-2.new.self)
    many begun (all ∙ ap (λ l. string_bytes a.push.new.self ++ items s l [] (trees_of parts)) deep) broken closed

pub push_map-returns-clause-out : goal.push_map-returns-clause-out
push_map-returns-clause-out c = λ a.
    let s = a.args.style in
    let inner = string_bytes a.in_ok-inner.inner in
    let line = a.args.line.now in
    let parts = a.args.map.now in
    let past : slice_get parts a.loop-place.place ≡ None = elim a.loop-place-test.branch [
      | push_map-else-loop-place-test w ↦ slice_get_past parts a.loop-place.place (search rules)
      | push_map-then-loop-place-test+in_default w ↦ search rules
    ] in
    let many : length parts ≡ 0 → ⊥ = λ e. a.if-len-eq0.false (a.len.ensures.len ∙ e) in
    let begun : string_bytes a.push.new.self ≡ string_bytes a.args.out.now ++ 123 ∷ [] = search rules in
    let deep : inner ≡ deeper s.pretty line = a.in_ok-inner.ensures in
    let all : string_bytes a.loop-place.out ≡ string_bytes a.push.new.self ++ members s inner [] (pairs_of parts) =
    members_done s inner parts a.loop-place.place (string_bytes a.loop-place.out) _ past a.loop-place.invariant.out in
    let broken : string_bytes a.push_str-2.new.self ≡ string_bytes a.loop-place.out ++ line = search rules in
    let closed : string_bytes a.push-2.new.self ≡ string_bytes a.push_str-2.new.self ++ 125 ∷ [] = search rules in
    map_put s line parts (string_bytes a.args.out.now) (string_bytes a.push.new.self) (string_bytes a.loop-place.out) (string_bytes a.push_str-2.new.self) (string_bytes a.push-2.new.self)
    many begun (all ∙ ap (λ l. string_bytes a.push.new.self ++ members s l [] (pairs_of parts)) deep) broken closed

pub push_list-returns-clause-sound : goal.push_list-returns-clause-sound
push_list-returns-clause-sound c = λ a.
    let parts = a.args.list.now in
    let past : slice_get parts a.loop-place.place ≡ None = elim a.loop-place-test.branch [
      | push_list-else-loop-place-test w ↦ slice_get_past parts a.loop-place.place (search rules)
      | push_list-then-loop-place-test+in_default w ↦ search rules
    ] in
    subst (λ (l : List Plain). AreSound (trees_of l)) (all_taken parts a.loop-place.place past) a.loop-place.invariant.sound

pub push_map-returns-clause-sound : goal.push_map-returns-clause-sound
push_map-returns-clause-sound c = λ a.
    let parts = a.args.map.now in
    let past : slice_get parts a.loop-place.place ≡ None = elim a.loop-place-test.branch [
      | push_map-else-loop-place-test w ↦ slice_get_past parts a.loop-place.place (search rules)
      | push_map-then-loop-place-test+in_default w ↦ search rules
    ] in
    let differ : HaveDistinctKeys (pair_list (pairs_of parts)) = rw (pair_list-pairs_of parts) a.len.ensures.distinct in
    (differ, subst (λ (l : List (List ℕ × Plain)). HaveSound (pairs_of l)) (all_taken parts a.loop-place.place past) a.loop-place.invariant.sound)
