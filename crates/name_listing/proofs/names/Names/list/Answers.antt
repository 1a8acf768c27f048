use Rattle.std.proofs.Common.{◌≡◌, ◌∙◌, ◌++◌, ◌∷◌, [], List, Bool, cond, sym, ap, subst, rules, arith, append_assoc, string_bytes}
use Rattle.std.specs.List.{filter, AllByRecursion}
use Rattle.std.specs.List.Sorted.{IsStrictlySortedBy}
use Rattle.std.specs.String.{string_cmp}
use Rattle.std.proofs.lemmas.Grind.{common_steps}
use Rattle.std.proofs.lemmas.List.{append-nil}
use Rattle.std.proofs.lemmas.List.Kept.{IsStrictlySortedBy-filter}
use Rattle.std.proofs.lemmas.Map.Keys.{sorted_head, sorted_tail}
use Rattle.std.proofs.lemmas.Str.Pattern.{starts_text}
use Rattle.name_listing.specs.Names.{Name, begins}
use Rattle.name_listing.proofs.OrderLemmas.{Key, From, named, at_least, begun_by, from_by, ends_here}
use Rattle.name_listing.proofs.names.Names.list.Goals as goal

pub loop-name-init : goal.loop-name-init
loop-name-init c =
    let prefix = c.args.prefix.now in
    let first = c.in_ok-first.first in
    let all = c.args.self.now.set.keys in
    let none : c.new-list.result.items ≡ [] = first_of (search rules, grind (arith, common_steps)) in
    let is : c.into_iter-name-iterator.result ≡ filter (at_least first) all = first_of (search rules, grind (arith, common_steps)) in
    record {
      can = tt;
      ends = tt;
      listed = ap (λ (l : List Name). l ++ filter (begins prefix) (named c.into_iter-name-iterator.result)) none
          ∙ ap (λ (keys : List Key). filter (begins prefix) (named keys)) is ∙ begun_by prefix first all c.in_ok-first.ensures.ok;
      ordered = subst (λ (keys : List Key). IsStrictlySortedBy string_cmp keys) (sym is) (IsStrictlySortedBy-filter string_cmp (at_least first) all c.range-name-items.ensures.ordered);
      from = subst (λ (keys : List Key). AllByRecursion (λ key. From prefix (string_bytes key)) keys) (sym is) (from_by prefix first all c.in_ok-first.ensures.ok);
    }

pub returns-then-not-starts_with : goal.returns-then-not-starts_with
returns-then-not-starts_with c =
    let prefix = c.args.prefix.now in
    let key = c.in-Some.name.now in
    let step : c.loop-name.name-iterator ≡ key ∷ c.next.new.self = first_of (search rules, grind (arith, common_steps)) in
    let other = ap (begins prefix) (sym c.as_str.ensures.value) ∙ sym (starts_text c.starts_with.result prefix c.as_str.result.now c.starts_with.ensures.cases) ∙ c.if-not-starts_with.true in
    let ended = ap (λ (keys : List Key). filter (begins prefix) (named keys)) step
    ∙ ends_here prefix key c.next.new.self (subst (λ (keys : List Key). AllByRecursion (λ k. From prefix (string_bytes k)) keys) step c.loop-name.invariant.from).0 other
    (sorted_head string_cmp key c.next.new.self (subst (λ (keys : List Key). IsStrictlySortedBy string_cmp keys) step c.loop-name.invariant.ordered)) in
    sym (append-nil c.loop-name.list.items) ∙ ap (λ (l : List Name). c.loop-name.list.items ++ l) (sym ended) ∙ c.loop-name.invariant.listed

pub loop-name-preserved : goal.loop-name-preserved
loop-name-preserved c =
    let prefix = c.args.prefix.now in
    let key = c.in-Some.name.now in
    let next = c.next.new.self in
    let list = c.loop-name.list.items in
    let step : c.loop-name.name-iterator ≡ key ∷ next = first_of (search rules, grind (arith, common_steps)) in
    let begun = ap (begins prefix) (sym c.as_str.ensures.value) ∙ sym (starts_text c.starts_with.result prefix c.as_str.result.now c.starts_with.ensures.cases) ∙ c.if-not-starts_with.false in
    let pushed : c.push.new.self.items ≡ list ++ string_bytes key ∷ [] = first_of (search rules, grind (arith, common_steps)) in
    record {
      can = tt;
      ends = tt;
      listed = ap (λ (l : List Name). l ++ filter (begins prefix) (named next)) pushed
          ∙ append_assoc list (string_bytes key ∷ []) (filter (begins prefix) (named next))
          ∙ ap (λ (b : Bool). list ++ cond b (string_bytes key ∷ filter (begins prefix) (named next)) (filter (begins prefix) (named next))) (sym begun)
          ∙ ap (λ (keys : List Key). list ++ filter (begins prefix) (named keys)) (sym step) ∙ c.loop-name.invariant.listed;
      ordered = sorted_tail string_cmp key next (subst (λ (keys : List Key). IsStrictlySortedBy string_cmp keys) step c.loop-name.invariant.ordered);
      from = (subst (λ (keys : List Key). AllByRecursion (λ k. From prefix (string_bytes k)) keys) step c.loop-name.invariant.from).1;
    }
