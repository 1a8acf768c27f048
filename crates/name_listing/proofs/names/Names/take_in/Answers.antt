use Rattle.std.proofs.Common.{◌≡◌, ◌++◌, ◌∷◌, ◌∙◌, [], List, Bool, true, ℕ, sym, ap, map, subst, rules, arith, String, string_bytes}
use Rattle.std.specs.Prelude.{bytes_eq, if◌then◌else◌}
use Rattle.std.specs.declared.alloc.Global.{Global}
use Rattle.std.proofs.lemmas.Grind.{common_steps}
use Rattle.std.proofs.lemmas.List.{append-nil, map-append}
use Rattle.name_listing.specs.Names.{Name, has, names_of}
use Rattle.name_listing.proofs.ListingLemmas.{on_err}
use Rattle.name_listing.proofs.SetLemmas.{among, has_names, noted_more, some_put, map_twice}
use Rattle.name_listing.proofs.names.Names.take_in.Goals as goal

pub loop-name-preserved : goal.loop-name-preserved
loop-name-preserved c = record {
  noted = λ name.
      subst (λ (l : List Name). has c.put.new.self name ≡ (if among name l then true else has c.args.self.now name)) (sym (map-append (λ k. string_bytes k.now) c.loop-name.yielded (c.in-Some.name ∷ [])))
      (noted_more true name (map (λ k. string_bytes k.now) c.loop-name.yielded) (string_bytes c.in-Some.name.now) (has c.args.self.now name) (has c.loop-name.self name) (has c.put.new.self name)
      (c.loop-name.invariant.noted name) (c.in_ok-put.ensures.put name ∙ ap (λ (bs : List ℕ). if bytes_eq bs name then true else has c.loop-name.self name) c.as_str.ensures.value));
  rest = first_of (search rules, grind (arith, common_steps));
}

pub returns-clause-put : goal.returns-clause-put
returns-clause-put c = λ name.
    let all : map (λ k. k.now) c.loop-name.yielded ≡ c.args.share.now.set.keys =
    sym (append-nil (map (λ k. k.now) c.loop-name.yielded)) ∙ ap (λ (rest : List (String Global)). map (λ k. k.now) c.loop-name.yielded ++ rest) (sym c.in-None.ensures.steps.0) ∙ c.loop-name.invariant.rest in
    c.loop-name.invariant.noted name
    ∙ ap (λ (l : List Name). if among name l then true else has c.args.self.now name) (map_twice c.loop-name.yielded ∙ ap (map (λ k. string_bytes k)) all)
    ∙ ap (λ (b : Bool). if b then true else has c.args.self.now name) (sym (has_names c.args.share.now name))

pub returns-in_err-put-clause-some : goal.returns-in_err-put-clause-some
returns-in_err-put-clause-some c =
    let front = map (λ k. string_bytes k.now) c.loop-name.yielded in
    let rest = map (λ k. string_bytes k) c.loop-name.name-iterator in
    let all : front ++ rest ≡ names_of c.args.share.now =
    ap (λ (l : List Name). l ++ rest) (map_twice c.loop-name.yielded)
    ∙ sym (map-append (λ (k : String Global). string_bytes k) (map (λ k. k.now) c.loop-name.yielded) c.loop-name.name-iterator) ∙ ap (map (λ k. string_bytes k)) c.loop-name.invariant.rest in
    on_err c.from_residual.result (λ name.
    some_put name front rest (has c.args.self.now name) (has c.put.new.self name) (has c.args.share.now name)
    (c.in_err-put.ensures.same name ∙ c.loop-name.invariant.noted name) (has_names c.args.share.now name ∙ ap (among name) (sym all)))
