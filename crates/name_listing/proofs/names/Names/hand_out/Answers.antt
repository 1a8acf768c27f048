use Rattle.std.proofs.Common.{◌≡◌, ◌++◌, ◌∷◌, ◌∙◌, [], List, Bool, false, ℕ, sym, ap, map, subst, rules, arith, String, string_bytes}
use Rattle.std.specs.Prelude.{bytes_eq, if◌then◌else◌}
use Rattle.std.specs.declared.alloc.Global.{Global}
use Rattle.std.proofs.lemmas.Grind.{common_steps}
use Rattle.std.proofs.lemmas.List.{append-nil, map-append}
use Rattle.name_listing.specs.Names.{Name, has}
use Rattle.name_listing.proofs.SetLemmas.{among, has_names, noted_more, map_twice}
use Rattle.name_listing.proofs.names.Names.hand_out.Goals as goal

pub loop-name-preserved : goal.loop-name-preserved
loop-name-preserved c = record {
  noted = λ name.
      subst (λ (l : List Name). has c.take_away.new.self name ≡ (if among name l then false else has c.args.self.now name)) (sym (map-append (λ k. string_bytes k.now) c.loop-name.yielded (c.in-Some.name ∷ [])))
      (noted_more false name (map (λ k. string_bytes k.now) c.loop-name.yielded) (string_bytes c.in-Some.name.now) (has c.args.self.now name) (has c.loop-name.self name) (has c.take_away.new.self name)
      (c.loop-name.invariant.noted name) (c.take_away.ensures name ∙ ap (λ (bs : List ℕ). if bytes_eq bs name then false else has c.loop-name.self name) c.as_str.ensures.value));
  rest = first_of (search rules, grind (arith, common_steps));
}

pub returns : goal.returns
returns c = λ name.
    let all : map (λ k. k.now) c.loop-name.yielded ≡ c.args.share.now.set.keys =
    sym (append-nil (map (λ k. k.now) c.loop-name.yielded)) ∙ ap (λ (rest : List (String Global)). map (λ k. k.now) c.loop-name.yielded ++ rest) (sym c.in-None.ensures.steps.0) ∙ c.loop-name.invariant.rest in
    c.loop-name.invariant.noted name
    ∙ ap (λ (l : List Name). if among name l then false else has c.args.self.now name) (map_twice c.loop-name.yielded ∙ ap (map (λ k. string_bytes k)) all)
    ∙ ap (λ (b : Bool). if b then false else has c.args.self.now name) (sym (has_names c.args.share.now name))
