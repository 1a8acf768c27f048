use Rattle.std.proofs.Common.{◌≡◌, ◌∙◌, ◌++◌, ◌∷◌, [], Bool, true, false, sym, ap, rules, arith, take}
use Rattle.std.specs.Prelude.{bytes_eq, if◌then◌else◌}
use Rattle.std.specs.List.{filter}
use Rattle.std.proofs.lemmas.Grind.{common_steps}
use Rattle.std.proofs.lemmas.List.{take_all}
use Rattle.name_listing.specs.Names.{Name, has, begins, names_of}
use Rattle.name_listing.specs.declared.names.Names.{Names}
use Rattle.name_listing.proofs.SetLemmas.{among, shared}
use Rattle.name_listing.proofs.names.Names.share.Goals as goal
use Rattle.name_listing.proofs.names.Names.share.Goals.{then-has+in_ok-put-2, else-has}

pub returns : goal.returns
returns c =
    let names = c.args.self.now in
    let stem = c.args.stem.now in
    let point : c.as_str.result.now ≡ stem ++ 46 ∷ [] = first_of (search rules, grind (arith, common_steps)) in
    let full : take c.loop-name.name-index c.deref-name-items.result.now ≡ filter (begins (stem ++ 46 ∷ [])) (names_of names) =
    take_all c.loop-name.name-index c.deref-name-items.result.now (omega arith) ∙ c.deref-name-items.ensures.value ∙ c.in_ok-names.ensures ∙ ap (λ (p : Name). filter (begins p) (names_of names)) point in
    let noted : (name : Name) → has c.loop-name.share name ≡ among name (filter (begins (stem ++ 46 ∷ [])) (names_of names)) = λ name. c.loop-name.invariant name ∙ ap (among name) full in
    elim c.if-has.branch [
      | then-has+in_ok-put-2 w ↦ λ name. ap (λ (s : Names). has s name) w.share-is ∙ w.in_ok-put-2.ensures.put name
          ∙ ap (λ (b : Bool). if bytes_eq stem name then true else b) (noted name) ∙ shared stem name names true (sym c.has.ensures ∙ w.if-has.true)
      | else-has w ↦ λ name. ap (λ (s : Names). has s name) w.share-is ∙ noted name ∙ shared stem name names false (sym c.has.ensures ∙ w.if-has.false)
    ]
