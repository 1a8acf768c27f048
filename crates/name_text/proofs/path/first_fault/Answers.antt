use Rattle.std.proofs.Common.{◌≡◌, lit<, sym, ap, ◌∙◌, rules}
use Rattle.std.specs.Prelude.{◌==◌, None}
use Rattle.std.specs.List.{slice_split}
use Rattle.std.specs.Option.{is_some, option_and_then}
use Rattle.std.proofs.lemmas.Iterator.Consumers.{YieldsList-from_enumerate}
use Rattle.std.proofs.lemmas.Iterator.Search.{find_from_yields_List}
use Rattle.std.proofs.lemmas.Iterator.Splits.{YieldsList-from_str_split}
use Rattle.name_text.specs.Path.{component_fault}
use Rattle.name_text.proofs.PathLemmas.{first_bad}
use Rattle.name_text.proofs.path.first_fault.Goals as goal

pub returns : goal.returns
returns c =
    let names = slice_split (λ b. b == 47) c.args.name.now in
    let found =
    find_from_yields_List (λ p. is_some (component_fault p.0 p.1)) _ _ c.find.result c.find.ensures.ran
    (YieldsList-from_enumerate (YieldsList-from_str_split 47 c.args.name.now (lit< tt) (cc) (cc) (cc)) (cc)) (λ x b q h. search (rules, h)) in
    let first = rw c.in_ok-place.was at found in
    c.component_fault.ensures ∙ ap (option_and_then (λ p. component_fault p.0 p.1)) first ∙ sym (first_bad 0 names)

pub returns-in_err-place : goal.returns-in_err-place
returns-in_err-place c =
    let names = slice_split (λ b. b == 47) c.args.name.now in
    let found =
    find_from_yields_List (λ p. is_some (component_fault p.0 p.1)) _ _ c.find.result c.find.ensures.ran
    (YieldsList-from_enumerate (YieldsList-from_str_split 47 c.args.name.now (lit< tt) (cc) (cc) (cc)) (cc)) (λ x b q h. search (rules, h)) in
    let first = rw c.in_err-place.was at found in
    let none : c.from_residual.result ≡ None = search rules in
    none ∙ ap (option_and_then (λ p. component_fault p.0 p.1)) first ∙ sym (first_bad 0 names)
