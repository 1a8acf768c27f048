use Rattle.std.proofs.Common.{◌≡◌, ℕ, List, rules, subst, sym, ◌∙◌}
use Rattle.std.specs.String.{string_bytes}
use Rattle.std.proofs.lemmas.Str.{IsUtf8-string_bytes}
use Rattle.info_tree.specs.Plain.{plain}
use Rattle.info_tree.specs.Printed.{printed, first_line}
use Rattle.info_tree.specs.ReadsAgain.{ReadsAgain}
use Rattle.info_tree.proofs.PrintedLaw.{is_json, reads_again}
use Rattle.info_tree.proofs.json.tree_json.Goals as goal

pub returns-clause-json : goal.returns-clause-json
returns-clause-json c =
    let tree = plain c.args.tree.now in
    let out : string_bytes c.push_json.new.out ≡ printed c.args.style (first_line c.args.style.pretty) tree = search rules in
    let text : c.from.result ≡ string_bytes c.push_json.new.out = search rules in
    rw (text, out) (is_json c.args.style tree c.in_ok-push_json.ensures.sound (rw out at (IsUtf8-string_bytes c.push_json.new.out)))

pub returns-clause-reads_again : goal.returns-clause-reads_again
returns-clause-reads_again c =
    let tree = plain c.args.tree.now in
    let out : string_bytes c.push_json.new.out ≡ printed c.args.style (first_line c.args.style.pretty) tree = search rules in
    let text : c.from.result ≡ string_bytes c.push_json.new.out = search rules in
    subst (λ (l : List ℕ). ReadsAgain tree l) (sym (text ∙ out))
    (reads_again c.args.style tree c.in_ok-push_json.ensures.sound (rw out at (IsUtf8-string_bytes c.push_json.new.out)))
