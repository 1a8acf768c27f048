use Rattle.std.proofs.Common.{◌≡◌, ◌++◌, ◌∷◌, ◌∙◌, [], List, sym, ap, map, rules, arith, string_bytes, None}
use Rattle.std.proofs.lemmas.Grind.{common_steps}
use Rattle.std.proofs.lemmas.List.{append-nil, map-append}
use Rattle.folder_base.specs.Disk.{Name, put}
use Rattle.folder_base.specs.Files.{names_of}
use Rattle.folder_base.proofs.Copied.{laid, laid_more, laid_out}
use Rattle.folder_base.proofs.Listed.{keys_so_far}
use Rattle.folder_base.proofs.files.remove_all.Goals as goal

pub loop-name-preserved : goal.loop-name-preserved
loop-name-preserved c =
    let old = names_of c.args.to.now in
    let front = map (λ key. string_bytes key.now) c.loop-name.yielded in
    let name_is : c.deref.result.now ≡ string_bytes c.in-Some.name.now = first_of (search rules, grind (arith, common_steps)) in
    record {
      removed = c.remove_file.ensures.names ∙ (λ i. put (c.loop-name.invariant.removed i) (name_is i) None)
          ∙ sym (laid_more front (λ _. None) old (string_bytes c.in-Some.name.now))
          ∙ ap (λ (l : List Name). laid l (λ _. None) old) (sym (map-append (λ key. string_bytes key.now) c.loop-name.yielded (c.in-Some.name ∷ [])));
      rest = first_of (search rules, grind (arith, common_steps));
    }

pub returns : goal.returns
returns c =
    let all = keys_so_far c.args.from.now c.loop-name.yielded c.loop-name.name-iterator c.loop-name.invariant.rest in
    c.loop-name.invariant.removed
    ∙ ap (λ (l : List Name). laid l (λ _. None) (names_of c.args.to.now))
    (sym (append-nil (map (λ key. string_bytes key.now) c.loop-name.yielded)) ∙ ap (λ rest. map (λ key. string_bytes key.now) c.loop-name.yielded ++ map (λ key. string_bytes key) rest) (sym c.in-None.ensures.steps.0) ∙ all)
    ∙ laid_out c.args.from.now (names_of c.args.to.now)
