use Rattle.std.proofs.Common.{◌≡◌, ◌++◌, ◌∷◌, ◌∙◌, [], List, sym, ap, map, rules, arith, string_bytes}
use Rattle.std.proofs.lemmas.Grind.{common_steps}
use Rattle.std.proofs.lemmas.List.{append-nil, map-append}
use Rattle.folder_base.specs.Disk.{Name, put}
use Rattle.folder_base.specs.Files.{names_of, without}
use Rattle.folder_base.proofs.Copied.{laid, laid_more, laid_over, laid_without}
use Rattle.folder_base.proofs.Listed.{keys_so_far}
use Rattle.folder_base.proofs.files.copy_all.Goals as goal

pub loop-name-preserved : goal.loop-name-preserved
loop-name-preserved c =
    let old = names_of c.args.to.now in
    let from = names_of c.args.from.now in
    let front = map (λ key. string_bytes key.now) c.loop-name.yielded in
    let name = string_bytes c.in-Some.name.now in
    let name_is : c.deref.result.now ≡ string_bytes c.in-Some.name.now = first_of (search rules, grind (arith, common_steps)) in
    record {
      copied = c.in_ok-copy_name.ensures.ok ∙ (λ i. put (c.loop-name.invariant.copied i) (name_is i) (from (name_is i)))
          ∙ sym (laid_more front from old name)
          ∙ ap (λ (l : List Name). laid l from old) (sym (map-append (λ key. string_bytes key.now) c.loop-name.yielded (c.in-Some.name ∷ [])));
      rest = first_of (search rules, grind (arith, common_steps));
    }

pub returns-in_err-copy_name-clause-others : goal.returns-in_err-copy_name-clause-others
returns-in_err-copy_name-clause-others c =
    ap (without (names_of c.args.from.now)) (c.in_err-copy_name.ensures.err ∙ c.loop-name.invariant.copied)
    ∙ laid_without c.args.from.now (names_of c.args.to.now) (map (λ key. string_bytes key.now) c.loop-name.yielded) (map (λ key. string_bytes key) c.loop-name.name-iterator)
    (keys_so_far c.args.from.now c.loop-name.yielded c.loop-name.name-iterator c.loop-name.invariant.rest)

pub returns-clause-ok : goal.returns-clause-ok
returns-clause-ok c =
    let all = keys_so_far c.args.from.now c.loop-name.yielded c.loop-name.name-iterator c.loop-name.invariant.rest in
    c.loop-name.invariant.copied
    ∙ ap (λ (l : List Name). laid l (names_of c.args.from.now) (names_of c.args.to.now))
    (sym (append-nil (map (λ key. string_bytes key.now) c.loop-name.yielded)) ∙ ap (λ rest. map (λ key. string_bytes key.now) c.loop-name.yielded ++ map (λ key. string_bytes key) rest) (sym c.in-None.ensures.steps.0) ∙ all)
    ∙ laid_over c.args.from.now (names_of c.args.to.now)

pub returns-clause-others : goal.returns-clause-others
returns-clause-others c =
    ap (without (names_of c.args.from.now)) c.loop-name.invariant.copied
    ∙ laid_without c.args.from.now (names_of c.args.to.now) (map (λ key. string_bytes key.now) c.loop-name.yielded) (map (λ key. string_bytes key) c.loop-name.name-iterator)
    (keys_so_far c.args.from.now c.loop-name.yielded c.loop-name.name-iterator c.loop-name.invariant.rest)
