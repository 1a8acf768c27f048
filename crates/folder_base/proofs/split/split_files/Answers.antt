use Rattle.std.proofs.Common.{◌≡◌, ◌++◌, ◌∷◌, ◌∙◌, [], List, sym, ap, map, subst, rules, arith, string_bytes}
use Rattle.std.proofs.lemmas.Grind.{common_steps}
use Rattle.std.proofs.lemmas.List.{append-nil, map-append}
use Rattle.folder_base.specs.Disk.{Name}
use Rattle.folder_base.specs.Files.{names_of}
use Rattle.folder_base.specs.Split.{GivesPart}
use Rattle.folder_base.proofs.Listed.{keys_so_far}
use Rattle.folder_base.proofs.Splitting.{HasSplit, portion, split_none, split_step, split_whole}
use Rattle.folder_base.proofs.split.split_files.Goals as goal

pub loop-name-init : goal.loop-name-init
loop-name-init c = record {
  split = split_none c.args.stems.now.items (names_of c.args.files.now) c.in_ok-split.split.items c.in_ok-split.ensures;
  rest = first_of (search rules, grind (arith, common_steps));
}

pub loop-name-preserved : goal.loop-name-preserved
loop-name-preserved c =
    let stems = c.args.stems.now.items in
    let names = names_of c.args.files.now in
    let front = map (λ key. string_bytes key.now) c.loop-name.yielded in
    let name_is : c.deref.result.now ≡ string_bytes c.in-Some.name.now = first_of (search rules, grind (arith, common_steps)) in
    let gives = subst (λ (n : Name). GivesPart names n c.args.index.now c.loop-name.split.items c.give_name.new.split.items) name_is c.in_ok-give_name.ensures in
    record {
      split = subst (λ (l : List Name). HasSplit stems l names c.give_name.new.split.items) (sym (map-append (λ key. string_bytes key.now) c.loop-name.yielded (c.in-Some.name ∷ [])))
          (split_step stems front (string_bytes c.in-Some.name.now) names c.args.index.now c.loop-name.split.items c.give_name.new.split.items c.requires.indexed c.requires.apart c.loop-name.invariant.split gives);
      rest = first_of (search rules, grind (arith, common_steps));
    }

pub returns : goal.returns
returns c =
    let files = c.args.files.now in
    let has = c.loop-name.invariant.split in
    let all = sym (append-nil (map (λ key. string_bytes key.now) c.loop-name.yielded)) ∙ ap (λ rest. map (λ key. string_bytes key.now) c.loop-name.yielded ++ map (λ key. string_bytes key) rest) (sym c.in-None.ensures.steps.0)
    ∙ keys_so_far files c.loop-name.yielded c.loop-name.name-iterator c.loop-name.invariant.rest in
    record {
      many = has.many;
      each = λ at stem part stands is. has.each at stem part stands is ∙ ap (λ (l : List Name). portion stem l (names_of files)) all ∙ split_whole stem files;
    }
