use Rattle.std.proofs.Common.{◌≡◌, ◌++◌, ◌∷◌, ◌∙◌, [], List, sym, ap, map, rules, arith, string_bytes, None, is_some, String}
use Rattle.std.specs.BTreeMap.{keys}
use Rattle.std.specs.declared.alloc.Global.{Global}
use Rattle.std.proofs.lemmas.Grind.{common_steps}
use Rattle.std.proofs.lemmas.List.{append-nil, map-append}
use Rattle.folder_base.specs.Disk.{Name, put}
use Rattle.folder_base.specs.Files.{names_of}
use Rattle.folder_base.specs.Stop.{filled_names}
use Rattle.folder_base.proofs.Copied.{laid, laid_more, laid_filled, next_stands}
use Rattle.folder_base.proofs.Listed.{keys_so_far}
use Rattle.folder_base.proofs.replay.filled_files.Goals as goal

pub add_filled-requires : goal.add_filled-requires
add_filled-requires c =
    let files = c.args.files.now in
    let left : map (λ key. key.now) c.loop-name.yielded ++ c.in-Some.name.now ∷ c.next.new.self ≡ keys files =
    ap (λ (rest : List (String Global)). map (λ key. key.now) c.loop-name.yielded ++ rest) (sym c.in-Some.ensures.steps) ∙ c.loop-name.invariant.rest in
    ap (λ (name : Name). is_some (names_of files name)) c.deref.ensures
    ∙ next_stands files (λ _. None) c.in-Some.name.now (map (λ key. string_bytes key.now) c.loop-name.yielded) (map (λ key. string_bytes key) c.next.new.self)
    (keys_so_far files c.loop-name.yielded (c.in-Some.name.now ∷ c.next.new.self) left)

pub loop-name-preserved : goal.loop-name-preserved
loop-name-preserved c =
    let from = filled_names c.args.fill (names_of c.args.files.now) in
    let front = map (λ key. string_bytes key.now) c.loop-name.yielded in
    let name_is : c.deref.result.now ≡ string_bytes c.in-Some.name.now = first_of (search rules, grind (arith, common_steps)) in
    record {
      stand = c.in_ok-add_filled.ensures ∙ (λ i. put (c.loop-name.invariant.stand i) (name_is i) (from (name_is i)))
          ∙ sym (laid_more front from (λ _. None) (string_bytes c.in-Some.name.now))
          ∙ ap (λ (l : List Name). laid l from (λ _. None)) (sym (map-append (λ key. string_bytes key.now) c.loop-name.yielded (c.in-Some.name ∷ [])));
      rest = first_of (search rules, grind (arith, common_steps));
    }

pub returns : goal.returns
returns c =
    let files = c.args.files.now in
    let all = keys_so_far files c.loop-name.yielded c.loop-name.name-iterator c.loop-name.invariant.rest in
    c.loop-name.invariant.stand
    ∙ ap (λ (l : List Name). laid l (filled_names c.args.fill (names_of files)) (λ _. None))
    (sym (append-nil (map (λ key. string_bytes key.now) c.loop-name.yielded)) ∙ ap (λ rest. map (λ key. string_bytes key.now) c.loop-name.yielded ++ map (λ key. string_bytes key) rest) (sym c.in-None.ensures.steps.0) ∙ all)
    ∙ laid_filled files (λ _. None) c.args.fill
