use Rattle.std.proofs.Common.{◌∙◌, ◌++◌, ◌∷◌, [], List, sym, refl, ap, map, rules, arith, string_bytes, subst}
use Rattle.std.specs.Prelude.{bytes_eq}
use Rattle.std.specs.List.{list_any}
use Rattle.std.proofs.lemmas.Grind.{common_steps}
use Rattle.std.proofs.lemmas.List.{append-nil, map-append}
use Rattle.folder_base.specs.Disk.{Name}
use Rattle.folder_base.specs.Index.{FindsPart}
use Rattle.folder_base.proofs.Copied.{any_or_last}
use Rattle.folder_base.proofs.Listed.{keys_so_far, keys_stand}
use Rattle.folder_base.proofs.owning.are_names_of.Goals as goal

pub loop-name-preserved : goal.loop-name-preserved
loop-name-preserved c =
    let front = map (λ key. string_bytes key.now) c.loop-name.yielded in
    let last = string_bytes c.in-Some.name.now in
    record {
      found = λ stems is name any.
          any_or_last (λ n. FindsPart stems n c.args.place) front last name (c.loop-name.invariant.found stems is name)
          (subst (λ (n : Name). FindsPart stems n c.args.place) c.deref.ensures (c.if-not-is_name_of.ensures.found refl stems is))
          (sym (ap (λ (l : List Name). list_any (bytes_eq name) l) (map-append (λ key. string_bytes key.now) c.loop-name.yielded (c.in-Some.name ∷ []))) ∙ any);
      rest = first_of (search rules, grind (arith, common_steps));
    }

pub returns : goal.returns
returns c = λ yes stems is name stands.
    let files = c.args.files.now in
    let all = keys_so_far files c.loop-name.yielded c.loop-name.name-iterator c.loop-name.invariant.rest in
    let front_is = sym (append-nil (map (λ key. string_bytes key.now) c.loop-name.yielded)) ∙ ap (λ rest. map (λ key. string_bytes key.now) c.loop-name.yielded ++ map (λ key. string_bytes key) rest) (sym c.in-None.ensures.steps.0) ∙ all in
    c.loop-name.invariant.found stems is name (ap (λ (l : List Name). list_any (bytes_eq name) l) front_is ∙ keys_stand name files ∙ stands)
