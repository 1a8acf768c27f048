use Rattle.std.proofs.Common.{◌≡◌, ◌∙◌, ◌++◌, ◌∷◌, [], List, sym, ap, map, rules, arith}
use Rattle.std.proofs.lemmas.Grind.{common_steps}
use Rattle.std.proofs.lemmas.List.{append-nil}
use Rattle.std.specs.Vec.Iter.{into_iter_items}
use Rattle.folder_base.specs.Places.{steps_in}
use Rattle.folder_base.specs.declared.memory.FolderMem.{FolderMem}
use Rattle.folder_base.proofs.Gathering.{next_is, gathered_is, steps_of}
use Rattle.folder_base.proofs.memory_parts.take_parts.Goals as goal

pub take_back-requires : goal.take_back-requires
take_back-requires c =
    let all = c.args.parts.items in
    let part : FolderMem = c.in-Some.part in
    let later : List FolderMem = into_iter_items c.next.new.self in
    let next_one : into_iter_items c.loop-part.part-iterator ≡ part ∷ later = first_of (search rules, grind (arith, common_steps)) in
    let begun : into_iter_items c.into_iter-part-iterator.result ≡ all = first_of (search rules, grind (arith, common_steps)) in
    next_is c.args.content.now all c.requires c.loop-part.content.line c.loop-part.content.places.items c.loop-part.yielded later part
    (ap (λ (l : List FolderMem). c.loop-part.yielded ++ l) (sym next_one) ∙ c.loop-part.invariant.rest ∙ begun) c.loop-part.invariant.line c.loop-part.invariant.taken

pub returns-clause-tale : goal.returns-clause-tale
returns-clause-tale c =
    let all = c.args.parts.items in
    let ended : into_iter_items c.loop-part.part-iterator ≡ [] = first_of (search rules, grind (arith, common_steps)) in
    let begun : into_iter_items c.into_iter-part-iterator.result ≡ all = first_of (search rules, grind (arith, common_steps)) in
    let whole : c.loop-part.yielded ≡ all = sym (append-nil c.loop-part.yielded) ∙ ap (λ (l : List FolderMem). c.loop-part.yielded ++ l) (sym ended) ∙ c.loop-part.invariant.rest ∙ begun in
    gathered_is c.args.content.now all c.requires c.loop-part.content.line c.loop-part.content.places.items c.loop-part.invariant.line
    (c.loop-part.invariant.taken ∙ ap (λ (l : List FolderMem). steps_in c.args.content.now.places.items ++ map steps_of l) whole)
