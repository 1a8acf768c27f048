use Rattle.std.proofs.Common.{◌≡◌, ◌++◌, ◌∙◌, List, sym, ap, map, subst, string_bytes, String}
use Rattle.std.proofs.lemmas.List.{append-nil}
use Rattle.std.specs.List.{filter}
use Rattle.std.specs.BTreeMap.{keys}
use Rattle.std.specs.declared.alloc.Global.{Global}
use Rattle.folder_base.specs.Disk.{Name, begins}
use Rattle.folder_base.specs.Files.{names_of}
use Rattle.folder_base.specs.Names.{Lists}
use Rattle.folder_base.proofs.Listed.{lists_these, map_twice}
use Rattle.folder_base.proofs.listing.list_names.Goals as goal

pub returns : goal.returns
returns c =
    let files = c.args.files.now in
    let prefix = c.args.prefix.now in
    let all : map (λ k. k.now) c.loop-name.yielded ≡ keys files = sym (append-nil (map (λ k. k.now) c.loop-name.yielded)) ∙ ap (λ (rest : List (String Global)). map (λ k. k.now) c.loop-name.yielded ++ rest) (sym c.in-None.ensures.steps.0) ∙ c.loop-name.invariant.rest in
    let listed = c.loop-name.invariant.listed ∙ ap (filter (begins prefix)) (map_twice c.loop-name.yielded ∙ ap (map (λ k. string_bytes k)) all) in
    subst (λ (names : List Name). Lists prefix (names_of files) names) (sym listed) (lists_these prefix files c.keys-name-items.ensures.ordered)
