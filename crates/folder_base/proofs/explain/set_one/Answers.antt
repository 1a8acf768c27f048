use Rattle.std.proofs.Common.{◌≡◌, ◌∙◌, string_bytes}
use Rattle.std.specs.Prelude.{Option}
use Rattle.std.proofs.lemmas.Result.{IfOk-at_ok}
use Rattle.folder_base.specs.Disk.{Spot, Spots}
use Rattle.folder_base.specs.Listing.{seen_spots}
use Rattle.folder_base.specs.Undo.{was_spot}
use Rattle.folder_base.specs.declared.change.Change.{Change}
use Rattle.folder_base.proofs.Explaining.{set_apart, seen_set, told_is}
use Rattle.folder_base.proofs.explain.set_one.Goals as goal

pub returns-in-Apart : goal.returns-in-Apart
returns-in-Apart c = λ live. set_apart c.args.change.now (seen_spots live c.args.seen.now) c.in-Apart.is

pub returns-in_ok-insert-in_default : goal.returns-in_ok-insert-in_default
returns-in_ok-insert-in_default c = λ live.
    let change : Change = c.args.change.now in
    let key = c.in_ok-name-in_default.name in
    let key_is : string_bytes key ≡ change.name = IfOk-at_ok (λ s. string_bytes s ≡ c.as_str.result.now) c.in_ok-name-in_default.was c.from_str.ensures.ok ∙ c.as_str.ensures in
    let old : Spots = seen_spots live c.args.seen.now in
    let same : (now : Option Spot) → was_spot c.in_ok-copy-in_default.field-0 now ≡ was_spot change.was (old change.name) = λ now.
    c.in_ok-copy-in_default.ensures now ∙ told_is change.was c.in_default.not-Apart now (old change.name) in
    seen_set live change (string_bytes key) c.args.seen.now c.insert.new.self c.in_ok-copy-in_default.field-0 key_is same c.in_ok-insert-in_default.ensures.updates
