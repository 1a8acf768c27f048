use Rattle.std.proofs.Common.{◌≡◌, subst}
use Rattle.folder_base.specs.declared.side.Side.{Side}
use Rattle.folder_base.specs.declared.side.Side.TheVariants.{Rest}
use Rattle.folder_base.proofs.Shared.{Keeps, after_merge}
use Rattle.folder_base.proofs.content.Content.merge.Goals as goal

pub invariant_of-self : goal.invariant_of-self
invariant_of-self c =
    let self = c.args.self.now in
    let new = c.merge_shared.new in
    let was : Keeps self.line.log.value self.line.side self.line.steps.items self.line.files self.index self.places =
    record { agrees = self.line.agrees; own = self.line.own; indexed = self.indexed; none = self.none; room = self.room; placed = self.placed } in
    let is_rest : self.line.side ≡ Rest = (c.if-not-is_split.ensures).0 in
    let after = after_merge self.line.log.value self.line.steps.items self.places self.line.files new.log.value new.side new.steps.items new.places new.files self.index
    c.merge_shared.result c.merge_shared.ensures
    (subst (λ (s : Side). Keeps self.line.log.value s self.line.steps.items self.line.files self.index self.places) is_rest was) in
    ((after.agrees, (after.own, tt)), (after.indexed, (after.none, (after.room, (after.placed, tt)))))
