use Rattle.std.proofs.Common.{◌≡◌, arith, rules, sym, subst}
use Rattle.std.specs.Prelude.{All}
use Rattle.std.proofs.lemmas.Grind.{common_steps}
use Rattle.std.proofs.lemmas.List.Elements.{All-push}
use Rattle.disk_folder.specs.Silent.{silent, world_of}
use Rattle.disk_folder.proofs.folder.DiskFolder.hand_out.Goals as goal

pub loop-disk-preserved : goal.loop-disk-preserved
loop-disk-preserved g c = record {
  count = first_of (search rules, grind (arith, common_steps));
  begun = subst (All (λ part. world_of part ≡ silent 0)) (sym c.in_ok-push.ensures.items) (All-push (λ part. world_of part ≡ silent 0) c.loop-disk.parts.items c.of.result c.loop-disk.invariant.begun c.of.ensures);
}
