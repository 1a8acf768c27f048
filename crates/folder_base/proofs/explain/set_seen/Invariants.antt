use Rattle.std.proofs.Common.{◌≡◌, take}
use Rattle.folder_base.specs.Disk.{Names}
use Rattle.folder_base.specs.Listing.{seen_spots}
use Rattle.folder_base.specs.Undo.{set_spots}
use Rattle.folder_base.proofs.explain.set_seen.Given as goal

abbrev pub invariant-loop-change : goal.invariant-loop-change
invariant-loop-change l =
    (live : Names) → seen_spots live l.seen ≡ set_spots (take l.change-index l.change-items) (seen_spots live l.initial.seen)
