use Rattle.std.proofs.Common.{◌≡◌, List, length}
use Rattle.std.specs.Iterator.Adapters.{zip_first, zip_second}
use Rattle.std.specs.Vec.Iter.{into_iter_items}
use Rattle.folder_base.specs.Disk.{Name, Disk}
use Rattle.folder_base.specs.Files.{names_of}
use Rattle.folder_base.specs.Giving.{ArePartUndos}
use Rattle.folder_base.specs.Listing.{listed, IsListed}
use Rattle.folder_base.specs.Split.{AreSplit}
use Rattle.folder_base.proofs.Giving.{AreFirst}
use Rattle.folder_base.proofs.Handed.{EachStart}
use Rattle.folder_base.proofs.starts.start_all.Given as goal

abbrev pub invariant-loop-files : goal.invariant-loop-files
invariant-loop-files l = record {
  each : (stems : List Name) (disk : Disk) → names_of l.live ≡ disk.live → IsListed disk l.all.items → AreSplit stems disk.live (into_iter_items (zip_first l.initial.files-iterator))
      → ArePartUndos stems (names_of l.live) (listed l.all.items) (into_iter_items (zip_second l.initial.files-iterator)) → EachStart stems disk l.starts.items;
  many : length l.starts.items ≡ length l.yielded;
  first : AreFirst l.yielded (into_iter_items (zip_first l.files-iterator)) (into_iter_items (zip_second l.files-iterator))
      (into_iter_items (zip_first l.initial.files-iterator)) (into_iter_items (zip_second l.initial.files-iterator));
}
