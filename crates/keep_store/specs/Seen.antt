-- A lane as its users see it.
use Rattle.folder_base.specs.declared.folder.Folder.{Ghosts}
use Rattle.keep_store.specs.Lane.{Seen}
use Rattle.keep_store.specs.State.{seen}
use Rattle.keep_store.specs.declared.lane.Lane.{Lane}

-- what a lane tells by its folder and its state
abbrev pub lane_seen : {F : Type 0} {folder : Ghosts F} → Lane F folder → Seen
lane_seen {F} {folder} lane = seen (folder.world lane.folder) lane.state
