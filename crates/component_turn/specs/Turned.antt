-- What a component's turn promises.
use Rattle.std.specs.Prelude.{◌≡◌, ◌⊎◌, ℕ, ◌<◌, Bool, true, false, ◌&&◌, IsTrue, IsOk, IsSome, IfErr, IfOk, List, [], length, Some, None, Result, Ok, Err, is_some}
use Rattle.std.specs.List.{slice_get}
use Rattle.folder_base.specs.Disk.{Name, Disk, Image, May}
use Rattle.folder_base.specs.Story.{World, Through}
use Rattle.folder_base.specs.declared.store_fault.StoreFault.{StoreFault}
use Rattle.folder_base.specs.declared.store_fault.StoreFault.TheVariants.{OutOfMemory}
use Rattle.folder_steps.specs.Follow.{Always, AsRead, Follows, Beside}
use Rattle.keep_store.specs.Promise.{IfStands}
use Rattle.keep_store.specs.Safe.{reads}
use Rattle.link_http.specs.Wire.{Wire}
use Rattle.link_http.specs.declared.piece.Piece.{Piece}
use Rattle.claim_crew.specs.Claimed.{joined_all}
use Rattle.piece_turn.specs.Lane.{NoLess}
use Rattle.piece_turn.specs.declared.piece_end.PieceEnd.{PieceEnd}
use Rattle.plan_record.specs.Names.{record_of, stem_of}
use Rattle.component_store.specs.Begin.{goes_on}
use Rattle.component_store.specs.Component.{Web, ComponentSound}
use Rattle.component_turn.specs.declared.component.Component.{Component}
use Rattle.component_turn.specs.declared.component_end.ComponentEnd.{ComponentEnd}
use Rattle.component_turn.specs.declared.component_end.ComponentEnd.TheVariants.{Whole}
use Rattle.component_turn.specs.declared.settings.Settings.{Settings}
use Rattle.component_turn.specs.Component.{name_of, text_of, count_of}
use Rattle.component_turn.specs.Plan.{lines_of, is_of}
use Rattle.component_turn.specs.Crew.{Endures, MayFail, PromisedAt}
use Rattle.component_turn.specs.Judge.{judged}
use Rattle.component_turn.specs.Lanes.{IsFound}
use Rattle.component_turn.specs.Pieces.{AllTell, AreTold, IsReached, AskedAll}

-- whether the component goes on under the record that it has
abbrev pub goes : Component → Settings → World → Bool
goes component settings world = goes_on (name_of component) (text_of component) settings.fresh world.story.now

-- whether it is complete before its turn, so that nothing is asked for it
abbrev pub is_complete : Component → Settings → World → Bool
is_complete component settings world = goes component settings world && is_some (world.story.now.live (name_of component))

-- A piece of a component that goes on is found as its names tell; of any other none of its bytes are there, and its first try is from 0.
abbrev pub IsAt : Bool → Name → Disk → ℕ → Bool → ℕ → Type 0
IsAt true component disk k complete promised = IsFound (stem_of component k) disk complete promised
IsAt false component disk k complete promised = (complete ≡ false) × (promised ≡ 0)

-- How each piece was found, where the folder tells.
abbrev pub Found : Component → Settings → World → ℕ → Bool → ℕ → Type 0
Found component settings world k complete promised = IsTrue world.tells → IsAt (goes component settings world) (name_of component) world.story.now k complete promised

-- What is promised of each piece then, where an end is told.
abbrev pub Promised : Component → World → Result ComponentEnd StoreFault → ℕ → ℕ → Type 0
Promised component world result k got = IsOk result → PromisedAt (name_of component) world k got

-- Each image that a crash may leave has what the family's names read as.
abbrev pub IsAsRead : Component → Disk → Type 0
IsAsRead component disk = Always (AsRead (is_of (name_of component)) disk) disk

-- No less is promised of the piece than there was, or the component stands beside its plan's record.
abbrev pub IsKept : Component → Disk → ℕ → Image → Type 0
IsKept component disk k image = NoLess (reads disk) (stem_of (name_of component) k) image ⊎ (IsSome (image (name_of component)) × (image (record_of (name_of component)) ≡ Some (text_of component)))

-- The component stands only beside its plan's record.
abbrev pub IsOwn : Component → Image → Type 0
IsOwn component image = IfStands (image (name_of component)) (λ bytes. image (record_of (name_of component)) ≡ Some (text_of component))

-- The answer is by how the pieces ended. Of a component that was complete none was begun, and of another that got an end each is told; a piece that failed by the
-- folder, or for want of memory, decides the answer, whatever failed later.
pub record EndIs (complete : Bool) (count : ℕ) (ends : List PieceEnd) (result : Result ComponentEnd StoreFault) : Type 0 where
  pub whole : complete ≡ true → ends ≡ []
  pub all : complete ≡ false → IsOk result → length ends ≡ count
  pub end : IfOk result (λ end. judged ends ≡ Ok end)
  pub first : (fault : StoreFault) → judged ends ≡ Err fault → result ≡ Err fault

-- At each moment of the turn: no name beside the family is touched; what is promised of the pieces of a component that goes on is kept; a component that did not
-- stand as the turn began stands only beside its plan's record; and where the replies were truthful, whatever stood was sound. A final name is one that does not
-- stand as the turn begins.
pub record Underway (component : Component) (settings : Settings) (truth : Web → Type 0) (old new : World) : Type 0 where
  pub apart : Through old.story new.story (Follows (May old.story.now) (Beside (is_of (name_of component))))
  pub kept : goes component settings old ≡ true → IsAsRead component old.story.now → (k : ℕ) → k < count_of component → Through old.story new.story (IsKept component old.story.now k)
  pub own : (goes component settings old ≡ true → IsAsRead component old.story.now) → Always (λ image. image (name_of component) ≡ None) old.story.now → Through old.story new.story (IsOwn component)
  pub sound : (web : Web) → truth web → (goes component settings old ≡ true → IsAsRead component old.story.now) → (component.target.is_final ≡ true → Always (λ image. image (name_of component) ≡ None) old.story.now)
      → Always (ComponentSound web (name_of component)) old.story.now → Through old.story new.story (ComponentSound web (name_of component))

-- What stands in every image once the turn has ended: the plan's record, and the component where it is whole.
pub record Stands (component : Component) (settings : Settings) (old new : World) (result : Result ComponentEnd StoreFault) : Type 0 where
  pub record_is : IsOk result → (goes component settings old ≡ true → IsAsRead component old.story.now) → Always (λ image. image (record_of (name_of component)) ≡ Some (text_of component)) new.story.now
  pub whole : result ≡ Ok Whole → (goes component settings old ≡ true → IsAsRead component old.story.now) → Always (λ image. IsSome (image (name_of component))) new.story.now
  pub gone : result ≡ Ok Whole → is_complete component settings old ≡ false → (k : ℕ) → k < count_of component → new.story.now.live (stem_of (name_of component) k) ≡ None

-- A component's turn, by workers whose dialers were `ds` and are `es`. For one that is complete nothing is asked; of another that comes to be whole each piece had
-- its turn. `calm` supposes that nothing fails and that all is there: then it is whole, or memory was refused.
pub record Turned {D : Type 0} (wire : D → Wire) (component : Component) (settings : Settings) (old new : World) (result : Result ComponentEnd StoreFault) (ds es : List D) : Type 0 where
  pub endures : Endures old new
  pub refused : IfErr result (MayFail old new)
  pub ends : List PieceEnd
  pub turns : AskedAll wire (Found component settings old) (Promised component new result) (λ k. IsTrue new.tells) component.pieces.items settings.retries ends ds es
  pub end : IsTrue new.tells → EndIs (is_complete component settings old) (count_of component) ends result
  pub nothing : IsTrue new.tells → is_complete component settings old ≡ true → es ≡ ds
  pub each : IsTrue new.tells → is_complete component settings old ≡ false → result ≡ Ok Whole → turns.count ≡ count_of component
  pub underway : IsTrue new.tells → Underway component settings (λ web. AllTell wire es × AreTold web (lines_of component.pieces.items) (joined_all turns.asked)) old new
  pub stands : IsTrue new.tells → Stands component settings old new result
  pub calm : IsTrue old.steady → IsTrue old.tells
      → ((k : ℕ) (piece : Piece) (promised : ℕ) → slice_get component.pieces.items k ≡ Some piece → IsAt (goes component settings old) (name_of component) old.story.now k false promised → IsReached wire piece promised ds)
      → (result ≡ Ok Whole) ⊎ (result ≡ Err OutOfMemory)
