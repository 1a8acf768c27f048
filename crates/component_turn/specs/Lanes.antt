-- Parts of a folder, the lanes that are opened over them, and how they come back.
use Rattle.std.specs.Prelude.{◌≡◌, ◌⊎◌, ℕ, ◌+◌, ◌≤◌, Bool, IsTrue, List, [], ◌∷◌, length, ⊤, is_some}
use Rattle.folder_base.specs.Disk.{Name, Bytes, Disk, Image, IsSettled}
use Rattle.folder_base.specs.Parts.{inside}
use Rattle.folder_base.specs.Story.{World, Through}
use Rattle.folder_base.specs.declared.store_fault.StoreFault.{StoreFault}
use Rattle.keep_store.specs.Lane.{Seen, IsLaneFolder}
use Rattle.keep_store.specs.Opens.{Opens, NotOpened}
use Rattle.keep_store.specs.Promise.{IsPromise, PieceSound}
use Rattle.keep_store.specs.Publish.{Stays}
use Rattle.keep_store.specs.Safe.{reads}
use Rattle.piece_turn.specs.Lane.{NoLess}
use Rattle.component_store.specs.Component.{Piece}

-- Each part answers for its stem's names.
abbrev pub AllFolders : List Name → List World → Type 0
AllFolders [] [] = ⊤
AllFolders (stem ∷ stems) (world ∷ worlds) = (IsTrue world.tells → IsLaneFolder stem world) × AllFolders stems worlds
AllFolders stems worlds = ⊥

-- a part whose lane was refused, or was not tried
abbrev pub IsLeft : Name → World → World → Type 0
IsLeft stem old new = ((fault : StoreFault) × NotOpened stem old new fault) ⊎ (new ≡ old)

-- Lanes were opened over the first parts, the k-th first; the others are left.
abbrev pub AllTried : ℕ → List Name → List World → List Seen → List World → Type 0
AllTried k [] [] [] [] = ⊤
AllTried k (stem ∷ stems) (old ∷ olds) (lane ∷ lanes) left = Opens old k stem lane × AllTried (k + 1) stems olds lanes left
AllTried k (stem ∷ stems) (old ∷ olds) [] (new ∷ left) = IsLeft stem old new × AllTried (k + 1) stems olds [] left
AllTried k stems olds lanes left = ⊥

-- Over one of the parts the lane was refused for this fault.
abbrev pub WasRefused : StoreFault → List Name → List World → List World → Type 0
WasRefused fault (stem ∷ stems) (old ∷ olds) (new ∷ news) = NotOpened stem old new fault ⊎ WasRefused fault stems olds news
WasRefused fault stems olds news = ⊥

-- A part came back: at no moment since it was handed out with nothing pending is less promised.
pub record Retained (stem : Name) (old new : World) : Type 0 where
  pub stays : Stays old new
  pub kept : IsTrue new.tells → IsSettled old.story.now → Through old.story new.story (NoLess (reads old.story.now) stem)

-- each part, by its stem
abbrev pub AllRetained : List Name → List World → List World → Type 0
AllRetained [] [] [] = ⊤
AllRetained (stem ∷ stems) (old ∷ olds) (new ∷ news) = Retained stem old new × AllRetained stems olds news
AllRetained stems olds news = ⊥

-- A part came back: each image since it was handed out with nothing pending, and with its piece sound, is sound.
pub record Came (piece : Piece) (old new : World) : Type 0 where
  pub stays : Stays old new
  pub sound : IsTrue new.tells → IsSettled old.story.now → PieceSound piece.all piece.stem (reads old.story.now) → Through old.story new.story (PieceSound piece.all piece.stem)

-- each part, by its piece
abbrev pub AllCame : List Piece → List World → List World → Type 0
AllCame [] [] [] = ⊤
AllCame (piece ∷ pieces) (old ∷ olds) (new ∷ news) = Came piece old new × AllCame pieces olds news
AllCame pieces olds news = ⊥

-- Each stem's part of this disk has nothing pending.
abbrev pub EachSettled : List Name → Disk → Type 0
EachSettled [] disk = ⊤
EachSettled (stem ∷ stems) disk = IsSettled (inside stem disk) × EachSettled stems disk

-- Of no piece an image promises less than another did.
abbrev pub EachNoLess : Image → List Name → Image → Type 0
EachNoLess entry [] image = ⊤
EachNoLess entry (stem ∷ stems) image = NoLess entry stem image × EachNoLess entry stems image

-- A piece as its lane finds it: complete where its complete name stands, and with as many bytes as are promised.
pub record IsFound (stem : Name) (disk : Disk) (complete : Bool) (promised : ℕ) : Type 0 where
  pub whole : complete ≡ is_some (disk.live stem)
  pub first : (bytes : Bytes) → IsPromise stem (reads disk) bytes → promised ≡ length bytes

-- At least so many bytes are promised.
abbrev pub PromisesLeast : Name → Disk → ℕ → Type 0
PromisesLeast stem disk count = (bytes : Bytes) → IsPromise stem (reads disk) bytes → count ≤ length bytes
