-- How an image after a name change comes of one before it.
use Rattle.std.specs.Prelude.{◌≡◌, false, Option, None, bytes_eq}
use Rattle.folder_base.specs.Disk.{Name, File, Disk, Image, MayBe, Holds}

-- The name has what a crash leaves of this file, or stands for none, and the others have what they had.
pub record IsSet (name : Name) (file : Option File) (before image : Image) : Type 0 where
  pub here : MayBe file (image name)
  pub others : (other : Name) → bytes_eq name other ≡ false → image other ≡ before other

-- `to` has what a crash leaves of this file, `from` stands for none, and the others have what they had.
pub record IsMoved (from to : Name) (file : Option File) (before image : Image) : Type 0 where
  pub gone : image from ≡ None
  pub here : MayBe file (image to)
  pub others : (other : Name) → bytes_eq from other ≡ false → bytes_eq to other ≡ false → image other ≡ before other

-- It comes so of an image in which all of the folder's own changes held.
pub record Comes (by : Image → Image → Type 0) (disk : Disk) (image : Image) : Type 0 where
  pub before : Image
  pub held : Holds disk before
  pub by_it : by before image
