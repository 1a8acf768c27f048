-- What a crash leaves of a lane that was opened where nothing was pending.
use Rattle.std.specs.Prelude.{◌≡◌, ◌⊎◌, ℕ, ◌≤◌, Bool, true, false, List, [], ◌∷◌, length, Option, Some, None, ⊤, bytes_eq, option_map}
use Rattle.folder_base.specs.Disk.{Name, Bytes, File, Names, Spot, still, lost, Spots, Disk, Image, content, earlier, lasting_file, IsSettled}
use Rattle.keep_store.specs.Promise.{IsNumber, number_of, promising, IsPromise, IsFront, AreFirst, PieceSound}

-- the files as they read
abbrev pub reads : Disk → Image
reads disk = λ name. option_map content (disk.live name)

-- What is kept since a lane was opened over `entry`: a promise's bytes are the first of the lane's, and no promise is shorter
-- than at the start; and if the piece agreed with the world's bytes, and the lane's bytes do, it still agrees.
pub record Kept (stem : Name) (entry : Disk) (bytes : Bytes) (complete : Bool) (image : Image) : Type 0 where
  pub front : (promise : Bytes) → IsPromise stem image promise → IsFront promise bytes
  pub no_less : (first promise : Bytes) → IsPromise stem (reads entry) first → IsPromise stem image promise → length first ≤ length promise
  pub sound : (all : Option Bytes) → AreFirst all bytes → (complete ≡ true → all ≡ Some bytes) → PieceSound all stem (reads entry) → PieceSound all stem image

-- A promise of a piece that was not complete: of no fewer bytes than at the start, all of which are lasting.
pub record IsLasting (stem : Name) (entry : Disk) (first sure : Bytes) (name : Name) : Type 0 where
  pub part : entry.live stem ≡ None
  pub digits : List ℕ
  pub number : IsNumber digits
  pub is : name ≡ promising stem digits
  pub least : length first ≤ number_of digits
  pub most : number_of digits ≤ length sure

-- The lane's file may have this name, or may have had it.
abbrev pub MayName : Name → Disk → Bytes → Bytes → Bool → Name → Type 0
MayName stem entry first sure complete name = IsLasting stem entry first sure name ⊎ ((complete ≡ true) × (name ≡ stem))

module _ (current : Name) (Had : Name → Type 0) (live : Name → Option File) where
  -- what a name stood for earlier: nothing, what stands there since the start, or the lane's file
  abbrev pub IsSpot : Name → Option File → Option Spot → Type 0
  IsSpot name start None = ⊤
  IsSpot name start (Some (lost gone)) = start ≡ Some gone
  IsSpot name start (Some (still other)) = ((current ≡ other) × Had name) ⊎ ((bytes_eq current other ≡ false) × (live other ≡ start))

-- Names that a crash may bring back: the lane's file is among them, if there was a promise at the start.
pub record IsEarlier (stem current : Name) (entry : Disk) (first sure : Bytes) (complete : Bool) (live : Names) (spots : Spots) : Type 0 where
  pub each : (name : Name) → IsSpot current (MayName stem entry first sure complete) live name (entry.live name) (spots name)
  pub some : ((first ≡ []) × (entry.live stem ≡ None)) ⊎ ((name : Name) × (MayName stem entry first sure complete name × (spots name ≡ Some (still current))))

-- so for each of these maps of earlier names
abbrev pub AllEarlier : Name → Name → Disk → Bytes → Bytes → Bool → Names → List Spots → Type 0
AllEarlier stem current entry first sure complete live [] = ⊤
AllEarlier stem current entry first sure complete live (spots ∷ back) =
    IsEarlier stem current entry first sure complete live spots × AllEarlier stem current entry first sure complete live back

-- A lane since it was opened over `entry`, where nothing was pending: each name that its file has or had promises lasting bytes
-- alone, and the other names have what they had, or are gone.
pub record Safe (stem current : Name) (entry : Disk) (bytes : Bytes) (complete : Bool) (disk : Disk) : Type 0 where
  pub settled : IsSettled entry
  pub first : Bytes
  pub promised : IsPromise stem (reads entry) first
  pub grown : IsFront first bytes
  pub file : File
  pub stands : disk.live current ≡ Some file
  pub reads_as : content file ≡ bytes
  pub whole : complete ≡ true → file ≡ lasting_file bytes
  pub here : MayName stem entry first file.sure complete current
  pub others : (name : Name) → bytes_eq current name ≡ false → (disk.live name ≡ None) ⊎ (disk.live name ≡ entry.live name)
  pub loose : disk.loose ≡ []
  pub mixed : disk.mixed ≡ []
  pub back : AllEarlier stem current entry first file.sure complete disk.live (earlier disk.back)
