-- What a component is as it is begun, and what a crash leaves meanwhile.
use Rattle.std.specs.Prelude.{◌≡◌, ◌⊎◌, Bool, true, false, not, ◌&&◌, Option, Some, None, IsSome, bytes_eq, if◌then◌else◌, []}
use Rattle.folder_base.specs.Disk.{Name, Bytes, Names, Disk, Image, May, begins, put, lasting_file}
use Rattle.folder_steps.specs.Follow.{Always, AsRead, IsAsRead, Follows, Thinner, IsLive}
use Rattle.folder_steps.specs.Reading.{has_bytes}
use Rattle.keep_store.specs.Safe.{reads}
use Rattle.plan_record.specs.Names.{record_of, spare_of, pieces_of, is_swept}
use Rattle.component_store.specs.declared.begun.Begun.{Begun}
use Rattle.component_store.specs.declared.begun.Begun.TheVariants.{Complete, Open}

-- A component goes on under the record that it has, if that is the plan's and it is not to be begun afresh.
abbrev pub goes_on : Name → Bytes → Bool → Disk → Bool
goes_on component plan fresh disk = not fresh && has_bytes (reads disk (record_of component)) plan

-- what is answered: complete exactly where it goes on and stands
abbrev pub begun_as : Bool → Bool → Begun
begun_as goes stands = if goes && stands then Complete else Open

-- the files then: without the one under the spare name; or the new record, and no other file of the family but a final one
abbrev pub begun_names : Name → Bool → Bytes → Bool → Names → Names
begun_names component final plan goes live name =
    if goes then put live (spare_of component) None name
    else (if bytes_eq (record_of component) name then Some (lasting_file plan) else (if is_swept component final name then None else live name))

-- some of the family's files gone, and anything under the spare name
abbrev pub Cleared : Name → Bool → Name → Option Bytes → Option Bytes → Type 0
Cleared component final name before now = bytes_eq (spare_of component) name ≡ false → Thinner (is_swept component final) name before now

-- the new record, and no other file of the family but a final one
abbrev pub Started : Name → Bool → Bytes → Name → Option Bytes → Option Bytes → Type 0
Started component final plan name before now = now ≡ (if bytes_eq (record_of component) name then Some plan else (if is_swept component final name then None else before))

-- while it is begun anew
abbrev pub IsStarting : Name → Bool → Bytes → Disk → Image → Type 0
IsStarting component final plan disk image = Follows (May disk) (Cleared component final) image ⊎ Follows (May disk) (Started component final plan) image

-- While it is begun: the file under the spare name may be gone, and no other file of one that goes on.
abbrev pub IsBeginning : Name → Bool → Bytes → Bool → Disk → Image → Type 0
IsBeginning component final plan goes disk image = Follows (May disk) (Thinner (bytes_eq (spare_of component))) image ⊎ ((goes ≡ false) × IsStarting component final plan disk image)

-- The new record stands, and no other file of the family but a final one; nothing is pending among the names.
pub record IsStarted (component : Name) (final : Bool) (plan : Bytes) (old new : Disk) : Type 0 where
  pub live : IsLive (begun_names component final plan false old.live) new
  pub back : new.back ≡ []
  pub loose : new.loose ≡ []
  pub mixed : new.mixed ≡ []

-- What each image has once it is begun: the plan's record, the pieces as they read, and a complete component; where it goes on, if
-- each image had them before.
pub record InAll (component : Name) (plan : Bytes) (goes : Bool) (old new : Disk) (begun : Begun) : Type 0 where
  pub record_is : (goes ≡ true → Always (IsAsRead (record_of component) old) old) → Always (λ image. image (record_of component) ≡ Some plan) new
  pub pieces : (goes ≡ true → Always (AsRead (begins (pieces_of component)) old) old) → Always (AsRead (begins (pieces_of component)) new) new
  pub whole : begun ≡ Complete → Always (IsAsRead component old) old → Always (λ image. IsSome (image component)) new
