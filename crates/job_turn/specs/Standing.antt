-- What stands of a job in an image that a crash may leave.
use Rattle.std.specs.Prelude.{◌≡◌, IsSome, Some}
use Rattle.folder_base.specs.Disk.{Name, Bytes, Disk, Image}
use Rattle.folder_steps.specs.Follow.{Always, AsRead}
use Rattle.plan_record.specs.Names.{record_of}
use Rattle.plan_record.specs.Plan.{plan_text}
use Rattle.component_turn.specs.Plan.{lines_of}
use Rattle.job_pieces.specs.declared.component.Component.{Component}
use Rattle.job_plan.specs.declared.job.Job.{Job}
use Rattle.job_turn.specs.Family.{in_family}

-- Each image that a crash may leave has what the names of the job's family read as.
abbrev pub IsAsRead : Job → Disk → Type 0
IsAsRead job disk = Always (AsRead (in_family job) disk) disk

-- the text of the record of a component's plan
abbrev pub record_text : Component → Bytes
record_text component = plan_text (lines_of component.pieces.items)

-- The name stands in every image that a crash may leave.
abbrev pub StandsFirm : Name → Disk → Type 0
StandsFirm name = Always (λ image. IsSome (image name))

-- The component's record stands, and is that of its plan.
abbrev pub HasOwnRecord : Component → Image → Type 0
HasOwnRecord component image = image (record_of component.name) ≡ Some (record_text component)

-- The component stands beside it.
abbrev pub StandsWhole : Component → Image → Type 0
StandsWhole component image = IsSome (image component.name) × HasOwnRecord component image

-- In every image its record is that of its plan.
abbrev pub IsRecorded : Disk → Component → Type 0
IsRecorded disk component = Always (HasOwnRecord component) disk

-- In every image it stands beside that.
abbrev pub IsComplete : Disk → Component → Type 0
IsComplete disk component = Always (StandsWhole component) disk
