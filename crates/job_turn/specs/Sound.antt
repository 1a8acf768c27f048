-- What is sound of an image of a job, and what a job makes.
use Rattle.std.specs.Prelude.{◌≡◌, List, [], ◌∷◌, map, All, Option, Some, None, unwrap_or, bytes_eq, ⊤, if◌then◌else◌}
use Rattle.std.specs.Option.{option_map_or}
use Rattle.folder_base.specs.Disk.{Name, Bytes, Image, put}
use Rattle.keep_store.specs.Promise.{IfStands}
use Rattle.tool_chain.specs.Jobs.{Job as Command}
use Rattle.tool_chain.specs.Runs.{Making}
use Rattle.component_store.specs.Component.{Web, all_bytes, ComponentSound}
use Rattle.frag_crew.specs.Asked.{Asked}
use Rattle.component_turn.specs.Pieces.{AreTold}
use Rattle.component_turn.specs.Plan.{lines_of}
use Rattle.job_pieces.specs.declared.component.Component.{Component}
use Rattle.job_plan.specs.declared.job.Job.{Job}
use Rattle.job_plan.specs.Laws.{last_output}
use Rattle.job_turn.specs.Job.{steps_of}

-- the world's bytes of the component with this name; none of any other
abbrev pub fetched : Web → List Component → Image
fetched web [] name = None
fetched web (component ∷ components) name = if bytes_eq component.name name then all_bytes web (lines_of component.pieces.items) else fetched web components name

-- the files once a step has made its output of them
abbrev pub stepped : Making → Command → Image → Image
stepped make step image = option_map_or (λ output. put image output (Some (make step.args (map image step.inputs)))) step.output image

-- the files once all these steps have
abbrev pub all_stepped : Making → List Command → Image → Image
all_stepped make [] image = image
all_stepped make (step ∷ steps) image = all_stepped make steps (stepped make step image)

-- what these steps make of the world's bytes of these components, under the name of the last output, or else the final name
abbrev pub made_of : Web → Making → List Component → List Command → Name → Option Bytes
made_of web make components steps final = all_stepped make steps (fetched web components) (unwrap_or (last_output steps) final)

-- what a job makes: its steps' work on the world's bytes of its components
abbrev pub out_of : Web → Making → Job → Option Bytes
out_of web make job = made_of web make job.components.items (steps_of job) job.final_name

-- A final name that was there at first stands as it was; another, where it stands, holds what the job makes.
abbrev pub FinalSound : Option Bytes → Option Bytes → Option Bytes → Type 0
FinalSound (Some bytes) out now = now ≡ Some bytes
FinalSound None out now = IfStands now (λ bytes. out ≡ Some bytes)

-- To what was there at first the job is sound: its components, and its file.
pub record JobSound (web : Web) (make : Making) (job : Job) (base image : Image) : Type 0 where
  pub components : All (λ component. ComponentSound web component.name image) job.components.items
  pub final : FinalSound (base job.final_name) (out_of web make job) (image job.final_name)

-- The replies to these turns, component by component, are truthful of what the world has under the components' lines.
abbrev pub AllTold : Web → List Component → List (List Asked) → Type 0
AllTold web [] told = ⊤
AllTold web (component ∷ components) [] = ⊤
AllTold web (component ∷ components) (turns ∷ told) = AreTold web (lines_of component.pieces.items) turns × AllTold web components told
