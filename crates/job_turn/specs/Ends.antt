-- What the answers of the calls below a turn mean for its job.
use Rattle.std.specs.Prelude.{ℕ, ◌+◌, ◌-◌, ◌^◌, min, Result, Ok, Err}
use Rattle.folder_base.specs.declared.store_fault.StoreFault.{StoreFault}
use Rattle.folder_base.specs.declared.store_fault.StoreFault.TheVariants as store
use Rattle.component_turn.specs.declared.component_end.ComponentEnd.{ComponentEnd}
use Rattle.component_turn.specs.declared.component_end.ComponentEnd.TheVariants.{Whole, Failed}
use Rattle.tool_chain.specs.declared.fault.ToolFault.{ToolFault}
use Rattle.tool_chain.specs.declared.fault.ToolFault.TheVariants as tool
use Rattle.job_turn.specs.declared.end.FaultAt.{FaultAt}
use Rattle.job_turn.specs.declared.end.FaultAt.TheVariants as at
use Rattle.job_turn.specs.declared.end.JobEnd.{JobEnd}
use Rattle.job_turn.specs.declared.end.JobEnd.TheVariants.{Done, Already, Fragment, Tool}
use Rattle.job_turn.specs.declared.end.Stop.{Stop}
use Rattle.job_turn.specs.declared.end.Stop.TheVariants.{End, Fault}
use Rattle.job_turn.specs.declared.end.TurnFault.{TurnFault}
use Rattle.job_turn.specs.declared.end.TurnFault.TheVariants.{Folder, OutOfMemory}

-- the fault of a turn for a refusal of its folder
abbrev pub fault_at : FaultAt → StoreFault → TurnFault
fault_at place (store.Folder call) = Folder call place
fault_at place store.OutOfMemory = OutOfMemory

-- the answer of a turn for its folder's, under this name
abbrev pub answer_at : FaultAt → Result (Unit {0}) StoreFault → Result (Unit {0}) TurnFault
answer_at place (Ok done) = Ok tt
answer_at place (Err fault) = Err (fault_at place fault)

-- what a component's end means for its job
abbrev pub component_answer : ℕ → Result ComponentEnd StoreFault → Result (Unit {0}) Stop
component_answer component (Ok Whole) = Ok tt
component_answer component (Ok (Failed piece tries cause)) = Err (End (Fragment component piece tries cause))
component_answer component (Err fault) = Err (Fault (fault_at (at.Component component) fault))

-- what the answer of children means for their job, the first of which has this number
abbrev pub chain_answer : ℕ → Result (Unit {0}) ToolFault → Result (Unit {0}) Stop
chain_answer first (Ok done) = Ok tt
chain_answer first (Err (tool.Tool step cause)) = Err (End (Tool (min (first + step) (2 ^ 64 - 1)) cause))
chain_answer first (Err (tool.Folder call)) = Err (Fault (Folder call at.Final))
chain_answer first (Err tool.OutOfMemory) = Err (Fault OutOfMemory)

-- what a refusal under the final name means for a job
abbrev pub final_answer : Result (Unit {0}) StoreFault → Result (Unit {0}) Stop
final_answer (Ok done) = Ok tt
final_answer (Err fault) = Err (Fault (fault_at at.Final fault))

-- what a removal behind a job means for it
abbrev pub cleared_answer : Result (Unit {0}) TurnFault → Result (Unit {0}) Stop
cleared_answer (Ok done) = Ok tt
cleared_answer (Err fault) = Err (Fault fault)

-- what that means for a job whose file stood
abbrev pub stood_answer : Result (Unit {0}) TurnFault → Result JobEnd TurnFault
stood_answer (Ok done) = Ok Already
stood_answer (Err fault) = Err fault

-- the answer of a turn that went to its end, or no further than this
abbrev pub turn_answer : Result (Unit {0}) Stop → Result JobEnd TurnFault
turn_answer (Ok done) = Ok Done
turn_answer (Err (End end)) = Ok end
turn_answer (Err (Fault fault)) = Err fault
