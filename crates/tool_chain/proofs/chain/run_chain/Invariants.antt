use Rattle.std.proofs.Common.{map, drop}
use Rattle.std.specs.Prelude.{Result}
use Rattle.folder_base.specs.Story.{World}
use Rattle.keep_store.specs.Publish.{Stays}
use Rattle.tool_chain.specs.Jobs.{job_of}
use Rattle.tool_chain.specs.Runs.{Bench}
use Rattle.tool_chain.specs.Chain.{Chains}
use Rattle.tool_chain.specs.declared.fault.ToolFault.{ToolFault}
use Rattle.tool_chain.proofs.chain.run_chain.Given as goal

abbrev pub invariant-loop-step : goal.invariant-loop-step
invariant-loop-step g l = record {
  kept : Stays (g.F.Folder.world l.fn.folder) (g.F.Folder.world l.folder);
  rest : (bench : Bench) (world : World) (result : Result (Unit {0}) ToolFault)
      → Chains l.step (map job_of (drop l.step l.job-items)) (g.T.Tools.bench l.tools) bench (g.F.Folder.world l.folder) world result
      → Chains 0 (map job_of l.job-items) (g.T.Tools.bench l.fn.tools) bench (g.F.Folder.world l.fn.folder) world result;
}
