use Rattle.std.proofs.Common.{◌≡◌, map, drop}
use Rattle.std.specs.Prelude.{Result}
use Rattle.folder_base.specs.Story.{World}
use Rattle.folder_base.specs.declared.store_fault.StoreFault.{StoreFault}
use Rattle.keep_store.specs.Publish.{Stays}
use Rattle.tool_chain.specs.Jobs.{job_of, is_output_of}
use Rattle.job_turn.specs.Clearing.{Clears}
use Rattle.job_turn.proofs.clearing.drop_outputs.Given as goal

-- what is removed from here on is what is left to be
abbrev pub invariant-loop-step : goal.invariant-loop-step
invariant-loop-step g l = record {
  kept : Stays (g.F.Folder.world l.fn.folder) (g.F.Folder.world l.folder);
  calm : (g.F.Folder.world l.folder).faults ≡ (g.F.Folder.world l.fn.folder).faults;
  rest : (world : World) (result : Result (Unit {0}) StoreFault)
      → Clears (is_output_of (map job_of (drop l.step-index l.step-items))) (g.F.Folder.world l.folder) world result
      → Clears (is_output_of (map job_of l.step-items)) (g.F.Folder.world l.fn.folder) world result;
}
