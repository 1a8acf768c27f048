-- What the objects in memory hold.
use Rattle.std.specs.Prelude.{ℕ, List, drop, Bool}
use Rattle.ytdl_core.specs.Outside.{File}
use Rattle.text_base.specs.CallPlan.{never_fails}
use Rattle.text_base.specs.declared.call_plan.CallPlan.{CallPlan}
use Rattle.ytdl_core.specs.declared.info_mem.InfoMem.{InfoMem}
use Rattle.ytdl_core.specs.declared.sink_mem.SinkMem.{SinkMem}

-- the file that a source holds
abbrev pub held_file : InfoMem → File
held_file source = record { name = source.name; bytes = source.bytes.items }

-- those of its bytes that were not read yet
abbrev pub bytes_left : InfoMem → List ℕ
bytes_left source = drop source.at source.bytes.items

-- a source in memory is open
abbrev pub is_source_open : InfoMem → Bool
is_source_open source = source.is_open

-- how many faults a source in memory has had
abbrev pub source_faults : InfoMem → ℕ
source_faults source = source.faults.count

-- which calls of a source in memory fail
abbrev pub source_plan : InfoMem → CallPlan
source_plan source = source.plan

-- No call of the source is planned to fail.
abbrev pub is_steady_source : InfoMem → Bool
is_steady_source source = never_fails source.plan

-- the bytes that a sink took
abbrev pub written_bytes : SinkMem → List ℕ
written_bytes sink = sink.bytes.items

-- how many faults a sink in memory has had
abbrev pub sink_faults : SinkMem → ℕ
sink_faults sink = sink.faults.count

-- how often memory was refused to a sink in memory
abbrev pub sink_refusals : SinkMem → ℕ
sink_refusals sink = sink.refusals.count

-- which calls of a sink in memory fail
abbrev pub sink_plan : SinkMem → CallPlan
sink_plan sink = sink.plan

-- No call of the sink is planned to fail.
abbrev pub is_steady_sink : SinkMem → Bool
is_steady_sink sink = never_fails sink.plan
