use Rattle.keep_store.specs.Seen.{lane_seen}
use Rattle.keep_store.proofs.Runs.{may_answer}
use Rattle.keep_store.proofs.lane_taker.LaneTaker.put.Goals as goal

pub returns-clause-cause : goal.returns-clause-cause
returns-clause-cause g c = may_answer (lane_seen c.args.self.now) (lane_seen c.take.new.self) c.args.bytes.now c.take.result c.take.ensures.part_taken c.take.ensures.held
