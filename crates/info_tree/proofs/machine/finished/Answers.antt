use Rattle.std.proofs.Common.{◌≡◌, length, rules}
use Rattle.info_tree.proofs.MachineLemmas.{frames_none}
use Rattle.info_tree.proofs.machine.finished.Goals as goal

pub returns-in-Done : goal.returns-in-Done
returns-in-Done c = λ t none done.
    let empty : length c.args.frames.items ≡ 0 = frames_none c.args.frames.items none in
    search (rules, empty)
