use Rattle.std.proofs.Common.{◌≡◌, ◌||◌, true, refl}
use Rattle.folder_base.proofs.Rejoining.{joined_replayed, joined_holds}
use Rattle.folder_base.proofs.replay.Replay.join.Goals as goal

pub returns-clause-joined : goal.returns-clause-joined
returns-clause-joined c = λ mine disk rest h k own others.
    joined_replayed mine disk rest c.args.part c.args.self.now (record { files = c.copy_all.new.to; undos = c.append.new.self; listed = c.args.self.now.listed || c.args.part.listed }) h k own others
    c.in_ok-copy_all.ensures.ok c.in_ok-append.ensures.items refl

pub returns-clause-held : goal.returns-clause-held
returns-clause-held c = λ mine own others.
    joined_holds (λ name. mine name ≡ true) c.args.part c.args.self.now (record { files = c.copy_all.new.to; undos = c.append.new.self; listed = c.args.self.now.listed || c.args.part.listed }) own others
    c.in_ok-copy_all.ensures.ok c.in_ok-append.ensures.items
