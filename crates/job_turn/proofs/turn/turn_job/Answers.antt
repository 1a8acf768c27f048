use Rattle.job_turn.proofs.GoesTurnLemmas.{goes_sound}
use Rattle.job_turn.proofs.SparedLemmas.{goes_spared}
use Rattle.job_turn.proofs.turn.turn_job.Goals as goal

pub returns-clause-turned : goal.returns-clause-turned
returns-clause-turned g c = record {
  goes = c.go.ensures.goes;
  spared = goes_spared g.D.Dialer.wire c.args.settings c.args.job c.requires.ready (g.T.Tools.bench c.args.tools.now) (g.T.Tools.bench c.go.new.tools) (g.F.Folder.world c.args.folder.now) (g.F.Folder.world c.go.new.folder) c.go.result
      c.args.dialers.now.items c.go.new.dialers.items c.go.ensures.goes;
  sound = λ t as_read tools tell web base replies always. goes_sound g.D.Dialer.wire c.args.settings c.args.job c.requires.ready (g.T.Tools.bench c.args.tools.now) (g.T.Tools.bench c.go.new.tools) (g.F.Folder.world c.args.folder.now) (g.F.Folder.world c.go.new.folder)
      c.go.result c.args.dialers.now.items c.go.new.dialers.items web base t tools tell as_read always c.go.ensures.goes replies;
}
