use Rattle.ytdl_core.proofs.ToldLemmas.{all_told}
use Rattle.ytdl_core.proofs.command.run.Goals as goal

pub returns-in-Err-clause-told : goal.returns-in-Err-clause-told
returns-in-Err-clause-told g c =
    all_told c.args.words.now.items (g.I.InfoSource.file c.args.info.now) (g.O.Sink.written c.args.out.now) (g.O.Sink.written c.answer.new.out)
    (g.E.Sink.written c.args.err.now) (g.E.Sink.written c.answer.new.err) (g.E.Sink.written c.tell.new.err)
    (g.E.Sink.faults c.args.err.now) (g.E.Sink.faults c.answer.new.err) (g.E.Sink.faults c.tell.new.err)
    (g.E.Sink.refusals c.args.err.now) (g.E.Sink.refusals c.answer.new.err) (g.E.Sink.refusals c.tell.new.err)
    c.in-Err.ensures.err.later c.in-Err.ensures.later c.in-Err.fault
    c.in-Err.ensures.untold c.tell.ensures.line
