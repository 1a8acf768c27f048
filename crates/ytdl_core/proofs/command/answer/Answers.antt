use Rattle.std.proofs.Common.{◌≡◌, List, map, inl, refl}
use Rattle.std.proofs.lemmas.Result.{err_from_is_err_and}
use Rattle.job_plan.specs.Plan.{Job, Entry}
use Rattle.job_plan.specs.Views.{plain_entry}
use Rattle.word_list.specs.Views.{plain_plan}
use Rattle.ytdl_core.specs.Chunks.{script_of}
use Rattle.ytdl_core.specs.Information.{HaveEntries}
use Rattle.ytdl_core.specs.Lines.{said}
use Rattle.ytdl_core.specs.Origin.{origin_of}
use Rattle.ytdl_core.specs.Report.{simulated_end}
use Rattle.ytdl_core.specs.Views.{plain_command}
use Rattle.ytdl_core.proofs.ScriptLemmas.{sends_nothing}
use Rattle.ytdl_core.proofs.LimitLemmas.{nothing_left}
use Rattle.ytdl_core.proofs.RunLemmas.{bad_of, blamed_word, exact_bad, asked_err, asked_ok, no_word_of_read, no_word_of_bytes, no_word_of_sink, entries_of_file, exact_err, exact_ok, exact_sink, untold_sink, read_sink}
use Rattle.ytdl_core.proofs.CommandLemmas.{number_of_asked}
use Rattle.ytdl_core.proofs.command.answer.Goals as goal

pub read_entries-requires : goal.read_entries-requires
read_entries-requires g c = number_of_asked c.args.words.now.items (plain_command c.in-Ok.command) c.in-Ok.ensures.command

pub returns-in-Err-Bad-clause-words : goal.returns-in-Err-Bad-clause-words
returns-in-Err-Bad-clause-words g c =
    rw (c.in-Err-Bad.word-is, c.in-Err-Bad.fault-is) (blamed_word c.args.words.now.items c.args.info.now c.args.out.now c.in-Err-Bad.word c.in-Err-Bad.fault (bad_of c.args.words.now.items c.in-Err-Bad.word c.in-Err-Bad.fault (rw c.in-Err-Bad.field-0-is at c.in-Err-Bad.ensures.fault)))

pub returns-in-Err-Bad-clause-exact : goal.returns-in-Err-Bad-clause-exact
returns-in-Err-Bad-clause-exact g c =
    rw (c.in-Err-Bad.word-is, c.in-Err-Bad.fault-is) (exact_bad c.args.words.now.items (g.I.InfoSource.file c.args.info.now) c.in-Err-Bad.word c.in-Err-Bad.fault (bad_of c.args.words.now.items c.in-Err-Bad.word c.in-Err-Bad.fault (rw c.in-Err-Bad.field-0-is at c.in-Err-Bad.ensures.fault)))

pub returns-in_err-bytes-clause-words : goal.returns-in_err-bytes-clause-words
returns-in_err-bytes-clause-words g c =
    let e = err_from_is_err_and c.from_residual.result c.from_residual.ensures.1 in
    rw (e.1, e.2) (asked_err c.args.words.now.items (plain_command c.in-Ok.command) c.in_err-bytes.field-0.0 c.in-Ok.ensures.command (no_word_of_read _ _ (origin_of c.in_err-bytes.field-0.0) c.in_err-bytes.ensures.fault))

pub returns-in_err-entries-clause-words : goal.returns-in_err-entries-clause-words
returns-in_err-entries-clause-words g c =
    let e = err_from_is_err_and c.from_residual-in_err-entries.result c.from_residual-in_err-entries.ensures.1 in
    rw (e.1, e.2) (asked_err c.args.words.now.items (plain_command c.in-Ok.command) c.in_err-entries.field-0.0 c.in-Ok.ensures.command (no_word_of_bytes c.deref.result.now c.in_err-entries.field-0.0 c.in_err-entries.ensures.exact.info))

pub returns-in_err-report-clause-words : goal.returns-in_err-report-clause-words
returns-in_err-report-clause-words g c =
    let e = err_from_is_err_and c.from_residual-in_err-report.result c.from_residual-in_err-report.ensures.1 in
    rw (e.1, e.2) (asked_err c.args.words.now.items (plain_command c.in-Ok.command) _ c.in-Ok.ensures.command tt)

pub returns-in_err-chunks-clause-words : goal.returns-in_err-chunks-clause-words
returns-in_err-chunks-clause-words g c =
    let e = err_from_is_err_and c.from_residual-in_err-chunks.result c.from_residual-in_err-chunks.ensures.1 in
    rw (e.1, e.2) (asked_err c.args.words.now.items (plain_command c.in-Ok.command) _ c.in-Ok.ensures.command tt)

pub returns-in_err-write-clause-words : goal.returns-in_err-write-clause-words
returns-in_err-write-clause-words g c =
    let e = err_from_is_err_and c.from_residual-in_err-write.result c.from_residual-in_err-write.ensures.1 in
    rw (e.1, e.2) (asked_err c.args.words.now.items (plain_command c.in-Ok.command) c.in_err-write.field-0.0 c.in-Ok.ensures.command (no_word_of_sink (origin_of c.in_err-write.field-0.0) c.in_err-write.ensures.fault))

pub returns-in_err-entries-clause-exact : goal.returns-in_err-entries-clause-exact
returns-in_err-entries-clause-exact g c =
    let e = err_from_is_err_and c.from_residual-in_err-entries.result c.from_residual-in_err-entries.ensures.1 in
    rw (e.1, e.2) (exact_err c.args.words.now.items (g.I.InfoSource.file c.args.info.now) (plain_command c.in-Ok.command) c.in_ok-bytes.bytes.items (g.I.InfoSource.left c.read_file.new.info)
    c.in-Ok.ensures.command (rw c.as_str.ensures at c.in_ok-bytes.ensures.named) c.in_ok-bytes.ensures.bytes
    _ c.in_err-entries.field-0.0 (rw c.deref.ensures.value at c.in_err-entries.ensures.exact))

pub returns-in_err-report-clause-untold : goal.returns-in_err-report-clause-untold
returns-in_err-report-clause-untold g c =
    let e = err_from_is_err_and c.from_residual-in_err-report.result c.from_residual-in_err-report.ensures.1 in
    rw (e.1, e.2) (inl (sends_nothing (g.O.Sink.written c.args.out.now) (g.E.Sink.written c.args.err.now)))

pub returns-in_err-chunks-clause-untold : goal.returns-in_err-chunks-clause-untold
returns-in_err-chunks-clause-untold g c =
    let e = err_from_is_err_and c.from_residual-in_err-chunks.result c.from_residual-in_err-chunks.ensures.1 in
    rw (e.1, e.2) (inl (sends_nothing (g.O.Sink.written c.args.out.now) (g.E.Sink.written c.args.err.now)))

pub returns-in_err-write-clause-exact : goal.returns-in_err-write-clause-exact
returns-in_err-write-clause-exact g c =
    let e = err_from_is_err_and c.from_residual-in_err-write.result c.from_residual-in_err-write.ensures.1 in
    rw (e.1, e.2) (exact_sink c.args.words.now.items (g.I.InfoSource.file c.args.info.now) (plain_command c.in-Ok.command) c.in_ok-bytes.bytes.items (g.I.InfoSource.left c.read_file.new.info)
    c.in-Ok.ensures.command (rw c.as_str.ensures at c.in_ok-bytes.ensures.named) c.in_ok-bytes.ensures.bytes
    c.in_ok-entries.entries c.in_err-write.field-0.0 c.in_err-write.ensures.fault (rw c.deref.ensures.value at c.in_ok-entries.ensures.exact))

pub returns-in_err-write-clause-untold : goal.returns-in_err-write-clause-untold
returns-in_err-write-clause-untold g c =
    let e = err_from_is_err_and c.from_residual-in_err-write.result c.from_residual-in_err-write.ensures.1 in
    let have : HaveEntries (map plain_entry c.in_ok-entries.entries.items) (plain_plan c.in-Ok.command.plan) c.in_ok-bytes.bytes.items =
    rw c.deref.ensures.value at c.in_ok-entries.ensures.entries in
    let entries : List (Entry Job) = map plain_entry c.in_ok-entries.entries.items in
    let lines : script_of c.deref-4.result.now ≡ said c.in-Ok.command.quiet entries (map simulated_end entries) =
    rw (c.deref-4.ensures.value, c.in_ok-chunks.ensures, c.deref-3.ensures.value) refl in
    rw (e.1, e.2)
    (untold_sink c.args.words.now.items (g.I.InfoSource.file c.args.info.now) (g.O.Sink.written c.args.out.now) (g.O.Sink.written c.write.new.out)
    (g.E.Sink.written c.args.err.now) (g.E.Sink.written c.write.new.err) (origin_of c.in_err-write.field-0.0) c.in_err-write.ensures.fault
    (record {
      command = plain_command c.in-Ok.command;
      entries = entries;
      ended = record {
        asks = c.in-Ok.ensures.command;
        are = entries_of_file c.args.words.now.items (g.I.InfoSource.file c.args.info.now) (plain_command c.in-Ok.command) c.in_ok-bytes.bytes.items (g.I.InfoSource.left c.read_file.new.info)
            c.in-Ok.ensures.command (rw c.as_str.ensures at c.in_ok-bytes.ensures.named) c.in_ok-bytes.ensures.bytes
            entries have;
        fit = refl;
      };
      ends = map simulated_end entries;
      front = rw lines at c.in_err-write.ensures.front;
    }))

pub returns-clause-words : goal.returns-clause-words
returns-clause-words g c = asked_ok c.args.words.now.items (plain_command c.in-Ok.command) c.in_ok-report.report c.in-Ok.ensures.command

pub returns-clause-report : goal.returns-clause-report
returns-clause-report g c =
    let have : HaveEntries (map plain_entry c.in_ok-entries.entries.items) (plain_plan c.in-Ok.command.plan) c.in_ok-bytes.bytes.items =
    rw c.deref.ensures.value at c.in_ok-entries.ensures.entries in
    let entries : List (Entry Job) = map plain_entry c.in_ok-entries.entries.items in
    let lines : script_of c.deref-4.result.now ≡ said c.in-Ok.command.quiet entries (map simulated_end entries) =
    rw (c.deref-4.ensures.value, c.in_ok-chunks.ensures, c.deref-3.ensures.value) refl in
    let fit : c.in_ok-report.report.ends.items ≡ map simulated_end entries = rw c.deref-2.ensures.value at c.in_ok-report.ensures in
    record {
      command = plain_command c.in-Ok.command;
      entries = entries;
      ended = record {
        asks = c.in-Ok.ensures.command;
        are = entries_of_file c.args.words.now.items (g.I.InfoSource.file c.args.info.now) (plain_command c.in-Ok.command) c.in_ok-bytes.bytes.items (g.I.InfoSource.left c.read_file.new.info)
            c.in-Ok.ensures.command (rw c.as_str.ensures at c.in_ok-bytes.ensures.named) c.in_ok-bytes.ensures.bytes
            entries have;
        fit = fit;
      };
      lines = rw fit (rw lines at c.in_ok-write.ensures.whole);
    }

pub returns-clause-exact : goal.returns-clause-exact
returns-clause-exact g c =
    exact_ok c.args.words.now.items (g.I.InfoSource.file c.args.info.now) (plain_command c.in-Ok.command) c.in_ok-bytes.bytes.items (g.I.InfoSource.left c.read_file.new.info)
    c.in-Ok.ensures.command (rw c.as_str.ensures at c.in_ok-bytes.ensures.named) c.in_ok-bytes.ensures.bytes
    c.in_ok-entries.entries c.in_ok-report.report (rw c.deref.ensures.value at c.in_ok-entries.ensures.exact)

pub returns-clause-read : goal.returns-clause-read
returns-clause-read g c =
    let have : HaveEntries (map plain_entry c.in_ok-entries.entries.items) (plain_plan c.in-Ok.command.plan) c.in_ok-bytes.bytes.items =
    rw c.deref.ensures.value at c.in_ok-entries.ensures.entries in
    nothing_left (g.I.InfoSource.file c.args.info.now) (g.I.InfoSource.left c.read_file.new.info) (map plain_entry c.in_ok-entries.entries.items)
    (plain_plan c.in-Ok.command.plan) c.in_ok-bytes.bytes.items c.in_ok-bytes.ensures.bytes have

pub returns-in_err-write-clause-read : goal.returns-in_err-write-clause-read
returns-in_err-write-clause-read g c =
    let e = err_from_is_err_and c.from_residual-in_err-write.result c.from_residual-in_err-write.ensures.1 in
    let have : HaveEntries (map plain_entry c.in_ok-entries.entries.items) (plain_plan c.in-Ok.command.plan) c.in_ok-bytes.bytes.items =
    rw c.deref.ensures.value at c.in_ok-entries.ensures.entries in
    rw (e.1, e.2)
    (read_sink (g.I.InfoSource.file c.args.info.now) (g.I.InfoSource.left c.read_file.new.info) (origin_of c.in_err-write.field-0.0) c.in_err-write.ensures.fault
    (nothing_left (g.I.InfoSource.file c.args.info.now) (g.I.InfoSource.left c.read_file.new.info) (map plain_entry c.in_ok-entries.entries.items)
    (plain_plan c.in-Ok.command.plan) c.in_ok-bytes.bytes.items c.in_ok-bytes.ensures.bytes have))
