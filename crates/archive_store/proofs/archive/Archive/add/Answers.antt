use Rattle.std.proofs.Common.{refl, sym, ◌∙◌}
use Rattle.std.specs.Prelude.{string_bytes}
use Rattle.std.specs.BTreeSet.{contains_text}
use Rattle.std.proofs.lemmas.Map.Text.{btree_set_updates_text}
use Rattle.archive_store.proofs.AddingLemmas.{not_begun}
use Rattle.archive_store.proofs.CauseLemmas.{taken_back, on_err}
use Rattle.archive_store.proofs.archive.Archive.add.Goals as goal

pub returns-then-has-clause-moments : goal.returns-then-has-clause-moments
returns-then-has-clause-moments g c t = not_begun (string_bytes c.args.self.now.name) c.args.line.now refl

pub returns-in_err-put-clause-moments : goal.returns-in_err-put-clause-moments
returns-in_err-put-clause-moments g c t = not_begun (string_bytes c.args.self.now.name) c.args.line.now refl

pub returns-then-is_err-clause-same : goal.returns-then-is_err-clause-same
returns-then-is_err-clause-same g c = on_err c.write_with-written.result (λ other.
    taken_back c.args.line.now other (contains_text c.args.self.now.lines) (contains_text c.put.new.lines other) (contains_text c.remove.new.self other)
    (sym c.has.ensures ∙ c.if-has.false) (c.in_ok-put.ensures.put other) (btree_set_updates_text c.args.line.now c.put.new.lines c.remove.new.self _ c.remove.ensures.updates other))
