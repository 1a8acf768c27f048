use Rattle.std.proofs.Common.{arith, refl}
use Rattle.info_tree.specs.Plain.{plain}
use Rattle.ytdl_core.proofs.CountLemmas.{items_as_entries}
use Rattle.ytdl_core.proofs.command.tree_entries.Goals as goal

pub make_jobs-requires : goal.make_jobs-requires
make_jobs-requires c =
    omega (arith, c.requires.number, c.requires.few, items_as_entries (plain c.args.tree.now) c.in_ok-items.items.items c.in_ok-items.ensures.items)

pub returns-clause-entries : goal.returns-clause-entries
returns-clause-entries c = record {
  items = c.in_ok-items.items.items;
  has = c.in_ok-items.ensures.items;
  are = record { streams = c.args.plan.now.streams; same = refl; jobs = c.in_ok-make_jobs.ensures.jobs };
}
