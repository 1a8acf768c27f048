use Rattle.std.proofs.Common.{◌≡◌, ◌≤◌, ◌-◌, ◌∙◌, ap, sym, subst, arith, length}
use Rattle.std.specs.Prelude.{Option, IsSome}
use Rattle.folder_base.specs.Disk.{File}
use Rattle.folder_base.specs.Names.{ReadsFile}
use Rattle.folder_base.specs.Story.{Story}
use Rattle.keep_store.proofs.Found.{stays_read}
use Rattle.keep_store.specs.TookLaws.{stays_both}
use Rattle.folder_steps.proofs.ReadingLemmas.{room_same, front_more}
use Rattle.folder_steps.proofs.RefusalLemmas.{read_calm}
use Rattle.folder_steps.proofs.reading.read_front.Goals as goal

pub loop-at-preserved : goal.loop-at-preserved
loop-at-preserved g c =
    let long : length c.read_at.new.buf ≡ length c.loop-at.bytes - c.loop-at.at = omega (arith, c.read_at.auto.buf) in
    let fits = c.in-Ok.ensures.fits in
    let same = room_same c.loop-at.bytes c.read_at.new.buf c.loop-at.at c.loop-at.invariant.within long in
    record {
      looked = record {
        stays = stays_both c.loop-at.invariant.looked.stays (stays_read c.read_at.ensures.cause);
        same = λ t. c.read_at.ensures.cause.same.story t ∙ c.loop-at.invariant.looked.same (c.read_at.ensures.cause.tells t);
      };
      calm = read_calm c.in-Ok.ensures.cause ∙ c.loop-at.invariant.calm;
      within = omega (arith, fits, same, long);
      read = λ t file is.
          let t0 = c.read_at.ensures.cause.tells t in
          let here = ap (λ (s : Story). s.now.live c.args.name.now) (c.loop-at.invariant.looked.same t0) in
          front_more _ file c.loop-at.bytes c.read_at.new.buf c.loop-at.at c.in-Ok.count (here ∙ is) c.loop-at.invariant.within (c.loop-at.invariant.read t0 file is) (c.in-Ok.ensures.told t);
    }
