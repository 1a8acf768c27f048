use Rattle.std.proofs.Common.{◌≡◌, length, ap, refl, arith}
use Rattle.std.proofs.lemmas.Result.{err_from_is_err_and}
use Rattle.keep_store.specs.State.{seen}
use Rattle.keep_store.specs.TookLaws.{took_none}
use Rattle.keep_store.proofs.Runs.{begun_taken, more_taken, some_taken, same_lane, empty_of}
use Rattle.keep_store.proofs.taking.take_all.Goals as goal

pub loop-rest-init : goal.loop-rest-init
loop-rest-init g c = record {
  taken = begun_taken (seen (g.F.Folder.world c.args.folder.now) c.args.state.now) c.args.bytes.now (took_none (seen (g.F.Folder.world c.args.folder.now) c.args.state.now));
  holds = c.requires.holds;
  is_ready = c.requires.is_ready;
  same = record { number = refl; stem = refl; complete = refl; fault = refl };
  size = refl;
  near = c.requires.near;
  full = c.requires.none;
}

pub returns-in_err-put_to_mark-clause-part_taken : goal.returns-in_err-put_to_mark-clause-part_taken
returns-in_err-put_to_mark-clause-part_taken g c =
    let p = err_from_is_err_and c.from_residual.result c.from_residual.ensures.1 in
    rw (p.1, p.2) (some_taken c.split_at.result.1.now c.loop-rest.invariant.taken c.split_at.ensures.by_index.0 c.in_err-put_to_mark.ensures.part_taken)

pub loop-rest-preserved : goal.loop-rest-preserved
loop-rest-preserved g c = record {
  taken = more_taken c.loop-rest.invariant.taken c.split_at.ensures.by_index.0 c.in_ok-put_to_mark.ensures.taken;
  holds = c.put_to_mark.ensures.holds;
  is_ready = c.in_ok-put_to_mark.ensures.is_ready;
  same = same_lane c.loop-rest.invariant.same c.put_to_mark.ensures.same;
  size = omega (arith, c.loop-rest.invariant.size, c.in_ok-put_to_mark.ensures.size, c.split_at.ensures.front_len, c.split_at.ensures.back_len);
  near = c.in_ok-put_to_mark.ensures.near;
  full = λ is. empty_of c.split_at.result.1.now (let none : length c.loop-rest.rest.now ≡ 0 = ap length (c.loop-rest.invariant.full is) in omega (arith, none, c.split_at.ensures.back_len));
}
