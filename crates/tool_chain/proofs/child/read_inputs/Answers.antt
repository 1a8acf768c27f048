use Rattle.std.proofs.Common.{◌∙◌, ap, arith, subst}
use Rattle.std.proofs.lemmas.Result.{err_from_is_err_and}
use Rattle.folder_base.specs.Disk.{Name}
use Rattle.folder_base.specs.Story.{Story}
use Rattle.keep_store.specs.Safe.{reads}
use Rattle.tool_chain.specs.Memory.{bytes_of}
use Rattle.tool_chain.specs.Runs.{IsRead}
use Rattle.tool_chain.proofs.MemoryLemmas.{looked_both, told_more, exact_more}
use Rattle.tool_chain.proofs.child.read_inputs.Goals as goal

pub push_reserved-requires : goal.push_reserved-requires
push_reserved-requires g c = omega (arith, c.loop-name.invariant.room, c.loop-name.invariant.count)

pub loop-name-preserved : goal.loop-name-preserved
loop-name-preserved g c =
    let names = c.deref-name-items.result.now in
    let name = c.name-item.result in
    let old = c.loop-name.all.items in
    let new = c.push_reserved.new.self.items in
    let kept = c.in_ok-bytes.bytes in
    let disk = (g.F.Folder.world c.args.folder.now).story.now in
    let had = c.loop-name.invariant in
    record {
      looked = looked_both had.looked c.read_next.ensures.looked;
      told = λ t. let t0 = c.read_next.ensures.looked.stays.tells t in
          told_more names c.loop-name.name-index name (omega arith) c.name-item.is old new kept c.push_reserved.ensures.items disk (had.told t0)
          (subst (λ (n : Name). IsRead disk n (bytes_of kept)) c.as_str.ensures
          (subst (λ (s : Story). IsRead s.now c.as_str.result.now (bytes_of kept)) (had.looked.same t0) (c.in_ok-bytes.ensures.told t)));
      exact = λ t is. let t0 = c.read_next.ensures.looked.stays.tells t in
          exact_more names c.loop-name.name-index name (omega arith) c.name-item.is old new kept c.push_reserved.ensures.items disk (had.exact t0 (c.read_next.ensures.still is).0)
          (c.in_ok-bytes.ensures.exact t is ∙ ap (λ (s : Story). reads s.now c.as_str.result.now) (had.looked.same t0) ∙ ap (λ (n : Name). reads disk n) c.as_str.ensures);
      still = λ is. let before = c.read_next.ensures.still is in before.1 ∙ had.still before.0;
      room = omega (arith, had.room, c.push_reserved.ensures.capacity);
      count = omega (arith, had.count, c.push_reserved.ensures.len);
      steady = λ s t. c.read_next.ensures.steady (had.looked.stays.steady s) (had.looked.stays.still_tells t) (had.steady s t);
    }

pub returns-in_err-bytes-clause-fed : goal.returns-in_err-bytes-clause-fed
returns-in_err-bytes-clause-fed g c =
    let before = c.read_next.ensures.still c.in_err-bytes.ensures.fed in
    let p = err_from_is_err_and c.from_residual-in_err-bytes.result c.from_residual-in_err-bytes.ensures.1 in
    rw p.1 (before.1 ∙ c.loop-name.invariant.still before.0)
