use Rattle.std.proofs.Common.{◌≡◌, ◌∙◌, ap, sym, subst, arith, false, length}
use Rattle.std.specs.Prelude.{Some, option_map}
use Rattle.std.proofs.lemmas.Result.{err_from_is_err_and}
use Rattle.folder_base.specs.Disk.{File, content}
use Rattle.folder_base.specs.Story.{Story}
use Rattle.keep_store.specs.Safe.{reads}
use Rattle.keep_store.specs.TookLaws.{stays_both}
use Rattle.folder_steps.specs.Reading.{has_bytes}
use Rattle.folder_steps.proofs.ReadingLemmas.{more_there, differs_there, read_on, same_to_end, tested, none_there}
use Rattle.folder_steps.proofs.RefusalLemmas.{err_later}
use Rattle.folder_steps.proofs.comparing.reads_as.Goals as goal

pub returns-clause-told : goal.returns-clause-told
returns-clause-told g c t =
    same_to_end _ c.args.bytes.now c.loop-at.at (c.requires.as_long (c.loop-at.invariant.looked.stays.tells t)) (omega arith) (c.loop-at.invariant.same t)

pub returns-then-is_empty-clause-told : goal.returns-then-is_empty-clause-told
returns-then-is_empty-clause-told g c t =
    let t0 = c.read_some.ensures.looked.stays.tells t in
    let cur = (g.F.Folder.world c.loop-at.folder).story in
    let long : option_map (λ (file : File). length (content file)) (cur.now.live c.args.name.now) ≡ Some (length c.args.bytes.now) =
    subst (λ (s : Story). option_map (λ (file : File). length (content file)) (s.now.live c.args.name.now) ≡ Some (length c.args.bytes.now)) (sym (c.loop-at.invariant.looked.same t0)) (c.requires.as_long (c.loop-at.invariant.looked.stays.tells t0)) in
    absurd (more_there (cur.now.live c.args.name.now) c.in_ok-piece.piece.now c.loop-at.at (length c.args.bytes.now) long c.loop-at-test.true (none_there (length c.in_ok-piece.piece.now) (c.if-is_empty.ensures)) (c.in_ok-piece.ensures.told t))

pub returns-then-not-starts_with-clause-told : goal.returns-then-not-starts_with-clause-told
returns-then-not-starts_with-clause-told g c t =
    let t0 = c.read_some.ensures.looked.stays.tells t in
    let cur = (g.F.Folder.world c.loop-at.folder).story in
    let not = tested c.args.bytes.now c.in_ok-piece.piece.now c.loop-at.at c.starts_with.result c.starts_with.ensures.value ∙ c.if-not-starts_with.true in
    subst (λ (s : Story). false ≡ has_bytes (reads s.now c.args.name.now) c.args.bytes.now) (c.loop-at.invariant.looked.same t0)
    (differs_there (cur.now.live c.args.name.now) c.args.bytes.now c.in_ok-piece.piece.now c.loop-at.at (c.in_ok-piece.ensures.told t) not)

pub loop-at-preserved : goal.loop-at-preserved
loop-at-preserved g c = record {
  looked = record {
    stays = stays_both c.loop-at.invariant.looked.stays c.read_some.ensures.looked.stays;
    same = λ t. c.read_some.ensures.looked.same t ∙ c.loop-at.invariant.looked.same (c.read_some.ensures.looked.stays.tells t);
  };
  calm = c.in_ok-piece.ensures.blames.calm ∙ c.loop-at.invariant.calm;
  within = let short = c.in_ok-piece.ensures.short in let below = c.loop-at-test.true in omega (arith, short, below);
  same = λ t file is. let t0 = c.read_some.ensures.looked.stays.tells t in
      let here = ap (λ (s : Story). s.now.live c.args.name.now) (c.loop-at.invariant.looked.same t0) in
      let yes = tested c.args.bytes.now c.in_ok-piece.piece.now c.loop-at.at c.starts_with.result c.starts_with.ensures.value ∙ c.if-not-starts_with.false in
      read_on _ c.args.bytes.now c.in_ok-piece.piece.now c.loop-at.at (c.in_ok-piece.ensures.told t) yes (λ f e. c.loop-at.invariant.same t0 f (sym here ∙ e)) file (here ∙ is);
}

pub returns-in_err-piece-clause-blames : goal.returns-in_err-piece-clause-blames
returns-in_err-piece-clause-blames g c =
    let p = err_from_is_err_and c.from_residual.result c.from_residual.ensures.1 in
    rw (p.1, p.2) (err_later c.loop-at.invariant.looked.stays c.loop-at.invariant.calm c.in_err-piece.ensures.blames)
