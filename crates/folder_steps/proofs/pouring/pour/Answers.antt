use Rattle.std.proofs.Common.{◌∙◌, ◌++◌, ap, sym, subst, arith, length, take}
use Rattle.std.specs.Prelude.{IsSome, Option}
use Rattle.std.proofs.lemmas.Result.{err_from_is_err_and}
use Rattle.folder_base.specs.Disk.{File, content}
use Rattle.folder_base.specs.Story.{Story}
use Rattle.folder_base.proofs.Moments.{stays}
use Rattle.keep_store.specs.TookLaws.{stays_both}
use Rattle.folder_steps.specs.Make.{HasNew}
use Rattle.folder_steps.proofs.NewFileLemmas.{grows_beside, grows_stands, file_of}
use Rattle.folder_steps.proofs.ReadingLemmas.{asked_size, none_there}
use Rattle.folder_steps.proofs.RefusalLemmas.{err_later}
use Rattle.folder_steps.proofs.PourLemmas.{poured_none, poured_more, poured_whole, ends_late, loose_more}
use Rattle.folder_steps.proofs.pouring.pour.Goals as goal

pub returns-in_err-asked-clause-loose : goal.returns-in_err-asked-clause-loose
returns-in_err-asked-clause-loose g c t start bytes had run = stays run (c.size_of.ensures.looked.same t)

pub loop-at-init : goal.loop-at-init
loop-at-init g c = record {
  kept = c.size_of.ensures.looked.stays;
  calm = c.in_ok-asked.ensures.blames.calm;
  within = omega arith;
  sized = λ t file is. asked_size _ c.in_ok-asked.asked _ (c.in_ok-asked.ensures.told t) file is ∙ sym c.unwrap_or-size.ensures;
  others = λ t other apart. ap (λ (s : Story). s.now.live other) (c.size_of.ensures.looked.same t);
  to_stands = λ t. subst (λ (s : Story). IsSome (s.now.live c.args.to.now)) (sym (c.size_of.ensures.looked.same t)) (c.requires.to_stands (c.size_of.ensures.looked.stays.tells t));
  loose = λ t start bytes had run. stays run (c.size_of.ensures.looked.same t);
  poured = λ t start before file had is. poured_none c.args.to.now before start file (c.size_of.ensures.looked.same t) had;
}

pub read_some-requires-clause-stands : goal.read_some-requires-clause-stands
read_some-requires-clause-stands g c t =
    subst (λ (o : Option File). IsSome o) (sym (c.loop-at.invariant.others t c.args.from.now c.requires.apart)) (c.requires.from_stands (c.loop-at.invariant.kept.tells t))

pub put_behind-requires-clause-stands : goal.put_behind-requires-clause-stands
put_behind-requires-clause-stands g c t =
    subst (λ (s : Story). IsSome (s.now.live c.args.to.now)) (sym (c.read_some.ensures.looked.same t)) (c.loop-at.invariant.to_stands (c.read_some.ensures.looked.stays.tells t))

pub returns-in_err-piece-clause-loose : goal.returns-in_err-piece-clause-loose
returns-in_err-piece-clause-loose g c t start bytes had run = stays (c.loop-at.invariant.loose (c.read_some.ensures.looked.stays.tells t) start bytes had run) (c.read_some.ensures.looked.same t)

pub returns-in_err-piece-clause-blames : goal.returns-in_err-piece-clause-blames
returns-in_err-piece-clause-blames g c =
    let p = err_from_is_err_and c.from_residual-in_err-piece.result c.from_residual-in_err-piece.ensures.1 in
    rw (p.1, p.2) (err_later c.loop-at.invariant.kept c.loop-at.invariant.calm c.in_err-piece.ensures.blames)

pub returns-then-is_empty-clause-loose : goal.returns-then-is_empty-clause-loose
returns-then-is_empty-clause-loose g c t start bytes had run = stays (c.loop-at.invariant.loose (c.read_some.ensures.looked.stays.tells t) start bytes had run) (c.read_some.ensures.looked.same t)

pub returns-then-is_empty-clause-poured : goal.returns-then-is_empty-clause-poured
returns-then-is_empty-clause-poured g c t start before file had is =
    let t0 = c.read_some.ensures.looked.stays.tells t in
    absurd (ends_late _ file c.in_ok-piece.piece.now c.loop-at.at _ (c.loop-at.invariant.others t0 c.args.from.now c.requires.apart ∙ is) (c.loop-at.invariant.sized t0 file is) c.loop-at-test.true
    (none_there (length c.in_ok-piece.piece.now) (c.if-is_empty.ensures)) (c.in_ok-piece.ensures.told t))

pub returns-in_err-put_behind-clause-loose : goal.returns-in_err-put_behind-clause-loose
returns-in_err-put_behind-clause-loose g c t =
    let t1 = c.put_behind.ensures.kept.tells t in
    let t0 = c.read_some.ensures.looked.stays.tells t1 in
    let found = file_of _ (c.requires.from_stands (c.loop-at.invariant.kept.tells t0)) in
    loose_more c.args.to.now c.in_ok-piece.piece.now (c.put_behind.ensures.grown t)
    (λ start before had. (before ++ take c.loop-at.at (content found.0), subst (λ (s : Story). HasNew c.args.to.now (before ++ take c.loop-at.at (content found.0)) start s.now) (sym (c.read_some.ensures.looked.same t1)) (c.loop-at.invariant.poured t0 start before found.0 had found.1)))
    (λ start bytes had run. stays (c.loop-at.invariant.loose t0 start bytes had run) (c.read_some.ensures.looked.same t1))

pub returns-in_err-put_behind-clause-blames : goal.returns-in_err-put_behind-clause-blames
returns-in_err-put_behind-clause-blames g c =
    let p = err_from_is_err_and c.from_residual-in_err-put_behind.result c.from_residual-in_err-put_behind.ensures.1 in
    rw (p.1, p.2) (err_later (stays_both c.loop-at.invariant.kept c.read_some.ensures.looked.stays) (c.in_ok-piece.ensures.blames.calm ∙ c.loop-at.invariant.calm) c.in_err-put_behind.ensures.blames)

pub returns-in_err-put_behind-clause-others : goal.returns-in_err-put_behind-clause-others
returns-in_err-put_behind-clause-others g c t other apart =
    let t1 = c.put_behind.ensures.kept.tells t in
    grows_beside c.args.to.now other c.in_ok-piece.piece.now apart (c.put_behind.ensures.grown t) ∙ ap (λ (s : Story). s.now.live other) (c.read_some.ensures.looked.same t1) ∙ c.loop-at.invariant.others (c.read_some.ensures.looked.stays.tells t1) other apart

pub returns-in_err-put_behind-clause-stands : goal.returns-in_err-put_behind-clause-stands
returns-in_err-put_behind-clause-stands g c t =
    let t1 = c.put_behind.ensures.kept.tells t in
    grows_stands c.args.to.now c.in_ok-piece.piece.now (c.put_behind.ensures.grown t) (subst (λ (s : Story). IsSome (s.now.live c.args.to.now)) (sym (c.read_some.ensures.looked.same t1)) (c.loop-at.invariant.to_stands (c.read_some.ensures.looked.stays.tells t1)))

pub loop-at-preserved : goal.loop-at-preserved
loop-at-preserved g c = record {
  kept = stays_both (stays_both c.loop-at.invariant.kept c.read_some.ensures.looked.stays) c.put_behind.ensures.kept;
  calm = c.in_ok-put_behind.ensures.blames.calm ∙ c.in_ok-piece.ensures.blames.calm ∙ c.loop-at.invariant.calm;
  within = omega (arith, c.in_ok-piece.ensures.short);
  sized = λ t file is. c.loop-at.invariant.sized (c.read_some.ensures.looked.stays.tells (c.put_behind.ensures.kept.tells t)) file is;
  others = λ t other apart. let t1 = c.put_behind.ensures.kept.tells t in
      grows_beside c.args.to.now other c.in_ok-piece.piece.now apart (c.put_behind.ensures.grown t) ∙ ap (λ (s : Story). s.now.live other) (c.read_some.ensures.looked.same t1) ∙ c.loop-at.invariant.others (c.read_some.ensures.looked.stays.tells t1) other apart;
  to_stands = λ t. let t1 = c.put_behind.ensures.kept.tells t in
      grows_stands c.args.to.now c.in_ok-piece.piece.now (c.put_behind.ensures.grown t) (subst (λ (s : Story). IsSome (s.now.live c.args.to.now)) (sym (c.read_some.ensures.looked.same t1)) (c.loop-at.invariant.to_stands (c.read_some.ensures.looked.stays.tells t1)));
  loose = λ t. let t1 = c.put_behind.ensures.kept.tells t in
      let t0 = c.read_some.ensures.looked.stays.tells t1 in
      let found = file_of _ (c.requires.from_stands (c.loop-at.invariant.kept.tells t0)) in
      loose_more c.args.to.now c.in_ok-piece.piece.now (c.put_behind.ensures.grown t)
      (λ start before had. (before ++ take c.loop-at.at (content found.0), subst (λ (s : Story). HasNew c.args.to.now (before ++ take c.loop-at.at (content found.0)) start s.now) (sym (c.read_some.ensures.looked.same t1)) (c.loop-at.invariant.poured t0 start before found.0 had found.1)))
      (λ start bytes had run. stays (c.loop-at.invariant.loose t0 start bytes had run) (c.read_some.ensures.looked.same t1));
  poured = λ t start before file had is. let t1 = c.put_behind.ensures.kept.tells t in
      let t0 = c.read_some.ensures.looked.stays.tells t1 in
      poured_more c.args.to.now before c.in_ok-piece.piece.now start _ file c.loop-at.at _ (c.loop-at.invariant.others t0 c.args.from.now c.requires.apart ∙ is) (c.in_ok-piece.ensures.told t1)
      (c.in_ok-put_behind.ensures.put t start (before ++ take c.loop-at.at (content file)) (subst (λ (s : Story). HasNew c.args.to.now (before ++ take c.loop-at.at (content file)) start s.now) (sym (c.read_some.ensures.looked.same t1)) (c.loop-at.invariant.poured t0 start before file had is)));
}

pub returns-clause-poured : goal.returns-clause-poured
returns-clause-poured g c t start before file had is =
    poured_whole c.args.to.now before start _ file c.loop-at.at (let long = c.loop-at.invariant.sized t file is in omega (arith, long)) (c.loop-at.invariant.poured t start before file had is)
