use Rattle.std.proofs.Common.{◌∙◌, ap, sym, subst, refl, arith, ◌+◌, ◌≤◌, length}
use Rattle.std.specs.Prelude.{string_bytes, IsSome, bytes_eq}
use Rattle.std.specs.String.{string_capacity}
use Rattle.folder_base.specs.Disk.{Name}
use Rattle.keep_store.specs.TookLaws.{stays_both, stays_none}
use Rattle.plan_record.specs.Names.{stem_of}
use Rattle.component_store.proofs.FamilyLemmas.{joined_stem}
use Rattle.component_store.proofs.JoinLemmas.{begun_joined, poured_next, pours_on, complete_same}
use Rattle.std.proofs.lemmas.Result.{err_from_is_err_and}
use Rattle.folder_steps.proofs.RefusalLemmas.{err_later}
use Rattle.component_store.proofs.joining.pour_all.Goals as goal

pub loop-piece-init : goal.loop-piece-init
loop-piece-init g c = record {
  kept = stays_none (g.F.Folder.world c.args.folder.now);
  calm = refl;
  room = c.requires.room;
  complete = c.requires.complete;
  stands = c.requires.stands;
  loose = λ t start made run. run;
  poured = λ t start made. begun_joined (string_bytes c.args.target.now.name) start _ made;
}

pub pour-requires-clause-from_stands : goal.pour-requires-clause-from_stands
pour-requires-clause-from_stands g c t =
    let C = string_bytes c.args.target.now.name in
    let is_stem = c.as_str-in-loop-piece.ensures.value ∙ c.write_stem.ensures.bytes ∙ ap (λ (n : Name). stem_of n c.loop-piece.piece) c.as_str.ensures.value in
    subst (λ (n : Name). IsSome ((g.F.Folder.world c.loop-piece.folder).story.now.live n)) (sym is_stem) (c.loop-piece.invariant.complete t c.loop-piece.piece (omega arith))

pub pour-requires-clause-to_stands : goal.pour-requires-clause-to_stands
pour-requires-clause-to_stands g c t =
    subst (λ (n : Name). IsSome ((g.F.Folder.world c.loop-piece.folder).story.now.live n)) (sym (c.as_str-in-loop-piece-2.ensures.value ∙ c.args.target.now.joined_is)) (c.loop-piece.invariant.stands t)

pub pour-requires-clause-apart : goal.pour-requires-clause-apart
pour-requires-clause-apart g c =
    let C = string_bytes c.args.target.now.name in
    let is_stem = c.as_str-in-loop-piece.ensures.value ∙ c.write_stem.ensures.bytes ∙ ap (λ (n : Name). stem_of n c.loop-piece.piece) c.as_str.ensures.value in
    let is_joined = c.as_str-in-loop-piece-2.ensures.value ∙ c.args.target.now.joined_is in
    (λ i. bytes_eq (is_joined i) (is_stem i)) ∙ joined_stem C c.loop-piece.piece

pub loop-piece-preserved : goal.loop-piece-preserved
loop-piece-preserved g c =
    let C = string_bytes c.args.target.now.name in
    let is_stem = c.as_str-in-loop-piece.ensures.value ∙ c.write_stem.ensures.bytes ∙ ap (λ (n : Name). stem_of n c.loop-piece.piece) c.as_str.ensures.value in
    let is_joined = c.as_str-in-loop-piece-2.ensures.value ∙ c.args.target.now.joined_is in
    record {
      kept = stays_both c.loop-piece.invariant.kept c.pour.ensures.kept;
      calm = c.in_ok-pour.ensures.blames.calm ∙ c.loop-piece.invariant.calm;
      room = subst (λ (n : Name). length n + 52 ≤ string_capacity c.write_stem.new.name) c.as_str.ensures.value c.write_stem.ensures.room;
      complete = λ t. complete_same C c.args.target.now.count (g.F.Folder.world c.loop-piece.folder).story.now.live (g.F.Folder.world c.pour.new.folder).story.now.live (λ k. c.pour.ensures.others t (stem_of C k) (ap (λ (n : Name). bytes_eq n (stem_of C k)) is_joined ∙ joined_stem C k)) (c.loop-piece.invariant.complete (c.pour.ensures.kept.tells t));
      stands = λ t. subst (λ (n : Name). IsSome ((g.F.Folder.world c.pour.new.folder).story.now.live n)) is_joined (c.pour.ensures.stands t);
      loose = λ t. let t1 = c.pour.ensures.kept.tells t in pours_on C c.loop-piece.piece is_joined (c.loop-piece.invariant.poured t1) (c.loop-piece.invariant.loose t1) (c.pour.ensures.loose t);
      poured = λ t start made. let t1 = c.pour.ensures.kept.tells t in
          poured_next C c.loop-piece.piece start is_joined is_stem (c.loop-piece.invariant.poured t1 start made) (c.loop-piece.invariant.complete t1 c.loop-piece.piece (omega arith)) (c.in_ok-pour.ensures.poured t);
    }

pub returns-in_err-pour-clause-stands : goal.returns-in_err-pour-clause-stands
returns-in_err-pour-clause-stands g c t =
    subst (λ (n : Name). IsSome ((g.F.Folder.world c.pour.new.folder).story.now.live n)) (c.as_str-in-loop-piece-2.ensures.value ∙ c.args.target.now.joined_is) (c.pour.ensures.stands t)

pub returns-in_err-pour-clause-loose : goal.returns-in_err-pour-clause-loose
returns-in_err-pour-clause-loose g c t =
    let t1 = c.pour.ensures.kept.tells t in
    pours_on (string_bytes c.args.target.now.name) c.loop-piece.piece (c.as_str-in-loop-piece-2.ensures.value ∙ c.args.target.now.joined_is) (c.loop-piece.invariant.poured t1) (c.loop-piece.invariant.loose t1) (c.pour.ensures.loose t)

pub returns-in_err-pour-clause-blames : goal.returns-in_err-pour-clause-blames
returns-in_err-pour-clause-blames g c =
    let p = err_from_is_err_and c.from_residual.result c.from_residual.ensures.1 in
    rw (p.1, p.2) (err_later c.loop-piece.invariant.kept c.loop-piece.invariant.calm c.in_err-pour.ensures.blames)
