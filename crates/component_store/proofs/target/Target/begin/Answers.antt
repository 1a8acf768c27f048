use Rattle.std.proofs.Common.{◌≡◌, ◌∙◌, ap, sym, inl, true, false, Bool}
use Rattle.std.specs.Prelude.{string_bytes, is_some, None, Option, bytes_eq}
use Rattle.std.proofs.lemmas.Result.{IfOk-weaker}
use Rattle.folder_base.specs.Disk.{File}
use Rattle.folder_base.specs.Story.{Story}
use Rattle.folder_base.proofs.Images.{put_there}
use Rattle.folder_base.proofs.Moments.{weaker, stays, joined}
use Rattle.folder_steps.proofs.ImageLemmas.{ends}
use Rattle.plan_record.specs.Names.{spare_of}
use Rattle.component_store.specs.Begin.{goes_on, begun_as, begun_names}
use Rattle.component_store.proofs.FamilyLemmas.{spare_self, spare_record}
use Rattle.component_store.proofs.SoundLemmas.{thin_sound, starting_sound}
use Rattle.component_store.proofs.BeginLemmas.{beginning_anew, starting_after, started_names, goes_on_all, goes_by_record, anew_in_all, ok_anyway}
use Rattle.component_store.proofs.LastLemmas.{under_thin}
use Rattle.std.proofs.lemmas.Result.{err_from_is_err_and}
use Rattle.folder_steps.proofs.RefusalLemmas.{later, own, own_err_later}
use Rattle.component_store.proofs.target.Target.begin.Goals as goal

pub returns-in_err-goes-clause-moments : goal.returns-in_err-goes-clause-moments
returns-in_err-goes-clause-moments g c t = weaker (c.goes_on.ensures.moments t) (λ image h. inl h)

pub returns-in_err-goes-clause-sound : goal.returns-in_err-goes-clause-sound
returns-in_err-goes-clause-sound g c t web none sound =
    weaker (c.goes_on.ensures.moments t) (λ image h. thin_sound web (string_bytes c.args.self.now.name) (bytes_eq (spare_of (string_bytes c.args.self.now.name))) (g.F.Folder.world c.args.folder.now).story.now sound image h)

pub returns-then-goes-clause-moments : goal.returns-then-goes-clause-moments
returns-then-goes-clause-moments g c t =
    weaker (stays (c.goes_on.ensures.moments (c.as_it_stands.ensures.kept.tells t)) (c.as_it_stands.ensures.same t)) (λ image h. inl h)

pub returns-then-goes-clause-sound : goal.returns-then-goes-clause-sound
returns-then-goes-clause-sound g c t web none sound =
    weaker (stays (c.goes_on.ensures.moments (c.as_it_stands.ensures.kept.tells t)) (c.as_it_stands.ensures.same t))
    (λ image h. thin_sound web (string_bytes c.args.self.now.name) (bytes_eq (spare_of (string_bytes c.args.self.now.name))) (g.F.Folder.world c.args.folder.now).story.now sound image h)

pub returns-then-goes-clause-answer : goal.returns-then-goes-clause-answer
returns-then-goes-clause-answer g c t =
    let C = string_bytes c.args.self.now.name in
    let t1 = c.as_it_stands.ensures.kept.tells t in
    let old = (g.F.Folder.world c.args.folder.now).story.now in
    let mid = (g.F.Folder.world c.goes_on.new.folder).story.now in
    let goes : goes_on C c.args.plan.now c.args.fresh old ≡ true = sym (c.in_ok-goes.ensures.told t1) ∙ c.if-goes.true in
    let there : mid.live C ≡ old.live C = c.in_ok-goes.ensures.gone t1 C ∙ put_there old.live (spare_of C) C None (spare_self C) in
    IfOk-weaker c.as_it_stands.result (λ begun. begun ≡ begun_as true (is_some (mid.live C))) (λ begun. begun ≡ begun_as (goes_on C c.args.plan.now c.args.fresh old) (is_some (old.live C)))
    (λ begun is. is ∙ ap (λ (o : Option File). begun_as true (is_some o)) there ∙ ap (λ (b : Bool). begun_as b (is_some (old.live C))) (sym goes)) (c.as_it_stands.ensures.answer t)

pub returns-then-goes-clause-live : goal.returns-then-goes-clause-live
returns-then-goes-clause-live g c t =
    let C = string_bytes c.args.self.now.name in
    let t1 = c.as_it_stands.ensures.kept.tells t in
    let old = (g.F.Folder.world c.args.folder.now).story.now in
    let goes : goes_on C c.args.plan.now c.args.fresh old ≡ true = sym (c.in_ok-goes.ensures.told t1) ∙ c.if-goes.true in
    ok_anyway c.as_it_stands.result (λ n. ap (λ (s : Story). s.now.live n) (c.as_it_stands.ensures.same t) ∙ c.in_ok-goes.ensures.gone t1 n
    ∙ ap (λ (b : Bool). begun_names C c.args.self.now.is_final c.args.plan.now b old.live n) (sym goes))

pub returns-then-goes-clause-in_all : goal.returns-then-goes-clause-in_all
returns-then-goes-clause-in_all g c t =
    let C = string_bytes c.args.self.now.name in
    let plan = c.args.plan.now in
    let t1 = c.as_it_stands.ensures.kept.tells t in
    let old = (g.F.Folder.world c.args.folder.now).story.now in
    let mid = (g.F.Folder.world c.goes_on.new.folder).story.now in
    let goes : goes_on C plan c.args.fresh old ≡ true = sym (c.in_ok-goes.ensures.told t1) ∙ c.if-goes.true in
    goes_on_all C plan _ old mid c.as_it_stands.result goes (goes_by_record C plan c.args.fresh old goes) (ap (λ (s : Story). s.now) (c.as_it_stands.ensures.same t)) (ends (c.goes_on.ensures.moments t1)) (c.in_ok-goes.ensures.gone t1) (c.as_it_stands.ensures.answer t)

pub returns-in_err-start-clause-moments : goal.returns-in_err-start-clause-moments
returns-in_err-start-clause-moments g c t =
    let t1 = c.start.ensures.kept.tells t in
    beginning_anew (string_bytes c.args.self.now.name) c.args.self.now.is_final c.args.plan.now _ (sym (c.in_ok-goes.ensures.told t1) ∙ c.if-goes.false) (c.goes_on.ensures.moments t1) (c.start.ensures.moments t)

pub returns-clause-moments : goal.returns-clause-moments
returns-clause-moments g c t =
    let t1 = c.start.ensures.kept.tells t in
    beginning_anew (string_bytes c.args.self.now.name) c.args.self.now.is_final c.args.plan.now _ (sym (c.in_ok-goes.ensures.told t1) ∙ c.if-goes.false) (c.goes_on.ensures.moments t1) (c.start.ensures.moments t)

pub returns-in_err-start-clause-sound : goal.returns-in_err-start-clause-sound
returns-in_err-start-clause-sound g c t web none sound =
    let C = string_bytes c.args.self.now.name in
    let final = c.args.self.now.is_final in
    let old = (g.F.Folder.world c.args.folder.now).story.now in
    let first = c.goes_on.ensures.moments (c.start.ensures.kept.tells t) in
    joined (weaker first (λ image h. thin_sound web C (bytes_eq (spare_of C)) old sound image h))
    (weaker (c.start.ensures.moments t) (λ image h. starting_sound C final web c.args.plan.now old none sound image (starting_after C final c.args.plan.now old (g.F.Folder.world c.goes_on.new.folder).story.now (ends first) image h)))

pub returns-clause-sound : goal.returns-clause-sound
returns-clause-sound g c t web none sound =
    let C = string_bytes c.args.self.now.name in
    let final = c.args.self.now.is_final in
    let old = (g.F.Folder.world c.args.folder.now).story.now in
    let first = c.goes_on.ensures.moments (c.start.ensures.kept.tells t) in
    joined (weaker first (λ image h. thin_sound web C (bytes_eq (spare_of C)) old sound image h))
    (weaker (c.start.ensures.moments t) (λ image h. starting_sound C final web c.args.plan.now old none sound image (starting_after C final c.args.plan.now old (g.F.Folder.world c.goes_on.new.folder).story.now (ends first) image h)))

pub returns-clause-answer : goal.returns-clause-answer
returns-clause-answer g c t =
    let C = string_bytes c.args.self.now.name in
    let old = (g.F.Folder.world c.args.folder.now).story.now in
    let goes : goes_on C c.args.plan.now c.args.fresh old ≡ false = sym (c.in_ok-goes.ensures.told (c.start.ensures.kept.tells t)) ∙ c.if-goes.false in
    ap (λ (b : Bool). begun_as b (is_some (old.live C))) (sym goes)

pub returns-clause-live : goal.returns-clause-live
returns-clause-live g c t =
    let C = string_bytes c.args.self.now.name in
    let final = c.args.self.now.is_final in
    let old = (g.F.Folder.world c.args.folder.now).story.now in
    let t1 = c.start.ensures.kept.tells t in
    let goes : goes_on C c.args.plan.now c.args.fresh old ≡ false = sym (c.in_ok-goes.ensures.told t1) ∙ c.if-goes.false in
    λ n. started_names C final c.args.plan.now old (g.F.Folder.world c.goes_on.new.folder).story.now (g.F.Folder.world c.start.new.folder).story.now (c.in_ok-goes.ensures.gone t1) (c.in_ok-start.ensures.done t) n
    ∙ ap (λ (b : Bool). begun_names C final c.args.plan.now b old.live n) (sym goes)

pub returns-clause-in_all : goal.returns-clause-in_all
returns-clause-in_all g c t = anew_in_all (string_bytes c.args.self.now.name) c.args.self.now.is_final c.args.plan.now (g.F.Folder.world c.args.folder.now).story.now (g.F.Folder.world c.goes_on.new.folder).story.now (g.F.Folder.world c.start.new.folder).story.now (c.in_ok-start.ensures.done t) _

pub returns-in_err-start-clause-blames : goal.returns-in_err-start-clause-blames
returns-in_err-start-clause-blames g c =
    let p = err_from_is_err_and c.from_residual-in_err-start.result c.from_residual-in_err-start.ensures.1 in
    rw (p.1, p.2) (own_err_later c.goes_on.ensures.kept c.in_ok-goes.ensures.blames.calm c.in_err-start.ensures.blames)

pub returns-then-goes-clause-blames : goal.returns-then-goes-clause-blames
returns-then-goes-clause-blames g c = own c.as_it_stands.result (later _ c.as_it_stands.result c.goes_on.ensures.kept c.in_ok-goes.ensures.blames.calm c.as_it_stands.ensures.blames)

pub returns-in_err-goes-clause-last : goal.returns-in_err-goes-clause-last
returns-in_err-goes-clause-last g c t always =
    let C = string_bytes c.args.self.now.name in
    weaker (c.goes_on.ensures.moments t) (λ image h. under_thin C c.args.self.now.is_final (bytes_eq (spare_of C)) (spare_record C) always image h)

pub returns-then-goes-clause-last : goal.returns-then-goes-clause-last
returns-then-goes-clause-last g c t always =
    let C = string_bytes c.args.self.now.name in
    weaker (stays (c.goes_on.ensures.moments (c.as_it_stands.ensures.kept.tells t)) (c.as_it_stands.ensures.same t)) (λ image h. under_thin C c.args.self.now.is_final (bytes_eq (spare_of C)) (spare_record C) always image h)

pub returns-in_err-start-clause-last : goal.returns-in_err-start-clause-last
returns-in_err-start-clause-last g c t always =
    let C = string_bytes c.args.self.now.name in
    let first = weaker (c.goes_on.ensures.moments (c.start.ensures.kept.tells t)) (λ image h. under_thin C c.args.self.now.is_final (bytes_eq (spare_of C)) (spare_record C) always image h) in
    joined first (c.start.ensures.last t (ends first))

pub returns-clause-last : goal.returns-clause-last
returns-clause-last g c t always =
    let C = string_bytes c.args.self.now.name in
    let first = weaker (c.goes_on.ensures.moments (c.start.ensures.kept.tells t)) (λ image h. under_thin C c.args.self.now.is_final (bytes_eq (spare_of C)) (spare_record C) always image h) in
    joined first (c.start.ensures.last t (ends first))
