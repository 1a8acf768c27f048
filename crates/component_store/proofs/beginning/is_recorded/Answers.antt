use Rattle.std.proofs.Common.{◌≡◌, ◌∙◌, ap, refl}
use Rattle.std.specs.Prelude.{string_bytes, bytes_eq}
use Rattle.std.proofs.lemmas.Result.{IfOk-weaker}
use Rattle.folder_base.specs.Story.{Story}
use Rattle.folder_base.proofs.Moments.{stays}
use Rattle.keep_store.specs.Safe.{reads}
use Rattle.folder_steps.specs.Reading.{has_bytes}
use Rattle.folder_steps.proofs.RemovalLemmas.{unchanged}
use Rattle.plan_record.specs.Names.{record_of, spare_of}
use Rattle.component_store.proofs.BeginLemmas.{recorded_same, spare_thin, spare_dropped, ok_anyway}
use Rattle.folder_steps.proofs.RefusalLemmas.{later, own}
use Rattle.component_store.proofs.beginning.is_recorded.Goals as goal

pub returns-in_default-clause-moments : goal.returns-in_default-clause-moments
returns-in_default-clause-moments g c t = unchanged (bytes_eq (spare_of (string_bytes c.args.target.now.name))) refl

pub returns-in_err-drop_name-clause-moments : goal.returns-in_err-drop_name-clause-moments
returns-in_err-drop_name-clause-moments g c t = spare_thin (string_bytes c.args.target.now.name) (c.as_str.ensures.value ∙ c.args.target.now.spare_is) (c.drop_name.ensures.moments t)

pub returns-clause-moments : goal.returns-clause-moments
returns-clause-moments g c t =
    stays (spare_thin (string_bytes c.args.target.now.name) (c.as_str.ensures.value ∙ c.args.target.now.spare_is) (c.drop_name.ensures.moments (c.holds.ensures.looked.stays.tells t))) (c.holds.ensures.looked.same t)

pub returns-clause-gone : goal.returns-clause-gone
returns-clause-gone g c t =
    let C = string_bytes c.args.target.now.name in
    let old = (g.F.Folder.world c.args.folder.now).story.now in
    let gone = spare_dropped C _ old.live (c.as_str.ensures.value ∙ c.args.target.now.spare_is) (c.in_ok-drop_name.ensures.gone (c.holds.ensures.looked.stays.tells t)) in
    ok_anyway c.holds.result (λ n. ap (λ (s : Story). s.now.live n) (c.holds.ensures.looked.same t) ∙ gone n)

pub returns-clause-same : goal.returns-clause-same
returns-clause-same g c t =
    let C = string_bytes c.args.target.now.name in
    let plan = c.args.plan.now in
    let old = (g.F.Folder.world c.args.folder.now).story.now in
    let mid = (g.F.Folder.world c.drop_name.new.folder).story.now in
    let gone = spare_dropped C _ old.live (c.as_str.ensures.value ∙ c.args.target.now.spare_is) (c.in_ok-drop_name.ensures.gone (c.holds.ensures.looked.stays.tells t)) in
    let same = recorded_same C plan c.as_bytes.result.now c.as_str-2.result.now old mid (c.as_str-2.ensures.value ∙ c.args.target.now.record_is) c.as_bytes.ensures.value gone in
    IfOk-weaker c.holds.result (λ found. found ≡ has_bytes (reads mid c.as_str-2.result.now) c.as_bytes.result.now) (λ found. found ≡ has_bytes (reads old (record_of C)) plan)
    (λ found is. is ∙ same) (c.holds.ensures.told t)

pub returns-clause-blames : goal.returns-clause-blames
returns-clause-blames g c = own c.holds.result (later _ c.holds.result c.drop_name.ensures.kept c.in_ok-drop_name.ensures.blames.calm c.holds.ensures.blames)
