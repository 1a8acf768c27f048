use Rattle.std.proofs.Common.{◌∙◌, ap, sym, subst, false, Bool}
use Rattle.std.specs.Prelude.{string_bytes, is_some, None, ◌&&◌, ◌||◌, if◌then◌else◌}
use Rattle.std.proofs.lemmas.Result.{on_ok_weaker}
use Rattle.folder_base.specs.Disk.{Name, May}
use Rattle.folder_base.specs.Story.{Story}
use Rattle.folder_base.proofs.Moments.{weaker}
use Rattle.folder_steps.specs.Follow.{Follows, Thinner}
use Rattle.folder_steps.proofs.RemovalLemmas.{unchanged}
use Rattle.component_store.specs.Tidy.{is_cleared}
use Rattle.component_store.proofs.SoundLemmas.{thin_sound}
use Rattle.component_store.proofs.TidyLemmas.{none_names, cleared_names, cleared_thin, thin_from}
use Rattle.component_store.proofs.LastLemmas.{under_same, under_from}
use Rattle.std.proofs.lemmas.Result.{err_from_is_err_and}
use Rattle.keep_store.specs.TookLaws.{stays_both}
use Rattle.folder_steps.proofs.RefusalLemmas.{own_later, err_later_own}
use Rattle.component_store.proofs.target.Target.tidy.Goals as goal

pub returns-in_err-recorded-clause-moments : goal.returns-in_err-recorded-clause-moments
returns-in_err-recorded-clause-moments g c t = unchanged _ (c.is_there.ensures.looked.same t)

pub returns-in_err-recorded-clause-sound : goal.returns-in_err-recorded-clause-sound
returns-in_err-recorded-clause-sound g c t web sound =
    weaker (unchanged (λ n. false) (c.is_there.ensures.looked.same t)) (λ image h. thin_sound web (string_bytes c.args.self.now.name) (λ n. false) (g.F.Folder.world c.args.folder.now).story.now sound image h)

pub returns-then-not-recorded-clause-moments : goal.returns-then-not-recorded-clause-moments
returns-then-not-recorded-clause-moments g c t = unchanged _ (c.is_there.ensures.looked.same t)

pub returns-then-not-recorded-clause-sound : goal.returns-then-not-recorded-clause-sound
returns-then-not-recorded-clause-sound g c t web sound =
    weaker (unchanged (λ n. false) (c.is_there.ensures.looked.same t)) (λ image h. thin_sound web (string_bytes c.args.self.now.name) (λ n. false) (g.F.Folder.world c.args.folder.now).story.now sound image h)

pub returns-then-not-recorded-clause-live : goal.returns-then-not-recorded-clause-live
returns-then-not-recorded-clause-live g c t =
    let live = (g.F.Folder.world c.args.folder.now).story.now.live in
    let is_rec = c.as_str.ensures.value ∙ c.args.self.now.record_is in
    none_names (string_bytes c.args.self.now.name) c.args.self.now.is_final c.args.keep live
    (ap (λ (n : Name). is_some (live n)) (sym is_rec) ∙ sym (c.in_ok-recorded.ensures.told t) ∙ c.if-not-recorded.true) (λ n. ap (λ (s : Story). s.now.live n) (c.is_there.ensures.looked.same t))

pub returns-in_err-its_record-clause-moments : goal.returns-in_err-its_record-clause-moments
returns-in_err-its_record-clause-moments g c t = unchanged _ (c.keeps_record.ensures.looked.same t ∙ c.is_there.ensures.looked.same (c.keeps_record.ensures.looked.stays.tells t))

pub returns-in_err-its_record-clause-sound : goal.returns-in_err-its_record-clause-sound
returns-in_err-its_record-clause-sound g c t web sound =
    weaker (unchanged (λ n. false) (c.keeps_record.ensures.looked.same t ∙ c.is_there.ensures.looked.same (c.keeps_record.ensures.looked.stays.tells t)))
    (λ image h. thin_sound web (string_bytes c.args.self.now.name) (λ n. false) (g.F.Folder.world c.args.folder.now).story.now sound image h)

pub returns-clause-moments : goal.returns-clause-moments
returns-clause-moments g c t =
    let C = string_bytes c.args.self.now.name in
    let final = c.args.self.now.is_final in
    let old = (g.F.Folder.world c.args.folder.now).story in
    let t2 = c.clear.ensures.kept.tells t in
    let t1 = c.keeps_record.ensures.looked.stays.tells t2 in
    let same1 = c.is_there.ensures.looked.same t1 in
    let stands = ap (λ (n : Name). is_some (old.now.live n)) (sym (c.as_str.ensures.value ∙ c.args.self.now.record_is)) ∙ sym (c.in_ok-recorded.ensures.told t1) ∙ c.if-not-recorded.false in
    let keeps = c.in_ok-its_record.ensures.told t2 ∙ ap (λ (s : Story). c.args.keep && is_some (s.now.live C)) same1 in
    weaker (thin_from (is_cleared C c.component_stays.result c.in_ok-its_record.its_record) (c.keeps_record.ensures.looked.same t2 ∙ same1) (c.clear.ensures.moments t))
    (λ image h. cleared_thin C final c.args.keep old.now.live stands c.in_ok-its_record.its_record keeps image (subst (λ (b : Bool). Follows (May old.now) (Thinner (is_cleared C b c.in_ok-its_record.its_record)) image) c.component_stays.ensures h))

pub returns-clause-sound : goal.returns-clause-sound
returns-clause-sound g c t web sound =
    let C = string_bytes c.args.self.now.name in
    let t2 = c.clear.ensures.kept.tells t in
    let same1 = c.is_there.ensures.looked.same (c.keeps_record.ensures.looked.stays.tells t2) in
    let goes = is_cleared C c.component_stays.result c.in_ok-its_record.its_record in
    weaker (thin_from goes (c.keeps_record.ensures.looked.same t2 ∙ same1) (c.clear.ensures.moments t)) (λ image h. thin_sound web C goes (g.F.Folder.world c.args.folder.now).story.now sound image h)

pub returns-clause-live : goal.returns-clause-live
returns-clause-live g c t =
    let C = string_bytes c.args.self.now.name in
    let final = c.args.self.now.is_final in
    let old = (g.F.Folder.world c.args.folder.now).story in
    let t2 = c.clear.ensures.kept.tells t in
    let t1 = c.keeps_record.ensures.looked.stays.tells t2 in
    let same1 = c.is_there.ensures.looked.same t1 in
    let same2 = c.keeps_record.ensures.looked.same t2 ∙ same1 in
    let stands = ap (λ (n : Name). is_some (old.now.live n)) (sym (c.as_str.ensures.value ∙ c.args.self.now.record_is)) ∙ sym (c.in_ok-recorded.ensures.told t1) ∙ c.if-not-recorded.false in
    let keeps = c.in_ok-its_record.ensures.told t2 ∙ ap (λ (s : Story). c.args.keep && is_some (s.now.live C)) same1 in
    on_ok_weaker c.clear.result
    (λ gone. cleared_names C final c.args.keep old.now.live stands c.in_ok-its_record.its_record keeps
    (λ n. gone n ∙ ap (λ (b : Bool). if is_cleared C b c.in_ok-its_record.its_record n then None else (g.F.Folder.world c.keeps_record.new.folder).story.now.live n) c.component_stays.ensures
    ∙ ap (λ (s : Story). if is_cleared C (final || c.args.keep) c.in_ok-its_record.its_record n then None else s.now.live n) same2))
    (c.clear.ensures.gone t)

pub returns-in_err-its_record-clause-blames : goal.returns-in_err-its_record-clause-blames
returns-in_err-its_record-clause-blames g c =
    let p = err_from_is_err_and c.from_residual-in_err-its_record.result c.from_residual-in_err-its_record.ensures.1 in
    rw (p.1, p.2) (err_later_own c.is_there.ensures.looked.stays c.in_ok-recorded.ensures.blames.calm c.in_err-its_record.ensures.blames)

pub returns-clause-blames : goal.returns-clause-blames
returns-clause-blames g c = own_later _ c.clear.result (stays_both c.is_there.ensures.looked.stays c.keeps_record.ensures.looked.stays) (c.in_ok-its_record.ensures.blames.calm ∙ c.in_ok-recorded.ensures.blames.calm) c.clear.ensures.blames

pub returns-in_err-recorded-clause-last : goal.returns-in_err-recorded-clause-last
returns-in_err-recorded-clause-last g c t always = under_same (string_bytes c.args.self.now.name) (c.args.self.now.is_final || c.args.keep) (c.is_there.ensures.looked.same t) always

pub returns-then-not-recorded-clause-last : goal.returns-then-not-recorded-clause-last
returns-then-not-recorded-clause-last g c t always = under_same (string_bytes c.args.self.now.name) (c.args.self.now.is_final || c.args.keep) (c.is_there.ensures.looked.same t) always

pub returns-in_err-its_record-clause-last : goal.returns-in_err-its_record-clause-last
returns-in_err-its_record-clause-last g c t always =
    under_same (string_bytes c.args.self.now.name) (c.args.self.now.is_final || c.args.keep) (c.keeps_record.ensures.looked.same t ∙ c.is_there.ensures.looked.same (c.keeps_record.ensures.looked.stays.tells t)) always

pub returns-clause-last : goal.returns-clause-last
returns-clause-last g c t =
    let t2 = c.clear.ensures.kept.tells t in
    let same1 = c.is_there.ensures.looked.same (c.keeps_record.ensures.looked.stays.tells t2) in
    under_from (string_bytes c.args.self.now.name) c.component_stays.ensures (c.keeps_record.ensures.looked.same t2 ∙ same1) (c.clear.ensures.last t)
