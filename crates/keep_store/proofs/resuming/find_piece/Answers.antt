use Rattle.std.proofs.Common.{◌∙◌, sym, ap, subst, inr}
use Rattle.std.specs.Prelude.{OnOk, is_err, option_map, string_bytes, length, true}
use Rattle.std.proofs.lemmas.Result.{on_ok_weaker}
use Rattle.folder_base.specs.Disk.{Name, File, content}
use Rattle.folder_base.specs.Story.{Story}
use Rattle.keep_store.specs.Promise.{promise_name, IsNameOf}
use Rattle.keep_store.specs.Opening.{OwnsPromises, Finds}
use Rattle.keep_store.specs.TookLaws.{stays_both}
use Rattle.keep_store.proofs.Naming.{own_after, owns_after}
use Rattle.keep_store.proofs.Numerals.{name_is_promising}
use Rattle.text_base.specs.declared.faults.FolderCall.TheVariants.{Size}
use Rattle.keep_store.proofs.Refusals.{read_failed}
use Rattle.keep_store.proofs.Found.{stays_read, others_same, others_begun, keeps_same, finds_whole, sought, may_begin, found_begun, keeps_found}
use Rattle.keep_store.proofs.resuming.find_piece.Goals as goal

pub greatest_promise-requires : goal.greatest_promise-requires
greatest_promise-requires g c = subst (λ (p : Name). OwnsPromises p (g.F.Folder.world c.size.new.self)) (sym c.requires.behind)
    (owns_after c.args.state.now.stem (g.F.Folder.world c.args.folder.now) (g.F.Folder.world c.size.new.self) (stays_read c.size.ensures.cause) c.requires.folder)

pub returns-in-Ok-Some-clause-found : goal.returns-in-Ok-Some-clause-found
returns-in-Ok-Some-clause-found g c t =
    let stem = c.args.state.now.stem in
    let told = sym c.in-Ok-Some.field-0-is ∙ c.in-Ok-Some.ensures.told t ∙ ap (λ (n : Name). option_map (λ (file : File). length (content file)) ((g.F.Folder.world c.args.folder.now).story.now.live n)) c.as_str.ensures in
    subst (λ (s : Story). Finds stem (string_bytes c.write_whole.new.name) true c.in-Ok-Some.size (g.F.Folder.world c.args.folder.now).story s) (sym (c.size.ensures.cause.same.story t))
    (subst (λ (n : Name). Finds stem n true c.in-Ok-Some.size (g.F.Folder.world c.args.folder.now).story (g.F.Folder.world c.args.folder.now).story) (sym (c.write_whole.ensures.bytes ∙ c.as_str-in-Ok-Some.ensures))
    (finds_whole stem (g.F.Folder.world c.args.folder.now).story c.in-Ok-Some.size told))

pub returns-in-Ok-Some-clause-moments : goal.returns-in-Ok-Some-clause-moments
returns-in-Ok-Some-clause-moments g c t = keeps_same _ _ _ (c.size.ensures.cause.same.story t)

pub returns-in-Err-clause-moments : goal.returns-in-Err-clause-moments
returns-in-Err-clause-moments g c t = keeps_same _ _ _ (c.size.ensures.cause.same.story t)

pub returns-in_err-promise-in-Ok-None-clause-moments : goal.returns-in_err-promise-in-Ok-None-clause-moments
returns-in_err-promise-in-Ok-None-clause-moments g c t =
    keeps_same _ _ _ (c.greatest_promise.ensures.looked.same t ∙ c.size.ensures.cause.same.story (c.greatest_promise.ensures.looked.stays.tells t))

pub begin_at-requires-clause-own : goal.begin_at-requires-clause-own
begin_at-requires-clause-own g c t =
    let stem = c.args.state.now.stem in
    let is = c.as_str-in-Ok-None-2.ensures.value ∙ c.write_promise.ensures.bytes ∙ ap (λ (n : Name). promise_name n c.unwrap_or-len.result) c.as_str-in-Ok-None.ensures in
    own_after stem c.as_str-in-Ok-None-2.result.now _ (g.F.Folder.world c.greatest_promise.new.folder) (stays_both (stays_read c.size.ensures.cause) c.greatest_promise.ensures.looked.stays) c.requires.folder
    (subst (λ (n : Name). IsNameOf stem n) (sym is) (inr (name_is_promising stem c.unwrap_or-len.result c.unwrap_or-len.type_inv))) t

pub begin_at-requires-clause-can : goal.begin_at-requires-clause-can
begin_at-requires-clause-can g c t =
    let stem = c.args.state.now.stem in
    let name_is = c.as_str-in-Ok-None-2.ensures.value ∙ c.write_promise.ensures.bytes ∙ ap (λ (n : Name). promise_name n c.unwrap_or-len.result) c.as_str-in-Ok-None.ensures in
    let t1 = c.greatest_promise.ensures.looked.stays.tells t in
    let first = c.size.ensures.cause.same.story t1 in
    let is = sought stem c.args.prefix.now c.as_str.result.now (g.F.Folder.world c.args.folder.now).story (g.F.Folder.world c.size.new.self).story c.args.names.now c.in_ok-promise-in-Ok-None.promise c.in-Ok-None.field-0 c.unwrap_or-len.result
    c.requires.behind c.as_str.ensures c.in-Ok-None.field-0-is (c.in-Ok-None.ensures.told t1) first (c.requires.listed (c.size.ensures.cause.tells t1)) (c.in_ok-promise-in-Ok-None.ensures.told t) c.unwrap_or-len.ensures c.unwrap_or-len.type_inv in
    may_begin stem _ (g.F.Folder.world c.greatest_promise.new.folder).story c.args.names.now c.in_ok-promise-in-Ok-None.promise c.unwrap_or-len.result is c.as_str-in-Ok-None-2.result.now name_is (c.greatest_promise.ensures.looked.same t ∙ first)

pub returns-in_ok-promise-in-Ok-None-clause-moments : goal.returns-in_ok-promise-in-Ok-None-clause-moments
returns-in_ok-promise-in-Ok-None-clause-moments g c t =
    let stem = c.args.state.now.stem in
    let name_is = c.as_str-in-Ok-None-2.ensures.value ∙ c.write_promise.ensures.bytes ∙ ap (λ (n : Name). promise_name n c.unwrap_or-len.result) c.as_str-in-Ok-None.ensures in
    let t2 = c.begin_at.ensures.kept.tells t in
    let t1 = c.greatest_promise.ensures.looked.stays.tells t2 in
    let first = c.size.ensures.cause.same.story t1 in
    let is = sought stem c.args.prefix.now c.as_str.result.now (g.F.Folder.world c.args.folder.now).story (g.F.Folder.world c.size.new.self).story c.args.names.now c.in_ok-promise-in-Ok-None.promise c.in-Ok-None.field-0 c.unwrap_or-len.result
    c.requires.behind c.as_str.ensures c.in-Ok-None.field-0-is (c.in-Ok-None.ensures.told t1) first (c.requires.listed (c.size.ensures.cause.tells t1)) (c.in_ok-promise-in-Ok-None.ensures.told t2) c.unwrap_or-len.ensures c.unwrap_or-len.type_inv in
    keeps_found stem _ (g.F.Folder.world c.greatest_promise.new.folder).story c.args.names.now c.in_ok-promise-in-Ok-None.promise c.unwrap_or-len.result is c.as_str-in-Ok-None-2.result.now name_is (c.greatest_promise.ensures.looked.same t2 ∙ first)
    (g.F.Folder.world c.begin_at.new.folder).story (c.begin_at.ensures.told t)

pub returns-in_ok-promise-in-Ok-None-clause-found : goal.returns-in_ok-promise-in-Ok-None-clause-found
returns-in_ok-promise-in-Ok-None-clause-found g c t =
    let stem = c.args.state.now.stem in
    let name_is = c.as_str-in-Ok-None-2.ensures.value ∙ c.write_promise.ensures.bytes ∙ ap (λ (n : Name). promise_name n c.unwrap_or-len.result) c.as_str-in-Ok-None.ensures in
    let t2 = c.begin_at.ensures.kept.tells t in
    let t1 = c.greatest_promise.ensures.looked.stays.tells t2 in
    let first = c.size.ensures.cause.same.story t1 in
    let is = sought stem c.args.prefix.now c.as_str.result.now (g.F.Folder.world c.args.folder.now).story (g.F.Folder.world c.size.new.self).story c.args.names.now c.in_ok-promise-in-Ok-None.promise c.in-Ok-None.field-0 c.unwrap_or-len.result
    c.requires.behind c.as_str.ensures c.in-Ok-None.field-0-is (c.in-Ok-None.ensures.told t1) first (c.requires.listed (c.size.ensures.cause.tells t1)) (c.in_ok-promise-in-Ok-None.ensures.told t2) c.unwrap_or-len.ensures c.unwrap_or-len.type_inv in
    subst (λ (n : Name). OnOk c.begin_at.result (Finds stem n c.args.state.now.complete c.unwrap_or-len.result (g.F.Folder.world c.args.folder.now).story (g.F.Folder.world c.begin_at.new.folder).story)) c.as_str-in-Ok-None-2.ensures.value
    (on_ok_weaker c.begin_at.result (λ next. found_begun stem _ (g.F.Folder.world c.greatest_promise.new.folder).story c.args.names.now c.in_ok-promise-in-Ok-None.promise c.unwrap_or-len.result is c.as_str-in-Ok-None-2.result.now name_is
    (c.greatest_promise.ensures.looked.same t2 ∙ first) c.args.state.now.complete (g.F.Folder.world c.begin_at.new.folder).story c.requires.part next) (c.begin_at.ensures.done t))

pub returns-in-Err-clause-refused : goal.returns-in-Err-clause-refused
returns-in-Err-clause-refused g c =
    read_failed (g.F.Folder.world c.args.folder.now) (g.F.Folder.world c.size.new.self) Size c.size.result (ap is_err c.in-Err.is) (stays_read c.size.ensures.cause) (λ t. tt) c.size.ensures.cause

pub returns-in-Ok-Some-clause-others : goal.returns-in-Ok-Some-clause-others
returns-in-Ok-Some-clause-others g c t = others_same c.args.state.now.stem (g.F.Folder.world c.args.folder.now) (g.F.Folder.world c.size.new.self) (c.size.ensures.cause.same.story t)

pub returns-in-Err-clause-others : goal.returns-in-Err-clause-others
returns-in-Err-clause-others g c t = others_same c.args.state.now.stem (g.F.Folder.world c.args.folder.now) (g.F.Folder.world c.size.new.self) (c.size.ensures.cause.same.story t)

pub returns-in_err-promise-in-Ok-None-clause-others : goal.returns-in_err-promise-in-Ok-None-clause-others
returns-in_err-promise-in-Ok-None-clause-others g c t =
    others_same c.args.state.now.stem (g.F.Folder.world c.args.folder.now) (g.F.Folder.world c.greatest_promise.new.folder) (c.greatest_promise.ensures.looked.same t ∙ c.size.ensures.cause.same.story (c.greatest_promise.ensures.looked.stays.tells t))

pub returns-in_ok-promise-in-Ok-None-clause-others : goal.returns-in_ok-promise-in-Ok-None-clause-others
returns-in_ok-promise-in-Ok-None-clause-others g c t =
    let stem = c.args.state.now.stem in
    let name_is = c.as_str-in-Ok-None-2.ensures.value ∙ c.write_promise.ensures.bytes ∙ ap (λ (n : Name). promise_name n c.unwrap_or-len.result) c.as_str-in-Ok-None.ensures in
    let t2 = c.begin_at.ensures.kept.tells t in
    let same = c.greatest_promise.ensures.looked.same t2 ∙ c.size.ensures.cause.same.story (c.greatest_promise.ensures.looked.stays.tells t2) in
    others_begun stem c.as_str-in-Ok-None-2.result.now c.in_ok-promise-in-Ok-None.promise (g.F.Folder.world c.args.folder.now) (g.F.Folder.world c.greatest_promise.new.folder) (g.F.Folder.world c.begin_at.new.folder)
    (subst (λ (n : Name). IsNameOf stem n) (sym name_is) (inr (name_is_promising stem c.unwrap_or-len.result c.unwrap_or-len.type_inv))) same (c.begin_at.ensures.told t)
