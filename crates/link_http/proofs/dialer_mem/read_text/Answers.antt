use Rattle.std.proofs.Common.{◌∙◌, refl, ap, Some, inl, inr}
use Rattle.std.specs.Str.{is_utf8}
use Rattle.std.proofs.lemmas.Bool.{cases_Bool}
use Rattle.std.proofs.lemmas.Str.{is_utf8-from_IsUtf8, IsUtf8-from_is_utf8}
use Rattle.link_http.proofs.dialer_mem.read_text.Goals as goal

pub returns-in_ok-new-in-Ok : goal.returns-in_ok-new-in-Ok
returns-in_ok-new-in-Ok c =
    let is = is_utf8-from_IsUtf8 c.args.request.now c.in-Ok.ensures.cases.1 in
    rw is (ap Some (c.in_ok-new-in-Ok.ensures ∙ c.in-Ok.ensures.cases.0))

pub returns-in-Err : goal.returns-in-Err
returns-in-Err c =
    elim (cases_Bool (is_utf8 c.args.request.now)) [
      | inl is ↦ absurd (c.in-Err.ensures.cases.0 (IsUtf8-from_is_utf8 c.args.request.now is))
      | inr not_ ↦ rw not_ refl
    ]
