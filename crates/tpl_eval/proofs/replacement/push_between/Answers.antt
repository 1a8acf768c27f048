use Rattle.std.proofs.Common.{◌≡◌, ◌++◌}
use Rattle.std.specs.Str.{IsUtf8}
use Rattle.std.specs.String.{string_bytes}
use Rattle.std.proofs.lemmas.Result.{IfOk-weaker, on_ok_weaker}
use Rattle.std.proofs.lemmas.Str.{IsUtf8-append}
use Rattle.tpl_eval.specs.Field.{spaces}
use Rattle.tpl_eval.specs.Limit.{behind}
use Rattle.tpl_eval.proofs.LimitLemmas.{appended, left_behind, spaces-IsUtf8}
use Rattle.tpl_eval.proofs.replacement.push_between.Goals as goal

pub returns-clause-text : goal.returns-clause-text
returns-clause-text c =
    let first = spaces c.args.before in
    let text = c.args.text.now in
    let last = spaces c.args.after in
    let front : IsUtf8 (first ++ text) = IsUtf8-append first text (spaces-IsUtf8 c.args.before) c.utf8.text in
    let left : c.in_ok-limit-2.limit ≡ behind c.args.limit (first ++ text) =
    left_behind c.args.limit c.in_ok-limit.limit c.in_ok-limit-2.limit first text (spaces-IsUtf8 c.args.before) c.in_ok-limit.ensures.left c.in_ok-limit-2.ensures.left in
    let so_far = appended c.args.limit c.in_ok-limit.limit first text (string_bytes c.args.out.now) (string_bytes c.push_spaces.new.out) (string_bytes c.push_limited.new.out)
    (spaces-IsUtf8 c.args.before) c.utf8.text c.in_ok-limit.ensures.text c.in_ok-limit.ensures.left c.in_ok-limit-2.ensures.text in
    on_ok_weaker c.push_spaces-2.result
    (λ e. appended c.args.limit c.in_ok-limit-2.limit (first ++ text) last (string_bytes c.args.out.now) (string_bytes c.push_limited.new.out) (string_bytes c.push_spaces-2.new.out)
    front (spaces-IsUtf8 c.args.after) so_far left e)
    c.push_spaces-2.ensures.text

pub returns-clause-left : goal.returns-clause-left
returns-clause-left c =
    let first = spaces c.args.before in
    let text = c.args.text.now in
    let front : IsUtf8 (first ++ text) = IsUtf8-append first text (spaces-IsUtf8 c.args.before) c.utf8.text in
    let left : c.in_ok-limit-2.limit ≡ behind c.args.limit (first ++ text) =
    left_behind c.args.limit c.in_ok-limit.limit c.in_ok-limit-2.limit first text (spaces-IsUtf8 c.args.before) c.in_ok-limit.ensures.left c.in_ok-limit-2.ensures.left in
    IfOk-weaker c.push_spaces-2.result _ _ (λ l e. left_behind c.args.limit c.in_ok-limit-2.limit l (first ++ text) (spaces c.args.after) front left e) c.push_spaces-2.ensures.left

pub returns-clause-utf8 : goal.returns-clause-utf8
returns-clause-utf8 c =
    let first = spaces c.args.before in
    let text = c.args.text.now in
    let front : IsUtf8 (first ++ text) = IsUtf8-append first text (spaces-IsUtf8 c.args.before) c.utf8.text in
    on_ok_weaker c.push_spaces-2.result (λ _. IsUtf8-append (first ++ text) (spaces c.args.after) front (spaces-IsUtf8 c.args.after)) c.push_spaces-2.ensures.text
