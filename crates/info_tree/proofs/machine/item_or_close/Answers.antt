use Rattle.std.proofs.Common.{◌≡◌, [], ◌∷◌, ◌∙◌, ap}
use Rattle.info_tree.specs.Machine as machine
use Rattle.info_tree.specs.Lexed.{plain_mark, plain_frames}
use Rattle.info_tree.proofs.MachineLemmas.{item_begins, is_no_end, frames_pushed}
use Rattle.info_tree.specs.declared.machine.Frame.TheVariants as frame
use Rattle.info_tree.proofs.machine.item_or_close.Goals as goal

pub returns-in_ok-push-in-Some : goal.returns-in_ok-push-in-Some
returns-in_ok-push-in-Some c =
    let fs = plain_frames c.args.frames.now.items in
    let pushed : plain_frames c.push.new.self.items ≡ machine.in_list [] ∷ fs =
    rw c.in_ok-push-in-Some.ensures.items (frames_pushed c.args.frames.now.items (frame.List c.new-in-Some.result) ∙ ap (λ l. machine.in_list l ∷ fs) c.new-in-Some.ensures) in
    rw pushed (item_begins fs (plain_mark c.args.token) (is_no_end c.args.token c.in_default.not-EndList) ∙ c.in-Some.ensures (machine.in_list [] ∷ fs))

pub returns-in-None : goal.returns-in-None
returns-in-None c =
    let fs = plain_frames c.args.frames.now.items in
    item_begins fs (plain_mark c.args.token) (is_no_end c.args.token c.in_default.not-EndList) ∙ c.in-None.ensures (machine.in_list [] ∷ fs)
