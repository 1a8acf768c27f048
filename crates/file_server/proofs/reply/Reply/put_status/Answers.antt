use Rattle.std.proofs.Common.{◌≡◌, List, ℕ, ◌++◌, ◌∙◌, ap, append_assoc}
use Rattle.file_server.proofs.reply.Reply.put_status.Goals as goal

-- Two texts are appended in turn.
appended : (old front back mid new : List ℕ) → mid ≡ old ++ front → new ≡ mid ++ back → new ≡ old ++ (front ++ back)
appended old front back mid new first second = second ∙ ap (λ t. t ++ back) first ∙ append_assoc old front back

pub returns-in_ok-put_part-in-Part : goal.returns-in_ok-put_part-in-Part
returns-in_ok-put_part-in-Part c =
    rw c.in-Part.is (appended _ _ _ _ _ c.in_ok-extend_from_slice-in-Part.ensures.items c.in_ok-put_part-in-Part.ensures)

pub returns-in_ok-put_outside-in-Outside : goal.returns-in_ok-put_outside-in-Outside
returns-in_ok-put_outside-in-Outside c =
    rw c.in-Outside.is (appended _ _ _ _ _ c.in_ok-extend_from_slice-in-Outside.ensures.items c.in_ok-put_outside-in-Outside.ensures)
