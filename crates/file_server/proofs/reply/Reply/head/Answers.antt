use Rattle.std.proofs.Common.{List, ℕ, [], ◌++◌, ◌∙◌, ap}
use Rattle.std.specs.Prelude.{codes}
use Rattle.file_server.specs.Reply.{line, length_line, status}
use Rattle.file_server.proofs.reply.Reply.head.Goals as goal

pub returns : goal.returns
returns c =
    c.in_ok-extend_from_slice-2.ensures.items
    ∙ ap (λ (t : List ℕ). t ++ line []) (c.in_ok-extend_from_slice.ensures.items
    ∙ ap (λ (t : List ℕ). t ++ line (codes "Connection: close")) (c.in_ok-put_length.ensures
    ∙ ap (λ (t : List ℕ). t ++ length_line c.count.result) (c.in_ok-put_status.ensures ∙ ap (λ (t : List ℕ). t ++ status c.args.self) c.new-text.ensures.items)
    ∙ ap (λ (n : ℕ). status c.args.self ++ length_line n) c.count.ensures))
