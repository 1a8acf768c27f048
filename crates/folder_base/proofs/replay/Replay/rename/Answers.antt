use Rattle.std.proofs.Common.{◌≡◌, ◌∙◌, [], ◌∷◌, ◌++◌, false, sym, ap, Some, None}
use Rattle.std.specs.Prelude.{bytes_eq}
use Rattle.folder_base.specs.Disk.{Names, put, still, taken_over}
use Rattle.folder_base.specs.Files.{names_of}
use Rattle.folder_base.specs.declared.undo.Undo.TheVariants.{Moved}
use Rattle.folder_base.proofs.Images.{put_there}
use Rattle.folder_base.proofs.Lent.{not_same}
use Rattle.folder_base.proofs.Undoing.{moved_replayed}
use Rattle.folder_base.proofs.replay.Replay.rename.Goals as goal

pub returns : goal.returns
returns c = λ disk h.
    let from = c.args.from.now in
    let to = c.args.to.now in
    let old = names_of c.args.self.now.files in
    let apart : bytes_eq from to ≡ false = not_same to from (λ e. c.requires (sym e)) in
    let stood = c.in_ok-file.ensures.stood ∙ ap (λ (m : Names). m to) c.in_ok-moved.ensures.names ∙ put_there old from to None apart in
    moved_replayed disk (λ spots. put (put (taken_over disk.live from to spots) from None) to (Some (still to))) c.args.self.now
    (record { files = c.retell.new.self.files; undos = c.push.new.self; listed = c.retell.new.self.listed }) from to apart c.in_ok-file.file
    c.retell.new.self.undos.items
    (ap names_of c.in_ok-retell.ensures.files ∙ c.in_ok-file.ensures.names ∙ (λ i. put (c.in_ok-moved.ensures.names i) to (c.in_ok-moved.ensures.stood i)))
    stood
    (c.in_ok-retell.ensures.undos disk.live (ap (λ (m : Names). m to) (sym h.live) ∙ sym stood) h.plain)
    (c.in_ok-push.ensures.items ∙ (λ i. c.retell.new.self.undos.items ++ Moved (c.in_ok-from.ensures i) (c.in_ok-to.ensures i) c.in_ok-file.file ∷ [])) c.in_ok-retell.ensures.listed h
