use Rattle.std.proofs.Common.{◌∙◌, ap, sym, [], ◌∷◌, ◌++◌, option_map}
use Rattle.folder_base.specs.Disk.{Names}
use Rattle.folder_base.specs.Files.{names_of}
use Rattle.folder_base.specs.Stored.{file_of}
use Rattle.folder_base.specs.declared.undo.Undo.TheVariants.{Freed}
use Rattle.folder_base.proofs.Undoing.{put_replayed}
use Rattle.folder_base.proofs.replay.Replay.put.Goals as goal

pub returns : goal.returns
returns c = λ made disk h.
    put_replayed disk made c.args.self.now (record { files = c.retell.new.self.files; undos = c.push.new.self; listed = c.retell.new.self.listed }) c.args.name.now (option_map file_of c.args.file) c.in_ok-file.file
    c.retell.new.self.undos.items
    (ap names_of c.in_ok-retell.ensures.files ∙ c.in_ok-file.ensures.names) c.in_ok-file.ensures.stood
    (c.in_ok-retell.ensures.undos disk.live (ap (λ (m : Names). m c.args.name.now) (sym h.live) ∙ sym c.in_ok-file.ensures.stood) h.plain)
    (c.in_ok-push.ensures.items ∙ (λ i. c.retell.new.self.undos.items ++ Freed (c.in_ok-name.ensures i) c.in_ok-file.file ∷ [])) c.in_ok-retell.ensures.listed h
