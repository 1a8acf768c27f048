use Rattle.std.proofs.Common.{◌≡◌, ◌∙◌, ap, None}
use Rattle.std.proofs.lemmas.Result.{IfOk-weaker}
use Rattle.folder_base.specs.Disk.{Disk}
use Rattle.folder_base.specs.Log.{stood}
use Rattle.folder_base.specs.Stop.{filled_names, stopped}
use Rattle.folder_base.specs.Undo.{IsReplayed}
use Rattle.folder_base.specs.Files.{names_of}
use Rattle.folder_base.specs.declared.file.File.{File}
use Rattle.std.specs.Prelude.{Vec}
use Rattle.std.specs.declared.alloc.Global.{Global}
use Rattle.folder_base.proofs.Undoing.{kept_replayed}
use Rattle.folder_base.proofs.replay.Replay.stop.Goals as goal

pub returns : goal.returns
returns c =
    IfOk-weaker c.filled_files.result (λ (files : Vec File Global). stood (λ _. None) files.items ≡ filled_names c.args.fill (names_of c.undo_last.new.files))
    (λ files. (disk : Disk) → IsReplayed disk c.args.self → stood (λ _. None) files.items ≡ stopped c.args.kept c.args.fill disk)
    (λ files is disk replayed. is ∙ ap (filled_names c.args.fill) (c.in_ok-undo_last.ensures ∙ kept_replayed c.args.kept disk c.args.self (names_of c.in_ok-live.live) c.in_ok-live.ensures replayed))
    c.filled_files.ensures
