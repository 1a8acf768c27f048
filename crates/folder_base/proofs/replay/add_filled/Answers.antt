use Rattle.std.proofs.Common.{◌≡◌, ◌∙◌, rules, sym, ap, Some, None, option_map, List}
use Rattle.std.specs.Prelude.{Option}
use Rattle.std.specs.BTreeMap.{get_by_text}
use Rattle.folder_base.specs.Disk.{File, put, lasting_file}
use Rattle.folder_base.specs.Log.{stood}
use Rattle.folder_base.specs.Stop.{filled}
use Rattle.folder_base.specs.Stored.{file_of}
use Rattle.folder_base.specs.declared.file.File.{File as FileMem}
use Rattle.folder_base.specs.declared.stored.Stored.{Stored}
use Rattle.folder_base.proofs.Storing.{stood_push}
use Rattle.folder_base.proofs.replay.add_filled.Goals as goal

pub returns-in_ok-push : goal.returns-in_ok-push
returns-in_ok-push c =
    let old = c.args.filled.now.items in
    let file : FileMem = record { name = c.in_ok-name.name; bytes = c.in_ok-bytes.bytes } in
    let was : get_by_text c.args.files.now c.args.name.now ≡ Some c.in-Some.file.now = search rules in
    ap (λ (l : List FileMem). stood (λ _. None) l) c.in_ok-push.ensures.items
    ∙ stood_push (λ _. None) old file
    ∙ (λ i. put (stood (λ _. None) old) (c.in_ok-name.ensures i) (Some (lasting_file (c.in_ok-bytes.ensures i))))
    ∙ ap (put (stood (λ _. None) old) c.args.name.now) (sym (ap (λ (o : Option Stored). option_map (λ (f : File). lasting_file (filled c.args.fill f)) (option_map file_of o)) was))
