use Rattle.std.proofs.Common.{◌∙◌, sym, ap, option_map}
use Rattle.folder_base.specs.Disk.{Name, put}
use Rattle.folder_base.specs.Files.{names_of}
use Rattle.folder_base.specs.Stored.{file_of}
use Rattle.folder_base.specs.Undo.{undone_names}
use Rattle.folder_base.specs.declared.undo.Undo.{Undo}
use Rattle.folder_base.proofs.undo.Undo.undo.Goals as goal

pub returns-in_ok-put_file-in-Moved : goal.returns-in_ok-put_file-in-Moved
returns-in_ok-put_file-in-Moved c =
    let old = names_of c.args.files.now in
    let to_is = c.as_str-in-Moved.ensures in
    c.in_ok-put_file-in-Moved.ensures.names
    ∙ (λ i. put ((c.in_ok-moved-in-Moved.ensures.names ∙ ap (λ (n : Name). put old n (option_map file_of c.in-Moved.file)) to_is) i)
    (c.as_str-in-Moved-2.ensures i) ((c.in_ok-moved-in-Moved.ensures.stood ∙ ap old to_is) i))
    ∙ sym (ap (λ (undo : Undo). undone_names (names_of c.args.live.now) undo old) c.in-Moved.is)
