-- Files that are stored one after another.
use Rattle.std.proofs.Common.{◌≡◌, List, [], ◌∷◌, ◌++◌, refl, Some}
use Rattle.folder_base.specs.Disk.{Names, put, lasting_file}
use Rattle.folder_base.specs.Log.{stood}
use Rattle.folder_base.specs.declared.file.File.{File as FileMem}

pub stood_push : (live : Names) (files : List FileMem) (file : FileMem) → stood live (files ++ file ∷ []) ≡ put (stood live files) file.name (Some (lasting_file file.bytes.items))
stood_push live [] file = refl
stood_push live (first ∷ files) file = stood_push (put live first.name (Some (lasting_file first.bytes.items))) files file
