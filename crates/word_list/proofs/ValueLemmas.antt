-- A command without a field has the file's path at its end.
use Rattle.std.proofs.Common.{◌≡◌, ℕ, List, ◌++◌, length, false, ◌==◌, refl}
use Rattle.std.specs.Prelude.{Ok, codes}
use Rattle.std.specs.List.{list_any}
use Rattle.tpl_lang.specs.declared.template.Part.{Part}
use Rattle.word_list.specs.Values.{template_by, command_of, is_field}

pub command_by : (value longer : List ℕ) (parts : List Part) → (length value == 0) ≡ false → template_by value ≡ Ok parts → list_any is_field parts ≡ false →
    longer ≡ value ++ codes " %(filepath)q" → template_by longer ≡ command_of value
unfolding command_of
command_by value longer parts some read none is = rw (some, read, none, is) refl
