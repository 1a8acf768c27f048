-- What values are: texts, numbers, selectors, templates, names of archives; or their faults.
use Rattle.std.specs.Prelude.{ℕ, ◌-◌, ◌^◌, List, ◌++◌, length, min, Bool, true, false, ◌&&◌, ◌||◌, ◌==◌, not, nat_le, slice_index, if◌then◌else◌, is_none, Result, Ok, Err, codes}
use Rattle.std.specs.Char.{is_ascii_alphanumeric}
use Rattle.std.specs.List.{list_all, list_any}
use Rattle.std.specs.Str.{bytes_eq}
use Rattle.name_text.specs.Path.{path_fault}
use Rattle.sel_lang.specs.Plain.{Plain}
use Rattle.sel_lang.specs.Reading.{sel_of}
use Rattle.text_base.specs.Value.{digits_value}
use Rattle.tpl_lang.specs.Reading.{template_of}
use Rattle.tpl_lang.specs.declared.template.Part.{Part}
use Rattle.tpl_lang.specs.declared.template.Part.TheVariants.{Literal, Field}
use Rattle.word_list.specs.declared.fault.OptionFault.{OptionFault}
use Rattle.word_list.specs.declared.fault.OptionFault.TheVariants.{BadValue, Selector, Template}
use Rattle.word_list.specs.Faults.{result_map_err, result_and_then}

-- a text that is not empty
unfoldable pub some_text : List ℕ → Result (List ℕ) OptionFault
some_text value = if length value == 0 then Err BadValue else Ok value

-- a decimal digit
abbrev pub is_digit : ℕ → Bool
is_digit b = nat_le 48 b && nat_le b 57

-- whether a text spells a number: digits alone, of which the first of several is no zero
abbrev pub is_number : List ℕ → Bool
is_number text =
    bytes_eq text (codes "0") || not (length text == 0) && not (slice_index text 0 == 48) && list_all is_digit text

-- what digits count, or the most that 64 bits hold
abbrev pub capped_value : List ℕ → ℕ
capped_value digits = min (digits_value digits) (2 ^ 64 - 1)

-- whether a count lies between two bounds, and may be one of them
abbrev pub is_within : ℕ → ℕ → ℕ → Bool
is_within low high count = nat_le low count && nat_le count high

-- the number that a value spells, from one bound to another
unfoldable pub number_of : ℕ → ℕ → List ℕ → Result ℕ OptionFault
number_of low high text =
    if is_number text && is_within low high (digits_value text) then Ok (digits_value text) else Err BadValue

-- the selector that a value is; an empty one is no selector
unfoldable pub selector_of : List ℕ → Result Plain OptionFault
selector_of value = if length value == 0 then Err BadValue else result_map_err Selector (sel_of value)

-- the template that a value is
unfoldable pub template_by : List ℕ → Result (List Part) OptionFault
template_by text = result_map_err Template (template_of text)

-- a byte of a field's name
abbrev pub is_name_byte : ℕ → Bool
is_name_byte b = is_ascii_alphanumeric b || b == 95

-- whether a value is the name of a field: ASCII letters, digits and `_` alone
abbrev pub is_field_name : List ℕ → Bool
is_field_name value = not (length value == 0) && list_all is_name_byte value

-- the template that is printed: a name of a field is that field, another value is a template
unfoldable pub print_of : List ℕ → Result (List Part) OptionFault
print_of value = template_by (if is_field_name value then codes "%(" ++ (value ++ codes ")s") else value)

-- whether a piece of a template is a field
abbrev pub is_field : Part → Bool
is_field (Literal text) = false
is_field (Field field) = true

-- a command that has a field, or else the same with the file's path at its end
abbrev pub with_path : List ℕ → List Part → Result (List Part) OptionFault
with_path value parts = if list_any is_field parts then Ok parts else template_by (value ++ codes " %(filepath)q")

-- the template of a command
unfoldable pub command_of : List ℕ → Result (List Part) OptionFault
command_of value = if length value == 0 then Err BadValue else result_and_then (template_by value) (with_path value)

-- whether a name is the path of a file below the folder
abbrev pub is_path : List ℕ → Bool
is_path name = is_none (path_fault name)

-- the name of an archive, which is a path also with `.new` behind it
unfoldable pub archive_of : List ℕ → Result (List ℕ) OptionFault
archive_of name = if is_path name && is_path (name ++ codes ".new") then Ok name else Err BadValue
