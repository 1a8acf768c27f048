-- The name of a file: what the template is filled to, with its extension set apart and cut.
use Rattle.std.specs.Prelude.{ℕ, zero, suc, Bool, false, not, ◌&&◌, ◌==◌, ◌-◌, [], ◌∷◌, ◌++◌, length, take, drop, nat_eq, if◌then◌else◌, codes, decimal}
use Rattle.std.specs.List.{ends_with, suffix_len}
use Rattle.field_text.specs.Frame.{first_chars}
use Rattle.job_names.specs.Text.{Text}
use Rattle.job_names.specs.declared.naming.SplitName.{SplitName}

-- whether a name of a file can begin so: it is not empty and does not end with a slash
abbrev pub begins_a_name : Text → Bool
begins_a_name [] = false
begins_a_name (b ∷ bs) = not (ends_with nat_eq (b ∷ bs) (codes "/"))

-- what stands before a tail
abbrev pub before_tail : Text → Text → Text
before_tail name tail = take (length name - length tail) name

-- a name with the tail that stands at its end, where a name of a file is left before it
abbrev pub split_at_tail : Text → Text → SplitName
split_at_tail name tail =
    if ends_with nat_eq name tail && begins_a_name (before_tail name tail) then record { stem = before_tail name tail; tail = tail }
    else record { stem = name; tail = [] }

-- how many bytes stand up to the last slash
abbrev pub folder_len : Text → ℕ
folder_len name = length name - suffix_len (λ b. not (b == 47)) name

-- a name whose last component is cut to so many characters
abbrev pub cut_name : ℕ → Text → Text
cut_name count name = take (folder_len name) name ++ first_chars count (drop (folder_len name) name)

-- a name as it is cut; 0 cuts nothing
abbrev pub trimmed : ℕ → Text → Text
trimmed zero name = name
trimmed (suc n) name = cut_name (suc n) name

-- a filled name with its extension set apart and its stem cut
abbrev pub split_name : ℕ → Text → Text → SplitName
split_name trim ext name =
    let apart = split_at_tail name (46 ∷ ext) in record { stem = trimmed trim apart.stem; tail = apart.tail }

-- the whole name
abbrev pub whole_name : SplitName → Text
whole_name name = name.stem ++ name.tail

-- a stem with a point and an extension
abbrev pub with_ext : Text → Text → Text
with_ext stem ext = stem ++ 46 ∷ ext

-- the name of a part's file, by its cleaned id and extension
abbrev pub part_name : Text → Text → Text → Text
part_name stem id ext = with_ext (stem ++ (codes ".f" ++ id)) ext

-- the output of a step, which is counted from 1
abbrev pub output_name : Text → ℕ → Text → Text
output_name stem step ext = with_ext (stem ++ (codes ".temp-" ++ decimal step)) ext
