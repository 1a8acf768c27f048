-- A filter's reader and how a filter is spelled, step by step.
use Rattle.std.proofs.Common.{ℕ, Bool, List}
use Rattle.text_base.specs.Number.{Number}
use Rattle.text_base.specs.declared.fields.NumField.{NumField}
use Rattle.text_base.specs.declared.fields.TextField.{TextField}
use Rattle.read_base.specs.Reads.{◌>>=◌, Read, skip}
use Rattle.read_base.specs.Spelled.{Spaced, Then}
use Rattle.sel_lang.specs.Plain.{PlainFilter, num, text}
use Rattle.sel_lang.specs.Filters.{marked_at, num_value_at, tested_at, ended}
use Rattle.sel_lang.specs.Spelled.{IsMarked, IsNumValue, IsTextValue, IsEnd}
use Rattle.sel_lang.specs.declared.filter.NumOp.{NumOp}
use Rattle.sel_lang.specs.declared.filter.TextOp.{TextOp}
use Rattle.sel_lang.specs.declared.sel_kind.SelKind.{SelKind}

-- ---- fields of numbers

abbrev pub num_made : NumField → NumOp → Bool × Number → PlainFilter
num_made field op value = num (record { field = field; op = op; value = value.1; unknown = value.0 })

-- a value behind spaces
abbrev pub num_value : List ℕ → Read SelKind Number
num_value t = num_value_at (skip t)

-- what follows an operator
abbrev pub num_rest : NumField → NumOp → List ℕ → Read SelKind PlainFilter
num_rest field op t = marked_at num_value t >>= λ value. ended (num_made field op value.0) value.1

abbrev pub IsNumRest : NumField → NumOp → List ℕ → PlainFilter → Type 0
IsNumRest field op = Then (IsMarked (Spaced IsNumValue)) (λ value. IsEnd (num_made field op value))

-- ---- fields of texts

abbrev pub text_made : TextField → TextOp × Bool → Bool × List ℕ → PlainFilter
text_made field op value = text (record { field = field; op = op.0; negated = op.1; value = value.1; unknown = value.0 })

-- a value behind spaces
abbrev pub text_value : TextOp → List ℕ → Read SelKind (List ℕ)
text_value op t = tested_at op (skip t)

-- what follows an operator
abbrev pub text_rest : TextField → TextOp × Bool → List ℕ → Read SelKind PlainFilter
text_rest field op t = marked_at (text_value op.0) t >>= λ value. ended (text_made field op value.0) value.1

abbrev pub IsTextRest : TextField → TextOp × Bool → List ℕ → PlainFilter → Type 0
IsTextRest field op = Then (IsMarked (Spaced (IsTextValue op.0))) (λ value. IsEnd (text_made field op value))
