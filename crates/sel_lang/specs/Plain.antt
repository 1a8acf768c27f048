-- Selectors as plain data, without where they lie in memory.
use Rattle.std.specs.Prelude.{ℕ, List, [], ◌∷◌, Bool}
use Rattle.text_base.specs.Number.{Number, number_of}
use Rattle.text_base.specs.declared.fields.NumField.{NumField}
use Rattle.text_base.specs.declared.fields.TextField.{TextField}
use Rattle.sel_lang.specs.declared.pick.Pick.{Pick}
use Rattle.sel_lang.specs.declared.filter.NumOp.{NumOp}
use Rattle.sel_lang.specs.declared.filter.TextOp.{TextOp}
use Rattle.sel_lang.specs.declared.filter.TextOp.TheVariants as ops
use Rattle.sel_lang.specs.declared.filter.TextTest.{TextTest}
use Rattle.sel_lang.specs.declared.filter.TextTest.TheVariants as tests
use Rattle.sel_lang.specs.declared.filter.Filter.{Filter}
use Rattle.sel_lang.specs.declared.filter.Filter.TheVariants as filters

-- how a test compares
abbrev pub test_op : TextTest → TextOp
test_op (tests.Eq value) = ops.Eq
test_op (tests.Prefix value) = ops.Prefix
test_op (tests.Suffix value) = ops.Suffix
test_op (tests.Contains value) = ops.Contains
test_op (tests.Matches value) = ops.Matches

-- what a test compares with
abbrev pub test_value : TextTest → List ℕ
test_value (tests.Eq value) = value
test_value (tests.Prefix value) = value
test_value (tests.Suffix value) = value
test_value (tests.Contains value) = value
test_value (tests.Matches value) = value

-- a field of numbers compared with a value; whether it holds of what lacks the field
pub record NumFilter : Type 0 where
  pub field : NumField
  pub op : NumOp
  pub value : Number
  pub unknown : Bool

-- a field of texts compared with a value; whether that must not hold; whether it holds of what lacks the field
pub record TextFilter : Type 0 where
  pub field : TextField
  pub op : TextOp
  pub negated : Bool
  pub value : List ℕ
  pub unknown : Bool

-- a filter as plain data
pub data PlainFilter : Type 0 where
  num : NumFilter → PlainFilter
  text : TextFilter → PlainFilter

-- the filter that a value of the program stands for
abbrev pub plain_filter : Filter → PlainFilter
plain_filter (filters.Num field op value unknown) = num (record { field = field; op = op; value = number_of value; unknown = unknown })
plain_filter (filters.Text field test not unknown) =
    text (record { field = field; op = test_op test; negated = not; value = test_value test; unknown = unknown })

mutual
  -- a selector as plain data
  pub data Plain : Type 0 where
    list : Plains → Plain
    first : Plains → Plain
    merge : Plains → Plain
    narrow : Plain → PlainFilter → Plain
    name : Pick → Plain

  -- selectors one after the other
  pub data Plains : Type 0 where
    no_plains : Plains
    a_plain : Plain → Plains → Plains

-- the selectors of a list
abbrev pub plains_of : List Plain → Plains
plains_of [] = no_plains
plains_of (x ∷ xs) = a_plain x (plains_of xs)

-- what is narrowed by one filter after the other, the first innermost
abbrev pub narrowed : Plain → List PlainFilter → Plain
narrowed x [] = x
narrowed x (f ∷ fs) = narrowed (narrow x f) fs
