-- Faults of values and of words, and what a call answers where an outcome is a value or a fault.
use Rattle.std.specs.Prelude.{◌≡◌, ℕ, Result, Ok, Err}
use Rattle.fmt_sort.specs.declared.sort_fault.SortFault.{SortFault}
use Rattle.fmt_sort.specs.declared.sort_fault.SortFault.TheVariants as sort
use Rattle.sel_lang.specs.declared.sel_fault.SelFault.{SelFault}
use Rattle.sel_lang.specs.declared.sel_fault.SelFault.TheVariants as sel
use Rattle.tpl_lang.specs.declared.fault.TplFault.{TplFault}
use Rattle.tpl_lang.specs.declared.fault.TplFault.TheVariants as tpl
use Rattle.word_list.specs.declared.fault.OptionFault.{OptionFault}
use Rattle.word_list.specs.declared.fault.OptionFault.TheVariants.{Selector, Sort, Template}
use Rattle.word_list.specs.declared.fault.ValueFault.{ValueFault}
use Rattle.word_list.specs.declared.fault.ValueFault.TheVariants as value
use Rattle.word_list.specs.declared.fault.WordsFault.{WordsFault}
use Rattle.word_list.specs.declared.fault.WordsFault.TheVariants as words

-- a fault of a selector; want of memory stands by itself
abbrev pub of_selector : SelFault → ValueFault
of_selector (sel.Syntax at) = value.Bad (Selector (sel.Syntax at))
of_selector (sel.Field at) = value.Bad (Selector (sel.Field at))
of_selector (sel.Value at) = value.Bad (Selector (sel.Value at))
of_selector (sel.Regex at) = value.Bad (Selector (sel.Regex at))
of_selector (sel.Depth at) = value.Bad (Selector (sel.Depth at))
of_selector sel.OutOfMemory = value.OutOfMemory

-- a fault of a sort word
abbrev pub of_sort : SortFault → ValueFault
of_sort (sort.Field piece) = value.Bad (Sort (sort.Field piece))
of_sort (sort.Limit piece) = value.Bad (Sort (sort.Limit piece))
of_sort sort.OutOfMemory = value.OutOfMemory

-- a fault of a template
abbrev pub of_template : TplFault → ValueFault
of_template (tpl.Syntax at) = value.Bad (Template (tpl.Syntax at))
of_template (tpl.TypeLetter at) = value.Bad (Template (tpl.TypeLetter at))
of_template (tpl.Directive at) = value.Bad (Template (tpl.Directive at))
of_template tpl.OutOfMemory = value.OutOfMemory

-- a fault of a value, at the place of its option
abbrev pub at_word : ℕ → ValueFault → WordsFault
at_word word (value.Bad fault) = words.Bad word fault
at_word word value.OutOfMemory = words.OutOfMemory

-- what a value that was read makes, or its fault
abbrev pub result_map : {T U E : Type 0} → (T → U) → Result T E → Result U E
result_map f (Ok x) = Ok (f x)
result_map f (Err e) = Err e

-- the same value, and another fault
abbrev pub result_map_err : {T E F : Type 0} → (E → F) → Result T E → Result T F
result_map_err f (Ok x) = Ok x
result_map_err f (Err e) = Err (f e)

-- what goes on from a value, or the fault
abbrev pub result_and_then : {T U E : Type 0} → Result T E → (T → Result U E) → Result U E
result_and_then (Ok x) f = f x
result_and_then (Err e) f = Err e

-- the fault is that of the outcome; memory may run out at any time
abbrev pub IsRefusal : {T : Type 0} → Result T OptionFault → ValueFault → Type 0
IsRefusal outcome (value.Bad fault) = outcome ≡ Err fault
IsRefusal outcome value.OutOfMemory = Unit {0}

-- what a call answers, seen by view, is the outcome, unless memory ran out
abbrev pub Gives : {X T : Type 0} → (X → T) → Result X ValueFault → Result T OptionFault → Type 0
Gives view (Ok x) outcome = outcome ≡ Ok (view x)
Gives view (Err e) outcome = IsRefusal outcome e
