-- Parts of a selector as the program holds them.
use Rattle.std.specs.Prelude.{◌≡◌, List, map, Bool}
use Rattle.sel_lang.specs.Plain.{Plain, list, first, merge, plains_of}
use Rattle.sel_lang.specs.View.{plain}
use Rattle.sel_lang.specs.declared.sel.Sel.{Sel}
use Rattle.sel_eval.specs.Placed.{Placed}
use Rattle.sel_eval.specs.Den.{den, large}
use Rattle.sel_eval.specs.declared.streams.Streams.{Streams}

-- these parts, one after the other
abbrev pub list_of : List Sel → Plain
list_of parts = list (plains_of (map plain parts))

-- these parts as alternatives
abbrev pub first_of : List Sel → Plain
first_of parts = first (plains_of (map plain parts))

-- these parts merged
abbrev pub merge_of : List Sel → Plain
merge_of parts = merge (plains_of (map plain parts))

-- two selectors stand for the same, each over formats of its own
pub record IsSamePart (x : Plain) (ps : List Placed) (y : Plain) (qs : List Placed) : Type 0 where
  pub same_den : (streams : Streams) (both : Bool) → den streams both x ps ≡ den streams both y qs
  pub same_large : (streams : Streams) (both : Bool) → large streams both x ps ≡ large streams both y qs
