-- The selector that a value of the program stands for.
use Rattle.sel_lang.specs.Plain.{Plain, list, first, merge, narrow, name, plains_of, plain_filter}
use Rattle.sel_lang.specs.declared.sel.Sel.{Sel}
use Rattle.sel_lang.specs.declared.sel.Sel.TheOpen.{Sel-F}
use Rattle.sel_lang.specs.declared.sel.Sel.TheFolds.{fold-Sel}

-- one level of it
abbrev pub node_plain : Sel-F Plain → Plain
node_plain (Sel-F.List xs) = list (plains_of xs.items)
node_plain (Sel-F.First xs) = first (plains_of xs.items)
node_plain (Sel-F.Merge xs) = merge (plains_of xs.items)
node_plain (Sel-F.Narrow inner filter) = narrow inner.value (plain_filter filter)
node_plain (Sel-F.Name pick) = name pick

-- the whole of it
abbrev pub plain : Sel → Plain
plain = fold-Sel Plain node_plain
