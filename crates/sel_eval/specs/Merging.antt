-- A merge as it is built, part by part.
use Rattle.std.specs.Prelude.{◌≡◌, ◌≤◌, ◌^◌, ◌-◌, min, List, map, fold}
use Rattle.std.specs.List.{flat_map}
use Rattle.sel_eval.specs.Keep.{keep, kept_with}
use Rattle.sel_eval.specs.Den.{Choices, products, product_count}
use Rattle.sel_eval.specs.declared.streams.Streams.{Streams}
use Rattle.sel_eval.specs.declared.merging.Merging.{Merging}

-- each row with each choice merged into it, the row changing last
abbrev pub spread : Streams → Choices → Choices → Choices
spread streams rows choices = flat_map (λ row. map (fold (kept_with streams) row) choices) rows

-- the merge of these parts: how many rows there are, up to the type's end, and what is kept of each where they are few
pub record IsMerging (streams : Streams) (parts : List Choices) (m : Merging) : Type 0 where
  pub count : m.count ≡ min (product_count parts) (2 ^ 64 - 1)
  pub rows : m.count ≤ 10000 → m.rows.items ≡ map (keep streams) (products parts)
