-- Where one key leads, and what the keys behind it make of that.
use Rattle.std.specs.Prelude.{List, Option, Some}
use Rattle.std.specs.Option.{option_map, option_and_then}
use Rattle.info_tree.specs.Tree.{Tree as Plain}
use Rattle.info_tree.specs.Plain.{plain}
use Rattle.info_item.specs.Found.{tree_of}
use Rattle.tpl_lang.specs.declared.key.Key.{Key}
use Rattle.tpl_eval.specs.Path.{at_keys}
use Rattle.tpl_eval.specs.declared.path.Step.{Step}
use Rattle.tpl_eval.specs.declared.path.Step.TheVariants.{Next, Last}

-- what stands at keys behind a step
abbrev pub led : List Key → Step → Option Plain
led keys (Next found) = option_and_then (at_keys keys) (option_map tree_of found)
led keys (Last t) = Some (plain t)
