-- What stands where words say nothing.
use Rattle.std.specs.Prelude.{List, [], Bool, false, not, if◌then◌else◌, unwrap_or, Result, codes}
use Rattle.std.specs.Result.{result_ok}
use Rattle.sel_lang.specs.Plain.{Plain, first, merge, name, no_plains, a_plain}
use Rattle.sel_lang.specs.declared.pick.Media.{Media}
use Rattle.sel_lang.specs.declared.pick.Media.TheVariants.{Any, Video, Audio}
use Rattle.sel_lang.specs.declared.pick.Pick.TheVariants.{Ranked}
use Rattle.tpl_lang.specs.Reading.{template_of}
use Rattle.tpl_lang.specs.declared.fault.TplFault.{TplFault}
use Rattle.tpl_lang.specs.declared.template.Part.{Part}

-- the best of the candidates of a special name, with a star or without: `bv*`, `bv`, `ba`, `b`
abbrev pub best : Media → Bool → Plain
best media star = name (Ranked false media star 1)

-- one selector, or else another
abbrev pub either : Plain → Plain → Plain
either a b = first (a_plain a (a_plain b no_plains))

-- two selectors merged
abbrev pub merged : Plain → Plain → Plain
merged a b = merge (a_plain a (a_plain b no_plains))

-- The selector without `-f`: `ba/b` where audio alone is kept, else `bv*+ba/b`, which is `bv+ba/b` where a merge may have several parts with audio.
abbrev pub default_sel : Bool → Bool → Plain
default_sel audio_alone audio_streams =
    either (if audio_alone then best Audio false else merged (best Video (not audio_streams)) (best Audio false)) (best Any false)

-- the pieces of a template, where it is one
abbrev pub parts_of : Result (List Part) TplFault → List Part
parts_of read = unwrap_or (result_ok read) []

-- the template of names without `-o`
abbrev pub default_template : Bool → List Part
default_template restricted =
    parts_of (template_of (if restricted then codes "%(title)s-[%(id)s].%(ext)s" else codes "%(title)s [%(id)s].%(ext)s"))
