-- What a component that is to be made is of: its name, its plan's text, and its pieces.
use Rattle.std.specs.Prelude.{ℕ, min, length, string_bytes}
use Rattle.folder_base.specs.Disk.{Name, Bytes}
use Rattle.plan_record.specs.Plan.{plan_text}
use Rattle.component_turn.specs.declared.component.Component.{Component}
use Rattle.component_turn.specs.declared.settings.Settings.{Settings}
use Rattle.component_turn.specs.Plan.{lines_of}

-- the component's name
abbrev pub name_of : Component → Name
name_of component = string_bytes component.name

-- the text of its plan's record
abbrev pub text_of : Component → Bytes
text_of component = plan_text (lines_of component.pieces.items)

-- how many pieces it has
abbrev pub count_of : Component → ℕ
count_of component = length component.pieces.items

-- how many workers it gets: never more than it has pieces
abbrev pub workers_for : Component → Settings → ℕ
workers_for component settings = min settings.workers (count_of component)
