-- What a target is of.
use Rattle.std.specs.Prelude.{string_bytes}
use Rattle.folder_base.specs.Disk.{Name}
use Rattle.component_store.specs.declared.target.Target.{Target}

-- the component's name
abbrev pub component_of : Target → Name
component_of target = string_bytes target.name
