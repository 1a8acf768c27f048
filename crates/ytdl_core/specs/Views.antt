-- What is asked for, as the program holds it.
use Rattle.word_list.specs.Views.{plain_plan}
use Rattle.ytdl_core.specs.declared.built.Command.{Command as Held}
use Rattle.ytdl_core.specs.Built.{Command}

-- a command as the definitions see it
abbrev pub plain_command : Held → Command
plain_command command = record { info = command.info; plan = plain_plan command.plan; quiet = command.quiet }
