-- A form of the program as the definitions see it.
use Rattle.word_list.specs.declared.form.Form.{Form}
use Rattle.word_list.specs.declared.form.Form.TheVariants.{Turns, Gives, Asks, Closes, Faulty}
use Rattle.word_list.specs.Form.{Form as Plain, turns, gives, asks, closes, faulty}

-- a form, its value as a text
abbrev pub plain_form : Form → Plain
plain_form (Turns flag) = turns flag
plain_form (Gives option value) = gives option value.now
plain_form (Asks option) = asks option
plain_form Closes = closes
plain_form (Faulty fault) = faulty fault
