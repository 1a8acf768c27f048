-- What a value is as a text, as a number, and as a list.
use Rattle.std.specs.Prelude.{ℕ, List, [], ◌∷◌, length, false, not, ◌&&◌, ◌==◌, if◌then◌else◌, Option, Some, None}
use Rattle.std.specs.List.{join_by}
use Rattle.text_base.specs.Number.{Number}
use Rattle.text_base.specs.Reading.{spelling_at, value_at}
use Rattle.info_tree.specs.Tree.{Tree, null, truth, number, text, list, mapping, tree_list}
use Rattle.info_tree.specs.Printed.{printed}
use Rattle.info_tree.specs.declared.style.Style.{Style}
use Rattle.name_text.specs.Quote.{quoted}
use Rattle.field_text.specs.declared.listed.Item.{Item}
use Rattle.field_text.specs.declared.listed.Item.TheVariants.{Plain, Quoted}
use Rattle.field_text.specs.Dates.{moment_of_text, moment_of_number}
use Rattle.field_text.specs.declared.moment.Moment.{Moment}

-- JSON on one line, with all characters as they are
abbrev pub compact : Style
compact = record { pretty = false; ascii = false }

-- the plain text of a value: a text itself, of any other value its JSON
abbrev pub plain_text : Tree → List ℕ
plain_text null = printed compact [] null
plain_text (truth b) = printed compact [] (truth b)
plain_text (number n) = printed compact [] (number n)
plain_text (text t) = t
plain_text (list ts) = printed compact [] (list ts)
plain_text (mapping ps) = printed compact [] (mapping ps)

-- the number that a text is as a whole, where it is in range
unfoldable pub number_of_text : List ℕ → Option Number
number_of_text t = if not (length t == 0) && length (spelling_at t 0) == length t then value_at t 0 else None

-- the number that a value is, or that its text is
abbrev pub number_in : Tree → Option Number
number_in null = None
number_in (truth b) = None
number_in (number n) = Some n
number_in (text t) = number_of_text t
number_in (list ts) = None
number_in (mapping ps) = None

-- the moment that a value stands for: eight digits, or a number of seconds
abbrev pub moment_of : Tree → Option Moment
moment_of null = None
moment_of (truth b) = None
moment_of (number n) = moment_of_number n
moment_of (text t) = moment_of_text t
moment_of (list ts) = None
moment_of (mapping ps) = None

-- the values of a list; of any other value itself alone
abbrev pub items_of : Tree → List Tree
items_of null = null ∷ []
items_of (truth b) = truth b ∷ []
items_of (number n) = number n ∷ []
items_of (text t) = text t ∷ []
items_of (list ts) = tree_list ts
items_of (mapping ps) = mapping ps ∷ []

-- how a value stands in a list
abbrev pub item_text : Item → Tree → List ℕ
item_text Plain t = plain_text t
item_text Quoted t = quoted (plain_text t)

-- the texts of a list's values, with a text between two
abbrev pub listed : Item → List ℕ → Tree → List ℕ
listed item between value = join_by (item_text item) between (items_of value)
