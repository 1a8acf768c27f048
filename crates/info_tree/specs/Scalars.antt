-- What a tree that is neither a list nor a map says.
use Rattle.std.specs.Prelude.{ℕ, List, Option, Some, None}
use Rattle.text_base.specs.Number.{Number}
use Rattle.info_tree.specs.Tree.{Tree, null, truth, number, text, list, mapping}

-- the text that a tree is
abbrev pub text_of : Tree → Option (List ℕ)
text_of null = None
text_of (truth b) = None
text_of (number n) = None
text_of (text s) = Some s
text_of (list ts) = None
text_of (mapping ps) = None

-- the number that a tree is
abbrev pub number_of : Tree → Option Number
number_of null = None
number_of (truth b) = None
number_of (number n) = Some n
number_of (text s) = None
number_of (list ts) = None
number_of (mapping ps) = None
