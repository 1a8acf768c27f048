-- The reader's machine: the lists and maps that are open, innermost first, and what may come next.
use Rattle.std.specs.Prelude.{◌≡◌, ℕ, List, [], ◌∷◌, ◌++◌, Option, Some, None}
use Rattle.text_base.specs.Value.{value_of}
use Rattle.info_tree.specs.Tree.{Tree, text, number, list, mapping, trees_of, pairs_of}
use Rattle.info_tree.specs.Token as token
use Rattle.info_tree.specs.Token.{Token}
use Rattle.info_tree.specs.Strings.{text_of}
use Rattle.info_tree.specs.Json.{word_value}
use Rattle.info_tree.specs.Pairs.{put}

-- what a token means to the machine: a sign, a value of its own, or characters, which may be a key
pub data Mark : Type 0 where
  begin_list : Mark
  end_list : Mark
  begin_map : Mark
  end_map : Mark
  comma : Mark
  colon : Mark
  scalar : Tree → Mark
  chars : List ℕ → Mark

-- the mark that a token stands for
abbrev pub mark_of : Token → Mark
mark_of token.begin_list = begin_list
mark_of token.end_list = end_list
mark_of token.begin_map = begin_map
mark_of token.end_map = end_map
mark_of token.comma = comma
mark_of token.colon = colon
mark_of (token.word w) = scalar (word_value w)
mark_of (token.numeral s) = scalar (number (value_of s))
mark_of (token.string s) = chars (text_of s)

-- a list with its items so far, or a map with its pairs so far and the key whose value is being read
pub data Frame : Type 0 where
  in_list : List Tree → Frame
  in_map : List (List ℕ × Tree) → List ℕ → Frame

-- what comes next: a value, an item or the end of a list, a key or the end of a map, a key behind a comma, the colon behind a key, or what follows a whole value
pub data Next : Type 0 where
  value : Next
  item_or_end : Next
  key_or_end : Next
  key : List (List ℕ × Tree) → Next
  colon_after : List (List ℕ × Tree) → List ℕ → Next
  done : Tree → Next

-- the open lists and maps, innermost first, and what comes next
abbrev pub State : Type 0
State = List Frame × Next

-- a value begins
abbrev pub begin_value : List Frame → Mark → Option State
begin_value fs begin_list = Some (fs, item_or_end)
begin_value fs end_list = None
begin_value fs begin_map = Some (fs, key_or_end)
begin_value fs end_map = None
begin_value fs comma = None
begin_value fs colon = None
begin_value fs (scalar t) = Some (fs, done t)
begin_value fs (chars s) = Some (fs, done (text s))

-- the first item of a list begins, or the list ends
abbrev pub item_or_close : List Frame → Mark → Option State
item_or_close fs begin_list = begin_value (in_list [] ∷ fs) begin_list
item_or_close fs end_list = Some (fs, done (list (trees_of [])))
item_or_close fs begin_map = begin_value (in_list [] ∷ fs) begin_map
item_or_close fs end_map = None
item_or_close fs comma = None
item_or_close fs colon = None
item_or_close fs (scalar t) = begin_value (in_list [] ∷ fs) (scalar t)
item_or_close fs (chars s) = begin_value (in_list [] ∷ fs) (chars s)

-- the first key of a map comes, or the map ends
abbrev pub key_or_close : List Frame → Mark → Option State
key_or_close fs begin_list = None
key_or_close fs end_list = None
key_or_close fs begin_map = None
key_or_close fs end_map = Some (fs, done (mapping (pairs_of [])))
key_or_close fs comma = None
key_or_close fs colon = None
key_or_close fs (scalar t) = None
key_or_close fs (chars s) = Some (fs, colon_after [] s)

-- a key comes
abbrev pub a_key : List Frame → List (List ℕ × Tree) → Mark → Option State
a_key fs ps begin_list = None
a_key fs ps end_list = None
a_key fs ps begin_map = None
a_key fs ps end_map = None
a_key fs ps comma = None
a_key fs ps colon = None
a_key fs ps (scalar t) = None
a_key fs ps (chars s) = Some (fs, colon_after ps s)

-- the colon behind a key comes
abbrev pub a_colon : List Frame → List (List ℕ × Tree) → List ℕ → Mark → Option State
a_colon fs ps k begin_list = None
a_colon fs ps k end_list = None
a_colon fs ps k begin_map = None
a_colon fs ps k end_map = None
a_colon fs ps k comma = None
a_colon fs ps k colon = Some (in_map ps k ∷ fs, value)
a_colon fs ps k (scalar t) = None
a_colon fs ps k (chars s) = None

-- an item has come: a comma, or the end of its list
abbrev pub after_item : List Frame → List Tree → Mark → Option State
after_item fs xs begin_list = None
after_item fs xs end_list = Some (fs, done (list (trees_of xs)))
after_item fs xs begin_map = None
after_item fs xs end_map = None
after_item fs xs comma = Some (in_list xs ∷ fs, value)
after_item fs xs colon = None
after_item fs xs (scalar t) = None
after_item fs xs (chars s) = None

-- a member has come: a comma, or the end of its map
abbrev pub after_member : List Frame → List (List ℕ × Tree) → Mark → Option State
after_member fs ps begin_list = None
after_member fs ps end_list = None
after_member fs ps begin_map = None
after_member fs ps end_map = Some (fs, done (mapping (pairs_of ps)))
after_member fs ps comma = Some (fs, key ps)
after_member fs ps colon = None
after_member fs ps (scalar t) = None
after_member fs ps (chars s) = None

-- a value has come: it goes into the innermost list or map
abbrev pub after_value : List Frame → Tree → Mark → Option State
after_value [] t mark = None
after_value (in_list xs ∷ fs) t mark = after_item fs (xs ++ t ∷ []) mark
after_value (in_map ps k ∷ fs) t mark = after_member fs (put ps k t) mark

-- the state behind a mark, by what came next
abbrev pub take_mark : List Frame → Next → Mark → Option State
take_mark fs value mark = begin_value fs mark
take_mark fs item_or_end mark = item_or_close fs mark
take_mark fs key_or_end mark = key_or_close fs mark
take_mark fs (key ps) mark = a_key fs ps mark
take_mark fs (colon_after ps k) mark = a_colon fs ps k mark
take_mark fs (done t) mark = after_value fs t mark

-- the state behind a token; none where the token may not come
abbrev pub step : List Frame → Next → Token → Option State
step fs next tok = take_mark fs next (mark_of tok)

-- the machine goes from one state over these tokens to another
abbrev pub Runs : State → List Token → State → Type 0
Runs s [] u = s ≡ u
Runs s (t ∷ ts) u = (mid : State) × (step s.0 s.1 t ≡ Some mid) × Runs mid ts u
