-- Where the keys of a map stand.
use Rattle.std.specs.Prelude.{◌≡◌, ℕ, List, String}
use Rattle.std.specs.List.{position}
use Rattle.std.specs.Str.{bytes_eq}
use Rattle.std.specs.BTreeMap.{BTreeMap, get_by_text}
use Rattle.std.specs.declared.alloc.Global.{Global}

-- under each key is its place, and nothing is under any other text
abbrev pub TellsPlaces : BTreeMap (String Global) ℕ → List (List ℕ) → Type 0
TellsPlaces places keys = (text : List ℕ) → get_by_text places text ≡ position (bytes_eq text) keys
