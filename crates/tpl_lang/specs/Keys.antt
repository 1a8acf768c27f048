-- Keys of a path, each behind its dot: an int, a slice, a word, or words between braces.
use Rattle.std.specs.Prelude.{ℕ, List, ◌∷◌, length, take, drop, Bool, false, ◌&&◌, ◌||◌, ◌==◌, ℤ, pos, negsuc, Option, Some, None, Ok, Err, if◌then◌else◌}
use Rattle.std.specs.List.{prefix_len}
use Rattle.read_base.specs.Reads.{Read, ◌>>=◌, is_at, mark_at, run_at, all_at}
use Rattle.tpl_lang.specs.declared.tpl_kind.TplKind.{TplKind}
use Rattle.tpl_lang.specs.declared.tpl_kind.TplKind.TheVariants.{Syntax, Step}
use Rattle.tpl_lang.specs.declared.key.Key.{Key}
use Rattle.tpl_lang.specs.declared.key.Key.TheVariants as keys
use Rattle.tpl_lang.specs.Bytes.{is_word_byte, has_word}
use Rattle.tpl_lang.specs.Ints.{begins_int, int_value, int_at}
use Rattle.tpl_lang.specs.Paths.{PathView}

-- a word that may not be empty
abbrev pub word_at : List ℕ → Read TplKind (List ℕ)
word_at = run_at Syntax is_word_byte

-- the words behind `{`, parted by commas, and `}`
unfoldable pub braces_at : List ℕ → Read TplKind (List (List ℕ))
braces_at t = do
  first ← word_at t
  others ← all_at (is_at 44) (λ u. word_at (drop 1 u)) first.1
  rest ← mark_at Syntax 125 others.1
  Ok (first.0 ∷ others.0, rest)

-- whether a number of a slice stands at the front: a byte of a word, or a minus before an int; another minus is an operator
abbrev pub has_bound : List ℕ → Bool
has_bound t = has_word t || (is_at 45 t && begins_int (drop 1 t))

-- a number of a slice, behind its colon
unfoldable pub bound_at : List ℕ → Read TplKind (Option ℤ)
bound_at t = if has_bound t then (do
  n ← int_at t
  Ok (Some (int_value n.0), n.1)) else Ok (None, t)

-- whether a step is 0
abbrev pub is_zero : Option ℤ → Bool
is_zero None = false
is_zero (Some (pos n)) = n == 0
is_zero (Some (negsuc n)) = false

-- a step, which may not be 0: the fault stands at its first byte, or at the end of the text where nothing stands behind it
unfoldable pub step_at : List ℕ → Read TplKind (Option ℤ)
step_at t = do
  step ← bound_at t
  if is_zero step.0 then (if length step.1 == 0 then Err (Syntax, 0) else Err (Step, length t)) else Ok step

-- the step behind a second colon, where one stands
abbrev pub last_at : List ℕ → Read TplKind (Option ℤ)
last_at t = if is_at 58 t then step_at (drop 1 t) else Ok (None, t)

-- a slice behind its first colon
unfoldable pub slice_behind : Option ℤ → List ℕ → Read TplKind Key
slice_behind from t = do
  to ← bound_at t
  step ← last_at to.1
  Ok (keys.Slice (record { from = from; to = to.0; step = step.0 }), step.1)

-- an int, or the slice that begins with it
unfoldable pub int_key_at : List ℕ → Read TplKind Key
int_key_at t = do
  n ← int_at t
  if is_at 58 n.1 then slice_behind (Some (int_value n.0)) (drop 1 n.1) else Ok (keys.Int n.0 (int_value n.0), n.1)

-- a key behind its dot
unfoldable pub key_at : List ℕ → Read TplKind Key
key_at t =
    if is_at 123 t then (do
      words ← braces_at (drop 1 t)
      Ok (keys.Braces words.0, words.1))
    else if is_at 58 t then slice_behind None (drop 1 t)
    else if is_at 45 t || begins_int t then int_key_at t
    else (do
      word ← word_at t
      Ok (keys.Word word.0, word.1))

-- the keys behind a word
unfoldable pub path_behind : List ℕ → List ℕ → Read TplKind PathView
path_behind word t = do
  keys ← all_at (is_at 46) (λ u. key_at (drop 1 u)) t
  Ok (record { word = word; keys = keys.0 }, keys.1)

-- a path, whose word may be empty
unfoldable pub path_at : List ℕ → Read TplKind PathView
path_at t = let n = prefix_len is_word_byte t in path_behind (take n t) (drop n t)
