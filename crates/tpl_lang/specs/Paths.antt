-- What contracts see of a path.
use Rattle.std.specs.Prelude.{ℕ, List}
use Rattle.tpl_lang.specs.declared.key.Key.{Key}

-- a word, which may be empty, and the keys behind it
pub record PathView : Type 0 where
  pub word : List ℕ
  pub keys : List Key
