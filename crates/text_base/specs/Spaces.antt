-- Spaces at the ends of a text. No other white space is meant: only the byte 32.
use Rattle.std.specs.Prelude.{ℕ, List, [], ◌∷◌, length, ◌&&◌, ◌==◌, if◌then◌else◌}

-- a text without the spaces at its front
abbrev pub without_first_spaces : List ℕ → List ℕ
without_first_spaces [] = []
without_first_spaces (b ∷ bs) = if b == 32 then without_first_spaces bs else b ∷ bs

-- a text without the spaces at its end
abbrev pub without_last_spaces : List ℕ → List ℕ
without_last_spaces [] = []
without_last_spaces (b ∷ bs) = if b == 32 && length (without_last_spaces bs) == 0 then [] else b ∷ without_last_spaces bs

-- a text without the spaces around it
abbrev pub trimmed : List ℕ → List ℕ
trimmed bs = without_last_spaces (without_first_spaces bs)
