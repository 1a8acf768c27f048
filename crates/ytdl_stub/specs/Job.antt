-- What words ask for.
use Rattle.std.specs.Prelude.{ℕ, Bool, ◌||◌, List, [], ◌∷◌, map, Option, Some, None, option_map, bytes_eq, codes, if◌then◌else◌}
use Rattle.file_server.specs.Number.{number}
use Rattle.ytdl_stub.specs.declared.joining.Joining.{Joining}
use Rattle.ytdl_stub.specs.declared.job.Job.{Job}
use Rattle.ytdl_stub.specs.declared.job.Job.TheVariants.{Serve, Join}

-- the files that are joined, in order, and the one that they are written to
pub record Joined : Type 0 where
  pub inputs : List (List ℕ)
  pub output : List ℕ

-- to serve a folder over so many connections, or to join files
pub data Work : Type 0 where
  serving : List ℕ → ℕ → Work
  joining : Joined → Work

-- the next word names an input
abbrev pub is_input : List ℕ → Bool
is_input word = bytes_eq word (codes "-i")

-- the words behind this one are a tool's
abbrev pub is_tool : List ℕ → Bool
is_tool word = bytes_eq word (codes "tool") || bytes_eq word (codes "-y")

-- one input more, before the others
abbrev pub with_input : List ℕ → Joined → Joined
with_input name files = record { inputs = name ∷ files.inputs; output = files.output }

-- these inputs, and a last word that names none
abbrev pub joined_to : List (List ℕ) → List ℕ → Option Joined
joined_to inputs word = if is_input word then None else Some (record { inputs = inputs; output = word })

-- the names behind each `-i`, and the last word, which is none of them
abbrev pub joined : List (List ℕ) → Option Joined
joined [] = None
joined (word ∷ []) = joined_to [] word
joined (word ∷ name ∷ words) =
    if is_input word then option_map (with_input name) (joined words) else joined (name ∷ words)

-- a folder and a number of connections
abbrev pub served : List (List ℕ) → Option Work
served [] = None
served (folder ∷ []) = None
served (folder ∷ turns ∷ []) = option_map (serving folder) (number turns)
served (folder ∷ turns ∷ word ∷ words) = None

-- what words ask for, where they ask for anything
abbrev pub work : List (List ℕ) → Option Work
work [] = None
work (word ∷ words) =
    if bytes_eq word (codes "serve") then served words
    else (if is_tool word then option_map joining (joined words) else None)

-- the parts of what was read
abbrev pub joined_of : Joining → Joined
joined_of files = record { inputs = map (λ name. name.now) files.inputs.items; output = files.output.now }

abbrev pub work_of : Job → Work
work_of (Serve folder turns) = serving folder.now turns
work_of (Join files) = joining (joined_of files)
