-- The options of the command line: the names of each, and what it is for.
use Rattle.std.specs.Prelude.{ℕ, List, [], ◌∷◌, Bool, true, false, Option, find, codes}
use Rattle.std.specs.List.{list_any}
use Rattle.std.specs.Option.{option_map}
use Rattle.std.specs.Str.{bytes_eq}
use Rattle.word_list.specs.declared.choosing.ChoosingFlag.TheVariants as choosing_flag
use Rattle.word_list.specs.declared.choosing.ChoosingValue.TheVariants as choosing
use Rattle.word_list.specs.declared.fetching.FetchingFlag.TheVariants as fetching_flag
use Rattle.word_list.specs.declared.fetching.FetchingValue.TheVariants as fetching
use Rattle.word_list.specs.declared.meaning.Flag.TheVariants as flag
use Rattle.word_list.specs.declared.meaning.Meaning.{Meaning}
use Rattle.word_list.specs.declared.meaning.Meaning.TheVariants.{Flag, Value}
use Rattle.word_list.specs.declared.meaning.Valued.TheVariants as valued
use Rattle.word_list.specs.declared.naming.NamingFlag.TheVariants as naming_flag
use Rattle.word_list.specs.declared.naming.NamingValue.TheVariants as naming
use Rattle.word_list.specs.declared.showing.ShowingFlag.TheVariants as showing_flag
use Rattle.word_list.specs.declared.showing.ShowingValue.TheVariants as showing
use Rattle.word_list.specs.declared.source.SourceValue.TheVariants as source
use Rattle.word_list.specs.declared.tools.ToolsFlag.TheVariants as tools_flag
use Rattle.word_list.specs.declared.tools.ToolsValue.TheVariants as tools

-- an option: its names, long ones and those of one letter, and what it is for
pub record Row : Type 0 where
  pub names : List (List ℕ)
  pub meaning : Meaning

-- a row by its parts
abbrev pub row : List (List ℕ) → Meaning → Row
row names meaning = record { names = names; meaning = meaning }

-- every option
unfoldable pub table : List Row
table =
    row (codes "--load-info-json" ∷ []) (Value (valued.Source source.Info)) ∷
    row (codes "--selftest" ∷ []) (Value (valued.Source source.Selftest)) ∷
    row (codes "-f" ∷ codes "--format" ∷ []) (Value (valued.Choosing choosing.Format)) ∷
    row (codes "-S" ∷ codes "--format-sort" ∷ []) (Value (valued.Choosing choosing.Sort)) ∷
    row (codes "--format-sort-force" ∷ codes "--S-force" ∷ []) (Flag (flag.Choosing (choosing_flag.Force true))) ∷
    row (codes "--no-format-sort-force" ∷ []) (Flag (flag.Choosing (choosing_flag.Force false))) ∷
    row (codes "--prefer-free-formats" ∷ []) (Flag (flag.Choosing (choosing_flag.Free true))) ∷
    row (codes "--no-prefer-free-formats" ∷ []) (Flag (flag.Choosing (choosing_flag.Free false))) ∷
    row (codes "--video-multistreams" ∷ []) (Flag (flag.Choosing (choosing_flag.VideoStreams true))) ∷
    row (codes "--no-video-multistreams" ∷ []) (Flag (flag.Choosing (choosing_flag.VideoStreams false))) ∷
    row (codes "--audio-multistreams" ∷ []) (Flag (flag.Choosing (choosing_flag.AudioStreams true))) ∷
    row (codes "--no-audio-multistreams" ∷ []) (Flag (flag.Choosing (choosing_flag.AudioStreams false))) ∷
    row (codes "--merge-output-format" ∷ []) (Value (valued.Choosing choosing.Containers)) ∷
    row (codes "-o" ∷ codes "--output" ∷ []) (Value (valued.Naming naming.Output)) ∷
    row (codes "--output-na-placeholder" ∷ []) (Value (valued.Naming naming.Placeholder)) ∷
    row (codes "--autonumber-start" ∷ []) (Value (valued.Naming naming.FirstNumber)) ∷
    row (codes "--restrict-filenames" ∷ []) (Flag (flag.Naming (naming_flag.Restricted true))) ∷
    row (codes "--no-restrict-filenames" ∷ []) (Flag (flag.Naming (naming_flag.Restricted false))) ∷
    row (codes "--trim-filenames" ∷ []) (Value (valued.Naming naming.Trim)) ∷
    row (codes "--print" ∷ []) (Value (valued.Showing showing.Print)) ∷
    row (codes "-s" ∷ codes "--simulate" ∷ []) (Flag (flag.Showing (showing_flag.Simulate true))) ∷
    row (codes "--no-simulate" ∷ []) (Flag (flag.Showing (showing_flag.Simulate false))) ∷
    row (codes "-q" ∷ codes "--quiet" ∷ []) (Flag (flag.Showing (showing_flag.Quiet true))) ∷
    row (codes "--no-quiet" ∷ []) (Flag (flag.Showing (showing_flag.Quiet false))) ∷
    row (codes "-N" ∷ codes "--concurrent-fragments" ∷ []) (Value (valued.Fetching fetching.Workers)) ∷
    row (codes "-R" ∷ codes "--retries" ∷ []) (Value (valued.Fetching fetching.Retries)) ∷
    row (codes "--fragment-retries" ∷ []) (Value (valued.Fetching fetching.FragmentRetries)) ∷
    row (codes "-c" ∷ codes "--continue" ∷ []) (Flag (flag.Fetching (fetching_flag.Resume true))) ∷
    row (codes "--no-continue" ∷ []) (Flag (flag.Fetching (fetching_flag.Resume false))) ∷
    row (codes "-k" ∷ codes "--keep-video" ∷ []) (Flag (flag.Tools (tools_flag.Keep true))) ∷
    row (codes "--no-keep-video" ∷ []) (Flag (flag.Tools (tools_flag.Keep false))) ∷
    row (codes "--remux-video" ∷ []) (Value (valued.Tools tools.Remux)) ∷
    row (codes "-x" ∷ codes "--extract-audio" ∷ []) (Flag (flag.Tools tools_flag.ExtractAudio)) ∷
    row (codes "--audio-format" ∷ []) (Value (valued.Tools tools.AudioFormat)) ∷
    row (codes "--exec" ∷ []) (Value (valued.Tools tools.Exec)) ∷
    row (codes "--no-exec" ∷ []) (Flag (flag.Tools tools_flag.NoExec)) ∷
    row (codes "--ffmpeg-location" ∷ []) (Value (valued.Tools tools.Program)) ∷
    row (codes "--download-archive" ∷ []) (Value (valued.Fetching fetching.Archive)) ∷
    row (codes "--no-download-archive" ∷ []) (Flag (flag.Fetching fetching_flag.NoArchive)) ∷
    row (codes "--break-on-existing" ∷ []) (Flag (flag.Fetching (fetching_flag.BreakOnExisting true))) ∷
    row (codes "--no-break-on-existing" ∷ []) (Flag (flag.Fetching (fetching_flag.BreakOnExisting false))) ∷
    row (codes "--abort-on-error" ∷ []) (Flag (flag.Fetching (fetching_flag.AbortOnError true))) ∷
    row (codes "--no-abort-on-error" ∷ []) (Flag (flag.Fetching (fetching_flag.AbortOnError false))) ∷
    row (codes "--abort-on-unavailable-fragments" ∷ codes "--no-skip-unavailable-fragments" ∷ []) (Flag (flag.Fetching fetching_flag.AllFragments)) ∷ []

-- whether a row has this name
abbrev pub is_named : List ℕ → Row → Bool
is_named name row = list_any (λ known. bytes_eq known name) row.names

-- what the option with this name is for, by these rows
abbrev pub meaning_in : List Row → List ℕ → Option Meaning
meaning_in rows name = option_map (λ row. row.meaning) (find (is_named name) rows)

-- what the option with this name is for
unfoldable pub meaning_of : List ℕ → Option Meaning
meaning_of name = meaning_in table name
