-- What is made of fetched files, step by step: they are merged, copied into another container, or coded as audio.
use Rattle.std.specs.Prelude.{ℕ, ◌+◌, Bool, true, false, not, ◌&&◌, ◌||◌, ◌==◌, List, [], ◌∷◌, ◌++◌, find, flat_map, Option, Some, None, option_map, option_and_then, option_to_list, unwrap_or, if◌then◌else◌, codes, decimal, bytes_eq}
use Rattle.std.specs.Option.{option_map_or}
use Rattle.std.specs.List.{last_or}
use Rattle.text_base.specs.declared.fields.TextField.TheVariants.{Acodec}
use Rattle.info_item.specs.Item.{Format}
use Rattle.info_item.specs.Fields.{has_video_of, has_audio_of, text_of_field}
use Rattle.info_item.specs.View.{are_several}
use Rattle.fmt_sort.specs.Rows.{points_of}
use Rattle.fmt_sort.specs.declared.row.Row.TheVariants.{AudioCodecs}
use Rattle.tool_chain.specs.Jobs.{Job as Command}
use Rattle.job_names.specs.Text.{Text}
use Rattle.job_names.specs.Naming.{output_name}
use Rattle.job_steps.specs.declared.rule.ExtRule.{ExtRule}
use Rattle.job_steps.specs.declared.target.AudioTarget.{AudioTarget}
use Rattle.job_steps.specs.declared.target.AudioTarget.TheVariants.{Aac, Alac, Flac, M4a, Mp3, Opus, Vorbis, Wav}

-- a rule is for one extension, or for each
abbrev pub is_rule_for : Text → ExtRule → Bool
is_rule_for ext rule = option_map_or (bytes_eq ext) rule.from true

-- what the first rule for an extension makes of it
abbrev pub ruled : List ExtRule → Text → Option Text
ruled rules ext = option_map (λ rule. rule.to) (find (is_rule_for ext) rules)

-- the points of the audio codec of the first part with audio; those of an unknown codec are the last of the row
abbrev pub audio_points : List Format → ℕ
audio_points parts =
    unwrap_or (option_map (points_of AudioCodecs false) (option_and_then (λ f. text_of_field f Acodec) (find (λ f. has_audio_of f.tree) parts))) 1

-- audio with these points is of the place of this codec
abbrev pub is_of : Text → ℕ → Bool
is_of codec points = points == points_of AudioCodecs false codec

-- it is AAC, under either of its names
abbrev pub is_aac : ℕ → Bool
is_aac points = is_of (codes "aac") points || is_of (codes "mp4a") points

-- the target that a word names
abbrev pub target_named : Text → Option AudioTarget
target_named word =
    if bytes_eq word (codes "aac") then Some Aac else if bytes_eq word (codes "alac") then Some Alac
    else if bytes_eq word (codes "flac") then Some Flac else if bytes_eq word (codes "m4a") then Some M4a
    else if bytes_eq word (codes "mp3") then Some Mp3 else if bytes_eq word (codes "opus") then Some Opus
    else if bytes_eq word (codes "vorbis") then Some Vorbis else if bytes_eq word (codes "wav") then Some Wav else None

-- the target that keeps audio with these points as well as it can be
abbrev pub best_target : ℕ → AudioTarget
best_target points =
    if is_aac points then M4a else if is_of (codes "opus") points then Opus else if is_of (codes "vorbis") points then Vorbis else Mp3

-- the target of a rule, which may be `best`; a word that names none asks for none
abbrev pub target_of : ℕ → Text → Option AudioTarget
target_of points word = if bytes_eq word (codes "best") then Some (best_target points) else target_named word

-- the target that rules ask for; without a rule it is the best
abbrev pub target_by : List ExtRule → ℕ → Text → Option AudioTarget
target_by [] points ext = Some (best_target points)
target_by (rule ∷ rules) points ext = option_and_then (target_of points) (ruled (rule ∷ rules) ext)

-- the extension of a target
abbrev pub target_ext : AudioTarget → Text
target_ext Aac = codes "aac"
target_ext Alac = codes "m4a"
target_ext Flac = codes "flac"
target_ext M4a = codes "m4a"
target_ext Mp3 = codes "mp3"
target_ext Opus = codes "opus"
target_ext Vorbis = codes "ogg"
target_ext Wav = codes "wav"

-- the encoder of a target
abbrev pub encoder : AudioTarget → Text
encoder Aac = codes "aac"
encoder Alac = codes "alac"
encoder Flac = codes "flac"
encoder M4a = codes "aac"
encoder Mp3 = codes "libmp3lame"
encoder Opus = codes "libopus"
encoder Vorbis = codes "libvorbis"
encoder Wav = codes "pcm_s16le"

-- Audio with these points is taken as it is. FLAC and ALAC share a place, so audio of that place is coded for either.
abbrev pub takes : AudioTarget → ℕ → Bool
takes Aac points = is_aac points
takes Alac points = false
takes Flac points = false
takes M4a points = is_aac points
takes Mp3 points = is_of (codes "mp3") points
takes Opus points = is_of (codes "opus") points
takes Vorbis points = is_of (codes "vorbis") points
takes Wav points = false

-- how audio with these points is coded for a target: it is copied where the target takes it
abbrev pub coder : ℕ → AudioTarget → Text
coder points target = if takes target points then codes "copy" else encoder target

-- the target that rules ask for, and how the audio of parts is coded for it
abbrev pub coding : List ExtRule → List Format → Text → Option (AudioTarget × Text)
coding rules parts ext =
    let points = audio_points parts in option_map (λ target. (target, coder points target)) (target_by rules points ext)

-- the only part has no video and the extension of the target already
abbrev pub is_done : List Format → Text → AudioTarget → Bool
is_done [] ext target = false
is_done (part ∷ []) ext target = not (has_video_of part.tree) && bytes_eq ext (target_ext target)
is_done (part ∷ other ∷ parts) ext target = false

-- what a step does with its inputs
pub data Change : Type 0 where
  merge : Change
  copy : Change
  code_audio : Text → Change

-- a step: what it does, and the extension of its output
pub record Step : Type 0 where
  pub change : Change
  pub ext : Text

-- several parts are merged
abbrev pub merge_step : List Format → Text → Option Step
merge_step parts ext = if are_several parts then Some (record { change = merge; ext = ext }) else None

-- a file is copied into another container, where that differs
abbrev pub copy_step : Text → Option Text → Option Step
copy_step ext None = None
copy_step ext (Some target) = if bytes_eq target ext then None else Some (record { change = copy; ext = target })

-- audio is coded for a target, where it is not so already
abbrev pub audio_step : List Format → Text → Option (AudioTarget × Text) → Option Step
audio_step parts ext None = None
audio_step parts ext (Some c) =
    if is_done parts ext c.0 then None else Some (record { change = code_audio c.1; ext = target_ext c.0 })

-- what is made of the only file: audio, where it is extracted, and else another container
abbrev pub last_step : Option (List ExtRule) → List ExtRule → List Format → Text → Option Step
last_step None remux parts ext = copy_step ext (ruled remux ext)
last_step (Some rules) remux parts ext = audio_step parts ext (coding rules parts ext)

-- The steps of a combination, by its extension. The merged file has that extension as it stands in a name.
abbrev pub steps_of : Option (List ExtRule) → List ExtRule → List Format → Text → Text → List Step
steps_of audio remux parts ext clean_ext =
    option_to_list (merge_step parts clean_ext) ++ option_to_list (last_step audio remux parts ext)

-- a name as an argument: it begins with no hyphen
abbrev pub path_arg : Text → Text
path_arg name = codes "./" ++ name

-- an input among the arguments
abbrev pub input_args : Text → List Text
input_args name = codes "-i" ∷ path_arg name ∷ []

-- a stream of an input among the arguments
abbrev pub map_args : Bool → ℕ → Text → List Text
map_args there k kind = if there then codes "-map" ∷ (decimal k ++ kind) ∷ [] else []

-- the streams of parts, of which the first is input k
abbrev pub stream_args : ℕ → List Format → List Text
stream_args k [] = []
stream_args k (part ∷ parts) =
    (map_args (has_video_of part.tree) k (codes ":v:0") ++ map_args (has_audio_of part.tree) k (codes ":a:0")) ++ stream_args (k + 1) parts

-- what a step does, as arguments
abbrev pub change_args : List Format → Change → List Text
change_args parts merge = stream_args 0 parts ++ codes "-c" ∷ codes "copy" ∷ []
change_args parts copy = codes "-c" ∷ codes "copy" ∷ []
change_args parts (code_audio coder) = codes "-vn" ∷ codes "-c:a" ∷ coder ∷ []

-- the arguments of a step
abbrev pub step_args : List Format → List Text → Change → Text → List Text
step_args parts inputs change output = codes "-y" ∷ (flat_map input_args inputs ++ (change_args parts change ++ path_arg output ∷ []))

-- the child of a step
abbrev pub step_command : Text → List Format → List Text → Change → Text → Command
step_command tool parts inputs change output =
    record { program = tool; args = step_args parts inputs change output; inputs = inputs; output = Some output }

-- the children of steps, of which the first is counted so and reads these names, and each other reads the output before it
abbrev pub commands : Text → List Format → Text → ℕ → List Text → List Step → List Command
commands tool parts stem k inputs [] = []
commands tool parts stem k inputs (step ∷ steps) =
    step_command tool parts inputs step.change (output_name stem k step.ext)
    ∷ commands tool parts stem (k + 1) (output_name stem k step.ext ∷ []) steps

-- the extension of the last step's output
abbrev pub last_ext : List Step → Option Text
last_ext steps = option_map (λ step. step.ext) (last_or None steps)

-- the child of a command that is run for a finished file
abbrev pub exec_command : Text → Text → Command
exec_command final line =
    record { program = codes "sh"; args = codes "-c" ∷ line ∷ []; inputs = final ∷ []; output = None }
