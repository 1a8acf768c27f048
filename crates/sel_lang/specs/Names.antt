-- Which formats a name stands for, by the first that fits: `all`, `mergeall`, a special name, an extension, an id.
use Rattle.std.specs.Prelude.{ℕ, ◌-◌, ◌^◌, List, length, take, drop, Bool, true, false, ◌||◌, ◌&&◌, ◌==◌, not, nat_le, min, if◌then◌else◌, Option, Some, None, codes}
use Rattle.std.specs.List.{list_all}
use Rattle.std.specs.Option.{option_and_then, option_map}
use Rattle.std.specs.Str.{bytes_eq}
use Rattle.text_base.specs.Value.{digits_value}
use Rattle.read_base.specs.Reads.{is_at}
use Rattle.sel_lang.specs.declared.pick.Media.{Media}
use Rattle.sel_lang.specs.declared.pick.Media.TheVariants.{Any, Video, Audio}
use Rattle.sel_lang.specs.declared.pick.Pick.{Pick}
use Rattle.sel_lang.specs.declared.pick.Pick.TheVariants as picks

-- whether a word begins so
abbrev pub starts : List ℕ → List ℕ → Bool
starts front word = bytes_eq (take (length front) word) front

-- `best` and `b` are from the best on, `worst` and `w` from the worst on
abbrev pub rank_at : List ℕ → Option (Bool × List ℕ)
rank_at word =
    if starts (codes "best") word then Some (false, drop 4 word)
    else if starts (codes "worst") word then Some (true, drop 5 word)
    else if starts (codes "b") word then Some (false, drop 1 word)
    else if starts (codes "w") word then Some (true, drop 1 word)
    else None

-- the streams that are asked for, if any
abbrev pub media_at : List ℕ → Media × List ℕ
media_at word =
    if starts (codes "video") word then (Video, drop 5 word)
    else if starts (codes "audio") word then (Audio, drop 5 word)
    else if starts (codes "v") word then (Video, drop 1 word)
    else if starts (codes "a") word then (Audio, drop 1 word)
    else (Any, word)

-- a decimal digit
abbrev pub is_digit : ℕ → Bool
is_digit b = nat_le 48 b && nat_le b 57

-- what digits count, or the most that 64 bits hold
abbrev pub capped_value : List ℕ → ℕ
capped_value digits = min (digits_value digits) (2 ^ 64 - 1)

-- a number without a leading zero
abbrev pub count_of : List ℕ → Option ℕ
count_of digits =
    if not (length digits == 0) && not (is_at 48 digits) && list_all is_digit digits
    then Some (capped_value digits)
    else None

-- `.n`, or nothing for the first
abbrev pub nth_of : List ℕ → Option ℕ
nth_of word = if length word == 0 then Some 1 else if is_at 46 word then count_of (drop 1 word) else None

-- a special name: its rank, its streams, `*`, and `.n`
abbrev pub ranked_of : List ℕ → Option Pick
ranked_of word =
    option_and_then (λ rank.
    let media = media_at rank.1 in
    let star = is_at 42 media.1 in
    option_map (λ n. picks.Ranked rank.0 media.0 star n) (nth_of (if star then drop 1 media.1 else media.1)))
    (rank_at word)

-- the extensions that have a name of their own
abbrev pub is_ext : List ℕ → Bool
is_ext word =
    bytes_eq word (codes "3gp") || bytes_eq word (codes "flv") || bytes_eq word (codes "mp4") || bytes_eq word (codes "webm")
    || bytes_eq word (codes "aac") || bytes_eq word (codes "m4a") || bytes_eq word (codes "mp3") || bytes_eq word (codes "ogg")
    || bytes_eq word (codes "wav")

-- the pick that a name stands for, where it is no special name
abbrev pub plain_pick : List ℕ → Pick
plain_pick word = if is_ext word then picks.Ext word else picks.Id word

-- the pick that a name stands for
unfoldable pub pick_of : List ℕ → Pick
pick_of word =
    if bytes_eq word (codes "all") then picks.All
    else if bytes_eq word (codes "mergeall") then picks.MergeAll
    else elim (ranked_of word) as (λ d. Pick) [ Some pick ↦ pick | None ↦ plain_pick word ]

-- `best`, which filters alone stand on
abbrev pub best : Pick
best = picks.Ranked false Any false 1
