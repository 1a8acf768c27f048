-- Sort words: the fields that they name, or their first fault.
use Rattle.std.specs.Prelude.{◌≡◌, ℕ, ◌+◌, List, [], ◌∷◌, ◌++◌, map, fold, length, codes, Bool, false, true, ◌&&◌, ◌||◌, ◌==◌, if◌then◌else◌, Option, Some, None, unwrap_or, Result, Ok, Err}
use Rattle.std.specs.Option.{option_map, ok_or}
use Rattle.std.specs.Result.{result_ok}
use Rattle.std.specs.List.{list_any, slice_split}
use Rattle.std.specs.Str.{bytes_eq}
use Rattle.text_base.specs.Size.{size_of}
use Rattle.fmt_sort.specs.Keys.{name_of, kind_of, key_named}
use Rattle.fmt_sort.specs.Pieces.{Parts, parts, is_comma, is_colon, before, behind}
use Rattle.fmt_sort.specs.Rows.{limit_points}
use Rattle.fmt_sort.specs.Spec.{at_points, GivenBound, number_given, points_given, Given, Wanted, wanted_when, Wish}
use Rattle.fmt_sort.specs.declared.kind.Kind.{Kind}
use Rattle.fmt_sort.specs.declared.kind.Kind.TheVariants.{Listed, FormatId}
use Rattle.fmt_sort.specs.declared.row.Row.TheVariants.{Ranges}
use Rattle.fmt_sort.specs.declared.sort_fault.SortFault.{SortFault}
use Rattle.fmt_sort.specs.declared.sort_fault.SortFault.TheVariants.{Field, Limit, OutOfMemory}
use Rattle.fmt_sort.specs.declared.sort_key.SortKey.{SortKey}
use Rattle.fmt_sort.specs.declared.sort_key.SortKey.TheVariants.{HasVideo, HasAudio, Preference, Language, Quality, Source, Protocol, VideoCodec, AudioCodec, VideoExt, AudioExt, DynamicRange, Size, Resolution, Fps, Asr, Channels, Bitrate, Id}
use Rattle.fmt_sort.specs.declared.target.Target.{Target}
use Rattle.fmt_sort.specs.declared.target.Target.TheVariants.{One, Two}

-- the fields that a name stands for: `codec` and `ext` stand for two
abbrev pub target_of : List ℕ → Option Target
target_of name =
    if bytes_eq name (codes "codec") then Some (Two VideoCodec AudioCodec)
    else if bytes_eq name (codes "ext") then Some (Two VideoExt AudioExt)
    else option_map (λ k. One k) (key_named name)

-- the limit that a text names: points in the field's row, a size, and none for the id
abbrev pub limit_of : Kind → List ℕ → Option GivenBound
limit_of FormatId text = None
limit_of (Listed row) text = Some (points_given (limit_points row false text) (limit_points row true text))
limit_of kind text = option_map (λ n. number_given n) (size_of 1024 text)

-- a field that a piece gives without a limit
abbrev pub without_limit : Bool → SortKey → Given
without_limit reversed key = record { key = key; reversed = reversed; nearest = false; limit = None }

-- a field that a piece gives with a limit
abbrev pub with_limit : Bool → Bool → SortKey → GivenBound → Given
with_limit reversed nearest key limit = record { key = key; reversed = reversed; nearest = nearest; limit = Some limit }

-- the field of a key: an empty limit is none
abbrev pub field_of : Bool → Bool → SortKey → List ℕ → Option Given
field_of reversed nearest key text =
    if length text == 0 then Some (without_limit reversed key) else option_map (with_limit reversed nearest key) (limit_of (kind_of key) text)

-- both fields, where both can be read
abbrev pub both : Option Given → Option Given → Option (List Given)
both None other = None
both (Some f) None = None
both (Some f) (Some g) = Some (f ∷ g ∷ [])

-- The fields of a piece. A single field takes no second colon; `codec` and `ext` take a limit for each of their fields, split by `:`;
-- `~` needs a limit.
abbrev pub fields_by : Parts → Target → Option (List Given)
fields_by p (One key) =
    if list_any is_colon p.limit || p.nearest && length p.limit == 0 then None
    else option_map (λ f. f ∷ []) (field_of p.reversed p.nearest key p.limit)
fields_by p (Two a b) =
    let first = before is_colon p.limit in
    let second = behind is_colon p.limit in
    if list_any is_colon second || p.nearest && length first == 0 && length second == 0 then None
    else both (field_of p.reversed p.nearest a first) (field_of p.reversed p.nearest b second)

-- the fields of piece k, or its fault: its field is unknown, or its limit is refused
abbrev pub fields_or_fault : ℕ → Parts → Option Target → Result (List Given) SortFault
fields_or_fault k p None = Err (Field k)
fields_or_fault k p (Some target) = ok_or (fields_by p target) (Limit k)

-- the fields that piece k gives as it is written, or its fault
abbrev pub piece_given : ℕ → List ℕ → Result (List Given) SortFault
piece_given k piece = fields_or_fault k (parts piece) (target_of (parts piece).name)

-- the first list before the others, or the first fault
abbrev pub before_others : Result (List Given) SortFault → Result (List Given) SortFault → Result (List Given) SortFault
before_others (Err e) others = Err e
before_others (Ok fs) (Err e) = Err e
before_others (Ok fs) (Ok gs) = Ok (fs ++ gs)

-- the first list behind the others, or the first fault
abbrev pub behind_others : Result (List Given) SortFault → Result (List Given) SortFault → Result (List Given) SortFault
behind_others (Err e) others = Err e
behind_others (Ok fs) (Err e) = Err e
behind_others (Ok fs) (Ok gs) = Ok (gs ++ fs)

-- the fields of all pieces, numbered from k on, or the first fault
abbrev pub pieces_given : ℕ → List (List ℕ) → Result (List Given) SortFault
pieces_given k [] = Ok []
pieces_given k (piece ∷ pieces) = before_others (piece_given k piece) (pieces_given (k + 1) pieces)

-- the pieces of a word
abbrev pub pieces_of : List ℕ → List (List ℕ)
pieces_of word = slice_split is_comma word

-- the fields that a word gives, which has none where it is at fault; the number of its first piece changes its faults alone
abbrev pub word_given : List ℕ → List Given
word_given word = unwrap_or (result_ok (pieces_given 0 (pieces_of word))) []

-- the fields of all words, a later word's before an earlier one's; pieces are numbered from k on, in the order in which they are given
abbrev pub words_given : ℕ → List (List ℕ) → Result (List Given) SortFault
words_given k [] = Ok []
words_given k (word ∷ words) =
    behind_others (pieces_given k (pieces_of word)) (words_given (k + length (pieces_of word)) words)

-- whether a field of this name stands among others
abbrev pub is_there : Wanted → List Wanted → Bool
is_there f fields = list_any (λ g. bytes_eq (name_of g.key) (name_of f.key)) fields

-- a field put among others: it goes last where none of its name stands yet
abbrev pub put : List Wanted → Wanted → List Wanted
put fields f = if is_there f fields then fields else fields ++ f ∷ []

-- a field without a limit
abbrev pub unlimited : SortKey → Wanted
unlimited key = record { key = key; reversed = false; nearest = false; limit = None }

-- a field among those that stand in each order: without a limit, but `hdr` has the limit 12
abbrev pub standing : SortKey → Wanted
standing DynamicRange = record (unlimited DynamicRange) { limit = Some (at_points (limit_points Ranges false (codes "12"))) }
standing key = unlimited key

-- the fields that stand first
abbrev pub first_fields : List Wanted
first_fields = map standing (HasVideo ∷ Preference ∷ [])

-- the fields that stand last
abbrev pub last_fields : List Wanted
last_fields = map standing (
    Language ∷ Quality ∷ Resolution ∷ Fps ∷ DynamicRange ∷ VideoCodec ∷ Channels ∷ AudioCodec ∷ Size ∷ Bitrate ∷ Asr ∷ Protocol
    ∷ VideoExt ∷ AudioExt ∷ HasAudio ∷ Source ∷ Id ∷ [])

-- all fields in their order: with force the given ones come before the first fields, else behind them; of repeated ones the first is kept
abbrev pub in_order : Bool → List Wanted → List Wanted
in_order force given =
    fold put [] (if force then given ++ (first_fields ++ last_fields) else first_fields ++ (given ++ last_fields))

-- the sort specification of given fields
abbrev pub wish_when : Bool → Bool → List Given → Wish
wish_when force free given = record { free = free; fields = in_order force (map (wanted_when free) given) }

-- the sort specification of given fields, or their fault
abbrev pub wish_by : Bool → Bool → Result (List Given) SortFault → Result Wish SortFault
wish_by force free (Err e) = Err e
wish_by force free (Ok given) = Ok (wish_when force free given)

-- the sort specification that words give, or their first fault
abbrev pub wish_for : Bool → Bool → List (List ℕ) → Result Wish SortFault
wish_for force free words = wish_by force free (words_given 0 words)

-- The fault is that of the outcome. Want of memory may come at any time.
abbrev pub IsFaultOf : {B : Type 0} → Result B SortFault → SortFault → Type 0
IsFaultOf outcome (Field k) = outcome ≡ Err (Field k)
IsFaultOf outcome (Limit k) = outcome ≡ Err (Limit k)
IsFaultOf outcome OutOfMemory = Unit {0}
