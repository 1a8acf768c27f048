-- What a name picks of a list of formats, which stand from best to worst.
use Rattle.std.specs.Prelude.{ℕ, zero, suc, List, [], ◌∷◌, codes, map, filter, find, reverse, slice_get, Bool, true, false, not, ◌&&◌, ◌||◌, if◌then◌else◌, Option, Some, None}
use Rattle.std.specs.Str.{bytes_eq}
use Rattle.info_item.specs.Fields.{ext_of}
use Rattle.sel_lang.specs.declared.pick.Pick.{Pick}
use Rattle.sel_lang.specs.declared.pick.Pick.TheVariants.{All, MergeAll, Ranked, Ext, Id}
use Rattle.sel_lang.specs.declared.pick.Media.{Media}
use Rattle.sel_lang.specs.declared.pick.Media.TheVariants.{Any, Video, Audio}
use Rattle.sel_eval.specs.Placed.{Placed, has_video, has_audio, has_stream}
use Rattle.sel_eval.specs.Keep.{keep}
use Rattle.sel_eval.specs.Ext.{is_among}
use Rattle.sel_eval.specs.declared.streams.Streams.{Streams}

-- The candidates of `best` and its kin. `star` is the `*`; `both` says that of the item's formats some have video and some audio:
-- where not, `b` and `w` are content with one stream.
abbrev pub is_candidate : Bool → Media → Bool → Placed → Bool
is_candidate both Any true p = has_stream p
is_candidate both Any false p = if both then has_video p && has_audio p else has_stream p
is_candidate both Video true p = has_video p
is_candidate both Video false p = has_video p && not (has_audio p)
is_candidate both Audio true p = has_audio p
is_candidate both Audio false p = has_audio p && not (has_video p)

-- the n-th of a list, counted from 1
abbrev pub nth : ℕ → List Placed → Option Placed
nth zero ps = None
nth (suc n) ps = slice_get ps n

-- a format that an extension names: with both streams, or for an extension of audio with audio
abbrev pub has_ext : List ℕ → Placed → Bool
has_ext ext p =
    bytes_eq ext (ext_of p.format.tree) && has_audio p
    && (has_video p || not (is_among ext (codes "3gp" ∷ codes "flv" ∷ codes "mp4" ∷ codes "webm" ∷ [])))

-- the choice of one format alone
abbrev pub alone : Placed → List Placed
alone p = p ∷ []

-- the only choice, where there is one
abbrev pub at_most_one : Option Placed → List (List Placed)
at_most_one None = []
at_most_one (Some p) = alone p ∷ []

-- a choice of no format is none
abbrev pub is_choice : List Placed → Bool
is_choice [] = false
is_choice (p ∷ ps) = true

-- the n-th candidate, from the best on or from the worst on
abbrev pub ranked : Bool → Media → Bool → Bool → ℕ → List Placed → Option Placed
ranked both media star worst n ps = nth n (filter (is_candidate both media star) (if worst then reverse ps else ps))

-- the choices that a name gives
abbrev pub picks : Streams → Bool → Pick → List Placed → List (List Placed)
picks streams both All ps = map alone (filter has_stream ps)
picks streams both MergeAll ps = filter is_choice (keep streams ps ∷ [])
picks streams both (Ranked worst media star n) ps = at_most_one (ranked both media star worst n ps)
picks streams both (Ext ext) ps = at_most_one (find (has_ext ext) ps)
picks streams both (Id id) ps = at_most_one (find (λ p. bytes_eq id p.format.id) ps)
