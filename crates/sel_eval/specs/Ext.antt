-- The extension of a choice.
use Rattle.std.specs.Prelude.{ℕ, List, [], ◌∷◌, codes, length, ◌-◌, slice_get, find, Bool, true, ◌&&◌, if◌then◌else◌, unwrap_or}
use Rattle.std.specs.List.{list_any, list_all}
use Rattle.std.specs.Str.{bytes_eq}
use Rattle.info_item.specs.Fields.{ext_of}
use Rattle.sel_eval.specs.Placed.{Placed}
use Rattle.sel_eval.specs.declared.streams.Streams.{Streams}

-- it is one of these texts
abbrev pub is_among : List ℕ → List (List ℕ) → Bool
is_among text texts = list_any (bytes_eq text) texts

-- Whether a container takes an extension: `mkv` all, `mp4` and `mov` those of MPEG-4, `webm` its own and `weba`, `avi` and `flv` their own.
abbrev pub takes : List ℕ → List ℕ → Bool
takes container ext =
    if is_among container (codes "mkv" ∷ []) then true
    else if is_among container (codes "mp4" ∷ codes "mov" ∷ []) then is_among ext (codes "mp4" ∷ codes "m4a" ∷ codes "m4v" ∷ codes "mov" ∷ [])
    else if is_among container (codes "webm" ∷ []) then is_among ext (codes "webm" ∷ codes "weba" ∷ [])
    else is_among container (codes "avi" ∷ codes "flv" ∷ []) && bytes_eq container ext

-- a container takes the extension of each part
abbrev pub takes_all : List Placed → List ℕ → Bool
takes_all parts container = list_all (λ p. takes container (ext_of p.format.tree)) parts

-- the first container that takes each part, else the last
abbrev pub fitting : List Placed → List (List ℕ) → List ℕ
fitting parts containers = unwrap_or (find (takes_all parts) containers) (unwrap_or (slice_get containers (length containers - 1)) [])

-- the containers that are tried for a merge: those that were asked for, else these
abbrev pub tried : List (List ℕ) → List (List ℕ)
tried [] = codes "mp4" ∷ codes "webm" ∷ codes "mkv" ∷ []
tried (c ∷ cs) = c ∷ cs

-- the extension of a choice: that of its only part, else the container that its parts are merged to
abbrev pub ext_of_choice : Streams → List Placed → List ℕ
ext_of_choice streams (p ∷ []) = ext_of p.format.tree
ext_of_choice streams [] = fitting [] (tried streams.merge_ext.items)
ext_of_choice streams (p ∷ q ∷ ps) = fitting (p ∷ q ∷ ps) (tried streams.merge_ext.items)
