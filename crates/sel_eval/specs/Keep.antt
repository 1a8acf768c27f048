-- What is kept of formats that are merged.
use Rattle.std.specs.Prelude.{List, [], ◌∷◌, ◌++◌, fold, Bool, not, ◌&&◌, ◌||◌, if◌then◌else◌}
use Rattle.sel_eval.specs.Placed.{Placed, has_video, has_audio, has_stream, any_video, any_audio}
use Rattle.sel_eval.specs.declared.streams.Streams.{Streams}

-- A part is dropped that has no stream, or that has a stream which a kept part has and of which a merge takes one only.
abbrev pub is_dropped : Streams → List Placed → Placed → Bool
is_dropped streams kept p =
    not (has_stream p) || (has_video p && not streams.video && any_video kept) || (has_audio p && not streams.audio && any_audio kept)

-- the kept parts and one more, unless it is dropped
abbrev pub kept_with : Streams → List Placed → Placed → List Placed
kept_with streams kept p = if is_dropped streams kept p then kept else kept ++ p ∷ []

-- what is kept of parts that are merged from the left
abbrev pub keep : Streams → List Placed → List Placed
keep streams parts = fold (kept_with streams) [] parts
