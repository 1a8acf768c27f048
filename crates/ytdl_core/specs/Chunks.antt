-- Chunks of lines as the bytes that they are.
use Rattle.std.specs.Prelude.{List, [], ◌∷◌, ◌++◌}
use Rattle.std.specs.String.{string_bytes}
use Rattle.ytdl_core.specs.declared.lines.Chunk.{Chunk}
use Rattle.ytdl_core.specs.Lines.{Script, all_to}

-- the bytes of chunks, one after another, each with the sink of its chunk
abbrev pub script_of : List Chunk → Script
script_of [] = []
script_of (chunk ∷ rest) = all_to chunk.which (string_bytes chunk.bytes) ++ script_of rest
