-- What a reader of a chunked body does with the bytes at hand.
use Rattle.std.specs.Prelude.{◌≡◌, ℕ, ◌<◌, ◌≤◌, ◌+◌, ◌*◌, ◌-◌, ◌^◌, List, ◌++◌, length, take, drop, ⊤}
use Rattle.http_reply.specs.declared.stop.Stop.TheVariants.{Cut}
use Rattle.http_reply.specs.declared.part.Part.{Part}
use Rattle.http_reply.specs.declared.part.Part.TheVariants.{Whole, Line, Data, Gap}
use Rattle.http_reply.specs.declared.chunks.Chunks.{Chunks}
use Rattle.http_reply.specs.declared.step.Step.{Step}
use Rattle.http_reply.specs.declared.step.Step.TheVariants.{Need, Pass, Take, End}
use Rattle.http_reply.specs.Content.{Content, stopped, behind, sized}
use Rattle.http_reply.specs.Chunked.{Rest, chunks, in_data, after_data, limit}

-- the content of what is still to come, in this part of a body
abbrev pub part_content : Part → Rest
part_content (Whole left) = λ at sum bytes. sized left bytes
part_content Line = chunks
part_content (Data left) = in_data chunks left
part_content Gap = after_data chunks

-- the content of what is still to come
abbrev pub content_of : Chunks → List ℕ → Content
content_of c bytes = part_content c.part c.at c.sum bytes

-- at most so many bytes of the reply come before the next line, and that line
abbrev pub part_room : Part → ℕ
part_room (Whole left) = left
part_room Line = 256
part_room (Data left) = left + 258
part_room Gap = 258

-- at most so many bytes of the reply are read from now on
abbrev pub room : Chunks → ℕ
room c = 259 * (limit - c.sum) + part_room c.part

-- how many bytes of the chunk are still to come
abbrev pub part_left : Part → ℕ
part_left (Whole left) = left
part_left Line = 0
part_left (Data left) = left
part_left Gap = 0

-- how many bytes of content were passed
abbrev pub passed : Chunks → ℕ
passed c = c.sum - part_left c.part

-- In the midst of a chunk something of it is still to come, and no more than the sizes told so far.
abbrev pub HasLeft : ℕ → Part → Type 0
HasLeft sum (Whole left) = left ≤ sum
HasLeft sum Line = ⊤
HasLeft sum (Data left) = (0 < left) × (left ≤ sum)
HasLeft sum Gap = ⊤

-- The sizes told so far are within the limit, the places fit their type, and the part has something left.
pub record IsSound (c : Chunks) : Type 0 where
  pub sum : c.sum ≤ limit
  pub room : c.at + room c < 2 ^ 63
  pub left : HasLeft c.sum c.part

-- so many bytes were passed
pub record Moves (old : Chunks) (window : List ℕ) (n : ℕ) (new : Chunks) : Type 0 where
  pub some : 0 < n
  pub within : n ≤ length window
  pub at : new.at ≡ old.at + n
  pub room : new.at + room new ≤ old.at + room old

-- what a step says of the bytes at hand, whatever comes later
abbrev pub Does : Chunks → List ℕ → Step → Chunks → Type 0
Does old window Need new =
    (new ≡ old) × (length window < 256) × (content_of old window ≡ stopped Cut)
Does old window (Pass n) new =
    Moves old window n new × (passed new ≡ passed old)
    × ((later : List ℕ) → content_of old (window ++ later) ≡ content_of new (drop n window ++ later))
Does old window (Take n) new =
    Moves old window n new × (passed new ≡ passed old + n)
    × ((later : List ℕ) → content_of old (window ++ later) ≡ behind (take n window) (content_of new (drop n window ++ later)))
Does old window (End stop) new =
    (new ≡ old) × ((later : List ℕ) → content_of old (window ++ later) ≡ stopped stop)
