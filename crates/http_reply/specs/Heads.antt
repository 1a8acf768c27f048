-- The heads of a reply, and the final one among them.
use Rattle.std.specs.Prelude.{◌≡◌, ℕ, ◌+◌, ◌<◌, ◌≤◌, Bool, ◌&&◌, ◌||◌, not, List, [], ◌++◌, length, take, drop, nat_lt, nat_le, nat_eq, if◌then◌else◌, codes, IsTrue}
use Rattle.std.specs.List.{prefix_len, starts_with}
use Rattle.httparse.specs.Grammar.{ResponseHead, ReadsResponse, HasNoResponse, NeverHasResponse, print_response, status_code}
use Rattle.httparse.specs.Pieces.{is_newline}
use Rattle.httparse.specs.declared.spans.HeaderSpan.{HeaderSpan}
use Rattle.httparse.specs.declared.spans.ResponseSpans.{ResponseSpans}
use Rattle.httparse.specs.Spans.{IsResponseAt, IsResponseWithin, ResponseExceeds}
use Rattle.std.specs.Prelude.{IsFalse}
use Rattle.http_reply.specs.declared.heads.HeadNext.{HeadNext}
use Rattle.http_reply.specs.declared.heads.HeadNext.TheVariants.{More, Crowded, Again, Final, Bad, Long, Short}

-- so much of a reply is read for its heads
abbrev pub heads_room : ℕ
heads_room = 65536

-- what stands at a place: a whole head and its length, or none
pub data Standing : Type 0 where
  whole : ResponseHead → ℕ → Standing
  none : Standing

-- So it stands at the front of the bytes: a whole head of this length, or none.
abbrev pub StandsAt : List ℕ → Standing → Type 0
StandsAt bytes (whole head len) = ReadsResponse bytes head (drop len bytes) × (len ≡ length (print_response head))
StandsAt bytes none = HasNoResponse bytes

-- the bytes of a reply from a place on, as far as they are read for its heads
abbrev pub heads_at : List ℕ → ℕ → List ℕ
heads_at reply at = drop at (take heads_room reply)

-- behind CR and LF at the front, the bytes begin with `HTTP/1.`, or it begins with them
unfoldable pub may_start : List ℕ → Bool
may_start bytes =
    let start = drop (prefix_len is_newline bytes) bytes in
    starts_with nat_eq start (codes "HTTP/1.") || starts_with nat_eq (codes "HTTP/1.") start

-- 1xx
abbrev pub is_informal : ResponseHead → Bool
is_informal head = nat_le 100 (status_code head) && nat_lt (status_code head) 200

-- where the heads end
pub data HeadsEnd : Type 0 where
  final : ResponseHead → ℕ → HeadsEnd
  bad : ℕ → HeadsEnd
  long short : HeadsEnd

-- what a head leads to: the place of the next, or the end of the heads
pub data HeadStep : Type 0 where
  again : ℕ → HeadStep
  ends : HeadsEnd → HeadStep

-- what follows from what stands at a place
abbrev pub after_head : List ℕ → ℕ → Standing → HeadStep
after_head reply at none =
    if not (may_start (heads_at reply at)) then ends (bad at)
    else (if nat_le heads_room (length reply) then ends long else ends short)
after_head reply at (whole head len) =
    if nat_lt 128 (length head.fields) then ends long
    else (if is_informal head then again (at + len) else ends (final head (at + len)))

-- the heads from a place on
pub data Heads (reply : List ℕ) : ℕ → HeadsEnd → Type 0 where
  stop : (at : ℕ) (end : HeadsEnd) (standing : Standing) → StandsAt (heads_at reply at) standing
      → after_head reply at standing ≡ ends end → Heads reply at end
  go : (at next : ℕ) (end : HeadsEnd) (standing : Standing) → StandsAt (heads_at reply at) standing
      → after_head reply at standing ≡ again next → Heads reply next end → Heads reply at end

-- One step through the heads, by what of the reply came, whatever comes later. Nothing does where the reply has ended.
pub record Steps (came : List ℕ) (at : ℕ) (ended : Bool) (step : HeadStep) : Type 0 where
  pub standing : Standing
  pub stands : (later : List ℕ) → (IsTrue ended → later ≡ []) → StandsAt (heads_at (came ++ later) at) standing
  pub after : (later : List ℕ) → (IsTrue ended → later ≡ []) → after_head (came ++ later) at standing ≡ step

-- So many fields have room in all that is read for the heads, since a field has three bytes at least.
abbrev pub fields_room : ℕ
fields_room = 32768

-- What a step shows of the heads, whatever comes later. More bytes are waited for only where no whole head is at hand,
-- and where no bytes can follow that make one, that is told only then. A head is called crowded only where it has more
-- fields than there is room for, and this is not the whole room.
abbrev pub HeadShows : List ℕ → ℕ → Bool → List HeaderSpan → HeadNext → Type 0
HeadShows came at ended headers (More never) =
    IsFalse ended × (length came < heads_room) × HasNoResponse (drop at came) × (IsTrue never → NeverHasResponse (drop at came))
HeadShows came at ended headers Crowded = (length headers < fields_room) × ResponseExceeds (length headers) (drop at came)
HeadShows came at ended headers (Again next) = (at < next) × (next ≤ length came) × Steps came at ended (again next)
HeadShows came at ended headers (Final spans next) =
    (head : ResponseHead) × Steps came at ended (ends (final head next)) × IsResponseAt (drop at came) headers spans head
    × IsResponseWithin (drop at came) headers spans × (next ≡ at + spans.len)
HeadShows came at ended headers (Bad place) = (place ≡ at) × Steps came at ended (ends (bad at))
HeadShows came at ended headers Long = Steps came at ended (ends long)
HeadShows came at ended headers Short = Steps came at ended (ends short)

-- what is said of a whole head
abbrev pub head_next : ℕ → ResponseSpans → HeadNext
head_next at spans =
    if nat_lt 128 spans.headers then Long
    else (if nat_le 100 spans.code && nat_lt spans.code 200 then Again (at + spans.len) else Final spans (at + spans.len))

-- what is said where none stands: this, where more bytes may come
abbrev pub none_next : List ℕ → ℕ → Bool → HeadNext → HeadNext
none_next came at ended waits =
    if not ended && nat_lt (length came) heads_room then waits
    else (if not (may_start (drop at came)) then Bad at
    else (if nat_lt (length came) heads_room then Short else Long))
