-- Where the causes of a failed try come from.
use Rattle.std.specs.Prelude.{Bool, true, false}
use Rattle.http_reply.specs.declared.piece_fault.PieceFault.{PieceFault}
use Rattle.http_reply.specs.declared.piece_fault.PieceFault.TheVariants.{Dial, Send, Recv, Status, CutShort, BadHead, HeadLong, NoLength, BadRange, SizeChanged, Encoded, Url, Scheme, Folder, OutOfMemory, PieceLong}

-- from a call before the request is asked, a call of `recv`, the taker or the memory, the URL, or the reply
pub data Origin : Type 0 where
  of_asking of_hearing of_taking of_url of_reply : Origin

-- where each fault comes from: the one table of this file
abbrev pub origin : PieceFault → Origin
origin Dial = of_asking
origin Send = of_asking
origin Recv = of_hearing
origin (Folder call) = of_taking
origin OutOfMemory = of_taking
origin Url = of_url
origin Scheme = of_url
origin (Status code) = of_reply
origin (CutShort got told) = of_reply
origin (BadHead at) = of_reply
origin HeadLong = of_reply
origin NoLength = of_reply
origin (BadRange asked told) = of_reply
origin (SizeChanged before now) = of_reply
origin Encoded = of_reply
origin (PieceLong told) = of_reply

-- faults of a call or of memory
abbrev pub breaks : Origin → Bool
breaks of_asking = true
breaks of_hearing = true
breaks of_taking = true
breaks of_url = false
breaks of_reply = false

-- a call failed, or memory was refused
abbrev pub is_broken : PieceFault → Bool
is_broken fault = breaks (origin fault)

-- faults of a call of the dialer
abbrev pub dials : Origin → Bool
dials of_asking = true
dials of_hearing = true
dials of_taking = false
dials of_url = false
dials of_reply = false

-- a call of the dialer failed
abbrev pub is_call : PieceFault → Bool
is_call fault = dials (origin fault)

-- faults that a reply gives
abbrev pub replies : Origin → Bool
replies of_asking = false
replies of_hearing = false
replies of_taking = false
replies of_url = false
replies of_reply = true

-- what a reply gives
abbrev pub is_cause : PieceFault → Bool
is_cause fault = replies (origin fault)

-- faults that come once the request was asked
abbrev pub follows : Origin → Bool
follows of_asking = false
follows of_hearing = true
follows of_taking = true
follows of_url = false
follows of_reply = true

-- a request was asked before
abbrev pub is_after_request : PieceFault → Bool
is_after_request fault = follows (origin fault)

-- faults that come while the reply is received
abbrev pub hears : Origin → Bool
hears of_asking = false
hears of_hearing = true
hears of_taking = false
hears of_url = false
hears of_reply = true

-- it comes while a reply is received, before anything of it is put
abbrev pub is_heard : PieceFault → Bool
is_heard fault = hears (origin fault)
