-- What the heads of a reply give to one who reads them.
use Rattle.std.specs.Prelude.{◌≡◌, ◌⊎◌, IsTrue, IsFalse, ℕ, ◌+◌, List, ◌++◌, drop, Option, Result, Ok, Err}
use Rattle.httparse.specs.Grammar.{ResponseHead}
use Rattle.httparse.specs.Spans.{IsResponseAt}
use Rattle.httparse.specs.declared.spans.HeaderSpan.{HeaderSpan}
use Rattle.http_reply.specs.declared.piece_fault.PieceFault.{PieceFault}
use Rattle.http_reply.specs.declared.piece_fault.PieceFault.TheVariants.{OutOfMemory}
use Rattle.http_reply.specs.Faults.{is_broken, is_heard}
use Rattle.http_reply.specs.Heads.{HeadsEnd, Heads, final}
use Rattle.http_reply.specs.Verdict.{heads_verdict, refused}
use Rattle.link_http.specs.declared.final_head.FinalHead.{FinalHead}

-- The final head, where the bytes that came and the rest are the reply; or the refusal, if no call failed and memory was there.
abbrev pub GivesHeads : List ℕ → ℕ → List ℕ → List HeaderSpan → Result FinalHead PieceFault → List ℕ → Type 0
GivesHeads reply from came headers (Ok found) rest =
    (head : ResponseHead) × Heads reply 0 (final head (found.start + found.spans.len))
    × IsResponseAt (drop found.start came) headers found.spans head × (came ++ rest ≡ reply)
GivesHeads reply from came headers (Err fault) rest =
    IsFalse (is_broken fault) → (ending : HeadsEnd) × Heads reply 0 ending
    × ((known : Option ℕ) → heads_verdict from known reply ending ≡ refused fault)

-- what comes before anything of a reply is put: a fault of the heads, or want of memory
abbrev pub IsHeadsFault : PieceFault → Type 0
IsHeadsFault fault = IsTrue (is_heard fault) ⊎ (fault ≡ OutOfMemory)
