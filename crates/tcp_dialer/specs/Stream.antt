-- What a dialer over sockets tells. S is the type of its network's streams, and L that of its listeners.
use Rattle.std.specs.Prelude.{ℕ, List, Option, option_and_then, is_some}
use Rattle.link_http.specs.Wire.{Wire}
use Rattle.tcp_dialer.specs.Silent.{silent}
use Rattle.tcp_dialer.specs.declared.dialer.TcpDialer.{TcpDialer}

-- its count, and whether a connection stands
abbrev pub wire_of : {N S L : Type 0} → TcpDialer N S L → Wire
wire_of dialer = silent dialer.faults (is_some dialer.stream)

-- the bytes that the stream of its connection tells; without a connection none are told
abbrev pub told_by : {N S L : Type 0} → (S → Option (List ℕ)) → TcpDialer N S L → Option (List ℕ)
told_by bytes dialer = option_and_then bytes dialer.stream
