use Rattle.std.proofs.Common.{◌-◌, length}
use Rattle.http_reply.specs.Heads.{fields_room}
use Rattle.link_http.proofs.room.widen.Given as goal

abbrev pub invariant-fields : goal.invariant-fields
invariant-fields l = Unit {0}

abbrev pub decreases-fields : goal.decreases-fields
decreases-fields l = fields_room - length l.headers.items
