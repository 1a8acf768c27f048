use Rattle.std.proofs.Common.{append_assoc}
use Rattle.ytdl_core.proofs.fault_line.item_line.Goals as goal

pub returns-in-NotItem : goal.returns-in-NotItem
returns-in-NotItem c = rw (c.item_number.ensures, c.in-NotItem.is) (simp append_assoc)

pub returns-in-NoId : goal.returns-in-NoId
returns-in-NoId c = rw (c.item_number-in-NoId.ensures, c.in-NoId.is) (simp append_assoc)

pub returns-in-NoFormats : goal.returns-in-NoFormats
returns-in-NoFormats c = rw (c.item_number-in-NoFormats.ensures, c.in-NoFormats.is) (simp append_assoc)
