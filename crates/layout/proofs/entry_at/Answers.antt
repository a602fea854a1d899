-- `entry_at` looks a record up and parses it. Assumes nothing.
use Rattle.layout.proofs.Parsing.{entry-malformed, entry_parsed}
use Rattle.layout.proofs.entry_at.Goals as goal

pub returns-in_default : goal.returns-in_default
returns-in_default c = entry-malformed _ _ _ _ c.record.ensures c.in_default.is _

pub returns : goal.returns
returns c = entry_parsed _ _ _ _ c.record.ensures c.in-Some.is c.parsed_in.ensures
