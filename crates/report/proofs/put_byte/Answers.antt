-- `put_byte` writes one byte. Assumes nothing.
use Rattle.report.proofs.Written.{written_one}
use Rattle.report.proofs.put_byte.Goals as goal

pub returns : goal.returns
returns c = written_one _ _ _ c.requires
