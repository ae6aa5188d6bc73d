-- What is said of the call that the line asks for, if any.
use Rattle.trace_writer.proofs.Kept.{kept_line}
use Rattle.trace_writer.proofs.line_record.Goals as goal

pub returns : goal.returns
returns c = kept_line _ _ c.and_then.ensures
