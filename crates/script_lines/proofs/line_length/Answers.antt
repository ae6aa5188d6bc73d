-- `script_lines::line_length` meets its contract: the first line ends at the first LF. Assumes nothing.
use Rattle.script_lines.proofs.FirstLines.{first_place}
use Rattle.script_lines.proofs.line_length.Goals as goal

pub returns : goal.returns
returns c = cc (first_place c.args.bytes.now, c.first_lf.ensures, c.unwrap_or.ensures)
