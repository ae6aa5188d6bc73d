-- BUF is register 3.
use Rattle.laws.proofs.Common.{sym}
use Rattle.thurafeqa.proofs.thurafeqa_read.Goals as goal

pub returns-then-register-eq3 : goal.returns-then-register-eq3
returns-then-register-eq3 c = rw (sym c.if-register-eq3.true) at c.read_buf.ensures
