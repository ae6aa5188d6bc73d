-- `trace_counts::playable` meets its contract: what is found wrong first is why the file is not played. Assumes nothing.
use Rattle.std.proofs.lemmas.Result.{err_from_is_err_and}
use Rattle.trace_counts.proofs.Counts.{refused_first}
use Rattle.trace_counts.proofs.playable.Goals as goal

pub returns-in_err-file-clause-answer : goal.returns-in_err-file-clause-answer
returns-in_err-file-clause-answer c =
    let p = err_from_is_err_and c.from_residual.result c.from_residual.ensures.1 in
    rw (p.1, p.2) (refused_first c.args.f.now _ c.in_err-file.ensures)
