-- `trace_player::play` meets its contract: a file that is refused leaves memory alone; one that is made is right, and its calls are made
use Rattle.std.proofs.lemmas.Result.{err_from_is_err_and}
use Rattle.laws.proofs.Common.{ℕ, List, sym, ap, ap₂, ◌∙◌, arith}
use Rattle.module_types.specs.declared.Module.{Module}
use Rattle.module_rules.specs.Calls.{after_calls}
use Rattle.trace_rules.specs.Trace.{file_calls, played_of}
use Rattle.trace_counts.proofs.Counts.{refused_first}
use Rattle.trace_player.proofs.Playing.{nothing_made, plays_refused, plays_made}
use Rattle.trace_player.proofs.play.Goals as goal

pub returns-in_err-file : goal.returns-in_err-file
returns-in_err-file c =
    let p = err_from_is_err_and c.from_residual.result c.from_residual.ensures.1 in
    rw (p.1, p.2) (plays_refused c.args.f.now _ _ (refused_first c.args.f.now _ c.in_err-file.ensures))

pub returns-in_err-count : goal.returns-in_err-count
returns-in_err-count c =
    let p = err_from_is_err_and c.from_residual-in_err-count.result c.from_residual-in_err-count.ensures.1 in
    rw (p.1, p.2) (plays_refused c.args.f.now _ _ (c.in_err-count.ensures ∙ ap played_of c.in_ok-file.ensures))

pub returns-then-count-gt0 : goal.returns-then-count-gt0
returns-then-count-gt0 c =
    plays_made c.args.f.now _ c.args.w.now _ (c.in_ok-count.ensures ∙ ap played_of c.in_ok-file.ensures)
    (c.play_file.ensures
    ∙ ap₂ (λ (m : Module) (x : List ℕ). after_calls m (file_calls x)) c.power_up.ensures c.in_ok-file.ensures)

pub returns-else-count-gt0 : goal.returns-else-count-gt0
returns-else-count-gt0 c =
    let made = c.in_ok-count.ensures ∙ ap played_of c.in_ok-file.ensures in
    plays_made c.args.f.now _ c.args.w.now _ made
    (c.power_up.ensures ∙ sym (ap (after_calls _) (nothing_made c.args.f.now _ (sym made) (omega arith))))
