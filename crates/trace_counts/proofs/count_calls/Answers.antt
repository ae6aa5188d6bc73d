-- `trace_counts::count_calls` meets its contract: a right file is refused only where it counts too many. Assumes nothing.
use Rattle.std.specs.Prelude.{◌<◌, ◌≡◌, Result, Ok, Err, OkIff, MatchResult, IsErrAnd}
use borrow.Author.Rules.{rules}
use Rattle.std.proofs.lemmas.Result.{err_from_is_err_and}
use Rattle.laws.proofs.Common.{ℕ, min, ap, ◌∙◌, arith, so_lt, not_so_lt, when◌then◌else◌, ltb}
use Rattle.trace_rules.specs.declared.Fault.{Fault}
use Rattle.trace_rules.specs.declared.Fault.TheVariants.{TooManyCalls}
use Rattle.trace_counts.proofs.Counts.{capped_is, by_count}
use Rattle.trace_counts.proofs.count_calls.Goals as goal

-- A number that fits is told, and one that does not is why.
told : {E : Type 0} (n total : ℕ) (fits : Result ℕ E) (answer : Result ℕ Fault) (Says : E → Fault → Type 0) →
    total ≡ min n 65536 → OkIff fits (total < 65536) total →
    ((e : E) (fault : Fault) → Says e fault → fault ≡ TooManyCalls) →
    MatchResult fits (λ x. answer ≡ Ok x) (λ e. IsErrAnd answer (Says e)) →
    answer ≡ (when ltb 65535 n then Err TooManyCalls else Ok n)
told n total (Ok x) answer Says capped fit says is =
    not_so_lt 65535 n _ _ (omega (arith, capped, fit.0)) (is ∙ ap Ok (omega (arith, capped, fit)))
told n total (Err e) answer Says capped fit says is =
    let p = err_from_is_err_and answer is in
    so_lt 65535 n _ _ (omega (arith, capped, fit)) (p.1 ∙ ap Err (says e p.0 p.2))

pub returns : goal.returns
returns c =
    by_count _ c.args.file.is_right
    (told _ _ c.try_from.result _ _ (c.count_sections.ensures ∙ capped_is _) c.try_from.ensures (λ e fault says. search (rules, says))
    c.map_err.ensures.cases)
