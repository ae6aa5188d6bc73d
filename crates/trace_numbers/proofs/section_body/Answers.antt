-- `trace_numbers::section_body` meets its contract: a part of the file is what of it is inside. Assumes nothing.
use Rattle.std.specs.Prelude.{◌+◌, ◌-◌, ◌≡◌}
use Rattle.laws.proofs.Common.{ℕ, min, ap, ◌∙◌, arith, length, take, drop}
use Rattle.trace_rules.specs.Trace.{start_of, size_of, body_of}
use Rattle.trace_numbers.proofs.Numbers.{part_inside}
use Rattle.trace_numbers.proofs.section_body.Goals as goal

pub returns : goal.returns
unfolding body_of
returns c =
    let from : c.min-from.result ≡ min (start_of c.args.f.now c.args.k) (length c.args.f.now) =
    c.min-from.ensures ∙ ap (λ (n : ℕ). min n (length c.args.f.now)) c.start.ensures in
    let size : c.min-from.result + c.min.result - c.min-from.result ≡ min (size_of c.args.f.now c.args.k) (length c.args.f.now - c.min-from.result) =
    let same : c.min-from.result + c.min.result - c.min-from.result ≡ c.min.result = omega arith in
    same ∙ c.min.ensures ∙ ap (λ (n : ℕ). min n (length c.args.f.now - c.min-from.result)) c.size.ensures in
    ap (λ (n : ℕ). take n (drop c.min-from.result c.args.f.now)) size
    ∙ ap (λ (i : ℕ). take (min (size_of c.args.f.now c.args.k) (length c.args.f.now - i)) (drop i c.args.f.now)) from
    ∙ part_inside c.args.f.now (start_of c.args.f.now c.args.k) (size_of c.args.f.now c.args.k)
