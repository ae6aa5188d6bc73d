-- The number of sections, and section by section its start and its size.
use Rattle.std.specs.Prelude.{◌≤◌}
use Rattle.laws.proofs.Common.{sym, ◌∙◌, arith, length}
use Rattle.script_rules.proofs.Texts.{written_case}
use Rattle.trace_writer.proofs.Placing.{half_bytes, word_bytes, head_length, head_is, length_on, heading_first, heading_goes_on, heading_ends}
use Rattle.trace_writer.proofs.put_head.Goals as goal

pub loop-size-init : goal.loop-size-init
loop-size-init c =
    rw c.from.ensures
    (heading_first c.args.sizes.now _ _ c.put-place.result (omega (arith, c.put-place.ensures.behind))
    (omega (arith, c.requires.1, length_on c.put-place.ensures)))

pub loop-size-preserved : goal.loop-size-preserved
loop-size-preserved c =
    let small : c.from-size.result ≤ 65535 = omega (arith, c.from-size.ensures, c.type_inv.sizes c.loop-size.size-index) in
    heading_goes_on c.loop-size.invariant c.loop-size-test.true c.from-size.ensures small
    (written_case (λ bytes. bytes) (sym (c.to_le_bytes-in-loop-size.ensures ∙ word_bytes c.loop-size.at (omega arith))) c.put-place-in-loop-size.ensures)
    (written_case (λ bytes. bytes) (sym (c.to_le_bytes-in-loop-size-2.ensures ∙ word_bytes c.from-size.result (omega arith))) c.put-place-in-loop-size-2.ensures)

pub returns : goal.returns
returns c =
    let e = heading_ends c.loop-size.invariant c.loop-size-test.false in
    let n = length c.args.sizes.now in
    record {
      buffer = head_is n c.args.sizes.now (written_case (λ bytes. bytes) (sym (c.to_le_bytes.ensures ∙ half_bytes n (omega arith))) c.put-place.ensures) e.0;
      behind = omega (arith, e.1, head_length n c.args.sizes.now);
    }
