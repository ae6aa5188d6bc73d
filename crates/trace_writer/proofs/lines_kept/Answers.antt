-- Line by line: what is counted and what is kept of the lines that are left are all that is kept.
use Rattle.std.specs.Prelude.{Option}
use mir.Val.{bool_byte}
use Rattle.laws.proofs.Common.{List, ap, ◌∙◌, arith, length, length-append}
use Rattle.module_types.specs.declared.Call.{Call}
use Rattle.trace_save_rules.specs.Save.{kept_of}
use Rattle.script_lines.specs.declared.Lines.{Lines}
use Rattle.script_lines.specs.Lines.{lines_left}
use Rattle.trace_writer.proofs.Kept.{kept_in, kept_first, counted_line, kept_at_most}
use Rattle.trace_writer.proofs.lines_kept.Goals as goal

pub loop-line-init : goal.loop-line-init
loop-line-init c =
    let same = c.into_iter-line-iterator.ensures.into_iter_gives in
    omega (
      arith,
      ap length
          (kept_first (ap (λ (s : Lines). s.script.now) same ∙ c.of-line-items.ensures.0) (ap (λ (s : Lines). s.at) same ∙ c.of-line-items.ensures.1)),
    )

pub overflow_add-kept : goal.overflow_add-kept
overflow_add-kept c =
    omega (
      arith,
      c.loop-line.invariant,
      ap (λ (lines : List (Option Call)). length (kept_in lines)) c.in-Some.ensures.steps,
      length-append (kept_of c.in-Some.line) (kept_in (lines_left c.next.new.self.script.now c.next.new.self.at)),
      ap bool_byte c.is_some.ensures ∙ counted_line _ _ c.line_record.ensures,
      kept_at_most c.args.session.now,
    )

pub returns-clause-upper_bound : goal.returns-clause-upper_bound
returns-clause-upper_bound c = omega (arith, c.loop-line.invariant, kept_at_most c.args.session.now)
