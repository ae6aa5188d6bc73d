-- The lines that are kept tell how long the file is; if it fits, its table of contents and its records are written.
use Rattle.std.specs.Prelude.{◌+◌, ◌*◌, ◌≤◌, ◌<◌, ◌∷◌, Ok, ◌≡◌}
use Rattle.laws.proofs.Common.{[], refl, sym, ap, ◌∙◌, arith, length}
use Rattle.script_rules.specs.Script.{read_from, lines_of}
use Rattle.trace_save_rules.specs.Save.{kept_from}
use Rattle.trace_writer.specs.Heads.{put_records}
use Rattle.trace_writer.proofs.Placing.{head_length, length_on}
use Rattle.trace_writer.proofs.Files.{session_is, few_kept, counted, too_long_lem, too_large, refused, saved}
use Rattle.trace_writer.proofs.save.Goals as goal
use Rattle.trace_writer.proofs.save.Goals.{After-lines_kept-size}

-- So many lines are kept, and they are few.
sized : (c : After-lines_kept-size) →
    4 * c.lines_kept-size.result ≡ 4 * length (kept_from (lines_of (read_from c.args.script.now)))
sized c = counted _ c.bytes_read.ensures c.lines_kept-size.ensures.value

few : (c : After-lines_kept-size) → c.lines_kept-size.result ≤ 65535
few c = few_kept c.args.script.now c.bytes_read.ensures c.lines_kept-size.ensures.upper_bound

pub slice_bounds-session-end : goal.slice_bounds-session-end
slice_bounds-session-end c = c.bytes_read.ensures ∙ sym (ap length (session_is _ c.bytes_read.ensures))

pub overflow_mul-size : goal.overflow_mul-size
overflow_mul-size c = omega (arith, few (goal.at.overflow_mul-size c).After-lines_kept-size)

pub overflow_add-size : goal.overflow_add-size
overflow_add-size c = omega (arith, few (goal.at.overflow_add-size c).After-lines_kept-size)

pub returns-in_default : goal.returns-in_default
returns-in_default c =
    let long : 65535 < 10 + 4 * c.lines_kept-size.result = omega (arith, c.in_default.ensures) in
    let told = refused _ _ (too_long_lem _ (sized (goal.at.returns-in_default c).After-lines_kept-size) _ long) in record { value = told.0; out_after = told.1 }

pub returns-then-out-size : goal.returns-then-out-size
returns-then-out-size c = let told = refused _ _ (too_large _ (sized (goal.at.returns-then-out-size c).After-lines_kept-size) _ c.if-out-size.true) in record { value = told.0; out_after = told.1 }

pub put_records-requires : goal.put_records-requires
put_records-requires c =
    omega (
      arith,
      c.put_head-from.ensures.behind,
      head_length 1 (4 * c.lines_kept-size.result ∷ []),
      c.lines_kept-size.ensures.value,
      c.if-out-size.false,
      length_on c.put_head-from.ensures,
    )

pub returns : goal.returns
returns c =
    let short : 10 + 4 * c.lines_kept-size.result ≤ 65535 = omega (arith, c.in-Ok.ensures.0) in
    let is : c.in-Ok.length ≡ 10 + 4 * c.lines_kept-size.result = c.in-Ok.ensures.1 in
    let s =
    saved c.args.script.now c.args.out.now _ _ refl (sized (goal.at.returns c).After-lines_kept-size) short c.if-out-size.false
    c.put_head-from.ensures in
    record { value = ap Ok is ∙ s.0; out_after = c.put_records.ensures ∙ ap (put_records _ _) (session_is c.args.script.now c.bytes_read.ensures) ∙ s.1 }
