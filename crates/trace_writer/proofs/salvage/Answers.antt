-- Where the last section is stated to end tells whether the file can be salvaged, and what its sections keep how long the new file is. If
-- it fits, its table of contents and its sections are written.
use Rattle.std.specs.Prelude.{◌≤◌}
use Rattle.laws.proofs.Common.{ℕ, sym, ◌∙◌, arith, length, take, length-replicate}
use Rattle.trace_salvage_rules.specs.Salvage.{salvaged_file}
use Rattle.trace_right.proofs.Contents.{ended_none, ended_is}
use Rattle.trace_writer.proofs.Salvaging.{few_sections, head_room, no_longer, Stated, wrong_end, far_end, near_end, refused_17, refused_20, AllSizes, sizes_kept, new_within, placed_new, answer_is}
use Rattle.trace_writer.proofs.salvage.Goals as goal
use Rattle.trace_writer.proofs.salvage.Goals.{Else-last-gt65535, Else-out-end, After-count}

-- The file can be salvaged, and the new one fits.
stated : (c : Else-last-gt65535) →
    Stated c.args.f.now c.in-Some.last
stated c = near_end _ (ended_is _ _ (sym c.in-Some.is ∙ c.stated_end.ensures)) c.if-last-gt65535.false

fits : (c : Else-out-end) →
    length (salvaged_file c.args.f.now) ≤ length c.args.out.now
fits c = omega (arith, c.keep_sections-cut.ensures.cut_value.1, c.if-out-end.false)

-- The new file is no longer than the old one was stated to be.
shorter : (c : Else-out-end) →
    c.keep_sections-cut.result.end ≤ c.in-Some.last
shorter c =
    omega (arith, c.keep_sections-cut.ensures.cut_value.1, no_longer c.args.f.now, (near_end _ (ended_is _ _ (sym c.in-Some.is ∙ c.stated_end.ensures)) c.if-last-gt65535.false).ends)

pub returns-in_default : goal.returns-in_default
returns-in_default c =
    let told = refused_17 _ _ (wrong_end _ (ended_none _ (sym c.in_default.is ∙ c.stated_end.ensures))) in record { value = told.0; out_after = told.1 }

pub returns-then-last-gt65535 : goal.returns-then-last-gt65535
returns-then-last-gt65535 c =
    let told = refused_17 _ _ (far_end _ (ended_is _ _ (sym c.in-Some.is ∙ c.stated_end.ensures)) c.if-last-gt65535.true) in record { value = told.0; out_after = told.1 }

pub keep_sections-cut-requires : goal.keep_sections-cut-requires
keep_sections-cut-requires c = ((stated (goal.at.keep_sections-cut-requires c).Else-last-gt65535).ok, length-replicate {A = ℕ} 64 0)

pub returns-then-out-end : goal.returns-then-out-end
returns-then-out-end c =
    let told = refused_20 _ _ (stated (goal.at.returns-then-out-end c).Else-last-gt65535).ok (omega (arith, c.keep_sections-cut.ensures.cut_value.1, c.if-out-end.true)) in record { value = told.0; out_after = told.1 }

-- The sizes that are handed on.
sizes : (c : After-count) → AllSizes c.args.f.now (take c.count.result c.keep_sections-cut.new.sizes)
sizes c =
    sizes_kept c.args.f.now c.keep_sections-cut.new.sizes c.count.result c.count.ensures
    (near_end _ (ended_is _ _ (sym c.in-Some.is ∙ c.stated_end.ensures)) c.if-last-gt65535.false).ok c.keep_sections-cut.ensures.kept_sizes

pub slice_bounds-sizes-end : goal.slice_bounds-sizes-end
slice_bounds-sizes-end c =
    omega (
      arith,
      c.count.ensures,
      c.keep_sections-cut.ensures.kept_sizes.all,
      few_sections c.args.f.now (stated (goal.at.slice_bounds-sizes-end c).Else-last-gt65535).ok,
    )

pub slice_bounds-sizes-end-2 : goal.slice_bounds-sizes-end-2
slice_bounds-sizes-end-2 c = c.count.ensures ∙ sym (sizes (goal.at.slice_bounds-sizes-end-2 c).After-count).count

pub put_head-from-requires : goal.put_head-from-requires
put_head-from-requires c =
    let many = (sizes (goal.at.put_head-from-requires c).After-count).count in (
      omega (arith, many, few_sections c.args.f.now (stated (goal.at.put_head-from-requires c).Else-last-gt65535).ok),
      omega (arith, many, head_room c.args.f.now, fits (goal.at.put_head-from-requires c).Else-out-end),
    )

pub put_parts-requires : goal.put_parts-requires
put_parts-requires c =
    let s = sizes (goal.at.put_parts-requires c).After-count in (
      omega (arith, s.count, few_sections c.args.f.now (stated (goal.at.put_parts-requires c).Else-last-gt65535).ok),
      new_within c.args.f.now _ _ s.count s c.args.out.now _ _ (fits (goal.at.put_parts-requires c).Else-out-end) c.put_head-from.ensures,
    )

pub overflow_sub-result : goal.overflow_sub-result
overflow_sub-result c = omega (arith, shorter ((goal.at.overflow_sub-result c).Else-out-end))

pub overflow_cast-result-2 : goal.overflow_cast-result-2
overflow_cast-result-2 c =
    omega (arith, shorter (goal.at.overflow_cast-result-2 c).Else-out-end, (stated (goal.at.overflow_cast-result-2 c).Else-last-gt65535).short)

pub returns : goal.returns
returns c =
    let s = stated (goal.at.returns c).Else-last-gt65535 in
    let all = sizes (goal.at.returns c).After-count in
    record {
      value = answer_is c.args.f.now (length c.args.out.now) _ c.in-Some.last _ s.ok (fits (goal.at.returns c).Else-out-end) c.keep_sections-cut.ensures.cut_value.0
          s.ends c.keep_sections-cut.ensures.cut_value.1;
      out_after = c.put_parts.ensures
          ∙ placed_new c.args.f.now _ _ all.count all c.args.out.now _ _ s.ok (fits (goal.at.returns c).Else-out-end)
          c.put_head-from.ensures;
    }
