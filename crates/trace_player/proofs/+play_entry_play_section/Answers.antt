-- A record makes its call, or the calls of the section that it plays once for each repeat. A section makes those of its records: an idle
-- one is passed, with those up to the next that is not (`upcoming`); another is played, with a level fewer, and the loop goes on behind it.
use Rattle.laws.proofs.Common.{ap, ◌∙◌, arith, eq-eqb}
use Rattle.module_types.specs.declared.Call.{Call}
use Rattle.module_rules.specs.Calls.{perform_of}
use Rattle.trace_rules.specs.Trace.{is_play}
use Rattle.trace_player.proofs.Playing.{repeats_all, repeated, entry_makes, entry_plays, no_levels, section_starts, section_done, reached, names_one, section_goes_on, upcoming, section_passes, section_out}
use Rattle.trace_player.proofs.+play_entry_play_section.Goals as goal

pub play_entry-returns-then-e-ne5 : goal.play_entry-returns-then-e-ne5
play_entry-returns-then-e-ne5 g t c =
    entry_makes _ _ _ _ c.if-e-ne5.true (c.perform.ensures ∙ ap (λ (x : Call). (perform_of (g.P.Player.held c.args.player.now) x).after) c.call_of.ensures)

pub play_entry-play_section-requires : goal.play_entry-play_section-requires
unfolding is_play
play_entry-play_section-requires g t c κs within = (
  omega (arith, c.decreases),
  (within, c.requires (eq-eqb _ 5 c.if-e-ne5.false)),
)

pub play_entry-loop-init : goal.play_entry-loop-init
play_entry-loop-init g t c = repeats_all (omega arith)

pub play_entry-loop-preserved : goal.play_entry-loop-preserved
play_entry-loop-preserved g t c = repeated c.loop.invariant (omega arith) (omega arith) c.play_section.ensures

pub play_entry-returns : goal.play_entry-returns
unfolding is_play
play_entry-returns g t c = entry_plays _ _ _ _ c.if-e-ne5.false c.loop.invariant (omega arith)

pub play_section-returns-then-left-eq0 : goal.play_section-returns-then-left-eq0
play_section-returns-then-left-eq0 g t c = no_levels _ _ _ _ c.if-left-eq0.true

pub play_section-loop-records-init : goal.play_section-loop-records-init
play_section-loop-records-init g t c =
    section_starts (c.args.trace.now.file.is_right.0, c.args.trace.now.file.is_right.1, c.args.trace.now.is_passed) c.requires (omega (arith, c.if-left-eq0.false)) c.first_record-at.ensures
    c.record_count-records.ensures

pub play_section-overflow_sub-passed : goal.play_section-overflow_sub-passed
play_section-overflow_sub-passed g t c =
    omega (arith, upcoming c.loop-records.invariant c.loop-records-test.true c.entry_at-e.ensures c.is_idle.ensures c.if-is_idle.true)

pub play_section-returns-then-records-passed : goal.play_section-returns-then-records-passed
play_section-returns-then-records-passed g t c =
    let s = c.loop-records.invariant in let more = c.loop-records-test.true in
    let u = upcoming s more c.entry_at-e.ensures c.is_idle.ensures c.if-is_idle.true in
    section_out s more u c.if-records-passed.true

pub play_section-loop-records-smaller-then-is_idle : goal.play_section-loop-records-smaller-then-is_idle
play_section-loop-records-smaller-then-is_idle g t c =
    omega (arith, upcoming c.loop-records.invariant c.loop-records-test.true c.entry_at-e.ensures c.is_idle.ensures c.if-is_idle.true)

pub play_section-loop-records-preserved-then-is_idle : goal.play_section-loop-records-preserved-then-is_idle
play_section-loop-records-preserved-then-is_idle g t c =
    let s = c.loop-records.invariant in let more = c.loop-records-test.true in
    let u = upcoming s more c.entry_at-e.ensures c.is_idle.ensures c.if-is_idle.true in
    section_passes s more u c.if-records-passed.false

pub play_section-play_entry-requires : goal.play_section-play_entry-requires
play_section-play_entry-requires g t c κs within = (
  omega (arith, c.decreases, c.loop-records.invariant.some),
  (within, names_one c.loop-records.invariant c.loop-records-test.true c.entry_at-e.ensures),
)

pub play_section-overflow_add-at : goal.play_section-overflow_add-at
play_section-overflow_add-at g t c = omega (arith, reached c.loop-records.invariant c.loop-records-test.true)

pub play_section-loop-records-preserved : goal.play_section-loop-records-preserved
play_section-loop-records-preserved g t c =
    section_goes_on c.loop-records.invariant c.loop-records-test.true c.entry_at-e.ensures c.play_entry.ensures

pub play_section-returns : goal.play_section-returns
play_section-returns g t c = search section_done
