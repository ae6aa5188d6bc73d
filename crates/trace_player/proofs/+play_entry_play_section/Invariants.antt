-- Playing a record and playing a section call each other. The measures are twice the levels left, and one more for a record: it plays
-- a section with as many levels left, and a section plays its records with one fewer. A record's loop: the repeats left still make
-- their calls. A section's loop: the records left still make theirs, and lie at the section's end; an idle one is passed, and with it
-- those up to the next that is not.
use Rattle.std.proofs.Common.{◌+◌, ◌*◌, ◌-◌}
use Rattle.trace_rules.specs.Trace.{play_calls}
use Rattle.trace_player.proofs.Playing.{Repeats, Section}
use Rattle.trace_player.proofs.+play_entry_play_section.Given as goal

abbrev pub decreases-play_entry : goal.decreases-play_entry
decreases-play_entry g l = 2 * l.left + 1

abbrev pub decreases-play_section : goal.decreases-play_section
decreases-play_section g l = 2 * l.left

abbrev pub invariant-play_entry-loop : goal.invariant-play_entry-loop
invariant-play_entry-loop g l =
    Repeats (play_calls l.trace.file.bytes.now l.left l.e.argument) l.e.value (g.P.Player.held l.initial.player) (l.e.value - l.counter)
    (g.P.Player.held l.player)

abbrev pub invariant-play_section-loop-records : goal.invariant-play_section-loop-records
invariant-play_section-loop-records g l =
    Section l.trace.file.bytes.now l.trace.next.now l.k l.left (g.P.Player.held l.initial.player) l.at l.records (g.P.Player.held l.player)

abbrev pub decreases-play_section-loop-records : goal.decreases-play_section-loop-records
decreases-play_section-loop-records g l = l.records
