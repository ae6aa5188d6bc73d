-- Document 02, Three, for somebody who watches: when a pulse on SS lets a word begin, and which pulse stands. This is for the files that
-- judge: no rule cites it, and it cites no rule.
use Rattle.std.specs.Prelude.{Bool, not, ◌&&◌, ◌||◌}
use Rattle.std.specs.Bool.{beq}
use Rattle.laws.specs.Choice.{when◌then◌else◌}
use Rattle.module_types.specs.declared.Settings.{Settings}
use Rattle.module_rules.specs.InBits.{gives_pulses, takes_pulses}

-- A framed module begins nothing without a pulse: a frame host with FRMDLY 1 with the pulse that it shows after the edge, the others
-- with the one that stood before it.
abbrev pub started_by : Settings → Bool → Bool → Bool
started_by s stood shown = not s.con2.frmen || (when gives_pulses s && s.con2.frmdly then shown else stood)

-- The pulse that stands after an edge to the level `sck`: the one that a frame host shows; for a frame client one that SS brings, active
-- at the level FRMPOL, at an edge to the idle level with no word on the wire after it.
abbrev pub stands : Settings → Bool → Bool → Bool → Bool → Bool
stands s shown sck ss quiet =
    when gives_pulses s then shown
    else beq sck s.con1.ckp && ((takes_pulses s && beq ss s.con2.frmpol) && quiet)
