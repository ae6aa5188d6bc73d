-- A frame host goes on within its word, and no pulse begins.
use Rattle.laws.proofs.Common.{arith, not-true, not-false, true, not, refl, ◌∙◌, ap, and_right, and-false}
use Rattle.laws.proofs.Common.{clash}
use Rattle.module_rules.proofs.Types.{Progress, Pins, Engine}
use Rattle.module_rules.specs.Settings.{framed}
use Rattle.module_memory.specs.Memory.{settings_in, engine_in}
use Rattle.module_memory.proofs.Taken.{◌then◌, alike}
use Rattle.module_answers.specs.Answered.{edge_counted, turned}
use Rattle.module_midword.proofs.Short.{untold, host_ends, goes_first, ticks_within}
use Rattle.module_midword.proofs.frame_within.Goals as goal

pub returns-then-not-s : goal.returns-then-not-s
returns-then-not-s c = untold

pub go_within-requires : goal.go_within-requires
go_within-requires c = c.is_midword.ensures c.if-not-is_midword.false

pub returns : goal.returns
unfolding turned
returns c =
    let edges = ap (λ (x : Progress). x.edges) c.progress_in-p.ensures in
    let width = rw c.settings_in-s.ensures at c.width.ensures in
    let mid = c.is_midword.ensures c.if-not-is_midword.false in
    let host = rw (c.is_frame_host.ensures, c.settings_in-s.ensures) at c.if-not-is_frame_host.false in
    let step =
    alike (c.go_within.ensures.0 then c.end_pulse.ensures)
    (host_ends c.args.w.now _ c.args.sdi mid host (omega arith) (omega arith)
    ∙ ap (λ (x : Pins). edge_counted (settings_in c.args.w.now) (not x.sck) c.args.sdi (engine_in c.args.w.now)) c.pins_in-pins.ensures) in
    record {
      taken =
          λ _.
          ticks_within (not-false _ (rw c.settings_in-s.ensures at c.if-not-s.false)) _ _ (rw (c.own_clock.ensures, c.settings_in-s.ensures) at c.if-not-own_clock.false)
          (and-false (framed (settings_in c.args.w.now)) _ (not-true _ (and_right (framed (settings_in c.args.w.now)) _ host)))
          mid.begun step;
      goes = λ _. goes_first c.go_within.ensures.1 c.end_pulse.ensures (ap (λ (n : Engine). n.transmit) c.end_pulse.ensures.engine) (ap (λ (n : Engine). n.shift) c.end_pulse.ensures.engine);
      left = λ e. clash true refl e;
    }
