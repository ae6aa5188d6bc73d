-- The bytes that are written are those of the step.
use Rattle.std.proofs.Common.{subst, arith}
use Rattle.std.specs.Io.KnownBytes.{Appends}
use Rattle.wave_text.proofs.Front.{written_front}
use Rattle.wave_text.proofs.Waveform.step.Goals as goal

pub returns-clause-text : goal.returns-clause-text
returns-clause-text g c none =
    subst (Appends _ _) (written_front c.step-stepped.ensures.written (omega (arith, c.step-stepped.ensures.written_bound))) (c.print.ensures.text none)
