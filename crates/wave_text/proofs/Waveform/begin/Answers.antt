-- The three pieces one behind the other are the opening.
use Rattle.std.proofs.Common.{subst, arith}
use Rattle.std.specs.Io.KnownBytes.{Appends}
use Rattle.std.proofs.KnownBytes.{Appends-trans}
use Rattle.script_rules.specs.Script.{bytes}
use Rattle.wave_text.specs.File.{opening}
use Rattle.wave_text.proofs.Front.{written_front}
use Rattle.wave_text.proofs.Waveform.begin.Goals as goal

pub returns-clause-text : goal.returns-clause-text
unfolding opening bytes
returns-clause-text g c none =
    let before = c.print-3.ensures.kept none in
    let values = subst (Appends _ _) (written_front c.start-started.ensures.written (omega (arith, c.start-started.ensures.written_bound))) (c.print-2.ensures.text before) in
    let head = subst (Appends _ _) c.head.ensures (c.print.ensures.text (c.print-2.ensures.kept before)) in
    let whole = Appends-trans _ _ _ _ _ head (Appends-trans _ _ _ _ _ values (c.print-3.ensures.text none)) in
    subst (λ w. Appends (g.W.Write.contents w) (g.W.Write.contents c.print-3.new.self.to) (opening c.start-started.result.shown)) c.new-to.ensures.writer whole
