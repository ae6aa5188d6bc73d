-- Before the first line all of the script is left.
use Rattle.laws.proofs.Common.{ap, ◌∙◌}
use Rattle.script_lines.specs.declared.Lines.{Lines}
use Rattle.run_wave.proofs.Lines.{drawn_starts}
use Rattle.run_wave.proofs.write.Goals as goal

pub loop-line-init : goal.loop-line-init
loop-line-init g c =
    let same = c.into_iter-line-iterator.ensures.into_iter_gives in
    drawn_starts c.requires (ap (λ (s : Lines). s.script.now) same ∙ c.of-line-items.ensures.0) (ap (λ (s : Lines). s.at) same ∙ c.of-line-items.ensures.1)
    c.begin-waveform.ensures.powered
