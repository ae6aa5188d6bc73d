-- The three pieces one behind the other are the closing.
use Rattle.std.proofs.Common.{sym, subst}
use Rattle.std.specs.Io.KnownBytes.{Appends}
use Rattle.std.proofs.KnownBytes.{Appends-trans}
use Rattle.wave_text.specs.File.{closing}
use Rattle.wave_text.proofs.Front.{on_ok}
use Rattle.wave_text.proofs.Waveform.finish.Goals as goal

pub returns-clause-text : goal.returns-clause-text
unfolding closing
returns-clause-text g c =
    on_ok c.finish.result c.finish.ensures.ok (λ w ended.
    let last = c.print-2.ensures.kept ended.1 in
    let whole = Appends-trans _ _ _ _ _ (c.print.ensures.text (c.print_decimal.ensures.kept last))
    (Appends-trans _ _ _ _ _ (c.print_decimal.ensures.text last) (c.print-2.ensures.text ended.1)) in
    subst (λ v. Appends (g.W.Write.contents c.args.self.to.to) (g.W.Write.contents v) (closing c.args.self.time)) (sym ended.0) whole)
