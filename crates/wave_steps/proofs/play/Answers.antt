-- A line that cannot be read leaves all as it was; any other is asked of the module.
use Rattle.laws.proofs.Common.{refl, ap}
use Rattle.module_types.specs.declared.Outcome.{Outcome}
use Rattle.script_rules.specs.Script.{line_after}
use Rattle.wave_steps.specs.Wave.{line_shown}
use Rattle.wave_steps.proofs.play.Goals as goal

pub returns-in-None : goal.returns-in-None
unfolding line_after line_shown
returns-in-None c = rw c.in-None.is record { w_after = refl; value = c.look.ensures }

pub returns-in-Some : goal.returns-in-Some
unfolding line_after line_shown
returns-in-Some c =
    record {
      w_after = rw c.in-Some.is (ap (λ (o : Outcome). o.after) c.perform-answer.ensures.outcome);
      value = rw (c.in-Some.is, ← c.perform-answer.ensures.outcome) (cc (c.look-in-Some.ensures, c.sdi_after-after.ensures));
    }
