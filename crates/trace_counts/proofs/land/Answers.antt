-- `trace_counts::land` meets its contract: the test decides both where it lands and what the table says. Assumes nothing.
use Rattle.laws.proofs.Common.{refl, sym, ◌∙◌, so, not_so}
use Rattle.trace_counts.proofs.land.Goals as goal

pub returns-then-is_idle : goal.returns-then-is_idle
returns-then-is_idle c = let is = sym c.is_idle.ensures ∙ c.if-is_idle.true in record { value = so _ _ _ is refl; next_after = so _ _ _ is refl }

pub returns : goal.returns
returns c = let not = sym c.is_idle.ensures ∙ c.if-is_idle.false in record { value = not_so _ _ _ not refl; next_after = not_so _ _ _ not refl }
