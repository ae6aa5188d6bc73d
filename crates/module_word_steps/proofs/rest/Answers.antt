-- SDO is set to the level that the definition chooses.
use Rattle.module_rules.specs.Loading.{sdo_at}
use Rattle.module_memory.proofs.Taken.{alike, stays}
use Rattle.module_word_steps.proofs.Loads.{early_stays, begun_stays, rests}
use Rattle.module_word_steps.proofs.rest.Goals as goal

pub returns-then-not-cke : goal.returns-then-not-cke
returns-then-not-cke c = stays (early_stays _ _ (rw (c.cke.ensures, c.settings_in-s.ensures) at c.if-not-cke.true))

pub returns-then-is_begun : goal.returns-then-is_begun
returns-then-is_begun c = stays (begun_stays _ _ (rw c.is_begun.ensures at c.if-is_begun.true))

pub next_top-level-requires : goal.next_top-level-requires
next_top-level-requires c = c.settings_in-s.ensures

pub returns : goal.returns
unfolding sdo_at
returns c =
    let cke = rw (c.cke.ensures, c.settings_in-s.ensures) at c.if-not-cke.false in
    alike c.store_sdo.ensures (rw c.next_top-level.ensures (rests _ _ cke (rw c.is_begun.ensures at c.if-is_begun.false)))
