-- The tests are those of the definition.
use Rattle.laws.proofs.Common.{refl, ap, so, not_so}
use Rattle.module_rules.proofs.Types.{Begun}
use Rattle.module_rules.specs.Edge.{begun}
use Rattle.module_edges.proofs.beginning.Goals as goal

pub returns-then-is_silent : goal.returns-then-is_silent
unfolding begun
returns-then-is_silent c = so _ _ _ (rw (c.is_silent.ensures, c.settings_in-s.ensures) at c.if-is_silent.true) refl

pub returns-then-ssen_client-count : goal.returns-then-ssen_client-count
unfolding begun
returns-then-ssen_client-count c =
    not_so _ _ _ (rw (c.is_silent.ensures, c.settings_in-s.ensures) at c.if-is_silent.false)
    (so _ _ _ (rw (c.ssen_client.ensures, c.settings_in-s.ensures, c.waiting_in-count.ensures) at c.if-ssen_client-count.true) (ap Begun (rw c.first_waiting_in-first.ensures at c.fresh.ensures)))

pub returns : goal.returns
unfolding begun
returns c =
    not_so _ _ _ (rw (c.is_silent.ensures, c.settings_in-s.ensures) at c.if-is_silent.false)
    (not_so _ _ _ (rw (c.ssen_client.ensures, c.settings_in-s.ensures, c.waiting_in-count.ensures) at c.if-ssen_client-count.false) (ap Begun c.fresh-2.ensures))
