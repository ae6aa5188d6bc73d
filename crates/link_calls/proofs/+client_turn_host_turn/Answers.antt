-- Each turn is the clause of its definition, and what it hands over runs on.
use Rattle.laws.proofs.Common.{refl, sym, ◌∙◌, ap, arith}
use Rattle.link_rules.specs.Link.{run_stops, one_more, client_turn, host_turn}
use Rattle.module_memory.specs.Memory.{module_in}
use Rattle.module_memory.proofs.Taken.{module_after}
use Rattle.link_calls.proofs.Turns.{running_shown, ends, stops, hands_over}
use Rattle.link_calls.proofs.+client_turn_host_turn.Goals as goal

pub client_turn-host_turn-requires : goal.client_turn-host_turn-requires
client_turn-host_turn-requires t c =
    (omega (arith, c.decreases, c.requires.0), running_shown _ _ c.requires.1 c.client_sees.ensures)

pub client_turn-returns-clause-client_after : goal.client_turn-returns-clause-client_after
unfolding client_turn one_more
client_turn-returns-clause-client_after t c =
    ap one_more (c.host_turn.ensures.client_after ∙ ap (host_turn _ _) c.client_sees.ensures)

pub host_turn-returns-then-left-eq0-clause-client_after : goal.host_turn-returns-then-left-eq0-clause-client_after
unfolding run_stops
host_turn-returns-then-left-eq0-clause-client_after t c =
    ends (module_in c.args.host.now) (module_in c.args.client.now) c.if-left-eq0.true refl

pub host_turn-returns-then-is_free-clause-client_after : goal.host_turn-returns-then-is_free-clause-client_after
unfolding run_stops
host_turn-returns-then-is_free-clause-client_after t c =
    stops _ _ c.if-left-eq0.false c.requires.matched (sym c.is_free.ensures ∙ c.if-is_free.true) refl

pub host_turn-returns-clause-client_after : goal.host_turn-returns-clause-client_after
host_turn-returns-clause-client_after t c =
    hands_over _ _ c.if-left-eq0.false c.requires (sym c.is_free.ensures ∙ c.if-is_free.false)
    (rw c.level-sdi.ensures at (module_after c.turn.ensures)) c.client_turn.ensures.client_after
