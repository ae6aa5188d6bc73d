-- A word at both ends leaves fewer edges, and the run goes on from there. What the test leaves: both ends are at a word's
-- beginning, and no fewer edges are left than it takes.
use Rattle.std.specs.Prelude.{◌*◌, ◌≤◌}
use Rattle.laws.proofs.Common.{ℕ, sym, ap, ◌∙◌, arith, not-false, ltb-false, ltb, or_left, or_right}
use Rattle.module_rules.specs.Settings.{width_of}
use Rattle.module_rules.proofs.Sizes.{width_least}
use Rattle.link_words.specs.LinkWords.{further}
use Rattle.module_memory.specs.Memory.{settings_in}
use Rattle.link_words.proofs.WordTurns.{running_on}
use Rattle.link_calls.proofs.Turns.{word_first}
use Rattle.link_calls.proofs.+run.Goals as goal

pub run-requires : goal.run-requires
run-requires t c =
    let h = c.if-left-edges.false in
    let begins = sym c.are_beginning.ensures ∙ not-false _ (or_right (ltb c.args.left (2 * c.width.result)) _ h) in
    let enough : 2 * c.width.result ≤ c.args.left = ltb-false _ _ (or_left _ _ h) in
    let is-edges = ap (λ (k : ℕ). 2 * k) (c.width.ensures ∙ ap width_of c.settings_in-s.ensures) in
    let some = width_least (settings_in c.args.host.now) in (
      omega (arith, c.decreases),
      running_on _ _ c.requires begins c.exchange.ensures.host_after c.exchange.ensures.client_after,
    )

pub returns-clause-client_after : goal.returns-clause-client_after
unfolding further
returns-clause-client_after t c =
    let h = c.if-left-edges.false in
    let begins = sym c.are_beginning.ensures ∙ not-false _ (or_right (ltb c.args.left (2 * c.width.result)) _ h) in
    let enough : 2 * c.width.result ≤ c.args.left = ltb-false _ _ (or_left _ _ h) in
    let is-edges = ap (λ (k : ℕ). 2 * k) (c.width.ensures ∙ ap width_of c.settings_in-s.ensures) in
    word_first _ _ c.requires begins is-edges enough c.exchange.ensures.host_after c.exchange.ensures.client_after
    c.run.ensures.client_after
