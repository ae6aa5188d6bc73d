-- Both ends are at a word's beginning, and each makes its word with what it hears.
use Rattle.module_memory.proofs.Taken.{module_after}
use Rattle.link_words.proofs.WordTurns.{host_made, client_made}
use Rattle.link_calls.proofs.exchange.Goals as goal

pub returns : goal.returns
returns c =
    record {
      host_after =
          host_made _ _ c.requires.0 c.requires.1 (rw c.current_in-answered.ensures at c.heard-to_host.ensures)
          (rw c.current_in-sent.ensures at (module_after c.make_first.ensures));
      client_after =
          client_made _ _ c.requires.0 c.requires.1 (rw c.current_in-sent.ensures at c.heard-to_client.ensures)
          (rw c.current_in-answered.ensures at (module_after c.make_first-2.ensures));
    }
