-- A linked run (document 01, "Two modules on one wire") where both ends are at a word's beginning: the edges of that word at both ends, at once.
-- It brings no rule of its own, since it is proved to be so many turns.
use Rattle.std.specs.Prelude.{ℕ, ◌+◌, ◌-◌, Bool, true, false, not, ◌&&◌, ◌≡◌}
use Rattle.laws.specs.Choice.{when◌then◌else◌}
use Rattle.module_types.specs.declared.Settings.{Settings}
use Rattle.module_types.specs.declared.Module.{Module}
use Rattle.module_rules.specs.Settings.{width_of, framed, cke_of, own_clock}
use Rattle.module_rules.specs.Registers.{is_free}
use Rattle.module_rules.specs.Edge.{word_edges}
use Rattle.word_rules.specs.Word.{word_of}
use Rattle.word_begins.specs.Beginning.{between}
use Rattle.link_rules.specs.declared.Run.{Run}
use Rattle.link_rules.specs.Link.{host_turn}

-- The settings of two ends that a linked run accepts: an unframed host with its own clock and an unframed client, both enabled, of one mode and width.
pub record Matched (s u : Settings) : Type 0 where
  pub host_on : s.spien ≡ true
  pub own : own_clock s ≡ true
  pub unframed : framed s ≡ false
  pub client_on : u.spien ≡ true
  pub is_client : u.con1.msten ≡ false
  pub client_unframed : framed u ≡ false
  pub ckp : s.con1.ckp ≡ u.con1.ckp
  pub cke : cke_of s ≡ cke_of u
  pub width : width_of s ≡ width_of u

-- The same with the client selected, as it is from the first look at the host's levels on.
pub record Running (host client : Module) : Type 0 where
  pub matched : Matched host.settings client.settings
  pub selected : client.engine.pins.ss ≡ false

-- Both ends at a word's beginning: the host has one to send.
unfoldable pub at_beginning : Module → Module → Bool
at_beginning host client = not (is_free host.engine.shift) && (between host && between client)

-- What the other end samples of a word: the levels of SDO where the edges sample, as a word call tells them, and zeros under DISSDO.
unfoldable pub heard_of : Module → ℕ
heard_of m = when m.settings.con1.dissdo then 0 else (word_of m false 0).levels

-- So many more edges are used.
unfoldable pub further : ℕ → Run → Run
further edges r = record { used = r.used + edges; host = r.host; client = r.client }

-- A run with some edges left, no fewer than the word takes: both ends make the word, each with what it hears from the other, and the turns go on.
unfoldable pub word_then_turns : ℕ → Module → Module → Run
word_then_turns left host client =
    further (word_edges host.settings)
    (host_turn (left - word_edges host.settings) (word_of host false (heard_of client)).after (word_of client false (heard_of host)).after)
