-- What the buyer signs for, all of it: the demands on one module, on two modules on one wire and what it delivers, on a word at a time, on the clock
-- report and the prescalers for a wanted rate, on the script program, on trace files, on saved sessions, on salvaged traces, on the board and on its total of words owed, on the audio card and on the
-- TI module. Each page says its part in the crate of its rules.
use Rattle.card_rules.specs.CardDemands.{CardDemands}
use Rattle.ti_rules.specs.Demands.{TiDemands}
use Rattle.module_rules.specs.Demands.{OneModule}
use Rattle.link_rules.specs.LinkDemands.{LinkedRuns}
use Rattle.link_rules.specs.WireDemands.{WireDelivers}
use Rattle.word_rules.specs.WordDemands.{WordCalls}
use Rattle.clock_rules.specs.ClockDemands.{ClockReports}
use Rattle.clock_rate_rules.specs.RateDemands.{RateDemands}
use Rattle.script_rules.specs.ScriptDemands.{Scripts}
use Rattle.trace_rules.specs.TraceDemands.{Traces}
use Rattle.trace_save_rules.specs.SaveDemands.{Saves}
use Rattle.trace_salvage_rules.specs.SalvageDemands.{Salvages}
use Rattle.board_rules.specs.BoardDemands.{Boards}
use Rattle.board_rules.specs.OwedDemands.{Totals}

pub record Demands : Type 0 where
  pub one_module : OneModule
  pub linked_runs : LinkedRuns
  pub wire_delivers : WireDelivers
  pub word_calls : WordCalls
  pub clock_reports : ClockReports
  pub prescalers : RateDemands
  pub scripts : Scripts
  pub traces : Traces
  pub saves : Saves
  pub salvages : Salvages
  pub boards : Boards
  pub totals : Totals
  pub audio_card : CardDemands
  pub ti_module : TiDemands
