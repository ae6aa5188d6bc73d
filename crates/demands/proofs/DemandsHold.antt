-- The demands of specs/Demands.antt, all of them.
--     demands_hold   what the buyer signs for
-- Assumes nothing.
use Rattle.card_demands.proofs.DemandsHold.{page_holds}
use Rattle.ti_order.proofs.DemandsHold as ti
use Rattle.module_page.proofs.DemandsHold.{one_module_lem}
use Rattle.link_page.proofs.LinkDemandsHold.{linked_runs_lem}
use Rattle.link_delivers.proofs.WireDelivers.{wire_delivers_lem}
use Rattle.word_page.proofs.WordDemandsHold.{word_calls_hold}
use Rattle.clock_rules.proofs.ClockDemandsHold.{clock_reports_lem}
use Rattle.clock_rate_rules.proofs.RateHolds.{rate_demands}
use Rattle.script_rules.proofs.ScriptDemandsHold.{scripts_hold}
use Rattle.trace_page.proofs.TraceDemandsHold.{traces_hold}
use Rattle.trace_save_rules.proofs.SaveDemandsHold.{saves_hold}
use Rattle.trace_salvage_rules.proofs.SalvageDemandsHold.{salvages_hold}
use Rattle.board_page.proofs.BoardDemandsHold.{boards_hold}
use Rattle.board_page.proofs.OwedDemandsHold.{totals_hold}
use Rattle.demands.specs.Demands.{Demands}

pub demands_hold : Demands
demands_hold =
    record {
      one_module = one_module_lem;
      linked_runs = linked_runs_lem;
      wire_delivers = wire_delivers_lem;
      word_calls = word_calls_hold;
      clock_reports = clock_reports_lem;
      prescalers = rate_demands;
      scripts = scripts_hold;
      traces = traces_hold;
      saves = saves_hold;
      salvages = salvages_hold;
      boards = boards_hold;
      totals = totals_hold;
      audio_card = page_holds;
      ti_module = ti.demands_hold;
    }
