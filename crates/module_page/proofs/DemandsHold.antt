-- The demands on one module of module_rules, all of them.
--     one_module_lem   what the buyer signs for, of one module
-- Assumes nothing.
use mathlib.Core.Path.{sym, ◌∙◌}
use Rattle.module_rules.specs.Lives.{life}
use Rattle.module_rules.specs.Demands.{OneModule}
use Rattle.module_rules.proofs.ExamplesHold.{examples_hold, further_examples_hold, frame_examples_hold, mark_examples_hold, step_examples_hold, depth_examples_hold, figures_hold}
use Rattle.module_rules.proofs.ClockSteps.{clock_steps_lem}
use Rattle.module_invariant.proofs.PowersUp.{powers_up_lem}
use Rattle.module_invariant.proofs.RefusalsKinds.{call_fits}
use Rattle.module_invariant.proofs.RefusalsExact.{never_given_lem, refused_exactly_lem}
use Rattle.module_invariant.proofs.RefusalsUnchanged.{refused_unchanged_lem}
use Rattle.module_order.proofs.Order.{life_holds}
use Rattle.module_flags.proofs.Changes.{call_changes_lem}
use Rattle.module_flags.proofs.LastEdge.{last_edge_drops}
use Rattle.module_flags.proofs.Sdo.{pins_show_lem}
use Rattle.module_flags.proofs.Registers.{reads_show_lem}
use Rattle.module_frames.proofs.FramesHold.{enabling_shows_none, frames_hold_lem}
use Rattle.module_frames.proofs.Fillers.{fillers}
use Rattle.module_edges_owed.proofs.Hold.{host_falls_idle}
use Rattle.module_page.proofs.WordOrder.{word_order_lem}

pub one_module_lem : OneModule
one_module_lem =
    record {
      answered =
          record {
            refused_exactly = refused_exactly_lem;
            refused_unchanged = refused_unchanged_lem;
            never_given = never_given_lem;
            in_kind = λ m c. (call_fits m c).kind;
            one_outcome = λ m c x y e f. e ∙ sym f;
          };
      paper_examples = (examples_hold, further_examples_hold, frame_examples_hold, mark_examples_hold, step_examples_hold, depth_examples_hold);
      figures = figures_hold;
      powers_up = powers_up_lem;
      reached = λ b cs. (life_holds b cs).holds;
      reads_show = λ b cs. reads_show_lem (life b cs) (life_holds b cs).holds.holds (λ on. ((life_holds b cs).tied on).words);
      call_changes = λ b cs c. call_changes_lem (life b cs) (life_holds b cs) c;
      pins_show = λ b cs. pins_show_lem (life b cs) (λ on. ((life_holds b cs).tied on).recalls);
      word_order = λ b cs on. word_order_lem (life b cs) (life_holds b cs) on;
      fillers = λ b cs on. fillers (life b cs) (life_holds b cs) on;
      last_edge = last_edge_drops;
      falls_idle = λ b cs on own. host_falls_idle (life b cs) (life_holds b cs) on own;
      frames_hold = λ b cs on framed. frames_hold_lem (life b cs) (life_holds b cs) on framed;
      enabling = λ b cs c off. enabling_shows_none (life b cs) c off;
      clock_steps = clock_steps_lem;
    }
