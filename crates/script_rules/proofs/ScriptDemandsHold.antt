-- The demands of specs/ScriptDemands.antt, all of them.
--     scripts_hold   what the buyer signs for, of the script program
-- Assumes nothing.
use mathlib.Core.Path.{sym, ◌∙◌}
use Rattle.script_rules.specs.ScriptDemands.{Scripts}
use Rattle.script_rules.proofs.ScriptLines.{reads_all_lem, reads_no_more_lem, too_long_lem}
use Rattle.script_rules.proofs.ScriptSizes.{piece_fits_lem}
use Rattle.script_rules.proofs.ScriptText.{every_line_lem, in_order_lem}
use Rattle.script_rules.proofs.SessionWhole.{in_pieces_lem, ends_there_lem}
use Rattle.script_rules.proofs.ScriptExamplesHold.{script_examples_hold}

pub scripts_hold : Scripts
scripts_hold =
    record {
      paper_examples = script_examples_hold;
      reads_all = reads_all_lem;
      reads_no_more = reads_no_more_lem;
      every_line = every_line_lem;
      in_order = in_order_lem;
      too_long = too_long_lem;
      in_pieces = in_pieces_lem;
      ends_there = ends_there_lem;
      piece_fits = piece_fits_lem;
      one_outcome = λ input s x y u v e f g h. (e ∙ sym f, g ∙ sym h);
    }
