-- The demands on the board of specs/BoardDemands.antt, all of them.
--     boards_hold   what the buyer signs for, of the board
-- Assumes nothing.
use mathlib.Core.Path.{sym, ◌∙◌}
use Rattle.board_rules.specs.BoardDemands.{Boards}
use Rattle.board_rules.proofs.BoardExamplesHold.{board_examples_hold}
use Rattle.board_page.proofs.BoardCalls.{call_refused_exactly, call_refused_unchanged, pair_refused_exactly_lem, pair_refused_unchanged_lem, alone, joined}
use Rattle.board_page.proofs.BoardLives.{each_lives}

pub boards_hold : Boards
boards_hold =
    record {
      paper_examples = board_examples_hold;
      refused_exactly = call_refused_exactly;
      refused_unchanged = call_refused_unchanged;
      alone = alone;
      pair_refused_exactly = pair_refused_exactly_lem;
      pair_refused_unchanged = pair_refused_unchanged_lem;
      joined = joined;
      each = each_lives;
      one_call = λ ms n c x y e f. e ∙ sym f;
      one_pair = λ ms a b limit x y e f. e ∙ sym f;
    }
