-- The board's test answers a tick that it refuses; any other is made of the record that it names, whatever memory for a report is lent.
use Rattle.std.specs.Prelude.{List, Float}
use Rattle.laws.proofs.Common.{sym, ◌∙◌, zero-le}
use Rattle.module_types.specs.declared.Call.TheVariants.{Tick}
use Rattle.board_rules.specs.declared.BoardCall.TheVariants.{Make}
use Rattle.module_by_number.specs.Told.{level_in}
use Rattle.board_calls.proofs.Asks.{refused_with, refused_not}
use Rattle.board_calls.proofs.Owing.{owed_inside, owed_refused, owed_made}
use Rattle.thurafeqa.proofs.thurafeqa_board_tick_call.Goals as goal

pub returns-in-Some : goal.returns-in-Some
returns-in-Some c =
    let why = refused_with (sym c.in-Some.is ∙ c.refused.ensures) in
    record {
      tells = λ (floats : List Float). owed_refused c.args.owed c.args.n c.args.board.now why.0 (Make (Tick (level_in c.args.sdi) (level_in c.args.ss))) floats why.1;
    }

pub bounds-board-n : goal.bounds-board-n
bounds-board-n c = owed_inside c.args.owed c.args.n c.args.board.now (refused_not (sym c.in_default.is ∙ c.refused.ensures)) zero-le

pub returns : goal.returns
returns c = record {
  tells = λ (floats : List Float). owed_made c.args.owed c.args.n c.args.board.now (refused_not (sym c.in_default.is ∙ c.refused.ensures)) (Make (Tick (level_in c.args.sdi) (level_in c.args.ss))) c.tick_counted.result floats floats c.tick_counted.new.w zero-le (c.tick_counted.ensures.makes floats);
}
