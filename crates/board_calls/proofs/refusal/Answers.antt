-- Nothing is refused, or the fault's number stands under the total.
use Rattle.std.specs.Prelude.{◌*◌, ◌%◌, Result, ⊤}
use Rattle.laws.proofs.Common.{refl, ap, ◌∙◌, by_case, when◌then◌else◌}
use Rattle.board_rules.specs.declared.BoardFault.{BoardFault}
use Rattle.board_calls.specs.Owing.{both_in, fault_told, refused_number, refused_as}
use Rattle.board_calls.proofs.Asks.{refuses}
use Rattle.board_calls.proofs.refusal.Goals as goal

pub returns-in-Ok : goal.returns-in-Ok
unfolding refused_as refused_number when◌then◌else◌
returns-in-Ok c = by_case (λ (t : Result ⊤ BoardFault). refused_as (refused_number c.args.owed (fault_told t * 65536))) c.in-Ok.is refl

pub returns-in-Err : goal.returns-in-Err
returns-in-Err c =
    by_case (λ (t : Result ⊤ BoardFault). refused_as (refused_number c.args.owed (fault_told t * 65536))) c.in-Err.is
    (refuses c.args.owed c.in-Err.fault (c.both.ensures ∙ ap (both_in (c.args.owed % 65536)) c.fault_number.ensures))
