use Rattle.std.specs.Prelude.{◌≡◌}
use Rattle.script_player.specs.SessionIn.{session_in}
use Rattle.script_player.proofs.Lines.{Playing}
use Rattle.script_player.proofs.piece.Given as goal

abbrev pub invariant-loop : goal.invariant-loop
invariant-loop l =
    Playing 256 l.read (session_in l.initial.w l.initial.to) l.initial.text.bytes.now l.counter (session_in l.w l.to) l.text.end l.text.bytes.now
    × (l.text.bytes.ghost_name ≡ l.initial.text.bytes.ghost_name)
