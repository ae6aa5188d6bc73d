-- Line by line, and what is left finishes the piece.
use Rattle.laws.proofs.Common.{ap, length, arith, ◌∙◌}
use Rattle.std.specs.Prelude.{◌≡◌}
use Rattle.std.proofs.Common.{rules}
use Rattle.script_rules.proofs.ScriptLines.{read_part}
use Rattle.script_player.proofs.Lines.{playing_goes_on, piece_ends, cut_part}
use Rattle.script_player.proofs.piece.Goals as goal

pub slice_bounds-read-end : goal.slice_bounds-read-end
slice_bounds-read-end c =
    cc (ap length (read_part c.args.script.now _ c.bytes_read-end.ensures), c.bytes_read-end.ensures)

pub play_line-to-requires : goal.play_line-to-requires
play_line-to-requires c =
    (cut_part _ _ c.bytes_read-end.ensures, omega (arith, c.loop.invariant.0.room))

pub loop-preserved : goal.loop-preserved
loop-preserved c =
    (playing_goes_on c.loop.invariant.0 (omega arith) c.play_line-to.ensures.to_after c.play_line-to.ensures.written, c.play_line-to.ensures.same_buffer ∙ c.loop.invariant.1)

pub returns : goal.returns
returns c =
    let ends = piece_ends _ _ c.bytes_read-end.ensures c.loop.invariant.0 (omega arith) in
    let kept : c.out-1.given.0 ≡ c.loop.text.bytes.now = search rules in
    record { to_after = ends.0; written = rw kept ends.1; written_bound = (ends.2, rw kept ends.3) }
