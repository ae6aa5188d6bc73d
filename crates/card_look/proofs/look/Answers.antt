-- Their sum is the number.
use Rattle.laws.proofs.Common.{ap, ◌∙◌}
use mir.Val.{bool_byte}
use Rattle.card_look.proofs.Looks.{look_is}
use Rattle.card_look.proofs.look.Goals as goal

pub returns : goal.returns
returns c =
    look_is _ _ _ _ _ _ _ c.bits_of-bits.ensures.bits c.clocks_of-frame.ensures.clocks c.held-waiting.ensures.samples
    c.held-unread.ensures.samples c.output-sdo.ensures.0 (c.from.ensures ∙ ap bool_byte c.right_next-right.ensures)
