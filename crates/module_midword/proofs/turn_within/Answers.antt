-- An edge within a word is made, and whatever else is left.
use Rattle.laws.proofs.Common.{not, refl, ◌∙◌, ap}
use Rattle.module_rules.proofs.Types.{Pins}
use Rattle.module_memory.specs.Memory.{settings_in, engine_in}
use Rattle.module_memory.proofs.Taken.{alike}
use Rattle.module_answers.specs.Answered.{edge_counted, turned}
use Rattle.module_answers.proofs.Edges.{ends_plain}
use Rattle.module_midword.proofs.Short.{passed, made}
use Rattle.module_midword.proofs.turn_within.Goals as goal

pub returns-then-is_framed : goal.returns-then-is_framed
returns-then-is_framed c = passed

pub go_within-requires : goal.go_within-requires
go_within-requires c = c.is_midword.ensures c.if-not-is_midword.false

pub returns : goal.returns
unfolding turned
returns c =
    let plain = rw (c.is_framed.ensures, c.settings_in-s.ensures) at c.if-is_framed.false in
    made plain (c.is_midword.ensures c.if-not-is_midword.false)
    (alike c.go_within.ensures.0
    (ends_plain _ _ _ _ refl plain
    ∙ ap (λ (x : Pins). edge_counted (settings_in c.args.w.now) (not x.sck) c.args.sdi (engine_in c.args.w.now)) c.pins_in-pins.ensures))
    c.go_within.ensures.1
