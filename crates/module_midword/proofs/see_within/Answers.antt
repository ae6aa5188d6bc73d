-- An edge within a word is made, and whatever else is left.
use Rattle.laws.proofs.Common.{refl, ◌∙◌, ap}
use Rattle.module_rules.proofs.Types.{Engine}
use Rattle.module_rules.specs.Select.{select_remembered}
use Rattle.module_memory.proofs.Taken.{◌then◌, alike}
use Rattle.module_answers.proofs.Edges.{ends_plain, seen_edge}
use Rattle.module_midword.proofs.Short.{passed, made, goes_later, mid_stays}
use Rattle.module_midword.proofs.see_within.Goals as goal

pub returns-then-is_deselected : goal.returns-then-is_deselected
returns-then-is_deselected c = passed

pub go_within-requires : goal.go_within-requires
go_within-requires c =
    let midword = c.is_midword.ensures c.if-not-is_midword.false in
    mid_stays c.store_ss.ensures (ap (λ (n : Engine). n.shift) c.store_ss.ensures.engine) midword

pub returns : goal.returns
unfolding select_remembered
returns c =
    let plain = rw (c.is_framed.ensures, c.settings_in-s.ensures) at c.if-is_framed.false in
    made plain (c.is_midword.ensures c.if-not-is_midword.false)
    (alike (c.store_ss.ensures then c.go_within.ensures.0)
    (ends_plain _ _ _ _ refl plain
    ∙ seen_edge _ _ _ _ _ (rw (c.is_deselected.ensures, c.settings_in-s.ensures) at c.if-is_deselected.false) (rw c.pins_in-pins.ensures at c.if-sck-pins.false)))
    (goes_later c.store_ss.ensures (ap (λ (n : Engine). n.transmit) c.store_ss.ensures.engine) (ap (λ (n : Engine). n.shift) c.store_ss.ensures.engine) c.go_within.ensures.1)
