-- `script_lines::seven_bytes` meets its contract: of the forms, one alone is of seven bytes. Assumes nothing.
use Rattle.laws.proofs.Common.{refl, sym, ◌∙◌, so, not_so}
use Rattle.script_rules.specs.Script.{level, fits_place, has_form, pin_form, level_value}
use Rattle.script_lines.proofs.Forms.{and-true, of_seven}
use Rattle.script_lines.proofs.seven_bytes.Goals as goal

pub returns-then-k-s : goal.returns-then-k-s
unfolding has_form pin_form fits_place level_value
returns-then-k-s c =
    so _ _ _ (cc (and-true (fits_place level c.args.c))) refl ∙ sym (of_seven c.args.k c.args.s c.args.a c.args.t c.args.b c.args.u c.args.c)

pub returns : goal.returns
unfolding has_form pin_form fits_place level_value
returns c =
    not_so _ _ _ (cc (and-true (fits_place level c.args.c))) refl ∙ sym (of_seven c.args.k c.args.s c.args.a c.args.t c.args.b c.args.u c.args.c)
