-- `script_lines::five_bytes` meets its contract: of the forms, one alone is of five bytes. Assumes nothing.
use Rattle.laws.proofs.Common.{refl, sym, ◌∙◌, so, not_so}
use Rattle.script_rules.specs.Script.{level, fits_place, has_form, tick_ss_form, level_value}
use Rattle.script_lines.proofs.Forms.{and-true, of_five}
use Rattle.script_lines.proofs.five_bytes.Goals as goal

pub returns-then-k-s : goal.returns-then-k-s
unfolding has_form tick_ss_form fits_place level_value
returns-then-k-s c =
    so _ _ _ (cc (and-true (fits_place level c.args.b))) refl ∙ sym (of_five c.args.k c.args.s c.args.a c.args.t c.args.b)

pub returns : goal.returns
unfolding has_form tick_ss_form fits_place level_value
returns c =
    not_so _ _ _ (cc (and-true (fits_place level c.args.b))) refl ∙ sym (of_five c.args.k c.args.s c.args.a c.args.t c.args.b)
