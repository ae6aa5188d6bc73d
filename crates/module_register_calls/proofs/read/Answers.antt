-- Each arm is the clause of the definition for its register.
use Rattle.laws.proofs.Common.{arith, refl, sym, ap, ◌∙◌, when◌then◌else◌, so_lt}
use Rattle.module_memory.specs.Memory.{module_in}
use Rattle.module_rules.specs.Calls.{refuse, read_of}
use Rattle.module_answers.proofs.Answers.{kept, likewise}
use Rattle.module_register_calls.proofs.read.Goals as goal

pub returns-in-0 : goal.returns-in-0
unfolding read_of when◌then◌else◌
returns-in-0 c = kept (rw (c.stat.ensures) refl ∙ ap (read_of (module_in c.args.w.now)) (sym c.in-0.is))

pub returns-in-1 : goal.returns-in-1
unfolding read_of when◌then◌else◌
returns-in-1 c = kept (rw (c.con1_value.ensures, c.con1_in.ensures) refl ∙ ap (read_of (module_in c.args.w.now)) (sym c.in-1.is))

pub returns-in-2 : goal.returns-in-2
unfolding read_of when◌then◌else◌
returns-in-2 c = kept (rw (c.con2_value.ensures, c.con2_in.ensures) refl ∙ ap (read_of (module_in c.args.w.now)) (sym c.in-2.is))

pub returns-in-3 : goal.returns-in-3
unfolding read_of when◌then◌else◌
returns-in-3 c = likewise c.read_buf.ensures (ap (read_of (module_in c.args.w.now)) (sym c.in-3.is))

pub returns-in_default : goal.returns-in_default
unfolding read_of refuse
returns-in_default c = kept (so_lt 3 c.args.register _ _ (omega arith) refl)
