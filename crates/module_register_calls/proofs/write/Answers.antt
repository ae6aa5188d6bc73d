-- Each arm is the clause of the definition for its register.
use Rattle.laws.proofs.Common.{ℕ, arith, refl, sym, ap, when◌then◌else◌, so_lt}
use Rattle.module_memory.specs.Memory.{module_in}
use Rattle.module_rules.specs.Calls.{refuse, write_of}
use Rattle.module_answers.proofs.Answers.{kept, likewise}
use Rattle.module_register_calls.proofs.write.Goals as goal

pub returns-in-0 : goal.returns-in-0
unfolding write_of when◌then◌else◌
returns-in-0 c = likewise c.write_stat.ensures (ap (λ (r : ℕ). write_of (module_in c.args.w.now) r c.args.v) (sym c.in-0.is))

pub returns-in-1 : goal.returns-in-1
unfolding write_of when◌then◌else◌
returns-in-1 c = likewise c.write_con1.ensures (ap (λ (r : ℕ). write_of (module_in c.args.w.now) r c.args.v) (sym c.in-1.is))

pub returns-in-2 : goal.returns-in-2
unfolding write_of when◌then◌else◌
returns-in-2 c = likewise c.write_con2.ensures (ap (λ (r : ℕ). write_of (module_in c.args.w.now) r c.args.v) (sym c.in-2.is))

pub returns-in-3 : goal.returns-in-3
unfolding write_of when◌then◌else◌
returns-in-3 c = likewise c.write_buf.ensures (ap (λ (r : ℕ). write_of (module_in c.args.w.now) r c.args.v) (sym c.in-3.is))

pub returns-in_default : goal.returns-in_default
unfolding write_of refuse
returns-in_default c = kept (so_lt 3 c.args.register _ _ (omega arith) refl)
