-- Each arm is the clause of the definition for its case.
use Rattle.laws.proofs.Common.{refl, sym, ◌∙◌, by_case}
use Rattle.module_rules.specs.Loading.{next_top}
use Rattle.module_memory.specs.Memory.{settings_in, engine_in}
use Rattle.module_word_steps.proofs.next_top.Goals as goal

pub returns-in-Free : goal.returns-in-Free
unfolding next_top
returns-in-Free c =
    by_case (next_top (settings_in c.args.w.now) (engine_in c.args.w.now).transmit) (sym c.shift_in.ensures ∙ c.in-Free.is)
    (rw (c.ssen_client.ensures, c.top_bit.ensures, c.requires, c.waiting_in-count.ensures, c.first_waiting_in-first.ensures))

pub returns-in-Loaded : goal.returns-in-Loaded
unfolding next_top
returns-in-Loaded c =
    by_case (next_top (settings_in c.args.w.now) (engine_in c.args.w.now).transmit) (sym c.shift_in.ensures ∙ c.in-Loaded.is)
    (rw (c.top_bit-in-Loaded.ensures, c.requires))

pub returns-in-Begun : goal.returns-in-Begun
unfolding next_top
returns-in-Begun c =
    by_case (next_top (settings_in c.args.w.now) (engine_in c.args.w.now).transmit) (sym c.shift_in.ensures ∙ c.in-Begun.is) refl
