-- Each arm is the clause of the definition for its case.
use Rattle.std.specs.Prelude.{◌≡◌}
use Rattle.laws.proofs.Common.{⊎_elim, refl}
use Rattle.module_types.specs.declared.Module.{Module}
use Rattle.module_memory.specs.Memory.{module_in}
use Rattle.script_rules.specs.Script.{done_text, ok_text}
use Rattle.script_player.proofs.put_done.Goals as goal
use Rattle.script_player.proofs.put_done.Goals.{In-Read}

pub returns-in-Pin-clause-written : goal.returns-in-Pin-clause-written
unfolding done_text
returns-in-Pin-clause-written c = rw c.in-Pin.is c.put_pins.ensures.written

-- No other call is told as done.
is_ok : (c : In-Read) (m : Module) → done_text c.args.c m ≡ ok_text
unfolding done_text
is_ok c m =
    ⊎_elim (λ h. rw h.1 refl)
    (λ s. ⊎_elim (λ h. rw h.2 refl) (λ t. ⊎_elim (λ h. rw h.2 refl) (λ u. ⊎_elim (λ h. rw h.3 refl) (λ e. rw e refl) u) t) s)
    c.in-Read.is

pub returns-in-Read : goal.returns-in-Read
returns-in-Read c =
    let ok = is_ok (goal.at.returns-in-Read c).In-Read (module_in c.args.w.now) in
    record { same_buffer = c.put_ok.ensures.same_buffer; written = rw ok c.put_ok.ensures.written }
