-- What is looked up and stored is the closed form.
use Rattle.std.specs.Prelude.{◌%◌}
use Rattle.laws.proofs.Common.{ℕ, false, Bool·beq, refl, ap, ◌∙◌, arith, eqb, clash}
use Rattle.module_rules.proofs.Types.{Engine, Pins}
use Rattle.module_memory.specs.Memory.{settings_in, engine_in}
use Rattle.module_memory.proofs.Taken.{◌then◌, module_after}
use Rattle.word_rules.proofs.Closed.{last_sck}
use Rattle.word_calls.proofs.Making.{word_made_lem, speaks, short_here}
use Rattle.word_calls.proofs.make_word.Goals as goal

pub levels_left-levels-requires : goal.levels_left-levels-requires
unfolding last_sck
levels_left-levels-requires c = (
  c.bits_left-left.ensures.0,
  c.bits_left-left.ensures.1,
  short_here _ _ c.requires c.settings_in-s.ensures c.current_in-p.ensures,
)

pub returns : goal.returns
unfolding last_sck
returns c =
    speaks
    (word_made_lem (settings_in c.args.w.now) (engine_in c.args.w.now) c.args.ss c.args.word
    c.requires
    c.current_in-p.ensures (omega (arith, c.current_in-p.type_inv)) (rw c.settings_in-s.ensures at c.bits_left-left.ensures.0)
    (rw c.settings_in-s.ensures at c.levels_left-levels.ensures) (ap (λ (x : Pins). x.sdo) c.pins_in-sdo.ensures)
    (ap (λ (x : ℕ). x % 65536) c.behind-received.ensures) (rw c.settings_in-s.ensures at c.last_sdo-last.ensures)
    (ap (Bool·beq (eqb (c.current_in-p.result.edges % 2) 0))
    (ap (λ (x : Pins). x.sck) c.pins_in-sck.ensures ∙ ap (λ (n : Engine). n.pins.sck) c.make_ready.ensures.engine)))
    (module_after (c.make_ready.ensures then c.store_sck.ensures then c.store_sdo.ensures then c.finish.ensures))
    (λ e. clash false e refl)
