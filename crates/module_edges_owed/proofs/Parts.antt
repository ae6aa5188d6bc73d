-- What the proofs of the edges owed speak of (proofs/Edge.antt and proofs/Calls.antt): the edges owed by what a
-- module holds. proofs/Hold.antt shows that these are the edges owed by its history.
--     owing, owing_in, owed_in   by the settings, the shift register and the number of words waiting; of an engine; of a module
--     Undisturbing             a call that leaves the module enabled and accepts no word
--     Pays                     an outcome that makes as many edges as what is owed falls by, and leaves the module its clock
use Rattle.std.specs.Prelude.{◌+◌, ◌*◌, ◌-◌, ◌&&◌, ◌∷◌, ◌≡◌}
use Rattle.laws.proofs.Common.{ℕ, true, false, List, [], length}
use Rattle.word_order.specs.Port.{edges_under}
use Rattle.module_rules.proofs.Types.{Settings, Engine, Module, Outcome, Shift, Call}
use Rattle.module_rules.specs.Settings.{width_of, unframed_host}
use Rattle.module_rules.specs.Refusals.{is_done}
use Rattle.module_rules.specs.RefusalTable.{writes}
use Rattle.module_rules.specs.Words.{waiting_in, unfinished, left_buffer}
use Rattle.module_rules.specs.Calls.{perform_of}
use Rattle.module_rules.specs.Watch.{way_of}
use Rattle.module_rules.specs.Demands.{edges_by}

-- The edges given to the word in the shift register.
abbrev pub given_in : Shift → ℕ
given_in sh = edges_under (way_of sh)

-- The edges owed with a number of words waiting behind what is in the shift register.
abbrev pub owing : Settings → Shift → ℕ → ℕ
owing s sh count = 2 * width_of s * (length (unfinished s sh) + count) - given_in sh

-- The same of an engine, and of a module by its lists of words.
abbrev pub owing_in : Settings → Engine → ℕ
owing_in s n = owing s n.shift n.transmit.count

abbrev pub owed_in : Module → ℕ
owed_in m =
    2 * width_of m.settings * (length (left_buffer m) + length (waiting_in m)) - given_in m.engine.shift

-- A call that leaves the module enabled and accepts no word, and a list of them.
pub record Undisturbing (m : Module) (c : Call) : Type 0 where
  pub enabled : (perform_of m c).after.settings.spien ≡ true
  pub no_word : (is_done (perform_of m c).answer && writes 3 c) ≡ false

abbrev pub AllUndisturbing : Module → List Call → Type 0
AllUndisturbing m [] = Unit {0}
AllUndisturbing m (c ∷ cs) = Undisturbing m c × AllUndisturbing (perform_of m c).after cs

-- An outcome that leaves the module enabled and accepts no word makes as many edges as what is owed falls by. The module
-- stays an unframed host with its own clock.
pub record Pays (m : Module) (c : Call) (o : Outcome) : Type 0 where
  pub edges : o.after.settings.spien ≡ true → (is_done o.answer && writes 3 c) ≡ false →
      edges_by c o.answer + owed_in o.after ≡ owed_in m
  pub clock : unframed_host o.after.settings ≡ true
