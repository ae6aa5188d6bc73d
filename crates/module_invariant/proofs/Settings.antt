-- STAT, CON1 and CON2 writes keep the invariant.
--     enabled_holds, disabled_holds, rewritten_holds   a STAT write that enables, disables or neither
--     configured_holds                                 a CON1 or CON2 write
-- Assumes nothing.
use Rattle.std.specs.Prelude.{◌<◌, ◌≡◌}
use Rattle.laws.proofs.Common.{ℕ, true, false, refl, sym, ap, ◌∙◌, arith, eq-eqb, clash}
use mathlib.Core.Bool.{and-false}
use Rattle.word_order.specs.Bits.{bit_of}
use Rattle.module_rules.proofs.Types.{Con1, Con2, Settings, Engine, Transmit, Module, Shift, Free, Loaded, Begun}
use Rattle.module_rules.specs.Settings.{ssen_client}
use Rattle.module_rules.specs.Refusals.{bad_settings}
use Rattle.module_rules.specs.Registers.{stat_settings, stat_engine, enabled_engine, disabled_engine}
use Rattle.module_rules.specs.Buffers.{empty_transmit}
use Rattle.module_rules.specs.Loading.{next_top}
use Rattle.module_rules.specs.Invariant.{SettingsHold, Emptied, ModuleHolds}
use Rattle.module_invariant.proofs.Parts.{HoldsAfter, BuffersHold}
use Rattle.module_invariant.proofs.Shift.{shift_is, shift_same}
use Rattle.module_invariant.proofs.Engine.{engine_of, reached, reached_on, reached_off}
use Rattle.module_invariant.proofs.CallCases.{stat_done, configured_to}

-- With nothing waiting and nothing loaded there is no next word.
next_top_none : (s : Settings) (t : Transmit) → t.count ≡ 0 → next_top s t Free ≡ false
unfolding next_top
next_top_none s t e = rw (eq-eqb t.count 0 e, and-false (ssen_client s))

-- The next word is told by CON1 and CON2 among the settings.
next_top_stat : (v : ℕ) (s : Settings) (t : Transmit) (sh : Shift) → next_top s t sh ≡ next_top (stat_settings v s) t sh
unfolding next_top stat_settings
next_top_stat v s t Free = refl
next_top_stat v s t (Loaded word) = refl
next_top_stat v s t (Begun p) = refl

module _ (m : Module) (h : ModuleHolds m) where
  abbrev s : Settings
  s = m.settings

  abbrev n : Engine
  n = m.engine

  -- The settings after a STAT write: allowed ones, if they enable.
  stat_settings_hold : (v : ℕ) → (bit_of v 15 ≡ true → bad_settings s ≡ false) → SettingsHold (stat_settings v s)
  unfolding stat_settings
  stat_settings_hold v good =
      record { sisel = omega arith; spre = h.settings.spre; ppre = h.settings.ppre; allowed = good }

  -- The module that a STAT write enables.
  pub enabled_holds : s.spien ≡ false → (v : ℕ) → bit_of v 15 ≡ true → bad_settings s ≡ false →
      HoldsAfter (stat_done m v (enabled_engine v s.con1 n))
  unfolding stat_settings enabled_engine empty_transmit
  enabled_holds off v up good =
      let b : BuffersHold s n = (engine_of m h).buffers in
      let free : n.shift ≡ Free = (h.emptied off).shift in
      let none : n.transmit.count ≡ 0 = ap (λ (t : Transmit). t.count) (h.emptied off).transmit in
      reached_on _ up (stat_settings_hold v (λ on. good))
      (record {
        buffers = record { transmit = b.transmit; receive = b.receive };
        shift = shift_is (stat_settings v s) (enabled_engine v s.con1 n) Free free (λ out. none, λ on own. refl);
        rest = λ on cke between.
            sym (ap (next_top (stat_settings v s) n.transmit) free ∙ next_top_none _ n.transmit none);
      })

  -- The module that a STAT write disables.
  pub disabled_holds : (v : ℕ) → bit_of v 15 ≡ false → HoldsAfter (stat_done m v (disabled_engine v n))
  unfolding stat_settings disabled_engine
  disabled_holds v off =
      reached_off _ off (stat_settings_hold v (λ on. clash (bit_of v 15) on off))
      (record { transmit = refl; receive = refl; shift = refl })

  -- The module that a STAT write leaves enabled, or disabled.
  pub rewritten_holds : (v : ℕ) → bit_of v 15 ≡ s.spien → HoldsAfter (stat_done m v (stat_engine v n))
  unfolding stat_settings stat_engine
  rewritten_holds v same =
      let b : BuffersHold s n = (engine_of m h).buffers in
      reached _ (stat_settings_hold v (λ on. h.settings.allowed (sym same ∙ on)))
      (record {
        buffers = record { transmit = b.transmit; receive = b.receive };
        shift = shift_same s n _ _ _ _ _ _ _ _ _ (λ on. sym same ∙ on) n.shift (λ busy. refl) h.shift;
        rest = λ on cke between. h.rest (sym same ∙ on) cke between ∙ next_top_stat v s n.transmit n.shift;
      })
      (λ off.
      let d : Emptied n = h.emptied (sym same ∙ off) in
      record { transmit = d.transmit; receive = d.receive; shift = d.shift })

  -- The module after a CON1 or CON2 write, whose numbers are those that bits can hold.
  pub configured_holds : s.spien ≡ false → (c : Con1) (d : Con2) → c.spre < 8 → c.ppre < 4 → HoldsAfter (configured_to m c d)
  configured_holds off c d spre ppre =
      reached_off _ off
      (record { sisel = h.settings.sisel; spre = spre; ppre = ppre; allowed = λ on. clash s.spien on off })
      (h.emptied off)
