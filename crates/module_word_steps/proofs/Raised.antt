-- The interrupt flag, and the depth.
--     standard, enhanced   what an event raises, by SPIBEN; of the second the case is told beside it
--     raised, unraised   an event that raises it, and one that does not
--     still              the depth that a step is handed, behind another step: no step changes it
-- Assumes nothing.
use Rattle.std.specs.Prelude.{◌≡◌}
use Rattle.laws.proofs.Common.{ℕ, Bool, true, false, List, sym, ◌∙◌, ap, or-true, or-false, by_case, so, not_so}
use Rattle.module_rules.proofs.Types.{Settings, Engine, Event}
use Rattle.module_rules.specs.Changes.{with_interrupt}
use Rattle.module_rules.specs.Settings.{depth_of}
use Rattle.module_rules.specs.Interrupts.{standard_raises, enhanced_raises, raises, noted}
use Rattle.module_memory.specs.Memory.{settings_in, Steps}

module _ (s : Settings) (e : Event) {b : Bool} where
  pub standard : s.con2.spiben ≡ false → b ≡ standard_raises e → b ≡ raises s e
  unfolding raises
  standard off is = not_so _ _ _ off is

  pub enhanced : {x : Event} → s.con2.spiben ≡ true → e ≡ x → b ≡ enhanced_raises (depth_of s) s.sisel x → b ≡ raises s e
  unfolding raises
  enhanced {x} on same is = so _ _ _ on (by_case (enhanced_raises (depth_of s) s.sisel) same is)

module _ (s : Settings) (e : Event) (n : Engine) where
  pub raised : raises s e ≡ true → with_interrupt true n ≡ noted s e n
  unfolding noted
  raised h = ap (λ (b : Bool). with_interrupt b n) (rw h (sym (or-true n.interrupt)))

  pub unraised : raises s e ≡ false → n ≡ noted s e n
  unfolding noted
  unraised h = ap (λ (b : Bool). with_interrupt b n) (rw h (sym (or-false n.interrupt)))

pub still : {f : Settings → Engine → Engine} {a b : List ℕ} → Steps f a b → {depth : ℕ} → depth ≡ depth_of (settings_in a) →
    depth ≡ depth_of (settings_in b)
still step e = e ∙ ap depth_of (sym step.settings)
