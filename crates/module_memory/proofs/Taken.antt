-- Steps taken on a module in memory.
--     _then_   one step after another
--     alike    a step that does the same to this engine
--     stays    a step that stores nothing
--     made     settings and then an engine make a module
--     module_after   the module after a step
-- Assumes nothing.
use Rattle.std.specs.Prelude.{◌≡◌}
use Rattle.laws.proofs.Common.{ℕ, List, refl, ◌∙◌, ap}
use Rattle.module_rules.proofs.Types.{Settings, Engine, Module}
use Rattle.module_memory.specs.Memory.{settings_in, engine_in, module_in, Steps, Sets}

infixl 5 ◌then◌
pub ◌then◌ : {f g : Settings → Engine → Engine} {a b c : List ℕ} → Steps f a b → Steps g b c →
    Steps (λ s n. g s (f s n)) a c
◌then◌ {f} {g} {a} {b} x y =
    record {
      settings = y.settings ∙ x.settings;
      engine = y.engine ∙ ap (λ (s : Settings). g s (engine_in b)) x.settings ∙ ap (g (settings_in a)) x.engine;
    }

pub alike : {f g : Settings → Engine → Engine} {a b : List ℕ} → Steps f a b →
    f (settings_in a) (engine_in a) ≡ g (settings_in a) (engine_in a) → Steps g a b
alike x e = record { settings = x.settings; engine = x.engine ∙ e }

pub stays : {g : Settings → Engine → Engine} {a : List ℕ} → engine_in a ≡ g (settings_in a) (engine_in a) → Steps g a a
stays e = record { settings = refl; engine = e }

pub made : {m : Module} {a b c : List ℕ} → Sets (λ _. m.settings) a b → Steps (λ _ _. m.engine) b c → module_in c ≡ m
made {m} {c = c} x y =
    ap (λ (s : Settings). record { settings = s; engine = engine_in c }) (y.settings ∙ x.settings)
    ∙ ap (λ (n : Engine). record { settings = m.settings; engine = n }) y.engine

pub module_after : {f : Settings → Engine → Engine} {a b : List ℕ} → Steps f a b →
    module_in b ≡ record { settings = settings_in a; engine = f (settings_in a) (engine_in a) }
module_after {a = a} {b = b} h =
    ap (λ (s : Settings). record { settings = s; engine = engine_in b }) h.settings
    ∙ ap (λ (n : Engine). record { settings = settings_in a; engine = n }) h.engine
