-- Single numbers that are written into memory, and the parts that are then read back.
--     engine_step_lem   writes that leave the settings are a step of the engine
--     settings_set  writes that leave the engine are a change of settings
-- Assumes nothing.
use Rattle.std.specs.Prelude.{◌≡◌}
use Rattle.laws.proofs.Common.{ℕ, true, List, ◌∙◌, length}
use Rattle.laws.specs.Writes.{Write, writes}
use Rattle.laws.proofs.Stored.{after, within, in_memory, reads_after}
use Rattle.module_rules.proofs.Types.{Settings, Engine}
use Rattle.module_memory.specs.Memory.{place_in, settings_at, engine_at, settings_in, engine_in, Steps, Sets}

module _ (w : List ℕ) (xs : List Write) (whole : length w ≡ 96) (fit : within 96 xs ≡ true) where
  reads : (k : ℕ) → place_in (writes w xs) k ≡ after (place_in w) xs k
  reads = reads_after 96 w xs whole (in_memory 96 xs fit)

  settings_read : settings_in (writes w xs) ≡ settings_at (after (place_in w) xs)
  unfolding settings_in
  settings_read = λ i. settings_at (λ k. reads k i)

  engine-read : engine_in (writes w xs) ≡ engine_at (after (place_in w) xs)
  unfolding engine_in
  engine-read = λ i. engine_at (λ k. reads k i)

  pub engine_step_lem : {f : Settings → Engine → Engine} → settings_at (after (place_in w) xs) ≡ settings_in w →
      engine_at (after (place_in w) xs) ≡ f (settings_in w) (engine_in w) → Steps f w (writes w xs)
  engine_step_lem s n = record { settings = settings_read ∙ s; engine = engine-read ∙ n }

  pub settings_set : {f : Settings → Settings} → settings_at (after (place_in w) xs) ≡ f (settings_in w) →
      engine_at (after (place_in w) xs) ≡ engine_in w → Sets f w (writes w xs)
  settings_set s n = record { settings = settings_read ∙ s; engine = engine-read ∙ n }
