-- Single numbers that are written into memory, and the module that is then read back.
--     stored, stepped   the module after some writes, and a step of its engine
-- Assumes nothing.
use Rattle.std.specs.Prelude.{◌≡◌}
use Rattle.laws.proofs.Common.{ℕ, true, List, ◌∙◌, length}
use Rattle.laws.specs.Writes.{Write, writes}
use Rattle.laws.proofs.Stored.{after, within, in_memory, reads_after}
use Rattle.ti_rules.specs.declared.Settings.{Settings}
use Rattle.ti_rules.specs.declared.Engine.{Engine}
use Rattle.ti_rules.specs.declared.Ti.{Ti}
use Rattle.ti.specs.Memory.{place_in, module_at, ti_in, Becomes, engine_step, Steps}

module _ (w : List ℕ) (xs : List Write) (whole : length w ≡ 20) (fit : within 20 xs ≡ true) where
  read_back : ti_in (writes w xs) ≡ module_at (after (place_in w) xs)
  unfolding ti_in
  read_back = λ i. module_at (λ k. reads_after 20 w xs whole (in_memory 20 xs fit) k i)

  pub stored : {m : Ti} → module_at (after (place_in w) xs) ≡ m → Becomes m (writes w xs)
  stored e = record { holds = read_back ∙ e }

  pub stepped : {f : Settings → Engine → Engine} → module_at (after (place_in w) xs) ≡ engine_step f (ti_in w) → Steps f w (writes w xs)
  stepped e = record { steps = read_back ∙ e }
