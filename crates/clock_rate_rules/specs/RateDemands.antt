-- The demands on the prescalers for a wanted rate, in CON1's bits. The record holds every statement, and proofs/RateHolds.antt
-- proves it.
use Rattle.std.specs.Prelude.{ℕ, ◌-◌, ◌*◌, ◌/◌, ◌%◌, ◌≤◌, ◌<◌, [], ◌∷◌, ◌≡◌, get_or}
use Rattle.clock_rate_rules.specs.Rate.{prescalers_for}

-- Document 01's divider of five bits of CON1: the primary by its table, PPRE in the low two, and 8 less SPRE in the other three.
abbrev pub tabled : ℕ → ℕ
tabled c = get_or (64 ∷ 16 ∷ 4 ∷ 1 ∷ []) (c % 4) 0 * (8 - c / 4)

-- Of the settings but 31, which is 1:1 twice: the answer does not pass the wanted rate; of those that do not, none divides less,
-- and none that divides as much has a smaller PPRE. The answer is 32, no setting, exactly if even 512:1 passes it.
pub record RateDemands : Type 0 where
  pub none : (f wanted : ℕ) → wanted * 512 < f → prescalers_for f wanted ≡ 32
  pub some : (f wanted : ℕ) → f ≤ wanted * 512 → prescalers_for f wanted < 31
  pub within : (f wanted : ℕ) → f ≤ wanted * 512 → f ≤ wanted * tabled (prescalers_for f wanted)
  pub highest : (f wanted c : ℕ) → c < 31 → f ≤ wanted * tabled c → tabled (prescalers_for f wanted) ≤ tabled c
  pub smallest : (f wanted c : ℕ) → c < 31 → f ≤ wanted * tabled c → tabled (prescalers_for f wanted) ≡ tabled c →
      prescalers_for f wanted % 4 ≤ c % 4
