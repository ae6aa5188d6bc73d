-- The prescalers for a wanted rate, run: the definition gives these values.
use Rattle.std.specs.Prelude.{ℕ, Bool, ◌&&◌, eqb}
use Rattle.clock_rate_rules.specs.Rate.{prescalers_for}

-- The bits of CON1 for a setting's names.
abbrev gives : ℕ → ℕ → ℕ → Bool
gives f wanted bits = eqb (prescalers_for f wanted) bits

-- At 40 MHz, worked out by hand: 10 MHz is 4:1, by PPRE 2 and SPRE 7 (30), since PPRE 3 and SPRE 4 (19) has the greater PPRE; 20 MHz and
-- anything above it 2:1, PPRE 3 and SPRE 6 (27); 9,999,999 Hz 5:1, PPRE 3 and SPRE 3 (15); 1 MHz 48:1, PPRE 1 and SPRE 5 (21); 78,125 Hz 512:1,
-- PPRE 0 and SPRE 0; one less cannot be had. A rate of 0 passes nothing, and nothing but that stays below 0.
unfoldable pub rate_examples : Bool
rate_examples =
    gives 40000000 10000000 30
    && (gives 40000000 20000000 27
    && (gives 40000000 4294967295 27
    && (gives 40000000 9999999 15
    && (gives 40000000 1000000 21
    && (gives 40000000 78125 0
    && (gives 40000000 78124 32
    && (gives 0 0 27 && gives 1 0 32)))))))
