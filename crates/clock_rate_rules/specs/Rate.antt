-- The prescalers with which a host with its own clock comes nearest to a wanted rate without passing it. The divider of each
-- setting is that of document 01, "The clock report".
use Rattle.std.specs.Prelude.{ℕ, zero, suc, ◌+◌, ◌*◌, ◌/◌, ◌%◌, Bool, ◌&&◌, eqb, ltb, leb}
use Rattle.laws.specs.Choice.{when◌then◌else◌}
use Rattle.clock_rules.specs.Clock.{primary_of, secondary_of}

-- Both prescalers as one number, 8 PPRE + SPRE, from 0 to 30. 31 would be 1:1 twice, which cannot be enabled.
unfoldable pub divider_at : ℕ → ℕ
divider_at k = primary_of (k / 8) * secondary_of (k % 8)

-- The rate F / D does not pass the wanted one, in whole numbers.
unfoldable pub fits : ℕ → ℕ → ℕ → Bool
fits f wanted k = leb f (wanted * divider_at k)

-- What the divider of the next setting must be below: that of the one found so far, or anything where none is found (32).
unfoldable pub to_beat : ℕ → ℕ
to_beat found = when eqb found 32 then 513 else divider_at found

-- The better of a setting and the one found so far, which has the smaller PPRE and stays where both divide alike.
unfoldable pub better : ℕ → ℕ → ℕ → ℕ → ℕ
better f wanted k found = when fits f wanted k && ltb (divider_at k) (to_beat found) then k else found

-- The best of so many settings.
unfoldable pub best_of : ℕ → ℕ → ℕ → ℕ
best_of f wanted zero = 32
best_of f wanted (suc k) = better f wanted k (best_of f wanted k)

-- A setting as CON1 has it: SPRE in bits 4 to 2, PPRE in 1 and 0; 32, which is no bit of them, if there is none.
unfoldable pub in_con1 : ℕ → ℕ
in_con1 found = when eqb found 32 then 32 else found % 8 * 4 + found / 8

-- For an instruction rate F and a wanted rate, both in the same unit.
unfoldable pub prescalers_for : ℕ → ℕ → ℕ
prescalers_for f wanted = in_con1 (best_of f wanted 31)
