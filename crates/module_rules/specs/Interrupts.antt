-- Document 01, "Interrupt flag": the conditions. They are events: nothing else sets the flag, and only the clear call
-- clears it.
use Rattle.std.specs.Prelude.{ℕ, ◌+◌, ◌*◌, ◌/◌, Bool, true, false, ◌||◌, ◌&&◌, eqb, leb}
use Rattle.laws.specs.Choice.{when◌then◌else◌}
use Rattle.module_types.specs.declared.Settings.{Settings}
use Rattle.module_types.specs.declared.Engine.{Engine}
use Rattle.module_types.specs.declared.Event.{Event}
use Rattle.module_types.specs.declared.Event.TheVariants.{Taken, Appended, Left, Finished, Written}
use Rattle.module_rules.specs.Changes.{with_interrupt}
use Rattle.module_rules.specs.Settings.{depth_of}

-- The counts that SISEL names are the depth, one less, and three quarters of it: 8, 7 and 6 at depth 8 (document 02, Twelve).
abbrev pub three_quarters : ℕ → ℕ
three_quarters depth = 3 * depth / 4

-- Standard operation: every finish, and nothing else.
abbrev pub standard_raises : Event → Bool
standard_raises (Taken left) = false
standard_raises (Appended left) = false
standard_raises (Left left) = false
standard_raises (Finished left) = true
standard_raises (Written left) = false

-- Enhanced operation, by SISEL.
abbrev pub enhanced_raises : ℕ → ℕ → Event → Bool
-- 0: a read empties the receive buffer
enhanced_raises depth sisel (Taken left) = eqb sisel 0 && eqb left 0
-- 1: a word is appended; 2: an append leaves three quarters of the depth (6) or more; 3: an append
-- leaves the depth (8)
enhanced_raises depth sisel (Appended left) =
    eqb sisel 1 || (eqb sisel 2 && leb (three_quarters depth) left || eqb sisel 3 && eqb left depth)
-- 4: a word leaves the transmit buffer with one less than the depth (7) left; 6: with none left
enhanced_raises depth sisel (Left left) = eqb sisel 4 && eqb (left + 1) depth || eqb sisel 6 && eqb left 0
-- 5: a finish with nothing left to send
enhanced_raises depth sisel (Finished left) = eqb sisel 5 && eqb left 0
-- 7: a write leaves the depth (8) waiting
enhanced_raises depth sisel (Written left) = eqb sisel 7 && eqb left depth

-- Whether an event sets the flag under these settings.
unfoldable pub raises : Settings → Event → Bool
raises s e = when s.con2.spiben then enhanced_raises (depth_of s) s.sisel e else standard_raises e

-- The engine after an event: its interrupt flag stands if it stood or if the event raises it.
unfoldable pub noted : Settings → Event → Engine → Engine
noted s e n = with_interrupt (n.interrupt || raises s e) n
