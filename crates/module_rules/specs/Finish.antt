-- Document 01, "Finish, at edge 2w, in this order".
use Rattle.std.specs.Prelude.{ℕ, Bool, true, not, ◌&&◌, ◌||◌}
use Rattle.laws.specs.Choice.{when◌then◌else◌}
use Rattle.module_types.specs.declared.Settings.{Settings}
use Rattle.module_types.specs.declared.Engine.{Engine}
use Rattle.module_types.specs.declared.Shift.TheVariants.{Free}
use Rattle.module_types.specs.declared.Event.TheVariants.{Appended, Finished}
use Rattle.module_rules.specs.Changes.{with_receive, with_shift, with_spirov}
use Rattle.module_rules.specs.Settings.{depth_of, ssen_client}
use Rattle.module_rules.specs.Buffers.{full, appended, overrun}
use Rattle.module_rules.specs.Interrupts.{noted}
use Rattle.module_rules.specs.Loading.{word_leaves, loaded, rested}

-- A received word is lost: it is dropped, SPIROV stands from this step on, and in enhanced operation so does the mark
-- (document 02, Four).
unfoldable pub overflowed : Settings → Engine → Engine
overflowed s n = with_spirov true (with_receive (overrun s.con2.spiben n.receive) n)

-- A received word is appended, which is an event.
unfoldable pub word_appended : Settings → ℕ → Engine → Engine
word_appended s word n =
    noted s (Appended (appended (depth_of s) word n.receive).count) (with_receive (appended (depth_of s) word n.receive) n)

-- When a received word is lost: it finds its buffer full, or marked (document 02, Four).
unfoldable pub is_lost : Settings → Engine → Bool
is_lost s n = full (depth_of s) n.receive.count || n.receive.marked

-- First: the received word.
unfoldable pub delivered : Settings → ℕ → Engine → Engine
delivered s word n = when is_lost s n then overflowed s n else word_appended s word n

-- Second: an SSEN client drops its sent word from the transmit buffer, unless it was a filler.
unfoldable pub sent_dropped : Settings → Bool → Engine → Engine
sent_dropped s filler n = when ssen_client s && not filler then word_leaves s n else n

-- The shift register is free again, and the finish itself is an event: the words then left to send are those waiting.
unfoldable pub freed : Settings → Engine → Engine
freed s n = noted s (Finished n.transmit.count) (with_shift Free n)

-- The whole finish: the received word, the sent word, then the next word loads and, with CKE 1, shows its top bit.
unfoldable pub finished : Settings → Bool → ℕ → Engine → Engine
finished s filler word n = rested s (loaded s (freed s (sent_dropped s filler (delivered s word n))))
