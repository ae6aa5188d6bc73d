-- A word's beginning. It brings no rule of its own: a word call there is proved to be the one of `word_rules`.
use Rattle.std.specs.Prelude.{ℕ, ◌+◌, ◌*◌, ◌-◌, ◌%◌, ◌^◌, Bool, not, ◌&&◌}
use Rattle.std.specs.Bool.{beq}
use mir.Val.{bool_byte}
use Rattle.laws.specs.Choice.{when◌then◌else◌}
use Rattle.module_types.specs.declared.Settings.{Settings}
use Rattle.module_types.specs.declared.Module.{Module}
use Rattle.module_rules.specs.Settings.{width_of, cke_of, unframed_host}
use Rattle.module_rules.specs.Registers.{is_free, low_bits}
use Rattle.module_rules.specs.Loading.{is_begun}

-- SCK at the idle level with no word begun.
unfoldable pub between : Module → Bool
between m = not (is_begun m.engine.shift) && beq m.engine.pins.sck m.settings.con1.ckp

-- An enabled unframed host with its own clock is there with a word to send: the place where most word calls are made.
unfoldable pub at_start : Module → Bool
at_start m = (m.settings.spien && unframed_host m.settings) && (not (is_free m.engine.shift) && between m)

-- The levels of SDO where the edges of a word sample, from its beginning: its bits, but that with CKE 1 the first level stands before the first edge.
unfoldable pub levels_first : Settings → ℕ → Bool → ℕ
levels_first s word sdo =
    when cke_of s then word % 2 ^ (width_of s - 1) + bool_byte sdo * 2 ^ (width_of s - 1) else low_bits s word
