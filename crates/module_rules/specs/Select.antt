-- Document 01, "Abort", and the select level in "One edge at a time".
use Rattle.std.specs.Prelude.{Bool, ◌&&◌}
use Rattle.laws.specs.Choice.{when◌then◌else◌}
use Rattle.module_types.specs.declared.Settings.{Settings}
use Rattle.module_types.specs.declared.Engine.{Engine}
use Rattle.module_types.specs.declared.Shift.TheVariants.{Free}
use Rattle.module_rules.specs.Changes.{with_shift, with_ss}
use Rattle.module_rules.specs.Settings.{ssen_client}
use Rattle.module_rules.specs.Loading.{is_begun, rested}

-- The select level is remembered, whatever the role.
unfoldable pub select_remembered : Bool → Engine → Engine
select_remembered ss n = with_ss ss n

-- The begun word's bits are forgotten, those sent and those received. The word itself still waits in the transmit
-- buffer, and a filler is gone. With CKE 1 SDO shows the top bit of the word to be sent; with CKE 0 it stays.
unfoldable pub aborted : Settings → Engine → Engine
aborted s n = rested s (with_shift Free n)

-- An SSEN client is deselected while select is high.
abbrev pub deselected : Settings → Bool → Bool
deselected s ss = ssen_client s && ss

-- Select is acted on before the clock: remembered always, and high aborts the begun word of an SSEN client.
unfoldable pub select_seen : Settings → Bool → Engine → Engine
select_seen s ss n =
    when deselected s ss && is_begun n.shift then aborted s (select_remembered ss n) else select_remembered ss n
