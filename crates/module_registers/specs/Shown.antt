-- The parts of a module that STAT shows.
use Rattle.std.specs.Prelude.{ℕ, ◌+◌, ◌*◌, Bool, ◌≡◌, eqb}
use Rattle.module_types.specs.declared.Settings.{Settings}
use Rattle.module_types.specs.declared.Module.{Module}
use Rattle.laws.specs.Choice.{when◌then◌else◌}
use Rattle.module_rules.specs.Registers.{weighed, is_free, shows_enhanced, at_most7}

-- A module with these settings, so many words waiting and unread, a shift register that is free or not, and SPIROV.
pub record Shows (m : Module) (s : Settings) (x y : ℕ) (b c : Bool) : Type 0 where
  pub settings : m.settings ≡ s
  pub waiting : m.engine.transmit.count ≡ x
  pub unread : m.engine.receive.count ≡ y
  pub free : is_free m.engine.shift ≡ b
  pub spirov : m.engine.spirov ≡ c

-- What STAT shows of enhanced operation: SPIBEC, SRMPT and SRXMPT.
unfoldable pub enhanced_shown : Settings → ℕ → ℕ → Bool → ℕ
enhanced_shown s waiting unread free =
    when shows_enhanced s
    then at_most7 (when s.con1.msten then waiting else unread) * 256 + weighed free 128 + weighed (eqb unread 0) 32
    else 0
