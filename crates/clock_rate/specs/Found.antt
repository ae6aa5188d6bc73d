-- The setting that the walk over the settings has found so far.
use Rattle.std.specs.Prelude.{ℕ, Option, None, Some}
use Rattle.clock_rate.specs.declared.setting.Setting.{Setting}

-- As the definitions count it: 32 if there is none.
abbrev pub setting_in : Option Setting → ℕ
setting_in None = 32
setting_in (Some s) = s.k
