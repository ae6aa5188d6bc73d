-- A script that is played on a module in memory.
use Rattle.std.specs.Prelude.{ℕ, List}
use Rattle.script_rules.specs.declared.Bookmark.{Bookmark}
use Rattle.script_rules.specs.declared.Session.{Session}
use Rattle.module_memory.specs.Memory.{module_in}

-- Where a script stands, with the module that memory holds.
abbrev pub session_in : List ℕ → Bookmark → Session
session_in w b = record { spi = module_in w; lines = b.lines; at = b.at }
