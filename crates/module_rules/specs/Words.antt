-- The words in a module, as lists.
use Rattle.std.specs.Prelude.{ℕ, ◌||◌, List, [], ◌∷◌, ◌++◌}
use Rattle.laws.specs.Choice.{when◌then◌else◌}
use Rattle.module_types.specs.declared.Settings.{Settings}
use Rattle.module_types.specs.declared.Module.{Module}
use Rattle.module_types.specs.declared.Shift.{Shift}
use Rattle.module_types.specs.declared.Shift.TheVariants.{Free, Loaded, Begun}
use Rattle.module_rules.specs.InBits.{room, heeds_select}
use Rattle.module_rules.specs.Buffers.{waiting, unread}

-- The words waiting to be sent, and the words received and not read.
abbrev pub waiting_in : Module → List ℕ
waiting_in m = waiting (room m.settings) m.engine.transmit

abbrev pub unread_in : Module → List ℕ
unread_in m = unread (room m.settings) m.engine.receive

-- The one word that has left the transmit buffer and is not finished, if any. The begun word of an SSEN client has not
-- left, and a filler is no accepted word.
abbrev pub unfinished : Settings → Shift → List ℕ
unfinished s Free = []
unfinished s (Loaded word) = word ∷ []
unfinished s (Begun p) = when p.filler || heeds_select s then [] else p.word ∷ []

abbrev pub left_buffer : Module → List ℕ
left_buffer m = unfinished m.settings m.engine.shift

-- The words that a module still owes: accepted and not finished.
abbrev pub owed_words : Module → List ℕ
owed_words m = left_buffer m ++ waiting_in m
