-- What crosses the boundary besides the answers of modules in memory: what a caller is told of playing a trace file, of saving a session
-- and of salvaging a cut file, and the library's own numbers.
use Rattle.std.specs.Prelude.{ℕ, ◌+◌, ◌*◌, false, List, Result, ◌≡◌, length}
use Rattle.trace_rules.specs.declared.Fault.{Fault}
use Rattle.trace_rules.specs.Trace.{played_of, is_made, played_module}
use Rattle.trace_rules.specs.TraceDemands.{number_in, count_in}
use Rattle.trace_save_rules.specs.declared.NoRoom.{NoRoom}
use Rattle.trace_save_rules.specs.Save.{saved_of, buffer_after, saved_number_of, saved_length_of}
use Rattle.trace_salvage_rules.specs.declared.Salvaged.{Salvaged}
use Rattle.trace_salvage_rules.specs.declared.SalvageFault.{SalvageFault}
use Rattle.trace_salvage_rules.specs.Salvage as salvage
use Rattle.trace_salvage_rules.specs.Salvage.{salvaged_of, salvage_number_of}
use Rattle.trace_salvage_rules.specs.SalvageDemands.{cut_in, lost_in, length_in}
use Rattle.module_memory.specs.Memory.{module_in}

-- What playing a trace file answers: the upper 16 bits are the refusal number, 0 if the file is played, the lower 16 bits the calls
-- made.
unfoldable pub play_number : Result ℕ Fault → ℕ
play_number p = number_in p * 65536 + count_in p

-- Playing a file returns its number, and memory holds the module that the file's calls reach from power-up. A refused play leaves
-- every number of memory as it was.
pub record PlayTells (f : List ℕ) (r : ℕ) (before after : List ℕ) : Type 0 where
  pub number : r ≡ play_number (played_of f)
  pub holds : module_in after ≡ played_module (module_in before) f
  pub untouched : is_made (played_of f) ≡ false → after ≡ before

-- What saving a session answers: the upper 16 bits are the refusal number, 0 if it is saved, the lower 16 bits the file's length.
unfoldable pub save_number : Result ℕ NoRoom → ℕ
save_number s = saved_number_of s * 65536 + saved_length_of s

-- Saving a session returns its number, and the buffer holds the file and, behind it, its own bytes. A refused save leaves it as it
-- was.
pub record SaveTells (script : List ℕ) (r : ℕ) (before after : List ℕ) : Type 0 where
  pub number : r ≡ save_number (saved_of script (length before))
  pub buffer : after ≡ buffer_after script before

-- What salvaging a file answers: from above 16 bits each, the sections cut, the bytes lost, the refusal number, 0 if it is salvaged, and the
-- new file's length.
unfoldable pub salvage_number : Result Salvaged SalvageFault → ℕ
salvage_number s = cut_in s * 281474976710656 + lost_in s * 4294967296 + salvage_number_of s * 65536 + length_in s

-- Salvaging a file returns its number, and the buffer holds the new file and, behind it, its own bytes. A refusal leaves it as it was.
pub record SalvageTells (f : List ℕ) (r : ℕ) (before after : List ℕ) : Type 0 where
  pub number : r ≡ salvage_number (salvaged_of f (length before))
  pub buffer : after ≡ salvage.buffer_after f before

-- The library's version, 7.0.2: the major number times 65,536, the minor one times 256, and the patch.
abbrev pub version_number : ℕ
version_number = 7 * 65536 + 0 * 256 + 2

-- The number of the memory's format: it rises wherever the meaning of memory (crates/module_memory/specs/Memory.antt) changes.
abbrev pub format_number : ℕ
format_number = 4
