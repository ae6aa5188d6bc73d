-- A word at a time in closed form: what its edges leave, with no list of them.
use Rattle.std.specs.Prelude.{◌+◌, ◌*◌, ◌%◌, ◌^◌}
use Rattle.laws.proofs.Common.{ℕ, Bool, not, Bool·beq, eqb, ltb, when◌then◌else◌}
use mir.Val.{bool_byte}
use Rattle.word_order.specs.Bits.{bit_of}
use Rattle.module_rules.proofs.Types.{Settings, Engine, Progress}
use Rattle.module_rules.specs.Changes.{with_sck, with_sdo, with_ss}
use Rattle.module_rules.specs.Settings.{cke_of, own_clock}
use Rattle.module_rules.specs.Finish.{finished}
use Rattle.module_rules.specs.Edge.{word_edges, clocked}
use Rattle.word_rules.specs.Word.{bits_left, level_on, idle_first}

-- The bits of a word that are not sampled after k edges, behind a number: those of the caller's word behind the bits received, and those
-- of the word that is sent behind the levels of SDO.
unfoldable pub behind : Settings → ℕ → ℕ → ℕ → ℕ
behind s v k x = x * 2 ^ bits_left s k + v % 2 ^ bits_left s k

-- SCK turns at each edge, and a word has an even number of them.
unfoldable pub last_sck : ℕ → Bool → Bool
last_sck k sck = Bool·beq (eqb (k % 2) 0) sck

-- SDO goes to the lowest bit of the word that is sent, if an edge is left that changes it.
unfoldable pub last_sdo : Settings → ℕ → ℕ → Bool → Bool
last_sdo s sent k sdo = when ltb (k + 1 + bool_byte (cke_of s)) (word_edges s) then bit_of sent 0 else sdo

-- All edges of a word, and its finish.
unfoldable pub word_made : Settings → ℕ → Progress → Engine → Engine
word_made s word p n =
    finished s p.filler (behind s word p.edges p.received % 65536)
    (with_sdo (last_sdo s p.word p.edges n.pins.sdo) (with_sck (last_sck p.edges n.pins.sck) n))

-- The levels of SDO: the one that stands now, if the next edge samples, and then the bits of the word that is sent.
unfoldable pub all_levels : Settings → Progress → Bool → ℕ
all_levels s p sdo = behind s p.word (p.edges + 1) (level_on s p.edges sdo 0)

-- The select level that a module remembers of a step: a host with its own clock keeps the one that it has.
unfoldable pub remembered : Settings → Bool → Engine → Engine
remembered s ss n = with_ss (when own_clock s then n.pins.ss else ss) n

-- The module where its word goes on or begins: with SCK at the idle level if nothing is begun.
unfoldable pub readied : Settings → Bool → Engine → Engine
readied s ss n = when idle_first s n then clocked (not n.pins.sck) (remembered s ss n) else remembered s ss n
