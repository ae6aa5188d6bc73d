-- What is true of every module that calls reach from power-up. proofs/InvariantHolds.antt shows that power-up has it and every
-- call keeps it; proofs/InvariantUses.antt has a theorem for each clause.
use Rattle.std.specs.Prelude.{ℕ, ◌+◌, ◌*◌, ◌-◌, ◌/◌, ◌%◌, ◌^◌, ◌≤◌, ◌<◌, Bool, true, false, ◌≡◌, eqb, length}
use Rattle.std.specs.Bool.{beq}
use Rattle.laws.specs.Choice.{when◌then◌else◌}
use Rattle.ring.specs.Ring.{RingHolds, CellsHold}
use Rattle.word_order.specs.Bits.{bit_of}
use Rattle.module_types.specs.declared.Settings.{Settings}
use Rattle.module_types.specs.declared.Engine.{Engine}
use Rattle.module_types.specs.declared.Module.{Module}
use Rattle.module_types.specs.declared.Progress.{Progress}
use Rattle.module_types.specs.declared.Shift.{Shift}
use Rattle.module_types.specs.declared.Shift.TheVariants.{Free, Loaded, Begun}
use Rattle.module_rules.specs.InBits.{word_bits, room, odd_sampled, stops_between_words, heeds_select, gives_pulses, takes_pulses, sends_no_filler, cannot_enable}
use Rattle.module_rules.specs.Buffers.{empty_transmit, empty_receive, first_waiting}
use Rattle.module_rules.specs.Loading.{next_top, is_begun}

-- The numbers among the settings are those that their bits can hold, and enabled settings are allowed ones.
pub record SettingsHold (s : Settings) : Type 0 where
  pub sisel : s.sisel < 8
  pub spre : s.con1.spre < 8
  pub ppre : s.con1.ppre < 4
  pub allowed : s.spien ≡ true → cannot_enable s ≡ false

-- Bits sampled by the edges given so far.
unfoldable pub sampled : Bool → ℕ → ℕ
sampled cke edges = when cke then (edges + 1) / 2 else edges / 2

-- A begun word: within its 2w edges, its bits within the width, the clock where the edges left it, and SDO at the bit that
-- the last change showed. A filler is made of zeros and no silent module sends one. An SSEN client is selected, and the word it
-- sends is still the first that waits.
pub record ProgressHolds (s : Settings) (n : Engine) (p : Progress) : Type 0 where
  pub started : 1 ≤ p.edges
  pub short : p.edges < 2 * word_bits s
  pub word : p.word < 2 ^ word_bits s
  pub received : p.received < 2 ^ sampled (odd_sampled s) p.edges
  pub clock : n.pins.sck ≡ beq s.con1.ckp (eqb (p.edges % 2) 0)
  pub shows : n.pins.sdo ≡ bit_of p.word (word_bits s - 1 - (when odd_sampled s then p.edges else p.edges - 1) / 2)
  pub zeros : p.filler ≡ true → p.word ≡ 0
  pub host : sends_no_filler s ≡ true → p.filler ≡ false
  pub selected : heeds_select s ≡ true → n.pins.ss ≡ false
  pub first : heeds_select s ≡ true → p.filler ≡ false → (1 ≤ n.transmit.count) × (p.word ≡ first_waiting n.transmit)

-- The shift register. Free, nothing waits but in an SSEN client; loaded, it is no SSEN client and the word fits; in both
-- the clock of an unframed host with its own clock is idle.
abbrev pub ShiftHolds : Settings → Engine → Shift → Type 0
ShiftHolds s n Free =
    (heeds_select s ≡ false → n.transmit.count ≡ 0) × (s.spien ≡ true → stops_between_words s ≡ true → n.pins.sck ≡ s.con1.ckp)
ShiftHolds s n (Loaded word) =
    (heeds_select s ≡ false) × (word < 2 ^ word_bits s) × (stops_between_words s ≡ true → n.pins.sck ≡ s.con1.ckp)
ShiftHolds s n (Begun p) = ProgressHolds s n p

-- Disabled, both buffers and the shift register are empty.
pub record Emptied (n : Engine) : Type 0 where
  pub transmit : n.transmit ≡ empty_transmit
  pub receive : n.receive ≡ empty_receive
  pub shift : n.shift ≡ Free

-- With CKE 1 and no word begun SDO shows the top bit of the word to be sent next.
abbrev pub RestHolds : Settings → Engine → Type 0
RestHolds s n = s.spien ≡ true → odd_sampled s ≡ true → is_begun n.shift ≡ false → n.pins.sdo ≡ next_top s n.transmit n.shift

-- All of it but the pulse and the mark.
pub record ModuleHolds (m : Module) : Type 0 where
  pub settings : SettingsHold m.settings
  pub transmit : RingHolds (room m.settings) m.engine.transmit.write.0 m.engine.transmit.read.0 m.engine.transmit.count
  pub receive : RingHolds (room m.settings) m.engine.receive.write.0 m.engine.receive.read.0 m.engine.receive.count
  pub transmit_cells : length m.engine.transmit.words ≡ 16
  pub receive_cells : length m.engine.receive.words ≡ 16
  pub transmit_words : CellsHold (word_bits m.settings) m.engine.transmit.words
  pub receive_words : CellsHold (word_bits m.settings) m.engine.receive.words
  pub shift : ShiftHolds m.settings m.engine m.engine.shift
  pub emptied : m.settings.spien ≡ false → Emptied m.engine
  pub rest : RestHolds m.settings m.engine

-- What a standing pulse says of an enabled module. It is framed. A frame client has sampled it with no word under way. A
-- frame host gives it, with FRMDLY 0, for a loaded word or, on the last bit of a word, for one that waits; with FRMDLY 1,
-- with a word's first bit.
abbrev pub PulseFits : Settings → Engine → Shift → Type 0
PulseFits s n Free = takes_pulses s ≡ true
PulseFits s n (Loaded word) = (s.con2.frmen ≡ true) × (s.con2.frmdly ≡ true → s.con2.spifsd ≡ true)
PulseFits s n (Begun p) =
    (gives_pulses s ≡ true)
    × (s.con2.frmdly ≡ true → p.edges ≤ 2)
    × (s.con2.frmdly ≡ false → (p.edges + 1 ≡ 2 * word_bits s) × (1 ≤ n.transmit.count))

abbrev pub PulseHolds : Module → Type 0
PulseHolds m = m.settings.spien ≡ true → m.engine.pins.pulse ≡ true → PulseFits m.settings m.engine m.engine.shift

-- A marked receive buffer is one of enhanced operation, and full: no read takes a word from it.
abbrev pub MarkFits : Settings → Engine → Type 0
MarkFits s n = n.receive.marked ≡ true → (s.con2.spiben ≡ true) × (n.receive.count ≡ room s)

pub record Reached (m : Module) : Type 0 where
  pub holds : ModuleHolds m
  pub pulse : PulseHolds m
  pub mark : MarkFits m.settings m.engine
