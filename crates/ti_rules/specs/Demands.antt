-- The customer's demands on the TI module (document 02, Ten). The record TiDemands holds every statement, and proofs/DemandsHold.antt proves
-- it. Word order is the law of crate word_order, at the watcher and the terms of specs/Watch.antt.
use Rattle.std.specs.Prelude.{ℕ, ◌+◌, ◌*◌, ◌^◌, ◌<◌, ◌≤◌, Bool, true, false, not, ◌&&◌, ◌||◌, List, [], ◌∷◌, ◌≡◌, eqb, length}
use Rattle.std.specs.Float.{binary64}
use Rattle.std.specs.Float.Ieee.{round}
use Rattle.laws.specs.Choice.{when◌then◌else◌}
use Rattle.word_order.specs.Machine.{Watched, watched_call, InOrder}
use Rattle.floats.specs.Whole.{float_of}
use Rattle.ti_rules.specs.declared.Settings.{Settings}
use Rattle.ti_rules.specs.declared.Ti.{Ti}
use Rattle.ti_rules.specs.declared.Refusal.{Refusal}
use Rattle.ti_rules.specs.declared.Answer.{Answer}
use Rattle.ti_rules.specs.declared.Answer.TheVariants.{Refused}
use Rattle.ti_rules.specs.declared.Outcome.{Outcome}
use Rattle.ti_rules.specs.declared.Call.{Call}
use Rattle.ti_rules.specs.declared.Call.TheVariants.{Enter, Leave, Mode, Length, Write, Read, Tick, Pin, Clear}
use Rattle.ti_rules.specs.declared.Output.TheVariants.{Undriven}
use Rattle.ti_rules.specs.Refusals.{said_of}
use Rattle.ti_rules.specs.Settings.{powered_up}
use Rattle.ti_rules.specs.Calls.{perform_of, interrupt_of, transmit_full_of, overrun_of, sdo_of}
use Rattle.ti_rules.specs.Clock.{rate_of}
use Rattle.ti_rules.specs.Examples.{examples, rate_examples}
use Rattle.ti_rules.specs.Watch.{watching, life}
use Rattle.ti_rules.specs.Flags.{mode_asked, length_asked, sck_asked, select_asked, did, gave, made_edge, grew_lost, grew_finished, left_over, some_wait, sdo_seen, pin_seen, enters_reset, leaves_reset, sets_mode, sets_length, is_pin_call, clears_overrun}
use Rattle.ti_rules.specs.RefusalTable.{rows, first_number}

-- Every call is answered: a read tells a character, a tick makes an edge or none, any other call is done (specs/Refusals.antt numbers the
-- kinds).
abbrev pub kinds_for : Call → List ℕ
kinds_for Enter = 1 ∷ []
kinds_for Leave = 1 ∷ []
kinds_for (Mode master talk polarity phase) = 1 ∷ []
kinds_for (Length n) = 1 ∷ []
kinds_for (Write v) = 1 ∷ []
kinds_for Read = 2 ∷ []
kinds_for (Tick sdi) = 3 ∷ 4 ∷ []
kinds_for (Pin sck sdi select) = 1 ∷ []
kinds_for Clear = 1 ∷ []

abbrev pub among : ℕ → List ℕ → Bool
among k [] = false
among k (x ∷ xs) = eqb k x || among k xs

-- A call is refused exactly when a row of the table applies, with the number of the first that does, and then leaves the module as it was.
-- This holds of every record, reached by calls or not. An equation with a function leaves no two outcomes.
pub record Answered : Type 0 where
  pub refused_exactly : (m : Ti) (c : Call) → (said_of (perform_of m c).answer).number ≡ first_number (rows m c)
  pub refused_unchanged : (m : Ti) (c : Call) (r : Refusal) → (perform_of m c).answer ≡ Refused r → (perform_of m c).after ≡ m
  pub in_kind : (m : Ti) (c : Call) → among (said_of (perform_of m c).answer).kind (0 ∷ kinds_for c) ≡ true
  pub one_outcome : (m : Ti) (c : Call) (x y : Outcome) → x ≡ perform_of m c → y ≡ perform_of m c → x ≡ y

-- Power-up (002, 1.4.4): in reset, a slave, talk off, polarity 0, phase 0, length 1, no flag, and nobody drives the output.
abbrev pub mode_levels : Settings → List Bool
mode_levels s = s.master ∷ s.talk ∷ s.polarity ∷ s.phase ∷ []

pub record AtPowerUp (m : Ti) : Type 0 where
  pub reset : m.reset ≡ true
  pub mode : mode_levels m.settings ≡ (false ∷ false ∷ false ∷ false ∷ [])
  pub length : m.settings.length ≡ 1
  pub interrupt : interrupt_of m ≡ false
  pub transmit_full : transmit_full_of m ≡ false
  pub overrun : overrun_of m ≡ false
  pub sdo : sdo_of m ≡ Undriven
  pub sck : m.engine.pins.sck ≡ false

-- What a call changes. Settings are as the last done call left them. The interrupt flag goes up as a character is finished, zeros among them,
-- and down by a read or by reset. The overrun flag goes up exactly as the number of lost characters grew at this call, and down by its call or
-- by reset. The clock rests in reset, is turned by a tick's edge and is what a pin call showed; select is what a pin call showed. The output is
-- at each edge, and between edges, the bit that is due.
pub record CallChanges (x : Watched watching) (c : Call) (a : Answer) (y : Watched watching) : Type 0 where
  pub reset : y.now.reset ≡ (enters_reset c || (not (leaves_reset c) && x.now.reset))
  pub mode : mode_levels y.now.settings ≡ (when did (sets_mode c) a then mode_asked c else mode_levels x.now.settings)
  pub length : y.now.settings.length ≡ (when did (sets_length c) a then length_asked c else x.now.settings.length)
  pub interrupt : interrupt_of y.now
      ≡ (not (enters_reset c) && (not (gave a) && (interrupt_of x.now || grew_finished x.ledger y.ledger)))
  pub overrun : overrun_of y.now
      ≡ (not (enters_reset c) && (not (clears_overrun c) && (overrun_of x.now || grew_lost x.ledger y.ledger)))
  pub sck : y.now.engine.pins.sck
      ≡ (when y.now.reset then y.now.settings.polarity
      else when made_edge a then not x.now.engine.pins.sck
      else when did (is_pin_call c) a then sck_asked c
      else x.now.engine.pins.sck)
  pub select : y.now.engine.pins.select
      ≡ (when y.now.reset then true else when did (is_pin_call c) a then select_asked c else x.now.engine.pins.select)
  pub sdo : y.now.engine.pins.sdo
      ≡ (when y.now.reset then false else sdo_seen y.now.settings x.now.engine.pins.sdo y.ledger)

-- What is seen between calls: the transmit buffer is full while a character waits behind the one in the shift register; the output as others
-- see it; and out of reset a master's tick makes an edge exactly while something is to be sent.
pub record Shows (y : Watched watching) : Type 0 where
  pub transmit_full : transmit_full_of y.now ≡ (not y.now.reset && some_wait y.ledger)
  pub sdo : sdo_of y.now ≡ pin_seen y.now
  pub ticks : not y.now.reset ≡ true → y.now.settings.master ≡ true → (sdi : Bool) →
      (said_of (perform_of y.now (Tick sdi)).answer).kind ≡ (when eqb (length (left_over y.ledger)) 0 then 3 else 4)

-- The rate of a master for an LSPCLK of 32 bits: the fraction rounded once, which is the whole quotient where the divider divides, and 0 for
-- LSPCLK 0. SPIBRR counts by its low seven bits.
pub record Rates : Type 0 where
  pub slow : (brr more lspclk : ℕ) → brr ≤ 127 → 3 ≤ brr → lspclk < 2 ^ 32 →
      rate_of (brr + 128 * more) lspclk ≡ round binary64 false lspclk (brr + 1)
  pub fast : (brr more lspclk : ℕ) → brr ≤ 2 → lspclk < 2 ^ 32 →
      rate_of (brr + 128 * more) lspclk ≡ round binary64 false lspclk 4
  pub exact : (d q : ℕ) → 1 ≤ d → round binary64 false (q * d) d ≡ float_of q
  pub none : (spibrr : ℕ) → rate_of spibrr 0 ≡ float_of 0

-- What the buyer signs for.
pub record TiDemands : Type 0 where
  pub answered : Answered
  pub worked : (examples ≡ true) × (rate_examples ≡ true)
  pub at_power_up : AtPowerUp powered_up
  pub lengths : (cs : List Call) → (1 ≤ (life cs).now.settings.length) × ((life cs).now.settings.length ≤ 16)
  pub changes : (cs : List Call) (c : Call) →
      CallChanges (life cs) c (perform_of (life cs).now c).answer (watched_call watching (life cs) c)
  pub shows : (cs : List Call) → Shows (life cs)
  pub word_order : (cs : List Call) → not (life cs).now.reset ≡ true → InOrder watching (life cs)
  pub rates : Rates
