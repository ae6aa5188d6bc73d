-- What calls keep of a card.
use Rattle.std.specs.Prelude.{◌+◌, ◌-◌, ◌/◌, ◌^◌, ◌≤◌, ◌<◌, true, false, ◌≡◌}
use Rattle.word_order.specs.Ledger.{drops_new, Terms}
use Rattle.word_order.specs.Port.{Under, Way, idle, sends, ShowsOn}
use Rattle.card_rules.specs.Settings.{named, Shape, shape_of}
use Rattle.card_rules.specs.Card.{Card, emptied}
use Rattle.card_rules.specs.Edge.{samples, last_edge}

-- What the placing rests on: a sample has bits, and ends before the other channel begins and before the next frame's own.
pub record Fits (s : Shape) : Type 0 where
  pub some : 1 ≤ s.bits
  pub most : s.bits ≤ 32
  pub left : s.lead + s.bits ≤ s.step
  pub right : s.step + (s.lead + s.bits) ≤ s.frame
  pub inside : s.before + s.step < s.frame

-- The law's terms by the card's rules.
abbrev pub terms_of : Shape → Terms
terms_of s =
    record { width = s.bits; depth = 8; policy = drops_new false; samples = samples s; last = last_edge s; silent = false }

-- A sample under way is short of its last edge, and has received no more than its bits so far.
pub record Within (s : Shape) (u : Under) : Type 0 where
  pub short : u.edges < last_edge s
  pub few : u.received < 2 ^ (u.edges / 2 - s.lead)

abbrev pub WithinOn : Shape → Way → Type 0
WithinOn s idle = Unit {0}
WithinOn s (sends u) = Within s u

pub record Holds (m : Card) : Type 0 where
  pub names : named m.settings.bits m.settings.frame ≡ true
  pub shows : ShowsOn (terms_of (shape_of m.settings)) m.engine.pins.sdo m.engine.way
  pub within : WithinOn (shape_of m.settings) m.engine.way
  pub rests : m.enabled ≡ false → m.engine ≡ emptied m.engine.pins m.engine.flags
