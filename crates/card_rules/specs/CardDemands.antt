-- The page of the audio card: what a buyer may hold it to, in the words and figures of document 02, Nine. Figures names them, and Watch the
-- one who watches. Every statement is over all calls from power-up.
use Rattle.std.specs.Prelude.{ℕ, ◌+◌, ◌*◌, ◌-◌, ◌/◌, ◌^◌, ◌%◌, ◌<◌, ◌≤◌, Bool, true, false, not, ◌&&◌, ◌||◌, List, [], ◌∷◌, ◌++◌, ◌≡◌, ltb, leb, eqb, length, get_or, drop}
use Rattle.std.specs.Bool.{beq}
use Rattle.laws.specs.Choice.{when◌then◌else◌}
use Rattle.word_order.specs.Bits.{bit_of}
use Rattle.word_order.specs.Ledger.{lost_of}
use Rattle.word_order.specs.Machine.{Watched, watched_call, InOrder}
use Rattle.card_rules.specs.Settings.{Settings}
use Rattle.card_rules.specs.Card.{Card}
use Rattle.card_rules.specs.Calls.{Call, set_protocol, set_length, enable, disable, write, read, edge, clear_underrun, clear_overflow, perform_of, perform, said_of, Output, low, high, undriven, sdo_of, right_next}
use Rattle.card_rules.specs.Figures.{protocol_number, pairs, is_pair, bit_clock, starts_channel, right_follows, sck_expected, lrck_expected, sdo_expected}
use Rattle.card_rules.specs.Watch.{watching, powered_up_card, life}

-- What a call asks for, in numbers: its kind, and what it carries.
pub record CardAsks : Type 0 where
  pub kind : ℕ
  pub first : ℕ
  pub second : ℕ

abbrev pub asking : ℕ → ℕ → ℕ → CardAsks
asking kind first second = record { kind = kind; first = first; second = second }

abbrev pub asks : Call → CardAsks
asks (set_protocol p) = asking 0 (protocol_number p) 0
asks (set_length bits frame) = asking 1 bits frame
asks enable = asking 2 0 0
asks disable = asking 3 0 0
asks (write v) = asking 4 v 0
asks read = asking 5 0 0
asks (edge sdi) = asking 6 0 0
asks clear_underrun = asking 7 0 0
asks clear_overflow = asking 8 0 0

abbrev pub is_kind : ℕ → Call → Bool
is_kind kind c = eqb (asks c).kind kind

-- Refusals: the rows in the order of the tests. The first that applies gives its number, and none gives 0.
pub record Row : Type 0 where
  pub number : ℕ
  pub applies : Bool

abbrev pub row : ℕ → Bool → Row
row number applies = record { number = number; applies = applies }

abbrev pub first_number : List Row → ℕ
first_number [] = 0
first_number (r ∷ rows) = when r.applies then r.number else first_number rows

abbrev pub rows : Card → Call → List Row
rows m c =
    -- card disabled: a sample written or read, an edge
    row 2 (not m.enabled && (is_kind 4 c || (is_kind 5 c || is_kind 6 c)))
    -- protocol, length or frame set while enabled
    ∷ row 3 (m.enabled && (is_kind 0 c || is_kind 1 c))
    -- eight samples waiting
    ∷ row 5 (is_kind 4 c && leb 8 (length m.engine.waiting))
    -- no sample unread
    ∷ row 6 (is_kind 5 c && eqb (length m.engine.unread) 0)
    -- a length and frame that are not named
    ∷ row 23 (is_kind 1 c && not (is_pair (asks c).first (asks c).second pairs))
    ∷ []

pub record Answered : Type 0 where
  pub refused_exactly : (m : Card) (c : Call) → (said_of (perform_of m c).answer).number ≡ first_number (rows m c)
  pub refused_unchanged : (m : Card) (c : Call) → ltb 0 (first_number (rows m c)) ≡ true → perform m c ≡ m
  -- a read tells the first unread sample, and no other call tells anything
  pub tells : (m : Card) (c : Call) →
      (said_of (perform_of m c).answer).told ≡ (when m.enabled && is_kind 5 c then get_or m.engine.unread 0 0 else 0)

-- What a call changes, by the card before and after it and the refusal number that was said.
module _ (x y : Watched watching) (c : Call) (said : ℕ) where
  abbrev pub was_done : ℕ → Bool
  was_done kind = is_kind kind c && eqb said 0

  -- a sample is taken here: an edge was made where a channel starts
  abbrev pub takes : Bool
  takes = was_done 6 && starts_channel x.now.settings x.memory

  abbrev pub waiting_expected : List ℕ
  waiting_expected =
      when was_done 4 then x.now.engine.waiting ++ ((asks c).first % 2 ^ x.now.settings.bits ∷ [])
      else when takes then drop 1 x.now.engine.waiting
      else when beq x.now.enabled y.now.enabled then x.now.engine.waiting
      else []

  pub record Changes : Type 0 where
    pub enabled : y.now.enabled ≡ (is_kind 2 c || (x.now.enabled && not (is_kind 3 c)))
    pub protocol : protocol_number y.now.settings.protocol
        ≡ (when was_done 0 then (asks c).first else protocol_number x.now.settings.protocol)
    pub bits : y.now.settings.bits ≡ (when was_done 1 then (asks c).first else x.now.settings.bits)
    pub frame : y.now.settings.frame ≡ (when was_done 1 then (asks c).second else x.now.settings.frame)
    -- set exactly where a sample is taken and none waits, and cleared by its own call alone
    pub underrun : y.now.engine.flags.underrun
        ≡ (not (is_kind 7 c) && (x.now.engine.flags.underrun || (takes && eqb (length x.now.engine.waiting) 0)))
    -- set exactly where a received sample is lost, and cleared by its own call alone
    pub overflow : y.now.engine.flags.overflow
        ≡ (not (is_kind 8 c) && (x.now.engine.flags.overflow || ltb (lost_of x.ledger) (lost_of y.ledger)))
    pub waiting : y.now.engine.waiting ≡ waiting_expected
    -- a disabled card holds nothing, and its pins keep their levels
    pub unread : not y.now.enabled ≡ true → y.now.engine.unread ≡ []
    pub sck : not y.now.enabled ≡ true → y.now.engine.pins.sck ≡ x.now.engine.pins.sck
    pub lrck : not y.now.enabled ≡ true → y.now.engine.pins.lrck ≡ x.now.engine.pins.lrck
    pub level : not y.now.enabled ≡ true → y.now.engine.pins.sdo ≡ x.now.engine.pins.sdo

-- The samples that channels took since enabling: the first one waiting, zeros if there was none.
abbrev pub took_after : Watched watching → List ℕ → Call → List ℕ
took_after x took c =
    when is_kind 2 c && not x.now.enabled then []
    else when (x.now.enabled && is_kind 6 c) && starts_channel x.now.settings x.memory
    then took ++ (get_or x.now.engine.waiting 0 0 ∷ [])
    else took

abbrev pub took_from : Watched watching → List ℕ → List Call → List ℕ
took_from x took [] = took
took_from x took (c ∷ cs) = took_from (watched_call watching x c) (took_after x took c) cs

abbrev pub took : List Call → List ℕ
took cs = took_from powered_up_card [] cs

-- What shows at the pins of an enabled card, by its edges since enabling.
pub record Shows (y : Watched watching) (samples : List ℕ) : Type 0 where
  pub sck : y.now.engine.pins.sck ≡ sck_expected y.now.settings y.memory
  pub lrck : y.now.engine.pins.lrck ≡ lrck_expected y.now.settings y.memory
  pub sdo : y.now.engine.pins.sdo ≡ sdo_expected y.now.settings samples y.memory
  pub channel : right_next y.now ≡ right_follows y.now.settings y.memory

-- SDO as others see it, and the next channel of a disabled card.
abbrev pub output_seen : Card → Output
output_seen m = when m.enabled then (when m.engine.pins.sdo then high else low) else undriven

-- The placing of bits: after n edges, bit i of channel j is on SDO in its clock, and in every other clock SDO is 0.
pub record Placed (x : Settings) (samples : List ℕ) (clock : ℕ) (sdo : Bool) : Type 0 where
  pub bit : (j i : ℕ) → i < x.bits → clock ≡ bit_clock x j i → sdo ≡ bit_of (get_or samples j 0) (x.bits - 1 - i)
  pub other : ((j i : ℕ) → i < x.bits → clock ≡ bit_clock x j i → ⊥) → sdo ≡ false

pub record CardDemands : Type 0 where
  -- demand 1 and 2: refusals, and every view after every call
  pub answered : Answered
  pub changes : (cs : List Call) (c : Call) →
      Changes (life cs) (watched_call watching (life cs) c) c (said_of (perform_of (life cs).now c).answer).number
  pub shows : (cs : List Call) → (life cs).now.enabled ≡ true → Shows (life cs) (took cs)
  pub output : (m : Card) → sdo_of m ≡ output_seen m
  pub rests : (cs : List Call) → (life cs).now.enabled ≡ false → right_next (life cs).now ≡ false
  -- the placing of bits, and that SDI is heard in no clock without one, nor at a clock's first edge
  pub placed : (cs : List Call) → (life cs).now.enabled ≡ true → 1 ≤ (life cs).memory →
      Placed (life cs).now.settings (took cs) (((life cs).memory - 1) / 2) (life cs).now.engine.pins.sdo
  pub unheard : (cs : List Call) → (life cs).now.enabled ≡ true →
      ((j i : ℕ) → i < (life cs).now.settings.bits → (life cs).memory ≡ 2 * bit_clock (life cs).now.settings j i + 1 → ⊥) →
      perform (life cs).now (edge true) ≡ perform (life cs).now (edge false)
  -- demand 3: the word order
  pub word_order : (cs : List Call) → (life cs).now.enabled ≡ true → InOrder watching (life cs)
