-- Document 02, Nine, for whoever judges a card: the figures of a frame by its protocol, by the bits D of a sample and the clocks F of a
-- frame, with clocks, edges and channels counted from 0 since enabling. Channel j is a left one if j is even. No rule is named here.
use Rattle.std.specs.Prelude.{ℕ, ◌+◌, ◌*◌, ◌-◌, ◌/◌, ◌%◌, Bool, false, not, ◌&&◌, ◌||◌, List, [], ◌∷◌, ltb, leb, eqb, get_or}
use Rattle.std.specs.Bool.{beq}
use Rattle.laws.specs.Choice.{when◌then◌else◌}
use Rattle.word_order.specs.Bits.{bit_of}
use Rattle.word_order.specs.Ledger.{drops_new, Terms}
use Rattle.card_rules.specs.Settings.{Protocol, i2s, left_justified, right_justified, pcm, Settings}

-- A protocol's number, as calls give it.
abbrev pub protocol_number : Protocol → ℕ
protocol_number i2s = 0
protocol_number left_justified = 1
protocol_number right_justified = 2
protocol_number pcm = 3

-- The lengths and frames that the request names: D and F.
pub record Pair : Type 0 where
  pub bits : ℕ
  pub frame : ℕ

abbrev pub pair : ℕ → ℕ → Pair
pair bits frame = record { bits = bits; frame = frame }

abbrev pub pairs : List Pair
pairs = pair 16 32 ∷ pair 16 64 ∷ pair 24 64 ∷ pair 32 64 ∷ []

abbrev pub is_pair : ℕ → ℕ → List Pair → Bool
is_pair bits frame [] = false
is_pair bits frame (p ∷ ps) = (eqb bits p.bits && eqb frame p.frame) || is_pair bits frame ps

module _ (x : Settings) where
  -- a clock that is open before the first channel, in I2S and PCM/DSP
  abbrev pub ahead : ℕ
  ahead = when eqb (protocol_number x.protocol % 3) 0 then 1 else 0

  -- the right channel comes half a frame behind the left one, and in PCM/DSP directly behind its D bits
  abbrev pub apart : ℕ
  apart = when eqb (protocol_number x.protocol) 3 then x.bits else x.frame / 2

  -- the zeros before a right-justified sample
  abbrev pub zeros : ℕ
  zeros = when eqb (protocol_number x.protocol) 2 then x.frame / 2 - x.bits else 0

  -- The clock of channel j's first place, where its sample is taken, and of its bit i, 0 being the highest.
  abbrev pub first_clock : ℕ → ℕ
  first_clock j = j / 2 * x.frame + j % 2 * apart + ahead

  abbrev pub bit_clock : ℕ → ℕ → ℕ
  bit_clock j i = first_clock j + zeros + i

  -- Edge number n is the first one of a channel's first place.
  abbrev pub starts_channel : ℕ → Bool
  starts_channel n =
      eqb (n % 2) 0 && (leb ahead (n / 2) && (eqb ((n / 2 - ahead) % x.frame) 0 || eqb ((n / 2 - ahead) % x.frame) apart))

  -- After n edges the right channel has the next first place: its clocks since the left one's, up to its own.
  abbrev pub right_follows : ℕ → Bool
  right_follows n =
      ltb ahead ((n + 1) / 2) && (leb 1 (((n + 1) / 2 - ahead) % x.frame) && leb (((n + 1) / 2 - ahead) % x.frame) apart)

  -- After n edges: SCK idles high in I2S alone and has changed n times; LRCK is low for the left half in I2S, high for it in the justified
  -- protocols, high in a frame's first clock alone in PCM/DSP, and before the first edge as it is when the left channel is not.
  abbrev pub is_i2s : Bool
  is_i2s = eqb (protocol_number x.protocol) 0

  abbrev pub sck_expected : ℕ → Bool
  sck_expected n = beq (eqb (n % 2) 0) is_i2s

  abbrev pub lrck_active : ℕ → Bool
  lrck_active n =
      leb 1 n && ltb ((n - 1) / 2 % x.frame) (when eqb (protocol_number x.protocol) 3 then 1 else x.frame / 2)

  abbrev pub lrck_expected : ℕ → Bool
  lrck_expected n = when is_i2s then not (lrck_active n) else lrck_active n

  -- The channel that clock k lies in, and the clock's number within it, both counted from 0.
  abbrev pub is_right : ℕ → Bool
  is_right k = leb apart ((k - ahead) % x.frame)

  abbrev pub channel_of : ℕ → ℕ
  channel_of k = 2 * ((k - ahead) / x.frame) + (when is_right k then 1 else 0)

  abbrev pub clock_of : ℕ → ℕ
  clock_of k = (k - ahead) % x.frame - (when is_right k then apart else 0)

  -- What SDO shows after n edges, by the samples that the channels took: the bit that the last clock has, and 0 where it has none.
  abbrev pub bit_shown : List ℕ → ℕ → Bool
  bit_shown took k =
      leb ahead k
      && (leb zeros (clock_of k)
      && (ltb (clock_of k) (zeros + x.bits) && bit_of (get_or took (channel_of k) 0) (x.bits - 1 - (clock_of k - zeros))))

  abbrev pub sdo_expected : List ℕ → ℕ → Bool
  sdo_expected took n = leb 1 n && bit_shown took ((n - 1) / 2)

  -- What the law of word order must know: a sample has D bits; eight are held; one that finds them unread is dropped, and reception goes
  -- on; SDO and SDI are sampled at the second edge of each clock with a bit, the last of which finishes the sample; and zeros go out where
  -- no sample waits.
  abbrev pub card_terms : Terms
  card_terms =
      record {
        width = x.bits;
        depth = 8;
        policy = drops_new false;
        samples = λ e. eqb (e % 2) 0 && ltb (2 * zeros) e;
        last = 2 * (zeros + x.bits);
        silent = false;
      }
