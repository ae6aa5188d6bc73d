-- Document 02, Nine, and document 000, 4.5: one edge of an enabled card. The first edge of a clock changes LRCK and SDO, the second
-- samples SDI. An edge does three things in this order: a sample may begin; the sample under way is given the edge, or the clock is
-- open; and the frame goes on.
use Rattle.std.specs.Prelude.{ℕ, ◌+◌, ◌*◌, ◌-◌, ◌/◌, ◌%◌, Bool, true, false, not, ◌&&◌, ◌||◌, List, [], ◌∷◌, ◌++◌, ltb, leb, eqb, length}
use mir.Val.{bool_byte}
use Rattle.laws.specs.Choice.{when◌then◌else◌}
use Rattle.ring.specs.Ring.{next}
use Rattle.word_order.specs.Bits.{bit_of}
use Rattle.word_order.specs.Port.{Under, Way, idle, sends}
use Rattle.card_rules.specs.Settings.{Shape}
use Rattle.card_rules.specs.Card.{Engine, with_waiting, with_way, with_unread, with_underrun, with_overflow, with_sdo}

-- A channel's first place: the first edge of that clock comes next.
unfoldable pub at_first_place : Shape → ℕ → Bool
at_first_place s place = eqb place (2 * s.before) || eqb place (2 * (s.before + s.step))

-- A sample begins: the first one waiting; or zeros if none waits, which sets the underrun flag.
abbrev pub fresh : Bool → ℕ → Way
fresh zeros sample = sends (record { filler = zeros; word = sample; edges = 0; received = 0 })

abbrev pub taken : List ℕ → Engine → Engine
taken [] n = with_way (fresh true 0) (with_underrun true n)
taken (sample ∷ rest) n = with_way (fresh false sample) (with_waiting rest n)

-- One under way is never cut; the placing proves that none is at a first place.
abbrev pub begun_from : Way → Engine → Engine
begun_from idle n = taken n.waiting n
begun_from (sends u) n = n

unfoldable pub begun : Shape → Engine → Engine
begun s n = when at_first_place s n.place then begun_from n.way n else n

-- The edges of a sample, counted from 1 at its channel's first place, at which SDI is sampled: the second one of each clock that has a bit.
unfoldable pub samples : Shape → ℕ → Bool
samples s edge = eqb (edge % 2) 0 && ltb (2 * s.lead) edge

-- The edge that finishes it: the one that samples its lowest bit.
abbrev pub last_edge : Shape → ℕ
last_edge s = 2 * (s.lead + s.bits)

-- A bit enters the shift register of 32 bits behind those before it.
unfoldable pub shifted_in : ℕ → Bool → ℕ
shifted_in received sdi = (received * 2 + bool_byte sdi) % 4294967296

unfoldable pub received_after : Shape → Bool → Under → ℕ
received_after s sdi u = when samples s (u.edges + 1) then shifted_in u.received sdi else u.received

-- What SDO shows in clock `k` of a channel, counted from its first place: zeros, then the sample's bits, highest first, then zeros.
unfoldable pub channel_bit : Shape → ℕ → ℕ → Bool
channel_bit s sample k =
    when leb s.lead k && ltb k (s.lead + s.bits) then bit_of sample (s.bits - 1 - (k - s.lead)) else false

-- An edge of a sample short of its last.
unfoldable pub shifted : Shape → Bool → Under → Engine → Engine
shifted s sdi u n =
    with_way (sends (record { filler = u.filler; word = u.word; edges = u.edges + 1; received = received_after s sdi u }))
    (with_sdo (when eqb (u.edges % 2) 0 then channel_bit s u.word (u.edges / 2) else n.pins.sdo) n)

-- Its last edge: the received sample stands last among those unread, or finds eight of them, is dropped and sets the overflow flag.
unfoldable pub is_full : List ℕ → Bool
is_full samples = leb 8 (length samples)

unfoldable pub finished : ℕ → Engine → Engine
finished received n =
    with_way idle
    (when is_full n.unread then with_overflow true n else with_unread (n.unread ++ (received ∷ [])) n)

-- An edge of an open clock: SDO shows 0, and SDI is not sampled.
unfoldable pub opened : Engine → Engine
opened n = with_sdo (when eqb (n.place % 2) 0 then false else n.pins.sdo) n

abbrev pub clocked_as : Shape → Bool → Way → Engine → Engine
clocked_as s sdi idle n = opened n
clocked_as s sdi (sends u) n =
    when ltb (u.edges + 1) (last_edge s) then shifted s sdi u n else finished (received_after s sdi u) n

unfoldable pub clocked : Shape → Bool → Engine → Engine
clocked s sdi n = clocked_as s sdi n.way n

-- The frame goes on by an edge: SCK changes, LRCK shows what the frame has there, and behind the last edge comes the first.
unfoldable pub lrck_at : Shape → ℕ → Bool
lrck_at s place = when ltb place (2 * s.active) then not s.rest else s.rest

unfoldable pub turned : Shape → Engine → Engine
turned s n =
    record {
      place = next (2 * s.frame) n.place;
      waiting = n.waiting;
      way = n.way;
      unread = n.unread;
      pins = record { sck = not n.pins.sck; lrck = lrck_at s n.place; sdo = n.pins.sdo };
      flags = n.flags;
    }

abbrev pub edged : Shape → Bool → Engine → Engine
edged s sdi n = turned s (clocked s sdi (begun s n))
