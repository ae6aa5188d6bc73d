-- Demand 2 in the paper's words: every bit of a register read, the interrupt flag, SPIROV and the pins, by the words that
-- wait and are unread and by what the ledger saw, before a call and after it.
use Rattle.std.specs.Prelude.{ℕ, ◌+◌, ◌*◌, ◌-◌, ◌/◌, ◌^◌, Bool, false, not, ◌&&◌, ◌||◌, List, [], ◌∷◌, map, eqb, ltb, leb, length, get_or}
use Rattle.std.specs.Bool.{beq}
use mir.Val.{bool_byte}
use Rattle.laws.specs.Choice.{when◌then◌else◌}
use Rattle.word_order.specs.Bits.{bit_of}
use Rattle.word_order.specs.Ledger.{Wire, quiet, busy, is_quiet, Ledger, sent, lost_of, left_to_send}
use Rattle.module_types.specs.declared.Con1.{Con1}
use Rattle.module_types.specs.declared.Con2.{Con2}
use Rattle.module_types.specs.declared.Settings.{Settings}
use Rattle.module_types.specs.declared.Module.{Module}
use Rattle.module_types.specs.declared.Output.{Output}
use Rattle.module_types.specs.declared.Output.TheVariants.{Low, High, Undriven}
use Rattle.module_rules.specs.InBits.{word_bits, room, odd_sampled, heeds_select, gives_pulses}
use Rattle.module_rules.specs.Words.{waiting_in, unread_in, left_buffer}
use Rattle.module_rules.specs.Watch.{Watched}

-- A bit at its place in a register, and the number that such bits make.
pub record Placed : Type 0 where
  pub bit : Bool
  pub place : ℕ

abbrev pub bit : ℕ → Bool → Placed
bit place b = record { bit = b; place = place }

abbrev pub number_in : List Placed → ℕ
number_in [] = 0
number_in (p ∷ rest) = bool_byte p.bit * 2 ^ p.place + number_in rest

-- The same places with the bits that a value has there.
abbrev pub written_to : ℕ → List Placed → List Placed
written_to v = map (λ p. bit p.place (bit_of v p.place))

-- The bits that register writes take. STAT: SPIEN 15, SPISIDL 13, SISEL 4-2.
abbrev pub stat_kept : Settings → List Placed
stat_kept s = bit 15 s.spien ∷ bit 13 s.spisidl ∷ bit 4 (bit_of s.sisel 2) ∷ bit 3 (bit_of s.sisel 1) ∷ bit 2 (bit_of s.sisel 0) ∷ []

-- CON1: DISSCK 12, DISSDO 11, MODE16 10, SMP 9, CKE 8, SSEN 7, CKP 6, MSTEN 5, SPRE 4-2, PPRE 1-0. Reads show these.
abbrev pub con1_bits : Con1 → List Placed
con1_bits c =
    bit 12 c.dissck
    ∷ bit 11 c.dissdo
    ∷ bit 10 c.mode16
    ∷ bit 9 c.smp
    ∷ bit 8 c.cke
    ∷ bit 7 c.ssen
    ∷ bit 6 c.ckp
    ∷ bit 5 c.msten
    ∷ bit 4 (bit_of c.spre 2)
    ∷ bit 3 (bit_of c.spre 1)
    ∷ bit 2 (bit_of c.spre 0)
    ∷ bit 1 (bit_of c.ppre 1)
    ∷ bit 0 (bit_of c.ppre 0)
    ∷ []

-- CON2: FRMEN 15, SPIFSD 14, FRMPOL 13, FRMDLY 1, SPIBEN 0. Reads show these.
abbrev pub con2_bits : Con2 → List Placed
con2_bits c = bit 15 c.frmen ∷ bit 14 c.spifsd ∷ bit 13 c.frmpol ∷ bit 1 c.frmdly ∷ bit 0 c.spiben ∷ []

-- What a STAT read shows. SPIBEC, SRMPT and SRXMPT show something in enhanced operation and while enabled: words waiting (host) or
-- unread (client), with more than 7 shown as 7 (document 02, Twelve); no word loaded or begun, so that nothing has left the transmit buffer unfinished and the wire
-- is quiet; the receive buffer empty. SPITBF and SPIRBF: that buffer is full.
abbrev pub counts : Module → ℕ
counts m = length (when m.settings.con1.msten then waiting_in m else unread_in m)

abbrev pub spibec_shown : Module → ℕ
spibec_shown m = when m.settings.spien && m.settings.con2.spiben then (when ltb 7 (counts m) then 7 else counts m) else 0

abbrev pub shifts_none : Watched → Bool
shifts_none x = eqb (length (left_buffer x.now)) 0 && is_quiet x.ledger.wire

abbrev pub stat_bits : Watched → List Placed
stat_bits x =
    let s : Settings = x.now.settings in
    let shows : Bool = s.spien && s.con2.spiben in
    bit 15 s.spien
    ∷ bit 13 s.spisidl
    ∷ bit 10 (bit_of (spibec_shown x.now) 2)
    ∷ bit 9 (bit_of (spibec_shown x.now) 1)
    ∷ bit 8 (bit_of (spibec_shown x.now) 0)
    ∷ bit 7 (shows && shifts_none x)
    ∷ bit 6 x.now.engine.spirov
    ∷ bit 5 (shows && eqb (length (unread_in x.now)) 0)
    ∷ bit 4 (bit_of s.sisel 2)
    ∷ bit 3 (bit_of s.sisel 1)
    ∷ bit 2 (bit_of s.sisel 0)
    ∷ bit 1 (eqb (length (waiting_in x.now)) (room s))
    ∷ bit 0 (eqb (length (unread_in x.now)) (room s))
    ∷ []

-- What is seen of a call.
pub record Seen : Type 0 where
  -- a word was accepted, read, finished, lost
  pub accepted : Bool
  pub read : Bool
  pub finished : Bool
  pub lost : Bool
  -- one was added to those unread, and one left the transmit buffer
  pub added : Bool
  pub left : Bool
  -- the words that are then unread and waiting, and whether none is left to send
  pub unread : ℕ
  pub waiting : ℕ
  pub none : Bool

-- It is seen by what stood before the call (x) and after it (y). A word that passes through the buffer within a BUF write has left it;
-- emptying by disabling is no leaving.
abbrev pub longer {ℓ} : {A : Type ℓ} → List A → List A → Bool
longer xs ys = ltb (length xs) (length ys)

abbrev pub sees_accepted : Watched → Watched → Bool
sees_accepted x y = longer x.ledger.accepted y.ledger.accepted

abbrev pub seen : Watched → Watched → Seen
seen x y =
    record {
      accepted = sees_accepted x y;
      read = longer x.ledger.read y.ledger.read;
      finished = longer x.ledger.arrivals y.ledger.arrivals;
      lost = ltb (lost_of x.ledger) (lost_of y.ledger);
      added = longer (unread_in x.now) (unread_in y.now);
      left =
          y.now.settings.spien
          && ltb (length (waiting_in y.now)) (length (waiting_in x.now) + bool_byte (sees_accepted x y));
      unread = length (unread_in y.now);
      waiting = length (waiting_in y.now);
      none = not (left_to_send y.ledger);
    }

-- The interrupt conditions: in standard operation every finish; in enhanced operation, at a depth, by SISEL 0 to 7.
abbrev pub conditions : ℕ → Seen → List Bool
conditions depth v =
    -- a read empties the receive buffer
    (v.read && eqb v.unread 0)
    -- a word is appended; that leaves three quarters of the depth or more; that leaves the depth
    ∷ v.added
    ∷ (v.added && leb (3 * depth) (4 * v.unread))
    ∷ (v.added && eqb v.unread depth)
    -- a word leaves the transmit buffer with one less than the depth left
    ∷ (v.left && eqb (v.waiting + 1) depth)
    -- a finish with nothing left to send
    ∷ (v.finished && v.none)
    -- a word leaves the transmit buffer with none left
    ∷ (v.left && eqb v.waiting 0)
    -- a write leaves the depth waiting
    ∷ (v.accepted && eqb v.waiting depth)
    ∷ []

abbrev pub raised : Settings → Seen → Bool
raised s v = when s.con2.spiben then get_or (conditions (room s) v) s.sisel false else v.finished

-- The word on the wire, or the next to be sent: the first accepted word that is not sent. With none, and for a filler, zeros.
abbrev pub first_unsent : Ledger → ℕ
first_unsent l = get_or l.accepted (length (sent l)) 0

-- The level that SDO has or would have after a call, by the level before it. Within a word: with CKE 0 edges 1 and 2 show
-- the top bit, 3 and 4 the next, and so on; with CKE 1 edge 1 still shows the top bit, 2 and 3 the next. Between words:
-- with CKE 1 the top bit of the word to be sent next, with CKE 0 as before.
abbrev pub level_shown : Settings → Ledger → Wire → Bool → Bool
level_shown s l quiet before = when odd_sampled s then bit_of (first_unsent l) (word_bits s - 1) else before
level_shown s l (busy w) before =
    bit_of (when w.filler then 0 else first_unsent l)
    (word_bits s - 1 - (when odd_sampled s then w.edges else w.edges - 1) / 2)

-- Enabling sets SDO to 0, and while disabled it stays.
abbrev pub sdo_shown : Watched → Watched → Bool
sdo_shown x y =
    when y.now.settings.spien
    then level_shown y.now.settings y.ledger y.ledger.wire (x.now.settings.spien && x.now.engine.pins.sdo)
    else x.now.engine.pins.sdo

-- The SDO pin: undriven when disabled, under DISSDO, or for an unframed SSEN client with SS high; else it has its level.
abbrev pub pin_shown : Watched → Output
pin_shown x =
    let s : Settings = x.now.settings in
    when not s.spien || (s.con1.dissdo || (heeds_select s && x.memory.ss)) then Undriven
    else when x.now.engine.pins.sdo then High
    else Low

-- The SS pin: driven by an enabled module with FRMEN and without SPIFSD alone; at the level FRMPOL while a pulse stands, else at
-- the other one.
abbrev pub select_shown : Watched → Output
select_shown x =
    let s : Settings = x.now.settings in
    when not (s.spien && gives_pulses s) then Undriven
    else when beq x.memory.pulse s.con2.frmpol then High
    else Low
