-- What the proofs speak of besides the invariant of specs/Invariant.antt: its parts for one buffer and for the engine,
-- and what holds in the middle of an edge.
--     accepts               an answer that is no refusal
--     HoldsAfter        an outcome whose module has the invariant
--     queued                the engine in the middle of a BUF write
--     outgoing              the words not yet begun, in the order in which they will be sent
--     restat, elsewhere     settings and an engine changed where the shift register does not look
--     TransmitHolds, ReceiveHolds, BuffersHold   the buffers of an engine
--     Idle                  the clock of an unframed host with its own clock is idle
--     FinishHolds           an engine in the middle of a finish, before the next word loads
--     LoadHolds             an engine once a word has loaded, before SDO shows it
--     WordHolds             the word that is being sent
--     EdgeHolds             a begun word that is being given an edge: the clock has moved, and the edge is not yet counted
--     EngineHolds           an engine between calls
--     EdgedHolds            an engine after an edge, for what is under way at that edge
--     Spared                an engine with the same receive buffer, SCK, SS, pulse and SPIROV as another
use Rattle.std.specs.Prelude.{◌+◌, ◌-◌, ◌%◌, ◌^◌, ◌≤◌, ◌<◌, ◌∷◌, ◌++◌, ◌≡◌}
use Rattle.laws.proofs.Common.{ℕ, Bool, true, false, Bool·beq, List, [], eqb}
use Rattle.ring.specs.Ring.{BufferHolds}
use Rattle.word_order.specs.Bits.{bit_of}
use Rattle.module_rules.proofs.Types.{Settings, Engine, Outcome, Transmit, Receive, Progress, Shift, Free, Loaded, Begun}
use Rattle.module_rules.proofs.Types.{Answer, Refused, Done, Value, NoEdge, Edge}
use Rattle.module_rules.specs.Buffers.{capacity, first_waiting, written, waiting}
use Rattle.module_rules.specs.Settings.{width_of, depth_of, ssen_client, cke_of, silent, unframed_host}
use Rattle.module_rules.specs.Bits.{samples}
use Rattle.module_rules.specs.Edge.{word_edges, advanced_if_begun, clocked}
use Rattle.module_rules.specs.Invariant.{ShiftHolds, RestHolds, ModuleHolds, sampled}

-- An answer that is no refusal.
abbrev pub accepts : Answer → Bool
accepts (Refused r) = false
accepts Done = true
accepts (Value v) = true
accepts NoEdge = true
accepts Edge = true

-- An outcome whose module has the invariant.
abbrev pub HoldsAfter : Outcome → Type 0
HoldsAfter o = ModuleHolds o.after

-- The engine in the middle of a BUF write: the word waits, and nothing has loaded yet.
abbrev pub queued : Settings → ℕ → Engine → Engine
queued s word n =
    record {
      transmit = written (depth_of s) word n.transmit;
      receive = n.receive;
      shift = n.shift;
      pins = n.pins;
      spirov = n.spirov;
      interrupt = n.interrupt;
    }

-- The word that is loaded and not yet begun, if there is one.
abbrev pub loaded_word : Shift → List ℕ
loaded_word Free = []
loaded_word (Loaded word) = word ∷ []
loaded_word (Begun p) = []

-- The words not yet begun, in the order in which they will be sent: the loaded word, then those waiting.
abbrev pub outgoing : Settings → Engine → List ℕ
outgoing s n = loaded_word n.shift ++ waiting (depth_of s) n.transmit

-- Settings with other STAT bits.
abbrev pub restat : Settings → Bool → Bool → ℕ → Settings
restat s spien spisidl sisel =
    record { depth = s.depth; spien = spien; spisidl = spisidl; sisel = sisel; con1 = s.con1; con2 = s.con2 }

-- An engine with other parts than the transmit buffer and the levels SCK and SS.
abbrev pub elsewhere : Engine → Receive → Shift → Bool → Bool → Bool → Bool → Engine
elsewhere n receive shift sdo pulse spirov interrupt =
    record {
      transmit = n.transmit;
      receive = receive;
      shift = shift;
      pins = record { sck = n.pins.sck; ss = n.pins.ss; sdo = sdo; pulse = pulse };
      spirov = spirov;
      interrupt = interrupt;
    }

-- The transmit buffer.
abbrev pub TransmitHolds : Settings → Transmit → Type 0
TransmitHolds s t = BufferHolds capacity (depth_of s) (width_of s) t.words t.write.0 t.read.0 t.count

-- The receive buffer.
abbrev pub ReceiveHolds : Settings → Receive → Type 0
ReceiveHolds s r = BufferHolds capacity (depth_of s) (width_of s) r.words r.write.0 r.read.0 r.count

-- Both buffers of an engine.
pub record BuffersHold (s : Settings) (n : Engine) : Type 0 where
  pub transmit : TransmitHolds s n.transmit
  pub receive : ReceiveHolds s n.receive

-- The clock of an unframed host with its own clock is idle.
abbrev pub Idle : Settings → Engine → Type 0
Idle s n = unframed_host s ≡ true → n.pins.sck ≡ s.con1.ckp

-- An engine in the middle of a finish: its buffers hold and its clock is idle, whatever the shift register has.
pub record FinishHolds (s : Settings) (n : Engine) : Type 0 where
  pub buffers : BuffersHold s n
  pub idle : Idle s n

-- The word that is being sent: it fits the width, a filler is made of zeros and no silent module sends one, and an SSEN client is
-- selected and has its word still waiting as the first.
pub record WordHolds (s : Settings) (n : Engine) (filler : Bool) (word : ℕ) : Type 0 where
  pub fits : word < 2 ^ width_of s
  pub zeros : filler ≡ true → word ≡ 0
  pub host : silent s ≡ true → filler ≡ false
  pub selected : ssen_client s ≡ true → n.pins.ss ≡ false
  pub first : ssen_client s ≡ true → filler ≡ false → (1 ≤ n.transmit.count) × (word ≡ first_waiting n.transmit)

-- A begun word at an edge: the clock stands where that edge takes it, and the rest is as before the edge. An edge that
-- samples finds SDO at the bit that it samples.
pub record EdgeHolds (s : Settings) (n : Engine) (p : Progress) : Type 0 where
  pub short : p.edges < word_edges s
  pub received : p.received < 2 ^ sampled (cke_of s) p.edges
  pub clock : n.pins.sck ≡ Bool·beq s.con1.ckp (eqb ((p.edges + 1) % 2) 0)
  pub shows : samples (cke_of s) (p.edges + 1) ≡ true →
      n.pins.sdo ≡ bit_of p.word (width_of s - 1 - sampled (cke_of s) p.edges)
  pub sent : WordHolds s n p.filler p.word

-- An engine once a word has loaded, if it can: its buffers and its shift register.
pub record LoadHolds (s : Settings) (n : Engine) : Type 0 where
  pub buffers : BuffersHold s n
  pub shift : ShiftHolds s n n.shift

-- An engine between calls: its buffers, its shift register, and SDO between words.
pub record EngineHolds (s : Settings) (n : Engine) : Type 0 where
  pub buffers : BuffersHold s n
  pub shift : ShiftHolds s n n.shift
  pub rest : RestHolds s n

-- An engine after an edge to the level `sck`, for what is under way at that edge.
abbrev pub EdgedHolds : Settings → Bool → Bool → Engine → Shift → Type 0
EdgedHolds s sck sdi n sh = EngineHolds s (advanced_if_begun s sdi sh (clocked sck n))

-- An engine that differs from another at most in its transmit buffer, its shift register, SDO and the interrupt flag.
pub record Spared (n x : Engine) : Type 0 where
  pub receive : x.receive ≡ n.receive
  pub sck : x.pins.sck ≡ n.pins.sck
  pub ss : x.pins.ss ≡ n.pins.ss
  pub pulse : x.pins.pulse ≡ n.pins.pulse
  pub spirov : x.spirov ≡ n.spirov
