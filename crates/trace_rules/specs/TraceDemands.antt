-- The customer's demands on trace files. The record Traces holds every statement, and proofs/TraceDemandsHold.antt proves it. What a
-- right file is and what playing it answers is said here by bytes, records and calls alone, so that no rule is its own judge.
use Rattle.std.specs.Prelude.{ℕ, zero, suc, ◌+◌, ◌*◌, ◌/◌, ◌%◌, ◌<◌, ◌≤◌, Bool, true, false, List, [], ◌∷◌, ◌++◌, ◌≡◌, length, take, drop, Result, Ok, Err}
use Rattle.module_types.specs.declared.Module.{Module}
use Rattle.module_types.specs.declared.Call.{Call}
use Rattle.module_types.specs.declared.Call.TheVariants.{Read, Write, Tick, Pin, Clear}
use Rattle.module_types.specs.declared.Depth.TheVariants.{Eight}
use Rattle.module_rules.specs.Lives.{power_up, life}
use Rattle.trace_rules.specs.declared.Entry.{Entry}
use Rattle.trace_rules.specs.declared.Fault.{Fault}
use Rattle.trace_rules.specs.Trace.{section_level, fault_number_of, played_of, played_module}
use Rattle.trace_rules.specs.TraceExamples.{trace_examples}

-- The kinds of records, and the limits of a file.
abbrev pub a_write : ℕ
a_write = 0

abbrev pub a_read : ℕ
a_read = 1

abbrev pub a_tick : ℕ
a_tick = 2

abbrev pub a_pin_call : ℕ
a_pin_call = 3

abbrev pub a_clear : ℕ
a_clear = 4

abbrev pub a_play : ℕ
a_play = 5

abbrev pub most_bytes : ℕ
most_bytes = 65535

abbrev pub most_sections : ℕ
most_sections = 64

abbrev pub most_levels : ℕ
most_levels = 8

abbrev pub most_calls : ℕ
most_calls = 65535

-- The number that bytes spell, the lowest first, and that of `n` bytes at a place.
abbrev pub spell : List ℕ → ℕ
spell [] = 0
spell (b ∷ bs) = b + 256 * spell bs

unfoldable pub number_at : ℕ → List ℕ → ℕ → ℕ
number_at n f at = spell (take n (drop at f))

-- The table of contents: a section count in 16 bits, then start and length of each section in 32 bits.
unfoldable pub sections : List ℕ → ℕ
sections f = number_at 2 f 0

unfoldable pub start : List ℕ → ℕ → ℕ
start f k = number_at 4 f (2 + 8 * k)

unfoldable pub size : List ℕ → ℕ → ℕ
size f k = number_at 4 f (6 + 8 * k)

-- A record of four bytes: a kind, an argument, and a value in 16 bits. A section is so many of them one behind the other.
abbrev pub fields : ℕ → ℕ → ℕ → Entry
fields kind argument value = record { kind = kind; argument = argument; value = value }

unfoldable pub record_at : List ℕ → ℕ → Entry
record_at f at = fields (number_at 1 f at) (number_at 1 f (at + 1)) (number_at 2 f (at + 2))

abbrev pub records_from : List ℕ → ℕ → ℕ → List Entry
records_from f zero at = []
records_from f (suc n) at = record_at f at ∷ records_from f n (at + 4)

unfoldable pub section : List ℕ → ℕ → List Entry
section f k = records_from f (size f k / 4) (start f k)

-- Where the section before one ends; before the first stands the table.
abbrev pub end_before : List ℕ → ℕ → ℕ
end_before f zero = 2 + 8 * sections f
end_before f (suc k) = start f k + size f k

-- Right contents: 1 to 64 sections in order with no gap, each length a multiple of 4, the last ending the file, which has at most
-- 65,535 bytes.
pub record Whole (f : List ℕ) : Type 0 where
  pub some : 1 ≤ sections f
  pub most : sections f ≤ most_sections
  pub gapless : (k : ℕ) → k < sections f → start f k ≡ end_before f k
  pub fours : (k : ℕ) → k < sections f → size f k % 4 ≡ 0
  pub ends : end_before f (sections f) ≡ length f
  pub short : length f ≤ most_bytes

-- An argument of wires: bit 0 SDI, bit 1 SCK, bit 2 SS.
abbrev pub bit : Bool → ℕ
bit false = 0
bit true = 1

abbrev pub wires : Bool → Bool → Bool → ℕ
wires sdi sck ss = bit sdi + 2 * bit sck + 4 * bit ss

-- A right record that makes a call, field by field: a register is 0 to 3, only pins have SCK, and an unused field is 0.
pub data Makes (e : Entry) : Call → Type 0 where
  write : (register v : ℕ) → register ≤ 3 → e ≡ fields a_write register v → Makes e (Write register v)
  read : (register : ℕ) → register ≤ 3 → e ≡ fields a_read register 0 → Makes e (Read register)
  tick : (sdi ss : Bool) → e ≡ fields a_tick (wires sdi false ss) 0 → Makes e (Tick sdi ss)
  pins : (sck sdi ss : Bool) → e ≡ fields a_pin_call (wires sdi sck ss) 0 → Makes e (Pin sck sdi ss)
  clear : e ≡ fields a_clear 0 0 → Makes e Clear

-- A right record of section `k` at a level, among so many sections: it makes a call, or plays a higher-numbered section that exists,
-- below level 8. No other kind is right.
pub data Right (count level k : ℕ) (e : Entry) : Type 0 where
  call : (c : Call) → Makes e c → Right count level k e
  play : (j v : ℕ) → e ≡ fields a_play j v → k < j → j < count → level < most_levels → Right count level k e

-- Some of these records plays section `k`, zero times included.
pub data Plays (k : ℕ) : List Entry → Type 0 where
  here : {e : Entry} {es : List Entry} (v : ℕ) → e ≡ fields a_play k v → Plays k (e ∷ es)
  later : {e : Entry} {es : List Entry} → Plays k es → Plays k (e ∷ es)

-- Levels: a section stands above each lower-numbered one that plays it; and it stands at 1, or just one above some of those.
pub data LevelFrom (s : ℕ → List Entry) (level : ℕ → ℕ) (k : ℕ) : Type 0 where
  first : level k ≡ 1 → LevelFrom s level k
  next : (j : ℕ) → j < k → Plays k (s j) → level k ≡ level j + 1 → LevelFrom s level k

pub record Levels (s : ℕ → List Entry) (level : ℕ → ℕ) : Type 0 where
  pub above : (j k : ℕ) → j < k → Plays k (s j) → level j < level k
  pub from : (k : ℕ) → LevelFrom s level k

-- Every record of every section is right, played or not.
pub record AllRight (f : List ℕ) : Type 0 where
  pub level : ℕ → ℕ
  pub levels : Levels (section f) level
  pub each : (k i : ℕ) → k < sections f → i < size f k / 4 → Right (sections f) (level k) k (record_at f (start f k + 4 * i))

-- The calls of records in order, and what counts: each call, and each repeat of a play with all that it plays. A play makes the calls
-- of its section, value times one behind the other.
abbrev pub again : ℕ → List Call → List Call
again zero cs = []
again (suc n) cs = cs ++ again n cs

pub data Runs (s : ℕ → List Entry) : List Entry → List Call → ℕ → Type 0 where
  done : Runs s [] [] 0
  calls : {e : Entry} {es : List Entry} {c : Call} {cs : List Call} {n : ℕ} →
      Makes e c → Runs s es cs n → Runs s (e ∷ es) (c ∷ cs) (1 + n)
  plays : {e : Entry} {es : List Entry} {ds cs : List Call} {d n : ℕ} (j v : ℕ) →
      e ≡ fields a_play j v → Runs s (s j) ds d → Runs s es cs n → Runs s (e ∷ es) (again v ds ++ cs) (v * (1 + d) + n)

-- What playing a file answers and leaves: the number of its refusal, 0 if it is played; what counted, 0 if refused; and the module,
-- that of before if refused, else the one that the calls of section 0 reach from power-up (`life` is the module that the demands on
-- one module are said of).
pub data Outcome (m : Module) (f : List ℕ) : ℕ → ℕ → Module → Type 0 where
  -- the contents or the file's length are wrong
  wrong_contents : (Whole f → ⊥) → Outcome m f 17 0 m
  -- a record is wrong
  wrong_record : Whole f → (AllRight f → ⊥) → Outcome m f 18 0 m
  -- the next call would be number 65,536
  too_many_calls : {cs : List Call} {n : ℕ} → Whole f → AllRight f → Runs (section f) (section f 0) cs n → most_calls < n → Outcome m f 19 0 m
  played : {cs : List Call} {n : ℕ} → Whole f → AllRight f → Runs (section f) (section f 0) cs n → n ≤ most_calls →
      Outcome m f 0 n (life (power_up Eight) cs).now

-- The numbers of an answer.
abbrev pub number_in : Result ℕ Fault → ℕ
number_in (Err w) = fault_number_of w
number_in (Ok count) = 0

abbrev pub count_in : Result ℕ Fault → ℕ
count_in (Err w) = 0
count_in (Ok count) = count

-- Playing a file has the outcome said above, and there is no other. Levels are decided by the relation.
pub record Traces : Type 0 where
  pub paper_examples : trace_examples ≡ true
  pub answers : (m : Module) (f : List ℕ) → Outcome m f (number_in (played_of f)) (count_in (played_of f)) (played_module m f)
  pub one_outcome : (m : Module) (f : List ℕ) {a b x y : ℕ} {u v : Module} →
      Outcome m f a x u → Outcome m f b y v → (a ≡ b) × (x ≡ y) × (u ≡ v)
  pub levels : (s : ℕ → List Entry) → Levels s (section_level s)
  pub one_level : (s : ℕ → List Entry) (a b : ℕ → ℕ) → Levels s a → Levels s b → (k : ℕ) → a k ≡ b k
