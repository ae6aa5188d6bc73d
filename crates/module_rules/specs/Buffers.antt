-- Document 01, "Registers" and "Loading": the two buffers over the ring.
use Rattle.std.specs.Prelude.{ℕ, ◌+◌, ◌-◌, ◌%◌, Bool, false, ◌||◌, List, leb, eqb, get_or, set, replicate}
use Rattle.laws.specs.Choice.{when◌then◌else◌}
use Rattle.ring.specs.Ring.{next, contents}
use Rattle.module_types.specs.declared.Transmit.{Transmit}
use Rattle.module_types.specs.declared.Receive.{Receive}

-- The cells of each buffer, used or not: what the fields `words` hold. It is the greatest depth (document 02, Twelve).
abbrev pub capacity : ℕ
capacity = 16

-- The cell of a position. A position that calls cannot reach is taken round the capacity, so that it names a cell too.
abbrev pub cell : ℕ → ℕ
cell at = at % capacity

-- A buffer is full when it holds its depth, and empty when it holds nothing.
abbrev pub full : ℕ → ℕ → Bool
full depth count = leb depth count

abbrev pub empty : ℕ → Bool
empty count = eqb count 0

-- Empty buffers: nothing of an earlier word stays behind.
unfoldable pub empty_transmit : Transmit
empty_transmit =
    record { words = replicate capacity 0; write = record { 0 = 0 }; read = record { 0 = 0 }; count = 0 }

unfoldable pub empty_receive : Receive
empty_receive =
    record {
      words = replicate capacity 0;
      write = record { 0 = 0 };
      read = record { 0 = 0 };
      count = 0;
      marked = false;
    }

-- The first waiting word.
unfoldable pub first_waiting : Transmit → ℕ
first_waiting t = get_or t.words (cell t.read.0) 0

-- The first unread word.
unfoldable pub first_unread : Receive → ℕ
first_unread r = get_or r.words (cell r.read.0) 0

-- A word written by the CPU stands last among those waiting. A full buffer stays as it is.
unfoldable pub written : ℕ → ℕ → Transmit → Transmit
written depth v t =
    when full depth t.count then t
    else record {
      words = set t.words (cell t.write.0) v;
      write = record { 0 = next depth t.write.0 };
      read = t.read;
      count = t.count + 1;
    }

-- The first waiting word leaves the transmit buffer. An empty buffer stays as it is.
unfoldable pub departed : ℕ → Transmit → Transmit
departed depth t =
    when empty t.count then t
    else record {
      words = t.words;
      write = t.write;
      read = record { 0 = next depth t.read.0 };
      count = t.count - 1;
    }

-- A received word stands last among those unread. A full buffer stays as it is.
unfoldable pub appended : ℕ → ℕ → Receive → Receive
appended depth v r =
    when full depth r.count then r
    else record {
      words = set r.words (cell r.write.0) v;
      write = record { 0 = next depth r.write.0 };
      read = r.read;
      count = r.count + 1;
      marked = r.marked;
    }

-- The first unread word is taken by the CPU. An empty buffer stays as it is.
unfoldable pub taken : ℕ → Receive → Receive
taken depth r =
    when empty r.count then r
    else record {
      words = r.words;
      write = r.write;
      read = record { 0 = next depth r.read.0 };
      count = r.count - 1;
      marked = r.marked;
    }

-- A received word found no place (document 02, Four): in enhanced operation the buffer is marked, and in standard operation it
-- stays as it is. Its words stay in both.
unfoldable pub overrun : Bool → Receive → Receive
overrun enhanced r =
    record {
      words = r.words;
      write = r.write;
      read = r.read;
      count = r.count;
      marked = r.marked || enhanced;
    }

-- The words waiting to be sent, and the words received and not read, oldest first.
unfoldable pub waiting : ℕ → Transmit → List ℕ
waiting depth t = contents 0 depth t.words t.read.0 t.count

unfoldable pub unread : ℕ → Receive → List ℕ
unread depth r = contents 0 depth r.words r.read.0 r.count
