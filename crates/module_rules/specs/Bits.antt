-- Document 01, "Bits": what one edge does within a word. A word takes 2w edges, highest bit first; edge 1 is odd.
use Rattle.std.specs.Prelude.{ℕ, ◌+◌, ◌*◌, ◌-◌, ◌/◌, ◌%◌, Bool, eqb}
use Rattle.std.specs.Bool.{beq}
use mir.Val.{bool_byte}
use Rattle.laws.specs.Choice.{when◌then◌else◌}
use Rattle.word_order.specs.Bits.{bit_of}
use Rattle.module_types.specs.declared.Settings.{Settings}
use Rattle.module_types.specs.declared.Progress.{Progress}
use Rattle.module_rules.specs.Settings.{width_of, cke_of}

-- An edge samples SDI or changes SDO. CKE 0 samples on even edges, CKE 1 on odd ones.
abbrev pub samples : Bool → ℕ → Bool
samples cke edge = beq cke (eqb (edge % 2) 1)

-- A sampled bit enters the 16-bit register behind those received before it.
unfoldable pub shifted_in : ℕ → Bool → ℕ
shifted_in received sdi = (received * 2 + bool_byte sdi) % 65536

-- The bits received once an edge has been given.
unfoldable pub received_after : Settings → ℕ → Bool → ℕ → ℕ
received_after s edge sdi received = when samples (cke_of s) edge then shifted_in received sdi else received

-- The bit that SDO shows once edge number `edge`, short of 2w, has changed it. CKE 0: the odd edges 1, 3, 5 .. show the
-- bits from the top. CKE 1: the top bit stood there before edge 1, and the even edges 2, 4, .. show those below it.
unfoldable pub shown_bit : Settings → ℕ → ℕ → Bool
shown_bit s word edge = bit_of word (width_of s - 1 - edge / 2)

-- The SDO level once an edge short of 2w has been given.
unfoldable pub sdo_after : Settings → ℕ → ℕ → Bool → Bool
sdo_after s word edge sdo = when samples (cke_of s) edge then sdo else shown_bit s word edge

-- The word once an edge short of 2w has been given.
unfoldable pub progressed : Settings → Bool → Progress → Progress
progressed s sdi p =
    record {
      filler = p.filler;
      word = p.word;
      edges = p.edges + 1;
      received = received_after s (p.edges + 1) sdi p.received;
    }
