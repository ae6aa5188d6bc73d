-- Document 01, "Registers": the bits, what reads show, and what writes take.
use Rattle.std.specs.Prelude.{ℕ, ◌+◌, ◌*◌, ◌/◌, ◌%◌, ◌^◌, Bool, true, false, ◌&&◌, ltb}
use Rattle.laws.specs.Choice.{when◌then◌else◌}
use Rattle.word_order.specs.Bits.{bit_of}
use Rattle.module_types.specs.declared.Con1.{Con1}
use Rattle.module_types.specs.declared.Con2.{Con2}
use Rattle.module_types.specs.declared.Settings.{Settings}
use Rattle.module_types.specs.declared.Engine.{Engine}
use Rattle.module_types.specs.declared.Module.{Module}
use Rattle.module_types.specs.declared.Shift.{Shift}
use Rattle.module_types.specs.declared.Shift.TheVariants.{Free, Loaded, Begun}
use Rattle.module_rules.specs.Changes.{with_transmit, with_receive, with_shift, with_pins, with_spirov}
use Rattle.module_rules.specs.Settings.{width_of, depth_of}
use Rattle.module_rules.specs.Buffers.{full, empty, empty_transmit, empty_receive}

-- What a bit of the given weight adds to a register's value.
unfoldable pub weighed : Bool → ℕ → ℕ
weighed b weight = when b then weight else 0

-- CON1 as written: the listed bits are taken, the others ignored.
unfoldable pub con1_from : ℕ → Con1
con1_from v =
    record {
      dissck = bit_of v 12;
      dissdo = bit_of v 11;
      mode16 = bit_of v 10;
      smp = bit_of v 9;
      cke = bit_of v 8;
      ssen = bit_of v 7;
      ckp = bit_of v 6;
      msten = bit_of v 5;
      spre = v / 2 ^ 2 % 8;
      ppre = v % 4;
    }

-- CON1 as read: the listed bits, and 0 elsewhere.
unfoldable pub con1_value : Con1 → ℕ
con1_value c =
    weighed c.dissck (2 ^ 12) + weighed c.dissdo (2 ^ 11) + weighed c.mode16 (2 ^ 10) + weighed c.smp (2 ^ 9) + weighed c.cke (2 ^ 8)
    + weighed c.ssen (2 ^ 7)
    + weighed c.ckp (2 ^ 6)
    + weighed c.msten (2 ^ 5)
    + c.spre % 8 * 2 ^ 2
    + c.ppre % 4

-- CON2 as written and as read. Bits 14, 13 and 1 are kept always and count with FRMEN alone.
unfoldable pub con2_from : ℕ → Con2
con2_from v =
    record {
      frmen = bit_of v 15;
      spifsd = bit_of v 14;
      frmpol = bit_of v 13;
      frmdly = bit_of v 1;
      spiben = bit_of v 0;
    }

unfoldable pub con2_value : Con2 → ℕ
con2_value c =
    weighed c.frmen (2 ^ 15) + weighed c.spifsd (2 ^ 14) + weighed c.frmpol (2 ^ 13) + weighed c.frmdly (2 ^ 1) + weighed c.spiben (2 ^ 0)

-- The w bits of a value that BUF keeps when written and shows when read.
abbrev pub low_bits : Settings → ℕ → ℕ
low_bits s v = v % 2 ^ width_of s

-- No word is loaded or begun in the shift register. A begun filler is a word begun.
abbrev pub is_free : Shift → Bool
is_free Free = true
is_free (Loaded w) = false
is_free (Begun p) = false

-- SPITBF, SPIRBF: that buffer is full.
unfoldable pub spitbf : Module → Bool
spitbf m = full (depth_of m.settings) m.engine.transmit.count

unfoldable pub spirbf : Module → Bool
spirbf m = full (depth_of m.settings) m.engine.receive.count

-- SRXMPT, SRMPT and SPIBEC show something only in enhanced operation and while enabled; otherwise they read 0.
abbrev pub shows_enhanced : Settings → Bool
shows_enhanced s = s.spien && s.con2.spiben

-- SRXMPT: the receive buffer is empty.
unfoldable pub srxmpt : Module → Bool
srxmpt m = shows_enhanced m.settings && empty m.engine.receive.count

-- SRMPT: no word is loaded or begun in the shift register.
unfoldable pub srmpt : Module → Bool
srmpt m = shows_enhanced m.settings && is_free m.engine.shift

-- The three bits of SPIBEC show at most 7, so that 8 and above are shown as 7 (document 02, Twelve).
unfoldable pub at_most7 : ℕ → ℕ
at_most7 count = when ltb count 7 then count else 7

-- SPIBEC: words waiting to be sent (host) or unread (client).
unfoldable pub spibec : Module → ℕ
spibec m =
    when shows_enhanced m.settings
    then at_most7 (when m.settings.con1.msten then m.engine.transmit.count else m.engine.receive.count)
    else 0

-- STAT as read.
unfoldable pub stat_value : Module → ℕ
stat_value m =
    weighed m.settings.spien (2 ^ 15) + weighed m.settings.spisidl (2 ^ 13) + spibec m * 2 ^ 8 + weighed (srmpt m) (2 ^ 7)
    + weighed m.engine.spirov (2 ^ 6)
    + weighed (srxmpt m) (2 ^ 5)
    + m.settings.sisel % 8 * 2 ^ 2
    + weighed (spitbf m) (2 ^ 1)
    + weighed (spirbf m) (2 ^ 0)

-- The settings after a STAT write that is not refused: it takes SPIEN, SPISIDL and SISEL. All other bits of STAT but
-- SPIROV are read-only.
unfoldable pub stat_settings : ℕ → Settings → Settings
stat_settings v s =
    record {
      depth = s.depth;
      spien = bit_of v 15;
      spisidl = bit_of v 13;
      sisel = v / 2 ^ 2 % 8;
      con1 = s.con1;
      con2 = s.con2;
    }

-- SPIROV under every STAT write that is not refused: a 0 in bit 6 clears it, a 1 leaves it.
unfoldable pub spirov_after : ℕ → Bool → Bool
spirov_after v spirov = spirov && bit_of v 6

-- A STAT write that leaves SPIEN as it was moves nothing but SPIROV.
unfoldable pub stat_engine : ℕ → Engine → Engine
stat_engine v n = with_spirov (spirov_after v n.spirov) n

-- SPIEN from 0 to 1 sets the remembered clock level to idle (the level CKP), select to high and SDO to 0. No frame pulse
-- stands, so that a frame host has SS inactive.
unfoldable pub enabled_engine : ℕ → Con1 → Engine → Engine
enabled_engine v c n = with_pins (record { sck = c.ckp; ss = true; sdo = false; pulse = false }) (with_spirov (spirov_after v n.spirov) n)

-- SPIEN from 1 to 0 empties both buffers and the shift register. The interrupt flag stays.
unfoldable pub disabled_engine : ℕ → Engine → Engine
disabled_engine v n = with_transmit empty_transmit (with_receive empty_receive (with_shift Free (with_spirov (spirov_after v n.spirov) n)))
