-- The pins that a module may drive, as two bits each, by the tests one after the other.
--     sdo_off, sdo_kept, sdo_away, sdo_on   SDO: disabled, under DISSDO, deselected, and driven
--     ss_off, ss_none, ss_on                SS: disabled, of no frame host, and driven
-- Assumes nothing.
use Rattle.std.specs.Prelude.{◌+◌, ◌&&◌, ◌||◌, ◌≡◌}
use Rattle.laws.proofs.Common.{ℕ, Bool, true, false, not, Bool·beq, refl, when◌then◌else◌, clash}
use Rattle.module_rules.proofs.Types.{Module, Low, High, Undriven}
use Rattle.module_rules.specs.Settings.{frame_host}
use Rattle.module_rules.specs.Select.{deselected}
use Rattle.module_rules.specs.Calls.{undriven_by, undriven, sdo_of, ss_of}
use Rattle.module_by_number.specs.Told.{output_bits}

-- A pin by whether it is undriven, and by its level.
undriven_bits : (off level : Bool) → off ≡ true → 0 ≡ output_bits (when off then Undriven else when level then High else Low)
unfolding when◌then◌else◌ output_bits
undriven_bits true level e = refl
undriven_bits false level e = clash false e refl

driven_bits : (off level : Bool) {bit : ℕ} → off ≡ false → bit ≡ (when level then 1 else 0) →
    2 + bit ≡ output_bits (when off then Undriven else when level then High else Low)
unfolding when◌then◌else◌ output_bits
driven_bits true level e f = clash true refl e
driven_bits false true e f = rw f
driven_bits false false e f = rw f

-- The three causes for which SDO is undriven.
first : (a b c : Bool) → a ≡ true → (a || (b || c)) ≡ true
first a b c e = rw e

second : (a b c : Bool) → a ≡ false → b ≡ true → (a || (b || c)) ≡ true
second a b c e f = rw (e, f)

third : (a b c : Bool) → a ≡ false → b ≡ false → c ≡ true → (a || (b || c)) ≡ true
third a b c e f g = rw (e, f, g)

none : (a b c : Bool) → a ≡ false → b ≡ false → c ≡ false → (a || (b || c)) ≡ false
none a b c e f g = rw (e, f, g)

-- The two for which SS is.
disabled : (on host : Bool) → not on ≡ true → not (on && host) ≡ true
disabled true host e = clash false e refl
disabled false host e = refl

no_host : (on host : Bool) → not on ≡ false → not host ≡ true → not (on && host) ≡ true
no_host true host e f = f
no_host false host e f = clash true refl e

driving : (on host : Bool) → not on ≡ false → not host ≡ false → not (on && host) ≡ false
driving true host e f = f
driving false host e f = clash true refl e

module _ (m : Module) where
  pub sdo_off : not m.settings.spien ≡ true → 0 ≡ output_bits (sdo_of m)
  unfolding sdo_of undriven
  sdo_off e =
      undriven_bits (undriven_by m.settings m.engine.pins) m.engine.pins.sdo
      (first (not m.settings.spien) m.settings.con1.dissdo (deselected m.settings m.engine.pins.ss) e)

  pub sdo_kept : not m.settings.spien ≡ false → m.settings.con1.dissdo ≡ true → 0 ≡ output_bits (sdo_of m)
  unfolding sdo_of undriven
  sdo_kept e f =
      undriven_bits (undriven_by m.settings m.engine.pins) m.engine.pins.sdo
      (second (not m.settings.spien) m.settings.con1.dissdo (deselected m.settings m.engine.pins.ss) e f)

  pub sdo_away : not m.settings.spien ≡ false → m.settings.con1.dissdo ≡ false →
      deselected m.settings m.engine.pins.ss ≡ true → 0 ≡ output_bits (sdo_of m)
  unfolding sdo_of undriven
  sdo_away e f g =
      undriven_bits (undriven_by m.settings m.engine.pins) m.engine.pins.sdo
      (third (not m.settings.spien) m.settings.con1.dissdo (deselected m.settings m.engine.pins.ss) e f g)

  pub sdo_on : not m.settings.spien ≡ false → m.settings.con1.dissdo ≡ false →
      deselected m.settings m.engine.pins.ss ≡ false → {bit : ℕ} → bit ≡ (when m.engine.pins.sdo then 1 else 0) →
      2 + bit ≡ output_bits (sdo_of m)
  unfolding sdo_of undriven
  sdo_on e f g b =
      driven_bits (undriven_by m.settings m.engine.pins) m.engine.pins.sdo
      (none (not m.settings.spien) m.settings.con1.dissdo (deselected m.settings m.engine.pins.ss) e f g)
      b

  abbrev high : Bool
  high = Bool·beq m.engine.pins.pulse m.settings.con2.frmpol

  pub ss_off : not m.settings.spien ≡ true → 0 ≡ output_bits (ss_of m)
  unfolding ss_of
  ss_off e =
      undriven_bits (not (m.settings.spien && frame_host m.settings)) high
      (disabled m.settings.spien (frame_host m.settings) e)

  pub ss_none : not m.settings.spien ≡ false → not (frame_host m.settings) ≡ true → 0 ≡ output_bits (ss_of m)
  unfolding ss_of
  ss_none e f =
      undriven_bits (not (m.settings.spien && frame_host m.settings)) high
      (no_host m.settings.spien (frame_host m.settings) e f)

  pub ss_on : not m.settings.spien ≡ false → not (frame_host m.settings) ≡ false → {bit : ℕ} →
      bit ≡ (when high then 1 else 0) → 2 + bit ≡ output_bits (ss_of m)
  unfolding ss_of
  ss_on e f b =
      driven_bits (not (m.settings.spien && frame_host m.settings)) high
      (driving m.settings.spien (frame_host m.settings) e f)
      b
