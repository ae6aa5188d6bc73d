-- A register's value has the bits that it was made of.
--     stat_back, con1_back, con2_back   SPIEN and SPISIDL, the flags of CON1, CON2
-- Assumes nothing.
use Rattle.std.specs.Prelude.{◌+◌, ◌*◌, ◌%◌, ◌^◌, ◌≤◌, ◌<◌, ◌≡◌}
use Rattle.laws.proofs.Common.{ℕ, Bool, true, false, ◌∙◌, ap, arith, eqb, when◌then◌else◌}
use native.Mathlib.Nat.{div-eq_of_lt-le}
use mir.Val.{bool_byte}
use lib.Arith.{digits_mod}
use Rattle.word_order.specs.Bits.{bit_of}
use Rattle.module_rules.proofs.Types.{Con1, Con2}
use Rattle.module_rules.specs.Registers.{weighed, con1_from, con1_value, con2_from, con2_value}
use Rattle.word_order.proofs.WordBits.{bit_most}

-- A bit adds its weight once or not at all.
weight : (b : Bool) (w : ℕ) → (weighed b w ≡ bool_byte b * w) × (bool_byte b ≤ 1)
unfolding weighed when◌then◌else◌
weight true w = (omega arith, omega arith)
weight false w = (omega arith, omega arith)

flag : (b : Bool) {x : ℕ} → x ≡ bool_byte b → eqb x 1 ≡ b
flag true e = rw e
flag false e = rw e

-- Bit k of a value that has h above that bit.
bit_back : (b : Bool) (v h k : ℕ) → (h * 2 + bool_byte b) * 2 ^ k ≤ v → v < (h * 2 + bool_byte b + 1) * 2 ^ k → bit_of v k ≡ b
unfolding bit_of
bit_back b v h k least most =
    let below : bool_byte b < 2 = omega (arith, bit_most b) in
    flag b (ap (λ (n : ℕ). n % 2) (div-eq_of_lt-le (2 ^ k) least most) ∙ digits_mod h below)

pub stat_back : (a b : Bool) →
    (bit_of (weighed a 32768 + weighed b 8192) 15 ≡ a) × (bit_of (weighed a 32768 + weighed b 8192) 13 ≡ b)
stat_back a b =
    let p = weight a 32768 in
    let q = weight b 8192 in
    let v = weighed a 32768 + weighed b 8192 in (
      bit_back a v 0 15 (omega arith) (omega arith),
      bit_back b v (bool_byte a * 2) 13 (omega arith) (omega arith),
    )

module _ (c : Con2) where
  pub con2_back : con2_from (con2_value c) ≡ c
  unfolding con2_from con2_value
  con2_back =
      let v = con2_value c in
      let p0 = weight c.frmen 32768 in
      let p1 = weight c.spifsd 16384 in
      let p2 = weight c.frmpol 8192 in
      let p3 = weight c.frmdly 2 in
      let p4 = weight c.spiben 1 in
      rw (
        bit_back c.frmen v 0 15 (omega arith) (omega arith),
        bit_back c.spifsd v (bool_byte c.frmen) 14 (omega arith) (omega arith),
        bit_back c.frmpol v (bool_byte c.frmen * 2 + bool_byte c.spifsd) 13 (omega arith) (omega arith),
        bit_back c.frmdly v (bool_byte c.frmen * 8192 + bool_byte c.spifsd * 4096 + bool_byte c.frmpol * 2048) 1 (omega arith) (omega arith),
        bit_back c.spiben v (bool_byte c.frmen * 16384 + bool_byte c.spifsd * 8192 + bool_byte c.frmpol * 4096 + bool_byte c.frmdly) 0 (omega arith) (omega arith),
      )

module _ (c : Con1) where
  pub con1_back :
      record {
        dissck = (con1_from (con1_value c)).dissck;
        dissdo = (con1_from (con1_value c)).dissdo;
        mode16 = (con1_from (con1_value c)).mode16;
        smp = (con1_from (con1_value c)).smp;
        cke = (con1_from (con1_value c)).cke;
        ssen = (con1_from (con1_value c)).ssen;
        ckp = (con1_from (con1_value c)).ckp;
        msten = (con1_from (con1_value c)).msten;
        spre = c.spre;
        ppre = c.ppre;
      } ≡ c
  unfolding con1_from con1_value
  con1_back =
      let v = con1_value c in
      let p0 = weight c.dissck 4096 in
      let p1 = weight c.dissdo 2048 in
      let p2 = weight c.mode16 1024 in
      let p3 = weight c.smp 512 in
      let p4 = weight c.cke 256 in
      let p5 = weight c.ssen 128 in
      let p6 = weight c.ckp 64 in
      let p7 = weight c.msten 32 in
      rw (
        bit_back c.dissck v 0 12 (omega arith) (omega arith),
        bit_back c.dissdo v (bool_byte c.dissck) 11 (omega arith) (omega arith),
        bit_back c.mode16 v (bool_byte c.dissck * 2 + bool_byte c.dissdo) 10 (omega arith) (omega arith),
        bit_back c.smp v (bool_byte c.dissck * 4 + bool_byte c.dissdo * 2 + bool_byte c.mode16) 9 (omega arith) (omega arith),
        bit_back c.cke v (bool_byte c.dissck * 8 + bool_byte c.dissdo * 4 + bool_byte c.mode16 * 2 + bool_byte c.smp) 8 (omega arith) (omega arith),
        bit_back c.ssen v (bool_byte c.dissck * 16 + bool_byte c.dissdo * 8 + bool_byte c.mode16 * 4 + bool_byte c.smp * 2 + bool_byte c.cke) 7 (omega arith) (omega arith),
        bit_back c.ckp v (bool_byte c.dissck * 32 + bool_byte c.dissdo * 16 + bool_byte c.mode16 * 8 + bool_byte c.smp * 4 + bool_byte c.cke * 2 + bool_byte c.ssen) 6 (omega arith) (omega arith),
        bit_back c.msten v (bool_byte c.dissck * 64 + bool_byte c.dissdo * 32 + bool_byte c.mode16 * 16 + bool_byte c.smp * 8 + bool_byte c.cke * 4 + bool_byte c.ssen * 2 + bool_byte c.ckp) 5 (omega arith) (omega arith),
      )
