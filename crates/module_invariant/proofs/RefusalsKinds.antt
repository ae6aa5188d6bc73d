-- What a call answers and which settings it leaves, for every call and every record.
--     call_fits   an answer that is no refusal is of the call's kind, and only a register write that is done changes
--                 settings, to the bits of its value
-- Assumes nothing.
use Rattle.std.specs.Prelude.{◌/◌, ◌%◌, ◌<◌, ◌+◌, ◌&&◌, ◌∷◌, ◌≡◌}
use Rattle.laws.proofs.Common.{zero, suc, ℕ, true, false, refl, sym, ap, ◌∙◌, arith}
use Rattle.laws.proofs.Common.{eqb, when◌then◌else◌, if_false}
use Rattle.word_order.specs.Bits.{bit_of}
use Rattle.module_rules.proofs.Types.{Settings, Engine, Module, Outcome, Answer, Refused, Done, Value, NoEdge, Edge, Call}
use Rattle.module_rules.proofs.Types.{Read, Write, Tick, Pin, ClockStep, Clear, Refusal, Con1, Con2}
use Rattle.module_rules.specs.Refusals.{said_of, is_done}
use Rattle.module_rules.specs.Registers.{con1_from, con2_from, stat_settings}
use Rattle.module_rules.specs.Calls.{perform_of, refuse, answering, clear_of}
use Rattle.module_rules.specs.RefusalTable.{asks, writes}
use Rattle.module_rules.specs.Flags.{stat_kept, con1_bits, con2_bits, written_to}
use Rattle.module_rules.specs.Demands.{kinds_for, among}
use Rattle.module_rules.proofs.ClockSteps.{step_cases, tick_cases, pins_cases}
use Rattle.module_invariant.proofs.CallCases.{stat_done, read_cases, write_cases}

-- The bits of a number that was cut out of another.
cut_bit : (v k : ℕ) → k < 3 → bit_of (v / 4 % 8) k ≡ bit_of v (k + 2)
unfolding bit_of
cut_bit v zero h = let e : v / 4 % 8 / 1 % 2 ≡ v / 4 % 2 = omega arith in ap (λ (x : ℕ). eqb x 1) e
cut_bit v (suc zero) h = let e : v / 4 % 8 / 2 % 2 ≡ v / 8 % 2 = omega arith in ap (λ (x : ℕ). eqb x 1) e
cut_bit v (suc (suc zero)) h = let e : v / 4 % 8 / 4 % 2 ≡ v / 16 % 2 = omega arith in ap (λ (x : ℕ). eqb x 1) e
cut_bit v (suc (suc (suc k))) h = absurd (omega (arith, h))

low_bit : (v k : ℕ) → k < 2 → bit_of (v % 4) k ≡ bit_of v k
unfolding bit_of
low_bit v zero h = let e : v % 4 / 1 % 2 ≡ v / 1 % 2 = omega arith in ap (λ (x : ℕ). eqb x 1) e
low_bit v (suc zero) h = let e : v % 4 / 2 % 2 ≡ v / 2 % 2 = omega arith in ap (λ (x : ℕ). eqb x 1) e
low_bit v (suc (suc k)) h = absurd (omega (arith, h))

-- A done write leaves the bits of its value.
stat_bits_lem : (v : ℕ) (s t : Settings) → stat_kept (stat_settings v s) ≡ written_to v (stat_kept t)
unfolding stat_settings
stat_bits_lem v s t = cc (cut_bit v 2 (omega arith), cut_bit v 1 (omega arith), cut_bit v 0 (omega arith))

con1_bits_lem : (v : ℕ) (c : Con1) → con1_bits (con1_from v) ≡ written_to v (con1_bits c)
unfolding con1_from
con1_bits_lem v c =
    let low = low_bit v 0 (omega arith) in
    cc (cut_bit v 2 (omega arith), cut_bit v 1 (omega arith), cut_bit v 0 (omega arith), low_bit v 1 (omega arith), low)

con2_bits_lem : (v : ℕ) (c : Con2) → con2_bits (con2_from v) ≡ written_to v (con2_bits c)
unfolding con2_from
con2_bits_lem v c = refl

-- An outcome that answers a call in kind and leaves the settings as written.
pub record Fitting (s : Settings) (c : Call) (o : Outcome) : Type 0 where
  pub kind : among (said_of o.answer).kind (0 ∷ kinds_for c) ≡ true
  pub stat : stat_kept o.after.settings
      ≡ (when is_done o.answer && writes 0 c then written_to (asks c).value (stat_kept s) else stat_kept s)
  pub con1 : con1_bits o.after.settings.con1
      ≡ (when is_done o.answer && writes 1 c then written_to (asks c).value (con1_bits s.con1) else con1_bits s.con1)
  pub con2 : con2_bits o.after.settings.con2
      ≡ (when is_done o.answer && writes 2 c then written_to (asks c).value (con2_bits s.con2) else con2_bits s.con2)

module _ (m : Module) where
  -- An answer in kind that leaves the settings, of a call that is no done write of STAT, CON1 or CON2.
  same_fits : (c : Call) (a : Answer) (after : Module) → after.settings ≡ m.settings →
      among (said_of a).kind (0 ∷ kinds_for c) ≡ true → (is_done a && writes 0 c) ≡ false →
      (is_done a && writes 1 c) ≡ false → (is_done a && writes 2 c) ≡ false →
      Fitting m.settings c (record { answer = a; after = after })
  same_fits c a after same kind stat con1 con2 =
      record {
        kind = kind;
        stat = ap stat_kept same ∙ sym (if_false (is_done a && writes 0 c) _ _ stat);
        con1 = ap (λ (s : Settings). con1_bits s.con1) same ∙ sym (if_false (is_done a && writes 1 c) _ _ con1);
        con2 = ap (λ (s : Settings). con2_bits s.con2) same ∙ sym (if_false (is_done a && writes 2 c) _ _ con2);
      }

  -- A refusal fits any call.
  refusal-fits : (c : Call) (r : Refusal) → Fitting m.settings c (refuse m r)
  unfolding refuse
  refusal-fits c r = same_fits c (Refused r) m refl refl refl refl refl

  -- Every call.
  pub call_fits : (c : Call) → Fitting m.settings c (perform_of m c)
  unfolding perform_of clear_of answering stat_settings when◌then◌else◌
  call_fits (Read register) =
      read_cases m (λ k. Fitting m.settings (Read k)) (λ k. refusal-fits (Read k))
      (λ k v other. same_fits (Read k) (Value v) m refl refl refl refl refl)
      (λ on plain some. same_fits (Read 3) (Value _) _ refl refl refl refl refl) register
  call_fits (Write register v) =
      let s : Settings = m.settings in
      let stat : (n : Engine) → Fitting s (Write 0 v) (stat_done m v n) =
      λ n. record { kind = refl; stat = stat_bits_lem v s s; con1 = refl; con2 = refl } in
      write_cases m v (λ k. Fitting s (Write k v)) (λ k. refusal-fits (Write k v)) (λ off up good. stat _) (λ on down. stat _)
      (λ same. stat _)
      (λ off. record { kind = refl; stat = refl; con1 = con1_bits_lem v s.con1; con2 = refl })
      (λ off. record { kind = refl; stat = refl; con1 = refl; con2 = con2_bits_lem v s.con2 })
      (λ on room. same_fits (Write 3 v) Done _ refl refl refl refl refl) register
  call_fits (Tick sdi ss) =
      let c : Call = Tick sdi ss in
      tick_cases m sdi ss (Fitting m.settings c) (refusal-fits c _) (refusal-fits c _)
      (λ on own still. same_fits c NoEdge _ refl refl refl refl refl)
      (λ on own moves. same_fits c Edge _ refl refl refl refl refl)
  call_fits (Pin sck sdi ss) =
      let c : Call = Pin sck sdi ss in
      pins_cases m sck sdi ss (Fitting m.settings c) (refusal-fits c _) (refusal-fits c _)
      (λ on pin. same_fits c Done _ refl refl refl refl refl)
  call_fits (ClockStep sck sdi ss) =
      let c : Call = ClockStep sck sdi ss in
      step_cases m sck sdi ss (Fitting m.settings c) (λ off. refusal-fits c _)
      (λ on own still. same_fits c NoEdge _ refl refl refl refl refl)
      (λ on own moves. same_fits c Done _ refl refl refl refl refl)
      (λ on pin. same_fits c Done _ refl refl refl refl refl)
  call_fits Clear = same_fits Clear Done _ refl refl refl refl refl
