-- What reads of STAT, CON1 and CON2 show, bit by bit, in the page's words (specs/Flags.antt).
--     reads_show_lem   after any calls
-- Assumes nothing.
use Rattle.std.specs.Prelude.{◌+◌, ◌*◌, ◌/◌, ◌%◌, ◌^◌, ◌<◌, ◌≤◌, ◌&&◌, ◌≡◌}
use Rattle.laws.proofs.Common.{ℕ, Bool, true, false, not, Bool·not-not}
use Rattle.laws.proofs.Common.{refl, sym, ap, ap₂, ◌∙◌, mod-eq_of_lt, arith, ltb-true, ltb-false, le-ltb, le-leb, lt-leb}
use Rattle.laws.proofs.Common.{eqb-true, eqb-false, eqb, ltb, length, when◌then◌else◌, if_keeps, if_false, if_ap}
use Rattle.laws.proofs.Common.{and-false, by_test}
use mir.Val.{bool_byte}
use Rattle.word_order.specs.Bits.{bit_of}
use Rattle.word_order.specs.Ledger.{is_quiet}
use Rattle.word_order.specs.Port.{is_under}
use Rattle.word_order.proofs.Tied.{Tied}
use Rattle.word_order.proofs.Order.{tied_agrees}
use Rattle.module_rules.proofs.Types.{Con1, Con2, Settings, Engine, Module, Shift, Free, Loaded, Begun, Value}
use Rattle.module_rules.specs.Settings.{depth_of}
use Rattle.module_rules.specs.Registers.{weighed, con1_value, con2_value, is_free, spitbf, spirbf, shows_enhanced, srxmpt, srmpt, at_most7, spibec, stat_value}
use Rattle.module_rules.specs.Buffers.{full}
use Rattle.module_rules.specs.Words.{waiting_in, unread_in, unfinished, left_buffer}
use Rattle.module_rules.specs.Calls.{read_of, perform_of}
use Rattle.module_rules.specs.Invariant.{ModuleHolds}
use Rattle.module_rules.specs.Watch.{Watched, port_in, way_of, terms}
use Rattle.module_rules.specs.Flags.{con2_bits, shifts_none, counts, stat_bits, con1_bits, number_in}
use Rattle.module_rules.specs.Demands.{ReadsShow}
use Rattle.module_rules.proofs.BuffersOrder.{unread_length, waiting_length}

-- A weight is a bit's number times it.
weighed_is : (b : Bool) (w : ℕ) → weighed b w ≡ bool_byte b * w
unfolding weighed when◌then◌else◌
weighed_is true w = omega arith
weighed_is false w = omega arith

-- A bit as a number, and a number of three bits, and of two, which is what they spell.
bit_is : (n k : ℕ) → bool_byte (bit_of n k) ≡ n / 2 ^ k % 2
unfolding bit_of
bit_is n k =
    by_test (eqb (n / 2 ^ k % 2) 1)
    (λ e. ap bool_byte e ∙ sym (eqb-true (n / 2 ^ k % 2) 1 e))
    (λ e. let other : n / 2 ^ k % 2 ≡ 1 → ⊥ = eqb-false (n / 2 ^ k % 2) 1 e in ap bool_byte e ∙ omega arith)

three_bits : (n : ℕ) → n < 8 → bool_byte (bit_of n 2) * 4 + bool_byte (bit_of n 1) * 2 + bool_byte (bit_of n 0) ≡ n
three_bits n h = simp bit_is (omega arith)

two_bits : (n : ℕ) → n < 4 → bool_byte (bit_of n 1) * 2 + bool_byte (bit_of n 0) ≡ n
two_bits n h = simp bit_is (omega arith)

-- CON1 as read.
con1_reads : (c : Con1) → c.spre < 8 → c.ppre < 4 → con1_value c ≡ number_in (con1_bits c)
unfolding con1_value
con1_reads c spre ppre =
    simp weighed_is (omega (arith, mod-eq_of_lt spre, mod-eq_of_lt ppre, three_bits c.spre spre, two_bits c.ppre ppre))

-- CON2 as read.
con2_reads : (c : Con2) → con2_value c ≡ number_in (con2_bits c)
unfolding con2_value
con2_reads c = simp weighed_is (omega arith)

-- A buffer that holds no more than its depth is full if it holds exactly that.
full_is : (d c : ℕ) → c ≤ d → full d c ≡ eqb c d
full_is d c h =
    by_test (eqb c d) (λ e. le-leb d c (omega (arith, eqb-true c d e)) ∙ sym e)
    (λ e. let other : c ≡ d → ⊥ = eqb-false c d e in lt-leb d c (omega arith) ∙ sym e)

-- At most 7 words are shown.
at_most_7_is : (c : ℕ) → at_most7 c ≡ (when ltb 7 c then 7 else c)
unfolding at_most7
at_most_7_is c =
    if_keeps (λ (k : ℕ). (when ltb c 7 then c else 7) ≡ k) (ltb 7 c) 7 c
    (λ f. if_false (ltb c 7) c 7 (le-ltb c 7 (omega (arith, ltb-true 7 c f))))
    (λ f. if_keeps (λ (k : ℕ). k ≡ c) (ltb c 7) c 7 (λ e. refl) (λ e. omega (arith, ltb-false 7 c f, ltb-false c 7 e)))

-- No word is loaded or begun exactly if none has left the transmit buffer unfinished and the wire is quiet.
free_is : (s : Settings) (sh : Shift) → is_free sh ≡ (eqb (length (unfinished s sh)) 0 && not (is_under (way_of sh)))
free_is s Free = refl
free_is s (Loaded word) = refl
free_is s (Begun p) = sym (and-false (eqb (length (unfinished s (Begun p))) 0) false refl)

module _ (x : Watched) (h : ModuleHolds x.now)
    (was : x.now.settings.spien ≡ true → Tied (terms x.now.settings) (port_in x.now) x.ledger) where
  abbrev m : Module
  m = x.now

  abbrev s : Settings
  s = x.now.settings

  abbrev n : Engine
  n = x.now.engine

  waits : length (waiting_in m) ≡ n.transmit.count
  waits = waiting_length (depth_of s) n.transmit

  unreads : length (unread_in m) ≡ n.receive.count
  unreads = unread_length (depth_of s) n.receive

  spitbf-is : spitbf m ≡ eqb (length (waiting_in m)) (depth_of s)
  unfolding spitbf
  spitbf-is = full_is (depth_of s) n.transmit.count h.transmit.fits ∙ ap (λ (k : ℕ). eqb k (depth_of s)) (sym waits)

  spirbf-is : spirbf m ≡ eqb (length (unread_in m)) (depth_of s)
  unfolding spirbf
  spirbf-is = full_is (depth_of s) n.receive.count h.receive.fits ∙ ap (λ (k : ℕ). eqb k (depth_of s)) (sym unreads)

  srxmpt-is : srxmpt m ≡ (shows_enhanced s && eqb (length (unread_in m)) 0)
  unfolding srxmpt
  srxmpt-is = ap (λ (k : ℕ). shows_enhanced s && eqb k 0) (sym unreads)

  srmpt-is : srmpt m ≡ (shows_enhanced s && shifts_none x)
  unfolding srmpt
  srmpt-is =
      by_test s.spien
      (λ on.
      ap (λ (b : Bool). shows_enhanced s && b)
      (free_is s n.shift
      ∙ ap (λ (b : Bool). eqb (length (left_buffer m)) 0 && b)
      (ap not (sym (tied_agrees (terms s) (port_in m) x.ledger (was on)).under) ∙ Bool·not-not (is_quiet x.ledger.wire))))
      (λ off.
      ap (λ (b : Bool). (b && s.con2.spiben) && is_free n.shift) off
      ∙ sym (ap (λ (b : Bool). (b && s.con2.spiben) && shifts_none x) off))

  counts-is : (when s.con1.msten then n.transmit.count else n.receive.count) ≡ counts m
  counts-is =
      ap₂ (λ (a b : ℕ). when s.con1.msten then a else b) (sym waits) (sym unreads)
      ∙ sym (if_ap length s.con1.msten (waiting_in m) (unread_in m))

  spibec-is : spibec m ≡ (when shows_enhanced s then (when ltb 7 (counts m) then 7 else counts m) else 0)
  unfolding spibec
  spibec-is =
      ap (λ (k : ℕ). when shows_enhanced s then k else 0) (ap at_most7 counts-is ∙ at_most_7_is (counts m))

  spibec-small : spibec m < 8
  unfolding spibec at_most7
  spibec-small =
      if_keeps (λ (k : ℕ). k < 8) (shows_enhanced s) _ 0
      (λ e.
      let c : ℕ = when s.con1.msten then n.transmit.count else n.receive.count in
      if_keeps (λ (k : ℕ). k < 8) (ltb c 7) c 7 (λ f. let small : c < 7 = ltb-true c 7 f in omega arith) (λ f. omega arith))
      (λ e. omega arith)

  -- STAT as read.
  stat-reads : stat_value m ≡ number_in (stat_bits x)
  unfolding stat_value
  stat-reads =
      rw (← spibec-is, ← srmpt-is, ← srxmpt-is, ← spitbf-is, ← spirbf-is)
      (simp weighed_is
      (let small = h.settings.sisel in
      omega (arith, mod-eq_of_lt small, three_bits (spibec m) spibec-small, three_bits s.sisel small)))

  -- What reads show.
  pub reads_show_lem : ReadsShow x
  unfolding perform_of read_of when◌then◌else◌
  reads_show_lem =
      record {
        stat = ap (λ (v : ℕ). Value v) stat-reads;
        con1 = ap (λ (v : ℕ). Value v) (con1_reads s.con1 h.settings.spre h.settings.ppre);
        con2 = ap (λ (v : ℕ). Value v) (con2_reads s.con2);
      }
