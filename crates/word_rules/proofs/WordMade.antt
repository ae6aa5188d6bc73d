-- All edges of a word, one behind the other, leave the closed form. Each edge is one of the same kind whatever clocks the module (`step_edge`), and
-- the closed form is the same told before an edge and after it (`told_on`), so that the last edge (`told_end`) says what all of them leave.
--     seen_edge        levels with another SCK that are seen are an edge to it
--     step_edge        a clock step of an enabled unframed module that does not rest is an edge to the other level
--     finish_forgets   a finish does not look at the shift register
--     step_under       such an edge at which a word is under way
--     edges_made_lem       all edges of a word, from one that is under way on
--     edges_levels     and the levels of SDO where they sample
-- Assumes nothing.
use Rattle.std.specs.Prelude.{◌+◌, ◌<◌, ◌&&◌, ◌≡◌}
use Rattle.laws.proofs.Common.{ℕ, zero, suc, Bool, true, false, not, Bool·beq, refl, sym, ap, ◌∙◌, arith}
use Rattle.laws.proofs.Common.{when◌then◌else◌, if_keeps, if_true, if_false, by_test, and_left, and-false, and_first, so_lt}
use Rattle.laws.proofs.Common.{not_so_lt}
use Rattle.module_rules.proofs.Types.{Settings, Engine, Module, Outcome, Progress, Shift, Begun, ClockStep}
use Rattle.module_rules.specs.Changes.{with_sck, with_ss, with_sdo, with_shift}
use Rattle.module_rules.specs.Settings.{framed, clock_stops, ssen_client, own_clock}
use Rattle.module_rules.specs.Registers.{is_free}
use Rattle.module_rules.specs.Bits.{progressed}
use Rattle.module_rules.specs.Interrupts.{noted}
use Rattle.module_rules.specs.Loading.{word_leaves, loaded, rested, is_begun}
use Rattle.module_rules.specs.Select.{deselected, select_remembered, select_seen}
use Rattle.module_rules.specs.Finish.{overflowed, word_appended, is_lost, delivered, sent_dropped, freed, finished}
use Rattle.module_rules.specs.Edge.{word_edges, begun, awaits_pulse, under_way, shifted, advanced, advanced_if_begun, clocked, edged, levels, stepped}
use Rattle.module_rules.specs.Calls.{answering, perform_of, after_calls}
use Rattle.module_rules.proofs.ClockSteps.{step_own, step_pin}
use Rattle.module_invariant.proofs.CallsWhen.{told_elsewhere, unframed_told, unpulsed, not_unlike}
use Rattle.word_rules.specs.Word.{sdi_at, edges_from, level_on, levels_by}
use Rattle.word_rules.proofs.Closed.{behind, word_made, all_levels, remembered}
use Rattle.word_rules.proofs.Values.{received_on, received_end, received_small, none_behind, Shows, shows_on, levels_on, sck_on, sck_end, sdo_on, sdo_end}

-- A module of these settings and this engine.
abbrev pub at : Settings → Engine → Module
at s n = record { settings = s; engine = n }

-- An edge to the other level of SCK.
abbrev pub turned_to : Settings → Bool → Engine → Engine
turned_to s sdi n = advanced_if_begun s sdi (under_way s (not n.pins.sck) n) (clocked (not n.pins.sck) n)

module _ (s : Settings) (on : s.spien ≡ true) (plain : framed s ≡ false) (ss : Bool) (kept : deselected s ss ≡ false) where
  -- Levels seen with another SCK.
  pub seen_edge : (n : Engine) (sdi level : Bool) → deselected s level ≡ false →
      stepped s (levels (not n.pins.sck) sdi level) n ≡ turned_to s sdi (select_remembered level n)
  unfolding stepped select_seen select_remembered edged
  seen_edge n sdi level chosen =
      if_false (Bool·beq (not n.pins.sck) n.pins.sck) _ _ (not_unlike n.pins.sck)
      ∙ ap (edged s (not n.pins.sck) sdi) (if_false (deselected s level && is_begun n.shift) _ _ (and_first _ _ chosen))
      ∙ if_false (deselected s level) _ _ chosen
      ∙ unpulsed s (not n.pins.sck) _ plain

  own-chosen : (n : Engine) → own_clock s ≡ true → deselected s n.pins.ss ≡ false
  own-chosen n own = and_first _ _ (and_first _ _ (ap not (and_left s.con1.msten _ own)))

  pub step_edge : (n : Engine) (sdi : Bool) → (own_clock s && is_free n.shift) ≡ false →
      (perform_of (at s n) (ClockStep (not n.pins.sck) sdi ss)).after ≡ at s (turned_to s sdi (remembered s ss n))
  unfolding perform_of answering remembered select_remembered
  step_edge n sdi moves =
      by_test (own_clock s)
      (λ own.
      let level = told_elsewhere (at s n) ss (unframed_told s plain) in
      ap (λ (o : Outcome). o.after) (step_own (at s n) (not n.pins.sck) sdi ss on own (and-false (clock_stops s) _ (busy own)))
      ∙ ap (at s)
      (ap (λ (x : Bool). stepped s (levels (not n.pins.sck) sdi x) n) level
      ∙ seen_edge n sdi n.pins.ss (own-chosen n own)
      ∙ ap (λ (x : Bool). turned_to s sdi (with_ss x n)) (sym (if_true (own_clock s) _ _ own))))
      (λ pin.
      ap (λ (o : Outcome). o.after) (step_pin (at s n) (not n.pins.sck) sdi ss on pin)
      ∙ ap (at s) (seen_edge n sdi ss kept ∙ ap (λ (x : Bool). turned_to s sdi (with_ss x n)) (sym (if_false (own_clock s) _ _ pin))))
    where
      busy : own_clock s ≡ true → is_free n.shift ≡ false
      busy own = sym (ap (λ (b : Bool). b && is_free n.shift) own) ∙ moves

-- A finish frees the shift register, and nothing before that looks at it.
forgets : (s : Settings) (lost drops : Bool) (word : ℕ) (x : Shift) (n : Engine) →
    freed s
    (when drops then word_leaves s (when lost then overflowed s (with_shift x n) else word_appended s word (with_shift x n))
    else when lost then overflowed s (with_shift x n) else word_appended s word (with_shift x n))
    ≡ freed s
    (when drops then word_leaves s (when lost then overflowed s n else word_appended s word n)
    else when lost then overflowed s n else word_appended s word n)
unfolding when◌then◌else◌ freed word_leaves overflowed word_appended noted
forgets s true true word x n = refl
forgets s true false word x n = refl
forgets s false true word x n = refl
forgets s false false word x n = refl

pub finish_forgets : (s : Settings) (filler : Bool) (word : ℕ) (x : Shift) (n : Engine) →
    finished s filler word (with_shift x n) ≡ finished s filler word n
unfolding finished sent_dropped delivered is_lost
finish_forgets s filler word x n =
    ap (λ (y : Engine). rested s (loaded s y)) (forgets s (is_lost s n) (ssen_client s && not filler) word x n)

module _ (s : Settings) (word : ℕ) where
  -- The engine that the closed form finishes goes by three values.
  by_values : (n : Engine) (filler : Bool) {r x : ℕ} {b c d e : Bool} → r ≡ x → b ≡ c → d ≡ e →
      finished s filler r (with_sdo b (with_sck d n)) ≡ finished s filler x (with_sdo c (with_sck e n))
  by_values n filler received sdo sck = λ i. finished s filler (received i) (with_sdo (sdo i) (with_sck (sck i) n))

  -- The closed form before an edge short of 2w, and after it.
  pub told_on : (n : Engine) (p : Progress) → p.edges + 1 < word_edges s →
      word_made s word (progressed s (sdi_at s p.edges word) p) (shifted s (sdi_at s p.edges word) p (clocked (not n.pins.sck) n))
      ≡ word_made s word p n
  unfolding word_made progressed shifted clocked
  told_on n p h =
      finish_forgets s p.filler _ _ _
      ∙ by_values n p.filler (received_on s p.edges (omega arith) word p.received) (sdo_on s p.word p.edges n.pins.sdo h)
      (sck_on p.edges n.pins.sck)

  -- The last edge.
  pub told_end : (n : Engine) (p : Progress) → p.edges + 1 ≡ word_edges s → p.received < 65536 →
      advanced s (sdi_at s p.edges word) p (clocked (not n.pins.sck) n) ≡ word_made s word p n
  unfolding advanced word_made clocked
  told_end n p e small =
      let fits = received_small s (p.edges + 1) (sdi_at s p.edges word) p.received small in
      sym (not_so_lt (p.edges + 1) (word_edges s) _ _ (omega arith) refl)
      ∙ by_values n p.filler
      (sym (received_end s word (p.edges + 1) _ e fits) ∙ received_on s p.edges (omega arith) word p.received)
      (sym (sdo_end s p.word p.edges n.pins.sdo e))
      (sym (sck_end s (p.edges + 1) (not n.pins.sck) e) ∙ sck_on p.edges n.pins.sck)

module _ (s : Settings) (on : s.spien ≡ true) (plain : framed s ≡ false) (ss : Bool) (kept : deselected s ss ≡ false) (word : ℕ) where
  -- The select level of these steps is remembered already.
  abbrev pub Heard : Engine → Type 0
  Heard n = (when own_clock s then n.pins.ss else ss) ≡ n.pins.ss

  -- An edge at which a word is under way.
  pub step_under : (n : Engine) (p : Progress) (sdi : Bool) → (own_clock s && is_free n.shift) ≡ false → Heard n →
      under_way s (not n.pins.sck) n ≡ Begun p →
      (perform_of (at s n) (ClockStep (not n.pins.sck) sdi ss)).after ≡ at s (advanced s sdi p (clocked (not n.pins.sck) n))
  unfolding advanced_if_begun remembered
  step_under n p sdi moves heard under =
      step_edge s on plain ss kept n sdi moves
      ∙ ap (λ (x : Bool). at s (turned_to s sdi (with_ss x n))) heard
      ∙ ap (λ (x : Shift). at s (advanced_if_begun s sdi x (clocked (not n.pins.sck) n))) under

  -- A word that is begun goes on.
  step-begun : (n : Engine) (p : Progress) (sdi : Bool) → n.shift ≡ Begun p → Heard n →
      (perform_of (at s n) (ClockStep (not n.pins.sck) sdi ss)).after ≡ at s (advanced s sdi p (clocked (not n.pins.sck) n))
  unfolding under_way begun
  step-begun n p sdi e heard =
      step_under n p sdi (and-false (own_clock s) _ (ap is_free e)) heard
      (if_keeps (λ (x : Shift). x ≡ Begun p) (Bool·beq (not n.pins.sck) s.con1.ckp) _ _ (λ i. e)
      (λ a. if_keeps (λ (x : Shift). x ≡ Begun p) (awaits_pulse s n) _ _ (λ w. e) (λ w. ap (begun s n) e)))

  -- What the first of these steps leaves, and short of 2w.
  abbrev pub Steps : Engine → Progress → Type 0
  Steps n p =
      (perform_of (at s n) (ClockStep (not n.pins.sck) (sdi_at s p.edges word) ss)).after
      ≡ at s (advanced s (sdi_at s p.edges word) p (clocked (not n.pins.sck) n))

  step_on : (i : ℕ) (n : Engine) (p : Progress) → Steps n p → p.edges + suc (suc i) ≡ word_edges s →
      (perform_of (at s n) (ClockStep (not n.pins.sck) (sdi_at s p.edges word) ss)).after
      ≡ at s (shifted s (sdi_at s p.edges word) p (clocked (not n.pins.sck) n))
  unfolding advanced
  step_on i n p first h = first ∙ ap (at s) (sym (so_lt (p.edges + 1) (word_edges s) _ _ (omega arith) refl))

  -- All edges of a word, from one that is under way on. Behind the first edge the word is begun.
  pub edges_made_lem : (i : ℕ) (n : Engine) (p : Progress) → Steps n p → Heard n → p.edges + suc i ≡ word_edges s → p.received < 65536 →
      after_calls (at s n) (edges_from s ss n.pins.sck p.edges (suc i) word) ≡ at s (word_made s word p n)
  unfolding shifted progressed clocked
  edges_made_lem zero n p first heard h small = first ∙ ap (at s) (told_end s word n p (omega arith) small)
  edges_made_lem (suc i) n p first heard h small =
      let sdi = sdi_at s p.edges word in
      let after = shifted s sdi p (clocked (not n.pins.sck) n) in
      let on-from = progressed s sdi p in
      ap (λ (m : Module). after_calls m (edges_from s ss (not n.pins.sck) (p.edges + 1) (suc i) word)) (step_on i n p first h)
      ∙ edges_made_lem i after on-from (step-begun after on-from _ refl heard) heard (omega arith) (received_small s (p.edges + 1) sdi p.received small)
      ∙ ap (at s) (told_on s word n p (omega arith))

  -- The levels of SDO: with SDO at the bit that it is to show, the bits of the word that are left.
  shown-levels : (i x : ℕ) (n : Engine) (p : Progress) → Steps n p → Heard n → p.edges + suc i ≡ word_edges s →
      Shows s p.word p.edges n.pins.sdo →
      levels_by s ss n.pins.sck p.edges (suc i) word x (at s n) ≡ behind s p.word p.edges x
  unfolding shifted progressed clocked
  shown-levels zero x n p first heard h shows =
      sym (none_behind s p.word (p.edges + 1) _ (omega arith)) ∙ levels_on s p.edges (omega arith) p.word x n.pins.sdo shows
  shown-levels (suc i) x n p first heard h shows =
      let sdi = sdi_at s p.edges word in
      let more = level_on s p.edges n.pins.sdo x in
      let after = shifted s sdi p (clocked (not n.pins.sck) n) in
      let on-from = progressed s sdi p in
      ap (levels_by s ss (not n.pins.sck) (p.edges + 1) (suc i) word more) (step_on i n p first h)
      ∙ shown-levels i more after on-from (step-begun after on-from _ refl heard) heard (omega arith) (shows_on s p.word p.edges n.pins.sdo)
      ∙ levels_on s p.edges (omega arith) p.word x n.pins.sdo shows

  -- Whatever SDO shows: its level counts at the first edge if that samples, and behind it SDO is at the bit that it is to show.
  pub edges_levels : (i : ℕ) (n : Engine) (p : Progress) → Steps n p → Heard n → p.edges + suc i ≡ word_edges s →
      levels_by s ss n.pins.sck p.edges (suc i) word 0 (at s n) ≡ all_levels s p n.pins.sdo
  unfolding all_levels shifted progressed clocked
  edges_levels zero n p first heard h = sym (none_behind s p.word (p.edges + 1) _ (omega arith))
  edges_levels (suc i) n p first heard h =
      let sdi = sdi_at s p.edges word in
      let more = level_on s p.edges n.pins.sdo 0 in
      let after = shifted s sdi p (clocked (not n.pins.sck) n) in
      let on-from = progressed s sdi p in
      ap (levels_by s ss (not n.pins.sck) (p.edges + 1) (suc i) word more) (step_on i n p first h)
      ∙ shown-levels i more after on-from (step-begun after on-from _ refl heard) heard (omega arith) (shows_on s p.word p.edges n.pins.sdo)
