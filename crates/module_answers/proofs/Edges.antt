-- An edge, by what it finds in the shift register.
--     unbegun, active    what is under way at an edge that begins no word, and at one that may begin one
--     begins, begins_free, begins_loaded
--                        an edge at which a word is under way, and two at which none is
--     goes_on, on_begun  an edge with a word begun
--     plain_cke, framed_cke
--                        CKE as the edge rules see it, of an unframed module and of a framed one
--     ends_plain, ends_framed
--                        an edge of an unframed module, which has no pulse to decide, and of a framed one
--     sampled, shown     an edge within a begun word that samples SDI, or changes SDO
--     select_high        select high deselects an SSEN client
--     seen_off, seen_same, seen_edge
--                        levels that are seen: deselected, or not, without an edge and with one
--     own_turn           a tick is an edge to the other level
--     plain_turn, told_turn
--                        the same for a tick that carries a select level, of an unframed module and of any
-- Assumes nothing.
use Rattle.std.specs.Prelude.{◌+◌, ◌&&◌, ◌||◌, ◌≡◌}
use Rattle.laws.proofs.Common.{ℕ, Bool, true, false, not, Bool·beq, refl, sym, ap, ◌∙◌, when◌then◌else◌}
use Rattle.laws.proofs.Common.{if_keeps, if_ap, if_true, if_false, and_first, or_left, or_right, or_rest, clash, like, so}
use Rattle.laws.proofs.Common.{not_so, by_case}
use Rattle.module_rules.proofs.Types.{Settings, Progress, Shift, Free, Loaded, Begun, Engine, Module}
use Rattle.module_rules.specs.Changes.{with_sck, with_sdo, with_pulse, with_shift}
use Rattle.module_rules.specs.Settings.{framed, frame_client, cke_of, ssen_client, own_clock}
use Rattle.module_rules.specs.Bits.{samples, shifted_in, received_after, shown_bit, sdo_after, progressed}
use Rattle.module_rules.specs.Loading.{is_begun}
use Rattle.module_rules.specs.Select.{deselected, select_remembered, select_seen}
use Rattle.module_rules.specs.Edge.{begun, awaits_pulse, under_way, shifted, advanced, advanced_if_begun, pulse_after, pulsed, clocked, edged, levels, stepped}
use Rattle.module_rules.specs.Calls.{told_select}
use Rattle.module_invariant.proofs.CallsWhen.{told_elsewhere, unframed_told, unpulsed, told_edge, own_edge_lem}
use Rattle.module_invariant.proofs.Edge.{selected_sck}
use Rattle.module_invariant.proofs.Select.{seen_select}
use Rattle.module_memory.specs.Memory.{went_on, gone_on}
use Rattle.module_answers.specs.Answered.{edge_advanced, edge_counted, turned}

-- What is under way at an edge: it goes to the idle level or a pulse is awaited, or neither.
module _ (s : Settings) (sck : Bool) (n : Engine) where
  pub unbegun : {x : Shift} → n.shift ≡ x → (Bool·beq sck s.con1.ckp || awaits_pulse s n) ≡ true → under_way s sck n ≡ x
  unfolding under_way
  unbegun {x} h none =
      if_keeps (λ (y : Shift). y ≡ x) (Bool·beq sck s.con1.ckp) _ _ (λ _. h)
      (λ away. if_true _ _ _ (or_rest _ _ none away) ∙ h)

  pub active : {x y : Shift} → n.shift ≡ x → (Bool·beq sck s.con1.ckp || awaits_pulse s n) ≡ false → begun s n x ≡ y →
      under_way s sck n ≡ y
  unfolding under_way
  active h may k =
      let there = Bool·beq sck s.con1.ckp in
      if_false _ _ _ (or_left there (awaits_pulse s n) may)
      ∙ if_false _ _ _ (or_right there (awaits_pulse s n) may)
      ∙ ap (begun s n) h
      ∙ k

module _ (s : Settings) (sck sdi : Bool) (n : Engine) where
  pub begins : {p : Progress} → under_way s sck n ≡ Begun p → advanced s sdi p (clocked sck n) ≡ edge_advanced s sck sdi n
  unfolding edge_advanced advanced_if_begun
  begins e = sym (ap (λ (x : Shift). advanced_if_begun s sdi x (clocked sck n)) e)

  pub begins_free : under_way s sck n ≡ Free → clocked sck n ≡ edge_advanced s sck sdi n
  unfolding edge_advanced advanced_if_begun
  begins_free e = sym (ap (λ (x : Shift). advanced_if_begun s sdi x (clocked sck n)) e)

  pub begins_loaded : {word : ℕ} → under_way s sck n ≡ Loaded word → clocked sck n ≡ edge_advanced s sck sdi n
  unfolding edge_advanced advanced_if_begun
  begins_loaded e = sym (ap (λ (x : Shift). advanced_if_begun s sdi x (clocked sck n)) e)

-- A begun word goes on at either level.
still_begun : (s : Settings) (n : Engine) (x : Shift) → is_begun x ≡ true → x ≡ begun s n x
unfolding begun
still_begun s n Free e = clash false e refl
still_begun s n (Loaded word) e = clash false e refl
still_begun s n (Begun p) e = refl

pub goes_on : (s : Settings) (sck sdi : Bool) (n : Engine) → is_begun n.shift ≡ true →
    advanced_if_begun s sdi n.shift (clocked sck n) ≡ edge_advanced s sck sdi n
unfolding under_way edge_advanced
goes_on s sck sdi n e =
    let still = still_begun s n n.shift e in
    ap (λ (x : Shift). advanced_if_begun s sdi x (clocked sck n))
    (if_keeps (λ (y : Shift). n.shift ≡ y) (Bool·beq sck s.con1.ckp) _ _ (λ _. refl)
    (λ _. if_keeps (λ (y : Shift). n.shift ≡ y) (awaits_pulse s n) _ _ (λ _. refl) (λ _. still)))

-- CKE as the edge rules see it: as written for an unframed module, and 0 for a framed one.
pub plain_cke : (s : Settings) → framed s ≡ false → s.con1.cke ≡ cke_of s
plain_cke s plain = sym (ap (λ (b : Bool). not b && s.con1.cke) plain)

pub framed_cke : (s : Settings) → framed s ≡ true → false ≡ cke_of s
framed_cke s frames = sym (ap (λ (b : Bool). not b && s.con1.cke) frames)

-- The end of an edge.
module _ (s : Settings) (sck sdi : Bool) (n : Engine) {x : Engine} (e : x ≡ edge_advanced s sck sdi n) where
  pub ends_plain : framed s ≡ false → x ≡ edge_counted s sck sdi n
  unfolding edge_counted
  ends_plain plain = e ∙ sym (unpulsed s sck (edge_advanced s sck sdi n) plain)

  pub ends_framed : framed s ≡ true → with_pulse (pulse_after s sck x) x ≡ edge_counted s sck sdi n
  unfolding edge_counted pulsed
  ends_framed frames =
      ap (λ (y : Engine). with_pulse (pulse_after s sck y) y) e
      ∙ sym (ap (λ (b : Bool). with_pulse b (edge_advanced s sck sdi n)) (if_true (framed s) _ _ frames))

module _ (s : Settings) (n : Engine) {p : Progress} (x : n.shift ≡ Begun p) where
  pub on_begun : (sdi : Bool) {z : Engine} → z ≡ advanced s sdi p n → z ≡ advanced_if_begun s sdi n.shift n
  unfolding advanced_if_begun
  on_begun sdi h = by_case (λ (y : Shift). advanced_if_begun s sdi y n) x h

  shifts : (sdi : Bool) {received : ℕ} {sdo : Bool} → received ≡ received_after s (p.edges + 1) sdi p.received →
      sdo ≡ sdo_after s p.word (p.edges + 1) n.pins.sdo →
      with_sdo sdo (gone_on (p.edges + 1) received n) ≡ shifted s sdi p n
  unfolding went_on shifted progressed
  shifts sdi {received} {sdo} r d =
      ap (λ (y : Shift). with_sdo sdo (with_shift (went_on (p.edges + 1) received y) n)) x ∙ rw (r, d)

  pub sampled : (sdi : Bool) {received : ℕ} → samples (cke_of s) (p.edges + 1) ≡ true →
      received ≡ shifted_in p.received sdi → gone_on (p.edges + 1) received n ≡ shifted s sdi p n
  unfolding received_after sdo_after
  sampled sdi e r = shifts sdi (so _ _ _ e r) (so _ _ _ e refl)

  pub shown : (sdi : Bool) {sdo : Bool} → samples (cke_of s) (p.edges + 1) ≡ false →
      sdo ≡ shown_bit s p.word (p.edges + 1) → with_sdo sdo (gone_on (p.edges + 1) p.received n) ≡ shifted s sdi p n
  unfolding received_after sdo_after
  shown sdi e d = shifts sdi (not_so _ _ _ e refl) (not_so _ _ _ e d)

-- Select high deselects an SSEN client.
and-true : (a : Bool) → a ≡ (a && true)
and-true true = refl
and-true false = refl

pub select_high : (s : Settings) → ssen_client s ≡ deselected s true
select_high s = and-true (ssen_client s)

-- Levels that are seen.
module _ (s : Settings) (sck sdi ss : Bool) (n : Engine) where
  pub seen_off : deselected s ss ≡ true → with_sck sck (select_seen s ss n) ≡ stepped s (levels sck sdi ss) n
  unfolding stepped edged clocked
  seen_off off =
      let x : Engine = select_seen s ss n in
      if_keeps (λ (y : Engine). with_sck sck x ≡ y) (Bool·beq sck n.pins.sck) _ _
      (λ e. ap (λ (level : Bool). with_sck level x) (like sck n.pins.sck e ∙ sym (selected_sck s ss n)))
      (λ _. so _ _ _ (ap (deselected s) (seen_select s ss n) ∙ off) refl)

  -- A module that is not deselected only remembers the select level.
  seen-on : deselected s ss ≡ false → select_remembered ss n ≡ select_seen s ss n
  unfolding select_seen
  seen-on on = not_so _ _ _ (and_first (deselected s ss) (is_begun n.shift) on) refl

  pub seen_same : deselected s ss ≡ false → Bool·beq sck n.pins.sck ≡ true → select_remembered ss n ≡ stepped s (levels sck sdi ss) n
  unfolding stepped
  seen_same on e = so _ _ _ e (seen-on on)

  pub seen_edge : deselected s ss ≡ false → Bool·beq sck n.pins.sck ≡ false →
      edge_counted s sck sdi (select_remembered ss n) ≡ stepped s (levels sck sdi ss) n
  unfolding stepped edged edge_advanced edge_counted select_remembered
  seen_edge on e =
      let edge : edge_counted s sck sdi (select_remembered ss n) ≡ edged s sck sdi (select_remembered ss n) =
      not_so _ _ _ on refl in
      not_so _ _ _ e (edge ∙ ap (edged s sck sdi) (seen-on on))

pub own_turn : (s : Settings) (sdi : Bool) (n : Engine) → own_clock s ≡ true →
    turned s sdi n ≡ stepped s (levels (not n.pins.sck) sdi n.pins.ss) n
unfolding turned edge_advanced edge_counted
own_turn s sdi n own = sym (own_edge_lem s n own sdi)

pub plain_turn : (m : Module) (sdi ss : Bool) → own_clock m.settings ≡ true → framed m.settings ≡ false →
    turned m.settings sdi m.engine
    ≡ stepped m.settings (levels (not m.engine.pins.sck) sdi (told_select m ss)) m.engine
plain_turn m sdi ss own plain =
    own_turn m.settings sdi m.engine own
    ∙ sym (ap (λ (level : Bool). stepped m.settings (levels (not m.engine.pins.sck) sdi level) m.engine)
    (told_elsewhere m ss (unframed_told m.settings plain)))

pub told_turn : (m : Module) (sdi ss : Bool) → own_clock m.settings ≡ true →
    turned m.settings sdi (when frame_client m.settings then select_remembered ss m.engine else m.engine)
    ≡ stepped m.settings (levels (not m.engine.pins.sck) sdi (told_select m ss)) m.engine
unfolding turned edge_advanced edge_counted select_remembered
told_turn m sdi ss own =
    ap (turned m.settings sdi)
    (sym (if_ap (λ (level : Bool). select_remembered level m.engine) (frame_client m.settings) ss m.engine.pins.ss))
    ∙ sym (told_edge m.settings m.engine own sdi (told_select m ss))
