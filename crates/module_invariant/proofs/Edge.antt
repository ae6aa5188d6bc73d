-- An edge keeps the invariant: select first, then the beginning of a word, then the edge itself.
--     shifted_holds     an edge short of 2w
--     advanced_holds    an edge of a begun word, the finish included
--     progress_edge, fresh_edge   a begun word, and one that begins, at an edge
--     loaded_top, first_top, filler_top   with CKE 1 SDO shows the top bit of the word that begins
--     under_way_cases   what is under way at an edge: what stays, what begins, or the begun word
--     selected_holds    select is seen, and an abort with it
--     edged_holds       an edge to a level
--     stepped_holds     the levels are seen
--     awaits_framed, framed_not_host, pulsed_holds   frames: who awaits a pulse, and that it moves nothing else
-- Assumes nothing.
use Rattle.std.specs.Prelude.{◌+◌, ◌-◌, ◌*◌, ◌/◌, ◌%◌, ◌^◌, ◌<◌, ◌&&◌, ◌||◌, ◌≡◌}
use Rattle.laws.proofs.Common.{ℕ, Bool, true, false, not, Bool·beq, refl}
use Rattle.laws.proofs.Common.{sym, ap, ◌∙◌, arith, ltb-true, ltb-false, eq-eqb, eqb-false, not-true, ltb, eqb, when◌then◌else◌}
use Rattle.laws.proofs.Common.{if_keeps, clash, and_left, and_right, and_rest, and_rest_first, like, unlike}
use Rattle.word_order.specs.Bits.{bit_of}
use Rattle.module_rules.proofs.Types.{Settings, Engine, Progress, Shift, Free, Loaded, Begun}
use Rattle.module_rules.specs.Settings.{width_of, framed, cke_of, silent, ssen_client, own_clock, unframed_host}
use Rattle.module_rules.specs.Registers.{is_free}
use Rattle.module_rules.specs.Buffers.{empty, first_waiting}
use Rattle.module_rules.specs.Bits.{samples, received_after, shown_bit, sdo_after, progressed}
use Rattle.module_rules.specs.Loading.{next_top, is_begun, rested, sdo_at}
use Rattle.module_rules.specs.Select.{select_remembered, aborted, deselected, select_seen}
use Rattle.module_rules.specs.Edge.{word_edges, fresh, begun, shifted, advanced, advanced_if_begun, awaits_pulse, under_way, pulsed, clocked, edged, levels, stepped}
use Rattle.module_rules.specs.Invariant.{ProgressHolds, ShiftHolds}
use Rattle.module_rules.proofs.Sizes.{width_least, power_least, no_bit_above}
use Rattle.module_invariant.proofs.Parts.{TransmitHolds, BuffersHold, WordHolds, EdgeHolds, EngineHolds, EdgedHolds, Idle}
use Rattle.module_invariant.proofs.Sampling.{sampled_none, sampled_all, shown_sampled, shown_kept, shown_changed, received_fits, turned, beq_high, beq_low}
use Rattle.module_invariant.proofs.BuffersKept.{first_waiting_fits}
use Rattle.module_invariant.proofs.Shift.{shift_is, shift_same, progress_with}
use Rattle.module_invariant.proofs.Finish.{rested_holds, finished_holds}

-- An SSEN client has no clock of its own.
pub client_not_own : {A : Type 0} (s : Settings) → ssen_client s ≡ true → own_clock s ≡ true → A
client_not_own s c own =
    let host : s.con1.msten ≡ true = and_left s.con1.msten _ own in
    let client : s.con1.msten ≡ false = not-true s.con1.msten (and_left (not s.con1.msten) _ c) in
    clash s.con1.msten host client

client_not_host : {A : Type 0} (s : Settings) → ssen_client s ≡ true → unframed_host s ≡ true → A
client_not_host s c own = client_not_own s c (and_left (own_clock s) _ own)

-- Only a framed module awaits a pulse.
pub awaits_framed : (s : Settings) (n : Engine) → awaits_pulse s n ≡ true → framed s ≡ true
unfolding awaits_pulse
awaits_framed s n e = and_left (framed s) _ (and_left (framed s && (s.con2.spifsd || not s.con2.frmdly)) _ e)

-- The clock of an unframed host stops.
pub framed_not_host : {A : Type 0} (s : Settings) → framed s ≡ true → unframed_host s ≡ true → A
framed_not_host s f own = clash (framed s) f (not-true (framed s) (and_right (own_clock s) _ own))

-- The pulse is decided at the end of an edge, and moves nothing else.
pub pulsed_holds : (s : Settings) (sck : Bool) (n : Engine) → EngineHolds s n → EngineHolds s (pulsed s sck n)
unfolding pulsed
pulsed_holds s sck n h =
    record {
      buffers = record { transmit = h.buffers.transmit; receive = h.buffers.receive };
      shift = shift_same s n _ _ _ _ _ _ _ _ _ (λ on. on) n.shift (λ busy. refl) h.shift;
      rest = h.rest;
    }

module _ (s : Settings) (sdi : Bool) (p : Progress) (n : Engine) (h : EdgeHolds s n p) where
  -- SDO after an edge short of 2w.
  shifted_shows : sdo_after s p.word (p.edges + 1) n.pins.sdo
      ≡ bit_of p.word
      (width_of s - 1 - (when cke_of s then p.edges + 1 else p.edges + 1 - 1) / 2)
  unfolding sdo_after shown_bit
  shifted_shows =
      let cke : Bool = cke_of s in
      let at : ℕ → Bool = λ k. bit_of p.word (width_of s - 1 - k) in
      if_keeps (λ (b : Bool). b ≡ at ((when cke then p.edges + 1 else p.edges + 1 - 1) / 2)) (samples cke (p.edges + 1)) _ _
      (λ e. h.shows e ∙ ap at (sym (shown_sampled cke p.edges)))
      (λ e. ap at (shown_changed cke p.edges e ∙ sym (shown_sampled cke p.edges)))

  -- A begun word after an edge short of 2w.
  shifted-progress : p.edges + 1 < word_edges s → ProgressHolds s (shifted s sdi p n) (progressed s sdi p)
  unfolding shifted progressed
  shifted-progress k =
      record {
        started = omega arith;
        short = k;
        word = h.sent.fits;
        received = received_fits s p.edges sdi p.received h.received;
        clock = h.clock;
        shows = shifted_shows;
        zeros = h.sent.zeros;
        host = h.sent.host;
        selected = h.sent.selected;
        first = h.sent.first;
      }

  -- The engine after an edge short of 2w.
  pub shifted_holds : BuffersHold s n → p.edges + 1 < word_edges s → EngineHolds s (shifted s sdi p n)
  unfolding shifted
  shifted_holds b k =
      record {
        buffers = record { transmit = b.transmit; receive = b.receive };
        shift = shifted-progress k;
        rest = λ on cke between. clash true refl between;
      }

  -- The edge that is not short of 2w is edge 2w.
  pub last_edge_lem : ltb (p.edges + 1) (word_edges s) ≡ false → p.edges + 1 ≡ 2 * width_of s
  last_edge_lem e = omega (arith, h.short, ltb-false (p.edges + 1) (2 * width_of s) e)

  -- At edge 2w the clock is idle.
  pub last_idle : p.edges + 1 ≡ 2 * width_of s → n.pins.sck ≡ s.con1.ckp
  last_idle e =
      let even : eqb ((p.edges + 1) % 2) 0 ≡ true = eq-eqb ((p.edges + 1) % 2) 0 (omega arith) in
      h.clock ∙ ap (Bool·beq s.con1.ckp) even ∙ beq_high s.con1.ckp

  -- The word received at edge 2w fits the width.
  pub last_fits : p.edges + 1 ≡ 2 * width_of s → received_after s (p.edges + 1) sdi p.received < 2 ^ width_of s
  last_fits e =
      rw (sampled_all (cke_of s) (p.edges + 1) (width_of s) e)
      at (received_fits s p.edges sdi p.received h.received)

  -- The engine after an edge of a begun word.
  pub advanced_holds : BuffersHold s n → EngineHolds s (advanced s sdi p n)
  unfolding advanced
  advanced_holds b =
      if_keeps (EngineHolds s) (ltb (p.edges + 1) (word_edges s)) _ _
      (λ e. shifted_holds b (ltb-true (p.edges + 1) (word_edges s) e))
      (λ e.
      let last : p.edges + 1 ≡ 2 * width_of s = last_edge_lem e in
      finished_holds s p.filler _ n (last_fits last) (record { buffers = b; idle = λ own. last_idle last }))

module _ (s : Settings) (sck : Bool) (n : Engine) where
  -- The clock moves no buffer.
  pub clocked_buffers : BuffersHold s n → BuffersHold s (clocked sck n)
  unfolding clocked
  clocked_buffers b = record { transmit = b.transmit; receive = b.receive }

  -- An engine after an edge with nothing begun.
  stays : (sh : Shift) → EngineHolds s n → n.shift ≡ sh → ShiftHolds s (clocked sck n) sh →
      EngineHolds s (clocked sck n)
  unfolding clocked
  stays sh h e k =
      record {
        buffers = clocked_buffers h.buffers;
        shift = shift_is s (clocked sck n) sh e k;
        rest = h.rest;
      }

  -- A begun word is given an edge.
  pub progress_edge : (p : Progress) → sck ≡ not n.pins.sck → ProgressHolds s n p → EdgeHolds s (clocked sck n) p
  unfolding clocked
  progress_edge p edge h =
      record {
        short = h.short;
        received = h.received;
        clock = edge ∙ ap not h.clock ∙ turned s.con1.ckp p.edges;
        shows = λ e.
            h.shows ∙ ap (λ (k : ℕ). bit_of p.word (width_of s - 1 - k)) (shown_kept (cke_of s) p.edges e);
        sent =
            record { fits = h.word; zeros = h.zeros; host = h.host; selected = h.selected; first = h.first };
      }

  -- A fresh word is given its first edge. With CKE 1 SDO shows its top bit before it.
  pub fresh_edge : {filler : Bool} {word : ℕ} → Bool·beq sck s.con1.ckp ≡ false →
      (cke_of s ≡ true → n.pins.sdo ≡ bit_of word (width_of s - 1)) → WordHolds s n filler word →
      EdgeHolds s (clocked sck n) (fresh filler word)
  unfolding clocked
  fresh_edge {word = word} away top h =
      record {
        short = omega (arith, width_least s);
        received = power_least _;
        clock = unlike sck s.con1.ckp away ∙ sym (beq_low s.con1.ckp);
        shows = λ e.
            top (sym (beq_high (cke_of s)) ∙ e)
            ∙ ap (bit_of word) (omega (arith, sampled_none (cke_of s)));
        sent =
            record { fits = h.fits; zeros = h.zeros; host = h.host; selected = h.selected; first = h.first };
      }

  -- A fresh word begins.
  begins : (sdi : Bool) {filler : Bool} {word : ℕ} → BuffersHold s n → Bool·beq sck s.con1.ckp ≡ false →
      (cke_of s ≡ true → n.pins.sdo ≡ bit_of word (width_of s - 1)) → WordHolds s n filler word →
      EdgedHolds s sck sdi n (Begun (fresh filler word))
  unfolding advanced_if_begun
  begins sdi b away top h = advanced_holds s sdi _ (clocked sck n) (fresh_edge away top h) (clocked_buffers b)

module _ (s : Settings) (n : Engine) where
  -- A loaded word can be sent.
  pub loaded_word_lem : (word : ℕ) → ShiftHolds s n (Loaded word) → WordHolds s n false word
  loaded_word_lem word k =
      record {
        fits = k.1;
        zeros = λ f. clash false f refl;
        host = λ m. refl;
        selected = λ c. clash (ssen_client s) c k.0;
        first = λ c. clash (ssen_client s) c k.0;
      }

  -- The first waiting word of a client that is not deselected can be sent.
  pub first_word_lem : TransmitHolds s n.transmit → deselected s n.pins.ss ≡ false → empty n.transmit.count ≡ false →
      WordHolds s n false (first_waiting n.transmit)
  first_word_lem t d some =
      let there : n.transmit.count ≡ 0 → ⊥ = eqb-false n.transmit.count 0 some in
      record {
        fits = first_waiting_fits s n.transmit t;
        zeros = λ f. clash false f refl;
        host = λ m. refl;
        selected = and_rest (ssen_client s) n.pins.ss d;
        first = λ c f. (omega arith, refl);
      }

  -- A filler can be sent by a module that is not silent and not deselected.
  pub filler_word : silent s ≡ false → deselected s n.pins.ss ≡ false → WordHolds s n true 0
  filler_word client d =
      record {
        fits = power_least (width_of s);
        zeros = λ f. refl;
        host = λ m. clash (silent s) m client;
        selected = and_rest (ssen_client s) n.pins.ss d;
        first = λ c f. clash true refl f;
      }

module _ (s : Settings) (on : s.spien ≡ true) (n : Engine) (h : EngineHolds s n) where
  -- With CKE 1 SDO shows the top bit of a loaded word.
  pub loaded_top : (word : ℕ) → n.shift ≡ Loaded word → cke_of s ≡ true → n.pins.sdo ≡ bit_of word (width_of s - 1)
  unfolding next_top
  loaded_top word e cke = h.rest on cke (ap is_begun e) ∙ ap (next_top s n.transmit) e

  -- With CKE 1 and the shift register free SDO shows the top bit of the first waiting word of an SSEN client.
  pub first_top : n.shift ≡ Free → (ssen_client s && not (empty n.transmit.count)) ≡ true → cke_of s ≡ true →
      n.pins.sdo ≡ bit_of (first_waiting n.transmit) (width_of s - 1)
  unfolding next_top
  first_top e c cke =
      h.rest on cke (ap is_begun e) ∙ ap (next_top s n.transmit) e
      ∙ ap (λ (b : Bool). b && bit_of (first_waiting n.transmit) (width_of s - 1)) c

  -- With CKE 1 and nothing to send SDO is low.
  pub filler_top : n.shift ≡ Free → (ssen_client s && not (empty n.transmit.count)) ≡ false → cke_of s ≡ true →
      n.pins.sdo ≡ bit_of 0 (width_of s - 1)
  unfolding next_top
  filler_top e c cke =
      h.rest on cke (ap is_begun e) ∙ ap (next_top s n.transmit) e
      ∙ ap (λ (b : Bool). b && bit_of (first_waiting n.transmit) (width_of s - 1)) c
      ∙ sym (no_bit_above 0 0 (width_of s - 1) (power_least 0) (omega arith))

-- What is under way at an edge to a level while not deselected: what the shift register has, which is not begun, and then
-- the clock of a host that is not free goes to idle; a word or a filler that begins; or the begun word.
module _ (s : Settings) (on : s.spien ≡ true) (sck : Bool) (n : Engine) (h : EngineHolds s n)
    (d : deselected s n.pins.ss ≡ false) (P : Shift → Type 0)
    (stays-so : (sh : Shift) → n.shift ≡ sh → is_begun sh ≡ false → ShiftHolds s n sh →
    ((unframed_host s ≡ true → is_free n.shift ≡ false) → Idle s (clocked sck n)) → P sh)
    (starts : (filler : Bool) (word : ℕ) → Bool·beq sck s.con1.ckp ≡ false →
    (cke_of s ≡ true → n.pins.sdo ≡ bit_of word (width_of s - 1)) → WordHolds s n filler word → P (Begun (fresh filler word)))
    (goes_on : (p : Progress) → ProgressHolds s n p → P (Begun p)) where
  begun_cases : n.shift ≡ Free → ShiftHolds s n Free → Bool·beq sck s.con1.ckp ≡ false → P (begun s n Free)
  unfolding begun
  begun_cases e k away =
      if_keeps P (silent s) _ _
      (λ host. stays-so Free e refl k (λ busy own. clash true refl (sym (ap is_free e) ∙ busy own)))
      (λ client.
      if_keeps P (ssen_client s && not (empty n.transmit.count)) _ _
      (λ c.
      starts _ _ away (first_top s on n h e c)
      (first_word_lem s n h.buffers.transmit d (not-true (empty n.transmit.count) (and_right (ssen_client s) _ c))))
      (λ c. starts _ _ away (filler_top s on n h e c) (filler_word s n client d)))

  -- With nothing begun.
  unbegun-cases : (sh : Shift) → n.shift ≡ sh → is_begun sh ≡ false → ShiftHolds s n sh →
      (Bool·beq sck s.con1.ckp ≡ false → P (begun s n sh)) →
      P (when Bool·beq sck s.con1.ckp then sh else when awaits_pulse s n then sh else begun s n sh)
  unfolding clocked
  unbegun-cases sh e unbegun k begins' =
      if_keeps P (Bool·beq sck s.con1.ckp) _ _ (λ to-idle. stays-so sh e unbegun k
      (λ busy own. like sck s.con1.ckp to-idle))
      (λ away.
      if_keeps P (awaits_pulse s n) _ _ (λ awaits. stays-so sh e unbegun k (λ busy. framed_not_host s (awaits_framed s n awaits)))
      (λ none. begins' away))

  way-cases : (sh : Shift) → n.shift ≡ sh → ShiftHolds s n sh →
      P (when Bool·beq sck s.con1.ckp then sh else when awaits_pulse s n then sh else begun s n sh)
  unfolding begun
  way-cases Free e k = unbegun-cases Free e refl k (begun_cases e k)
  way-cases (Loaded word) e k =
      unbegun-cases (Loaded word) e refl k (λ away. starts _ _ away (loaded_top s on n h word e) (loaded_word_lem s n word k))
  way-cases (Begun p) e k =
      if_keeps P (Bool·beq sck s.con1.ckp) _ _ (λ to-idle. goes_on p k)
      (λ away. if_keeps P (awaits_pulse s n) _ _ (λ awaits. goes_on p k) (λ none. goes_on p k))

  pub under_way_cases : P (under_way s sck n)
  unfolding under_way
  under_way_cases = way-cases n.shift refl h.shift

module _ (s : Settings) (on : s.spien ≡ true) (sck sdi : Bool) (n : Engine) (h : EngineHolds s n)
    (edge : sck ≡ not n.pins.sck) (busy : unframed_host s ≡ true → is_free n.shift ≡ false) where
  -- A shift register with nothing begun holds after an edge that begins nothing.
  clocked_shift : (sh : Shift) → is_begun sh ≡ false → ShiftHolds s n sh → Idle s (clocked sck n) → ShiftHolds s (clocked sck n) sh
  unfolding clocked
  clocked_shift Free unbegun k idle = (k.0, λ on. idle)
  clocked_shift (Loaded word) unbegun k idle = (k.0, k.1, idle)
  clocked_shift (Begun p) unbegun k idle = clash true refl unbegun

  -- An edge to a level while deselected.
  deselected_holds : deselected s n.pins.ss ≡ true → (sh : Shift) → n.shift ≡ sh → ShiftHolds s n sh →
      EngineHolds s (clocked sck n)
  deselected_holds d Free e k =
      stays s sck n Free h e (clocked_shift Free refl k (client_not_host s (and_left (ssen_client s) _ d)))
  deselected_holds d (Loaded word) e k = clash (ssen_client s) (and_left (ssen_client s) _ d) k.0
  deselected_holds d (Begun p) e k =
      clash n.pins.ss (and_right (ssen_client s) _ d) (k.selected (and_left (ssen_client s) _ d))

  -- What is under way, given the edge.
  unbegun-holds : (sh : Shift) → n.shift ≡ sh → is_begun sh ≡ false → ShiftHolds s n sh → Idle s (clocked sck n) →
      EdgedHolds s sck sdi n sh
  unfolding advanced_if_begun
  unbegun-holds Free e unbegun k idle = stays s sck n Free h e (clocked_shift Free refl k idle)
  unbegun-holds (Loaded word) e unbegun k idle = stays s sck n (Loaded word) h e (clocked_shift (Loaded word) refl k idle)
  unbegun-holds (Begun p) e unbegun k idle = clash true refl unbegun

  under-way-holds : deselected s n.pins.ss ≡ false → EdgedHolds s sck sdi n (under_way s sck n)
  unfolding advanced_if_begun
  under-way-holds d =
      under_way_cases s on sck n h d (EdgedHolds s sck sdi n) (λ sh e unbegun k idle. unbegun-holds sh e unbegun k (idle busy))
      (λ filler word away top w. begins s sck n sdi h.buffers away top w)
      (λ p k. advanced_holds s sdi p (clocked sck n) (progress_edge s sck n p edge k) (clocked_buffers s sck n h.buffers))

  -- An edge to a level.
  pub edged_holds : EngineHolds s (edged s sck sdi n)
  unfolding edged
  edged_holds =
      if_keeps (EngineHolds s) (deselected s n.pins.ss) _ _
      (λ d. deselected_holds d n.shift refl h.shift)
      (λ d. pulsed_holds s sck _ (under-way-holds d))

module _ (s : Settings) (ss : Bool) (n : Engine) (h : EngineHolds s n) where
  -- Select high takes the begun word back.
  pub aborted_holds : ssen_client s ≡ true → EngineHolds s (aborted s (select_remembered ss n))
  unfolding aborted select_remembered
  aborted_holds c =
      rested_holds s _
      (record {
        buffers = record { transmit = h.buffers.transmit; receive = h.buffers.receive };
        shift = (λ out. clash (ssen_client s) c out, λ on. client_not_host s c);
      })

  -- The shift register when select is remembered and aborts nothing.
  remembered-shift : (deselected s ss && is_begun n.shift) ≡ false → (sh : Shift) → n.shift ≡ sh → ShiftHolds s n sh →
      ShiftHolds s (select_remembered ss n) sh
  unfolding select_remembered
  remembered-shift d Free e k = k
  remembered-shift d (Loaded word) e k = k
  remembered-shift d (Begun p) e k =
      let in_reach : deselected s ss ≡ false = and_rest_first (deselected s ss) (is_begun n.shift) d (ap is_begun e) in
      progress_with s n _ _ _ _ p refl refl (and_rest (ssen_client s) ss in_reach) k.first k

  -- The engine when select is remembered and aborts nothing.
  pub remembered_holds : (deselected s ss && is_begun n.shift) ≡ false → EngineHolds s (select_remembered ss n)
  unfolding select_remembered
  remembered_holds d =
      record {
        buffers = record { transmit = h.buffers.transmit; receive = h.buffers.receive };
        shift = remembered-shift d n.shift refl h.shift;
        rest = h.rest;
      }

  -- Select is seen.
  pub selected_holds : EngineHolds s (select_seen s ss n)
  unfolding select_seen
  selected_holds =
      if_keeps (EngineHolds s) (deselected s ss && is_begun n.shift) _ _
      (λ e. aborted_holds (and_left (ssen_client s) ss (and_left (deselected s ss) _ e)))
      remembered_holds

-- Select moves no clock.
pub selected_sck : (s : Settings) (ss : Bool) (n : Engine) → (select_seen s ss n).pins.sck ≡ n.pins.sck
unfolding select_seen aborted rested sdo_at select_remembered
selected_sck s ss n =
    if_keeps (λ (x : Engine). x.pins.sck ≡ n.pins.sck) (deselected s ss && is_begun n.shift) _ _
    (λ e. refl)
    (λ e. refl)

-- Select leaves the shift register of a host with its own clock.
pub selected_shift : (s : Settings) (ss : Bool) (n : Engine) → own_clock s ≡ true → (select_seen s ss n).shift ≡ n.shift
unfolding select_seen select_remembered
selected_shift s ss n own =
    if_keeps (λ (x : Engine). x.shift ≡ n.shift) (deselected s ss && is_begun n.shift) _ _
    (λ e. client_not_own s (and_left (ssen_client s) ss (and_left (deselected s ss) _ e)) own)
    (λ e. refl)

-- The levels are seen. An unframed host with its own clock makes an edge only while its shift register is not free.
pub stepped_holds : (s : Settings) → s.spien ≡ true → (sck sdi ss : Bool) (n : Engine) →
    (unframed_host s ≡ true → is_free n.shift ≡ false) → EngineHolds s n → EngineHolds s (stepped s (levels sck sdi ss) n)
unfolding stepped
stepped_holds s on sck sdi ss n busy h =
    if_keeps (EngineHolds s) (Bool·beq sck n.pins.sck) _ _
    (λ e. selected_holds s ss n h)
    (λ e.
    edged_holds s on sck sdi (select_seen s ss n) (selected_holds s ss n h)
    (unlike sck n.pins.sck e ∙ ap not (sym (selected_sck s ss n)))
    (λ own. ap is_free (selected_shift s ss n (and_left (own_clock s) _ own)) ∙ busy own))
