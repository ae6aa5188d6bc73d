-- What the invariant of specs/Invariant.antt is good for: for each clause a fact about every module that calls reach.
--     settings    sisel_shown_whole, spre_shown_whole, ppre_shown_whole, enabled_divided,
--                 enabled_samples_in_time, enabled_client_selects
--     rings       transmit_positions_name_cells, receive_positions_name_cells, transmit_full_at_depth,
--                 receive_full_at_depth
--     cells       next_word_fits, first_unread_whole, buf_read_whole
--     free        no_edge_nothing_waits, no_edge_clock_idle
--     loaded      loaded_not_ssen_client, loaded_word_fits, tick_begins_loaded_word
--     begun       begun_edges_left, finishes_at_last_edge, goes_on_before_last_edge, begun_word_fits,
--                 received_word_fits, odd_edge_active, even_edge_idle, filler_shows_zeros, silent_sends_no_filler,
--                 begun_is_shown, begun_shows_bit, begun_word_waits, abort_frees, abort_keeps_word_first
--     emptied     disabled_nothing_waits, disabled_nothing_unread, disabled_nothing_loaded
--     rest        sdo_shows_next_word
-- Assumes nothing.
use Rattle.std.specs.Prelude.{◌+◌, ◌-◌, ◌*◌, ◌/◌, ◌%◌, ◌^◌, ◌≤◌, ◌<◌, ◌&&◌, ◌||◌, ◌≡◌}
use Rattle.laws.proofs.Common.{ℕ, Bool, true, false, not, Bool·beq}
use Rattle.laws.proofs.Common.{or-false, refl, sym, ap, subst, ◌∙◌, mod-eq_of_lt, zero-div, arith, leb-true, lt-ltb}
use Rattle.laws.proofs.Common.{le-ltb, eq-eqb, ne_eqb, not-true, not-false, ltb, length, when◌then◌else◌, if_keeps, if_true}
use Rattle.laws.proofs.Common.{if_false, clash, and_left, and_both, and_rest, or_left, or_right, by_test}
use Rattle.ring.proofs.Positions.{write_within}
use Rattle.word_order.specs.Bits.{bit_of}
use Rattle.module_rules.proofs.Types.{Settings, Engine, Transmit, Receive, Module, Outcome, Progress, Shift, Free, Loaded}
use Rattle.module_rules.proofs.Types.{Begun, Value, NoEdge, Read, Tick, Pin, Low, High}
use Rattle.module_rules.specs.Buffers.{capacity, empty_transmit, empty_receive, first_waiting, first_unread}
use Rattle.module_rules.specs.Settings.{width_of, depth_of, framed, cke_of, clock_stops, silent, ssen_client, own_clock, unframed_host}
use Rattle.module_rules.specs.Refusals.{undivided, late_sampling, unselected_cke}
use Rattle.module_rules.specs.Registers.{is_free, spitbf, spirbf, low_bits}
use Rattle.module_rules.specs.Loading.{is_begun, next_top, rested, sdo_at}
use Rattle.module_rules.specs.Bits.{received_after, shown_bit, progressed}
use Rattle.module_rules.specs.Finish.{finished}
use Rattle.module_rules.specs.Select.{deselected, select_remembered, aborted, select_seen}
use Rattle.module_rules.specs.Edge.{word_edges, fresh, begun, shifted, advanced, advanced_if_begun, awaits_pulse, under_way, pulsed, clocked, edged, levels, stepped}
use Rattle.module_rules.specs.Calls.{answering, perform_of, undriven, sdo_of}
use Rattle.module_rules.specs.Invariant.{ProgressHolds, ShiftHolds, ModuleHolds}
use Rattle.module_rules.proofs.Sizes.{width_least, depth_most, low_bits_of_fit}
use Rattle.module_invariant.proofs.BuffersKept.{first_waiting_fits, first_unread_fits}
use Rattle.module_invariant.proofs.Sampling.{sampled_all, received_fits, beq_high, beq_low}
use Rattle.module_invariant.proofs.CallsWhen.{own_not_client, not_unlike, buf_read_when, buf_read_is, no_edge_when, tick_is, pin_is, told_elsewhere, unframed_told, host_unframed, unframed_begins, own_edge_lem}
use Rattle.module_invariant.proofs.Engine.{engine_of}

-- A conjunction is false if its first part makes its second false.
and_none : (a b : Bool) → (a ≡ true → b ≡ false) → (a && b) ≡ false
and_none true b f = f refl
and_none false b f = refl

-- Of the three causes of an undriven SDO the second is left if the others are out.
shown_by : (on dissdo away : Bool) → on ≡ true → away ≡ false → (not on || (dissdo || away)) ≡ dissdo
shown_by on dissdo away e f = rw (e, f) (or-false dissdo)

-- An SSEN client is clocked from its pin.
client_pin_clocked : (s : Settings) → ssen_client s ≡ true → own_clock s ≡ false
client_pin_clocked s c = rw (not-true s.con1.msten (and_left (not s.con1.msten) _ c))

-- Select high frees the shift register of an SSEN client with a word begun, and leaves its transmit buffer.
deselect_aborts : (s : Settings) (n : Engine) (sck sdi : Bool) → ssen_client s ≡ true → is_begun n.shift ≡ true →
    ((stepped s (levels sck sdi true) n).shift ≡ Free) × ((stepped s (levels sck sdi true) n).transmit ≡ n.transmit)
unfolding stepped select_seen aborted select_remembered rested sdo_at edged clocked
deselect_aborts s n sck sdi c b =
    let high : deselected s true ≡ true = and_both (ssen_client s) true c refl in
    let seen : select_seen s true n ≡ aborted s (select_remembered true n) =
    if_true (deselected s true && is_begun n.shift) _ _ (and_both (deselected s true) _ high b) in
    let gone : edged s sck sdi (aborted s (select_remembered true n)) ≡ clocked sck (aborted s (select_remembered true n)) =
    if_true (deselected s true) _ _ high in
    if_keeps (λ (x : Engine). (x.shift ≡ Free) × (x.transmit ≡ n.transmit)) (Bool·beq sck n.pins.sck) _ _
    (λ e. (ap (λ (x : Engine). x.shift) seen, ap (λ (x : Engine). x.transmit) seen))
    (λ e.
    let all = ap (edged s sck sdi) seen ∙ gone in
    (ap (λ (x : Engine). x.shift) all, ap (λ (x : Engine). x.transmit) all))

module _ (m : Module) (h : ModuleHolds m) where
  -- STAT shows SISEL whole.
  pub sisel_shown_whole : m.settings.sisel % 8 ≡ m.settings.sisel
  sisel_shown_whole = mod-eq_of_lt h.settings.sisel

  -- CON1 shows SPRE whole.
  pub spre_shown_whole : m.settings.con1.spre % 8 ≡ m.settings.con1.spre
  spre_shown_whole = mod-eq_of_lt h.settings.spre

  -- CON1 shows PPRE whole.
  pub ppre_shown_whole : m.settings.con1.ppre % 4 ≡ m.settings.con1.ppre
  ppre_shown_whole = mod-eq_of_lt h.settings.ppre

  module _ (on : m.settings.spien ≡ true) where
    -- The causes of a refused enabling after the first are out.
    later-causes : (late_sampling m.settings || unselected_cke m.settings) ≡ false
    later-causes = or_right (undivided m.settings) _ (h.settings.allowed on)

    -- An enabled host with its own clock divides it: not both prescalers are 1:1.
    pub enabled_divided : own_clock m.settings ≡ true → m.settings.con1.ppre ≡ 3 → m.settings.con1.spre ≡ 7 → ⊥
    enabled_divided own p q =
        clash _ (and_both _ _ (eq-eqb m.settings.con1.ppre 3 p) (eq-eqb m.settings.con1.spre 7 q))
        (and_rest (own_clock m.settings) _ (or_left (undivided m.settings) _ (h.settings.allowed on)) own)

    -- An enabled module samples in the middle of a bit.
    pub enabled_samples_in_time : m.settings.con1.smp ≡ false
    enabled_samples_in_time = or_left (late_sampling m.settings) _ later-causes

    -- An enabled unframed client with CKE watches its select pin.
    pub enabled_client_selects : framed m.settings ≡ false → m.settings.con1.msten ≡ false → m.settings.con1.cke ≡ true →
        m.settings.con1.ssen ≡ true
    enabled_client_selects plain client cke =
        let asked : (m.settings.con1.cke && not m.settings.con1.ssen) ≡ false =
        and_rest (not m.settings.con1.msten) _
        (and_rest (not (framed m.settings)) _ (or_right (late_sampling m.settings) _ later-causes) (ap not plain))
        (ap not client) in
        not-false m.settings.con1.ssen (and_rest m.settings.con1.cke _ asked cke)

  -- Both positions of the transmit buffer name one of its cells.
  pub transmit_positions_name_cells : (m.engine.transmit.read.0 < length m.engine.transmit.words) ×
      (m.engine.transmit.write.0 < length m.engine.transmit.words)
  transmit_positions_name_cells =
      let all : depth_of m.settings ≤ capacity = depth_most m.settings in
      let inside : m.engine.transmit.write.0 < depth_of m.settings = write_within _ _ _ _ h.transmit in
      (omega (arith, h.transmit.within, h.transmit_cells), omega (arith, inside, h.transmit_cells))

  -- Both positions of the receive buffer name one of its cells.
  pub receive_positions_name_cells : (m.engine.receive.read.0 < length m.engine.receive.words) ×
      (m.engine.receive.write.0 < length m.engine.receive.words)
  receive_positions_name_cells =
      let all : depth_of m.settings ≤ capacity = depth_most m.settings in
      let inside : m.engine.receive.write.0 < depth_of m.settings = write_within _ _ _ _ h.receive in
      (omega (arith, h.receive.within, h.receive_cells), omega (arith, inside, h.receive_cells))

  -- SPITBF says that exactly the depth waits.
  pub transmit_full_at_depth : spitbf m ≡ true → m.engine.transmit.count ≡ depth_of m.settings
  unfolding spitbf
  transmit_full_at_depth e =
      omega (arith, h.transmit.fits, leb-true (depth_of m.settings) m.engine.transmit.count e)

  -- SPIRBF says that exactly the depth is unread.
  pub receive_full_at_depth : spirbf m ≡ true → m.engine.receive.count ≡ depth_of m.settings
  unfolding spirbf
  receive_full_at_depth e =
      omega (arith, h.receive.fits, leb-true (depth_of m.settings) m.engine.receive.count e)

  -- The word that loads next fits the width.
  pub next_word_fits : first_waiting m.engine.transmit < 2 ^ width_of m.settings
  next_word_fits = first_waiting_fits m.settings m.engine.transmit (engine_of m h).buffers.transmit

  -- The first unread word is shown whole.
  pub first_unread_whole : low_bits m.settings (first_unread m.engine.receive) ≡ first_unread m.engine.receive
  first_unread_whole =
      low_bits_of_fit m.settings (first_unread m.engine.receive)
      (first_unread_fits m.settings m.engine.receive (engine_of m h).buffers.receive)

  -- A BUF read that is not refused answers the first unread word whole.
  pub buf_read_whole : (v : ℕ) → (perform_of m (Read 3)).answer ≡ Value v → v ≡ first_unread m.engine.receive
  unfolding answering
  buf_read_whole v e =
      let w = buf_read_when m v e in
      let said = ap (λ (o : Outcome). o.answer) (buf_read_is m w.0 w.1 w.2) in
      cc first_unread_whole

  -- What the invariant says of a shift register that is known.
  shift-known : (sh : Shift) → m.engine.shift ≡ sh → ShiftHolds m.settings m.engine sh
  shift-known sh e = subst (λ (x : Shift). ShiftHolds m.settings m.engine x) e h.shift

  -- A tick that answers "no edge" has nothing waiting.
  pub no_edge_nothing_waits : (sdi ss : Bool) → (perform_of m (Tick sdi ss)).answer ≡ NoEdge → m.engine.transmit.count ≡ 0
  no_edge_nothing_waits sdi ss e =
      let w = no_edge_when m sdi ss e in
      (shift-known Free w.2).0 (own_not_client m.settings (and_left (own_clock m.settings) _ w.1))

  -- A tick that answers "no edge" finds the clock idle.
  pub no_edge_clock_idle : (sdi ss : Bool) → (perform_of m (Tick sdi ss)).answer ≡ NoEdge →
      m.engine.pins.sck ≡ m.settings.con1.ckp
  no_edge_clock_idle sdi ss e =
      let w = no_edge_when m sdi ss e in
      (shift-known Free w.2).1 w.0 w.1

  module _ (word : ℕ) (e : m.engine.shift ≡ Loaded word) where
    -- No word is loaded in an SSEN client: there it stays in the transmit buffer.
    pub loaded_not_ssen_client : ssen_client m.settings ≡ false
    loaded_not_ssen_client = (shift-known (Loaded word) e).0

    -- A loaded word fits the width.
    pub loaded_word_fits : word < 2 ^ width_of m.settings
    loaded_word_fits = (shift-known (Loaded word) e).1

    -- A tick of an unframed host after a word has loaded begins it.
    pub tick_begins_loaded_word : (sdi ss : Bool) → m.settings.spien ≡ true → unframed_host m.settings ≡ true →
        (perform_of m (Tick sdi ss)).after.engine.shift ≡ Begun (progressed m.settings sdi (fresh false word))
    unfolding answering advanced_if_begun under_way begun advanced shifted pulsed
    tick_begins_loaded_word sdi ss on host =
        let s : Settings = m.settings in
        let n : Engine = m.engine in
        let sck : Bool = not n.pins.sck in
        let own : own_clock s ≡ true = and_left (own_clock s) _ host in
        let plain : framed s ≡ false = host_unframed s host in
        let away : Bool·beq sck s.con1.ckp ≡ false =
        ap (Bool·beq sck) (sym ((shift-known (Loaded word) e).2 host)) ∙ not_unlike n.pins.sck in
        let goes_on : ltb (0 + 1) (2 * width_of s) ≡ true = lt-ltb (0 + 1) (2 * width_of s) (omega (arith, width_least s)) in
        ap (λ (o : Outcome). o.after.engine.shift) (tick_is m sdi ss on own (rw (ap is_free e) (and_none (clock_stops s) false (λ _. refl))))
        ∙ ap (λ (x : Bool). (stepped s (levels sck sdi x) n).shift) (told_elsewhere m ss (unframed_told s plain))
        ∙ ap (λ (x : Engine). x.shift) (own_edge_lem s n own sdi)
        ∙ ap (λ (x : Shift). (advanced_if_begun s sdi x (clocked sck n)).shift)
        (if_false (Bool·beq sck s.con1.ckp) _ _ away
        ∙ if_false (awaits_pulse s n) _ _ (unframed_begins s n plain)
        ∙ ap (begun s n) e)
        ∙ ap (λ (x : Engine). x.shift) (if_true (ltb (0 + 1) (2 * width_of s)) _ _ goes_on)

  module _ (p : Progress) (e : m.engine.shift ≡ Begun p) where
    -- What the invariant says of a begun word.
    progress : ProgressHolds m.settings m.engine p
    progress = shift-known (Begun p) e

    -- A begun word has been given an edge: fewer than 2w are left.
    pub begun_edges_left : word_edges m.settings - p.edges < word_edges m.settings
    begun_edges_left = omega (arith, progress.started, progress.short)

    -- The edge that makes 2w finishes a begun word.
    pub finishes_at_last_edge : (sdi : Bool) (n : Engine) → p.edges + 1 ≡ word_edges m.settings →
        advanced m.settings sdi p n
        ≡ finished m.settings p.filler (received_after m.settings (p.edges + 1) sdi p.received) n
    unfolding advanced
    finishes_at_last_edge sdi n last =
        if_false (ltb (p.edges + 1) (word_edges m.settings)) _ _
        (le-ltb (p.edges + 1) (word_edges m.settings) (omega arith))

    -- No other edge does.
    pub goes_on_before_last_edge : (sdi : Bool) (n : Engine) → (p.edges + 1 ≡ word_edges m.settings → ⊥) →
        advanced m.settings sdi p n ≡ shifted m.settings sdi p n
    unfolding advanced
    goes_on_before_last_edge sdi n early =
        if_true (ltb (p.edges + 1) (word_edges m.settings)) _ _
        (lt-ltb (p.edges + 1) (word_edges m.settings) (omega (arith, progress.short)))

    -- A begun word fits the width.
    pub begun_word_fits : p.word < 2 ^ width_of m.settings
    begun_word_fits = progress.word

    -- The word received at the last edge fits the width.
    pub received_word_fits : (sdi : Bool) → p.edges + 1 ≡ word_edges m.settings →
        received_after m.settings (p.edges + 1) sdi p.received < 2 ^ width_of m.settings
    received_word_fits sdi last =
        rw (sampled_all (cke_of m.settings) (p.edges + 1) (width_of m.settings) last)
        at (received_fits m.settings p.edges sdi p.received progress.received)

    -- An odd edge leaves the clock at the active level.
    pub odd_edge_active : p.edges % 2 ≡ 1 → m.engine.pins.sck ≡ not m.settings.con1.ckp
    odd_edge_active odd =
        progress.clock
        ∙ ap (Bool·beq m.settings.con1.ckp) (ne_eqb (p.edges % 2) 0 (omega arith))
        ∙ beq_low m.settings.con1.ckp

    -- An even edge leaves the clock at the idle level.
    pub even_edge_idle : p.edges % 2 ≡ 0 → m.engine.pins.sck ≡ m.settings.con1.ckp
    even_edge_idle even =
        progress.clock
        ∙ ap (Bool·beq m.settings.con1.ckp) (eq-eqb (p.edges % 2) 0 even)
        ∙ beq_high m.settings.con1.ckp

    -- A filler shows zeros.
    pub filler_shows_zeros : (edge : ℕ) → p.filler ≡ true → shown_bit m.settings p.word edge ≡ false
    unfolding shown_bit bit_of
    filler_shows_zeros edge f = rw (progress.zeros f, zero-div (2 ^ (width_of m.settings - 1 - edge / 2)))

    -- A silent module, an unframed host or a frame host, sends no filler.
    pub silent_sends_no_filler : silent m.settings ≡ true → p.filler ≡ false
    silent_sends_no_filler silence = progress.host silence

    -- A module with a begun word is enabled.
    pub begun_enabled : m.settings.spien ≡ true
    begun_enabled =
        by_test m.settings.spien (λ on. on) (λ off. clash false (ap is_begun (sym (h.emptied off).shift ∙ e)) refl)

    -- A begun word is shown on SDO unless DISSDO is set: no begun word is deselected.
    pub begun_is_shown : undriven m ≡ m.settings.con1.dissdo
    unfolding undriven
    begun_is_shown =
        shown_by m.settings.spien m.settings.con1.dissdo (deselected m.settings m.engine.pins.ss)
        begun_enabled
        (and_none (ssen_client m.settings) m.engine.pins.ss progress.selected)

    -- A begun word shows on SDO, unless DISSDO is set, the bit that its edges say: with CKE 1 the top bit until edge 2 and
    -- the next one at each even edge, with CKE 0 the top bit from edge 1 and the next one at each odd edge.
    pub begun_shows_bit : m.settings.con1.dissdo ≡ false →
        sdo_of m
        ≡ (when bit_of p.word
        (width_of m.settings - 1 - (when cke_of m.settings then p.edges else p.edges - 1) / 2)
        then High else Low)
    unfolding sdo_of
    begun_shows_bit driven =
        if_false (undriven m) _ _ (begun_is_shown ∙ driven)
        ∙ ap (λ (b : Bool). when b then High else Low) progress.shows

    -- The begun word of an SSEN client still waits, as the first.
    pub begun_word_waits : ssen_client m.settings ≡ true → p.filler ≡ false →
        (1 ≤ m.engine.transmit.count) × (p.word ≡ first_waiting m.engine.transmit)
    begun_word_waits c f = progress.first c f

    -- A pin call with select high aborts the begun word of an SSEN client: the shift register is free, and the transmit
    -- buffer is as it was.
    pub abort_frees : (sck sdi : Bool) → ssen_client m.settings ≡ true →
        ((perform_of m (Pin sck sdi true)).after.engine.shift ≡ Free)
        × ((perform_of m (Pin sck sdi true)).after.engine.transmit ≡ m.engine.transmit)
    unfolding answering
    abort_frees sck sdi c =
        let done = pin_is m sck sdi true begun_enabled (client_pin_clocked m.settings c) in
        let a = deselect_aborts m.settings m.engine sck sdi c (ap is_begun e) in (
          ap (λ (o : Outcome). o.after.engine.shift) done ∙ a.0,
          ap (λ (o : Outcome). o.after.engine.transmit) done ∙ a.1,
        )

    -- An abort leaves the begun word of an SSEN client first among those waiting.
    pub abort_keeps_word_first : (sck sdi : Bool) → ssen_client m.settings ≡ true → p.filler ≡ false →
        (1 ≤ (perform_of m (Pin sck sdi true)).after.engine.transmit.count)
        × (p.word ≡ first_waiting (perform_of m (Pin sck sdi true)).after.engine.transmit)
    abort_keeps_word_first sck sdi c f =
        subst (λ (t : Transmit). (1 ≤ t.count) × (p.word ≡ first_waiting t)) (sym (abort_frees sck sdi c).1)
        (begun_word_waits c f)

  module _ (off : m.settings.spien ≡ false) where
    -- A disabled module has nothing waiting.
    pub disabled_nothing_waits : m.engine.transmit.count ≡ 0
    unfolding empty_transmit
    disabled_nothing_waits = ap (λ (t : Transmit). t.count) (h.emptied off).transmit

    -- A disabled module has nothing unread.
    pub disabled_nothing_unread : m.engine.receive.count ≡ 0
    unfolding empty_receive
    disabled_nothing_unread = ap (λ (r : Receive). r.count) (h.emptied off).receive

    -- A disabled module has nothing loaded or begun.
    pub disabled_nothing_loaded : m.engine.shift ≡ Free
    disabled_nothing_loaded = (h.emptied off).shift

  -- With CKE 1 and no word begun a driven SDO shows the top bit of the word to be sent next.
  pub sdo_shows_next_word : cke_of m.settings ≡ true → is_begun m.engine.shift ≡ false → undriven m ≡ false →
      sdo_of m ≡ (when next_top m.settings m.engine.transmit m.engine.shift then High else Low)
  unfolding sdo_of undriven
  sdo_shows_next_word cke between driven =
      let on : m.settings.spien ≡ true = not-false m.settings.spien (or_left (not m.settings.spien) _ driven) in
      if_false (undriven m) _ _ driven ∙ ap (λ (b : Bool). when b then High else Low) (h.rest on cke between)
