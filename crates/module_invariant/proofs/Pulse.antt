-- What a standing pulse says of an enabled module, and what a mark says, after every call.
--     unframed_pulse   no pulse stands in an unframed module
--     call_reaches     every call keeps the whole invariant
-- Assumes nothing.
use Rattle.std.specs.Prelude.{◌+◌, ◌*◌, ◌%◌, ◌≤◌, ◌&&◌, ◌≡◌}
use Rattle.laws.proofs.Common.{ℕ, le_refl, Bool, true, false, not, Bool·beq, Bool·not-not}
use Rattle.laws.proofs.Common.{refl, sym, ap, subst, ◌∙◌, arith, leb-true, lt-ltb, le-ltb, eqb-true, eqb-false, ne_eqb}
use Rattle.laws.proofs.Common.{not-true, eqb, ltb, if_keeps, if_true, if_false, clash, by_test, and_left, and_right, and_both}
use Rattle.laws.proofs.Common.{or_right, or_rest, or_rest_first, like, unlike}
use mathlib.Core.Bool.{and-false}
use Rattle.module_rules.proofs.Types.{Depth, Settings, Engine, Transmit, Receive, Module, Outcome, Progress, Shift, Free}
use Rattle.module_rules.proofs.Types.{Loaded, Begun, Call}
use Rattle.module_rules.specs.Settings.{width_of, depth_of, framed, frame_host, frame_client, ssen_client}
use Rattle.module_rules.specs.Registers.{is_free, stat_settings, stat_engine, enabled_engine, disabled_engine}
use Rattle.module_rules.specs.Buffers.{full, empty, written, appended, overrun, empty_receive}
use Rattle.module_rules.specs.Interrupts.{noted}
use Rattle.module_rules.specs.Loading.{word_leaves, moved, can_load, loaded, is_begun, sdo_at, rested}
use Rattle.module_rules.specs.Bits.{received_after, progressed}
use Rattle.module_rules.specs.Finish.{overflowed, word_appended, is_lost, delivered, sent_dropped, freed, finished}
use Rattle.module_rules.specs.Select.{select_remembered, aborted, deselected, select_seen}
use Rattle.module_rules.specs.Edge.{word_edges, shifted, advanced, advanced_if_begun, under_way, pulse_due, active, pulse_after, pulsed, clocked, edged, levels, stepped}
use Rattle.module_rules.specs.Calls.{answering, powered_at, word_taken, word_written, clear_of, perform_of}
use Rattle.module_rules.specs.Invariant.{ShiftHolds, ModuleHolds, PulseFits, PulseHolds, MarkFits, Reached}
use Rattle.module_rules.proofs.Sizes.{width_eight}
use Rattle.module_invariant.proofs.Parts.{queued, BuffersHold, EngineHolds}
use Rattle.module_invariant.proofs.Engine.{engine_of}
use Rattle.module_invariant.proofs.Edge.{clocked_buffers, selected_sck, selected_holds}
use Rattle.module_invariant.proofs.Holds.{powered_up_holds, call_keeps}
use Rattle.module_invariant.proofs.FinishWords.{delivered_elsewhere, loaded_spares, finished_spares, finished_unbegun}
use Rattle.module_invariant.proofs.CallsWhen.{is_free_lem}
use Rattle.module_invariant.proofs.Buf.{taken_marked}
use Rattle.module_invariant.proofs.Select.{advanced_levels}
use Rattle.module_invariant.proofs.CallCases.{call_cases}

-- A standing pulse is one of a framed module.
fits_framed : (s : Settings) (n : Engine) (sh : Shift) → PulseFits s n sh → framed s ≡ true
fits_framed s n Free h = and_left (framed s) _ h
fits_framed s n (Loaded word) h = h.0
fits_framed s n (Begun p) h = and_left (framed s) _ h.0

-- No pulse stands in an unframed module that is enabled.
pub unframed_pulse : (m : Module) → Reached m → m.settings.spien ≡ true → framed m.settings ≡ false →
    m.engine.pins.pulse ≡ false
unframed_pulse m h on plain =
    by_test m.engine.pins.pulse
    (λ e. clash (framed m.settings) (fits_framed m.settings m.engine m.engine.shift (h.pulse on e)) plain)
    (λ e. e)

-- What the pulse of an engine says.
abbrev Fits : Settings → Engine → Type 0
Fits s n = n.pins.pulse ≡ true → PulseFits s n n.shift

-- A shift register that is known.
fits_known : (s : Settings) (n : Engine) (sh : Shift) → n.shift ≡ sh → PulseFits s n sh → PulseFits s n n.shift
fits_known s n sh e h = subst (λ (x : Shift). PulseFits s n x) (sym e) h

-- The transmit buffer counts by its words that wait alone.
fits_count : (s : Settings) (n x : Engine) (sh : Shift) → n.transmit.count ≤ x.transmit.count → PulseFits s n sh →
    PulseFits s x sh
fits_count s n x Free more h = h
fits_count s n x (Loaded word) more h = h
fits_count s n x (Begun p) more h =
    (h.0, h.1, λ early. ((h.2 early).0, omega (arith, (h.2 early).1, more)))

-- A word that is written may load into a free shift register.
loaded_fits : (s : Settings) (n q : Engine) → q.shift ≡ n.shift → n.transmit.count ≤ q.transmit.count →
    q.pins.pulse ≡ n.pins.pulse → Fits s n → Fits s (loaded s q)
unfolding loaded moved word_leaves noted can_load
loaded_fits s n q same more pulse h =
    if_keeps (Fits s) (can_load s q) _ _
    (λ loads stands.
    let free : n.shift ≡ Free = sym same ∙ is_free_lem q.shift (and_left (is_free q.shift) _ loads) in
    let client : frame_client s ≡ true = subst (λ (x : Shift). PulseFits s n x) free (h (sym pulse ∙ stands)) in
    (and_left (framed s) _ client, λ dly. and_right (framed s) _ client))
    (λ stays stands. fits_known s q n.shift same (fits_count s n q n.shift more (h (sym pulse ∙ stands))))

written_fits : (s : Settings) (word : ℕ) (n : Engine) → Fits s n → Fits s (word_written s word n)
unfolding word_written rested sdo_at noted written
written_fits s word n h pulse =
    let q : Engine = queued s word n in
    let more : n.transmit.count ≤ q.transmit.count =
    if_keeps (λ (t : Transmit). n.transmit.count ≤ t.count) (full (depth_of s) n.transmit.count) _ _ (λ e. le_refl _)
    (λ e. omega arith) in
    fits_count s (loaded s q) (word_written s word n) (loaded s q).shift (le_refl _) (loaded_fits s n q refl more refl h pulse)

-- Select leaves the pulse, and the shift register of a framed module, which is no SSEN client.
pub framed_no_client : (s : Settings) → framed s ≡ true → ssen_client s ≡ false
framed_no_client s f = cc (and-false (not s.con1.msten))

selected_fits : (s : Settings) (ss : Bool) (n : Engine) → Fits s n → Fits s (select_seen s ss n)
unfolding select_seen aborted rested sdo_at select_remembered
selected_fits s ss n h =
    if_keeps (Fits s) (deselected s ss && is_begun n.shift) _ _
    (λ e stands.
    clash (ssen_client s) (and_left (ssen_client s) ss (and_left (deselected s ss) _ e))
    (framed_no_client s (fits_framed s n n.shift (h stands))))
    (λ e stands. fits_count s n (select_remembered ss n) n.shift (omega arith) (h stands))

-- The pulse that a frame host gives from a transmit edge on.
due_fits : (s : Settings) (n : Engine) (sh : Shift) → frame_host s ≡ true → pulse_due s n.transmit.count sh ≡ true →
    PulseFits s n sh
unfolding pulse_due
due_fits s n Free host due = clash false due refl
due_fits s n (Loaded word) host due =
    (and_left (framed s) _ host, λ dly. clash s.con2.frmdly dly (not-true s.con2.frmdly due))
due_fits s n (Begun p) host due = (
  host,
  (λ dly.
      let first : p.edges ≡ 1 = eqb-true p.edges 1 (sym (if_true s.con2.frmdly _ _ dly) ∙ due) in
      omega arith),
  (λ early.
      let both = sym (if_false s.con2.frmdly _ _ early) ∙ due in
      let some : n.transmit.count ≡ 0 → ⊥ =
      eqb-false n.transmit.count 0
      (not-true (empty n.transmit.count) (and_right (eqb (p.edges + 1) (word_edges s)) _ both)) in
      (eqb-true (p.edges + 1) (word_edges s) (and_left (eqb (p.edges + 1) (word_edges s)) _ both), omega arith)),
)

-- A finish with a word waiting loads it.
finish_loads : (s : Settings) (filler : Bool) (word : ℕ) (n : Engine) → ssen_client s ≡ false → 1 ≤ n.transmit.count →
    is_free (finished s filler word n).shift ≡ false
unfolding finished rested sdo_at loaded moved freed sent_dropped word_leaves noted can_load
finish_loads s filler word n out some =
    let ended : Engine = sent_dropped s filler (delivered s word n) in
    let kept : ended ≡ delivered s word n = if_false (ssen_client s && not filler) _ _ (ap (λ (b : Bool). b && not filler) out) in
    let waits : empty ended.transmit.count ≡ false =
    ap (λ (x : Engine). empty x.transmit.count) kept
    ∙ ap (λ (t : Transmit). empty t.count) (delivered_elsewhere s n word).0
    ∙ ne_eqb n.transmit.count 0 (omega arith) in
    ap (λ (x : Engine). is_free x.shift) (if_true (can_load s (freed s ended)) _ _ (rw (waits, out)))

-- What the clock says of the edges given.
odd_edge : (a b : Bool) → Bool·beq a b ≡ not a → b ≡ false
odd_edge true true e = e
odd_edge true false e = refl
odd_edge false true e = sym e
odd_edge false false e = refl

-- A frame client has sampled its pulse with no word under way.
client_fits : (s : Settings) (n : Engine) (sh : Shift) → frame_client s ≡ true → is_begun sh ≡ false → PulseFits s n sh
client_fits s n Free client unbegun = client
client_fits s n (Loaded word) client unbegun = (and_left (framed s) _ client, λ dly. and_right (framed s) _ client)
client_fits s n (Begun p) client unbegun = clash true refl unbegun

-- A frame host with FRMDLY 0 gives its pulse for a loaded word.
host_fits : (s : Settings) (n : Engine) (sh : Shift) → frame_host s ≡ true → s.con2.frmdly ≡ false → is_free sh ≡ false →
    is_begun sh ≡ false → PulseFits s n sh
host_fits s n Free host early free unbegun = clash true refl free
host_fits s n (Loaded word) host early free unbegun = (and_left (framed s) _ host, λ dly. clash s.con2.frmdly dly early)
host_fits s n (Begun p) host early free unbegun = clash true refl unbegun

module _ (s : Settings) (sck sdi : Bool) (n : Engine) (edge : sck ≡ not n.pins.sck) where
  -- With FRMDLY 1 it goes on from edge 1 to edge 2.
  with_fits : (p : Progress) → ShiftHolds s n (Begun p) → PulseFits s n (Begun p) → Bool·beq sck s.con1.ckp ≡ true →
      s.con2.frmdly ≡ true →
      PulseFits s (advanced s sdi p (clocked sck n)) (advanced s sdi p (clocked sck n)).shift
  unfolding advanced shifted progressed
  with_fits p k h idle dly =
      let low : n.pins.sck ≡ not s.con1.ckp =
      sym (Bool·not-not n.pins.sck) ∙ ap not (sym edge ∙ like sck s.con1.ckp idle) in
      let odd : eqb (p.edges % 2) 0 ≡ false = odd_edge s.con1.ckp (eqb (p.edges % 2) 0) (sym k.clock ∙ low) in
      let odd' : p.edges % 2 ≡ 0 → ⊥ = eqb-false (p.edges % 2) 0 odd in
      let more : ltb (p.edges + 1) (2 * width_of s) ≡ true =
      lt-ltb (p.edges + 1) (2 * width_of s) (omega (arith, h.1 dly, width_eight s)) in
      subst (λ (y : Engine). PulseFits s y y.shift) (sym (if_true (ltb (p.edges + 1) (2 * width_of s)) _ _ more))
      (h.0, (λ d. omega (arith, h.1 dly, k.started, odd')), (λ early. clash s.con2.frmdly dly early))

  -- With FRMDLY 0 the word that waits loads at edge 2w.
  before-fits : (p : Progress) → PulseFits s n (Begun p) → s.con2.frmdly ≡ false →
      PulseFits s (advanced s sdi p (clocked sck n)) (advanced s sdi p (clocked sck n)).shift
  unfolding advanced clocked
  before-fits p h early =
      let last : ltb (p.edges + 1) (word_edges s) ≡ false =
      le-ltb (p.edges + 1) (word_edges s) (omega (arith, (h.2 early).0)) in
      subst (λ (y : Engine). PulseFits s y y.shift) (sym (if_false (ltb (p.edges + 1) (word_edges s)) _ _ last))
      (let word : ℕ = received_after s (p.edges + 1) sdi p.received in
      let y : Engine = finished s p.filler word (clocked sck n) in
      host_fits s y y.shift h.0 early
      (finish_loads s p.filler word (clocked sck n) (framed_no_client s (and_left (framed s) _ h.0)) (h.2 early).1)
      (finished_unbegun s p.filler word (clocked sck n)))

  -- A frame host's pulse goes on over a sample edge.
  sample-fits : frame_host s ≡ true → Bool·beq sck s.con1.ckp ≡ true → (sh : Shift) → n.shift ≡ sh → ShiftHolds s n sh →
      PulseFits s n sh →
      PulseFits s (advanced_if_begun s sdi sh (clocked sck n)) (advanced_if_begun s sdi sh (clocked sck n)).shift
  unfolding advanced_if_begun clocked
  sample-fits host idle Free e k h =
      clash s.con2.spifsd (and_right (framed s) _ h) (not-true s.con2.spifsd (and_right (framed s) _ host))
  sample-fits host idle (Loaded word) e k h = fits_known s (clocked sck n) (Loaded word) e h
  sample-fits host idle (Begun p) e k h = by_test s.con2.frmdly (with_fits p k h idle) (before-fits p h)

  -- An edge that is only remembered.
  clocked-fits : Fits s n → deselected s n.pins.ss ≡ true → Fits s (clocked sck n)
  unfolding clocked
  clocked-fits h d stands = fits_count s n (clocked sck n) n.shift (le_refl _) (h stands)

  -- The end of an edge.
  pulsed-fits : EngineHolds s n → Fits s n →
      Fits s (pulsed s sck (advanced_if_begun s sdi (under_way s sck n) (clocked sck n)))
  unfolding pulsed pulse_after under_way clocked
  pulsed-fits k h stands =
      let x : Engine = advanced_if_begun s sdi (under_way s sck n) (clocked sck n) in
      let same : x.pins.pulse ≡ n.pins.pulse = (advanced_levels s sdi (under_way s sck n) (clocked sck n)).pulse in
      let Q : Bool → Type 0 = λ b. b ≡ true → PulseFits s x x.shift in
      fits_count s x (pulsed s sck x) x.shift (le_refl _)
      (if_keeps Q (framed s) _ _
      (λ f.
      if_keeps Q (Bool·beq sck s.con1.ckp) _ _
      (λ to-idle.
      if_keeps Q s.con2.spifsd _ _
      (λ fsd sampled.
      client_fits s x x.shift (and_both (framed s) _ f fsd) (not-true _ (and_right (active s x.pins.ss) _ sampled)))
      (λ fsd stood.
      subst (λ (sh : Shift). PulseFits s (advanced_if_begun s sdi sh (clocked sck n)) (advanced_if_begun s sdi sh (clocked sck n)).shift)
      (sym (if_true (Bool·beq sck s.con1.ckp) _ _ to-idle))
      (sample-fits (and_both (framed s) _ f (ap not fsd)) to-idle n.shift refl k.shift (h (sym same ∙ stood)))))
      (λ away given.
      due_fits s x x.shift (and_both (framed s) _ f (and_left (not s.con2.spifsd) _ given))
      (and_right (not s.con2.spifsd) _ given)))
      (λ plain stood. clash (framed s) (fits_framed s n n.shift (h (sym same ∙ stood))) plain)
      stands)

  -- An edge to a level.
  edged-fits : EngineHolds s n → Fits s n → Fits s (edged s sck sdi n)
  unfolding edged
  edged-fits k h =
      if_keeps (Fits s) (deselected s n.pins.ss) _ _ (clocked-fits h) (λ d. pulsed-fits k h)

-- The levels are seen.
stepped_fits : (s : Settings) (sck sdi ss : Bool) (n : Engine) → EngineHolds s n → Fits s n →
    Fits s (stepped s (levels sck sdi ss) n)
unfolding stepped
stepped_fits s sck sdi ss n k h =
    if_keeps (Fits s) (Bool·beq sck n.pins.sck) _ _
    (λ e. selected_fits s ss n h)
    (λ e.
    edged-fits s sck sdi (select_seen s ss n)
    (unlike sck n.pins.sck e ∙ ap not (sym (selected_sck s ss n)))
    (selected_holds s ss n k) (selected_fits s ss n h))

-- The mark, step by step: only a loss sets it, and then the buffer is full.
mark_same : (s : Settings) (n x : Engine) → x.receive ≡ n.receive → MarkFits s n → MarkFits s x
mark_same s n x e h = subst (λ (r : Receive). r.marked ≡ true → (s.con2.spiben ≡ true) × (r.count ≡ depth_of s)) (sym e) h

delivered_mark : (s : Settings) (word : ℕ) (n : Engine) → BuffersHold s n → MarkFits s n → MarkFits s (delivered s word n)
unfolding delivered overflowed overrun word_appended noted appended is_lost
delivered_mark s word n b h =
    if_keeps (MarkFits s) (is_lost s n) _ _
    (λ lost stands.
    by_test n.receive.marked
    h
    (λ fresh.
    let full-up : full (depth_of s) n.receive.count ≡ true = or_rest_first (full (depth_of s) n.receive.count) _ lost fresh in (
      or_rest n.receive.marked _ stands fresh,
      omega (arith, leb-true (depth_of s) n.receive.count full-up, b.receive.ring.fits),
    )))
    (λ kept.
    if_keeps (λ (q : Receive). q.marked ≡ true → (s.con2.spiben ≡ true) × (q.count ≡ depth_of s)) (full (depth_of s) n.receive.count) _ _
    (λ e. h)
    (λ e stands. clash n.receive.marked stands (or_right (full (depth_of s) n.receive.count) _ kept)))

advanced_mark : (s : Settings) (sdi : Bool) (sh : Shift) (n : Engine) → BuffersHold s n → MarkFits s n →
    MarkFits s (advanced_if_begun s sdi sh n)
unfolding advanced_if_begun advanced shifted
advanced_mark s sdi Free n b h = h
advanced_mark s sdi (Loaded word) n b h = h
advanced_mark s sdi (Begun p) n b h =
    if_keeps (MarkFits s) (ltb (p.edges + 1) (word_edges s)) _ _ (λ e. h)
    (λ e.
    let word : ℕ = received_after s (p.edges + 1) sdi p.received in
    mark_same s (delivered s word n) (finished s p.filler word n) (finished_spares s p.filler word n).receive (delivered_mark s word n b h))

edged_mark : (s : Settings) (sck sdi : Bool) (n : Engine) → BuffersHold s n → MarkFits s n → MarkFits s (edged s sck sdi n)
unfolding edged pulsed clocked
edged_mark s sck sdi n b h =
    if_keeps (MarkFits s) (deselected s n.pins.ss) _ _ (λ d. h)
    (λ d. advanced_mark s sdi (under_way s sck n) (clocked sck n) (clocked_buffers s sck n b) h)

selected_mark : (s : Settings) (ss : Bool) (n : Engine) → MarkFits s n → MarkFits s (select_seen s ss n)
unfolding select_seen aborted rested sdo_at select_remembered
selected_mark s ss n h = if_keeps (MarkFits s) (deselected s ss && is_begun n.shift) _ _ (λ e. h) (λ e. h)

stepped_mark : (s : Settings) (sck sdi ss : Bool) (n : Engine) → EngineHolds s n → MarkFits s n →
    MarkFits s (stepped s (levels sck sdi ss) n)
unfolding stepped
stepped_mark s sck sdi ss n k h =
    if_keeps (MarkFits s) (Bool·beq sck n.pins.sck) _ _
    (λ e. selected_mark s ss n h)
    (λ e. edged_mark s sck sdi (select_seen s ss n) (selected_holds s ss n k).buffers (selected_mark s ss n h))

written_mark : (s : Settings) (word : ℕ) (n : Engine) → MarkFits s n → MarkFits s (word_written s word n)
unfolding word_written rested sdo_at noted
written_mark s word n h = mark_same s n (loaded s (queued s word n)) (loaded_spares s (queued s word n)).receive h

-- A disabled module has no mark.
unmarked_off : (m : Module) → ModuleHolds m → m.settings.spien ≡ false → m.engine.receive.marked ≡ false
unfolding empty_receive
unmarked_off m k off = ap (λ (r : Receive). r.marked) (k.emptied off).receive

-- What a call leaves: an outcome whose module, if enabled, has its pulse fit, and its mark.
record FitsAfter (o : Outcome) : Type 0 where
  fits : PulseHolds o.after
  mark : MarkFits o.after.settings o.after.engine

-- A call that leaves the module disabled, and one that moves the engine of an enabled module.
off_fits : (o : Outcome) → o.after.settings.spien ≡ false → o.after.engine.receive.marked ≡ false → FitsAfter o
off_fits o off unmarked =
    record {
      fits = λ on. clash o.after.settings.spien on off;
      mark = λ stands. clash o.after.engine.receive.marked stands unmarked;
    }

-- STAT's bits do not count for the pulse.
stat_same : (s : Settings) (v : ℕ) (n x : Engine) (sh : Shift) → PulseFits s n sh → n.transmit.count ≡ x.transmit.count →
    PulseFits (stat_settings v s) x sh
unfolding stat_settings
stat_same s v n x Free h same = h
stat_same s v n x (Loaded word) h same = h
stat_same s v n x (Begun p) h same = (h.0, h.1, λ early. ((h.2 early).0, omega (arith, (h.2 early).1, same)))

module _ (m : Module) (k : ModuleHolds m) (h : PulseHolds m) (g : MarkFits m.settings m.engine) where
  call_fits : (c : Call) → FitsAfter (perform_of m c)
  unfolding answering word_taken noted stat_settings enabled_engine disabled_engine stat_engine empty_receive clear_of
  call_fits =
      let s : Settings = m.settings in
      let n : Engine = m.engine in
      call_cases m FitsAfter
      (record {
        same = λ a. record { fits = h; mark = g };
        taken = λ on plain v.
            record {
              fits = λ on stands. fits_count s n (word_taken s n) n.shift (le_refl _) (h on stands);
              mark = λ stands. clash n.receive.marked (sym (taken_marked (depth_of s) n.receive) ∙ stands) plain;
            };
        enables = λ off v up good. record { fits = λ on stands. clash false stands refl; mark = g };
        disables = λ on v down. off_fits _ down refl;
        rewrites = λ v same.
            record { fits = λ on stands. stat_same s v n (stat_engine v n) n.shift (h (sym same ∙ on) stands) refl; mark = g };
        configures = λ off c d spre ppre. off_fits _ off (unmarked_off m k off);
        written = λ on v. record { fits = λ on. written_fits s _ n (h on); mark = written_mark s _ n g };
        seen = λ on a ok x busy.
            record {
              fits = λ on. stepped_fits s x.sck x.sdi x.ss n (engine_of m k) (h on);
              mark = stepped_mark s x.sck x.sdi x.ss n (engine_of m k) g;
            };
        cleared = record { fits = λ on stands. fits_count s n (clear_of m).after.engine n.shift (le_refl _) (h on stands); mark = g };
      })

-- Power-up, and every call.
pub powered_up_reached : (depth : Depth) → Reached (powered_at depth)
unfolding powered_at empty_receive
powered_up_reached depth =
    record { holds = powered_up_holds depth; pulse = λ on. clash false on refl; mark = λ stands. clash false stands refl }

pub call_reaches : (m : Module) (c : Call) → Reached m → Reached (perform_of m c).after
call_reaches m c h =
    let after : FitsAfter (perform_of m c) = call_fits m h.holds h.pulse h.mark c in
    record { holds = call_keeps m c h.holds; pulse = after.fits; mark = after.mark }
