-- The frame pulse.
--     shows_pulse_lem, shows_none   an enabled frame host shows on SS the pulse that it gives, and no other module shows one
--     loaded_shown   a pulse with the first bit
--     starts_as      where a word may begin, the watcher says so too
-- Assumes nothing.
use Rattle.std.specs.Prelude.{◌+◌, ◌*◌, ◌&&◌, ◌||◌, ◌≡◌}
use Rattle.laws.proofs.Common.{ℕ, Bool, true, false, not, Bool·beq, refl, ap, ◌∙◌, arith, lt-ltb}
use Rattle.laws.proofs.Common.{not-true, eqb, ltb, when◌then◌else◌, if_true, if_false, and_left, and_right, clash}
use Rattle.module_rules.proofs.Types.{Settings, Engine, Module, Shift, Free, Loaded, Begun, Low, High}
use Rattle.module_rules.specs.Pulses.{started_by}
use Rattle.module_rules.specs.Settings.{width_of, framed, frame_host, silent}
use Rattle.module_rules.specs.Registers.{is_free}
use Rattle.module_rules.specs.Buffers.{empty}
use Rattle.module_rules.specs.Loading.{is_begun}
use Rattle.module_rules.specs.Bits.{progressed}
use Rattle.module_rules.specs.Edge.{fresh, begun, shifted, advanced, advanced_if_begun, awaits_pulse, under_way, pulse_due, active, pulse_after, pulsed, clocked}
use Rattle.module_rules.specs.Calls.{ss_of}
use Rattle.module_rules.specs.Watch.{is_level, shows_pulse}
use Rattle.module_rules.proofs.Sizes.{width_least}

-- A pin that is driven at one of the levels.
driven_at : (pulse polarity : Bool) → is_level polarity (when Bool·beq pulse polarity then High else Low) ≡ pulse
unfolding when◌then◌else◌
driven_at true true = refl
driven_at true false = refl
driven_at false true = refl
driven_at false false = refl

module _ (m : Module) where
  -- An enabled frame host shows the pulse that it gives.
  pub shows_pulse_lem : m.settings.spien ≡ true → frame_host m.settings ≡ true → shows_pulse m ≡ m.engine.pins.pulse
  unfolding ss_of
  shows_pulse_lem on host =
      ap (is_level m.settings.con2.frmpol)
      (if_false (not (m.settings.spien && frame_host m.settings)) _ _
      (ap (λ (b : Bool). not (b && frame_host m.settings)) on ∙ ap not host))
      ∙ driven_at m.engine.pins.pulse m.settings.con2.frmpol

  -- Any other module shows none.
  pub shows_none : (m.settings.spien && frame_host m.settings) ≡ false → shows_pulse m ≡ false
  unfolding ss_of
  shows_none off =
      ap (is_level m.settings.con2.frmpol)
      (if_true (not (m.settings.spien && frame_host m.settings)) _ _ (ap not off))

-- Where a word may begin: by the pulse that stood before the edge, or by the one shown after it.
starts_law : (f fsd dly pulse shown : Bool) → ((f && not fsd) ≡ true → dly ≡ true → shown ≡ true) →
    (not f || (when (f && not fsd) && dly then shown else pulse)) ≡ not ((f && (fsd || not dly)) && not pulse)
unfolding when◌then◌else◌
starts_law false fsd dly pulse shown h = refl
starts_law true true dly true shown h = refl
starts_law true true dly false shown h = refl
starts_law true false true pulse shown h = h refl refl
starts_law true false false true shown h = refl
starts_law true false false false shown h = refl

-- A pulse that is given with FRMDLY 1.
given_law : (f idle fsd dly seen pulse early : Bool) → f ≡ true → idle ≡ false → fsd ≡ false → dly ≡ true →
    (when f then (when idle then (when fsd then seen else pulse) else not fsd && (when dly then true else early)) else pulse) ≡ true
unfolding when◌then◌else◌
given_law f idle fsd dly seen pulse early a b c d = rw (a, b, c, d)

module _ (s : Settings) (sck sdi : Bool) (n : Engine) where
  -- A frame host with FRMDLY 1 gives a pulse from the edge at which a loaded word begins.
  pub loaded_shown : frame_host s ≡ true → s.con2.frmdly ≡ true → (word : ℕ) → n.shift ≡ Loaded word →
      Bool·beq sck s.con1.ckp ≡ false →
      (pulsed s sck (advanced_if_begun s sdi (under_way s sck n) (clocked sck n))).pins.pulse ≡ true
  unfolding pulsed pulse_after under_way awaits_pulse begun advanced_if_begun advanced shifted clocked progressed pulse_due
  loaded_shown host dly word e away =
      let f : framed s ≡ true = and_left (framed s) _ host in
      let fsd : s.con2.spifsd ≡ false = not-true s.con2.spifsd (and_right (framed s) _ host) in
      let way : Shift = under_way s sck n in
      let begins : way ≡ Begun (fresh false word) =
      if_false (Bool·beq sck s.con1.ckp) _ _ away
      ∙ if_false (awaits_pulse s n) _ _
      (ap (λ (b : Bool). (framed s && (b || not s.con2.frmdly)) && not n.pins.pulse) fsd
      ∙ ap (λ (b : Bool). (framed s && not b) && not n.pins.pulse) dly
      ∙ ap (λ (b : Bool). (b && false) && not n.pins.pulse) f)
      ∙ ap (begun s n) e in
      let more : ltb (0 + 1) (2 * width_of s) ≡ true = lt-ltb (0 + 1) (2 * width_of s) (omega (arith, width_least s)) in
      ap (λ (x : Shift). (pulsed s sck (advanced_if_begun s sdi x (clocked sck n))).pins.pulse) begins
      ∙ ap (λ (x : Engine). (pulsed s sck x).pins.pulse) (if_true (ltb (0 + 1) (2 * width_of s)) _ _ more)
      ∙ given_law (framed s) (Bool·beq sck s.con1.ckp) s.con2.spifsd s.con2.frmdly
      (active s n.pins.ss && false) n.pins.pulse (eqb 2 (2 * width_of s) && not (empty n.transmit.count))
      f away fsd dly

  -- Where a word may begin, the watcher says so too.
  pub starts_as : (stood shown : Bool) → stood ≡ n.pins.pulse →
      (frame_host s ≡ true → shown ≡ (pulsed s sck (advanced_if_begun s sdi (under_way s sck n) (clocked sck n))).pins.pulse) →
      Bool·beq sck s.con1.ckp ≡ false → (sh : Shift) → n.shift ≡ sh → is_begun sh ≡ false →
      (is_free sh ≡ true → silent s ≡ false) →
      started_by s stood shown ≡ not (awaits_pulse s n)
  unfolding awaits_pulse
  starts_as stood shown same seen away Free e unbegun fills =
      ap (λ (b : Bool). started_by s b shown) same
      ∙ starts_law (framed s) s.con2.spifsd s.con2.frmdly n.pins.pulse shown
      (λ host dly. clash (silent s)
      (if_true (framed s) _ _ (and_left (framed s) _ host) ∙ and_right (framed s) _ host) (fills refl))
  starts_as stood shown same seen away (Loaded word) e unbegun fills =
      ap (λ (b : Bool). started_by s b shown) same
      ∙ starts_law (framed s) s.con2.spifsd s.con2.frmdly n.pins.pulse shown
      (λ host dly. seen host ∙ loaded_shown host dly word e away)
  starts_as stood shown same seen away (Begun p) e unbegun fills = clash true refl unbegun
