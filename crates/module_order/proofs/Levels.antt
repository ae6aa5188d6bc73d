-- What the watcher remembers is what the module does: the levels of the clock and of select, and the pulse.
--     Recalls          the watcher's levels are the module's
--     level_recalls    after levels are seen
-- Assumes nothing.
use Rattle.std.specs.Prelude.{◌&&◌, ◌||◌, ◌≡◌}
use Rattle.laws.proofs.Common.{Bool, true, false, not, Bool·beq, refl, sym, ap, ap₂, ◌∙◌, when◌then◌else◌}
use Rattle.laws.proofs.Common.{if_both}
use Rattle.module_rules.proofs.Types.{Settings, Engine, Module, Answer}
use Rattle.module_rules.specs.Settings.{framed, frame_host}
use Rattle.module_rules.specs.Loading.{is_begun}
use Rattle.module_rules.specs.Select.{deselected, select_seen, select_remembered}
use Rattle.module_rules.specs.Edge.{advanced_if_begun, under_way, pulse_due, active, pulse_after, pulsed, clocked, edged, levels, stepped}
use Rattle.module_rules.specs.Pulses.{stands}
use Rattle.module_rules.specs.Watch.{Memory, levels_kept}
use Rattle.module_invariant.proofs.Select.{advanced_levels, seen_levels, seen_select, stepped_levels}
use Rattle.module_order.proofs.Edges.{sight_at}

pub record Recalls (m : Module) (x : Memory) : Type 0 where
  pub sck : x.sck ≡ m.engine.pins.sck
  pub ss : x.ss ≡ m.engine.pins.ss
  pub pulse : x.pulse ≡ m.engine.pins.pulse

-- The pulse after an edge: given, or seen on select.
noted_law : (f fsd still shown act busy pulse due : Bool) →
    ((f && not fsd) ≡ true →
    shown ≡ (when f then (when still then (when fsd then act && not busy else pulse) else not fsd && due) else pulse)) →
    (f ≡ false → pulse ≡ false) →
    (when f && not fsd then shown else still && (((f && fsd) && act) && not busy))
    ≡ (when f then (when still then (when fsd then act && not busy else pulse) else not fsd && due) else pulse)
unfolding when◌then◌else◌
noted_law true true true shown act busy pulse due h k = refl
noted_law true true false shown act busy pulse due h k = refl
noted_law true false still shown act busy pulse due h k = h refl
noted_law false fsd true shown act busy pulse due h k = sym (k refl)
noted_law false fsd false shown act busy pulse due h k = sym (k refl)

module _ (s : Settings) (shown later sck : Bool) where
  -- At the end of an edge that is not deaf.
  pulsed_pulse : (n : Engine) → later ≡ is_begun n.shift → (frame_host s ≡ true → shown ≡ (pulsed s sck n).pins.pulse) →
      (framed s ≡ false → n.pins.pulse ≡ false) → stands s shown sck n.pins.ss (not later) ≡ (pulsed s sck n).pins.pulse
  unfolding pulsed pulse_after
  pulsed_pulse n is seen plain =
      ap (λ (b : Bool). stands s shown sck n.pins.ss (not b)) is
      ∙ noted_law (framed s) s.con2.spifsd (Bool·beq sck s.con1.ckp) shown (active s n.pins.ss) (is_begun n.shift)
      n.pins.pulse (pulse_due s n.transmit.count n.shift) seen plain

  edged-pulse : (sdi : Bool) (n : Engine) → later ≡ is_begun (edged s sck sdi n).shift →
      (frame_host s ≡ true → shown ≡ (edged s sck sdi n).pins.pulse) → (framed s ≡ false → n.pins.pulse ≡ false) →
      (when deselected s n.pins.ss then n.pins.pulse else stands s shown sck n.pins.ss (not later))
      ≡ (edged s sck sdi n).pins.pulse
  unfolding edged clocked pulsed
  edged-pulse sdi n is seen plain =
      let k = advanced_levels s sdi (under_way s sck n) (clocked sck n) in
      if_both (λ (b : Bool) (x : Engine). later ≡ is_begun x.shift → (frame_host s ≡ true → shown ≡ x.pins.pulse) →
      b ≡ x.pins.pulse)
      (deselected s n.pins.ss) (deselected s n.pins.ss) _ _ _ _ refl
      (λ d is seen. refl)
      (λ d is seen.
      ap (λ (b : Bool). stands s shown sck b (not later)) (sym k.ss)
      ∙ pulsed_pulse (advanced_if_begun s sdi (under_way s sck n) (clocked sck n)) is seen (λ f. k.pulse ∙ plain f))
      is seen

-- Select high for an SSEN client, or no edge.
if_or : {A : Type 0} (a b : Bool) (x y : A) → (when a || b then x else y) ≡ (when b then x else when a then x else y)
unfolding when◌then◌else◌
if_or true true x y = refl
if_or true false x y = refl
if_or false true x y = refl
if_or false false x y = refl

-- Levels are seen.
pub level_recalls : (s : Settings) (a : Answer) (x : Memory) (shown later sck sdi ss : Bool) (n : Engine) →
    Recalls (record { settings = s; engine = n }) x → later ≡ is_begun (stepped s (levels sck sdi ss) n).shift →
    (frame_host s ≡ true → shown ≡ (stepped s (levels sck sdi ss) n).pins.pulse) → (framed s ≡ false → n.pins.pulse ≡ false) →
    Recalls (record { settings = s; engine = stepped s (levels sck sdi ss) n }) (levels_kept (sight_at s n a shown) x later sck ss)
unfolding stepped select_remembered
level_recalls s a x shown later sck sdi ss n r is seen plain =
    let y : Engine = select_seen s ss n in
    let kept : y.pins.pulse ≡ n.pins.pulse = (seen_levels s ss n).pulse in
    record {
      sck = sym (stepped_levels s ss sck sdi n).0;
      ss = sym (stepped_levels s ss sck sdi n).1;
      pulse =
          if_or (deselected s ss) (Bool·beq sck x.sck) _ _
          ∙ if_both (λ (b : Bool) (z : Engine). later ≡ is_begun z.shift → (frame_host s ≡ true → shown ≡ z.pins.pulse) →
          b ≡ z.pins.pulse)
          (Bool·beq sck x.sck) (Bool·beq sck n.pins.sck) _ _ _ _ (ap (Bool·beq sck) (sym r.sck))
          (λ e is seen. r.pulse ∙ sym kept)
          (λ e is seen.
          ap₂ (λ (b c : Bool). when deselected s b then c else stands s shown sck b (not later)) (sym (seen_select s ss n))
          (r.pulse ∙ sym kept)
          ∙ edged-pulse s shown later sck sdi y is seen (λ f. kept ∙ plain f))
          is seen;
    }
