-- The levels that a module remembers: what is under way leaves them, and SCK and select are then the ones last shown.
--     LevelsKept        an engine with the same clock, select level and pulse as another
--     advanced_levels   an edge of what is under way leaves them
--     seen_levels       a select level that is seen is remembered, and else nothing changes there
--     stepped_levels    the levels seen leave the clock and the select level that they show
-- Assumes nothing.
use Rattle.std.specs.Prelude.{◌+◌, ◌&&◌, ◌≡◌}
use Rattle.laws.proofs.Common.{Bool, Bool·beq, refl, sym, ap, ◌∙◌, ltb, if_keeps, like}
use Rattle.module_rules.proofs.Types.{Settings, Engine, Pins, Shift, Free, Loaded, Begun}
use Rattle.module_rules.specs.Loading.{is_begun, sdo_at, rested}
use Rattle.module_rules.specs.Select.{select_remembered, aborted, deselected, select_seen}
use Rattle.module_rules.specs.Edge.{word_edges, shifted, advanced, advanced_if_begun, under_way, pulsed, clocked, edged, levels, stepped}
use Rattle.module_invariant.proofs.FinishWords.{delivered_elsewhere, finished_spares}

pub record LevelsKept (n x : Engine) : Type 0 where
  pub sck : x.pins.sck ≡ n.pins.sck
  pub ss : x.pins.ss ≡ n.pins.ss
  pub pulse : x.pins.pulse ≡ n.pins.pulse

-- An edge of what is under way leaves them.
pub advanced_levels : (s : Settings) (sdi : Bool) (sh : Shift) (n : Engine) → LevelsKept n (advanced_if_begun s sdi sh n)
unfolding advanced_if_begun advanced shifted
advanced_levels s sdi Free n = record { sck = refl; ss = refl; pulse = refl }
advanced_levels s sdi (Loaded word) n = record { sck = refl; ss = refl; pulse = refl }
advanced_levels s sdi (Begun p) n =
    if_keeps (LevelsKept n) (ltb (p.edges + 1) (word_edges s)) _ _ (λ e. record { sck = refl; ss = refl; pulse = refl })
    (λ e.
    let spared = finished_spares s p.filler _ n in
    let there = (delivered_elsewhere s n _).1 in
    record {
      sck = spared.sck ∙ ap (λ (q : Pins). q.sck) there;
      ss = spared.ss ∙ ap (λ (q : Pins). q.ss) there;
      pulse = spared.pulse ∙ ap (λ (q : Pins). q.pulse) there;
    })

module _ (s : Settings) (ss : Bool) where
  -- A select level that is seen is remembered, and else nothing changes there.
  pub seen_levels : (n : Engine) → LevelsKept (select_remembered ss n) (select_seen s ss n)
  unfolding select_seen aborted rested sdo_at select_remembered
  seen_levels n =
      if_keeps (LevelsKept (select_remembered ss n)) (deselected s ss && is_begun n.shift) _ _
      (λ e. record { sck = refl; ss = refl; pulse = refl })
      (λ e. record { sck = refl; ss = refl; pulse = refl })

  pub seen_select : (n : Engine) → (select_seen s ss n).pins.ss ≡ ss
  unfolding select_remembered
  seen_select n = (seen_levels n).ss

  -- The levels seen leave the clock and the select level that they show.
  edged-levels : (sck sdi : Bool) (n : Engine) → ((edged s sck sdi n).pins.sck ≡ sck)
      × ((edged s sck sdi n).pins.ss ≡ n.pins.ss)
  unfolding edged clocked pulsed
  edged-levels sck sdi n =
      let k = advanced_levels s sdi (under_way s sck n) (clocked sck n) in
      if_keeps (λ (x : Engine). (x.pins.sck ≡ sck) × (x.pins.ss ≡ n.pins.ss)) (deselected s n.pins.ss) _ _
      (λ e. (refl, refl))
      (λ e. (k.sck, k.ss))

  pub stepped_levels : (sck sdi : Bool) (n : Engine) →
      ((stepped s (levels sck sdi ss) n).pins.sck ≡ sck) × ((stepped s (levels sck sdi ss) n).pins.ss ≡ ss)
  unfolding stepped select_remembered
  stepped_levels sck sdi n =
      let k = seen_levels n in
      let r = edged-levels sck sdi (select_seen s ss n) in
      if_keeps (λ (x : Engine). (x.pins.sck ≡ sck) × (x.pins.ss ≡ ss)) (Bool·beq sck n.pins.sck) _ _
      (λ e. (k.sck ∙ sym (like sck n.pins.sck e), k.ss))
      (λ e. (r.0, r.1 ∙ k.ss))

  pub stepped_select : (sck sdi : Bool) (n : Engine) → (stepped s (levels sck sdi ss) n).pins.ss ≡ ss
  stepped_select sck sdi n = (stepped_levels sck sdi n).1
