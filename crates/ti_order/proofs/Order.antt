-- An edge of the TI module, by its words.
--     clocked_port                an edge of a character, by its words
--     edged_step                  an edge that counts: its operations, and what they lose and finish
-- Assumes nothing.
use Rattle.std.specs.Prelude.{◌+◌, ◌*◌, ◌-◌, ◌^◌, ◌≤◌, ◌<◌, ◌&&◌, ◌||◌, ◌++◌, ◌≡◌, Option, Some, None}
use Rattle.laws.proofs.Common.{ℕ, Bool, true, false, not, or-false, or-true, List}
use Rattle.laws.proofs.Common.{refl, sym, ap, subst, ◌∙◌, arith, eqb-true, ne_eqb, eqb, ltb, length, when◌then◌else◌}
use Rattle.laws.proofs.Common.{if_keeps, if_both, if_false, by_test}
use mir.Val.{bool_byte}
use Rattle.word_order.specs.Bits.{bit_of, sampled_in}
use Rattle.word_order.specs.Ledger.{Op}
use Rattle.word_order.specs.Port.{Way, sends, Port, played_all, Shows, LegalAll, is_under, edges_under, advanced, loses_at, ends_at, losses_in, finishes_in}
use Rattle.word_order.specs.Port as port
use Rattle.ti_rules.specs.declared.Settings.{Settings}
use Rattle.ti_rules.specs.declared.Character.{Character}
use Rattle.ti_rules.specs.declared.Engine.{Engine}
use Rattle.ti_rules.specs.Characters.{is_full, fresh}
use Rattle.ti_rules.specs.Finish.{finished}
use Rattle.ti_rules.specs.Edge.{received_after, shifted, clocked, under_way, edged}
use Rattle.ti_rules.specs.Watch.{in_buffer, unsent, under_of, way_of, port_of, latched, terms_of, edge_ops}
use Rattle.ti_rules.specs.Flags.{shown_at}
use Rattle.ti_rules.proofs.Finishes.{finish_port}
use Rattle.ti_order.proofs.Latching.{shown_already, shown_sampled}
use Rattle.ti_order.proofs.Invariant.{CharacterHolds, ShiftHolds, received_same, zeros_shown}

-- An edge of a character, by its words.
module _ (s : Settings) (most : s.length ≤ 16) (sdi : Bool) (c : Character) (n : Engine) (short : c.edges < 2 * s.length)
    (fits : c.received < 2 ^ sampled_in (latched s.phase) c.edges) where
  received_law : received_after s (c.edges + 1) sdi c.received ≡ port.received_after (terms_of s) sdi (under_of c)
  unfolding port.received_after
  received_law = received_same s most sdi c short fits

  abbrev onwards : ℕ → Character
  onwards r = record { zeros = c.zeros; bits = c.bits; edges = c.edges + 1; received = r }

  way_on : (r : ℕ) → way_of (Some (onwards r)) ≡ sends (under_of (onwards r))
  unfolding way_of
  way_on r = if_false (eqb (c.edges + 1) 0) _ _ (ne_eqb (c.edges + 1) 0 (λ e. omega arith))

  clocked_port : (way : Way) →
      port_of (clocked s sdi c n)
      ≡ advanced (terms_of s) sdi (sends (under_of c))
      (record { owed = unsent (Some c) ++ in_buffer n.waiting; way = way; unread = in_buffer n.unread; marked = false })
  unfolding clocked advanced shifted port.progressed
  clocked_port way =
      if_both (λ (x : Engine) (p : Port). port_of x ≡ p) (ltb (c.edges + 1) (2 * s.length)) _ _ _ _ _ refl
      (λ e. rw (way_on _, received_law))
      (λ e. rw (← received_law) (finish_port s c.zeros c.bits (c.edges + 1) _ n.waiting n n.unread way))

-- What an edge loses and finishes, by its words.
full_some : (s : Settings) (owed : List ℕ) (way : Way) (unread : Option ℕ) →
    loses_at (terms_of s) (record { owed = owed; way = way; unread = in_buffer unread; marked = false }) ≡ is_full unread
unfolding loses_at
full_some s owed way None = refl
full_some s owed way (Some c) = refl

module _ (s : Settings) (sdi : Bool) (c : Character) (n : Engine) where
  clocked_overrun : (owed : List ℕ) (way : Way) →
      (clocked s sdi c n).overrun
      ≡ (n.overrun
      || (ends_at (terms_of s) (sends (under_of c))
      && loses_at (terms_of s) (record { owed = owed; way = way; unread = in_buffer n.unread; marked = false })))
  unfolding clocked shifted finished
  clocked_overrun owed way =
      let lost : Bool = loses_at (terms_of s) (record { owed = owed; way = way; unread = in_buffer n.unread; marked = false }) in
      if_keeps (λ (x : Engine). x.overrun ≡ (n.overrun || (not (ltb (c.edges + 1) (2 * s.length)) && lost)))
      (ltb (c.edges + 1) (2 * s.length)) _ _
      (λ e. rw e (sym (or-false n.overrun)))
      (λ e. rw (e, full_some s owed way n.unread))

  clocked-unread : is_full (clocked s sdi c n).unread ≡ (is_full n.unread || ends_at (terms_of s) (sends (under_of c)))
  unfolding clocked shifted finished
  clocked-unread =
      if_keeps (λ (x : Engine). is_full x.unread ≡ (is_full n.unread || not (ltb (c.edges + 1) (2 * s.length))))
      (ltb (c.edges + 1) (2 * s.length)) _ _
      (λ e. rw e (sym (or-false (is_full n.unread))))
      (λ e. rw e (sym (or-true (is_full n.unread))))

-- One bit, alone and behind an operation that is none.
one_bit_lem : (b : Bool) → b ≡ ltb 0 (bool_byte b + 0)
one_bit_lem true = refl
one_bit_lem false = refl

later_bit : (b : Bool) → b ≡ ltb 0 (0 + (bool_byte b + 0))
later_bit true = refl
later_bit false = refl

-- The output at an edge that latches.
character_shows : (s : Settings) (sdo : Bool) (c : Character) →
    ((s.phase || ltb 0 c.edges) ≡ true → sdo ≡ bit_of c.bits (s.length - 1 - shown_at s.phase c.edges)) →
    Shows (terms_of s) sdo (under_of c)
character_shows s sdo c h =
    record {
      shows = λ e.
          h (shown_already s.phase c.edges e)
          ∙ ap (λ (i : ℕ). bit_of c.bits (s.length - 1 - i)) (shown_sampled s.phase c.edges e);
    }

-- An edge that counts.
pub record EdgeStep (s : Settings) (sdi : Bool) (os : List Op) (n : Engine) : Type 0 where
  pub ports : port_of (edged s sdi n) ≡ played_all (terms_of s) os (port_of n)
  pub legal : LegalAll (terms_of s) os (port_of n)
  pub overrun : (edged s sdi n).overrun ≡ (n.overrun || ltb 0 (losses_in (terms_of s) os (port_of n)))
  pub unread : is_full (edged s sdi n).unread ≡ (is_full n.unread || ltb 0 (finishes_in (terms_of s) os (port_of n)))

-- What is on the wire, by the shift register.
free_way : is_under (way_of None) ≡ false
unfolding way_of
free_way = refl

fresh_way : (bits : ℕ) → is_under (way_of (Some (fresh false bits))) ≡ false
unfolding way_of when◌then◌else◌
fresh_way bits = refl

pub begun_way_lem : (c : Character) → eqb c.edges 0 ≡ false → way_of (Some c) ≡ sends (under_of c)
unfolding way_of
begun_way_lem c e = if_false (eqb c.edges 0) _ _ e

-- What the ledger has on its wire is the edges that the shift register's character was given.
pub way_edges : (sh : Option Character) → edges_under (way_of sh) ≡ (under_way sh).edges
unfolding way_of
way_edges None = refl
way_edges (Some c) =
    if_keeps (λ (w : Way). edges_under w ≡ c.edges) (eqb c.edges 0) _ _ (λ e. sym (eqb-true c.edges 0 e)) (λ e. refl)

-- A character that was loaded and has had no edge.
loaded_fresh : (s : Settings) (sdo : Bool) (c : Character) → CharacterHolds s sdo c → c.edges ≡ 0 → c ≡ fresh false c.bits
loaded_fresh s sdo c h e =
    λ i. record { zeros = written_one i; bits = c.bits; edges = e i; received = none i }
  where
    written_one : c.zeros ≡ false
    written_one = by_test c.zeros (λ z. let some : 1 ≤ c.edges = h.begun z in absurd (omega arith)) (λ z. z)

    none : c.received ≡ 0
    none = let fits : c.received < 2 ^ sampled_in (latched s.phase) 0 = rw e at h.received in omega arith

module _ (s : Settings) (least : 1 ≤ s.length) (most : s.length ≤ 16) (sdi : Bool) (n : Engine) where
  abbrev at : Option Character → Option ℕ → Engine
  at sh w = record { waiting = w; shift = sh; unread = n.unread; pins = n.pins; overrun = n.overrun }

  free_step : (w : Option ℕ) → ShiftHolds s (at None w) None → EdgeStep s sdi (edge_ops false n.pins.sdo sdi) (at None w)
  unfolding edged edge_ops way_of when◌then◌else◌
  free_step None k =
      record {
        ports = clocked_port s most sdi (fresh true 0) (at None None) (omega arith) (omega arith) _;
        legal = (tt, (character_shows s n.pins.sdo (fresh true 0) (zeros_shown s n.pins.sdo k.1), tt));
        overrun = rw (← later_bit) (clocked_overrun s sdi (fresh true 0) (at None None) _ _);
        unread = rw (← later_bit) (clocked-unread s sdi (fresh true 0) (at None None));
      }
  free_step (Some x) k = let z : ◌≡◌ {A = ℕ} 1 0 = ap (λ (b : Option ℕ). length (in_buffer b)) k.0 in absurd (omega arith)

  loaded-step : (bits : ℕ) (w : Option ℕ) → CharacterHolds s n.pins.sdo (fresh false bits) →
      EdgeStep s sdi (edge_ops false n.pins.sdo sdi) (at (Some (fresh false bits)) w)
  unfolding edged edge_ops way_of when◌then◌else◌
  loaded-step bits w k =
      record {
        ports = clocked_port s most sdi (fresh false bits) (at (Some (fresh false bits)) w) k.short k.received _;
        legal = (tt, (character_shows s n.pins.sdo (fresh false bits) k.shows, tt));
        overrun = rw (← later_bit) (clocked_overrun s sdi (fresh false bits) (at (Some (fresh false bits)) w) _ _);
        unread = rw (← later_bit) (clocked-unread s sdi (fresh false bits) (at (Some (fresh false bits)) w));
      }

  begun-step : (c : Character) (w : Option ℕ) → CharacterHolds s n.pins.sdo c → way_of (Some c) ≡ sends (under_of c) →
      EdgeStep s sdi (edge_ops true n.pins.sdo sdi) (at (Some c) w)
  unfolding edged edge_ops
  begun-step c w k way =
      record {
        ports = rw way (clocked_port s most sdi c (at (Some c) w) k.short k.received (sends (under_of c)));
        legal = (rw way (character_shows s n.pins.sdo c k.shows), tt);
        overrun = rw (way, ← one_bit_lem) (clocked_overrun s sdi c (at (Some c) w) _ _);
        unread = rw (way, ← one_bit_lem) (clocked-unread s sdi c (at (Some c) w));
      }

  -- Whatever is in the shift register, by what the ledger has on its wire.
  pub edged_step : (busy : Bool) → ShiftHolds s n n.shift → busy ≡ is_under (way_of n.shift) →
      EdgeStep s sdi (edge_ops busy n.pins.sdo sdi) n
  edged_step busy h e = rw e (go n.shift n.waiting h)
    where
      go : (sh : Option Character) (w : Option ℕ) → ShiftHolds s (at sh w) sh → EdgeStep s sdi (edge_ops (is_under (way_of sh)) n.pins.sdo sdi) (at sh w)
      go None w k = rw free_way (free_step w k)
      go (Some c) w k =
          by_test (eqb c.edges 0)
          (λ e.
          let loaded : c ≡ fresh false c.bits = loaded_fresh s n.pins.sdo c k (eqb-true c.edges 0 e) in
          subst (λ (x : Character). EdgeStep s sdi (edge_ops (is_under (way_of (Some x))) n.pins.sdo sdi) (at (Some x) w)) (sym loaded)
          (rw (fresh_way c.bits) (loaded-step c.bits w (subst (CharacterHolds s n.pins.sdo) loaded k))))
          (λ e. rw (ap is_under (begun_way_lem c e)) (begun-step c w k (begun_way_lem c e)))
