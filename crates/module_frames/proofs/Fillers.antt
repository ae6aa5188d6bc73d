-- Fillers of a module and of its ledger (module_rules, specs/Demands.antt).
--     fillers   the module sends one exactly while the ledger has one on the wire, low, and a client without SSEN begins one
-- Assumes nothing.
use Rattle.std.specs.Prelude.{◌&&◌, ◌||◌, ◌≡◌}
use Rattle.laws.proofs.Common.{Bool, true, false, not, Bool·beq, refl, sym, ap, ◌∙◌, zero-div, arith}
use Rattle.laws.proofs.Common.{le-ltb, length, when◌then◌else◌, clash, and-false, unlike}
use Rattle.word_order.specs.Bits.{bit_of}
use Rattle.word_order.specs.Ledger.{Ledger, Terms, carries_filler, is_quiet, left_to_send, unsent, sent}
use Rattle.module_rules.proofs.Types.{Settings, Engine, Shift, Free, Loaded, Begun, Pin, Module}
use Rattle.module_rules.specs.Select.{deselected}
use Rattle.module_rules.specs.Invariant.{ShiftHolds}
use Rattle.module_rules.specs.Calls.{perform_of, sck_of}
use Rattle.module_rules.specs.Demands.{sends_filler, Fillers}
use Rattle.module_rules.specs.Watch.{Watched, may_begin, shows_pulse, watched_call, terms}
use Rattle.module_rules.specs.InBits.{gives_pulses}
use Rattle.module_rules.specs.Pulses.{started_by}
use Rattle.module_order.proofs.Order.{Lives, lives_on}
use Rattle.module_frames.proofs.Seen.{Noted}
use Rattle.module_frames.proofs.Calls.{Sees, edge_heard, lives_carried, pin_sees}

-- A filler is made of zeros.
filler_low : (s : Settings) (n : Engine) (sh : Shift) → ShiftHolds s n sh → sends_filler sh ≡ true → n.pins.sdo ≡ false
unfolding bit_of
filler_low s n Free h e = clash false e refl
filler_low s n (Loaded word) h e = clash false e refl
filler_low s n (Begun p) h e = h.shows ∙ rw (h.zeros e, zero-div)

-- With nothing on the wire and nothing to send, an edge that may begin something brings a filler where one is sent.
begins_filler : (t : Terms) (may : Bool) (l k : Ledger) → Noted t may l k → may ≡ true → is_quiet l.wire ≡ true →
    left_to_send l ≡ false → t.silent ≡ false → carries_filler k.wire ≡ true
begins_filler t may l k n can none left fills =
    let busy : is_quiet k.wire ≡ false =
    n.begins none
    ∙ ap (λ (b : Bool). not (b && (left_to_send l || not t.silent))) can
    ∙ ap (λ (b : Bool). not (b || not t.silent)) left
    ∙ ap (λ (b : Bool). not (not b)) fills in
    (n.first none busy).1 ∙ ap not left

-- Fillers of an enabled module.
module _ (x : Watched) (v : Lives x) (on : x.now.settings.spien ≡ true) where
  abbrev s : Settings
  s = x.now.settings

  none_left_lem : unsent x.ledger ≡ 0 → left_to_send x.ledger ≡ false
  unfolding left_to_send
  none_left_lem e = le-ltb (length (sent x.ledger)) (length x.ledger.accepted) (omega arith)

  -- A pin call of a client without SSEN and without FRMEN, with an SCK level that is an edge to the active one.
  begins : s.con1.msten ≡ false → s.con1.ssen ≡ false → s.con2.frmen ≡ false → is_quiet x.ledger.wire ≡ true →
      unsent x.ledger ≡ 0 → (sck sdi ss : Bool) → Bool·beq sck (sck_of x.now) ≡ false → Bool·beq sck s.con1.ckp ≡ false →
      sends_filler (perform_of x.now (Pin sck sdi ss)).after.engine.shift ≡ true
  unfolding when◌then◌else◌ sck_of
  begins client ssen frmen none left sck sdi ss edge active =
      let y : Watched = watched_call x (Pin sck sdi ss) in
      let r : Sees x (Pin sck sdi ss) sck sdi ss =
      pin_sees x v on sck sdi ss (ap (λ (b : Bool). b && not s.con1.dissck) client) in
      let hears : deselected s ss ≡ false =
      ap (λ (b : Bool). (not s.con1.msten && (not s.con2.frmen && b)) && ss) ssen
      ∙ ap (λ (b : Bool). b && ss) (and-false (not s.con1.msten) _ (and-false (not s.con2.frmen) false refl)) in
      let shown : Bool = shows_pulse y.now in
      let may : Bool = may_begin s x.memory shown sck in
      let can : may ≡ true =
      ap (λ (b : Bool). not b && started_by s x.memory.pulse shown) active
      ∙ ap (λ (b : Bool). not b || (when gives_pulses s && s.con2.frmdly then shown else x.memory.pulse)) frmen in
      sym (lives_carried y (lives_on x (Pin sck sdi ss) v) (ap (λ (m : Module). m.settings.spien) r.now ∙ on)).filler
      ∙ begins_filler (terms s) may x.ledger y.ledger
      (edge_heard x v on (Pin sck sdi ss) sck sdi ss r hears (unlike sck x.now.engine.pins.sck edge))
      can none (none_left_lem left)
      (ap (λ (b : Bool). when b then not s.con2.spifsd else s.con1.msten) frmen ∙ client)

  pub fillers : Fillers x
  fillers =
      record {
        same = sym (lives_carried x v on).filler;
        low = filler_low s x.now.engine x.now.engine.shift v.holds.holds.shift;
        begins = begins;
      }
