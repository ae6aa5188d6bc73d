-- What the shift register's part of the invariant looks at: CON1, CON2, the transmit buffer, the levels SCK and SS, and
-- for a begun word the level SDO. A change of anything else keeps it.
--     progress_with, shift_same   a begun word, and the shift register, under changes of anything else
--     shift_is                    the invariant for a shift register that is known
-- Assumes nothing.
use Rattle.std.specs.Prelude.{◌≤◌, ◌≡◌}
use Rattle.laws.proofs.Common.{ℕ, Bool, true, false, refl, sym, subst, ◌∙◌}
use Rattle.module_rules.proofs.Types.{Settings, Engine, Receive, Progress, Shift, Free, Loaded, Begun}
use Rattle.module_rules.specs.Settings.{ssen_client}
use Rattle.module_rules.specs.Buffers.{first_waiting}
use Rattle.module_rules.specs.Loading.{is_begun}
use Rattle.module_rules.specs.Invariant.{ProgressHolds, ShiftHolds}
use Rattle.module_invariant.proofs.Parts.{elsewhere, restat}

-- The shift register holds if it is known to be one that holds.
pub shift_is : (s : Settings) (n : Engine) (sh : Shift) → n.shift ≡ sh → ShiftHolds s n sh → ShiftHolds s n n.shift
shift_is s n sh e h = subst (λ (x : Shift). ShiftHolds s n x) (sym e) h

-- A begun word in an engine with the same SCK and SDO, if an SSEN client is selected and has the word waiting first.
pub progress_with : (s : Settings) (n x : Engine) (spien spisidl : Bool) (sisel : ℕ) (p : Progress) →
    x.pins.sck ≡ n.pins.sck →
    x.pins.sdo ≡ n.pins.sdo → (ssen_client s ≡ true → x.pins.ss ≡ false) →
    (ssen_client s ≡ true → p.filler ≡ false → (1 ≤ x.transmit.count) × (p.word ≡ first_waiting x.transmit)) →
    ProgressHolds s n p →
    ProgressHolds (restat s spien spisidl sisel) x p
progress_with s n x spien spisidl sisel p clock stands selected first h =
    record {
      started = h.started;
      short = h.short;
      word = h.word;
      received = h.received;
      clock = clock ∙ h.clock;
      shows = stands ∙ h.shows;
      zeros = h.zeros;
      host = h.host;
      selected = selected;
      first = first;
    }

module _ (s : Settings) (n : Engine) (spien spisidl : Bool) (sisel : ℕ) (receive : Receive) (shift : Shift)
    (sdo pulse spirov interrupt : Bool) where
  -- The shift register, under changes of what it does not look at.
  pub shift_same : (spien ≡ true → s.spien ≡ true) → (sh : Shift) → (is_begun sh ≡ true → sdo ≡ n.pins.sdo) →
      ShiftHolds s n sh →
      ShiftHolds (restat s spien spisidl sisel) (elsewhere n receive shift sdo pulse spirov interrupt) sh
  shift_same on Free stands h = (h.0, λ e. h.1 (on e))
  shift_same on (Loaded word) stands h = h
  shift_same on (Begun p) stands h = progress_with s n _ spien spisidl sisel p refl (stands refl) h.selected h.first h
