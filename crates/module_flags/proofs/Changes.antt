-- What a call changes, after any calls (specs/Demands.antt).
--     call_changes_lem   registers, the interrupt flag, SPIROV and the levels
--     dropped        a received word that is new in the ledger
-- Assumes nothing.
use Rattle.std.specs.Prelude.{◌+◌, ◌&&◌, ◌||◌, ◌≡◌}
use Rattle.laws.proofs.Common.{ℕ, Bool, true, false, not, or-false, [], refl, sym, ap, subst, ◌∙◌}
use Rattle.laws.proofs.Common.{arith, le-ltb, ltb, length, by_test, and_left, and_right, and_first, and-false}
use mir.Val.{bool_byte}
use Rattle.word_order.specs.Ledger.{Ledger, is_quiet, edges_given, opened, lost_of, Terms}
use Rattle.word_order.specs.Machine.{Entry, opens, notes, is_opening, entered}
use Rattle.module_rules.proofs.Types.{Pins, Call}
use Rattle.module_rules.specs.RefusalTable.{is_clear}
use Rattle.module_rules.specs.Calls.{perform_of, interrupt_of, sck_of}
use Rattle.module_rules.specs.Words.{unread_in, waiting_in}
use Rattle.module_rules.specs.Watch.{Watched, watched_call, sight_of, entry_of}
use Rattle.module_rules.specs.Flags.{Seen, seen, raised}
use Rattle.module_rules.specs.Demands.{CallChanges}
use Rattle.module_rules.proofs.BuffersOrder.{waiting_length, unread_length}
use Rattle.module_invariant.proofs.RefusalsKinds.{Fitting, call_fits}
use Rattle.module_invariant.proofs.Holds.{call_keeps}
use Rattle.module_order.proofs.Order.{Lives, lives_on}
use Rattle.module_flags.proofs.Raised.{raised_none}
use Rattle.module_flags.proofs.Happened.{seen_happened, ops_of, happened}
use Rattle.module_flags.proofs.Calls.{Flagged, Plain, FlagsOf, spirov_by, call_flags}
use Rattle.module_flags.proofs.Sdo.{sdo_shown_lem, levels_stay}

-- An entry that notes nothing leaves no list longer.
record NoLonger (l k : Ledger) : Type 0 where
  accepted : ltb (length l.accepted) (length k.accepted) ≡ false
  read : ltb (length l.read) (length k.read) ≡ false
  arrived : ltb (length l.arrivals) (length k.arrivals) ≡ false
  lost : ltb (lost_of l) (lost_of k) ≡ false

not_less : (a : ℕ) → ltb a a ≡ false
not_less a = le-ltb a a (omega arith)

unnoted_longer : (t : Terms) (e : Entry) (l : Ledger) → (is_opening e ≡ false → e ≡ notes []) → NoLonger l (entered t e l)
unfolding opened
unnoted_longer t opens l h =
    record {
      accepted = le-ltb (length l.accepted) 0 (omega arith);
      read = le-ltb (length l.read) 0 (omega arith);
      arrived = le-ltb (length l.arrivals) 0 (omega arith);
      lost = le-ltb (lost_of l) 0 (omega arith);
    }
unnoted_longer t (notes os) l h =
    subst (λ (e : Entry). NoLonger l (entered t e l)) (sym (h refl))
    (record {
      accepted = not_less (length l.accepted);
      read = not_less (length l.read);
      arrived = not_less (length l.arrivals);
      lost = not_less (lost_of l);
    })

module _ (x : Watched) (v : Lives x) (c : Call) where
  abbrev y : Watched
  y = watched_call x c

  abbrev busy : Bool
  busy = not (is_quiet x.ledger.wire)

  abbrev entry : Entry
  entry = entry_of x.memory (sight_of x.now c) busy (edges_given x.ledger.wire) c

  -- The flags, in either case.
  flags_of :
      (x.now.settings.spien ≡ true → y.now.settings.spien ≡ true → Flagged x.now c (ops_of entry) (perform_of x.now c))
      × ((x.now.settings.spien && y.now.settings.spien) ≡ false → Plain x.now c entry (perform_of x.now c))
  unfolding FlagsOf
  flags_of =
      call_flags x.now x.memory busy (edges_given x.ledger.wire) v.holds.holds (λ on. (v.tied on).recalls) c

  -- No word is seen where the module was disabled or is then.
  plain-seen : Plain x.now c entry (perform_of x.now c) → (raised x.now.settings (seen x y) ≡ false) × ((seen x y).lost ≡ false)
  plain-seen p =
      let none : NoLonger x.ledger y.ledger = unnoted_longer _ entry x.ledger p.unnoted in
      let unread-x : length (unread_in x.now) ≡ x.now.engine.receive.count = unread_length _ x.now.engine.receive in
      let unread-y : length (unread_in y.now) ≡ y.now.engine.receive.count = unread_length _ y.now.engine.receive in
      let wait-x : length (waiting_in x.now) ≡ x.now.engine.transmit.count = waiting_length _ x.now.engine.transmit in
      let wait-y : length (waiting_in y.now) ≡ y.now.engine.transmit.count = waiting_length _ y.now.engine.transmit in (
        raised_none x.now.settings (seen x y) none.read
            (le-ltb (length (unread_in x.now)) (length (unread_in y.now)) (omega (arith, p.unread, unread-x, unread-y)))
            (by_test y.now.settings.spien
            (λ on.
            and-false y.now.settings.spien _
            (ap (λ (b : Bool). ltb (length (waiting_in y.now)) (length (waiting_in x.now) + bool_byte b)) none.accepted
            ∙ le-ltb (length (waiting_in y.now)) (length (waiting_in x.now) + 0) (omega (arith, p.waiting on, wait-x, wait-y))))
            (λ off. and_first y.now.settings.spien _ off))
            none.arrived
            none.accepted,
        none.lost,
      )

  -- The interrupt flag and SPIROV, by what is seen.
  flags-seen : (y.now.engine.interrupt
      ≡ (not (is_clear c) && (x.now.engine.interrupt || raised x.now.settings (seen x y))))
      × (y.now.engine.spirov ≡ spirov_by x.now c (perform_of x.now c).answer (seen x y).lost)
  flags-seen =
      by_test (x.now.settings.spien && y.now.settings.spien)
      (λ both.
      let on : x.now.settings.spien ≡ true = and_left x.now.settings.spien _ both in
      let on' : y.now.settings.spien ≡ true = and_right x.now.settings.spien _ both in
      let f = flags_of.0 on on' in
      let same : happened x.now (ops_of entry) y.now ≡ seen x y = sym (seen_happened x c v on on') in (
        f.flag ∙ ap (λ (z : Seen). not (is_clear c) && (x.now.engine.interrupt || raised x.now.settings z)) same,
        f.spirov ∙ ap (λ (z : Seen). spirov_by x.now c (perform_of x.now c).answer z.lost) same,
      ))
      (λ off.
      let p = flags_of.1 off in
      let none = plain-seen p in (
        p.flag
            ∙ ap (λ (b : Bool). not (is_clear c) && b)
            (sym (ap (λ (b : Bool). x.now.engine.interrupt || b) none.0 ∙ or-false x.now.engine.interrupt)),
        p.spirov ∙ ap (spirov_by x.now c (perform_of x.now c).answer) (sym none.1),
      ))

  -- What a call changes.
  pub call_changes_lem : CallChanges x c
  unfolding interrupt_of sck_of
  call_changes_lem =
      let fits : Fitting x.now.settings c (perform_of x.now c) = call_fits x.now c in
      record {
        stat = fits.stat;
        con1 = fits.con1;
        con2 = fits.con2;
        flag = flags-seen.0;
        spirov = flags-seen.1;
        sdo = sdo_shown_lem x c (call_keeps x.now c v.holds.holds) (λ on. ((lives_on x c v).tied on).words);
        sck = λ off. ap (λ (p : Pins). p.sck) (levels_stay x.now c off);
        ss = λ off. ap (λ (p : Pins). p.ss) (levels_stay x.now c off);
      }
