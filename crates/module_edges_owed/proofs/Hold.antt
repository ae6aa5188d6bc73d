-- The edges edges_still_owed, said from the history (crates/module_rules, specs/Demands.antt): they are those edges_still_owed by what the module holds.
--     owed_is_held      of a module that is tied to its ledger
--     host_falls_idle   an enabled unframed host with its own clock pays what it owes, and is idle once it owes none
-- Assumes nothing.
use Rattle.std.specs.Prelude.{◌+◌, ◌*◌, ◌-◌, ◌≤◌, ◌&&◌, ◌∷◌, ◌≡◌}
use Rattle.laws.proofs.Common.{ℕ, Bool, true, false, not, List, [], refl, sym, ap, ap₂}
use Rattle.laws.proofs.Common.{subst, ◌∙◌, zero-add, le_of_eq, le_refl, arith, lt-ltb, le-ltb, eqb, ltb, length}
use Rattle.laws.proofs.Common.{length-append, if_keeps, if_true, and-false, by_test, clash}
use Rattle.word_order.specs.Ledger.{Terms, Op, Wire, quiet, busy, Ledger, sent, unsent, closed, given, noted_all}
use Rattle.word_order.specs.Machine.{Entry, entered}
use Rattle.word_order.proofs.Order.{tied_agrees, TiedAll}
use Rattle.module_rules.proofs.Types.{Call, Read, Write, Tick, Pin, ClockStep, Clear}
use Rattle.module_rules.specs.Settings.{width_of, unframed_host}
use Rattle.module_rules.specs.Refusals.{is_done, is_edge}
use Rattle.module_rules.specs.RefusalTable.{writes}
use Rattle.module_rules.specs.Words.{left_buffer, waiting_in, owed_words}
use Rattle.module_rules.specs.Calls.{perform_of}
use Rattle.module_rules.specs.Invariant.{ModuleHolds}
use Rattle.module_rules.specs.Watch.{terms, Sight, sight_of, Memory, level_ops, ss_of_tick, ours, Watched, watched_call, watched_calls}
use Rattle.module_rules.specs.Flags.{sees_accepted}
use Rattle.module_rules.specs.Demands.{edges_still_owed, AllUndisturbed, edges_by, edges_made, only_ticks, FallsIdle}
use Rattle.module_order.proofs.Order.{ours_owes, Lives, lives_on}
use Rattle.module_order.proofs.Dropped.{ops_cases}
use Rattle.module_edges_owed.proofs.Parts.{owed_in, AllUndisturbing, Pays}
use Rattle.module_edges_owed.proofs.Calls.{falls, call_pays, none_owed_idle, some_owed_not_idle, ticks_make}

-- The edges edges_still_owed by the history are those edges_still_owed by what the module holds: the ledger has as many words unsent as the port owes, and as
-- many edges given.
pub owed_is_held : (x : Watched) → TiedAll ours ours_owes x → edges_still_owed x ≡ owed_in x.now
owed_is_held x t =
    let words : unsent x.ledger ≡ length (left_buffer x.now) + length (waiting_in x.now) =
    less _ _ _ (ap length t.words.sending ∙ length-append (sent x.ledger) (owed_words x.now))
    ∙ length-append (left_buffer x.now) (waiting_in x.now) in
    ap₂ (λ (k e : ℕ). 2 * width_of x.now.settings * k - e) words (tied_agrees _ _ _ t.words).given
  where
    less : (a b c : ℕ) → a ≡ b + c → a - b ≡ c
    less a b c e = omega arith

-- A done BUF write is seen: a call after which no word more is accepted is none.
none_written : (x : Watched) (c : Call) → sees_accepted x (watched_call x c) ≡ false →
    (is_done (perform_of x.now c).answer && writes 3 c) ≡ false
none_written x (Read register) e = and-false (is_done (perform_of x.now (Read register)).answer) false refl
none_written x (Write register v) e =
    let done : Bool = is_done (perform_of x.now (Write register v)).answer && eqb register 3 in
    by_test done
    (λ is.
    let more : length (watched_call x (Write register v)).ledger.accepted ≡ length x.ledger.accepted + 1 =
    ap (λ (q : Entry). length (entered (terms x.now.settings) q x.ledger).accepted) (if_true done _ _ is)
    ∙ length-append x.ledger.accepted _ in
    clash (sees_accepted x (watched_call x (Write register v))) (lt-ltb (length x.ledger.accepted) _ (omega (arith, more))) e)
    (λ none. none)
none_written x (Tick sdi ss) e = and-false (is_done (perform_of x.now (Tick sdi ss)).answer) false refl
none_written x (Pin sck sdi ss) e = and-false (is_done (perform_of x.now (Pin sck sdi ss)).answer) false refl
none_written x (ClockStep sck sdi ss) e = and-false (is_done (perform_of x.now (ClockStep sck sdi ss)).answer) false refl
none_written x Clear e = and-false (is_done (perform_of x.now Clear).answer) false refl

-- Edges and select accept no word.
edge_accepts_none : (t : Terms) (sdo sdi : Bool) (w : Wire) (l : Ledger) → (given t sdo sdi w l).accepted ≡ l.accepted
unfolding given closed
edge_accepts_none t sdo sdi quiet l = refl
edge_accepts_none t sdo sdi (busy w) l =
    if_keeps (λ (k : Ledger). k.accepted ≡ l.accepted) (ltb (w.edges + 1) t.last) _ _ (λ e. refl) (λ e. refl)

levels_accept_none : (t : Terms) (v : Sight) (x : Memory) (sck sdi ss : Bool) (l : Ledger) →
    (noted_all t (level_ops v x sck sdi ss) l).accepted ≡ l.accepted
levels_accept_none t v x sck sdi ss l =
    ops_cases v x sck sdi ss (λ (os : List Op). (noted_all t os l).accepted ≡ l.accepted) refl refl
    (edge_accepts_none t v.sdo sdi _ _)
    (edge_accepts_none t v.sdo sdi _ _)

-- A tick accepts no word.
tick_accepts_none : (x : Watched) (sdi ss : Bool) → sees_accepted x (watched_call x (Tick sdi ss)) ≡ false
tick_accepts_none x sdi ss =
    let v : Sight = sight_of x.now (Tick sdi ss) in
    let t : Terms = terms x.now.settings in
    ap (λ (q : List ℕ). ltb (length x.ledger.accepted) (length q))
    (if_keeps (λ (q : Entry). (entered t q x.ledger).accepted ≡ x.ledger.accepted) (is_edge v.answer) _ _
    (λ e. levels_accept_none t v x.memory (not x.memory.sck) sdi (ss_of_tick v x.memory ss) x.ledger)
    (λ e. refl))
    ∙ le-ltb (length x.ledger.accepted) _ (le_refl _)

-- Undisturbed calls make as many edges as what is edges_still_owed falls by.
history_pays : (cs : List Call) (x : Watched) → Lives x → x.now.settings.spien ≡ true → unframed_host x.now.settings ≡ true →
    AllUndisturbed x cs → edges_made x.now cs + edges_still_owed (watched_calls x cs) ≡ edges_still_owed x
history_pays [] x h on own u = zero-add (edges_still_owed x)
history_pays (c ∷ cs) x h on own u =
    let y : Watched = watched_call x c in
    let p : Pays x.now c (perform_of x.now c) = call_pays x.now h.holds.holds on own c in
    let later : Lives y = lives_on x c h in
    let step : edges_by c (perform_of x.now c).answer + edges_still_owed y ≡ edges_still_owed x =
    ap (λ (k : ℕ). edges_by c (perform_of x.now c).answer + k) (owed_is_held y (later.tied u.0.enabled))
    ∙ p.edges u.0.enabled (none_written x c u.0.no_word)
    ∙ sym (owed_is_held x (h.tied on)) in
    falls _ _ _ _ _ (history_pays cs y later u.0.enabled p.clock u.1) step

-- Ticks that leave the module undisturbed, seen from the history.
ticks_undisturbed : (ss : Bool) (sdis : List Bool) (x : Watched) → AllUndisturbing x.now (only_ticks ss sdis) →
    AllUndisturbed x (only_ticks ss sdis)
ticks_undisturbed ss [] x u = tt
ticks_undisturbed ss (sdi ∷ rest) x u =
    (record { enabled = u.0.enabled; no_word = tick_accepts_none x sdi ss }, ticks_undisturbed ss rest (watched_call x (Tick sdi ss)) u.1)

-- An unframed host with its own clock falls idle after exactly the edges that it owes.
pub host_falls_idle : (x : Watched) → Lives x → x.now.settings.spien ≡ true → unframed_host x.now.settings ≡ true → FallsIdle x
host_falls_idle x h on own =
    let same : edges_still_owed x ≡ owed_in x.now = owed_is_held x (h.tied on) in
    let holds : ModuleHolds x.now = h.holds.holds in
    record {
      pays = λ cs u. history_pays cs x h on own u;
      busy = λ some. some_owed_not_idle x.now holds on own (subst (λ (k : ℕ). 1 ≤ k) same some);
      idle = λ none. none_owed_idle x.now holds on own (sym same ∙ none);
      ticks = λ ss sdis all.
          let made = ticks_make ss sdis x.now holds on own (le_of_eq (all ∙ same)) in
          (ticks_undisturbed ss sdis x made.0, made.1 ∙ all);
    }
