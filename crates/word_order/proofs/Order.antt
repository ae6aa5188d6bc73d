-- The law of word order for every machine, over every list of calls.
--     TiedAll       a machine that is open, its ledger and the watcher's memory
--     entry_tied    one entry keeps a machine and its ledger tied
--     call_tied     one call
--     calls_tied    a list of calls
--     in_order_lem      the law
-- Assumes nothing.
use Rattle.std.specs.Prelude.{◌∷◌, ◌≡◌}
use Rattle.laws.proofs.Common.{ℕ, Bool, true, not, List, [], refl, sym, subst, subst₂}
use Rattle.word_order.specs.Ledger.{Terms, Wire, quiet, busy, Ledger, opened, is_quiet, edges_given}
use Rattle.word_order.specs.Port.{Way, idle, sends, Port, is_under, edges_under, Whole}
use Rattle.word_order.specs.Machine.{Entry, opens, notes, entered, Step, Agrees, Watching, Machine, Watched, ledger_after, watched_call, watched_calls, InOrder}
use Rattle.word_order.proofs.Tied.{Carries, Tied, tied_opened}
use Rattle.word_order.proofs.Operations.{tied_ops}

-- A tied ledger agrees with its port.
carries_agrees : (t : Terms) (owed : List ℕ) (way : Way) (wire : Wire) → Carries t owed way wire →
    (not (is_quiet wire) ≡ is_under way) × (edges_given wire ≡ edges_under way)
carries_agrees t owed idle quiet c = (refl, refl)
carries_agrees t owed idle (busy w) c = absurd c
carries_agrees t owed (sends u) quiet c = absurd c
carries_agrees t owed (sends u) (busy w) c = (refl, c.edges)

pub tied_agrees : (t : Terms) (p : Port) (l : Ledger) → Tied t p l → Agrees p (not (is_quiet l.wire)) (edges_given l.wire)
tied_agrees t p l h =
    let a = carries_agrees t p.owed p.way l.wire h.carries in
    record { under = a.0; given = a.1 }

-- One entry.
pub entry_tied : (t later : Terms) (was : Bool) (e : Entry) (p after : Port) (l : Ledger) → Whole t → (was ≡ true → Tied t p l) →
    Step t later was e p after → Tied later after (entered t e l)
entry_tied t later was opens p after l w h s = subst (λ (q : Port). Tied later q opened) (sym s.ports) (tied_opened later)
entry_tied t later was (notes os) p after l w h s =
    let stays = s.stays refl in
    subst₂ (λ (u : Terms) (q : Port). Tied u q (entered t (notes os) l)) (sym stays.1) (sym s.ports)
    (tied_ops t w os p l (h stays.0) s.legal)

module _ (m : Watching) (owes : Machine m) where
  pub record TiedAll (x : Watched m) : Type 0 where
    pub words : Tied (m.terms x.now) (m.port x.now) x.ledger
    pub recalls : owes.Recalls x.now x.memory

  abbrev pub TiedOn : Watched m → Type 0
  TiedOn x = m.on x.now ≡ true → TiedAll x

  -- What a call that leaves the machine open does, by its words and by the watcher's memory.
  pub call_steps : (x : Watched m) (c : m.Call) → owes.Holds x.now → TiedOn x → m.on (m.step x.now c) ≡ true →
      Step (m.terms x.now) (m.terms (m.step x.now c)) (m.on x.now)
      (m.entry x.memory (m.sight x.now c) (not (is_quiet x.ledger.wire)) (edges_given x.ledger.wire) c)
      (m.port x.now)
      (m.port (m.step x.now c))
      × ((later : Bool) → later ≡ is_under (m.port (m.step x.now c)).way →
      owes.Recalls (m.step x.now c) (m.remembers x.memory (m.sight x.now c) later c))
  call_steps x c h was on =
      owes.steps x.now c x.memory (not (is_quiet x.ledger.wire)) (edges_given x.ledger.wire) h
      (λ now. (tied_agrees (m.terms x.now) (m.port x.now) x.ledger (was now).words, (was now).recalls))
      on

  -- One call.
  pub call_tied : (x : Watched m) (c : m.Call) → owes.Holds x.now → TiedOn x → TiedOn (watched_call m x c)
  call_tied x c h was on =
      let s : m.State = x.now in
      let r = call_steps x c h was on in
      let after : Tied (m.terms (m.step s c)) (m.port (m.step s c)) (ledger_after m x c) =
      entry_tied (m.terms s) (m.terms (m.step s c)) (m.on s) _ (m.port s) (m.port (m.step s c)) x.ledger (owes.whole s h)
      (λ now. (was now).words)
      r.0 in
      record { words = after; recalls = r.1 _ (tied_agrees _ _ _ after).under }

  -- A list of calls.
  pub calls_tied : (cs : List m.Call) (x : Watched m) → owes.Holds x.now → TiedOn x →
      owes.Holds (watched_calls m x cs).now × TiedOn (watched_calls m x cs)
  calls_tied [] x h was = (h, was)
  calls_tied (c ∷ cs) x h was = calls_tied cs (watched_call m x c) (owes.keeps x.now c h) (call_tied x c h was)

  -- The law: a machine that is closed at first, or tied to its ledger, and any calls.
  pub in_order_lem : (cs : List m.Call) (x : Watched m) → owes.Holds x.now → TiedOn x →
      m.on (watched_calls m x cs).now ≡ true → InOrder m (watched_calls m x cs)
  in_order_lem cs x h was on =
      let t : TiedAll (watched_calls m x cs) = (calls_tied cs x h was).1 on in
      record { sending = t.words.sending; receiving = t.words.receiving }
