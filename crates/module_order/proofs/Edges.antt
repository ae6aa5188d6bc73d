-- Levels that are seen, by their words: what the watcher notes of them is what they do to the module's port.
--     under_way_given   what is under way at an edge can be given it
--     begin_port        the watcher lets a word begin where the module does
--     edge_steps        an edge that is heard
--     edge_counts       what is counted of it
--     level_cases       what holds of each outcome of levels that are seen holds of them
--     level_steps       select, and then an edge or none
-- Assumes nothing.
use Rattle.std.specs.Prelude.{◌+◌, ◌&&◌, ◌||◌, ◌∷◌, ◌++◌, ◌≡◌}
use Rattle.laws.proofs.Common.{ℕ, Bool, true, false, not, Bool·beq, or-true, List, [], refl}
use Rattle.laws.proofs.Common.{sym, ap, ap₂, subst, ◌∙◌, arith, when◌then◌else◌, if_keeps, if_true, if_false, clash, by_test}
use Rattle.laws.proofs.Common.{and_left, and_right, and_rest, if_both, unlike, and_first}
use mir.Val.{bool_byte}
use Rattle.word_order.specs.Ledger.{Op, begins, clocks, forgets}
use Rattle.word_order.specs.Port.{Port, idle, played, played_all, LegalAll, counted_in}
use Rattle.word_order.proofs.Lists.{played_append, legal_append, counted_append}
use Rattle.module_rules.proofs.Types.{Settings, Engine, Answer, Shift, Free, Loaded, Begun}
use Rattle.module_rules.specs.Settings.{depth_of, frame_host, silent, ssen_client}
use Rattle.module_rules.specs.Buffers.{waiting}
use Rattle.module_rules.specs.Loading.{is_begun, rested, sdo_at}
use Rattle.module_rules.specs.Select.{select_remembered, aborted, deselected, select_seen}
use Rattle.module_rules.specs.Edge.{begun, advanced_if_begun, awaits_pulse, under_way, pulsed, clocked, edged, levels, stepped}
use Rattle.module_rules.specs.Words.{unfinished}
use Rattle.module_rules.specs.Pulses.{started_by}
use Rattle.module_rules.specs.Invariant.{ShiftHolds}
use Rattle.module_rules.specs.Watch.{terms, way_of, Memory, Sight, may_begin, level_ops, edge_ops}
use Rattle.module_invariant.proofs.Parts.{EngineHolds}
use Rattle.module_invariant.proofs.Edge.{progress_edge, fresh_edge, remembered_holds, under_way_cases}
use Rattle.module_invariant.proofs.CallsWhen.{heard_edge}
use Rattle.module_invariant.proofs.Select.{seen_select}
use Rattle.module_invariant.proofs.Pulses.{starts_as}
use Rattle.module_order.proofs.Ports.{port_of, port_at, port_is, begun_port, Given, advanced_port, edge_shows}

-- A step by its words: its operations are legal, and they do to the port what the step does to the engine.
pub record Steps (s : Settings) (n : Engine) (os : List Op) (x : Engine) : Type 0 where
  pub ports : port_of s x ≡ played_all (terms s) os (port_of s n)
  pub legal : LegalAll (terms s) os (port_of s n)

module _ (s : Settings) (on : s.spien ≡ true) (n : Engine) (h : EngineHolds s n) (sck sdi : Bool)
    (d : deselected s n.pins.ss ≡ false) where
  -- What is under way at an edge can be given it.
  unbegun_given : (sh : Shift) → n.shift ≡ sh → is_begun sh ≡ false → Given s n sck sh
  unbegun_given Free e unbegun = e
  unbegun_given (Loaded word) e unbegun = e
  unbegun_given (Begun p) e unbegun = clash true refl unbegun

  pub under_way_given : sck ≡ not n.pins.sck → Given s n sck (under_way s sck n)
  under_way_given edge =
      under_way_cases s on sck n h d (Given s n sck) (λ sh e unbegun k idle. unbegun_given sh e unbegun)
      (λ filler word away top w. fresh_edge s sck n away top w)
      (λ p k. progress_edge s sck n p edge k)

  -- The watcher lets a word begin where the module does.
  module _ (x : Memory) (shown : Bool) (same : x.pulse ≡ n.pins.pulse)
      (seen : frame_host s ≡ true → shown ≡ (pulsed s sck (advanced_if_begun s sdi (under_way s sck n) (clocked sck n))).pins.pulse)
    where
      abbrev begin_ops : Bool → List Op
      begin_ops may = when may then begins ∷ [] else []

      -- Where nothing can begin it does not matter.
      still : (was : Shift) → ShiftHolds s n was → begun s n was ≡ was → (may awaits : Bool) →
          played_all (terms s) (begin_ops may) (port_at s n was) ≡ port_at s n (when awaits then was else begun s n was)
      still was k stays may awaits =
          if_keeps (λ (os : List Op). played_all (terms s) os (port_at s n was) ≡ port_at s n was) may _ _
          (λ e. begun_port s n h.buffers was k ∙ ap (port_at s n) stays)
          (λ e. refl)
          ∙ ap (port_at s n) (sym (if_keeps (λ (sh : Shift). sh ≡ was) awaits _ _ (λ e. refl) (λ e. stays)))

      moves : (was : Shift) → ShiftHolds s n was → (may awaits : Bool) → may ≡ not awaits →
          played_all (terms s) (begin_ops may) (port_at s n was) ≡ port_at s n (when awaits then was else begun s n was)
      unfolding when◌then◌else◌
      moves was k may true e = ap (λ (b : Bool). played_all (terms s) (begin_ops b) (port_at s n was)) e
      moves was k may false e =
          ap (λ (b : Bool). played_all (terms s) (begin_ops b) (port_at s n was)) e ∙ begun_port s n h.buffers was k

      away-begins : (was : Shift) → n.shift ≡ was → ShiftHolds s n was → Bool·beq sck s.con1.ckp ≡ false →
          played_all (terms s) (begin_ops (started_by s x.pulse shown)) (port_at s n was)
          ≡ port_at s n (when awaits_pulse s n then was else begun s n was)
      unfolding begun
      away-begins Free e k away =
          by_test (silent s)
          (λ quiet. still Free k (if_true (silent s) _ _ quiet) _ _)
          (λ fills. moves Free k _ _ (starts_as s sck sdi n x.pulse shown same seen away Free e refl (λ f. fills)))
      away-begins (Loaded word) e k away =
          moves (Loaded word) k _ _ (starts_as s sck sdi n x.pulse shown same seen away (Loaded word) e refl (λ f. clash false f refl))
      away-begins (Begun p) e k away = still (Begun p) k refl _ _

      pub begin_port : played_all (terms s) (begin_ops (may_begin s x shown sck)) (port_of s n) ≡ port_at s n (under_way s sck n)
      unfolding under_way
      begin_port =
          by_test (Bool·beq sck s.con1.ckp)
          (λ i.
          ap (λ (b : Bool). played_all (terms s) (begin_ops (not b && started_by s x.pulse shown)) (port_of s n)) i
          ∙ ap (λ (os : List Op). played_all (terms s) os (port_of s n)) (if_false false (begins ∷ []) [] refl)
          ∙ ap (port_at s n) (sym (if_true (Bool·beq sck s.con1.ckp) _ _ i)))
          (λ away.
          ap (λ (b : Bool). played_all (terms s) (begin_ops (not b && started_by s x.pulse shown)) (port_of s n)) away
          ∙ away-begins n.shift refl h.shift away
          ∙ ap (port_at s n) (sym (if_false (Bool·beq sck s.con1.ckp) _ _ away)))

      begin-legal : LegalAll (terms s) (begin_ops (may_begin s x shown sck)) (port_of s n)
      begin-legal = if_keeps (λ (os : List Op). LegalAll (terms s) os (port_of s n)) (may_begin s x shown sck) _ _ (λ e. (tt, tt)) (λ e. tt)

      abbrev heard : List Op
      heard = begin_ops (may_begin s x shown sck) ++ (clocks n.pins.sdo sdi ∷ [])

      -- An edge that is heard.
      pub edge_steps : sck ≡ not n.pins.sck → Steps s n heard (edged s sck sdi n)
      unfolding edged pulsed
      edge_steps edge =
          let way : Shift = under_way s sck n in
          let given : Given s n sck way = under_way_given edge in
          record {
            ports =
                ap (port_of s) (if_false (deselected s n.pins.ss) _ _ d)
                ∙ advanced_port s n h.buffers sck sdi way given
                ∙ ap (played (terms s) (clocks n.pins.sdo sdi)) (sym begin_port)
                ∙ sym (played_append (terms s) (begin_ops (may_begin s x shown sck)) (clocks n.pins.sdo sdi ∷ []) (port_of s n));
            legal =
                legal_append (terms s) (begin_ops (may_begin s x shown sck)) (clocks n.pins.sdo sdi ∷ []) (port_of s n) begin-legal
                (subst (LegalAll (terms s) (clocks n.pins.sdo sdi ∷ [])) (sym begin_port)
                (edge_shows s n h.buffers sck sdi way given, tt));
          }

      -- What is counted of it is what the word under way does.
      pub edge_counts : (f : Op → Port → Bool) → ((p : Port) → f begins p ≡ false) →
          counted_in f (terms s) heard (port_of s n) ≡ bool_byte (f (clocks n.pins.sdo sdi) (port_at s n (under_way s sck n)))
      edge_counts f never =
          let ops : List Op = begin_ops (may_begin s x shown sck) in
          let clock : List Op = clocks n.pins.sdo sdi ∷ [] in
          let none : counted_in f (terms s) ops (port_of s n) ≡ 0 =
          if_keeps (λ (os : List Op). counted_in f (terms s) os (port_of s n) ≡ 0) (may_begin s x shown sck) _ _
          (λ e. ap (λ (b : Bool). bool_byte b + 0) (never (port_of s n)))
          (λ e. refl) in
          let one : counted_in f (terms s) clock (played_all (terms s) ops (port_of s n))
          ≡ bool_byte (f (clocks n.pins.sdo sdi) (port_at s n (under_way s sck n))) + 0 =
          ap (λ (p : Port). counted_in f (terms s) clock p) begin_port in
          counted_append f (terms s) ops clock (port_of s n) ∙ ap₂ (λ (a b : ℕ). a + b) none one ∙ omega arith

-- Select.
client_unfinished : (s : Settings) → ssen_client s ≡ true → (sh : Shift) → is_begun sh ≡ true → unfinished s sh ≡ []
client_unfinished s c Free b = refl
client_unfinished s c (Loaded word) b = clash false b refl
client_unfinished s c (Begun p) b = if_true (p.filler || ssen_client s) _ _ (ap (λ (x : Bool). p.filler || x) c ∙ or-true p.filler)

unbegun_way : (sh : Shift) → is_begun sh ≡ false → way_of sh ≡ idle
unbegun_way Free b = refl
unbegun_way (Loaded word) b = refl
unbegun_way (Begun p) b = clash true refl b

module _ (s : Settings) (ss : Bool) (n : Engine) where
  -- High aborts the begun word of an SSEN client, which is still owed.
  select_high : deselected s ss ≡ true → port_of s (select_seen s ss n) ≡ played (terms s) forgets (port_of s n)
  unfolding select_seen aborted rested sdo_at select_remembered
  select_high d =
      if_keeps (λ (x : Engine). port_of s x ≡ played (terms s) forgets (port_of s n)) (deselected s ss && is_begun n.shift) _ _
      (λ e.
      port_is
      (ap (λ (q : List ℕ). q ++ waiting (depth_of s) n.transmit)
      (sym (client_unfinished s (and_left (ssen_client s) ss d) n.shift (and_right (deselected s ss) _ e))))
      refl refl refl)
      (λ e. port_is refl (unbegun_way n.shift (and_rest (deselected s ss) _ e d)) refl refl)

  -- Else it changes nothing but the level that is remembered.
  pub select_low : deselected s ss ≡ false → select_seen s ss n ≡ select_remembered ss n
  unfolding select_seen
  select_low d = if_false (deselected s ss && is_begun n.shift) _ _ (ap (λ (b : Bool). b && is_begun n.shift) d)

-- What is seen of such a call.
abbrev pub sight_at : Settings → Engine → Answer → Bool → Sight
sight_at s n a shown = record { settings = s; sdo = n.pins.sdo; answer = a; shown = shown }

-- Levels that are seen, by what comes of them: select is high for an SSEN client, which is deaf to an edge; they make no
-- edge; or they make one that is heard.
pub level_cases : (s : Settings) (a : Answer) (shown : Bool) (x : Memory) (sck sdi ss : Bool) (n : Engine) →
    x.sck ≡ n.pins.sck →
    (Q : List Op → Engine → Type 0) → (deselected s ss ≡ true → Q (forgets ∷ []) (select_seen s ss n)) →
    (deselected s ss ≡ true → Q (forgets ∷ []) (clocked sck (select_seen s ss n))) →
    (deselected s ss ≡ false → Q [] (select_remembered ss n)) →
    (deselected s ss ≡ false → Bool·beq sck n.pins.sck ≡ false →
    Q (edge_ops (sight_at s n a shown) x sck sdi) (edged s sck sdi (select_remembered ss n))) →
    Q (level_ops (sight_at s n a shown) x sck sdi ss) (stepped s (levels sck sdi ss) n)
unfolding stepped edged
level_cases s a shown x sck sdi ss n clock Q high deaf still edge =
    let chosen : Engine = select_seen s ss n in
    if_keeps (λ (os : List Op). Q os (stepped s (levels sck sdi ss) n)) (deselected s ss) _ _
    (λ d.
    if_keeps (Q (forgets ∷ [])) (Bool·beq sck n.pins.sck) chosen (edged s sck sdi chosen) (λ e. high d)
    (λ e.
    subst (Q (forgets ∷ []))
    (sym (if_true (deselected s chosen.pins.ss) _ _ (ap (deselected s) (seen_select s ss n) ∙ d))) (deaf d)))
    (λ d.
    if_both (λ (y : Engine) (os : List Op). Q os y) (Bool·beq sck n.pins.sck) (Bool·beq sck x.sck) chosen
    (edged s sck sdi chosen) [] (edge_ops (sight_at s n a shown) x sck sdi)
    (ap (Bool·beq sck) clock)
    (λ e. subst (Q []) (sym (select_low s ss n d)) (still d))
    (λ e. subst (λ (y : Engine). Q (edge_ops (sight_at s n a shown) x sck sdi) (edged s sck sdi y)) (sym (select_low s ss n d))
    (edge d e)))

-- The levels are seen.
pub level_steps : (s : Settings) → s.spien ≡ true → (a : Answer) (shown : Bool) (x : Memory) (sck sdi ss : Bool) (n : Engine) →
    EngineHolds s n → x.sck ≡ n.pins.sck → x.pulse ≡ n.pins.pulse →
    (frame_host s ≡ true → shown ≡ (stepped s (levels sck sdi ss) n).pins.pulse) →
    Steps s n (level_ops (sight_at s n a shown) x sck sdi ss) (stepped s (levels sck sdi ss) n)
unfolding select_remembered clocked
level_steps s on a shown x sck sdi ss n h clock stood seen =
    level_cases s a shown x sck sdi ss n clock (Steps s n)
    (λ d. record { ports = select_high s ss n d; legal = (tt, tt) })
    (λ d. record { ports = select_high s ss n d; legal = (tt, tt) })
    (λ d. record { ports = refl; legal = tt })
    (λ d e.
    let r =
    edge_steps s on (select_remembered ss n) (remembered_holds s ss n h (and_first (deselected s ss) _ d)) sck sdi d x shown stood
    (λ host. seen host ∙ ap (λ (y : Engine). y.pins.pulse) (heard_edge s n sck sdi ss d e))
    (unlike sck n.pins.sck e) in
    record { ports = r.ports; legal = r.legal })
