-- The flags after levels are seen.
--     edge_flags    an edge that is heard
--     level_flags   select, and then an edge or none
-- Assumes nothing.
use Rattle.std.specs.Prelude.{◌+◌, ◌&&◌, ◌∷◌, ◌++◌, ◌≡◌}
use Rattle.laws.proofs.Common.{Bool, true, false, not, List, [], refl, sym, ap, subst, ◌∙◌, ltb}
use Rattle.laws.proofs.Common.{when◌then◌else◌, if_keeps, if_true, if_false, by_test, unlike, and_first}
use mir.Val.{bool_byte}
use Rattle.word_order.specs.Ledger.{Op, begins, clocks, forgets}
use Rattle.word_order.specs.Port.{accepts_op, reads_op, finishes_op, loses_op, loses_at, ends_at}
use Rattle.module_rules.proofs.Types.{Settings, Engine, Progress, Answer, Shift, Free, Loaded, Begun}
use Rattle.module_rules.specs.Settings.{frame_host}
use Rattle.module_rules.specs.Loading.{is_begun, rested, sdo_at}
use Rattle.module_rules.specs.Select.{select_remembered, aborted, deselected, select_seen}
use Rattle.module_rules.specs.Edge.{word_edges, shifted, advanced, advanced_if_begun, under_way, pulsed, clocked, edged, levels, stepped}
use Rattle.module_rules.specs.Watch.{terms, way_of, Memory, may_begin, level_ops}
use Rattle.module_invariant.proofs.Parts.{EdgeHolds, EngineHolds}
use Rattle.module_invariant.proofs.Edge.{last_edge_lem, clocked_buffers, remembered_holds}
use Rattle.module_invariant.proofs.CallsWhen.{heard_edge}
use Rattle.module_invariant.proofs.Losses.{lost_same}
use Rattle.module_order.proofs.Ports.{port_at, Given, loses_same}
use Rattle.module_order.proofs.Edges.{sight_at, under_way_given, edge_counts, level_cases}
use Rattle.module_order.proofs.Dropped.{goes_on}
use Rattle.module_flags.proofs.Steps.{Raises, Stays, Idle, stays_raises, finish_flags}

module _ (s : Settings) (on : s.spien ≡ true) (n : Engine) (h : EngineHolds s n) (sck sdi : Bool)
    (d : deselected s n.pins.ss ≡ false) (x : Memory) (shown : Bool) (same : x.pulse ≡ n.pins.pulse)
    (seen : frame_host s ≡ true → shown ≡ (pulsed s sck (advanced_if_begun s sdi (under_way s sck n) (clocked sck n))).pins.pulse) where
  abbrev heard : List Op
  heard = (when may_begin s x shown sck then begins ∷ [] else []) ++ (clocks n.pins.sdo sdi ∷ [])

  abbrev clock : Op
  clock = clocks n.pins.sdo sdi

  -- Nothing is counted but what the word under way does.
  idle-heard : (sh : Shift) → under_way s sck n ≡ sh → ends_at (terms s) (way_of sh) ≡ false → Idle s n heard
  idle-heard sh is goes_on =
      let no : ends_at (terms s) (way_of (under_way s sck n)) ≡ false = ap (λ (z : Shift). ends_at (terms s) (way_of z)) is ∙ goes_on in
      record {
        accepts = edge_counts s on n h sck sdi d x shown same seen accepts_op (λ p. refl);
        reads = edge_counts s on n h sck sdi d x shown same seen reads_op (λ p. refl);
        finishes = edge_counts s on n h sck sdi d x shown same seen (finishes_op (terms s)) (λ p. refl) ∙ ap bool_byte no;
        losses =
            edge_counts s on n h sck sdi d x shown same seen (loses_op (terms s)) (λ p. refl)
            ∙ ap (λ (b : Bool). bool_byte (b && loses_at (terms s) (port_at s n (under_way s sck n)))) no;
      }

  abbrev end : Shift → Engine
  end sh = pulsed s sck (advanced_if_begun s sdi sh (clocked sck n))

  -- A word that goes on, and one that is finished.
  word_flags : (p : Progress) → under_way s sck n ≡ Begun p → EdgeHolds s (clocked sck n) p → Raises s n heard (end (Begun p))
  unfolding advanced_if_begun advanced pulsed clocked shifted
  word_flags p is given =
      by_test (ltb (p.edges + 1) (word_edges s))
      (λ more.
      subst (λ (y : Engine). Raises s n heard (pulsed s sck y)) (sym (if_true (ltb (p.edges + 1) (word_edges s)) _ _ more))
      (stays_raises s n heard _ (idle-heard (Begun p) is (ap not more))
      (record { unread = refl; waiting = refl; interrupt = refl; spirov = refl })))
      (λ last.
      let ended : ends_at (terms s) (way_of (under_way s sck n)) ≡ true =
      ap (λ (z : Shift). ends_at (terms s) (way_of z)) is ∙ ap not last in
      let k =
      finish_flags s on (clocked sck n) (clocked_buffers s sck n h.buffers) sdi p given
      (last_edge_lem s sdi p (clocked sck n) given last) heard
      (edge_counts s on n h sck sdi d x shown same seen accepts_op (λ p. refl))
      (edge_counts s on n h sck sdi d x shown same seen reads_op (λ p. refl))
      (edge_counts s on n h sck sdi d x shown same seen (finishes_op (terms s)) (λ p. refl) ∙ ap bool_byte ended)
      (edge_counts s on n h sck sdi d x shown same seen (loses_op (terms s)) (λ p. refl)
      ∙ ap (λ (b : Bool). bool_byte (b && loses_at (terms s) (port_at s n (under_way s sck n)))) ended
      ∙ ap bool_byte (loses_same s n (under_way s sck n) ∙ sym (lost_same s n (clocked sck n) refl))) in
      subst (λ (y : Engine). Raises s n heard (pulsed s sck y)) (sym (if_false (ltb (p.edges + 1) (word_edges s)) _ _ last))
      (record { flag = k.flag; spirov = k.spirov }))

  way-flags : (sh : Shift) → under_way s sck n ≡ sh → Given s n sck sh → Raises s n heard (end sh)
  unfolding advanced_if_begun pulsed clocked
  way-flags Free is given =
      stays_raises s n heard _ (idle-heard Free is refl) (record { unread = refl; waiting = refl; interrupt = refl; spirov = refl })
  way-flags (Loaded word) is given =
      stays_raises s n heard _ (idle-heard (Loaded word) is refl) (record { unread = refl; waiting = refl; interrupt = refl; spirov = refl })
  way-flags (Begun p) is given = word_flags p is given

  -- An edge that is heard.
  pub edge_flags : sck ≡ not n.pins.sck → Raises s n heard (edged s sck sdi n)
  unfolding edged
  edge_flags edge =
      subst (Raises s n heard) (sym (if_false (deselected s n.pins.ss) _ _ d))
      (way-flags (under_way s sck n) refl (under_way_given s on n h sck sdi d edge))

-- Select leaves the buffers and the flags, and so does an edge that is not heard.
select_stays : (s : Settings) (ss : Bool) (n : Engine) → Stays s n (select_seen s ss n)
unfolding select_seen aborted rested sdo_at select_remembered
select_stays s ss n =
    if_keeps (Stays s n) (deselected s ss && is_begun n.shift) _ _
    (λ e. record { unread = refl; waiting = refl; interrupt = refl; spirov = refl })
    (λ e. record { unread = refl; waiting = refl; interrupt = refl; spirov = refl })

-- Levels are seen.
pub level_flags : (s : Settings) → s.spien ≡ true → (a : Answer) (shown : Bool) (x : Memory) (sck sdi ss : Bool) (n : Engine) →
    EngineHolds s n → x.sck ≡ n.pins.sck → x.pulse ≡ n.pins.pulse →
    (frame_host s ≡ true → shown ≡ (stepped s (levels sck sdi ss) n).pins.pulse) →
    Raises s n (level_ops (sight_at s n a shown) x sck sdi ss) (stepped s (levels sck sdi ss) n)
unfolding select_remembered clocked
level_flags s on a shown x sck sdi ss n h clock stood seen =
    let k : Stays s n (select_seen s ss n) = select_stays s ss n in
    level_cases s a shown x sck sdi ss n clock (Raises s n)
    (λ d. stays_raises s n (forgets ∷ []) _ (record { accepts = refl; reads = refl; finishes = refl; losses = refl }) k)
    (λ d.
    stays_raises s n (forgets ∷ []) _ (record { accepts = refl; reads = refl; finishes = refl; losses = refl })
    (record { unread = k.unread; waiting = k.waiting; interrupt = k.interrupt; spirov = k.spirov }))
    (λ d.
    stays_raises s n [] _ (record { accepts = refl; reads = refl; finishes = refl; losses = refl })
    (record { unread = refl; waiting = refl; interrupt = refl; spirov = refl }))
    (λ d e.
    let r =
    edge_flags s on (select_remembered ss n) (remembered_holds s ss n h (and_first (deselected s ss) _ d)) sck sdi d x shown stood
    (λ host. seen host ∙ ap (λ (y : Engine). y.pins.pulse) (heard_edge s n sck sdi ss d e))
    (unlike sck n.pins.sck e) in
    record { flag = r.flag; spirov = r.spirov })
