-- One turn at both ends, with a word under way at each: it is an edge of that word at which SDI is the bit that is carried.
--     InStep        both ends as far in their words as each other, with words that carry what each hears
--     turned_both   a turn of them
--     step_on       short of a word's last edge they stay so
-- Assumes nothing.
use Rattle.std.specs.Prelude.{◌+◌, ◌*◌, ◌-◌, ◌<◌, ◌&&◌, ◌≡◌}
use Rattle.laws.proofs.Common.{ℕ, suc, Bool, true, false, not, Bool·beq, refl, sym, ap, ap₂}
use Rattle.laws.proofs.Common.{◌∙◌, arith, ltb, when◌then◌else◌, if_keeps, if_false, by_test, and_first, and-false}
use Rattle.word_order.specs.Bits.{bit_of}
use Rattle.module_rules.proofs.Types.{Settings, Engine, Pins, Module, Outcome, Progress, Shift, Begun, Edge, Tick}
use Rattle.module_rules.specs.Changes.{with_ss}
use Rattle.module_rules.specs.Settings.{cke_of, clock_stops, ssen_client}
use Rattle.module_rules.specs.Registers.{is_free}
use Rattle.module_rules.specs.Bits.{samples, received_after, progressed}
use Rattle.module_rules.specs.Select.{deselected, select_remembered}
use Rattle.module_rules.specs.Edge.{word_edges, begun, awaits_pulse, under_way, shifted, advanced, advanced_if_begun, clocked, levels, stepped}
use Rattle.module_rules.specs.Calls.{answering, sck_of, sdo_of, perform_of}
use Rattle.module_invariant.proofs.CallsWhen.{own_not_client, tick_is, pin_is, told_elsewhere, unframed_told}
use Rattle.module_invariant.proofs.FinishWords.{delivered_elsewhere, finished_spares}
use Rattle.word_rules.specs.Word.{bits_sampled, bits_left, sdi_at}
use Rattle.word_rules.proofs.WordMade.{at, turned_to, seen_edge}
use Rattle.link_rules.specs.Link.{level_read, made_edge, host_ticked, client_sees, one_more, client_turn, handed_over, host_turn}
use Rattle.link_page.proofs.LinkLevels.{level_read_lem, sampling_leaves}
use Rattle.link_words.specs.LinkWords.{Matched}
use Rattle.link_words.proofs.Heard.{Carries, carries_on}

-- An edge leaves SCK where the clock took it.
advanced_clock : (s : Settings) (sdi : Bool) (p : Progress) (n : Engine) → (advanced s sdi p n).pins.sck ≡ n.pins.sck
unfolding advanced shifted
advanced_clock s sdi p n =
    if_keeps (λ (x : Engine). x.pins.sck ≡ n.pins.sck) (ltb (p.edges + 1) (word_edges s)) _ _ (λ _. refl)
    (λ _. (finished_spares s p.filler _ n).sck ∙ ap (λ (x : Pins). x.sck) (delivered_elsewhere s n _).1)

-- SDI counts at an edge that samples, and at no other.
received_by : (s : Settings) (edge received : ℕ) (a b : Bool) → (samples (cke_of s) edge ≡ true → a ≡ b) →
    received_after s edge a received ≡ received_after s edge b received
unfolding received_after
received_by s edge received a b same =
    by_test (samples (cke_of s) edge) (λ e. ap (λ (x : Bool). received_after s edge x received) (same e))
    (λ e. if_false (samples (cke_of s) edge) _ _ e ∙ sym (if_false (samples (cke_of s) edge) _ _ e))

advanced_by : (s : Settings) (a b : Bool) (p : Progress) (n : Engine) → (samples (cke_of s) (p.edges + 1) ≡ true → a ≡ b) →
    advanced s a p n ≡ advanced s b p n
unfolding advanced shifted progressed
advanced_by s a b p n same = rw (received_by s (p.edges + 1) p.received a b same)

-- A word that is begun is under way at the next edge.
begun_under : (s : Settings) (n : Engine) (p : Progress) (sck : Bool) → n.shift ≡ Begun p → under_way s sck n ≡ Begun p
unfolding under_way begun
begun_under s n p sck e =
    if_keeps (λ (x : Shift). x ≡ Begun p) (Bool·beq sck s.con1.ckp) _ _ (λ _. e)
    (λ _. if_keeps (λ (x : Shift). x ≡ Begun p) (awaits_pulse s n) _ _ (λ _. e) (λ _. ap (begun s n) e))

module _ (s u : Settings) (pair : Matched s u) (to_host to_client : ℕ) where
  pub record InStep (n m : Engine) (p q : Progress) : Type 0 where
    pub busy : is_free n.shift ≡ false
    pub host_under : under_way s (not n.pins.sck) n ≡ Begun p
    pub client_under : under_way u (not m.pins.sck) m ≡ Begun q
    pub edges : q.edges ≡ p.edges
    pub clock : m.pins.sck ≡ n.pins.sck
    pub low : m.pins.ss ≡ false
    pub host_hears : Carries u q.word q.edges m.pins.sdo to_host
    pub client_hears : Carries s p.word p.edges n.pins.sdo to_client

  as_long : word_edges u ≡ word_edges s
  as_long = ap (λ (w : ℕ). 2 * w) (sym pair.width)

  bits-same : (k : ℕ) → bits_left s k ≡ bits_left u k
  unfolding bits_left
  bits-same k = ap₂ (λ (w : ℕ) (c : Bool). w - bits_sampled c k) pair.width pair.cke

  near : (n : Engine) → deselected s n.pins.ss ≡ false
  near n = and_first _ _ (own_not_client s pair.own)

  -- The host's tick is an edge.
  ticks : (n : Engine) (p : Progress) (sdi : Bool) → is_free n.shift ≡ false → under_way s (not n.pins.sck) n ≡ Begun p →
      perform_of (at s n) (Tick sdi false) ≡ record { answer = Edge; after = at s (advanced s sdi p (clocked (not n.pins.sck) n)) }
  unfolding answering select_remembered advanced_if_begun
  ticks n p sdi busy under =
      tick_is (at s n) sdi false pair.host_on pair.own (and-false (clock_stops s) _ busy)
      ∙ ap (λ (x : Engine). record { answer = Edge; after = at s x })
      (ap (λ (b : Bool). stepped s (levels (not n.pins.sck) sdi b) n) (told_elsewhere (at s n) false (unframed_told s pair.unframed))
      ∙ seen_edge s pair.host_on pair.unframed n.pins.ss (near n) n sdi n.pins.ss (near n)
      ∙ ap (λ (x : Shift). advanced_if_begun s sdi x (clocked (not n.pins.sck) n)) under)

  -- The client's look at the host's new levels is one too.
  sees : (host : Module) (m : Engine) (q : Progress) → sck_of host ≡ not m.pins.sck → m.pins.ss ≡ false →
      under_way u (not m.pins.sck) m ≡ Begun q →
      client_sees host (at u m) ≡ at u (advanced u (level_read (sdo_of host)) q (clocked (not m.pins.sck) m))
  unfolding client_sees perform_of answering select_remembered advanced_if_begun
  sees host m q other low under =
      let level = level_read (sdo_of host) in
      let far = and-false (ssen_client u) false refl in
      ap (λ (o : Outcome). o.after)
      (pin_is (at u m) (sck_of host) level false pair.client_on (ap (λ (b : Bool). b && not u.con1.dissck) pair.is_client))
      ∙ ap (at u)
      (ap (λ (b : Bool). stepped u (levels b level false) m) other
      ∙ seen_edge u pair.client_on pair.client_unframed false far m level false far
      ∙ ap (λ (b : Bool). turned_to u level (with_ss b m)) (sym low)
      ∙ ap (λ (x : Shift). advanced_if_begun u level x (clocked (not m.pins.sck) m)) under)

  module _ (n m : Engine) (p q : Progress) (steps : InStep n m p q) (short : p.edges < word_edges s) where
    abbrev host_on : Bool → Engine
    host_on sdi = advanced s sdi p (clocked (not n.pins.sck) n)

    abbrev client_on : Bool → Engine
    client_on sdi = advanced u sdi q (clocked (not m.pins.sck) m)

    -- What the host samples is carried to it.
    to-host : samples (cke_of s) (p.edges + 1) ≡ true → level_read (sdo_of (at u m)) ≡ sdi_at s p.edges to_host
    unfolding sdi_at
    to-host e =
        let there : samples (cke_of u) (q.edges + 1) ≡ true = cc (pair.cke, steps.edges) in
        cc (
          level_read_lem (at u m) pair.client_on (and-false (ssen_client u) _ steps.low),
          steps.host_hears.next there,
          bits-same q.edges,
          steps.edges,
        )

    -- So is what the client samples: the host's edge, if it samples, leaves SDO.
    to-client : (sdi : Bool) → samples (cke_of u) (q.edges + 1) ≡ true → level_read (sdo_of (at s (host_on sdi))) ≡ sdi_at u q.edges to_client
    unfolding sdi_at clocked
    to-client sdi e =
        let here : samples (cke_of s) (p.edges + 1) ≡ true = ap₂ (λ (c : Bool) (k : ℕ). samples c (k + 1)) pair.cke (sym steps.edges) ∙ e in
        sym (level_read_lem (at s (host_on sdi)) pair.host_on (near (host_on sdi)))
        ∙ ap (λ (b : Bool). not s.con1.dissdo && b) (sampling_leaves s sdi p (clocked (not n.pins.sck) n) short here)
        ∙ sym (steps.client_hears.next here)
        ∙ ap (λ (k : ℕ). bit_of to_client (k - 1)) (bits-same p.edges ∙ ap (bits_left u) (sym steps.edges))

    pub turned_both : (left : ℕ) →
        host_turn (suc left) (at s n) (at u m)
        ≡ one_more (host_turn left (at s (host_on (sdi_at s p.edges to_host))) (at u (client_on (sdi_at u q.edges to_client))))
    unfolding host_turn host_ticked perform_of handed_over made_edge when◌then◌else◌ client_turn sck_of clocked
    turned_both left =
        let sdi = level_read (sdo_of (at u m)) in
        let clock : sck_of (at s (host_on sdi)) ≡ not m.pins.sck =
        advanced_clock s sdi p (clocked (not n.pins.sck) n) ∙ ap not (sym steps.clock) in
        ap (λ (o : Outcome). handed_over (host_turn left) o (at u m)) (ticks n p sdi steps.busy steps.host_under)
        ∙ ap one_more
        (ap (host_turn left (at s (host_on sdi)))
        (sees (at s (host_on sdi)) m q clock steps.low steps.client_under ∙ ap (at u) (advanced_by u _ _ q _ (to-client sdi)))
        ∙ ap (λ (x : Engine). host_turn left (at s x) (at u (client_on (sdi_at u q.edges to_client)))) (advanced_by s _ _ p _ to-host))

    -- Short of the last edge both stay in step.
    pub step_on : (a b : Bool) → p.edges + 1 < word_edges s →
        InStep (shifted s a p (clocked (not n.pins.sck) n)) (shifted u b q (clocked (not m.pins.sck) m)) (progressed s a p) (progressed u b q)
    unfolding shifted progressed clocked
    step_on a b h =
        record {
          busy = refl;
          host_under = begun_under s _ (progressed s a p) _ refl;
          client_under = begun_under u _ (progressed u b q) _ refl;
          edges = ap (λ (k : ℕ). k + 1) steps.edges;
          clock = ap not steps.clock;
          low = steps.low;
          host_hears = carries_on u q.word q.edges m.pins.sdo to_host (omega (arith, h, as_long, steps.edges)) steps.host_hears;
          client_hears = carries_on s p.word p.edges n.pins.sdo to_client h steps.client_hears;
        }
