-- What an unframed host with its own clock owes, and what an edge does to it: 2w edges for each unfinished word, less those given to
-- the current one.
--     owed_is                             what a module owes, by the number of words that its transmit buffer counts
--     begun-owes, loaded-owes, free-owes  what is owed with a word begun, loaded, or none
--     finish-owes                         after a finish 2w edges are owed for each word that waited
--     edge_owes                           an edge lowers what is owed by one
--     busy_owes, idle_owes                nothing is owed exactly when the shift register is free
--     stat_owes                           a STAT write that leaves SPIEN does not change what is owed
-- Assumes nothing.
use Rattle.std.specs.Prelude.{◌+◌, ◌*◌, ◌-◌, ◌<◌, ◌≤◌, ◌&&◌, ◌||◌, ◌∷◌, ◌≡◌}
use Rattle.laws.proofs.Common.{ℕ, suc, Bool, true, false, not, Bool·beq, List, []}
use Rattle.laws.proofs.Common.{refl, sym, ap, ◌∙◌, sub-zero, arith, ltb-true, ltb-false, eqb-true, eqb-false, not-true}
use Rattle.laws.proofs.Common.{not-false, ltb, length, if_keeps, if_false, clash, and_left}
use native.Mathlib.Nat.{mul-zero, mul-suc}
use Rattle.module_rules.proofs.Types.{Settings, Engine, Transmit, Module, Progress, Shift, Free, Loaded, Begun}
use Rattle.module_rules.specs.Settings.{width_of, depth_of, ssen_client, own_clock, framed, silent, unframed_host}
use Rattle.module_rules.specs.Registers.{is_free, stat_settings, stat_engine}
use Rattle.module_rules.specs.Buffers.{empty, first_waiting, departed}
use Rattle.module_rules.specs.Interrupts.{noted}
use Rattle.module_rules.specs.Bits.{progressed}
use Rattle.module_rules.specs.Loading.{word_leaves, moved, can_load, loaded, rested, sdo_at}
use Rattle.module_rules.specs.Finish.{delivered, sent_dropped, freed, finished}
use Rattle.module_rules.specs.Edge.{fresh, begun, shifted, advanced, advanced_if_begun, under_way, clocked, levels, stepped, awaits_pulse, pulsed}
use Rattle.module_rules.specs.Invariant.{ShiftHolds}
use Rattle.module_rules.specs.Words.{waiting_in, left_buffer}
use Rattle.module_rules.proofs.Sizes.{width_least}
use Rattle.module_rules.proofs.BuffersOrder.{waiting_length}
use Rattle.module_invariant.proofs.CallsWhen.{own_not_client, not_unlike, own_edge_lem, host_unframed, unframed_begins}
use Rattle.module_invariant.proofs.FinishWords.{delivered_elsewhere}
use Rattle.module_order.proofs.Calls.{stat_unfinished}
use Rattle.module_edges_owed.proofs.Parts.{given_in, owing, owing_in, owed_in}

-- One word more owes 2w edges more.
one_more_lem : (e k : ℕ) → e * (1 + k) ≡ e * k + e
one_more_lem e k = let next : 1 + k ≡ suc k = omega arith in ap (λ (x : ℕ). e * x) next ∙ mul-suc e k

-- What a module owes, by the number of words that its transmit buffer counts.
pub owed_is : (m : Module) → owed_in m ≡ owing_in m.settings m.engine
owed_is m =
    ap (λ (k : ℕ). 2 * width_of m.settings * (length (left_buffer m) + k) - given_in m.engine.shift)
    (waiting_length (depth_of m.settings) m.engine.transmit)

-- A STAT write that leaves SPIEN does not change what is owed.
pub stat_owes : (v : ℕ) (m : Module) →
    owed_in (record { settings = stat_settings v m.settings; engine = stat_engine v m.engine }) ≡ owed_in m
unfolding stat_settings stat_engine
stat_owes v m =
    ap (λ (l : List ℕ). 2 * width_of m.settings * (length l + length (waiting_in m)) - given_in m.engine.shift)
    (stat_unfinished v m.settings m.engine.shift)

module _ (s : Settings) (own : unframed_host s ≡ true) where
  -- It has its own clock, is unframed, and sends no filler.
  clock : own_clock s ≡ true
  clock = and_left (own_clock s) _ own

  plain : framed s ≡ false
  plain = host_unframed s own

  quietly : silent s ≡ true
  quietly = if_false (framed s) _ _ plain ∙ and_left s.con1.msten _ clock

  -- A host owes 2w edges for a begun word and for each that waits, less those given.
  begun-owes : (p : Progress) (k : ℕ) → p.filler ≡ false → owing s (Begun p) k ≡ 2 * width_of s * k + 2 * width_of s - p.edges
  begun-owes p k host =
      let sent : (p.filler || ssen_client s) ≡ false = cc (own_not_client s clock) in
      ap (λ (l : List ℕ). 2 * width_of s * (length l + k) - p.edges) (if_false (p.filler || ssen_client s) [] (p.word ∷ []) sent)
      ∙ ap (λ (x : ℕ). x - p.edges) (one_more_lem (2 * width_of s) k)

  -- The same for a loaded word, to which no edge was given.
  loaded-owes : (word k : ℕ) → owing s (Loaded word) k ≡ 2 * width_of s * k + 2 * width_of s - 0
  loaded-owes word k = ap (λ (x : ℕ). x - 0) (one_more_lem (2 * width_of s) k)

  -- With the shift register free and nothing waiting nothing is owed.
  free-owes : owing s Free 0 ≡ 0
  free-owes = omega arith

  -- The finish of a host's word leaves its transmit buffer for the next word to load from.
  ended-transmit : (filler : Bool) (word : ℕ) (n : Engine) → (sent_dropped s filler (delivered s word n)).transmit ≡ n.transmit
  unfolding sent_dropped
  ended-transmit filler word n =
      ap (λ (x : Engine). x.transmit) (if_false (ssen_client s && not filler) _ _ (rw (own_not_client s clock)))
      ∙ (delivered_elsewhere s n word).0

  -- The transmit buffer that a word leaves counts one less.
  departed_count : (t : Transmit) → empty t.count ≡ false → (departed (depth_of s) t).count ≡ t.count - 1
  unfolding departed
  departed_count t some = ap (λ (u : Transmit). u.count) (if_false (empty t.count) _ _ some)

  -- A word loads into the free shift register of a host exactly if one waits.
  loads : (n : Engine) → n.shift ≡ Free → can_load s n ≡ not (empty n.transmit.count)
  unfolding can_load
  loads n free = rw (ap is_free free, own_not_client s clock)

  -- Once the next word has loaded into a free shift register, 2w edges are owed for each word that waited.
  loaded-owes-waiting : (n : Engine) → n.shift ≡ Free → owing_in s (loaded s n) ≡ 2 * width_of s * n.transmit.count
  unfolding loaded moved word_leaves noted
  loaded-owes-waiting n free =
      let count : ℕ = n.transmit.count in
      if_keeps (λ (x : Engine). owing_in s x ≡ 2 * width_of s * count) (can_load s n) _ _
      (λ e.
      let some : empty count ≡ false = not-true (empty count) (sym (loads n free) ∙ e) in
      let there : count ≡ 0 → ⊥ = eqb-false count 0 some in
      let all : suc (count - 1) ≡ count = omega arith in
      loaded-owes (first_waiting n.transmit) (departed (depth_of s) n.transmit).count
      ∙ ap (λ (k : ℕ). 2 * width_of s * k + 2 * width_of s - 0) (departed_count n.transmit some)
      ∙ sub-zero (2 * width_of s * (count - 1) + 2 * width_of s)
      ∙ sym (mul-suc (2 * width_of s) (count - 1))
      ∙ ap (λ (k : ℕ). 2 * width_of s * k) all)
      (λ e.
      let none : count ≡ 0 = eqb-true count 0 (not-false (empty count) (sym (loads n free) ∙ e)) in
      ap (λ (sh : Shift). owing s sh count) free
      ∙ ap (owing s Free) none
      ∙ free-owes
      ∙ sym (ap (λ (k : ℕ). 2 * width_of s * k) none ∙ mul-zero (2 * width_of s)))

  -- After a finish 2w edges are owed for each word that waited.
  finish-owes : (filler : Bool) (word : ℕ) (n : Engine) →
      owing_in s (finished s filler word n) ≡ 2 * width_of s * n.transmit.count
  unfolding finished rested sdo_at freed noted
  finish-owes filler word n =
      loaded-owes-waiting (freed s (sent_dropped s filler (delivered s word n))) refl
      ∙ ap (λ (t : Transmit). 2 * width_of s * t.count) (ended-transmit filler word n)

  -- An edge of a host's word lowers what is owed by one: it goes on, or it finishes and the next loads or none is left.
  advanced-owes : (sdi : Bool) (p : Progress) (n : Engine) → p.filler ≡ false → p.edges < 2 * width_of s →
      1 + owing_in s (advanced s sdi p n) ≡ 2 * width_of s * n.transmit.count + 2 * width_of s - p.edges
  unfolding advanced shifted progressed
  advanced-owes sdi p n host k =
      if_keeps
      (λ (x : Engine). 1 + owing_in s x ≡ 2 * width_of s * n.transmit.count + 2 * width_of s - p.edges)
      (ltb (p.edges + 1) (2 * width_of s)) _ _
      (λ e.
      let short : p.edges + 1 < 2 * width_of s = ltb-true (p.edges + 1) (2 * width_of s) e in
      ap (λ (k : ℕ). 1 + k) (begun-owes (progressed s sdi p) n.transmit.count host) ∙ lower _ _ _ short)
      (λ e.
      let last : 2 * width_of s ≤ p.edges + 1 = ltb-false (p.edges + 1) (2 * width_of s) e in
      ap (λ (k : ℕ). 1 + k) (finish-owes p.filler _ n) ∙ lowest _ _ _ k last)
    where
      -- One edge given within a word.
      lower : (x e g : ℕ) → g + 1 < e → 1 + (x + e - (g + 1)) ≡ x + e - g
      lower x e g h = omega arith

      -- The last edge of a word given.
      lowest : (x e g : ℕ) → g < e → e ≤ g + 1 → 1 + x ≡ x + e - g
      lowest x e g h l = omega arith

  -- An edge lowers by one what a host owes that has a word loaded or begun.
  pub edge_owes : (sdi : Bool) (n : Engine) (sh : Shift) → n.shift ≡ sh → ShiftHolds s n sh → is_free sh ≡ false →
      1 + owing_in s (stepped s (levels (not n.pins.sck) sdi n.pins.ss) n) ≡ owing s sh n.transmit.count
  unfolding advanced_if_begun under_way begun clocked pulsed
  edge_owes sdi n Free e h busy = clash true refl busy
  edge_owes sdi n (Loaded word) e h busy =
      let sck : Bool = not n.pins.sck in
      let away : Bool·beq sck s.con1.ckp ≡ false = ap (Bool·beq sck) (sym (h.2 own)) ∙ not_unlike n.pins.sck in
      ap (λ (x : Engine). 1 + owing_in s x) (own_edge_lem s n clock sdi)
      ∙ ap (λ (x : Shift). 1 + owing_in s (advanced_if_begun s sdi x (clocked sck n)))
      (if_false (Bool·beq sck s.con1.ckp) _ _ away
      ∙ if_false (awaits_pulse s n) _ _ (unframed_begins s n plain)
      ∙ ap (begun s n) e)
      ∙ advanced-owes sdi (fresh false word) (clocked sck n) refl (omega (arith, width_least s))
      ∙ sym (loaded-owes word n.transmit.count)
  edge_owes sdi n (Begun p) e h busy =
      let sck : Bool = not n.pins.sck in
      let host : p.filler ≡ false = h.host quietly in
      ap (λ (x : Engine). 1 + owing_in s x) (own_edge_lem s n clock sdi)
      ∙ ap (λ (x : Shift). 1 + owing_in s (advanced_if_begun s sdi x (clocked sck n)))
      (if_keeps (λ (x : Shift). x ≡ Begun p) (Bool·beq sck s.con1.ckp) _ _ (λ i. e)
      (λ a. if_keeps (λ (x : Shift). x ≡ Begun p) (awaits_pulse s n) _ _ (λ w. e) (λ w. ap (begun s n) e)))
      ∙ advanced-owes sdi p (clocked sck n) host h.short
      ∙ sym (begun-owes p n.transmit.count host)

  -- A host with a word loaded or begun owes an edge.
  pub busy_owes : (n : Engine) (sh : Shift) → ShiftHolds s n sh → (k : ℕ) → owing s sh k ≡ 0 → is_free sh ≡ true
  busy_owes n Free h k e = refl
  busy_owes n (Loaded word) h k e = absurd (omega (arith, width_least s, loaded-owes word k))
  busy_owes n (Begun p) h k e =
      let host : p.filler ≡ false = h.host quietly in
      absurd (omega (arith, h.short, begun-owes p k host))

  -- A host whose shift register is free owes none.
  pub idle_owes : (n : Engine) → n.shift ≡ Free → ShiftHolds s n Free → owing_in s n ≡ 0
  idle_owes n free h =
      ap (λ (sh : Shift). owing s sh n.transmit.count) free
      ∙ ap (owing s Free) (h.0 (own_not_client s clock))
      ∙ free-owes
