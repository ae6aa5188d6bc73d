-- What a word call comes to, of any module: all edges of its word in closed form, or one step.
--     begins, active_under   a word begins or goes on, and is under way at the next edge if that is no idle one
--     idle_edge, same_word   an edge to the idle level with nothing begun
--     Started      what is known of a module with a word: it is enabled, unframed and selected, and its next edge but for an idle one is its word's
--     started      so is every module with a word
--     whole_word_lem   its word call in closed form
--     single_step  that of any other module
--     steps_leave  it leaves what its clock steps leave
-- Assumes nothing.
use Rattle.std.specs.Prelude.{◌+◌, ◌-◌, ◌<◌, ◌&&◌, ◌||◌, ◌≡◌}
use Rattle.laws.proofs.Common.{ℕ, suc, Bool, true, false, not, Bool·beq, List, refl, sym, ap}
use Rattle.laws.proofs.Common.{◌∙◌, subst, subst₂, arith, ltb-true, not-true, not-false, when◌then◌else◌, if_keeps, if_both}
use Rattle.laws.proofs.Common.{if_true, if_false, by_test, clash, and_left, and_right, and_first, and-false, or_left}
use Rattle.laws.proofs.Common.{or_right, like}
use Rattle.module_rules.proofs.Types.{Settings, Engine, Module, Progress, Shift, Free, Loaded, Begun, Done, Call, ClockStep}
use Rattle.module_rules.specs.Changes.{with_ss}
use Rattle.module_rules.specs.Settings.{framed, silent, own_clock, ssen_client}
use Rattle.module_rules.specs.Registers.{is_free}
use Rattle.module_rules.specs.Loading.{is_begun}
use Rattle.module_rules.specs.Buffers.{empty}
use Rattle.module_rules.specs.Select.{deselected}
use Rattle.module_rules.specs.Edge.{word_edges, begun, awaits_pulse, under_way, advanced_if_begun, clocked}
use Rattle.module_rules.specs.Calls.{perform_of, after_calls}
use Rattle.module_rules.proofs.LivesReach.{reaches_append}
use Rattle.module_invariant.proofs.CallsWhen.{unframed_begins, not_unlike}
use Rattle.word_rules.specs.declared.Worded.{Worded}
use Rattle.word_rules.specs.Word.{in_progress, current, resting, has_word, idle_first, bits_left, sdi_at, edges_from, levels_by, idled, edges_of, levels_of, whole_word, one_step, word_of, steps_of, level_on}
use Rattle.word_rules.proofs.Closed.{word_made, all_levels, remembered, readied}
use Rattle.word_rules.proofs.WordMade.{at, turned_to, step_edge, Heard, step_under, edges_made_lem, edges_levels}

-- What begins at the next edge to the active level, whatever the pins are.
pub begun_pins : (s : Settings) (n : Engine) (sck ss : Bool) (x : Shift) → begun s (clocked sck (with_ss ss n)) x ≡ begun s n x
unfolding begun clocked
begun_pins s n sck ss Free = refl
begun_pins s n sck ss (Loaded word) = refl
begun_pins s n sck ss (Begun p) = refl

-- A module that does not rest has a word to begin, or one begun.
pub begins : (s : Settings) (n : Engine) (x : Shift) → (silent s && is_free x) ≡ false → begun s n x ≡ Begun (in_progress (begun s n x))
unfolding begun
begins s n Free loud =
    if_keeps (λ (y : Shift). y ≡ Begun (in_progress y)) (silent s) _ _ (λ e. clash (silent s && true) (ap (λ (b : Bool). b && true) e) loud)
    (λ e.
    if_keeps (λ (y : Shift). y ≡ Begun (in_progress y)) (ssen_client s && not (empty n.transmit.count)) _ _ (λ w. refl) (λ w. refl))
begins s n (Loaded word) loud = refl
begins s n (Begun p) loud = refl

goes_on : (s : Settings) (n : Engine) (x : Shift) → is_begun x ≡ true → x ≡ begun s n x
unfolding begun
goes_on s n Free e = clash false e refl
goes_on s n (Loaded word) e = clash false e refl
goes_on s n (Begun p) e = refl

-- An unframed module with no word under way that its own clock could move is silent.
pub own_silent : (s : Settings) (free : Bool) → framed s ≡ false → (silent s && free) ≡ false → (own_clock s && free) ≡ false
own_silent s free plain loud =
    by_test (own_clock s)
    (λ own.
    let host = and_left s.con1.msten _ own in
    let still : silent s ≡ true = if_false (framed s) _ _ plain ∙ host in
    ap (λ (b : Bool). b && free) own ∙ (sym (ap (λ (b : Bool). b && free) still) ∙ loud))
    (λ pin. and_first _ _ pin)

-- A module with a word.
pub record Started (m : Module) (ss : Bool) : Type 0 where
  pub on : m.settings.spien ≡ true
  pub plain : framed m.settings ≡ false
  pub chosen : deselected m.settings ss ≡ false
  pub loud : (silent m.settings && is_free m.engine.shift) ≡ false
  pub short : (current m.settings m.engine).edges < word_edges m.settings

pub started : (m : Module) (ss : Bool) → has_word m ss ≡ true → Started m ss
unfolding has_word resting
started m ss has =
    let s = m.settings in
    let up = and_left (s.spien && not (framed s)) _ has in
    let goes = and_right (s.spien && not (framed s)) _ has in
    let awake = not-true _ (and_left (not (deselected s ss || (silent s && is_free m.engine.shift))) _ goes) in
    record {
      on = and_left s.spien _ up;
      plain = not-true (framed s) (and_right s.spien _ up);
      chosen = or_left (deselected s ss) _ awake;
      loud = or_right (deselected s ss) _ awake;
      short = ltb-true _ _ (and_right (not (deselected s ss || (silent s && is_free m.engine.shift))) _ goes);
    }

-- The level that is remembered stays so.
pub remembered_once : (own a b : Bool) → (when own then (when own then a else b) else b) ≡ (when own then a else b)
unfolding when◌then◌else◌
remembered_once true a b = refl
remembered_once false a b = refl

-- An edge with no word under way only moves the clock.
pub unmoved : (s : Settings) (sdi : Bool) (x : Shift) (n : Engine) → is_begun x ≡ false → advanced_if_begun s sdi x n ≡ n
unfolding advanced_if_begun
unmoved s sdi Free n e = refl
unmoved s sdi (Loaded word) n e = refl
unmoved s sdi (Begun p) n e = clash true refl e

pub other_level : (a b : Bool) → Bool·beq a b ≡ false → Bool·beq (not a) b ≡ true
other_level true true e = clash true refl e
other_level true false e = refl
other_level false true e = refl
other_level false false e = clash true refl e

-- What the edges of a word come to: what they leave, and the levels of SDO where they sample.
abbrev EdgesCome : Settings → Bool → ℕ → Progress → Bool → Module → Engine → Type 0
EdgesCome s ss word p sck m r =
    (after_calls m (edges_from s ss sck p.edges (word_edges s - p.edges) word) ≡ at s (word_made s word p r))
    × (levels_by s ss sck p.edges (word_edges s - p.edges) word 0 m ≡ all_levels s p r.pins.sdo)

module _ (s : Settings) (p : Progress) (ss : Bool) (word : ℕ) (on : s.spien ≡ true) (plain : framed s ≡ false) (chosen : deselected s ss ≡ false)
    (short : p.edges < word_edges s) (small : p.received < 65536) where
  left : word_edges s - p.edges ≡ suc (word_edges s - p.edges - 1)
  left = omega arith

  -- Where the word goes on or begins: all its edges.
  come-here : (r : Engine) → Heard s on plain ss chosen word r → (own_clock s && is_free r.shift) ≡ false →
      under_way s (not r.pins.sck) r ≡ Begun p → EdgesCome s ss word p r.pins.sck (at s r) r
  come-here r heard moves under =
      let first = step_under s on plain ss chosen word r p (sdi_at s p.edges word) moves heard under in
      rw left (
        edges_made_lem s on plain ss chosen word (word_edges s - p.edges - 1) r p first heard (omega arith) small,
        edges_levels s on plain ss chosen word (word_edges s - p.edges - 1) r p first heard (omega arith),
      )

  -- The same from a module that has not yet been told the select level of these steps.
  come-told : (n : Engine) → (own_clock s && is_free n.shift) ≡ false →
      under_way s (not n.pins.sck) (remembered s ss n) ≡ Begun p →
      EdgesCome s ss word p n.pins.sck (at s n) (remembered s ss n)
  unfolding remembered
  come-told n moves under =
      let once = remembered_once (own_clock s) n.pins.ss ss in
      let c : Call = ClockStep (not n.pins.sck) (sdi_at s p.edges word) ss in
      let told-first : (perform_of (at s n) c).after ≡ (perform_of (at s (remembered s ss n)) c).after =
      step_edge s on plain ss chosen n _ moves
      ∙ sym
      (step_edge s on plain ss chosen (remembered s ss n) _ moves
      ∙ ap (λ (x : Bool). at s (turned_to s (sdi_at s p.edges word) (with_ss x n))) once) in
      rw left
      (subst
      (λ (x : Module).
      (after_calls x (edges_from s ss (not n.pins.sck) (p.edges + 1) (word_edges s - p.edges - 1) word)
      ≡ at s (word_made s word p (remembered s ss n)))
      × (levels_by s ss (not n.pins.sck) (p.edges + 1) (word_edges s - p.edges - 1) word (level_on s p.edges n.pins.sdo 0) x
      ≡ all_levels s p n.pins.sdo))
      (sym told-first)
      (rw left at (come-here (remembered s ss n) once moves under)))

-- At an edge that is no idle one first, the word is under way.
pub active_under : (s : Settings) (n : Engine) (p : Progress) → framed s ≡ false → begun s n n.shift ≡ Begun p → idle_first s n ≡ false →
    under_way s (not n.pins.sck) n ≡ Begun p
unfolding under_way idle_first
active_under s n p plain begins-as active =
    by_test (is_begun n.shift)
    (λ e.
    let stands = goes_on s n n.shift e ∙ begins-as in
    if_keeps (λ (x : Shift). x ≡ Begun p) (Bool·beq (not n.pins.sck) s.con1.ckp) _ _ (λ _. stands)
    (λ _. if_keeps (λ (x : Shift). x ≡ Begun p) (awaits_pulse s n) _ _ (λ _. stands) (λ _. begins-as)))
    (λ e.
    let idle : n.pins.sck ≡ s.con1.ckp =
    like _ _ (not-false (Bool·beq n.pins.sck s.con1.ckp) (sym (ap (λ (b : Bool). not b && not (Bool·beq n.pins.sck s.con1.ckp)) e) ∙ active)) in
    if_false (Bool·beq (not n.pins.sck) s.con1.ckp) _ _ (ap (Bool·beq (not n.pins.sck)) (sym idle) ∙ not_unlike n.pins.sck)
    ∙ if_false (awaits_pulse s n) _ _ (unframed_begins s n plain)
    ∙ begins-as)

-- An edge to the idle level with nothing begun only moves the clock, and the same word is to begin.
pub idle_edge : (s : Settings) (n : Engine) (ss : Bool) → s.spien ≡ true → framed s ≡ false → deselected s ss ≡ false →
    (silent s && is_free n.shift) ≡ false → is_begun n.shift ≡ false → Bool·beq (not n.pins.sck) s.con1.ckp ≡ true →
    (sdi : Bool) →
    (perform_of (at s n) (ClockStep (not n.pins.sck) sdi ss)).after ≡ at s (clocked (not n.pins.sck) (remembered s ss n))
unfolding remembered under_way
idle_edge s n ss on plain chosen loud unbegun idle sdi =
    let r : Engine = clocked (not n.pins.sck) (remembered s ss n) in
    step_edge s on plain ss chosen n sdi (own_silent s (is_free n.shift) plain loud)
    ∙ ap (λ (x : Shift). at s (advanced_if_begun s sdi x r)) (if_true (Bool·beq (not n.pins.sck) s.con1.ckp) _ _ idle)
    ∙ ap (at s) (unmoved s sdi n.shift r unbegun)

pub same_word : (s : Settings) (n : Engine) (sck ss : Bool) → current s (clocked sck (remembered s ss n)) ≡ current s n
unfolding current remembered clocked
same_word s n sck ss = ap in_progress (begun_pins s n sck _ n.shift)

module _ (s : Settings) (n : Engine) (ss : Bool) (word : ℕ) (start : Started (at s n) ss) (small : (current s n).received < 65536) where
  abbrev p : Progress
  p = current s n

  begins-as : begun s n n.shift ≡ Begun p
  unfolding current
  begins-as = begins s n n.shift start.loud

  moves : (own_clock s && is_free n.shift) ≡ false
  moves = own_silent s (is_free n.shift) start.plain start.loud

  -- What the edges of this word come to, made from a module on.
  abbrev Comes : Module → Engine → Type 0
  Comes m r = (after_calls m (edges_of m ss word) ≡ at s (word_made s word p r)) × (levels_of m ss word ≡ all_levels s p n.pins.sdo)

  -- Without an idle edge.
  module _ (active : idle_first s n ≡ false) where
    under : under_way s (not n.pins.sck) (remembered s ss n) ≡ Begun p
    unfolding remembered clocked idle_first
    under = active_under s (remembered s ss n) p start.plain (begun_pins s n n.pins.sck _ n.shift ∙ begins-as) active

    active-come : Comes (at s n) (remembered s ss n)
    unfolding remembered
    active-come = come-told s p ss word start.on start.plain start.chosen start.short small n moves under

  -- With one.
  module _ (first : idle_first s n ≡ true) where
    abbrev r : Engine
    r = clocked (not n.pins.sck) (remembered s ss n)

    unbegun : is_begun n.shift ≡ false
    unfolding idle_first
    unbegun = not-true (is_begun n.shift) (and_left (not (is_begun n.shift)) _ first)

    idle-level : Bool·beq (not n.pins.sck) s.con1.ckp ≡ true
    unfolding idle_first
    idle-level = other_level n.pins.sck s.con1.ckp (not-true _ (and_right (not (is_begun n.shift)) _ first))

    heard-there : Heard s start.on start.plain ss start.chosen word r
    unfolding remembered clocked
    heard-there = remembered_once (own_clock s) n.pins.ss ss

    under-there : under_way s (not r.pins.sck) r ≡ Begun p
    unfolding remembered clocked idle_first
    under-there =
        active_under s r p start.plain (begun_pins s n (not n.pins.sck) _ n.shift ∙ begins-as)
        (and-false (not (is_begun n.shift)) _ (ap not idle-level))

    moves-there : (own_clock s && is_free r.shift) ≡ false
    unfolding remembered clocked
    moves-there = moves

    idle-come : Comes (at s r) r
    unfolding remembered clocked
    idle-come =
        rw (same_word s n (not n.pins.sck) ss)
        (come-here s p ss word start.on start.plain start.chosen
        start.short small r heard-there moves-there under-there)

  -- Both.
  pub all_come : Comes (after_calls (at s n) (idled (at s n) ss word)) (readied s ss n)
  unfolding readied
  all_come =
      by_test (idle_first s n)
      (λ e.
      subst₂ Comes (sym (ap (after_calls (at s n)) (if_true (idle_first s n) _ _ e)
      ∙ idle_edge s n ss start.on start.plain start.chosen start.loud (unbegun e) (idle-level e) _))
      (sym (if_true (idle_first s n) _ _ e)) (idle-come e))
      (λ e. subst₂ Comes (sym (ap (after_calls (at s n)) (if_false (idle_first s n) _ _ e))) (sym (if_false (idle_first s n) _ _ e))
      (active-come e))

-- The word call of a module with a word, in closed form.
abbrev pub closed_word : Module → Bool → ℕ → Worded
closed_word m ss word =
    record {
      answer = Done;
      count = bits_left m.settings (current m.settings m.engine).edges;
      levels = all_levels m.settings (current m.settings m.engine) m.engine.pins.sdo;
      after = at m.settings (word_made m.settings word (current m.settings m.engine) (readied m.settings ss m.engine));
    }

pub whole_word_lem : (m : Module) (ss : Bool) (word : ℕ) → has_word m ss ≡ true → (current m.settings m.engine).received < 65536 →
    word_of m ss word ≡ closed_word m ss word
unfolding word_of whole_word
whole_word_lem m ss word has small =
    let start = started m ss has in
    let come = all_come m.settings m.engine ss word start small in
    if_true (has_word m ss) _ _ has
    ∙ cc (come.0, come.1)

-- That of any other module is one step.
pub single_step : (m : Module) (ss : Bool) (word : ℕ) → has_word m ss ≡ false → word_of m ss word ≡ one_step m ss word
unfolding word_of
single_step m ss word none = if_false (has_word m ss) _ _ none

-- Either is its list of clock steps.
pub steps_leave : (m : Module) (ss : Bool) (word : ℕ) → (word_of m ss word).after ≡ after_calls m (steps_of m ss word)
unfolding word_of whole_word one_step steps_of
steps_leave m ss word =
    if_both (λ (r : Worded) (cs : List Call). r.after ≡ after_calls m cs) (has_word m ss) (has_word m ss) _ _ _ _ refl
    (λ has. sym (reaches_append (idled m ss word) _ m)) (λ none. refl)
