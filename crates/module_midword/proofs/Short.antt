-- The short way: an edge within a word.
--     passed, made       an edge that is left to the whole call, and one that is made
--     untold             a call that is left to the whole one
--     goes, goes_later, goes_first
--                        a step by which a word goes on: alone, after another, and before another
--     mid_stays          a step that leaves the shift register leaves the next edge within its word
--     host_ends          an edge of a frame host at which it gives no pulse
--     own_shortly, pin_shortly
--                        what a clock step answers there, of a host with its own clock and of any other module
--     ticks_within, tick_shortly, pins_shortly
--                        what a tick and a pin call answer there
-- Assumes nothing.
use Rattle.std.specs.Prelude.{◌+◌, ◌<◌, ◌&&◌, ◌≡◌}
use Rattle.laws.proofs.Common.{ℕ, Bool, true, false, not, Bool·beq, List, refl, sym, ap, subst, ◌∙◌}
use Rattle.laws.proofs.Common.{arith, ne_eqb, not-true, when◌then◌else◌, if_keeps, if_false, and_left, and_right, and-false}
use Rattle.laws.proofs.Common.{and_first, clash, so_lt}
use Rattle.module_rules.proofs.Types.{Settings, Progress, Shift, Free, Loaded, Begun, Engine, Outcome, Answer, Done, Edge}
use Rattle.module_rules.specs.Changes.{with_pulse}
use Rattle.module_rules.specs.Settings.{framed, frame_host, frame_client, own_clock}
use Rattle.module_rules.specs.Registers.{is_free}
use Rattle.module_rules.specs.Loading.{is_begun}
use Rattle.module_rules.specs.Bits.{progressed}
use Rattle.module_rules.specs.Edge.{word_edges, shifted, advanced, pulse_due, active, pulse_after, clocked, levels, stepped}
use Rattle.module_rules.specs.Calls.{clock_step_of, tick_of, pins_of}
use Rattle.module_rules.proofs.ClockSteps.{tick_is_step, beside_pins}
use Rattle.module_memory.specs.Memory.{place_in, progress_at, settings_in, engine_in, module_in, went_on, Steps}
use Rattle.module_memory.proofs.Looks.{begun_there}
use Rattle.module_answers.specs.Answered.{Answers, edge_advanced, edge_counted, turned, Midword, GoesOn, Shortens, Shortly}
use Rattle.module_answers.proofs.Answers.{likewise, edge-told}
use Rattle.module_answers.proofs.Edges.{goes_on, on_begun, ends_framed}
use Rattle.module_answers.proofs.Turns.{own_answers, pin_answers, tick_answers}

pub passed : {f : Settings → Engine → Engine} {a : List ℕ} → Shortens f false a a
passed =
    record { plain = λ e. clash false e refl; begun = λ e. clash false e refl; steps = λ e. clash false e refl; goes = λ e. clash false e refl; left = λ _. refl }

pub made : {f : Settings → Engine → Engine} {a b : List ℕ} → framed (settings_in a) ≡ false → Midword a → Steps f a b →
    GoesOn a b → Shortens f true a b
made plain mid step goes =
    record { plain = λ _. plain; begun = λ _. mid.begun; steps = λ _. step; goes = λ _. goes; left = λ e. clash true refl e }

pub untold : {o : Outcome} {x : Answer} {a : List ℕ} → Shortly o x false a a
untold = record { taken = λ e. clash false e refl; goes = λ e. clash false e refl; left = λ _. refl }

pub goes : (edges received : ℕ) {f : Settings → Engine → Engine} {a b : List ℕ} → Steps f a b →
    (f (settings_in a) (engine_in a)).transmit ≡ (engine_in a).transmit →
    (f (settings_in a) (engine_in a)).shift ≡ went_on edges received (engine_in a).shift → GoesOn a b
goes edges received step t x =
    record {
      settings = step.settings;
      transmit = ap (λ (n : Engine). n.transmit) step.engine ∙ t;
      edges = edges;
      received = received;
      shift = ap (λ (n : Engine). n.shift) step.engine ∙ x;
    }

pub goes_later : {f : Settings → Engine → Engine} {a b c : List ℕ} → Steps f a b → (engine_in b).transmit ≡ (engine_in a).transmit →
    (engine_in b).shift ≡ (engine_in a).shift → GoesOn b c → GoesOn a c
goes_later step t x on =
    record {
      settings = on.settings ∙ step.settings;
      transmit = on.transmit ∙ t;
      edges = on.edges;
      received = on.received;
      shift = on.shift ∙ ap (went_on on.edges on.received) x;
    }

pub goes_first : {f : Settings → Engine → Engine} {a b c : List ℕ} → GoesOn a b → Steps f b c →
    (engine_in c).transmit ≡ (engine_in b).transmit → (engine_in c).shift ≡ (engine_in b).shift → GoesOn a c
goes_first on step t x =
    record {
      settings = step.settings ∙ on.settings;
      transmit = t ∙ on.transmit;
      edges = on.edges;
      received = on.received;
      shift = x ∙ on.shift;
    }

pub mid_stays : {f : Settings → Engine → Engine} {a b : List ℕ} → Steps f a b → (engine_in b).shift ≡ (engine_in a).shift →
    Midword a → Midword b
mid_stays {a = a} {b = b} step same mid =
    let begun : is_begun (engine_in b).shift ≡ true = ap is_begun same ∙ mid.begun in
    let words : Begun (progress_at (place_in b)) ≡ Begun (progress_at (place_in a)) =
    sym (begun_there b begun) ∙ same ∙ begun_there a mid.begun in
    let word : progress_at (place_in b) ≡ progress_at (place_in a) = cc in
    record {
      begun = begun;
      short = rw (ap (λ (p : Progress). p.edges) word, step.settings) mid.short;
    }

-- An edge within a word, before a pulse is decided.
mid_edge : (w : List ℕ) (sck sdi : Bool) → Midword w →
    shifted (settings_in w) sdi (progress_at (place_in w)) (clocked sck (engine_in w)) ≡ edge_advanced (settings_in w) sck sdi (engine_in w)
unfolding advanced clocked
mid_edge w sck sdi mid =
    on_begun (settings_in w) (clocked sck (engine_in w)) (begun_there w mid.begun) sdi
    (so_lt ((progress_at (place_in w)).edges + 1) (word_edges (settings_in w)) _ _ mid.short refl)
    ∙ goes_on (settings_in w) sck sdi (engine_in w) mid.begun

-- A frame host begins no pulse there, but for a word's first edge and its last but one. At the active level a pulse ends.
module _ (s : Settings) (sck sdi : Bool) (p : Progress) (n : Engine) (host : s.con2.spifsd ≡ false)
    (some : 0 < p.edges) (few : p.edges + 2 < word_edges s) where
  none_due : (count : ℕ) → pulse_due s count (Begun (progressed s sdi p)) ≡ false
  unfolding pulse_due progressed
  none_due count =
      if_keeps (λ (b : Bool). b ≡ false) s.con2.frmdly _ _ (λ _. ne_eqb (p.edges + 1) 1 (λ e. omega arith))
      (λ _. and_first _ _ (ne_eqb (p.edges + 1 + 1) (word_edges s) (λ e. omega arith)))

  pulse-ends : pulse_after s sck (shifted s sdi p n) ≡ (when Bool·beq sck s.con1.ckp then n.pins.pulse else false)
  unfolding pulse_after shifted
  pulse-ends =
      let kept = if_false s.con2.spifsd (active s n.pins.ss && false) n.pins.pulse host in
      let over = and-false (not s.con2.spifsd) _ (none_due n.transmit.count) in
      λ j. when Bool·beq sck s.con1.ckp then kept j else over j

pub host_ends : (w : List ℕ) (sck sdi : Bool) → Midword w → frame_host (settings_in w) ≡ true →
    0 < (progress_at (place_in w)).edges → (progress_at (place_in w)).edges + 2 < word_edges (settings_in w) →
    with_pulse (when Bool·beq sck (settings_in w).con1.ckp then (edge_advanced (settings_in w) sck sdi (engine_in w)).pins.pulse else false) (edge_advanced (settings_in w) sck sdi (engine_in w))
    ≡ edge_counted (settings_in w) sck sdi (engine_in w)
unfolding shifted
host_ends w sck sdi mid host some few =
    let s = settings_in w in
    let x = edge_advanced s sck sdi (engine_in w) in
    let alone = not-true _ (and_right s.con2.frmen _ host) in
    let ends : pulse_after s sck x ≡ (when Bool·beq sck s.con1.ckp then x.pins.pulse else false) =
    subst (λ (y : Engine). pulse_after s sck y ≡ (when Bool·beq sck s.con1.ckp then y.pins.pulse else false)) (mid_edge w sck sdi mid)
    (pulse-ends s sck sdi (progress_at (place_in w)) (clocked sck (engine_in w)) alone some few) in
    ap (λ (b : Bool). with_pulse b x) (sym ends) ∙ ends_framed s sck sdi (engine_in w) refl (and_left s.con2.frmen _ host)

-- A shift register with a word begun is not free.
begun_busy : (x : Shift) → is_begun x ≡ true → is_free x ≡ false
begun_busy Free e = clash false e refl
begun_busy (Loaded word) e = refl
begun_busy (Begun p) e = refl

pub ticks_within : {a b : List ℕ} → (settings_in a).spien ≡ true → (sdi ss : Bool) → own_clock (settings_in a) ≡ true →
    frame_client (settings_in a) ≡ false → is_begun (engine_in a).shift ≡ true → Steps (λ s. turned s sdi) a b →
    Answers (tick_of (module_in a) sdi ss) Edge a b
ticks_within {a} on sdi ss own deaf begun step = tick_answers on sdi ss own deaf (begun_busy (engine_in a).shift begun) step

-- The short way of either kind is a clock step's.
module _ {a b : List ℕ} {made : Bool} (on : (settings_in a).spien ≡ true) (sck sdi ss : Bool) where
  pub own_shortly : own_clock (settings_in a) ≡ true →
      Shortens (λ s. turned s sdi) made a b →
      Shortly (clock_step_of (module_in a) sck sdi ss) Done made a b
  own_shortly own h =
      record {
        taken = λ e. own_answers on sck sdi ss own (and_first _ _ (h.plain e)) (begun_busy (engine_in a).shift (h.begun e)) (h.steps e);
        goes = h.goes;
        left = h.left;
      }

  pub pin_shortly : own_clock (settings_in a) ≡ false →
      Shortens (λ s. stepped s (levels sck sdi ss)) made a b →
      Shortly (clock_step_of (module_in a) sck sdi ss) Done made a b
  pin_shortly pin h =
      record { taken = λ e. pin_answers on sck sdi ss pin (h.steps e); goes = h.goes; left = h.left }

-- A tick, and a pin call, by the clock step of their kind of module.
module _ {a b : List ℕ} {made : Bool} where
  pub tick_shortly : (sdi ss : Bool) → (made ≡ true → own_clock (settings_in a) ≡ true) → Shortly (clock_step_of (module_in a) false sdi ss) Done made a b →
      Shortly (tick_of (module_in a) sdi ss) Edge made a b
  tick_shortly sdi ss own h =
      record {
        taken = λ e. likewise (edge-told (h.taken e) refl) (sym (tick_is_step (module_in a) sdi ss (own e)));
        goes = h.goes;
        left = h.left;
      }

  pub pins_shortly : (sck sdi ss : Bool) → own_clock (settings_in a) ≡ false → Shortly (clock_step_of (module_in a) sck sdi ss) Done made a b →
      Shortly (pins_of (module_in a) sck sdi ss) Done made a b
  pins_shortly sck sdi ss pin h =
      record { taken = λ e. likewise (h.taken e) (beside_pins (module_in a) sck sdi ss pin); goes = h.goes; left = h.left }
