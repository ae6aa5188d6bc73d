-- A module in the middle of its life can be watched from there: its words fit the law's terms.
--     port_fits   of every module that has the invariant
-- Assumes nothing.
use Rattle.std.specs.Prelude.{◌^◌, ◌<◌, ◌||◌, ◌∷◌, ◌++◌, ◌≡◌}
use Rattle.laws.proofs.Common.{ℕ, suc, Bool, true, false, List, [], sym, ap, ap₂, subst, ◌∙◌}
use Rattle.laws.proofs.Common.{drop, get_or, when◌then◌else◌, by_test}
use Rattle.ring.proofs.Contents.{contents_keep}
use Rattle.word_order.proofs.Tied.{AllBelow}
use Rattle.word_order.proofs.Resumed.{FitsWay, Fits}
use Rattle.module_rules.proofs.Types.{Settings, Engine, Module, Progress, Shift, Free, Loaded, Begun}
use Rattle.module_rules.specs.Settings.{width_of, depth_of, cke_of, ssen_client}
use Rattle.module_rules.specs.Buffers.{waiting}
use Rattle.module_rules.specs.Words.{unfinished}
use Rattle.module_rules.specs.Invariant.{ShiftHolds, ProgressHolds, Reached}
use Rattle.module_rules.specs.Watch.{terms, way_of, port_in}
use Rattle.module_rules.proofs.Sizes.{depth_most, power_least}
use Rattle.module_rules.proofs.BuffersOrder.{left_takes_first}
use Rattle.module_invariant.proofs.Parts.{TransmitHolds}
use Rattle.module_invariant.proofs.Engine.{engine_of}
use Rattle.module_order.proofs.Ports.{sampled_is}

-- Words that all lie below a number, by their places.
all_below_lem : (k : ℕ) (words : List ℕ) → ((i : ℕ) → get_or words i 0 < k) → AllBelow k words
all_below_lem k [] h = tt
all_below_lem k (word ∷ words) h = (h 0, all_below_lem k words (λ i. h (suc i)))

below_first : (k word : ℕ) (b : Bool) (words : List ℕ) → word < k → AllBelow k words → AllBelow k ((when b then [] else word ∷ []) ++ words)
unfolding when◌then◌else◌
below_first k word true words h all = all
below_first k word false words h all = (h, all)

module _ (s : Settings) (n : Engine) (t : TransmitHolds s n.transmit) where
  abbrev words : List ℕ
  words = waiting (depth_of s) n.transmit

  waiting-below : AllBelow (2 ^ width_of s) words
  unfolding waiting
  waiting-below =
      all_below_lem (2 ^ width_of s) words
      (contents_keep (λ (w : ℕ). w < 2 ^ width_of s) 0 (depth_of s) n.transmit.words (power_least (width_of s)) t.fit n.transmit.read.0
      n.transmit.count)

  owed-below : (sh : Shift) → ShiftHolds s n sh → AllBelow (2 ^ width_of s) (unfinished s sh ++ words)
  owed-below Free k = waiting-below
  owed-below (Loaded word) k = (k.1, waiting-below)
  owed-below (Begun p) k = below_first (2 ^ width_of s) p.word (p.filler || ssen_client s) words k.word waiting-below

  -- The begun word, unless it is a filler, is the first of those owed.
  begun_first : (p : Progress) → ProgressHolds s n p → p.filler ≡ false →
      unfinished s (Begun p) ++ words ≡ p.word ∷ drop 1 (unfinished s (Begun p) ++ words)
  unfolding when◌then◌else◌
  begun_first p k f =
      by_test (ssen_client s)
      (λ client.
      let there = k.first client f in
      let first = left_takes_first (depth_of s) n.transmit (depth_most s) t.cells t.ring there.0 in
      rw (f, client) (first ∙ ap₂ (λ (a : ℕ) (q : List ℕ). a ∷ q) (sym there.1) (sym (ap (drop 1) first))))
      (λ other. rw (f, other))

  way-fits : (sh : Shift) → ShiftHolds s n sh → FitsWay (terms s) (unfinished s sh ++ words) (way_of sh)
  way-fits Free k = tt
  way-fits (Loaded word) k = tt
  way-fits (Begun p) k =
      record {
        short = k.short;
        word = k.word;
        received = subst (λ (e : ℕ). p.received < 2 ^ e) (sym (sampled_is (cke_of s) p.edges)) k.received;
        first = begun_first p k;
        zeros = k.zeros;
      }

pub port_fits : (m : Module) → Reached m → Fits (terms m.settings) (port_in m)
port_fits m h =
    let t : TransmitHolds m.settings m.engine.transmit = (engine_of m h.holds).buffers.transmit in
    record {
      words = owed-below m.settings m.engine t m.engine.shift h.holds.shift;
      way = way-fits m.settings m.engine t m.engine.shift h.holds.shift;
      mark = λ e. (h.mark e).0;
    }
