-- A history that opens in the middle of a port's life is tied to the port.
--     Fits           what the port's words must be
--     tied_resumed   such a port and its history
-- Assumes nothing.
use Rattle.std.specs.Prelude.{◌^◌, ◌<◌, ◌&&◌, ◌∷◌, ◌++◌, ◌≡◌}
use Rattle.laws.proofs.Common.{ℕ, Bool, true, false, List, [], append-nil, refl, sym, ap, ◌∙◌}
use Rattle.laws.proofs.Common.{arith, ltb, drop, when◌then◌else◌}
use Rattle.word_order.specs.Bits.{sampled_in}
use Rattle.word_order.specs.Ledger.{Terms, Passed, unmarked, marked_in, ends}
use Rattle.word_order.specs.Port.{Under, Way, idle, sends, Port, wire_from, all_unmarked, resumed}
use Rattle.word_order.proofs.WordBits.{spelled_top_bits}
use Rattle.word_order.proofs.Tied.{AllBelow, Carries, Tied}

pub record FitsUnder (t : Terms) (owed : List ℕ) (u : Under) : Type 0 where
  pub short : u.edges < t.last
  pub word : u.word < 2 ^ t.width
  pub received : u.received < 2 ^ sampled_in t.samples u.edges
  pub first : u.filler ≡ false → owed ≡ u.word ∷ drop 1 owed
  pub zeros : u.filler ≡ true → u.word ≡ 0

abbrev pub FitsWay : Terms → List ℕ → Way → Type 0
FitsWay t owed idle = Unit {0}
FitsWay t owed (sends u) = FitsUnder t owed u

pub record Fits (t : Terms) (p : Port) : Type 0 where
  pub words : AllBelow (2 ^ t.width) p.owed
  pub way : FitsWay t p.owed p.way
  pub mark : p.marked ≡ true → ends t.policy ≡ true

-- The unread words have no mark; behind them stands the lost one, if any.
kept_resumed : (words : List ℕ) (last : List Passed) → unmarked (all_unmarked words ++ last) ≡ words ++ unmarked last
unfolding when◌then◌else◌
kept_resumed [] last = refl
kept_resumed (word ∷ words) last = ap (λ (q : List ℕ). word ∷ q) (kept_resumed words last)

lost_resumed : (words : List ℕ) (last : List Passed) → marked_in (all_unmarked words ++ last) ≡ marked_in last
lost_resumed [] last = refl
lost_resumed (word ∷ words) last = let h : marked_in (all_unmarked words ++ last) ≡ marked_in last = lost_resumed words last in omega arith

abbrev last_of : Bool → List Passed
last_of marked = when marked then record { word = 0; marked = true } ∷ [] else []

last_kept : (marked : Bool) → unmarked (last_of marked) ≡ []
unfolding when◌then◌else◌
last_kept true = refl
last_kept false = refl

last_marked : (marked e : Bool) → (marked ≡ true → e ≡ true) → marked ≡ (e && ltb 0 (marked_in (last_of marked)))
unfolding when◌then◌else◌
last_marked true e h = sym (ap (λ (b : Bool). b && true) (h refl))
last_marked false true h = refl
last_marked false false h = refl

resumed_carries : (t : Terms) (owed : List ℕ) (way : Way) → FitsWay t owed way → Carries t owed way (wire_from t way)
resumed_carries t owed idle f = tt
resumed_carries t owed (sends u) f =
    record {
      filler = refl;
      edges = refl;
      shown = refl;
      seen = spelled_top_bits (sampled_in t.samples u.edges) u.received f.received;
      short = f.short;
      fits = f.word;
      first = f.first;
      zeros = f.zeros;
    }

pub tied_resumed : (t : Terms) (p : Port) → Fits t p → Tied t p (resumed t p)
tied_resumed t p f =
    record {
      sending = refl;
      receiving = kept_resumed p.unread (last_of p.marked) ∙ ap (λ (q : List ℕ). p.unread ++ q) (last_kept p.marked) ∙ append-nil p.unread;
      carries = resumed_carries t p.owed p.way f.way;
      fit = f.words;
      mark =
          last_marked p.marked (ends t.policy) f.mark
          ∙ ap (λ (n : ℕ). ends t.policy && ltb 0 n) (sym (lost_resumed p.unread (last_of p.marked)));
    }
