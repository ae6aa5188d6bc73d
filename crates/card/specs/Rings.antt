-- The rings of a card in memory: the samples waiting are those of ring 0, and those unread are those of ring 1.
use Rattle.std.specs.Prelude.{ℕ, true, false, List, [], ◌∷◌, ◌++◌, ◌≡◌, Result, Ok, Err, Option, Some, None, zero, suc}
use Rattle.card_rules.specs.Card.{Engine, with_waiting, with_unread}
use Rattle.card_rules.specs.Edge.{is_full}
use Rattle.card.specs.declared.Full.{Full}
use Rattle.card.specs.Memory.{engine_in, Moves}

abbrev pub ring_of : ℕ → Engine → List ℕ
ring_of zero n = n.waiting
ring_of (suc _) n = n.unread

abbrev pub with_ring : ℕ → List ℕ → Engine → Engine
with_ring zero x n = with_waiting x n
with_ring (suc _) x n = with_unread x n

-- A sample goes behind the others, or finds eight of them: then every number stays.
abbrev pub Pushes : ℕ → ℕ → List ℕ → Result (Unit {0}) Full → List ℕ → Type 0
Pushes ring sample before (Ok x) after =
    (is_full (ring_of ring (engine_in before)) ≡ false) × Moves (λ s n. with_ring ring (ring_of ring n ++ (sample ∷ [])) n) before after
Pushes ring sample before (Err full) after = (is_full (ring_of ring (engine_in before)) ≡ true) × (after ≡ before)

-- The first sample leaves a ring, or none is there: then every number stays.
abbrev pub Pops : ℕ → List ℕ → Option ℕ → List ℕ → Type 0
Pops ring before (Some sample) after =
    (rest : List ℕ) × (ring_of ring (engine_in before) ≡ sample ∷ rest) × Moves (λ s. with_ring ring rest) before after
Pops ring before None after = (ring_of ring (engine_in before) ≡ []) × (after ≡ before)
