-- What passes between two ports on one wire, in the terms of the law of word order: its ledgers and its operations.
use Rattle.std.specs.Prelude.{ℕ, zero, suc, Bool, true, false, List, [], ◌∷◌, ◌++◌}
use Rattle.laws.specs.Choice.{when◌then◌else◌}
use Rattle.word_order.specs.Ledger.{Op, begins, clocks, Passed}

-- Words that arrive where none is read: as many as there is room for are kept, and all later ones are lost.
abbrev pub arriving : ℕ → List ℕ → List Passed
arriving room [] = []
arriving zero (w ∷ ws) = record { word = w; marked = true } ∷ arriving zero ws
arriving (suc room) (w ∷ ws) = record { word = w; marked = false } ∷ arriving room ws

-- So many departures where none is accepted: the words owed in their order, and a filler of zeros for each that is wanting.
abbrev pub departing : ℕ → List ℕ → List Passed
departing zero ws = []
departing (suc n) [] = record { word = 0; marked = true } ∷ departing n []
departing (suc n) (w ∷ ws) = record { word = w; marked = false } ∷ departing n ws

-- The operations of an edge, before which a word may begin or not.
abbrev pub turn_ops : Bool → Bool → Bool → List Op
turn_ops may sdo sdi = (when may then begins ∷ [] else []) ++ (clocks sdo sdi ∷ [])
