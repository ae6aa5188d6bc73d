-- What the ledger of demand 3 enters of a word that is made at once: one word that went out and one that came in, neither before the last edge,
-- and nothing else; no word is on the wire behind it. Assumes nothing.
use Rattle.std.specs.Prelude.{◌∷◌, ◌++◌, ◌≡◌}
use Rattle.laws.proofs.Common.{[]}
use Rattle.word_order.specs.Ledger.{Passed, quiet, Ledger}

pub record Entered (before almost after : Ledger) (out into : Passed) : Type 0 where
  pub still : (almost.departures ≡ before.departures) × (almost.arrivals ≡ before.arrivals)
  pub departures : after.departures ≡ before.departures ++ (out ∷ [])
  pub arrivals : after.arrivals ≡ before.arrivals ++ (into ∷ [])
  pub accepted : after.accepted ≡ before.accepted
  pub read : after.read ≡ before.read
  pub wire : after.wire ≡ quiet
