-- Operations behind one another.
--     played_append, legal_append, counted_append   what they do to a port, that they are legal, and what is counted of them
-- Assumes nothing.
use Rattle.std.specs.Prelude.{◌+◌, ◌∷◌, ◌++◌, ◌≡◌}
use Rattle.laws.proofs.Common.{Bool, List, [], refl, arith}
use Rattle.word_order.specs.Ledger.{Terms, Op}
use Rattle.word_order.specs.Port.{Port, played, played_all, LegalAll, counted_in}

pub played_append : (t : Terms) (os qs : List Op) (p : Port) → played_all t (os ++ qs) p ≡ played_all t qs (played_all t os p)
played_append t [] qs p = refl
played_append t (o ∷ os) qs p = played_append t os qs (played t o p)

pub legal_append : (t : Terms) (os qs : List Op) (p : Port) → LegalAll t os p → LegalAll t qs (played_all t os p) → LegalAll t (os ++ qs) p
legal_append t [] qs p h k = k
legal_append t (o ∷ os) qs p h k = (h.0, legal_append t os qs (played t o p) h.1 k)

pub counted_append : (f : Op → Port → Bool) (t : Terms) (os qs : List Op) (p : Port) →
    counted_in f t (os ++ qs) p ≡ counted_in f t os p + counted_in f t qs (played_all t os p)
counted_append f t [] qs p = omega arith
counted_append f t (o ∷ os) qs p =
    let rest : counted_in f t (os ++ qs) (played t o p)
    ≡ counted_in f t os (played t o p) + counted_in f t qs (played_all t os (played t o p)) =
    counted_append f t os qs (played t o p) in
    omega arith
