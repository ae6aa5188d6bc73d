-- What a port on a wire has in the end.
--     left, whole   what a port still owes, and how many departed
--     within        the edges given to the word on the wire are among those of the words owed
--     unread_is     what it has received and nobody has read
--     across        across from an idle port nothing is under way
-- Assumes nothing.
use Rattle.std.specs.Prelude.{◌+◌, ◌*◌, ◌-◌, ◌≤◌, ◌++◌, ◌≡◌}
use Rattle.laws.proofs.Common.{ℕ, suc, zero-le, true, List, refl, sym, ap, ◌∙◌, le_trans}
use Rattle.laws.proofs.Common.{le_refl, mul-le-mul, arith, length, take, drop, length-drop, clash}
use Rattle.word_order.specs.Ledger.{words_of, Terms, Wire, quiet, busy, Passed, Ledger, unmarked, left_to_send, edges_given}
use Rattle.word_order.specs.Port.{Way, idle, sends, is_under, Port}
use Rattle.word_order.proofs.Tied.{Carries, Tied}
use Rattle.word_wire.proofs.Lists.{departing_left, kept_behind}
use Rattle.word_wire.proofs.Departs.{Fills, Departs}
use Rattle.word_wire.proofs.Arrives.{Hears, Arrives}

module _ {t : Terms} {p : Port} {l : Ledger} (tied : Tied t p l) (departs : Departs t l) where
  -- The words that a port still owes.
  pub left : p.owed ≡ drop (length l.departures) l.accepted
  left =
      departing_left (length l.departures) l.accepted p.owed
      (tied.sending ∙ ap (λ (d : List Passed). unmarked d ++ p.owed) departs.gone)

  -- Of a silent port: what has departed and what is owed are the words accepted, and an edge is given only to a word that is owed.
  pub whole : t.silent ≡ true → length l.accepted ≡ length l.departures + length p.owed
  whole silent =
      let most : length l.departures ≤ length l.accepted = departs.real silent in
      let rest : length p.owed ≡ length l.accepted - length l.departures =
      ap length left ∙ length-drop (length l.departures) l.accepted in
      omega (arith, most, rest)

  given-within : (way : Way) (wire : Wire) → Carries t p.owed way wire → Fills t (left_to_send l) wire → t.silent ≡ true →
      edges_given wire ≤ t.last * length p.owed
  given-within idle quiet c f silent = zero-le
  given-within idle (busy w) c f silent = absurd c
  given-within (sends u) quiet c f silent = absurd c
  given-within (sends u) (busy w) c f silent =
      let some : length p.owed ≡ suc (length (drop 1 p.owed)) = ap length (c.first (sym c.filler ∙ f.1 silent)) in
      let short : w.edges ≤ t.last * 1 = omega (arith, c.short, c.edges) in
      le_trans short (mul-le-mul (le_refl t.last) (omega (arith, some)))

  pub within : t.silent ≡ true → edges_given l.wire ≤ t.last * length p.owed
  within = given-within p.way l.wire tied.carries departs.fills

-- The words that a port has received and nobody has read.
pub unread_is : {t : Terms} {p : Port} {l from : Ledger} {before : List Passed} {room : ℕ} → Tied t p l → Arrives before room from l →
    p.unread ≡ unmarked before ++ take room (words_of from.departures)
unread_is {p = p} {from = from} {before = before} {room = room} tied r =
    sym (tied.receiving ∙ ap (λ (q : List ℕ). q ++ p.unread) r.unread)
    ∙ ap unmarked r.words
    ∙ kept_behind before room (words_of from.departures)

-- A port across from an idle one has nothing under way.
ways_face : (t u : Terms) (owed owed' : List ℕ) (way way' : Way) (a b : Wire) → Carries t owed way a → Carries u owed' way' b →
    Hears a b → way ≡ idle → way' ≡ idle
ways_face t u owed owed' idle idle a b c d h e = refl
ways_face t u owed owed' idle (sends v) quiet quiet c d h e = absurd d
ways_face t u owed owed' idle (sends v) quiet (busy w) c d h e = absurd h
ways_face t u owed owed' idle (sends v) (busy w) b c d h e = absurd c
ways_face t u owed owed' (sends v) way' a b c d h e = clash true refl (ap is_under e)

pub across : {t u : Terms} {p q : Port} {l k : Ledger} → Tied t p l → Tied u q k → Hears l.wire k.wire → p.way ≡ idle →
    q.way ≡ idle
across {t = t} {u = u} {p = p} {q = q} {l = l} {k = k} a b h =
    ways_face t u p.owed q.owed p.way q.way l.wire k.wire a.carries b.carries h
