-- The card's page holds.
--     page_holds   specs/CardDemands.antt of card_rules
-- Assumes nothing.
use Rattle.std.specs.Prelude.{◌+◌, ◌*◌, ◌&&◌, ◌≡◌}
use Rattle.laws.proofs.Common.{ℕ, true, false, not, List, refl, sym, ap, ◌∙◌, arith, le-ltb, ltb, leb}
use Rattle.laws.proofs.Common.{when◌then◌else◌}
use Rattle.word_order.specs.Machine.{Watched}
use Rattle.card_rules.specs.Settings.{Shape, shape_of}
use Rattle.card_rules.specs.Card.{Engine, Card, with_engine}
use Rattle.card_rules.specs.Calls.{Call, refuse, doing, is_disabled, edge_of, sdo_of, right_next}
use Rattle.card_rules.specs.Watch.{watching, life}
use Rattle.card_rules.specs.CardDemands.{took, Shows, output_seen, CardDemands}
use Rattle.card_order.proofs.FiguresHold.{frame_is}
use Rattle.card_order.proofs.Order.{card_tied, card_order_lem}
use Rattle.card_placing.proofs.Life.{On, life_on}
use Rattle.card_placing.proofs.Placing.{sdo_shown_lem, bits_placed, sdi_unheard}
use Rattle.card_demands.proofs.Answers.{answered}
use Rattle.card_demands.proofs.Changes.{card_changes}

-- The pins and the next channel of an enabled card.
card_shows : (cs : List Call) → (life cs).now.enabled ≡ true → Shows (life cs) (took cs)
unfolding right_next
card_shows cs on =
    let x : Watched watching = life cs in
    let h = card_tied cs in
    let o : On x.now.settings x.now.engine x.memory (took cs) = life_on cs on in
    let s : Shape = shape_of x.now.settings in
    record {
      sck = o.sck;
      lrck = o.lrck;
      sdo = sdo_shown_lem x.now.settings h.0.names x.now.engine x.memory (took cs) o.stage;
      channel = rw (h.1 on).recalls (sym (frame_is x.now.settings h.0.names x.memory).follows);
    }

-- A disabled card stands before the left channel.
card_rests : (cs : List Call) → (life cs).now.enabled ≡ false → right_next (life cs).now ≡ false
unfolding right_next
card_rests cs off =
    let s : Shape = shape_of (life cs).now.settings in
    (λ i. let place : ℕ = ((card_tied cs).0.rests off i).place in ltb (2 * s.before) place && leb place (2 * (s.before + s.step)))
    ∙ rw (le-ltb (2 * s.before) 0 (omega arith))

output_is : (m : Card) → sdo_of m ≡ output_seen m
unfolding sdo_of
output_is m = refl

pub page_holds : CardDemands
unfolding edge_of
page_holds =
    record {
      answered = answered;
      changes = card_changes;
      shows = card_shows;
      output = output_is;
      rests = card_rests;
      placed = λ cs on some.
          bits_placed (life cs).now.settings (card_tied cs).0.names (life cs).now.engine (life cs).memory (took cs) some
          (life_on cs on).stage;
      unheard = λ cs on none.
          let m : Card = (life cs).now in
          ap (λ (n : Engine). (when not m.enabled then refuse is_disabled m else doing (with_engine n m)).after)
          (sdi_unheard m.settings (card_tied cs).0.names m.engine (life cs).memory (took cs) (life_on cs on).stage none);
      word_order = card_order_lem;
    }
