-- An enabled card over its calls: its place, its stage, SCK and LRCK.
--     On         what stands after some edges
--     call_on    one call keeps it
--     life_on    every life from power-up
-- Assumes nothing.
use Rattle.std.specs.Prelude.{◌+◌, ◌*◌, ◌%◌, ◌∷◌, ◌≡◌}
use Rattle.laws.proofs.Common.{ℕ, Bool, true, false, not, Bool·beq, List, [], refl, sym, ap, ◌∙◌}
use Rattle.laws.proofs.Common.{arith, eqb-true, eqb-false, eq-eqb, ne_eqb, eqb, when◌then◌else◌, if_keeps, by_test, clash}
use Rattle.word_order.specs.Ledger.{Ledger}
use Rattle.word_order.specs.Machine.{Watched, watched_call, watched_calls}
use Rattle.word_order.proofs.Order.{TiedOn, call_tied}
use Rattle.card_rules.specs.Settings.{named, Settings, Shape, shape_of}
use Rattle.card_rules.specs.Card.{Engine, powered_up}
use Rattle.card_rules.specs.Edge.{at_first_place, is_full, lrck_at, turned, edged}
use Rattle.card_rules.specs.Calls.{Call, set_protocol, set_length, enable, disable, write, read, edge, clear_underrun, clear_overflow, Outcome, set_protocol_of, set_length_of, enable_of, disable_of, write_of, read_from, read_of, edge_of, clear_underrun_of, clear_overflow_of}
use Rattle.card_rules.specs.Figures.{is_i2s, starts_channel, sck_expected, lrck_expected}
use Rattle.card_rules.specs.Watch.{watching, powered_up_card, life}
use Rattle.card_rules.specs.CardDemands.{took_after, took_from, took}
use Rattle.card_order.specs.Invariant.{Holds}
use Rattle.card_order.proofs.EdgeWords.{clocked_place}
use Rattle.card_order.proofs.FiguresHold.{named_fits, same_figures, frame_is, lrck_same}
use Rattle.card_order.proofs.Order.{owes, keeps, holds_at_power_up}
use Rattle.card_placing.specs.Stage.{Stage, starting}
use Rattle.card_placing.proofs.Stages.{samples_then, edge_stage}

pub record On (x : Settings) (n : Engine) (count : ℕ) (samples : List ℕ) : Type 0 where
  pub stage : Stage (shape_of x) count n.place n.way n.pins.sdo samples
  pub sck : n.pins.sck ≡ sck_expected x count
  pub lrck : n.pins.lrck ≡ lrck_expected x count

-- SCK: an edge more.
next_even : (count : ℕ) → eqb ((count + 1) % 2) 0 ≡ not (eqb (count % 2) 0)
next_even count =
    by_test (eqb (count % 2) 0)
    (λ g. let even : count % 2 ≡ 0 = eqb-true (count % 2) 0 g in rw g (ne_eqb ((count + 1) % 2) 0 (omega arith)))
    (λ g. let odd : count % 2 ≡ 0 → ⊥ = eqb-false (count % 2) 0 g in rw g (eq-eqb ((count + 1) % 2) 0 (omega arith)))

turned_sck : (count : ℕ) (b sck : Bool) → sck ≡ Bool·beq (eqb (count % 2) 0) b → not sck ≡ Bool·beq (eqb ((count + 1) % 2) 0) b
turned_sck count b sck e = rw (e, next_even count) (turn (eqb (count % 2) 0) b)
  where
    turn : (a b : Bool) → not (Bool·beq a b) ≡ Bool·beq (not a) b
    turn true true = refl
    turn true false = refl
    turn false true = refl
    turn false false = refl

-- Enabling: nothing is held, SCK idles and LRCK is inactive.
enabled_on : (x : Settings) → ((shape_of x).rest ≡ sck_expected x 0) × ((shape_of x).rest ≡ lrck_expected x 0)
unfolding when◌then◌else◌
enabled_on x = rw (same_figures x).rest (go (shape_of x).rest)
  where
    go : (r : Bool) → (r ≡ Bool·beq true r) × (r ≡ (when r then true else false))
    go true = (refl, refl)
    go false = (refl, refl)

-- An edge.
edge_on : (x : Settings) → named x.bits x.frame ≡ true → (sdi : Bool) (n : Engine) (count : ℕ) (samples : List ℕ) →
    n.place ≡ count % (2 * x.frame) → On x n count samples →
    On x (edged (shape_of x) sdi n) (count + 1) (samples_then (starts_channel x count) samples n.waiting)
unfolding turned
edge_on x e sdi n count samples here was =
    let s : Shape = shape_of x in
    let first : at_first_place s n.place ≡ starts_channel x count = ap (at_first_place s) here ∙ sym (frame_is x e count).starts in
    record {
      stage = rw (← first) (edge_stage s (named_fits x e) sdi n count samples was.stage);
      sck = ap not (clocked_place s sdi n).1 ∙ turned_sck count (is_i2s x) n.pins.sck was.sck;
      lrck = ap (lrck_at s) ((clocked_place s sdi n).0 ∙ here) ∙ lrck_same x e count;
    }

-- The card and the samples taken, by the card's parts.
abbrev at : Bool → Settings → Engine → ℕ → Ledger → Watched watching
at enabled x n count l = record { now = record { enabled = enabled; settings = x; engine = n }; memory = count; ledger = l }

-- A call on an enabled card, and on a disabled one.
call_on : (on : Bool) (x : Settings) (n : Engine) (count : ℕ) (l : Ledger) (samples : List ℕ) (c : Call) →
    named x.bits x.frame ≡ true → (on ≡ true → n.place ≡ count % (2 * x.frame)) → (on ≡ true → On x n count samples) →
    let y : Watched watching = watched_call watching (at on x n count l) c in
    y.now.enabled ≡ true → On y.now.settings y.now.engine y.memory (took_after (at on x n count l) samples c)
unfolding when◌then◌else◌ set_protocol_of set_length_of enable_of disable_of write_of read_of edge_of clear_underrun_of clear_overflow_of
call_on true x n count l samples (set_protocol p) e here was stays = was refl
call_on true x n count l samples (set_length bits frame) e here was stays = was refl
call_on true x n count l samples enable e here was stays = was refl
call_on true x n count l samples disable e here was stays = clash false stays refl
call_on true x n count l samples (write v) e here was stays =
    if_keeps (λ (o : Outcome). On o.after.settings o.after.engine count samples) (is_full n.waiting) _ _ (λ f. was refl)
    (λ f. let w : On x n count samples = was refl in record { stage = w.stage; sck = w.sck; lrck = w.lrck })
call_on true x n count l samples read e here was stays = go n.unread
  where
    go : (r : List ℕ) →
        On (read_from (record { enabled = true; settings = x; engine = n }) r).after.settings
        (read_from (record { enabled = true; settings = x; engine = n }) r).after.engine count samples
    go [] = was refl
    go (sample ∷ rest) = let w : On x n count samples = was refl in record { stage = w.stage; sck = w.sck; lrck = w.lrck }
call_on true x n count l samples (edge sdi) e here was stays = edge_on x e sdi n count samples (here refl) (was refl)
call_on true x n count l samples clear_underrun e here was stays =
    let w : On x n count samples = was refl in record { stage = w.stage; sck = w.sck; lrck = w.lrck }
call_on true x n count l samples clear_overflow e here was stays =
    let w : On x n count samples = was refl in record { stage = w.stage; sck = w.sck; lrck = w.lrck }
call_on false x n count l samples (set_protocol p) e here was stays = clash false stays refl
call_on false x n count l samples (set_length bits frame) e here was stays =
    clash false
    (sym (if_keeps (λ (o : Outcome). o.after.enabled ≡ false) (named bits frame) _ _ (λ f. refl) (λ f. refl)) ∙ stays)
    refl
call_on false x n count l samples enable e here was stays =
    record { stage = starting refl refl refl (omega arith) refl; sck = (enabled_on x).0; lrck = (enabled_on x).1 }
call_on false x n count l samples disable e here was stays = clash false stays refl
call_on false x n count l samples (write v) e here was stays = clash false stays refl
call_on false x n count l samples read e here was stays = clash false stays refl
call_on false x n count l samples (edge sdi) e here was stays = clash false stays refl
call_on false x n count l samples clear_underrun e here was stays = clash false stays refl
call_on false x n count l samples clear_overflow e here was stays = clash false stays refl

-- Every life from power-up.
calls_on : (cs : List Call) (x : Watched watching) (samples : List ℕ) → Holds x.now → TiedOn watching owes x →
    (x.now.enabled ≡ true → On x.now.settings x.now.engine x.memory samples) →
    let y : Watched watching = watched_calls watching x cs in
    y.now.enabled ≡ true → On y.now.settings y.now.engine y.memory (took_from x samples cs)
calls_on [] x samples h tied was = was
calls_on (c ∷ cs) x samples h tied was =
    calls_on cs (watched_call watching x c) (took_after x samples c) (keeps x.now c h) (call_tied watching owes x c h tied)
    (call_on x.now.enabled x.now.settings x.now.engine x.memory x.ledger samples c h.names
    (λ on. (tied on).recalls) was)

off : powered_up.enabled ≡ false
unfolding powered_up
off = refl

pub life_on : (cs : List Call) → (life cs).now.enabled ≡ true →
    On (life cs).now.settings (life cs).now.engine (life cs).memory (took cs)
life_on cs =
    calls_on cs powered_up_card [] holds_at_power_up (λ on. clash powered_up.enabled on off) (λ on. clash powered_up.enabled on off)
