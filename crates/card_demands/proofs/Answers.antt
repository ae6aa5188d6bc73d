-- Refusals: given exactly as the table says, changing nothing; and what calls tell.
--     call-answered   one call
--     answered        every card and every call
-- Assumes nothing.
use Rattle.std.specs.Prelude.{◌&&◌, ◌∷◌, ◌≡◌}
use Rattle.laws.proofs.Common.{ℕ, Bool, true, false, List, [], refl, arith, ne_eqb, ltb, leb, eqb, length}
use Rattle.laws.proofs.Common.{get_or, when◌then◌else◌, by_test, if_both, clash}
use Rattle.card_rules.specs.Settings.{named, Settings}
use Rattle.card_rules.specs.Card.{Engine, Card}
use Rattle.card_rules.specs.Edge.{is_full}
use Rattle.card_rules.specs.Calls.{Call, set_protocol, set_length, enable, disable, write, read, edge, clear_underrun, clear_overflow, Outcome, set_protocol_of, set_length_of, enable_of, disable_of, write_of, read_from, read_of, edge_of, clear_underrun_of, clear_overflow_of, perform_of, said_of}
use Rattle.card_rules.specs.CardDemands.{is_kind, first_number, rows, Answered}
use Rattle.card_order.proofs.FiguresHold.{pairs_same}

-- An outcome that is right: its number, that a refusal changed nothing, and what it tells.
record Right (m : Card) (number told : ℕ) (o : Outcome) : Type 0 where
  pub numbered : (said_of o.answer).number ≡ number
  pub unchanged : ltb 0 number ≡ true → o.after ≡ m
  pub telling : (said_of o.answer).told ≡ told

abbrev At : Bool → Settings → Engine → Call → Type 0
At on x n c =
    let m : Card = record { enabled = on; settings = x; engine = n } in
    Right m (first_number (rows m c)) (when on && is_kind 5 c then get_or n.unread 0 0 else 0) (perform_of m c)

call-answered : (on : Bool) (x : Settings) (n : Engine) (c : Call) → At on x n c
unfolding when◌then◌else◌ is_full set_protocol_of set_length_of enable_of disable_of write_of read_of edge_of clear_underrun_of clear_overflow_of
call-answered true x n (set_protocol p) = record { numbered = refl; unchanged = λ e. refl; telling = refl }
call-answered true x n (set_length bits frame) = record { numbered = refl; unchanged = λ e. refl; telling = refl }
call-answered true x n enable = record { numbered = refl; unchanged = λ e. clash false e refl; telling = refl }
call-answered true x n disable = record { numbered = refl; unchanged = λ e. clash false e refl; telling = refl }
call-answered true x n (write v) =
    if_both (λ (o : Outcome) (k : ℕ). Right (record { enabled = true; settings = x; engine = n }) k 0 o) (leb 8 (length n.waiting)) _ _ _ _ _ refl
    (λ e. record { numbered = refl; unchanged = λ f. refl; telling = refl })
    (λ e. record { numbered = refl; unchanged = λ f. clash false f refl; telling = refl })
call-answered true x n read = go n.unread
  where
    go : (r : List ℕ) →
        Right (record { enabled = true; settings = x; engine = n }) (when eqb (length r) 0 then 6 else 0) (get_or r 0 0)
        (read_from (record { enabled = true; settings = x; engine = n }) r)
    go [] = record { numbered = refl; unchanged = λ e. refl; telling = refl }
    go (sample ∷ rest) =
        rw (ne_eqb (length (sample ∷ rest)) 0 (λ e. omega arith))
        (record { numbered = refl; unchanged = λ e. clash false e refl; telling = refl })
call-answered true x n (edge sdi) = record { numbered = refl; unchanged = λ e. clash false e refl; telling = refl }
call-answered true x n clear_underrun = record { numbered = refl; unchanged = λ e. clash false e refl; telling = refl }
call-answered true x n clear_overflow = record { numbered = refl; unchanged = λ e. clash false e refl; telling = refl }
call-answered false x n (set_protocol p) = record { numbered = refl; unchanged = λ e. clash false e refl; telling = refl }
call-answered false x n (set_length bits frame) =
    rw (pairs_same bits frame)
    (by_test (named bits frame) (λ e. rw e (record { numbered = refl; unchanged = λ f. clash false f refl; telling = refl }))
    (λ e. rw e (record { numbered = refl; unchanged = λ f. refl; telling = refl })))
call-answered false x n enable = record { numbered = refl; unchanged = λ e. clash false e refl; telling = refl }
call-answered false x n disable = record { numbered = refl; unchanged = λ e. clash false e refl; telling = refl }
call-answered false x n (write v) = record { numbered = refl; unchanged = λ e. refl; telling = refl }
call-answered false x n read = record { numbered = refl; unchanged = λ e. refl; telling = refl }
call-answered false x n (edge sdi) = record { numbered = refl; unchanged = λ e. refl; telling = refl }
call-answered false x n clear_underrun = record { numbered = refl; unchanged = λ e. clash false e refl; telling = refl }
call-answered false x n clear_overflow = record { numbered = refl; unchanged = λ e. clash false e refl; telling = refl }

pub answered : Answered
answered =
    record {
      refused_exactly = λ m c. (call-answered m.enabled m.settings m.engine c).numbered;
      refused_unchanged = λ m c e. (call-answered m.enabled m.settings m.engine c).unchanged e;
      tells = λ m c. (call-answered m.enabled m.settings m.engine c).telling;
    }
