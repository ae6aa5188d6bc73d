-- What is told of a call that the board refuses, and of one that a record's numbers answer.
--     inside, insides                               the records that a call and a linked run name, if not refused, are in the list
--     refused_leaves, made_answer, made_leaves      a call of one module
--     pair_refused_leaves, pair_made_is, pair_made_leaves      a linked run of two
-- Assumes nothing.
use Rattle.std.specs.Prelude.{◌<◌, ◌≤◌, ◌∷◌, ◌≡◌}
use Rattle.laws.proofs.Common.{ℕ, zero, suc, List, [], refl, sym, ap, ◌∙◌, arith, length, set}
use Rattle.laws.proofs.Common.{get_or-set_other}
use lib.Ieee.{Float}
use Rattle.module_types.specs.declared.Module.{Module}
use Rattle.module_rules.specs.RefusalTable.{first_number}
use Rattle.link_rules.specs.declared.Linked.{Linked}
use Rattle.link_rules.specs.Link.{linked_of}
use Rattle.board_rules.specs.declared.BoardCall.{BoardCall}
use Rattle.board_rules.specs.declared.BoardAnswer.{BoardAnswer}
use Rattle.board_rules.specs.Board.{Boarded, Paired, refuse_call, refuse_pair, module_at, answer_alone, board_of, ran_of, pair_of}
use Rattle.board_rules.specs.BoardDemands.{at, board_rows, pair_rows}
use Rattle.board_page.proofs.BoardCalls.{call_refused, call_is, pair_refused, pair_is, named_below, places}
use Rattle.module_memory.specs.Memory.{module_in}
use Rattle.module_by_number.specs.Told.{LinkTells}
use Rattle.board_calls.specs.declared.Cells.{Cells}
use Rattle.board_calls.specs.Boards.{modules_in, record_at, numbers_at, with_numbers, floats_after, keeps_all, pair_keeps_all, MakeTells, BoardLeaves, PairLeaves}

-- Records and modules.
pub as_many : (cs : List Cells) → length (modules_in cs) ≡ length cs
as_many [] = refl
as_many (c ∷ cs) = ap suc (as_many cs)

pub holds_set : (cs : List Cells) (n : ℕ) (ws : List ℕ) → modules_in (with_numbers cs n ws) ≡ set (modules_in cs) n (module_in ws)
holds_set [] n ws = refl
holds_set (c ∷ cs) zero ws = refl
holds_set (c ∷ cs) (suc n) ws = ap (λ (ms : List Module). module_in c.numbers ∷ ms) (holds_set cs n ws)

pub holds_at : (cs : List Cells) (n : ℕ) → n < length cs → at (modules_in cs) n ≡ module_in (numbers_at cs n)
holds_at [] n h = absurd (omega (arith, h))
holds_at (c ∷ cs) zero h = refl
holds_at (c ∷ cs) (suc n) h = holds_at cs n (omega (arith, h))

pub same_put : (cs : List Cells) (n : ℕ) → with_numbers cs n (numbers_at cs n) ≡ cs
same_put [] n = refl
same_put (c ∷ cs) zero = refl
same_put (c ∷ cs) (suc n) = ap (λ (ds : List Cells). c ∷ ds) (same_put cs n)

stays_at : (cs : List Cells) (n k : ℕ) (ws : List ℕ) → (n ≡ k → ⊥) → record_at (with_numbers cs n ws) k ≡ record_at cs k
stays_at cs n k ws h = get_or-set_other cs n k _ _ (λ e. h (sym e))

-- A call of one module, by the first row of the table that applies.
module _ (n : ℕ) (cs : List Cells) (c : BoardCall) where
  abbrev ms : List Module
  ms = modules_in cs

  pub refused_leaves : (floats : List Float) → 1 ≤ first_number (board_rows (length ms) n) → BoardLeaves n c floats floats cs cs
  unfolding refuse_call floats_after
  refused_leaves floats h =
      let is = (call_refused ms n c h).is in
      record {
        holds = ap (λ (o : Boarded). o.after) (sym is);
        report = rw is;
        untouched = λ _. refl;
        others = λ k _. refl;
      }

  module _ (handed : first_number (board_rows (length ms) n) ≡ 0) where
    pub inside : n < length cs
    inside = omega (arith, named_below ms n handed, as_many cs)

    pub made_answer : answer_alone (module_in (numbers_at cs n)) c ≡ (board_of ms n c).answer
    unfolding module_at
    made_answer = cc (holds_at cs n inside, (call_is ms n c handed).0)

    pub made_leaves : {r : ℕ} (floats floatsAt : List Float) (ws : List ℕ) → MakeTells c r floats floatsAt (numbers_at cs n) ws →
        BoardLeaves n c floats floatsAt cs (with_numbers cs n ws)
    unfolding module_at
    made_leaves floats floatsAt ws m =
        record {
          holds = holds_set cs n ws ∙ cc (m.holds, holds_at cs n inside, (call_is ms n c handed).1);
          report = m.report ∙ ap (λ (x : BoardAnswer). floats_after x floats) made_answer;
          untouched = λ t. ap (with_numbers cs n) (m.untouched (ap keeps_all made_answer ∙ t)) ∙ same_put cs n;
          others = λ k off. stays_at cs n k ws off;
        }

-- A linked run of two.
module _ (a b limit : ℕ) (cs : List Cells) where
  pub pair_refused_leaves : 1 ≤ first_number (pair_rows (length (modules_in cs)) a b) → PairLeaves a b limit cs cs
  unfolding refuse_pair
  pair_refused_leaves h =
      record {
        holds = ap (λ (o : Paired). o.after) (sym (pair_refused (modules_in cs) a b limit h).is);
        untouched = λ _. refl;
        others = λ k _ _. refl;
      }

  abbrev l : Linked
  l = linked_of (module_in (numbers_at cs a)) (module_in (numbers_at cs b)) limit

  module _ (handed : first_number (pair_rows (length (modules_in cs)) a b) ≡ 0) where
    pub insides : (a < length cs) × ((b < length cs) × (a ≡ b → ⊥))
    insides =
        let p = places (modules_in cs) a b handed in
        (omega (arith, p.first, as_many cs), (omega (arith, p.second, as_many cs), p.differ))

    pub pair_made_is : pair_of (modules_in cs) a b limit ≡ ran_of (modules_in cs) a b l
    unfolding module_at
    pair_made_is = cc (pair_is (modules_in cs) a b limit handed, holds_at cs a insides.0, holds_at cs b insides.1.0)

    pub pair_made_leaves : {r : ℕ} (host client : List ℕ) → LinkTells l r (numbers_at cs a) host (numbers_at cs b) client →
        PairLeaves a b limit cs (with_numbers (with_numbers cs a host) b client)
    unfolding ran_of
    pair_made_leaves host client m =
        record {
          holds =
              holds_set (with_numbers cs a host) b client
              ∙ cc (holds_set cs a host, m.host_holds, m.client_holds, ap (λ (o : Paired). o.after) pair_made_is);
          untouched = λ t.
              let kept = ap (λ (o : Paired). pair_keeps_all o.answer) (sym pair_made_is) ∙ t in
              cc (m.host_untouched kept, m.client_untouched kept, same_put cs a, same_put cs b);
          others = λ k first second. stays_at (with_numbers cs a host) b k client second ∙ stays_at cs a k host first;
        }
