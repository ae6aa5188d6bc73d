-- The demands on the total of specs/OwedDemands.antt, all of them.
--     totals_hold   what the buyer signs for, of the words that the board owes
-- Assumes nothing.
use Rattle.std.specs.Prelude.{◌<◌, ◌≤◌, ◌∷◌, ◌≡◌, Ok, Err}
use Rattle.laws.proofs.Common.{ℕ, zero, suc, Bool, true, false, List, [], refl, sym, ap, subst, ◌∙◌}
use Rattle.laws.proofs.Common.{arith, ltb-false, eqb-true, eqb, ltb, length, set, replicate, length-set, when◌then◌else◌}
use Rattle.laws.proofs.Common.{if_keeps, if_true, if_false, by_test, or_right}
use Rattle.module_rules.proofs.Types.{Module, Outcome, ClockStep, Four, Eight, Sixteen}
use Rattle.module_rules.specs.RefusalTable.{row, first_number}
use Rattle.module_rules.specs.Invariant.{ModuleHolds}
use Rattle.module_rules.specs.Calls.{powered_at, powered_up, refuse, power_up_of, perform_of}
use Rattle.module_rules.specs.Lives.{power_up}
use Rattle.module_invariant.proofs.Holds.{call_keeps, calls_keep, reached_holds}
use Rattle.link_rules.specs.Link.{linked_of}
use Rattle.link_page.proofs.LinkRuns.{link_holds_lem}
use Rattle.word_rules.specs.Word.{steps_of}
use Rattle.word_rules.proofs.WordHolds.{steps_leave}
use Rattle.board_rules.specs.declared.BoardCall.{BoardCall}
use Rattle.board_rules.specs.declared.BoardCall.TheVariants.{PowerUp, PowerUpAt, Make, Report, Look, StepAndLook, MakeWord}
use Rattle.board_rules.specs.declared.BoardFault.TheVariants.{BadList}
use Rattle.board_rules.specs.Board.{board_number_of, bad_list, no_module, no_pair, module_at, after_alone, ran_of, board_of, Paired, BoardStep, one, two, board_stepped, board_after}
use Rattle.board_rules.specs.BoardDemands.{board_rows, pair_rows, at}
use Rattle.board_rules.specs.Owed.{Board, total_moved, owed_call, owed_run, owes_of, owed_step, owed_after}
use Rattle.board_rules.specs.OwedDemands.{owed_fault_in, words_in, full_count, fresh_board, Totals}
use Rattle.board_page.proofs.BoardCalls.{call_is, call_refused_unchanged, call_refused_exactly, pair_is, pair_refused_unchanged_lem, pair_refused_exactly_lem, some, two_rows, named_below, places, replaced, stays_at, joined}
use Rattle.board_rules.proofs.OwedExamplesHold.{owed_examples_hold}
use Rattle.board_page.proofs.OwedMoves.{call_total, run_total, call_moves_lem, run_moves_lem}
use Rattle.board_page.proofs.OwedCounts.{AllHold, holds_at, hold_set, one_moved, counts_unsent_lem, counts_none_lem}

-- The question.
rows_law : (wrong : Bool) (n : ℕ) → owed_fault_in (when wrong then Err BadList else Ok n) ≡ first_number (row 21 wrong ∷ [])
unfolding when◌then◌else◌ board_number_of
rows_law true n = refl
rows_law false n = refl

tells_law : (wrong : Bool) (n : ℕ) → owed_fault_in (when wrong then Err BadList else Ok n) ≡ 0 →
    words_in (when wrong then Err BadList else Ok n) ≡ n
unfolding when◌then◌else◌ board_number_of
tells_law true n e = absurd (omega (arith, e))
tells_law false n e = refl

-- What a call makes of a module that calls reach.
alone_holds : (m : Module) (c : BoardCall) → ModuleHolds m → ModuleHolds (after_alone m c)
unfolding after_alone perform_of power_up_of refuse
alone_holds m PowerUp h = reached_holds Eight []
alone_holds m (PowerUpAt words) h =
    let P : Outcome → Type 0 = λ (o : Outcome). ModuleHolds o.after in
    if_keeps P (eqb words 4) _ _ (λ e. reached_holds Four [])
    (λ e. if_keeps P (eqb words 8) _ _ (λ e. reached_holds Eight []) (λ e. if_keeps P (eqb words 16) _ _ (λ e. reached_holds Sixteen []) (λ e. h)))
alone_holds m (Make c) h = call_keeps m c h
alone_holds m (Report f) h = h
alone_holds m Look h = h
alone_holds m (StepAndLook sck sdi ss) h = call_keeps m (ClockStep sck sdi ss) h
alone_holds m (MakeWord ss word) h = subst ModuleHolds (sym (steps_leave m ss word)) (calls_keep (steps_of m ss word) m h)

-- The list's length is right.
at_most_four : (ms : List Module) → bad_list ms ≡ false → length ms ≤ 4
unfolding bad_list
at_most_four ms e = ltb-false 4 (length ms) (or_right (ltb (length ms) 1) _ e)

-- A board whose modules calls reach, and whose total is the full count.
record Counted (b : Board) : Type 0 where
  all : AllHold b.modules
  full : b.owed ≡ full_count b.modules

-- One record is replaced, and the total moved by it.
counted_set : (ms : List Module) (total n : ℕ) (m : Module) → n < length ms → length ms ≤ 4 → ModuleHolds m →
    Counted (record { modules = ms; owed = total }) → Counted (record { modules = set ms n m; owed = total_moved total (at ms n) m })
counted_set ms total n m l four holds c =
    record { all = hold_set ms n m c.all holds; full = one_moved ms n total m l four c.all holds c.full }

-- The same board, by equal modules and an equal total.
counted_as : {ms ns : List Module} {x y : ℕ} → ns ≡ ms → y ≡ x → Counted (record { modules = ms; owed = x }) →
    Counted (record { modules = ns; owed = y })
counted_as e f c = record { all = subst AllHold (sym e) c.all; full = f ∙ c.full ∙ ap full_count (sym e) }

-- A call of one module.
call_counted : (b : Board) (n : ℕ) (c : BoardCall) → Counted b → Counted (owed_call b n c).after
unfolding owed_call bad_list no_module module_at
call_counted b n c is =
    let ms : List Module = b.modules in
    by_test (eqb (first_number (board_rows (length ms) n)) 0)
    (λ on.
    let rows = eqb-true _ 0 on in
    let here = named_below ms n rows in
    let after : (board_of ms n c).after ≡ set ms n (after_alone (at ms n) c) = (call_is ms n c rows).1 in
    counted_as after
    (call_total b n c ∙ if_true _ _ _ on
    ∙ ap (total_moved b.owed (at ms n)) (ap (λ (l : List Module). at l n) after ∙ replaced ms n (after_alone (at ms n) c) here))
    (counted_set ms b.owed n (after_alone (at ms n) c) here (at_most_four ms (two_rows (bad_list ms) (no_module ms n) rows).0)
    (alone_holds (at ms n) c (holds_at ms n here is.all)) is))
    (λ off. counted_as (call_refused_unchanged ms n c (some _ (call_refused_exactly ms n c) off))
    (call_total b n c ∙ if_false _ _ _ off) is)

-- A linked run of two.
run_counted : (b : Board) (h k limit : ℕ) → Counted b → Counted (owed_run b h k limit).after
unfolding owed_run bad_list no_pair no_module module_at ran_of
run_counted b h k limit is =
    let ms : List Module = b.modules in
    by_test (eqb (first_number (pair_rows (length ms) h k)) 0)
    (λ on.
    let rows = eqb-true _ 0 on in
    let p = places ms h k rows in
    let l = linked_of (at ms h) (at ms k) limit in
    let ends = link_holds_lem (at ms h) (at ms k) limit (holds_at ms h p.first is.all) (holds_at ms k p.second is.all) in
    let half : List Module = set ms h l.host in
    let same = length-set ms h l.host in
    let four = at_most_four ms (two_rows (bad_list ms) (no_pair ms h k) rows).0 in
    let was : at half k ≡ at ms k = stays_at ms h l.host k p.differ in
    let does = joined ms h k limit rows in
    counted_as (ap (λ (o : Paired). o.after) (pair_is ms h k limit rows))
    (run_total b h k limit ∙ if_true _ _ _ on ∙ cc (does.host, does.client, was))
    (counted_set half (total_moved b.owed (at ms h) l.host) k l.client (omega (arith, p.second)) (omega arith) ends.1
    (counted_set ms b.owed h l.host p.first four ends.0 is)))
    (λ off. counted_as (pair_refused_unchanged_lem ms h k limit (some _ (pair_refused_exactly_lem ms h k limit) off))
    (run_total b h k limit ∙ if_false _ _ _ off) is)

-- Any steps.
step_counted : (b : Board) (s : BoardStep) → Counted b → Counted (owed_step b s)
unfolding owed_step
step_counted b (one n c) is = call_counted b n c is
step_counted b (two h k limit) is = run_counted b h k limit is

steps_counted : (ss : List BoardStep) (b : Board) → Counted b → Counted (owed_after b ss)
unfolding owed_after
steps_counted [] b is = is
steps_counted (s ∷ ss) b is = steps_counted ss (owed_step b s) (step_counted b s is)

-- The modules are those of Seven's steps.
step_modules : (b : Board) (s : BoardStep) → (owed_step b s).modules ≡ board_stepped b.modules s
unfolding owed_step owed_call owed_run board_stepped
step_modules b (one n c) = refl
step_modules b (two h k limit) = refl

steps_modules : (ss : List BoardStep) (b : Board) → (owed_after b ss).modules ≡ board_after b.modules ss
unfolding owed_after board_after
steps_modules [] b = refl
steps_modules (s ∷ ss) b = steps_modules ss (owed_step b s) ∙ ap (λ (l : List Module). board_after l ss) (step_modules b s)

-- At power-up nothing is owed.
fresh_hold : (size : ℕ) → AllHold (replicate size powered_up)
fresh_hold zero = tt
fresh_hold (suc size) = (reached_holds Eight [], fresh_hold size)

power_up_off : powered_up.settings.spien ≡ false
unfolding powered_at
power_up_off = refl

fresh_count : (size : ℕ) → full_count (replicate size powered_up) ≡ 0
fresh_count zero = refl
fresh_count (suc size) = omega (arith, counts_none_lem (power_up Eight) [] power_up_off, fresh_count size)

pub totals_hold : Totals
unfolding owes_of bad_list owed_call owed_run
totals_hold =
    record {
      paper_examples = owed_examples_hold;
      counts_unsent = counts_unsent_lem;
      counts_none = counts_none_lem;
      same_call = λ b n c. (refl, refl);
      same_run = λ b host client limit. (refl, refl);
      call_moves = call_moves_lem;
      run_moves = run_moves_lem;
      refused_exactly = λ b. rows_law (bad_list b.modules) b.owed;
      answers_total = λ b e. tells_law (bad_list b.modules) b.owed e;
      full_always = λ size steps.
          (steps_counted steps (fresh_board size) (record { all = fresh_hold size; full = sym (fresh_count size) })).full
          ∙ ap full_count (steps_modules steps (fresh_board size));
      modules_always = λ size steps. steps_modules steps (fresh_board size);
      one_call = λ b n c x y e f. e ∙ sym f;
      one_run = λ b host client limit x y e f. e ∙ sym f;
      one_answer = λ b x y e f. e ∙ sym f;
    }
