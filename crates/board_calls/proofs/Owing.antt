-- The total, beside what is told of the board's calls.
--     asks_list, asks_total                    the question, by what it finds
--     owed_asked                               a call by its kind
--     within_owed                              the total within a word
--     at_most                                  a total that stops at 65,535
--     makes_owed, links_owed                   a call between two counts, and a linked run between two of each end
--     owed_inside, owed_refused, owed_made     a call of one module of the list
--     owed_insides, owed_pair_refused, owed_pair_made     a linked run of two
-- Assumes nothing.
use Rattle.std.specs.Prelude.{◌+◌, ◌*◌, ◌-◌, ◌%◌, ◌<◌, ◌≤◌, ◌≡◌}
use Rattle.laws.proofs.Common.{ℕ, true, false, List, refl, sym, ap}
use Rattle.laws.proofs.Common.{ap₂, ◌∙◌, arith, eqb-true, eqb-false, eq-eqb, ne_eqb, leb-true, leb-false, eqb, leb}
use Rattle.laws.proofs.Common.{length, when◌then◌else◌, if_keeps, if_true, if_false, by_test}
use lib.Ieee.{Float}
use Rattle.module_rules.proofs.Types.{Settings, Shift, Free, Loaded, Begun, Module}
use Rattle.module_rules.specs.RefusalTable.{first_number}
use Rattle.link_rules.specs.Link.{linked_of}
use Rattle.board_rules.specs.declared.BoardCall.{BoardCall}
use Rattle.board_rules.specs.declared.BoardCall.TheVariants.{Look}
use Rattle.board_rules.specs.Board.{Paired, board_number_of, bad_list, refuse_call, refuse_pair, board_of, ran_of, pair_of}
use Rattle.board_rules.specs.BoardDemands.{at, board_rows, pair_rows}
use Rattle.board_rules.specs.Owed.{in_shift, words_owed, at_most65535, total_moved, owes_of}
use Rattle.board_page.proofs.BoardCalls.{call_refused, pair_refused, named_below, replaced, joined}
use Rattle.board_page.proofs.OwedMoves.{call_total, run_total}
use Rattle.module_memory.specs.Memory.{settings_in, engine_in, module_in, went_on}
use Rattle.module_answers.specs.Answered.{GoesOn}
use Rattle.module_by_number.specs.Told.{LinkTells}
use Rattle.board_calls.specs.declared.Cells.{Cells}
use Rattle.board_calls.specs.Boards.{modules_in, numbers_at, with_numbers, asked_of, board_number, pair_number, call_fault, pair_fault, MakeTells}
use Rattle.board_calls.specs.Owing.{board_in, both_in, owed_number, TellsOwed, refused_number, refused_call, refused_pair, MakesOwed, LinksOwed, OwedTells, OwedPairTells}
use Rattle.board_calls.proofs.Asks.{bad}
use Rattle.board_calls.proofs.Boarding.{as_many, holds_set, holds_at, inside, refused_leaves, made_answer, made_leaves, insides, pair_refused_leaves, pair_made_is, pair_made_leaves}

-- The question.
module _ {count owed : ℕ} where
  pub asks_list : bad count ≡ true → TellsOwed count owed 1376256
  unfolding owes_of bad_list owed_number board_number_of
  asks_list e = record { number = λ ms n. sym (ap owed_number (if_true (bad_list ms) _ _ (ap bad n ∙ e))) }

  pub asks_total : bad count ≡ false → TellsOwed count owed (owed % 65536)
  unfolding owes_of bad_list owed_number board_number_of
  asks_total e = record { number = λ ms n. sym (ap owed_number (if_false (bad_list ms) _ _ (ap bad n ∙ e))) }

-- A total that is moved from one count to another.
pub at_most : (n : ℕ) {r : ℕ} → (n ≤ 65535 → r ≡ n) → (65535 < n → r ≡ 65535) → r ≡ at_most65535 n
unfolding at_most65535
at_most n {r} below above =
    if_keeps (λ (x : ℕ). r ≡ x) (leb n 65535) _ _ (λ e. below (leb-true n 65535 e)) (λ e. above (leb-false n 65535 e))

pub makes_owed : {owed : ℕ} {c : BoardCall} {answer was is total r : ℕ} {floats floatsAt : List Float} {before after : List ℕ} →
    MakeTells c answer floats floatsAt before after → was ≡ words_owed (module_in before) → is ≡ words_owed (module_in after) →
    total ≡ at_most65535 (owed % 65536 + is - was) → r ≡ both_in total answer → MakesOwed owed c r floats floatsAt before after
unfolding total_moved
makes_owed made e f t n = record { number = cc made.number; made = rw made.number at made }

pub links_owed : {owed limit answer was is client-was client-is first total r : ℕ} {host host' client client' : List ℕ} →
    LinkTells (linked_of (module_in host) (module_in client) limit) answer host host' client client' →
    was ≡ words_owed (module_in host) → client-was ≡ words_owed (module_in client) → is ≡ words_owed (module_in host') → client-is ≡ words_owed (module_in client') →
    first ≡ at_most65535 (owed % 65536 + is - was) → total ≡ at_most65535 (first + client-is - client-was) → r ≡ both_in total answer →
    LinksOwed owed limit r host host' client client'
unfolding total_moved
links_owed linked e g f k t u n = record { number = cc linked.number; linked = rw linked.number at linked }

-- A kind that is a number asks what that number asks.
pub owed_asked : {owed r : ℕ} {floats floatsAt : List Float} {before after : List ℕ} (k x y z : ℕ) {kind : ℕ} → kind ≡ k →
    MakesOwed owed (asked_of k x y z) r floats floatsAt before after → MakesOwed owed (asked_of kind x y z) r floats floatsAt before after
owed_asked k x y z e h = rw e h

-- A word that goes on counts as it did, so that the total stays.
goes_counts : (s : Settings) (edges received : ℕ) (x : Shift) → in_shift s (went_on edges received x) ≡ in_shift s x
unfolding in_shift went_on
goes_counts s edges received Free = refl
goes_counts s edges received (Loaded word) = refl
goes_counts s edges received (Begun p) = refl

within_counts : {a b : List ℕ} → GoesOn a b → words_owed (module_in b) ≡ words_owed (module_in a)
unfolding words_owed
within_counts {a} on =
    cc (on.transmit, on.settings, on.shift, goes_counts (settings_in a) on.edges on.received (engine_in a).shift)

pub within_owed : (owed : ℕ) {a b : List ℕ} → GoesOn a b →
    owed % 65536 ≡ at_most65535 (owed % 65536 + words_owed (module_in b) - words_owed (module_in a))
within_owed owed on = let same = within_counts on in at_most _ (λ h. omega arith) (λ h. omega arith)

-- The number that the board's test gives: the total and the refusal, or 0.
module _ (owed number : ℕ) {r : ℕ} (e : r ≡ refused_number owed (number * 65536)) where
  told_refused : 0 < r → (1 ≤ number) × (r ≡ both_in (owed % 65536) (number * 65536))
  unfolding refused_number
  told_refused h =
      by_test (eqb (number * 65536) 0)
      (λ on. absurd (omega (arith, h, e ∙ if_true _ _ _ on)))
      (λ off. (omega (arith, eqb-false (number * 65536) 0 off), e ∙ if_false _ _ _ off))

  told-handed : r ≤ 0 → number ≡ 0
  unfolding refused_number both_in
  told-handed h =
      by_test (eqb (number * 65536) 0)
      (λ on. omega (arith, eqb-true (number * 65536) 0 on))
      (λ off. absurd (omega (arith, h, e ∙ if_false _ _ _ off, eqb-false (number * 65536) 0 off)))

-- A choice by whether a number is 0.
handed_on : {A : Type 0} {n : ℕ} (x y : A) → n ≡ 0 → (when eqb n 0 then x else y) ≡ x
handed_on {n = n} x y e = if_true (eqb n 0) x y (eq-eqb n 0 e)

not_handed : {A : Type 0} {n : ℕ} (x y : A) → 1 ≤ n → (when eqb n 0 then x else y) ≡ y
not_handed {n = n} x y h = if_false (eqb n 0) x y (ne_eqb n 0 (omega arith))

-- A call of one module of the list.
module _ (owed n : ℕ) (cs : List Cells) {r : ℕ} (t : r ≡ refused_call (length cs) owed n) where
  abbrev ms : List Module
  ms = modules_in cs

  tested : r ≡ refused_number owed (first_number (board_rows (length ms) n) * 65536)
  unfolding call_fault
  tested = t ∙ rw (as_many cs)

  pub owed_inside : r ≤ 0 → n < length cs
  owed_inside h = inside n cs Look (told-handed owed _ tested h)

  pub owed_refused : (c : BoardCall) (floats : List Float) → 0 < r → OwedTells owed n c r floats floats cs cs
  unfolding refuse_call board_number
  owed_refused c floats h =
      let refused = told_refused owed _ tested h in
      let is = call_refused ms n c refused.0 in
      let told : board_number (board_of ms n c).answer ≡ first_number (board_rows (length ms) n) * 65536 = rw (is.is, is.told) in
      record {
        number = refused.1 ∙ sym (cc (call_total (board_in owed cs) n c, not_handed _ _ refused.0, told));
        leaves = refused_leaves n cs c floats refused.0;
      }

  pub owed_made : (c : BoardCall) (x : ℕ) (floats floatsAt : List Float) (ws : List ℕ) → r ≤ 0 →
      MakesOwed owed c x floats floatsAt (numbers_at cs n) ws → OwedTells owed n c x floats floatsAt cs (with_numbers cs n ws)
  owed_made c x floats floatsAt ws h m =
      let handed = told-handed owed _ tested h in
      let leaves = made_leaves n cs c handed floats floatsAt ws m.made in
      let here = inside n cs c handed in
      let after : at (board_of ms n c).after n ≡ module_in ws =
      ap (λ (l : List Module). at l n) (sym leaves.holds ∙ holds_set cs n ws)
      ∙ replaced ms n (module_in ws) (named_below ms n handed) in
      record {
        number =
            m.number
            ∙ ap₂ both_in
            (sym (call_total (board_in owed cs) n c ∙ handed_on _ _ handed
            ∙ ap₂ (total_moved (owed % 65536)) (holds_at cs n here) after))
            (ap board_number (made_answer n cs c handed));
        leaves = leaves;
      }

-- A linked run of two.
module _ (owed a b limit : ℕ) (cs : List Cells) {r : ℕ} (t : r ≡ refused_pair (length cs) owed a b) where
  pair_tested : r ≡ refused_number owed (first_number (pair_rows (length (modules_in cs)) a b) * 65536)
  unfolding pair_fault
  pair_tested = t ∙ rw (as_many cs)

  pub owed_insides : r ≤ 0 → (a < length cs) × ((b < length cs) × (a ≡ b → ⊥))
  owed_insides h = insides a b limit cs (told-handed owed _ pair_tested h)

  pub owed_pair_refused : 0 < r → OwedPairTells owed a b limit r cs cs
  unfolding refuse_pair pair_number
  owed_pair_refused h =
      let refused = told_refused owed _ pair_tested h in
      let is = pair_refused (modules_in cs) a b limit refused.0 in
      let told : pair_number (pair_of (modules_in cs) a b limit).answer ≡ first_number (pair_rows (length (modules_in cs)) a b) * 65536 =
      rw (is.is, is.told) in
      record {
        number = refused.1 ∙ sym (cc (run_total (board_in owed cs) a b limit, not_handed _ _ refused.0, told));
        leaves = pair_refused_leaves a b limit cs refused.0;
      }

  pub owed_pair_made : (x : ℕ) (host client : List ℕ) → r ≤ 0 →
      LinksOwed owed limit x (numbers_at cs a) host (numbers_at cs b) client →
      OwedPairTells owed a b limit x cs (with_numbers (with_numbers cs a host) b client)
  unfolding pair_number ran_of
  owed_pair_made x host client h m =
      let handed = told-handed owed _ pair_tested h in
      let in_List = insides a b limit cs handed in
      let first = holds_at cs a in_List.0 in
      let second = holds_at cs b in_List.1.0 in
      let does = joined (modules_in cs) a b limit handed in
      record {
        number =
            m.number
            ∙ ap₂ both_in
            (sym
            (run_total (board_in owed cs) a b limit ∙ handed_on _ _ handed
            ∙ cc (first, second, does.host, does.client, m.linked.host_holds, m.linked.client_holds)))
            (ap (λ (o : Paired). pair_number o.answer) (sym (pair_made_is a b limit cs handed)));
        leaves = pair_made_leaves a b limit cs handed host client m.linked;
      }
