-- Calls of one module and linked runs of two, by the rows of the table.
--     some, or_both                  a number that is not 0; neither of two tests is true
--     two_rows                       neither of two rows applies
--     Refuses                        what comes out is a refusal, with the fault whose number is told
--     call_refused_exactly, call_refused, call_refused_unchanged, call_is      a call, refused or handed on
--     pair_refused_exactly_lem, pair_refused, pair_refused_unchanged_lem, pair_is      a linked run, refused or handed on
--     named_below, places            the modules that a call and a run name, if they are handed on, are in the list
--     alone, joined                  what a call and a run do to the modules that they name, and to the others
-- Assumes nothing.
use Rattle.std.specs.Prelude.{◌<◌, ◌≤◌, ◌||◌, ◌∷◌, ◌≡◌}
use Rattle.laws.proofs.Common.{ℕ, Bool, true, false, List, [], refl, sym, ap, ◌∙◌, arith, leb-true}
use Rattle.laws.proofs.Common.{leb-false, eqb-false, eqb, leb, length, set, length-set, get_or-set_same, get_or-set_other}
use Rattle.laws.proofs.Common.{when◌then◌else◌, if_false, by_test, or_left, or_right}
use Rattle.module_types.specs.declared.Module.{Module}
use Rattle.module_rules.specs.RefusalTable.{row, first_number}
use Rattle.module_rules.specs.Calls.{powered_up, perform_of}
use Rattle.link_rules.specs.declared.Linked.{Linked}
use Rattle.link_rules.specs.Link.{linked_of}
use Rattle.board_rules.specs.declared.BoardCall.{BoardCall}
use Rattle.board_rules.specs.declared.BoardCall.TheVariants.{PowerUp, PowerUpAt, Make, Report, Look, StepAndLook, MakeWord}
use Rattle.board_rules.specs.declared.BoardFault.{BoardFault}
use Rattle.board_rules.specs.declared.BoardFault.TheVariants.{BadList, NoModule}
use Rattle.board_rules.specs.Board.{Boarded, Paired, board_number_of, bad_list, no_module, no_pair, module_at, seen_of, answer_alone, after_alone, refuse_call, refuse_pair, board_of, ran_of, pair_of}
use Rattle.board_rules.specs.BoardDemands.{fault_in, pair_fault_in, board_rows, pair_rows, at, Alone, Joined}

-- A number that is told and is not 0.
pub some : (n : ℕ) {m : ℕ} → m ≡ n → eqb n 0 ≡ false → 1 ≤ m
some n e off = by_test (leb 1 n) (λ h. omega (arith, e, leb-true 1 n h)) (λ h. absurd (eqb-false n 0 off (omega (arith, leb-false 1 n h))))

-- Neither of two tests is true.
pub or_both : (a b : Bool) → a ≡ false → b ≡ false → (a || b) ≡ false
or_both a b e f = rw (e, f)

-- Rows.
pub two_rows : (a b : Bool) → first_number (row 21 a ∷ row 22 b ∷ []) ≡ 0 → (a ≡ false) × (b ≡ false)
unfolding when◌then◌else◌
two_rows true b e = absurd (omega (arith, e))
two_rows false true e = absurd (omega (arith, e))
two_rows false false e = (refl, refl)

-- What comes out is a refusal, with the fault whose number is told.
pub record Refuses {A : Type 0} (refusal : BoardFault → A) (number : ℕ) (x : A) : Type 0 where
  pub fault : BoardFault
  pub told : board_number_of fault ≡ number
  pub is : x ≡ refusal fault

-- A choice of the two refusals and a call that is handed on.
module _ {A : Type 0} (refusal : BoardFault → A) (rest : A) where
  abbrev chosen : Bool → Bool → A
  chosen a b = when a then refusal BadList else when b then refusal NoModule else rest

  refuses : (a b : Bool) → 1 ≤ first_number (row 21 a ∷ row 22 b ∷ []) →
      Refuses refusal (first_number (row 21 a ∷ row 22 b ∷ [])) (chosen a b)
  unfolding when◌then◌else◌ board_number_of
  refuses true b h = record { fault = BadList; told = refl; is = refl }
  refuses false true h = record { fault = NoModule; told = refl; is = refl }
  refuses false false h = absurd (omega arith)

  hands_on : (a b : Bool) → first_number (row 21 a ∷ row 22 b ∷ []) ≡ 0 → chosen a b ≡ rest
  hands_on a b e = let rows = two_rows a b e in if_false a _ _ rows.0 ∙ if_false b _ _ rows.1

  by_rows : (number : A → ℕ) → ((w : BoardFault) → number (refusal w) ≡ board_number_of w) → number rest ≡ 0 → (a b : Bool) →
      number (chosen a b) ≡ first_number (row 21 a ∷ row 22 b ∷ [])
  unfolding when◌then◌else◌ board_number_of
  by_rows number is is-rest true b = is BadList
  by_rows number is is-rest false true = is NoModule
  by_rows number is is-rest false false = is-rest

-- A call of one module.
no_fault : (m : Module) (c : BoardCall) → fault_in (answer_alone m c) ≡ 0
unfolding answer_alone
no_fault m PowerUp = refl
no_fault m (PowerUpAt words) = refl
no_fault m (Make c) = refl
no_fault m (Report f) = refl
no_fault m Look = refl
no_fault m (StepAndLook sck sdi ss) = refl
no_fault m (MakeWord ss word) = refl

module _ (ms : List Module) (n : ℕ) (c : BoardCall) where
  pub call_refused_exactly : fault_in (board_of ms n c).answer ≡ first_number (board_rows (length ms) n)
  unfolding board_of bad_list no_module refuse_call
  call_refused_exactly =
      by_rows (refuse_call ms) _ (λ (o : Boarded). fault_in o.answer) (λ w. refl) (no_fault _ c) (bad_list ms) (no_module ms n)

  pub call_refused : 1 ≤ first_number (board_rows (length ms) n) →
      Refuses (refuse_call ms) (first_number (board_rows (length ms) n)) (board_of ms n c)
  unfolding board_of bad_list no_module
  call_refused = refuses (refuse_call ms) _ (bad_list ms) (no_module ms n)

  pub call_refused_unchanged : 1 ≤ fault_in (board_of ms n c).answer → (board_of ms n c).after ≡ ms
  unfolding refuse_call
  call_refused_unchanged h = ap (λ (o : Boarded). o.after) (call_refused (rw call_refused_exactly at h)).is

  pub call_is : first_number (board_rows (length ms) n) ≡ 0 →
      ((board_of ms n c).answer ≡ answer_alone (module_at ms n) c) × ((board_of ms n c).after ≡ set ms n (after_alone (module_at ms n) c))
  unfolding board_of bad_list no_module
  call_is e =
      let is : board_of ms n c ≡ _ = hands_on (refuse_call ms) _ (bad_list ms) (no_module ms n) e in
      (ap (λ (o : Boarded). o.answer) is, ap (λ (o : Boarded). o.after) is)

-- A linked run of two.
module _ (ms : List Module) (a b limit : ℕ) where
  pub pair_refused_exactly_lem : pair_fault_in (pair_of ms a b limit).answer ≡ first_number (pair_rows (length ms) a b)
  unfolding pair_of bad_list no_pair no_module refuse_pair ran_of
  pair_refused_exactly_lem =
      by_rows (refuse_pair ms) _ (λ (o : Paired). pair_fault_in o.answer) (λ w. refl) refl (bad_list ms) (no_pair ms a b)

  pub pair_refused : 1 ≤ first_number (pair_rows (length ms) a b) →
      Refuses (refuse_pair ms) (first_number (pair_rows (length ms) a b)) (pair_of ms a b limit)
  unfolding pair_of bad_list no_pair no_module
  pair_refused = refuses (refuse_pair ms) _ (bad_list ms) (no_pair ms a b)

  pub pair_refused_unchanged_lem : 1 ≤ pair_fault_in (pair_of ms a b limit).answer → (pair_of ms a b limit).after ≡ ms
  unfolding refuse_pair
  pair_refused_unchanged_lem h = ap (λ (o : Paired). o.after) (pair_refused (rw pair_refused_exactly_lem at h)).is

  pub pair_is : first_number (pair_rows (length ms) a b) ≡ 0 → pair_of ms a b limit ≡ ran_of ms a b (linked_of (module_at ms a) (module_at ms b) limit)
  unfolding pair_of bad_list no_pair no_module
  pair_is = hands_on (refuse_pair ms) _ (bad_list ms) (no_pair ms a b)

-- Places.
below : (ms : List Module) (n : ℕ) → no_module ms n ≡ false → n < length ms
unfolding no_module
below ms n e = leb-false (length ms) n e

pub named_below : (ms : List Module) (n : ℕ) → first_number (board_rows (length ms) n) ≡ 0 → n < length ms
unfolding bad_list no_module
named_below ms n e = below ms n (two_rows (bad_list ms) (no_module ms n) e).1

pub record TwoPlaces (ms : List Module) (a b : ℕ) : Type 0 where
  pub first : a < length ms
  pub second : b < length ms
  pub differ : a ≡ b → ⊥

pub places : (ms : List Module) (a b : ℕ) → first_number (pair_rows (length ms) a b) ≡ 0 → TwoPlaces ms a b
unfolding bad_list no_pair no_module
places ms a b e =
    let wrong = (two_rows (bad_list ms) (no_pair ms a b) e).1 in
    let rest = or_right (no_module ms a) _ wrong in
    record {
      first = below ms a (or_left (no_module ms a) _ wrong);
      second = below ms b (or_left (no_module ms b) _ rest);
      differ = eqb-false a b (or_right (no_module ms b) _ rest);
    }

-- One record is replaced.
module _ (ms : List Module) (n : ℕ) (m : Module) where
  pub replaced : n < length ms → at (set ms n m) n ≡ m
  replaced h = get_or-set_same ms n m powered_up h

  pub stays_at : (k : ℕ) → (n ≡ k → ⊥) → at (set ms n m) k ≡ at ms k
  stays_at k h = get_or-set_other ms n k m powered_up (λ e. h (sym e))

pub alone : (ms : List Module) (n : ℕ) → first_number (board_rows (length ms) n) ≡ 0 → Alone ms n
unfolding answer_alone after_alone module_at seen_of perform_of
alone ms n e =
    let here = named_below ms n e in
    let does : (c : BoardCall) → ((board_of ms n c).answer ≡ answer_alone (at ms n) c) × (at (board_of ms n c).after n ≡ after_alone (at ms n) c) =
    λ c. ((call_is ms n c e).0, ap (λ (l : List Module). at l n) (call_is ms n c e).1 ∙ replaced ms n _ here) in
    record {
      powered = does PowerUp;
      powered_at = λ words. does (PowerUpAt words);
      made = λ c. does (Make c);
      reported = λ f. does (Report f);
      shown = does Look;
      stepped = λ sck sdi ss. does (StepAndLook sck sdi ss);
      worded = λ ss word. does (MakeWord ss word);
      others = λ c. record {
        same = ap length (call_is ms n c e).1 ∙ length-set ms n _;
        stay = λ k off. ap (λ (l : List Module). at l k) (call_is ms n c e).1 ∙ stays_at ms n _ k (eqb-false n k off);
      };
    }

pub joined : (ms : List Module) (a b limit : ℕ) → first_number (pair_rows (length ms) a b) ≡ 0 → Joined ms a b limit
unfolding ran_of module_at
joined ms a b limit e =
    let p = places ms a b e in
    let l : Linked = linked_of (at ms a) (at ms b) limit in
    let host : List Module = set ms a l.host in
    let is = pair_is ms a b limit e in
    let list : (pair_of ms a b limit).after ≡ set host b l.client = ap (λ (o : Paired). o.after) is in
    let find : (k : ℕ) → at (pair_of ms a b limit).after k ≡ at (set host b l.client) k = λ k. ap (λ (x : List Module). at x k) list in
    record {
      answer = ap (λ (o : Paired). o.answer) is;
      host = find a ∙ stays_at host b l.client a (λ q. p.differ (sym q)) ∙ replaced ms a l.host p.first;
      client = find b ∙ replaced host b l.client (omega (arith, p.second, length-set ms a l.host));
      others =
          record {
            same = ap length list ∙ length-set host b l.client ∙ length-set ms a l.host;
            stay = λ k off.
                find k ∙ stays_at host b l.client k (eqb-false b k (or_right (eqb a k) _ off))
                ∙ stays_at ms a l.host k (eqb-false a k (or_left (eqb a k) _ off));
          };
    }
