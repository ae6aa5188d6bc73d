-- The demands of specs/LinkDemands.antt, all of them.
--     linked_runs_lem   what the buyer signs for, of two modules on one wire
-- Assumes nothing.
use Rattle.std.specs.Prelude.{◌≤◌, ◌≡◌, Result, Ok, Err}
use Rattle.laws.proofs.Common.{ℕ, zero-le, refl, sym, subst, ◌∙◌, arith, lit≤}
use Rattle.module_rules.proofs.Types.{Module, Refusal, NoSuchRegister, Disabled, Enabled, TransmitFull, ReceiveEmpty}
use Rattle.module_rules.proofs.Types.{WrongClock, NoRate, UnreadableLine, DifferentModes, TooManyEdges, Undivided}
use Rattle.module_rules.proofs.Types.{LateSampling, UnselectedCke, Overflowed, NoSuchDepth}
use Rattle.module_rules.specs.Refusals.{number_of}
use Rattle.module_rules.specs.Lives.{begins, life}
use Rattle.module_rules.specs.Demands.{edges_still_owed}
use Rattle.module_order.proofs.Order.{life_holds}
use Rattle.module_edges_owed.proofs.Hold.{owed_is_held}
use Rattle.link_rules.specs.Link.{linked_of, link_said_of}
use Rattle.link_rules.specs.LinkDemands.{refusal_of, edges_used, LinkedRuns}
use Rattle.link_page.proofs.LinkRuns.{link_when, link_refused_unchanged, link_calls_lem, link_counts, link_within_limit}
use Rattle.link_page.proofs.LinkIdle.{owed_most, host_on_lem, link_uses_owed}
use Rattle.link_page.proofs.LinkSelect.{link_selected}
use Rattle.link_page.proofs.LinkRefusals.{link_refused_exactly}
use Rattle.link_rules.proofs.LinkPageHolds.{life_goes_on}
use Rattle.link_rules.proofs.LinkExamplesHold.{link_examples_hold}

-- No refusal has the number 0.
numbered : (r : Refusal) → 1 ≤ number_of r
unfolding number_of
numbered NoSuchRegister = lit≤ tt
numbered Disabled = lit≤ tt
numbered Enabled = lit≤ tt
numbered TransmitFull = lit≤ tt
numbered ReceiveEmpty = lit≤ tt
numbered WrongClock = lit≤ tt
numbered NoRate = lit≤ tt
numbered UnreadableLine = lit≤ tt
numbered DifferentModes = lit≤ tt
numbered TooManyEdges = lit≤ tt
numbered Undivided = lit≤ tt
numbered LateSampling = lit≤ tt
numbered UnselectedCke = lit≤ tt
numbered Overflowed = lit≤ tt
numbered NoSuchDepth = lit≤ tt

-- An answer with the number 0 tells the edges used, and one with another number is a refusal.
is_used : (a : Result ℕ Refusal) → (link_said_of a).number ≡ 0 → a ≡ Ok (link_said_of a).edges
unfolding link_said_of
is_used (Err r) e = absurd (omega (arith, numbered r, e))
is_used (Ok n) e = refl

refused_by : {P : Type 0} (a : Result ℕ Refusal) → 1 ≤ (link_said_of a).number → ((r : Refusal) → a ≡ Err r → P) → P
unfolding link_said_of
refused_by (Err r) some k = k r refl
refused_by (Ok n) some k = absurd (omega (arith, some))

-- A refused run uses no edges.
within : (a : Result ℕ Refusal) (limit : ℕ) → ((n : ℕ) → a ≡ Ok n → n ≤ limit) → (link_said_of a).edges ≤ limit
unfolding link_said_of
within (Err r) limit h = zero-le
within (Ok n) limit h = h n refl

module _ (host client : Module) (limit : ℕ) where
  -- A run that is made tells the edges used.
  pub made : refusal_of host client limit ≡ 0 → (linked_of host client limit).answer ≡ Ok (edges_used host client limit)
  made e = is_used (linked_of host client limit).answer e

pub linked_runs_lem : LinkedRuns
linked_runs_lem =
    record {
      refused_exactly = link_refused_exactly;
      refused_unchanged = λ host client limit some.
          refused_by (linked_of host client limit).answer some (link_refused_unchanged host client limit);
      one_outcome = λ host client limit x y e f. e ∙ sym f;
      paper_examples = link_examples_hold;
      host_lives = λ b d cs ds limit e.
          (link_calls_lem (life b cs).now (life d ds).now limit _ (made (life b cs).now (life d ds).now limit e)).0
          ∙ life_goes_on (begins b) cs _;
      client_lives = λ b d cs ds limit e.
          (link_calls_lem (life b cs).now (life d ds).now limit _ (made (life b cs).now (life d ds).now limit e)).1
          ∙ life_goes_on (begins d) ds _;
      counts_edges = λ host client limit e. link_counts host client limit _ (made host client limit e);
      within_limit = λ host client limit.
          within (linked_of host client limit).answer limit (link_within_limit host client limit);
      uses_owed = λ b cs client limit e most.
          let host : Module = (life b cs).now in
          let used = made host client limit e in
          let on = host_on_lem host client limit (link_when host client limit _ used).0 in
          let held : edges_still_owed (life b cs) ≡ _ = owed_is_held (life b cs) ((life_holds b cs).tied on) in
          let all = link_uses_owed host client limit _ (life_holds b cs).holds.holds used (subst (λ (k : ℕ). k ≤ limit) held most) in
          (all.0 ∙ sym held, all.1);
      most_owed = λ b cs on.
          subst (λ (k : ℕ). k ≤ 544) (sym (owed_is_held (life b cs) ((life_holds b cs).tied on)))
          (owed_most (life b cs).now (life_holds b cs).holds.holds);
      stays_selected = λ host client limit e. link_selected host client limit _ (made host client limit e);
    }
