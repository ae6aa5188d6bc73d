-- A call that is refused, or that answers "no edge", leaves the module as it was, whatever the module.
--     refused_unchanged_lem   a refused call changes nothing
--     no_edge_unchanged   a tick or a clock step that makes no edge changes nothing
-- Assumes nothing.
use Rattle.std.specs.Prelude.{◌≡◌}
use Rattle.laws.proofs.Common.{refl, ap, clash}
use Rattle.module_rules.proofs.Types.{Module, Outcome, Refusal, Refused, NoEdge, Call}
use Rattle.module_rules.specs.Calls.{answering, clear_of, perform_of}
use Rattle.module_invariant.proofs.CallCases.{sees, call_cases}

-- An outcome after which a refusal, or no edge, leaves the module as it was.
abbrev pub Unmoved : Module → Outcome → Type 0
Unmoved m o = ((r : Refusal) → o.answer ≡ Refused r → o.after ≡ m) × (o.answer ≡ NoEdge → o.after ≡ m)

-- Every call keeps the module unless it is taken: an answer that tells so is no refusal, and not "no edge".
call_unmoved : (m : Module) (c : Call) → Unmoved m (perform_of m c)
unfolding answering clear_of
call_unmoved m =
    call_cases m (Unmoved m)
    (record {
      same = λ a. (λ r e. refl, λ e. refl);
      taken = λ on plain v. (λ r e. cc, λ e. cc);
      enables = λ off v up good. (λ r e. cc, λ e. cc);
      disables = λ on v down. (λ r e. cc, λ e. cc);
      rewrites = λ v same. (λ r e. cc, λ e. cc);
      configures = λ off c d spre ppre. (λ r e. cc, λ e. cc);
      written = λ on v. (λ r e. cc, λ e. cc);
      seen = λ on a ok x busy. (λ r e. clash (sees a) ok (ap sees e), λ e. clash (sees a) ok (ap sees e));
      cleared = (λ r e. cc, λ e. cc);
    })

-- A refused call leaves the module as it was.
pub refused_unchanged_lem : (m : Module) (c : Call) (r : Refusal) → (perform_of m c).answer ≡ Refused r →
    (perform_of m c).after ≡ m
refused_unchanged_lem m c = (call_unmoved m c).0

-- A call that answers "no edge" leaves the module as it was.
pub no_edge_unchanged : (m : Module) (c : Call) → (perform_of m c).answer ≡ NoEdge → (perform_of m c).after ≡ m
no_edge_unchanged m c = (call_unmoved m c).1
