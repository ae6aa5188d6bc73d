-- What a linked run comes to at both ends.
--     kept, changed   a run that is refused, and one that is not
-- Assumes nothing.
use Rattle.std.specs.Prelude.{◌≡◌, Result}
use Rattle.laws.proofs.Common.{ℕ, false, List, refl, clash}
use Rattle.module_types.specs.declared.Refusal.{Refusal}
use Rattle.link_rules.specs.declared.Linked.{Linked}
use Rattle.link_calls.specs.Wire.{linked_in, is_refused, Links}

module _ {l : Linked} {x : Result ℕ Refusal} where
  pub kept : {a c : List ℕ} → linked_in x a c ≡ l → Links l x a a c c
  kept e = record { outcome = e; host_untouched = λ _. refl; client_untouched = λ _. refl }

  pub changed : {a b c d : List ℕ} → is_refused x ≡ false → linked_in x b d ≡ l → Links l x a b c d
  changed k e =
      record {
        outcome = e;
        host_untouched = λ t. clash (is_refused x) t k;
        client_untouched = λ t. clash (is_refused x) t k;
      }
