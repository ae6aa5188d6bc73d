-- A linked run of two modules in memory: what it comes to.
use Rattle.std.specs.Prelude.{ℕ, Bool, true, false, not, ◌&&◌, List, ◌≡◌, Result, Ok, Err}
use Rattle.module_types.specs.declared.Module.{Module}
use Rattle.module_types.specs.declared.Refusal.{Refusal}
use Rattle.link_rules.specs.declared.Run.{Run}
use Rattle.link_rules.specs.declared.Linked.{Linked}
use Rattle.module_memory.specs.Memory.{module_in}

-- The level of an SDO that is driven unless DISSDO is set.
unfoldable pub open_level : Module → Bool
open_level m = not m.settings.con1.dissdo && m.engine.pins.sdo

-- A run as it stands in two memories.
abbrev pub run_in : ℕ → List ℕ → List ℕ → Run
run_in used host client = record { used = used; host = module_in host; client = module_in client }

-- An answer with the modules that two memories hold.
abbrev pub linked_in : Result ℕ Refusal → List ℕ → List ℕ → Linked
linked_in a host client = record { answer = a; host = module_in host; client = module_in client }

abbrev pub is_refused : Result ℕ Refusal → Bool
is_refused (Err r) = true
is_refused (Ok n) = false

-- A run answers as its definition says, and the two memories then hold the definition's modules. A refused run leaves every
-- number as it was.
pub record Links (l : Linked) (a : Result ℕ Refusal) (host hostAfter client clientAfter : List ℕ) : Type 0 where
  pub outcome : linked_in a hostAfter clientAfter ≡ l
  pub host_untouched : is_refused a ≡ true → hostAfter ≡ host
  pub client_untouched : is_refused a ≡ true → clientAfter ≡ client
