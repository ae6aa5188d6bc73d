-- What a call answers that makes an edge.
--     left_alone, made_so        a call that is left, and one that is made
--     plain_on                   a module that is tested to be enabled and unframed
--     own_answers, pin_answers   a clock step of a host with its own clock, and of any other module
--     tick_answers, pins_answer  a tick and a pin call
-- Assumes nothing.
use Rattle.std.specs.Prelude.{◌&&◌, ◌≡◌}
use Rattle.laws.proofs.Common.{ℕ, Bool, true, false, not, List, refl, sym, ap, ◌∙◌, not-true, not-false, if_false}
use Rattle.laws.proofs.Common.{and_left, and_right, and-false, clash}
use Rattle.module_rules.proofs.Types.{Settings, Outcome, Answer, Done, Edge}
use Rattle.module_rules.specs.Settings.{framed, frame_client, clock_stops, own_clock}
use Rattle.module_rules.specs.Registers.{is_free}
use Rattle.module_rules.specs.Edge.{levels, stepped}
use Rattle.module_rules.specs.Calls.{clock_step_of, tick_of, pins_of}
use Rattle.module_rules.proofs.ClockSteps.{step_own, step_pin, tick_is_step, beside_pins}
use Rattle.module_memory.specs.Memory.{settings_in, engine_in, module_in, Steps}
use Rattle.module_answers.specs.Answered.{Answers, Made, turned}
use Rattle.module_answers.proofs.Answers.{changed, likewise, edge-told, answered}
use Rattle.module_answers.proofs.Edges.{told_turn}

module _ {o : Outcome} {x : Answer} {a : List ℕ} where
  pub left_alone : Made o x false a a
  left_alone = record { taken = λ e. clash false e refl; left = λ _. refl }

  pub made_so : {b : List ℕ} → Answers o x a b → Made o x true a b
  made_so h = record { taken = λ _. h; left = λ e. clash true refl e }

pub plain_on : (s : Settings) → not (s.spien && not (framed s)) ≡ false → (s.spien ≡ true) × (framed s ≡ false)
plain_on s e = (and_left _ _ (not-false _ e), not-true _ (and_right s.spien _ (not-false _ e)))

module _ {a b : List ℕ} (on : (settings_in a).spien ≡ true) where
  pub own_answers : (sck sdi ss : Bool) → own_clock (settings_in a) ≡ true → frame_client (settings_in a) ≡ false →
      is_free (engine_in a).shift ≡ false → Steps (λ s. turned s sdi) a b → Answers (clock_step_of (module_in a) sck sdi ss) Done a b
  own_answers sck sdi ss own deaf busy step =
      changed refl
      (answered _ step
      (ap (turned (settings_in a) sdi) (sym (if_false (frame_client (settings_in a)) _ _ deaf)) ∙ told_turn (module_in a) sdi ss own)
      ∙ sym (step_own (module_in a) sck sdi ss on own (and-false (clock_stops (settings_in a)) _ busy)))

  pub pin_answers : (sck sdi ss : Bool) → own_clock (settings_in a) ≡ false → Steps (λ s. stepped s (levels sck sdi ss)) a b →
      Answers (clock_step_of (module_in a) sck sdi ss) Done a b
  pin_answers sck sdi ss pin step = changed refl (answered _ step refl ∙ sym (step_pin (module_in a) sck sdi ss on pin))

  pub tick_answers : (sdi ss : Bool) → own_clock (settings_in a) ≡ true → frame_client (settings_in a) ≡ false →
      is_free (engine_in a).shift ≡ false → Steps (λ s. turned s sdi) a b → Answers (tick_of (module_in a) sdi ss) Edge a b
  tick_answers sdi ss own deaf busy step =
      likewise (edge-told (own_answers false sdi ss own deaf busy step) refl) (sym (tick_is_step (module_in a) sdi ss own))

  pub pins_answer : (sck sdi ss : Bool) → own_clock (settings_in a) ≡ false → Steps (λ s. stepped s (levels sck sdi ss)) a b →
      Answers (pins_of (module_in a) sck sdi ss) Done a b
  pins_answer sck sdi ss pin step = likewise (pin_answers sck sdi ss pin step) (beside_pins (module_in a) sck sdi ss pin)
