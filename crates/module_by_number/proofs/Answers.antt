-- A call that is answered tells the number of its answer.
--     told   what a caller is told of a call of one module
--     step-told   a clock step
--     link-told   a linked run
--     clock-refused, clock-told   a clock report, by its Result
-- Assumes nothing.
use Rattle.std.specs.Prelude.{◌*◌, ◌≡◌, Result, Ok, Err}
use Rattle.laws.proofs.Common.{ℕ, Bool, true, false, List, refl, sym, subst, ◌∙◌, ap, arith, eqb, when◌then◌else◌, not_so_eq}
use lib.Ieee.{Float}
use Rattle.module_rules.proofs.Types.{Answer, Outcome}
use Rattle.module_types.specs.declared.Settings.{Settings}
use Rattle.module_types.specs.declared.Refusal.{Refusal}
use Rattle.module_types.specs.declared.Refusal.TheVariants.{NoRate}
use Rattle.module_rules.specs.Refusals.{number_of}
use Rattle.link_rules.specs.declared.Linked.{Linked}
use Rattle.clock_rules.specs.declared.Clock.{Clock}
use Rattle.clock_rules.specs.Clock.{report_by, said_clock}
use Rattle.module_memory.specs.Memory.{module_in}
use Rattle.module_answers.specs.Answered.{untouching, Answers}
use Rattle.link_calls.specs.Wire.{is_refused, Links}
use Rattle.module_by_number.specs.Told.{answer_number, Tells, levels_number, step_number, StepTells, link_number, LinkTells, kind_number, clock_number, clock_floats, ClockTells}

pub told : {o : Outcome} {x : Answer} {r : ℕ} {a b : List ℕ} → Answers o x a b → r ≡ answer_number x → Tells o r a b
told h e =
    let same = ap (λ (o : Outcome). o.answer) h.outcome in
    record {
      number = e ∙ ap answer_number same;
      holds = ap (λ (o : Outcome). o.after) h.outcome;
      untouched = λ t. h.untouched (ap untouching same ∙ t);
    }

pub step-told : {o : Outcome} {x : Answer} {seen r : ℕ} {a b : List ℕ} → Answers o x a b → seen ≡ levels_number (module_in b) →
    r ≡ step_number x seen → StepTells o r a b
step-told {x = x} h look e =
    let same = ap (λ (o : Outcome). o.answer) h.outcome in
    record {
      number = e ∙ ap (step_number x) look ∙ ap (λ (o : Outcome). step_number o.answer (levels_number o.after)) h.outcome;
      holds = ap (λ (o : Outcome). o.after) h.outcome;
      untouched = λ t. h.untouched (ap untouching same ∙ t);
    }

pub link-told : {l : Linked} {x : Result ℕ Refusal} {r : ℕ} {a b c d : List ℕ} → Links l x a b c d → r ≡ link_number x →
    LinkTells l r a b c d
link-told h e =
    let same = ap (λ (l : Linked). l.answer) h.outcome in
    record {
      number = e ∙ ap link_number same;
      host_holds = ap (λ (l : Linked). l.host) h.outcome;
      client_holds = ap (λ (l : Linked). l.client) h.outcome;
      host_untouched = λ t. h.host_untouched (ap is_refused same ∙ t);
      client_untouched = λ t. h.client_untouched (ap is_refused same ∙ t);
    }

-- A clock report has one refusal, whose number is not 0.
abbrev refusal_in : Result Clock Refusal → ℕ
refusal_in (Err why) = number_of why
refusal_in (Ok clock) = 8

one_refusal : (b : Bool) (clock : Clock) → refusal_in (when b then Err NoRate else Ok clock) ≡ 8
unfolding when◌then◌else◌ number_of
one_refusal true clock = refl
one_refusal false clock = refl

module _ (s : Settings) (f : ℕ) {before : List Float} where
  pub clock-refused : {why : Refusal} {r : ℕ} → Err why ≡ report_by s f → r ≡ number_of why * 65536 →
      ClockTells (said_clock (report_by s f)) r before before
  unfolding said_clock clock_number clock_floats kind_number when◌then◌else◌
  clock-refused {why} {r} is e =
      let number : number_of why ≡ 8 = ap refusal_in is ∙ one_refusal (eqb f 0) _ in
      subst (λ (x : Result Clock Refusal). ClockTells (said_clock x) r before before) is
      (record { number = omega (arith, e); report = not_so_eq (number_of why) 0 _ _ (λ none. absurd (omega (arith, none, number))) refl })

  pub clock-told : {clock told : Clock} {r : ℕ} {after : List Float} → Ok clock ≡ report_by s f → clock ≡ told →
      ClockTells (said_clock (Ok told)) r before after → ClockTells (said_clock (report_by s f)) r before after
  clock-told {r = r} {after = after} is e h =
      subst (λ (x : Result Clock Refusal). ClockTells (said_clock x) r before after) is
      (subst (λ (x : Clock). ClockTells (said_clock (Ok x)) r before after) (sym e) h)
