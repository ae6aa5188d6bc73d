-- Every module that calls reach from power-up has the invariant of specs/Invariant.antt.
--     powered_up_holds   power-up has it
--     call_keeps         every call keeps it, refused or not, with any arguments
--     calls_keep         every list of calls keeps it
--     reached_holds      every list of calls from power-up gives it
-- Assumes nothing.
use Rattle.std.specs.Prelude.{◌∷◌, ◌≡◌}
use Rattle.laws.proofs.Common.{true, false, List, [], refl, arith, clash}
use Rattle.module_rules.proofs.Types.{Depth, Settings, Engine, Module, Answer, Call}
use Rattle.module_rules.specs.Registers.{con1_from, con2_from, low_bits}
use Rattle.module_rules.specs.Calls.{after_calls, answering, powered_at, clear_of, perform_of}
use Rattle.module_rules.specs.Invariant.{Emptied, ModuleHolds}
use Rattle.module_rules.proofs.Sizes.{low_bits_fit}
use Rattle.module_invariant.proofs.Parts.{HoldsAfter, BuffersHold, EngineHolds}
use Rattle.module_invariant.proofs.Shift.{shift_same}
use Rattle.module_invariant.proofs.Edge.{stepped_holds}
use Rattle.module_invariant.proofs.Engine.{engine_of, reached, reached_on, reached_off}
use Rattle.module_invariant.proofs.Buf.{word_taken_holds, word_written_holds}
use Rattle.module_invariant.proofs.Settings.{enabled_holds, disabled_holds, rewritten_holds, configured_holds}
use Rattle.module_invariant.proofs.CallCases.{call_cases}

-- Power-up has the invariant.
pub powered_up_holds : (depth : Depth) → ModuleHolds (powered_at depth)
unfolding powered_at con1_from con2_from
powered_up_holds depth =
    reached_off (powered_at depth) refl
    (record { sisel = omega arith; spre = omega arith; ppre = omega arith; allowed = λ on. clash false on refl })
    (record { transmit = refl; receive = refl; shift = refl })

-- A call that moves an enabled module's engine keeps the invariant if the engine holds.
moves_holds : (m : Module) (a : Answer) (n : Engine) → m.settings.spien ≡ true → ModuleHolds m →
    EngineHolds m.settings n → HoldsAfter (answering m a n)
unfolding answering
moves_holds m a n on h e = reached_on (record { settings = m.settings; engine = n }) on h.settings e

-- The clear call keeps the invariant.
clear_keeps : (m : Module) → ModuleHolds m → HoldsAfter (clear_of m)
unfolding clear_of answering
clear_keeps m h =
    let b : BuffersHold m.settings m.engine = (engine_of m h).buffers in
    reached _ h.settings
    (record {
      buffers = record { transmit = b.transmit; receive = b.receive };
      shift = shift_same m.settings m.engine _ _ _ _ _ _ _ _ _ (λ on. on) m.engine.shift (λ busy. refl) h.shift;
      rest = h.rest;
    })
    (λ off.
    let d : Emptied m.engine = h.emptied off in
    record { transmit = d.transmit; receive = d.receive; shift = d.shift })

-- Every call keeps the invariant, refused or not.
pub call_keeps : (m : Module) (c : Call) → ModuleHolds m → ModuleHolds (perform_of m c).after
call_keeps m c h =
    let s : Settings = m.settings in
    let e : EngineHolds s m.engine = engine_of m h in
    call_cases m HoldsAfter
    (record {
      same = λ a. h;
      taken = λ on plain v. moves_holds m _ _ on h (word_taken_holds s m.engine e);
      enables = enabled_holds m h;
      disables = λ on. disabled_holds m h;
      rewrites = rewritten_holds m h;
      configures = λ off c d spre ppre. configured_holds m h off c d (spre h.settings.spre) (ppre h.settings.ppre);
      written = λ on v. moves_holds m _ _ on h (word_written_holds s on m.engine e (low_bits s v) (low_bits_fit s v));
      seen = λ on a ok x busy. moves_holds m a _ on h (stepped_holds s on x.sck x.sdi x.ss m.engine busy e);
      cleared = clear_keeps m h;
    })
    c

-- Every list of calls keeps the invariant.
pub calls_keep : (cs : List Call) (m : Module) → ModuleHolds m → ModuleHolds (after_calls m cs)
calls_keep [] m h = h
calls_keep (c ∷ cs) m h = calls_keep cs (perform_of m c).after (call_keeps m c h)

-- What calls reach from power-up has the invariant.
pub reached_holds : (depth : Depth) (cs : List Call) → ModuleHolds (after_calls (powered_at depth) cs)
reached_holds depth cs = calls_keep cs (powered_at depth) (powered_up_holds depth)
