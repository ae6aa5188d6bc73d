-- What a caller is told of a file that is played, and of one that is saved.
--     play_numbered   the number of playing a file
--     save_numbered   the number of saving a session
--     play_told       playing a trace file
-- Assumes nothing.
use Rattle.std.specs.Prelude.{◌≡◌, ◌*◌, Result, Ok, Err, MatchResult}
use Rattle.trace_rules.specs.declared.Fault.{Fault}
use Rattle.laws.proofs.Common.{ℕ, List, arith, ◌∙◌, ap}
use Rattle.trace_rules.specs.Trace.{is_made, fault_number_of}
use Rattle.trace_player.specs.Playing.{Plays}
use Rattle.trace_save_rules.specs.declared.NoRoom.{NoRoom}
use Rattle.trace_save_rules.specs.Save.{saved_number_of, saved_length_of}
use Rattle.thurafeqa.specs.Numbers.{play_number, save_number, PlayTells}

pub play_numbered : (x : Result ℕ Fault) (r : ℕ) →
    MatchResult x (λ count. r ≡ count) (λ fault. (n : ℕ) × (n ≡ fault_number_of fault) × (r ≡ n * 65536)) → r ≡ play_number x
unfolding play_number
play_numbered (Ok count) r h = omega (arith, h)
play_numbered (Err fault) r (n, is, h) = omega (arith, is, h)

pub save_numbered : (x : Result ℕ NoRoom) (r : ℕ) →
    MatchResult x (λ length. r ≡ length) (λ fault. (n : ℕ) × (n ≡ saved_number_of (Err fault)) × (r ≡ n * 65536)) → r ≡ save_number x
unfolding save_number saved_number_of saved_length_of
save_numbered (Ok length) r h = omega (arith, h)
save_numbered (Err fault) r (n, is, h) = omega (arith, is, h)

pub play_told : {f : List ℕ} {x : Result ℕ Fault} {r : ℕ} {a b : List ℕ} → Plays f x a b → r ≡ play_number x → PlayTells f r a b
play_told h e =
    record {
      number = e ∙ ap play_number h.answer;
      holds = h.ends;
      untouched = λ t. h.untouched (ap is_made h.answer ∙ t);
    }
