-- Playing lines, as the loop of a piece does it: one at a time, each into the buffer behind the others.
--     ended_behind, ended_past, goes_on   what playing the next line comes to, behind the last byte, past the last line, and else
--     cut_part, read_again, played_read, answers_read
--                                         cutting a script that is cut changes nothing
--     Playing                             what holds of the loop: the lines that are left finish the piece
--     playing_goes_on, playing_ends
-- Assumes nothing.
use Rattle.std.specs.Prelude.{◌+◌, ◌*◌, ◌-◌, ◌≤◌, ◌<◌, ◌||◌, ◌++◌, ◌≡◌, Option}
use Rattle.laws.proofs.Common.{ℕ, zero, suc, Bool, true, false, List, append-nil}
use Rattle.laws.proofs.Common.{refl, sym, ◌∙◌, ap, arith, le-leb, lt-leb, lt-ltb, le-ltb, leb, length, take, drop}
use Rattle.laws.proofs.Common.{length-append, take-take, when◌then◌else◌}
use Rattle.module_types.specs.declared.Module.{Module}
use Rattle.module_types.specs.declared.Call.{Call}
use Rattle.script_rules.specs.declared.Session.{Session}
use Rattle.script_rules.specs.Script.{most_bytes, read_from, reading_of, line_after, answer_line}
use Rattle.script_rules.specs.Session.{first_line, bytes_left, ended, line_of, line_played, played, answers, piece_lines, piece_after, piece_text}
use Rattle.script_rules.specs.Texts.{put, Written}
use Rattle.script_rules.proofs.ScriptLines.{read_part}
use Rattle.script_rules.proofs.ScriptSizes.{answers_fit, piece_fits_lem}
use Rattle.script_rules.proofs.SessionWhole.{ended_stays, ended_answers, played_add, answers_add}
use Rattle.script_rules.proofs.Texts.{put_then, written_none, written_case, put_length}

or-true : (a : Bool) → (a || true) ≡ true
or-true true = refl
or-true false = refl

-- What playing the next line of a cut script comes to: nothing where the script has ended, and otherwise what reading, asking and
-- answering the line come to.
abbrev PlaysLine : List ℕ → Session → Session → List ℕ → ℕ → List ℕ → ℕ → Type 0
PlaysLine script s to before place after next = (to ≡ played 1 script s) × Written (answers 1 script s) before place after next

module _ (script : List ℕ) (cut : read_from script ≡ script) (s : Session) where
  stays : ended script s ≡ true → (out : List ℕ) (w : ℕ) → PlaysLine script s s out w out w
  stays e out w = (sym (ended_stays script 1 s e), rw (ended_answers script 1 s e) (written_none out w))

  pub ended_behind : length script ≤ s.at → (out : List ℕ) (w : ℕ) → PlaysLine script s s out w out w
  unfolding ended
  ended_behind h = stays (rw (cut, le-leb (length script) s.at h))

  pub ended_past : 65535 < s.lines → (out : List ℕ) (w : ℕ) → PlaysLine script s s out w out w
  unfolding ended most_bytes
  ended_past h = stays (rw (lt-ltb 65535 s.lines h) (or-true (leb (length (read_from script)) s.at)))

  pub goes_on : s.at < length script → s.lines ≤ 65535 → (line : Option Call) → line ≡ reading_of (first_line (drop s.at script)) →
      (end : ℕ) → end ≡ s.at + length (first_line (drop s.at script)) → (spi : Module) → spi ≡ line_after s.spi line →
      {before after : List ℕ} {place next : ℕ} → Written (answer_line (s.lines + 1) s.spi line) before place after next →
      PlaysLine script s (record { spi = spi; lines = s.lines + 1; at = end + 1 }) before place after next
  unfolding ended most_bytes line_of bytes_left line_played played answers when◌then◌else◌
  goes_on h k line reads end ends spi moves t =
      rw (cut, lt-leb (length script) s.at h, le-ltb 65535 s.lines k, append-nil) (cc, rw (← reads) t)

-- Cutting once more.
pub read_again : (input : List ℕ) → read_from (read_from input) ≡ read_from input
unfolding read_from
read_again input = take-take most_bytes most_bytes input (omega arith)

pub cut_part : (input : List ℕ) (n : ℕ) → n ≡ length (read_from input) → read_from (take n input) ≡ take n input
cut_part input n e = rw (read_part input n e) (read_again input)

pub played_read : (count : ℕ) (input : List ℕ) (s : Session) → played count (read_from input) s ≡ played count input s
unfolding played ended line_played line_of bytes_left
played_read zero input s = refl
played_read (suc count) input s = cc (read_again input, played_read count input (line_played input s))

pub answers_read : (count : ℕ) (input : List ℕ) (s : Session) → answers count (read_from input) s ≡ answers count input s
unfolding answers ended line_played line_of bytes_left
answers_read zero input s = refl
answers_read (suc count) input s = cc (read_again input, answers_read count input (line_played input s))

-- What holds of the loop after k of n lines: the lines that are left finish the piece.
pub record Playing (n : ℕ) (script : List ℕ) (from : Session) (empty : List ℕ) (k : ℕ) (s : Session) (w : ℕ) (out : List ℕ) : Type 0 where
  pub within : k ≤ n
  pub room : w ≤ 16 * k
  pub session : played (n - k) script s ≡ played n script from
  pub buffer : put out w (answers (n - k) script s) ≡ put empty 0 (answers n script from)
  pub behind : w + length (answers (n - k) script s) ≡ length (answers n script from)

module _ {n : ℕ} {script : List ℕ} {from : Session} {empty : List ℕ} {k : ℕ} {s : Session} {w : ℕ} {out : List ℕ}
    (h : Playing n script from empty k s w out) where
  pub playing_goes_on : {s' : Session} {w' : ℕ} {out' : List ℕ} → k < n → s' ≡ played 1 script s →
      Written (answers 1 script s) out w out' w' → Playing n script from empty (k + 1) s' w' out'
  playing_goes_on {s'} {w'} {out'} less e t =
      let one : n - k ≡ 1 + (n - (k + 1)) = omega arith in
      let split : answers (n - k) script s ≡ answers 1 script s ++ answers (n - (k + 1)) script s' =
      cc (e, answers_add script 1 (n - (k + 1)) s, ap (λ (i : ℕ). answers i script s) one) in
      record {
        within = omega arith;
        room = omega (arith, h.room, t.behind, answers_fit 1 script s);
        session = cc (h.session, e, played_add script 1 (n - (k + 1)) s, ap (λ (i : ℕ). played i script s) one);
        buffer = cc (h.buffer, t.buffer, t.behind, split, put_then out w (answers 1 script s) (answers (n - (k + 1)) script s'));
        behind =
            omega (
              arith,
              h.behind,
              t.behind,
              ap length split,
              length-append (answers 1 script s) (answers (n - (k + 1)) script s'),
            );
      }

  pub playing_ends : n ≤ k → (s ≡ played n script from) × Written (answers n script from) empty 0 out w
  unfolding played answers put
  playing_ends e =
      let none : n - k ≡ 0 = omega arith in (
        ap (λ (i : ℕ). played i script s) (sym none) ∙ h.session,
        record {
          buffer = ap (λ (i : ℕ). put out w (answers i script s)) (sym none) ∙ h.buffer;
          behind = omega (arith, h.behind, ap (λ (i : ℕ). length (answers i script s)) none);
        },
      )

-- A piece is 256 lines.
pub piece_ends : (input : List ℕ) (n : ℕ) {from : Session} {empty out : List ℕ} {k w : ℕ} {s : Session} →
    n ≡ length (read_from input) → Playing 256 (take n input) from empty k s w out → 256 ≤ k →
    (s ≡ piece_after input from) × Written (piece_text input from) empty 0 out w × (w ≤ 4096) × (length out ≡ length empty)
unfolding piece_lines piece_after piece_text
piece_ends input n {from} e h stop =
    let ends = playing_ends h stop in
    let part = read_part input n e in
    let text : piece_text input from ≡ answers 256 (take n input) from =
    cc (part, answers_read 256 input from) in (
      cc (ends.0, part, played_read 256 input from),
      written_case (λ (t : List ℕ). t) text ends.1,
      omega (arith, ends.1.behind, ap length text, piece_fits_lem input from),
      ap length ends.1.buffer ∙ put_length _ 0 (answers 256 (take n input) from),
    )
