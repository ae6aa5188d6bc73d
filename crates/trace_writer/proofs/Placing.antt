-- A file is written part by part, and the parts that are left complete the buffer.
--     put_front            a text at the start of a buffer, and behind it the buffer's own bytes
--     put_byte, put_over   bytes put one by one: one more, and the end
--     half_bytes, word_bytes   numbers of two and four bytes
--     put_on, length_on    one text more
--     Writing              what holds of a loop that writes
--     writing_first, writing_room, writing_on, writing_ends
--     Heading              what holds besides of the loop that writes a table of contents
--     parts_from            what is left of the sections
-- Assumes nothing.
use Rattle.std.specs.Prelude.{◌+◌, ◌-◌, ◌*◌, ◌/◌, ◌%◌, ◌<◌, ◌≤◌, ◌∷◌, ◌++◌, ◌≡◌}
use Rattle.std.specs.Int.{w16, w32, to_le_bytes}
use Rattle.laws.proofs.Common.{ℕ, zero, suc, List, [], refl, sym, ap, ap₂, ◌∙◌, arith}
use Rattle.laws.proofs.Common.{length, drop, get_or, set, length-append, drop_of_length-le, drop-cons}
use native.Mathlib.Numerals.{add-one}
use lib.Seq.{sets, sets-eq}
use Rattle.script_rules.specs.Texts.{put, Written}
use Rattle.script_rules.proofs.Texts.{put_then, put_length}
use Rattle.trace_rules.specs.TraceBytes.{half, word, joined, sections_from}
use Rattle.trace_writer.specs.Heads.{table_of, head_of, part_of, put_parts, Within}

-- A text at the start of a buffer.
put_sets : (buffer : List ℕ) (place : ℕ) (text : List ℕ) → put buffer place text ≡ sets buffer place text
unfolding put
put_sets buffer place [] = refl
put_sets buffer place (b ∷ bs) = rw add-one (put_sets (set buffer place b) (suc place) bs)

pub put_front : (buffer text : List ℕ) → length text ≤ length buffer → put buffer 0 text ≡ text ++ drop (length text) buffer
put_front buffer text h =
    put_sets buffer 0 text
    ∙ sets-eq text buffer 0 (omega arith)
    ∙ ap (λ (k : ℕ). text ++ drop k buffer) (let same : 0 + length text ≡ length text = omega arith in same)

-- Numbers of two and four bytes.
pub half_bytes : (n : ℕ) → n < 65536 → to_le_bytes w16 n ≡ half n
half_bytes n low = ap (λ (b : ℕ). n % 256 ∷ b ∷ []) (let same : n / 256 % 256 ≡ n / 256 = omega arith in same)

pub word_bytes : (n : ℕ) → n < 4294967296 → to_le_bytes w32 n ≡ word n
word_bytes n low =
    let first : n % 256 ≡ n % 65536 % 256 = omega arith in
    let second : n / 256 % 256 ≡ n % 65536 / 256 = omega arith in
    let third : n / 16777216 % 256 ≡ n / 65536 / 256 = omega arith in
    cc

-- Of bytes put one by one: one more, and the end.
module _ (out bytes : List ℕ) (at i : ℕ) {wanted : List ℕ} (h : put out (at + i) (drop i bytes) ≡ wanted) where
  pub put_byte : i < length bytes → put (set out (at + i) (get_or bytes i 0)) (at + (i + 1)) (drop (i + 1) bytes) ≡ wanted
  unfolding put
  put_byte more =
      ap₂ (λ (k j : ℕ). put (set out (at + i) (get_or bytes i 0)) k (drop j bytes))
      (let place : at + (i + 1) ≡ at + i + 1 = omega arith in place) (let next : i + 1 ≡ suc i = omega arith in next)
      ∙ sym (ap (put out (at + i)) (drop-cons bytes i 0 more))
      ∙ h

  pub put_over : length bytes ≤ i → out ≡ wanted
  unfolding put
  put_over over = sym (ap (put out (at + i)) (drop_of_length-le bytes over)) ∙ h

-- One text more.
module _ {text before after : List ℕ} {place next : ℕ} (t : Written text before place after next) where
  pub put_on : (rest wanted : List ℕ) → put before place (text ++ rest) ≡ wanted → put after next rest ≡ wanted
  put_on rest wanted h = cc (t.buffer, t.behind, put_then before place text rest, h)

  pub length_on : length after ≡ length before
  length_on = ap length t.buffer ∙ put_length before place text

-- What holds of a loop that writes: the text that is left, put behind what is written, completes the buffer, and ends at a place in it.
pub record Writing (wanted : List ℕ) (end : ℕ) (left out : List ℕ) (place : ℕ) : Type 0 where
  pub behind : place + length left ≡ end
  pub room : end ≤ length out
  pub completes : put out place left ≡ wanted

pub writing_first : {left out : List ℕ} {place : ℕ} → place + length left ≤ length out →
    Writing (put out place left) (place + length left) left out place
writing_first h = record { behind = refl; room = h; completes = refl }

module _ {wanted left out : List ℕ} {end place : ℕ} (w : Writing wanted end left out place) where
  pub writing_ends : left ≡ [] → (out ≡ wanted) × (place ≡ end)
  unfolding put
  writing_ends none = (sym (ap (put out place) none) ∙ w.completes, omega (arith, w.behind, ap length none))

  module _ (text rest : List ℕ) (more : left ≡ text ++ rest) where
    pub writing_room : place + length text ≤ length out
    writing_room = omega (arith, w.behind, w.room, ap length more, length-append text rest)

    pub writing_on : {after : List ℕ} {next : ℕ} → Written text out place after next → Writing wanted end rest after next
    writing_on t =
        record {
          behind = omega (arith, w.behind, t.behind, ap length more, length-append text rest);
          room = omega (arith, w.room, length_on t);
          completes = put_on t rest wanted (ap (put out place) (sym more) ∙ w.completes);
        }

-- Sections left from one on.
left_more : (n k : ℕ) → k < n → n - k ≡ suc (n - (k + 1))
left_more n k h = omega arith

-- The table of contents.
table_length : (sizes : List ℕ) (at n k : ℕ) → length (table_of sizes at n k) ≡ 8 * n
table_length sizes at zero k = refl
table_length sizes at (suc n) k = omega (arith, table_length sizes (at + get_or sizes k 0) n (k + 1))

pub head_length : (n : ℕ) (sizes : List ℕ) → length (head_of n sizes) ≡ 2 + 8 * n
unfolding head_of
head_length n sizes = omega (arith, table_length sizes (2 + 8 * n) n 0)

pub record Heading (sizes wanted : List ℕ) (n k at : ℕ) (out : List ℕ) (place : ℕ) : Type 0 where
  pub few : k ≤ n
  pub low : at ≤ 2 + 8 * n + 65535 * k
  pub writes : Writing wanted (2 + 8 * n) (table_of sizes at (n - k) k) out place

pub heading_first : (sizes out : List ℕ) (n place : ℕ) → place ≡ 2 → 2 + 8 * n ≤ length out →
    Heading sizes (put out place (table_of sizes (2 + 8 * n) n 0)) n 0 (2 + 8 * n) out place
heading_first sizes out n place here room =
    record {
      few = omega arith;
      low = omega arith;
      writes =
          record {
            behind = omega (arith, table_length sizes (2 + 8 * n) (n - 0) 0);
            room = room;
            completes = ap (λ (i : ℕ). put out place (table_of sizes (2 + 8 * n) i 0)) (let same : n - 0 ≡ n = omega arith in same);
          };
    }

module _ {sizes wanted : List ℕ} {n k at place : ℕ} {out : List ℕ} (h : Heading sizes wanted n k at out place) where
  pub heading_goes_on : {size second next : ℕ} {middle after : List ℕ} → k < n → size ≡ get_or sizes k 0 → size ≤ 65535 →
      Written (word at) out place middle second → Written (word size) middle second after next →
      Heading sizes wanted n (k + 1) (at + size) after next
  heading_goes_on {size} more is small s t =
      record {
        few = omega arith;
        low = omega (arith, h.low);
        writes =
            writing_on
            (writing_on h.writes (word at) (word size ++ table_of sizes (at + size) (n - (k + 1)) (k + 1))
            (ap (λ (i : ℕ). table_of sizes at i k) (left_more n k more)
            ∙ ap (λ (m : ℕ). word at ++ (word m ++ table_of sizes (at + m) (n - (k + 1)) (k + 1))) (sym is))
            s)
            (word size) _ refl t;
      }

  pub heading_ends : n ≤ k → (out ≡ wanted) × (place ≡ 2 + 8 * n)
  heading_ends over =
      writing_ends h.writes (ap (λ (i : ℕ). table_of sizes at i k) (let none : n - k ≡ 0 = omega arith in none))

-- The head of a file, from its two parts.
pub head_is : {before after out : List ℕ} {next : ℕ} (n : ℕ) (sizes : List ℕ) → Written (half n) before 0 after next →
    out ≡ put after next (table_of sizes (2 + 8 * n) n 0) → out ≡ put before 0 (head_of n sizes)
unfolding head_of
head_is {before} {after} {out} n sizes t e =
    e ∙ put_on t (table_of sizes (2 + 8 * n) n 0) (put before 0 (half n ++ table_of sizes (2 + 8 * n) n 0)) refl

-- The sections that are left from one on: all, the first and the rest, and none.
module _ (f sizes : List ℕ) (n k : ℕ) where
  abbrev pub parts_from : List ℕ
  parts_from = joined (sections_from (part_of f sizes) (n - k) k)

  pub parts_more : k < n → parts_from ≡ part_of f sizes k ++ joined (sections_from (part_of f sizes) (n - (k + 1)) (k + 1))
  parts_more more = ap (λ (i : ℕ). joined (sections_from (part_of f sizes) i k)) (left_more n k more)

  pub parts_none : n ≤ k → parts_from ≡ []
  parts_none over = ap (λ (i : ℕ). joined (sections_from (part_of f sizes) i k)) (let none : n - k ≡ 0 = omega arith in none)

pub parts_first : {f sizes out : List ℕ} {n place : ℕ} → Within f n sizes place out →
    Writing (put_parts f n sizes place out) (place + length (joined (sections_from (part_of f sizes) n 0))) (parts_from f sizes n 0) out place
parts_first {f} {sizes} {out} {n} {place} w =
    let all = ap (λ (i : ℕ). joined (sections_from (part_of f sizes) i 0)) (let same : n - 0 ≡ n = omega arith in same) in
    record { behind = omega (arith, ap length all); room = w.room; completes = ap (put out place) all }
