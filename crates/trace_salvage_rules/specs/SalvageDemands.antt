-- The customer's demands on salvaged traces. The record Salvages holds every statement, and proofs/SalvageDemandsHold.antt proves it. Right
-- contents, right records and levels are those of the page of trace files, and files are spoken of by their bytes, so that no rule is
-- its own judge.
use Rattle.std.specs.Prelude.{ℕ, zero, suc, ◌+◌, ◌-◌, ◌<◌, ◌≤◌, true, List, ◌++◌, Result, Ok, Err, ◌≡◌, ltb, length, take, drop}
use Rattle.laws.specs.Choice.{when◌then◌else◌}
use Rattle.trace_rules.specs.TraceBytes.{Bytes}
use Rattle.trace_rules.specs.TraceDemands.{most_bytes, most_sections, sections, start, size, record_at, end_before, Whole, Right, AllRight}
use Rattle.trace_salvage_rules.specs.declared.Salvaged.{Salvaged}
use Rattle.trace_salvage_rules.specs.declared.SalvageFault.{SalvageFault}
use Rattle.trace_salvage_rules.specs.Salvage.{told, salvaged_of, salvage_number_of, buffer_after}
use Rattle.trace_salvage_rules.specs.SalvageExamples.{salvage_examples}

-- A table of contents that is whole and gapless, of 1 to 64 sections: the file has all of it, and each section starts where the one
-- before it ends, the first behind the table. Neither the file nor its last stated end passes 65,535.
pub record Tabled (f : List ℕ) : Type 0 where
  pub some : 1 ≤ sections f
  pub most : sections f ≤ most_sections
  pub table : end_before f 0 ≤ length f
  pub gapless : (k : ℕ) → k < sections f → start f k ≡ end_before f k
  pub short : length f ≤ most_bytes
  pub end : end_before f (sections f) ≤ most_bytes

-- So many bytes of a file from a place on.
abbrev pub part : List ℕ → ℕ → ℕ → List ℕ
part f at n = take n (drop at f)

-- What section `k` keeps: a beginning of its bytes, behind which no right record stands that lies in the section and in the file. The
-- level is the one that the section has in the new file.
pub record Keeps (f new : List ℕ) (level : ℕ → ℕ) (k : ℕ) : Type 0 where
  pub inside : size new k ≤ size f k
  pub bytes : part new (start new k) (size new k) ≡ part f (start f k) (size new k)
  pub next : size new k + 4 ≤ size f k → start f k + (size new k + 4) ≤ length f →
      Right (sections f) (level k) k (record_at f (start f k + size new k)) → ⊥

-- A new file is right in Five's sense, so that it is refused neither with 17 nor with 18. It has as many sections, and each keeps the
-- longest beginning of whole, right records. Bytes stay bytes.
pub record Salvage (f new : List ℕ) : Type 0 where
  pub whole : Whole new
  pub right : AllRight new
  pub same : sections new ≡ sections f
  pub keeps : (k : ℕ) → k < sections f → Keeps f new right.level k
  pub bytes : Bytes f → Bytes new

-- The sections below number `n` whose length fell, and the lengths of those, together.
abbrev pub fell : List ℕ → List ℕ → ℕ → ℕ
fell f new zero = 0
fell f new (suc n) = fell f new n + (when ltb (size new n) (size f n) then 1 else 0)

abbrev pub lengths : List ℕ → ℕ → ℕ
lengths f zero = 0
lengths f (suc n) = lengths f n + size f n

-- What salvaging a file in a lent buffer answers and leaves: the number of its refusal, 0 if it is salvaged; the sections cut, the bytes
-- lost and the new file's length, 0 if refused; and the buffer, that of before if refused, else the new file and behind it the bytes of
-- before.
pub data Outcome (f buffer : List ℕ) : ℕ → ℕ → ℕ → ℕ → List ℕ → Type 0 where
  -- the contents are not whole or gapless, or the file or its last stated end passes 65,535
  wrong_contents : (Tabled f → ⊥) → Outcome f buffer 17 0 0 0 buffer
  -- the buffer is too small
  no_room : {new : List ℕ} → Tabled f → Salvage f new → length buffer < length new → Outcome f buffer 20 0 0 0 buffer
  salvaged : {new : List ℕ} → Tabled f → Salvage f new → length new ≤ length buffer →
      Outcome f buffer 0 (fell f new (sections f)) (lengths f (sections f) - lengths new (sections f)) (length new)
      (new ++ drop (length new) buffer)

-- The numbers of an answer.
abbrev pub cut_in : Result Salvaged SalvageFault → ℕ
cut_in (Err e) = 0
cut_in (Ok s) = s.cut

abbrev pub lost_in : Result Salvaged SalvageFault → ℕ
lost_in (Err e) = 0
lost_in (Ok s) = s.lost

abbrev pub length_in : Result Salvaged SalvageFault → ℕ
length_in (Err e) = 0
length_in (Ok s) = s.length

-- Salvaging has the outcome said above, and of a file of bytes there is no other. A right file of bytes, in a buffer of at least its
-- length, is its own salvage; and salvaging twice is salvaging once.
pub record Salvages : Type 0 where
  pub paper_examples : salvage_examples ≡ true
  pub answers : (f buffer : List ℕ) →
      let a = salvaged_of f (length buffer) in Outcome f buffer (salvage_number_of a) (cut_in a) (lost_in a) (length_in a) (buffer_after f buffer)
  pub one_outcome : (f buffer : List ℕ) → Bytes f → {a b c d x y z w : ℕ} {u v : List ℕ} →
      Outcome f buffer a b c d u → Outcome f buffer x y z w v → (a ≡ x) × (b ≡ y) × (c ≡ z) × (d ≡ w) × (u ≡ v)
  pub own : (f buffer : List ℕ) → Bytes f → Whole f → AllRight f → length f ≤ length buffer →
      (salvaged_of f (length buffer) ≡ Ok (told 0 0 (length f))) × (buffer_after f buffer ≡ f ++ drop (length f) buffer)
  pub twice : (f buffer : List ℕ) (cut lost n : ℕ) → salvaged_of f (length buffer) ≡ Ok (told cut lost n) →
      let new = take n (buffer_after f buffer) in
      (salvaged_of new (length buffer) ≡ Ok (told 0 0 n)) × (buffer_after new (buffer_after f buffer) ≡ buffer_after f buffer)
