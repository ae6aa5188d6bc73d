-- A file made of sections has right contents and reads back as those sections; and a file with right contents is made of its own.
--     file_count_lem, file_size_lem, file_body, file_length   what a file made of sections says
--     file_laid      its contents are right
--     file_bodies    it has those sections
--     body_length    a section of a right file has its stated length
--     file_back      a right file of bytes is made of its own sections
--     bytes_file     a file whose sections are bytes consists of bytes
--     placed_file, placed_behind, placed_length       a file placed in a buffer that has room for it
-- Assumes nothing.
use Rattle.std.specs.Prelude.{◌+◌, ◌*◌, ◌%◌, ◌<◌, ◌≤◌, ◌∷◌, ◌++◌, ◌≡◌}
use Rattle.laws.proofs.Common.{ℕ, zero, suc, List, [], refl, sym, ap, ap₂, ◌∙◌}
use Rattle.laws.proofs.Common.{arith, length, take, drop, get_or, length-append, length-drop, drop_of_length-le, drop_at}
use Rattle.laws.proofs.Common.{drop-drop, length-take-le, take_at}
use lib.ListN.{take-append-drop}
use lib.Seq.{drop-append-add, take-append_seam, take-add}
use Rattle.trace_rules.specs.Trace.{word_at, section_count, table_end, start_of, size_of, place_of, body_of, half_at, byte_at}
use Rattle.trace_rules.specs.TraceBytes.{half, word, table, joined, file, sections_from, Bytes, placed}
use Rattle.trace_page.proofs.TraceContents.{Laid, place_below, section_inside}
use Rattle.trace_bytes.proofs.TraceNumbers.{word_skip, two_bytes, word_here, half_of, word_at_lem, bytes_append, bytes_none, bytes_half, bytes_word}

-- Sections by their numbers.
module _ (body : ℕ → List ℕ) where
  pub sections_length : (n k : ℕ) → length (sections_from body n k) ≡ n
  sections_length zero k = refl
  sections_length (suc n) k = ap suc (sections_length n (k + 1))

  sections-from : (n k i : ℕ) → i < n → get_or (sections_from body n k) i [] ≡ body (k + i)
  sections-from zero k i h = absurd (omega arith)
  sections-from (suc n) k zero h = ap body (let same : k ≡ k + 0 = omega arith in same)
  sections-from (suc n) k (suc i) h =
      sections-from n (k + 1) i (omega arith) ∙ ap body (let same : (k + 1) + i ≡ k + suc i = omega arith in same)

  pub sections_at : (n k : ℕ) → k < n → get_or (sections_from body n 0) k [] ≡ body k
  sections_at n k h = sections-from n 0 k h ∙ ap body (let same : 0 + k ≡ k = omega arith in same)

pub sections_same : (a b : ℕ → List ℕ) (n k : ℕ) → ((j : ℕ) → j < k + n → a j ≡ b j) → sections_from a n k ≡ sections_from b n k
sections_same a b zero k same = refl
sections_same a b (suc n) k same =
    ap₂ (λ (x : List ℕ) (l : List (List ℕ)). x ∷ l) (same k (omega arith)) (sections_same a b n (k + 1) (λ j h. same j (omega arith)))

-- The bytes of the sections before one.
abbrev pub lengths_below : List (List ℕ) → ℕ → ℕ
lengths_below [] k = 0
lengths_below (b ∷ bs) zero = 0
lengths_below (b ∷ bs) (suc k) = length b + lengths_below bs k

none_below : (bs : List (List ℕ)) → lengths_below bs 0 ≡ 0
none_below [] = refl
none_below (b ∷ bs) = refl

more_below : (bs : List (List ℕ)) (k : ℕ) → lengths_below bs (suc k) ≡ lengths_below bs k + length (get_or bs k [])
more_below [] k = refl
more_below (b ∷ bs) zero = omega (arith, none_below bs)
more_below (b ∷ bs) (suc k) = omega (arith, more_below bs k)

-- The table.
table_length : (at : ℕ) (bs : List (List ℕ)) → length (table at bs) ≡ 8 * length bs
table_length at [] = refl
table_length at (b ∷ bs) = omega (arith, table_length (at + length b) bs)

table_start : (at : ℕ) (bs : List (List ℕ)) (rest : List ℕ) (k : ℕ) → k < length bs →
    word_at (table at bs ++ rest) (8 * k) ≡ at + lengths_below bs k
table_start at [] rest k h = absurd (omega arith)
table_start at (b ∷ bs) rest zero h =
    word_here at (word (length b) ++ (table (at + length b) bs ++ rest)) ∙ omega arith
table_start at (b ∷ bs) rest (suc k) h =
    ap (word_at (table at (b ∷ bs) ++ rest)) (let same : 8 * suc k ≡ 8 + 8 * k = omega arith in same)
    ∙ word_skip (word at ++ word (length b)) (table (at + length b) bs ++ rest) (8 * k)
    ∙ table_start (at + length b) bs rest k (omega arith)
    ∙ omega arith

table_size : (at : ℕ) (bs : List (List ℕ)) (rest : List ℕ) (k : ℕ) → k < length bs →
    word_at (table at bs ++ rest) (4 + 8 * k) ≡ length (get_or bs k [])
table_size at [] rest k h = absurd (omega arith)
table_size at (b ∷ bs) rest zero h =
    word_skip (word at) (word (length b) ++ (table (at + length b) bs ++ rest)) 0
    ∙ word_here (length b) (table (at + length b) bs ++ rest)
table_size at (b ∷ bs) rest (suc k) h =
    ap (word_at (table at (b ∷ bs) ++ rest)) (let same : 4 + 8 * suc k ≡ 8 + (4 + 8 * k) = omega arith in same)
    ∙ word_skip (word at ++ word (length b)) (table (at + length b) bs ++ rest) (4 + 8 * k)
    ∙ table_size (at + length b) bs rest k (omega arith)

-- The sections behind it.
joined_length : (bs : List (List ℕ)) → length (joined bs) ≡ lengths_below bs (length bs)
joined_length [] = refl
joined_length (b ∷ bs) = omega (arith, length-append b (joined bs), joined_length bs)

joined_at : (bs : List (List ℕ)) (k : ℕ) → k < length bs →
    take (length (get_or bs k [])) (drop (lengths_below bs k) (joined bs)) ≡ get_or bs k []
joined_at [] k h = absurd (omega arith)
joined_at (b ∷ bs) zero h = take-append_seam b (joined bs)
joined_at (b ∷ bs) (suc k) h =
    ap (take (length (get_or bs k []))) (drop-append-add b (joined bs) (lengths_below bs k)) ∙ joined_at bs k (omega arith)

-- The file.
module _ (bs : List (List ℕ)) where
  pub file_count_lem : section_count (file bs) ≡ length bs
  unfolding section_count half_at byte_at
  file_count_lem = two_bytes (length bs)

  pub file_length : length (file bs) ≡ (2 + 8 * length bs) + lengths_below bs (length bs)
  file_length =
      omega (
        arith,
        length-append (table (2 + 8 * length bs) bs) (joined bs),
        table_length (2 + 8 * length bs) bs,
        joined_length bs,
      )

  file-start : (k : ℕ) → k < length bs → start_of (file bs) k ≡ (2 + 8 * length bs) + lengths_below bs k
  unfolding start_of
  file-start k h =
      word_skip (half (length bs)) (table (2 + 8 * length bs) bs ++ joined bs) (8 * k)
      ∙ table_start (2 + 8 * length bs) bs (joined bs) k h

  pub file_size_lem : (k : ℕ) → k < length bs → size_of (file bs) k ≡ length (get_or bs k [])
  unfolding size_of
  file_size_lem k h =
      ap (word_at (file bs)) (let same : 6 + 8 * k ≡ 2 + (4 + 8 * k) = omega arith in same)
      ∙ word_skip (half (length bs)) (table (2 + 8 * length bs) bs ++ joined bs) (4 + 8 * k)
      ∙ table_size (2 + 8 * length bs) bs (joined bs) k h

  pub file_body : (k : ℕ) → k < length bs → body_of (file bs) k ≡ get_or bs k []
  unfolding body_of
  file_body k h =
      let front : List ℕ = half (length bs) ++ table (2 + 8 * length bs) bs in
      let reach : start_of (file bs) k ≡ length front + lengths_below bs k =
      omega (arith, file-start k h, table_length (2 + 8 * length bs) bs) in
      rw (file_size_lem k h, reach, drop-append-add front (joined bs) (lengths_below bs k)) (joined_at bs k h)

  pub file_place : (k : ℕ) → k ≤ length bs → place_of (file bs) k ≡ (2 + 8 * length bs) + lengths_below bs k
  unfolding table_end
  file_place zero h = omega (arith, file_count_lem, none_below bs)
  file_place (suc k) h = omega (arith, file_place k (omega arith), file_size_lem k (omega arith), more_below bs k)

  pub file_laid : 1 ≤ length bs → length bs ≤ 64 → ((k : ℕ) → k < length bs → length (get_or bs k []) % 4 ≡ 0) →
      length (file bs) ≤ 65535 → Laid (file bs)
  file_laid some most fours short =
      record {
        some = omega (arith, file_count_lem);
        most = omega (arith, file_count_lem);
        starts = λ k h. file-start k (omega (arith, file_count_lem)) ∙ sym (file_place k (omega (arith, file_count_lem)));
        records = λ k h.
            let i : k < length bs = omega (arith, file_count_lem) in
            ap (λ (n : ℕ). n % 4) (file_size_lem k i) ∙ fours k i;
        ends = ap (place_of (file bs)) file_count_lem ∙ file_place (length bs) (omega arith) ∙ sym file_length;
        size = short;
      }

-- A file's own sections. One that is made of sections has those.
abbrev pub bodies : List ℕ → List (List ℕ)
bodies f = sections_from (body_of f) (section_count f) 0

-- A section of a right file lies within it.
pub body_length : (f : List ℕ) → Laid f → (k : ℕ) → k < section_count f → length (body_of f k) ≡ size_of f k
unfolding body_of
body_length f l k h =
    length-take-le (size_of f k) (drop (start_of f k) f) (omega (arith, length-drop (start_of f k) f, section_inside f l k h))

module _ (f : List ℕ) (small : Bytes f) (l : Laid f) where
  place_next : (k : ℕ) → place_of f (k + 1) ≡ place_of f k + size_of f k
  place_next k = ap (place_of f) (let same : k + 1 ≡ suc k = omega arith in same)

  table-inside : 2 + 8 * section_count f ≤ length f
  unfolding table_end
  table-inside = omega (arith, l.ends, place_below f (section_count f) 0 (omega arith))

  table-back : (n k at : ℕ) → k + n ≡ section_count f → at ≡ place_of f k →
      take (8 * n) (drop (2 + 8 * k) f) ≡ table at (sections_from (body_of f) n k)
  unfolding start_of size_of
  table-back zero k at all here = refl
  table-back (suc n) k at all here =
      let h : k < section_count f = omega arith in
      let room : (2 + 8 * k) + 8 ≤ length f = omega (arith, table-inside) in
      let a : List ℕ = drop (2 + 8 * k) f in
      let first : take 4 a ≡ word at =
      word_at_lem f small (2 + 8 * k) (omega arith) ∙ ap word (l.starts k h ∙ sym here) in
      let second : take 4 (drop 4 a) ≡ word (length (body_of f k)) =
      ap (take 4) (drop-drop 4 (2 + 8 * k) f)
      ∙ word_at_lem f small ((2 + 8 * k) + 4) (omega arith)
      ∙ ap word (ap (word_at f) (let same : (2 + 8 * k) + 4 ≡ 6 + 8 * k = omega arith in same) ∙ sym (body_length f l k h)) in
      let others : drop 8 a ≡ drop (2 + 8 * (k + 1)) f =
      drop-drop 8 (2 + 8 * k) f ∙ ap (λ (i : ℕ). drop i f) (let same : (2 + 8 * k) + 8 ≡ 2 + 8 * (k + 1) = omega arith in same) in
      let rest : take (8 * n) (drop 8 a) ≡ table (at + length (body_of f k)) (sections_from (body_of f) n (k + 1)) =
      ap (take (8 * n)) others
      ∙ table-back n (k + 1) (at + length (body_of f k)) (omega arith) (omega (arith, here, body_length f l k h, place_next k)) in
      let eight : 8 * suc n ≡ 8 + 8 * n = omega arith in
      cc (take-add 8 (8 * n) a, take-add 4 4 a)

  joined_back : (n k : ℕ) → k + n ≡ section_count f → drop (place_of f k) f ≡ joined (sections_from (body_of f) n k)
  unfolding body_of
  joined_back zero k all =
      let behind : length f ≤ place_of f k = omega (arith, l.ends, ap (place_of f) (let same : k ≡ section_count f = omega arith in same)) in
      drop_of_length-le f behind
  joined_back (suc n) k all =
      let h : k < section_count f = omega arith in
      cc (
        take-append-drop (size_of f k) (drop (place_of f k) f),
        l.starts k h,
        drop-drop (size_of f k) (place_of f k) f,
        place_next k,
        joined_back n (k + 1) (omega arith),
      )

  pub file_back : f ≡ file (bodies f)
  unfolding table_end section_count
  file_back =
      let count : length (bodies f) ≡ section_count f = sections_length (body_of f) (section_count f) 0 in
      let two : 2 ≤ length f = omega (arith, table-inside) in
      let front : take 2 f ≡ half (length (bodies f)) = half_of f small two ∙ ap half (sym count) in
      let middle : take (8 * section_count f) (drop 2 f) ≡ table (2 + 8 * length (bodies f)) (bodies f) =
      table-back (section_count f) 0 (table_end f) (omega arith) refl
      ∙ ap (λ (i : ℕ). table (2 + 8 * i) (bodies f)) (sym count) in
      let end : drop (8 * section_count f) (drop 2 f) ≡ joined (bodies f) =
      drop-drop (8 * section_count f) 2 f ∙ joined_back (section_count f) 0 (omega arith) in
      cc (take-append-drop 2 f, take-append-drop (8 * section_count f) (drop 2 f))

-- The sections of a file that is made of so many.
pub file_bodies : (body : ℕ → List ℕ) (n : ℕ) → bodies (file (sections_from body n 0)) ≡ sections_from body n 0
file_bodies body n =
    let bs : List (List ℕ) = sections_from body n 0 in
    let many : length bs ≡ n = sections_length body n 0 in
    ap (λ (i : ℕ). sections_from (body_of (file bs)) i 0) (file_count_lem bs ∙ many)
    ∙ sections_same (body_of (file bs)) body n 0
    (λ j h. file_body bs j (omega (arith, many)) ∙ sections_at body n j (omega arith))

-- A file of bytes that is not too long for its table consists of bytes.
bytes_table : (at : ℕ) (bs : List (List ℕ)) → at + length (joined bs) < 65536 → Bytes (table at bs)
bytes_table at [] h = bytes_none
bytes_table at (b ∷ bs) h =
    bytes_append (word at) (word (length b) ++ table (at + length b) bs)
    (bytes_word at (omega arith))
    (bytes_append (word (length b)) (table (at + length b) bs)
    (bytes_word (length b) (omega (arith, length-append b (joined bs))))
    (bytes_table (at + length b) bs (omega (arith, length-append b (joined bs)))))

bytes_joined : (bs : List (List ℕ)) → ((k : ℕ) → k < length bs → Bytes (get_or bs k [])) → Bytes (joined bs)
bytes_joined [] each = bytes_none
bytes_joined (b ∷ bs) each =
    bytes_append b (joined bs) (each 0 (omega arith)) (bytes_joined bs (λ k h. each (suc k) (omega arith)))

pub bytes_file : (bs : List (List ℕ)) → length (file bs) ≤ 65535 → ((k : ℕ) → k < length bs → Bytes (get_or bs k [])) → Bytes (file bs)
bytes_file bs short each =
    let whole : length (file bs) ≡ (2 + 8 * length bs) + length (joined bs) =
    omega (arith, length-append (table (2 + 8 * length bs) bs) (joined bs), table_length (2 + 8 * length bs) bs) in
    bytes_append (half (length bs)) (table (2 + 8 * length bs) bs ++ joined bs)
    (bytes_half (length bs) (omega (arith, whole)))
    (bytes_append (table (2 + 8 * length bs) bs) (joined bs)
    (bytes_table (2 + 8 * length bs) bs (omega (arith, whole)))
    (bytes_joined bs each))

-- A file placed in a buffer that has room for it.
module _ (f buffer : List ℕ) where
  pub placed_file : take (length f) (placed f buffer) ≡ f
  placed_file = take_at f (drop (length f) buffer) (length f) refl

  pub placed_behind : drop (length f) (placed f buffer) ≡ drop (length f) buffer
  placed_behind = drop_at f (drop (length f) buffer) (length f) refl

  pub placed_length : length f ≤ length buffer → length (placed f buffer) ≡ length buffer
  placed_length h = omega (arith, length-append f (drop (length f) buffer), length-drop (length f) buffer)
