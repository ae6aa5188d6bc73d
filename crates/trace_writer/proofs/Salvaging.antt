-- What is salvaged, section by section.
--     entry_cut           a record read from its four bytes alone
--     Going               what holds of the loop over a body's records
--     going_first, going_on, going_wrong, going_over
--     Keeping             what holds of the loop over sections
--     keeping_first, keeping_goes_on, keeping_ends
--     wrong_end, far_end, near_end   which files can be salvaged, by their stated end
--     refused_17, refused_20         a refusal leaves the buffer
--     new_within, salvaged           the new file, written in two parts
-- Assumes nothing.
use Rattle.std.specs.Prelude.{◌+◌, ◌-◌, ◌*◌, ◌/◌, ◌<◌, ◌≤◌, ◌∷◌, ◌++◌, Result, Ok, Err, is_ok, ◌≡◌}
use mir.Val.{bool_byte}
use Rattle.laws.proofs.Common.{ℕ, zero, suc, Bool, true, false, not, List, []}
use Rattle.laws.proofs.Common.{refl, sym, ap, ap₂, subst, ◌∙◌, arith, le-leb, lt-leb, ltb, length, take, drop, get_or, set}
use Rattle.laws.proofs.Common.{length-set, length-append, replicate, take_all, length-take-le, get_or-take, get_or-drop, when◌then◌else◌, so, not_so}
use Rattle.laws.proofs.Common.{so_lt, if_true, if_false, and_both, and_first, and-false}
use Rattle.script_rules.specs.Texts.{put, Written}
use Rattle.trace_rules.specs.declared.Entry.{Entry}
use Rattle.trace_rules.specs.Trace.{byte_at, half_at, section_count, table_end, size_of, place_of, table_right, body_of, entries_in, entries_of, right_record}
use Rattle.trace_rules.specs.TraceBytes.{half, word, table, joined, sections_from}
use Rattle.trace_page.proofs.TraceContents.{place_below}
use Rattle.trace_bytes.proofs.TraceRecords.{entries_length, entries_take}
use Rattle.trace_bytes.proofs.TraceFiles.{sections_length, sections_same}
use Rattle.trace_numbers.specs.Places.{entry_at, entries_at}
use Rattle.trace_right.specs.Ends.{stated_end}
use Rattle.trace_right.specs.Levels.{raised_one, raised_by, LevelsAt}
use Rattle.trace_right.proofs.Contents.{no_end, some_end}
use Rattle.trace_right.proofs.Levels.{levels_first_lem, levels_next, level_here}
use Rattle.trace_numbers.proofs.Records.{records_at, entries_more, entries_none}
use Rattle.trace_numbers.proofs.Tables.{set_each}
use Rattle.trace_salvage_rules.specs.declared.Salvaged.{Salvaged}
use Rattle.trace_salvage_rules.specs.declared.SalvageFault.{SalvageFault}
use Rattle.trace_salvage_rules.specs.declared.SalvageFault.TheVariants.{BadContents, NoRoom}
use Rattle.trace_salvage_rules.specs.Salvage.{salvageable, beginning, among, kept_of, cut_body, cut_bodies, salvaged_file, sum_below, fell_in, sections_cut, bytes_lost, told, answer_with, salvaged_of, buffer_after}
use Rattle.trace_salvage_rules.proofs.SalvageTables.{table_is}
use Rattle.trace_salvage_rules.proofs.SalvageKeeps.{begins_right, begins_wrong}
use Rattle.trace_salvage_rules.proofs.SalvageFile.{kept_is, kept_fits, new_count, new_size, new_place, new_length, new_short}
use Rattle.trace_salvage_rules.proofs.SalvageDemandsHold.{answers_new, after_is}
use Rattle.trace_writer.specs.Heads.{table_of, head_of, part_of, put_parts, Within, KeptSizes}
use Rattle.trace_writer.proofs.Placing.{put_front, put_on, length_on, head_length}

-- A body's records, from one on.
entries_are : (b : List ℕ) → entries_in b ≡ entries_at b (length b / 4) 0
entries_are b =
    sym (entries_take (length b / 4) b ∙ take_all (length b / 4) (entries_in b) (omega (arith, entries_length b)))
    ∙ records_at b (length b / 4) 0 (omega arith)

pub entry_cut : (f : List ℕ) (at n : ℕ) → n ≡ 4 → entry_at (take n (drop at f)) 0 ≡ entry_at f at
unfolding entry_at byte_at half_at
entry_cut f at n h =
    let cut : (i j : ℕ) → i < 4 → at + i ≡ j → get_or (take n (drop at f)) i 0 ≡ get_or f j 0 =
    λ i j small same.
    get_or-take n (drop at f) i 0 (omega (arith, h)) ∙ get_or-drop at f i 0 ∙ ap (λ (k : ℕ). get_or f k 0) same in
    cc (
      cut 0 at (omega arith) (omega arith),
      cut 1 (at + 1) (omega arith) (omega arith),
      cut 2 (at + 2) (omega arith) (omega arith),
      cut 3 (at + 2 + 1) (omega arith) (omega arith),
    )

-- What holds of the loop over a body's records: what those left keep, with the bytes and the levels so far, is what the body keeps.
pub record Going (count level k : ℕ) (body first levels : List ℕ) (at : ℕ) : Type 0 where
  pub inside : at ≤ length body
  pub bytes : 4 * length (beginning count level k (entries_in body))
      ≡ at + 4 * length (beginning count level k (entries_at body ((length body - at) / 4) at))
  pub raises : raised_by level first (beginning count level k (entries_in body))
      ≡ raised_by level levels (beginning count level k (entries_at body ((length body - at) / 4) at))

module _ (count level k : ℕ) (body first : List ℕ) where
  -- What is told of the body at the end: the bytes that it keeps, and the levels behind them.
  abbrev pub Told : List ℕ → ℕ → Type 0
  Told levels at =
      (at ≡ 4 * length (beginning count level k (entries_in body)))
      × (levels ≡ raised_by level first (beginning count level k (entries_in body)))

  pub going_first : Going count level k body first first 0
  going_first =
      let are =
      entries_are body
      ∙ ap (λ (n : ℕ). entries_at body n 0) (let all : length body / 4 ≡ (length body - 0) / 4 = omega arith in all) in
      record {
        inside = omega arith;
        bytes = omega (arith, ap (λ (es : List Entry). 4 * length (beginning count level k es)) are);
        raises = ap (λ (es : List Entry). raised_by level first (beginning count level k es)) are;
      }

module _ {count level k : ℕ} {body first levels : List ℕ} {at : ℕ} (g : Going count level k body first levels at) where
  ends_here : beginning count level k (entries_at body ((length body - at) / 4) at) ≡ [] → Told count level k body first levels at
  unfolding raised_by
  ends_here none = (omega (arith, g.bytes, ap length none), sym (g.raises ∙ ap (raised_by level levels) none))

  pub going_over : length body < at + 4 → Told count level k body first levels at
  unfolding beginning
  going_over h = ends_here (ap (beginning count level k) (entries_none body ((length body - at) / 4) at (omega arith)))

  -- The next record, whether it is right, and the levels behind it.
  module _ {e : Entry} {r : Bool} {next : List ℕ} (more : at + 4 ≤ length body) (reads : e ≡ entry_at body at)
      (is : r ≡ right_record count level k e) (after : next ≡ (when r then raised_one level levels e else levels)) where
    here : entries_at body ((length body - at) / 4) at ≡ e ∷ entries_at body ((length body - (at + 4)) / 4) (at + 4)
    here =
        entries_more body ((length body - at) / 4) at (omega arith)
        ∙ ap₂ (λ (x : Entry) (n : ℕ). x ∷ entries_at body n (at + 4)) (sym reads)
        (let fewer : (length body - at) / 4 - 1 ≡ (length body - (at + 4)) / 4 = omega arith in fewer)

    pub going_wrong : r ≡ false → Told count level k body first next at
    going_wrong wrong =
        let ends = ends_here (ap (beginning count level k) here ∙ begins_wrong count level k _ _ (sym is ∙ wrong)) in
        (ends.0, after ∙ if_false r _ _ wrong ∙ ends.1)

    pub going_on : {at' : ℕ} → at' ≡ at + 4 → r ≡ true → Going count level k body first next at'
    unfolding raised_by
    going_on {at'} behind right =
        let rest = beginning count level k (entries_at body ((length body - (at + 4)) / 4) (at + 4)) in
        let left = ap (beginning count level k) here ∙ begins_right count level k _ _ (sym is ∙ right) in
        subst (Going count level k body first next) (sym behind)
        record {
          inside = more;
          bytes = omega (arith, g.bytes, ap length left);
          raises =
              g.raises
              ∙ ap (raised_by level levels) left
              ∙ ap (λ (l : List ℕ). raised_by level l rest) (sym (after ∙ if_true r _ _ right));
        }

-- The sizes of the new file's sections and where they end, for a file that can be salvaged.
module _ (f : List ℕ) (ok : salvageable f ≡ true) where
  pub few_sections : section_count f ≤ 64
  few_sections = (table_is f ok).most

  new_ends : (k : ℕ) → k ≤ section_count f → place_of (salvaged_file f) k ≤ length (salvaged_file f)
  new_ends k h = omega (arith, new_length f, place_below (salvaged_file f) (section_count f) k h)

  new_next : (k : ℕ) → place_of (salvaged_file f) (k + 1) ≡ place_of (salvaged_file f) k + size_of (salvaged_file f) k
  new_next k = ap (place_of (salvaged_file f)) (let same : k + 1 ≡ suc k = omega arith in same)

  small_size : (k : ℕ) → k < section_count f → place_of (salvaged_file f) k + size_of (salvaged_file f) k ≤ 65535
  small_size k h = omega (arith, new_next k, new_ends (k + 1) (omega arith), new_short f ok)

-- The head of the new file has room where the file has, and the new file is no longer than the old one was stated to be.
pub head_room : (f : List ℕ) → 2 + 8 * section_count f ≤ length (salvaged_file f)
unfolding table_end
head_room f = omega (arith, new_count f, new_length f, place_below (salvaged_file f) (section_count f) 0 (omega arith))

pub no_longer : (f : List ℕ) → length (salvaged_file f) ≤ place_of f (section_count f)
no_longer f = omega (arith, new_length f, new_place f (section_count f) (omega arith))

-- What holds of the loop over the sections: those below number `k` are kept.
pub record Keeping (f : List ℕ) (n : ℕ) (sizes levels : List ℕ) (cut end k : ℕ) : Type 0 where
  pub count : n ≡ section_count f
  pub below : k ≤ n
  pub levelled : LevelsAt (among (kept_of f)) k levels
  pub cuts : cut ≡ sum_below (fell_in f (salvaged_file f)) k
  pub few : cut ≤ k
  pub ends : end ≡ place_of (salvaged_file f) k
  pub sized : KeptSizes f k sizes

pub keeping_first : (f sizes : List ℕ) (n : ℕ) → n ≡ section_count f → length sizes ≡ 64 →
    Keeping f n sizes (replicate 256 1) 0 (2 + 8 * n) 0
unfolding sum_below table_end
keeping_first f sizes n count all =
    record {
      count = count;
      below = omega arith;
      levelled = levels_first_lem (among (kept_of f));
      cuts = refl;
      few = omega arith;
      ends = omega (arith, count, new_count f);
      sized = record { all = all; each = λ j h. absurd (omega arith) };
    }

module _ (f : List ℕ) (ok : salvageable f ≡ true) {n : ℕ} {sizes levels : List ℕ} {cut end k : ℕ} (h : Keeping f n sizes levels cut end k)
    (more : k < n) where
  inside : k < section_count f
  inside = omega (arith, h.count)

  pub near : k < 64
  near = omega (arith, inside, few_sections f ok)

  -- The section's body keeps what the new file has.
  keeps_that : (body : List ℕ) → body ≡ body_of f k →
      beginning (section_count f) (get_or levels k 0) k (entries_in body) ≡ among (kept_of f) k
  unfolding entries_of
  keeps_that body is =
      ap₂ (λ (level : ℕ) (b : List ℕ). beginning (section_count f) level k (entries_in b))
      (level_here (among (kept_of f)) k levels h.levelled (omega (arith, near))) is
      ∙ sym (kept_is f k inside)

  size_is : (body : List ℕ) (size : ℕ) → body ≡ body_of f k →
      size ≡ 4 * length (beginning (section_count f) (get_or levels k 0) k (entries_in body)) → size ≡ size_of (salvaged_file f) k
  size_is body size is e =
      e ∙ ap (λ (es : List Entry). 4 * length es) (keeps_that body is) ∙ sym (new_size f k inside)

  -- So far and with it, the new file is short.
  pub size_fits : (body : List ℕ) (size : ℕ) → body ≡ body_of f k →
      size ≡ 4 * length (beginning (section_count f) (get_or levels k 0) k (entries_in body)) → end + size ≤ 65535
  size_fits body size is e = omega (arith, size_is body size is e, small_size f ok k inside, h.ends)

  pub keeping_goes_on : (body raised sizes' : List ℕ) (size fell : ℕ) → body ≡ body_of f k →
      Told (section_count f) (get_or levels k 0) k body levels raised size →
      fell ≡ (when ltb size (size_of f k) then 1 else 0) → fell ≤ 1 → sizes' ≡ set sizes k size →
      Keeping f n sizes' raised (cut + fell) (end + size) (k + 1)
  unfolding sum_below fell_in
  keeping_goes_on body raised sizes' size fell is (kept, raises) falls one put_in =
      let that : size ≡ size_of (salvaged_file f) k = size_is body size is kept in
      let level = level_here (among (kept_of f)) k levels h.levelled (omega (arith, near)) in
      let next : sum_below (fell_in f (salvaged_file f)) (k + 1) ≡ sum_below (fell_in f (salvaged_file f)) k + fell_in f (salvaged_file f) k =
      ap (sum_below (fell_in f (salvaged_file f))) (let same : k + 1 ≡ suc k = omega arith in same) in
      record {
        count = h.count;
        below = omega arith;
        levelled =
            subst (LevelsAt (among (kept_of f)) (k + 1))
            (sym (raises ∙ ap₂ (λ (l : ℕ) (es : List Entry). raised_by l levels es) level (keeps_that body is)))
            (levels_next (among (kept_of f)) k levels h.levelled);
        cuts = ap₂ (λ (a b : ℕ). a + b) h.cuts (falls ∙ ap (λ (m : ℕ). when ltb m (size_of f k) then 1 else 0) that) ∙ sym next;
        few = omega (arith, h.few);
        ends = omega (arith, h.ends, that, new_next f ok k);
        sized =
            record {
              all = ap length put_in ∙ length-set sizes k size ∙ h.sized.all;
              each = λ j i.
                  ap (λ (l : List ℕ). get_or l j 0) put_in
                  ∙ set_each (λ (m x : ℕ). m < k + 1 → x ≡ size_of (salvaged_file f) m) sizes k size (λ _. that)
                  (λ m other low. h.sized.each m (omega arith)) j (omega (arith, h.sized.all, near)) i;
            };
      }

pub keeping_ends : {f sizes levels : List ℕ} {n cut end k : ℕ} → Keeping f n sizes levels cut end k → n ≤ k →
    (cut ≡ sections_cut f (salvaged_file f)) × (end ≡ length (salvaged_file f)) × KeptSizes f (section_count f) sizes
unfolding sections_cut
keeping_ends {f} {sizes} {levels} {n} {cut} {end} {k} h over =
    let all : k ≡ section_count f = omega (arith, h.count, h.below) in (
      h.cuts ∙ ap (sum_below (fell_in f (salvaged_file f))) all,
      h.ends ∙ ap (place_of (salvaged_file f)) all ∙ sym (new_length f),
      subst (λ (m : ℕ). KeptSizes f m sizes) all h.sized,
    )

-- A test as a number.
pub told_byte : (b : Bool) → bool_byte b ≡ (when b then 1 else 0)
unfolding when◌then◌else◌
told_byte true = refl
told_byte false = refl

-- Which files can be salvaged, by their stated end.
pub record Stated (f : List ℕ) (last : ℕ) : Type 0 where
  pub ok : salvageable f ≡ true
  pub ends : last ≡ place_of f (section_count f)
  pub short : last ≤ 65535

module _ (f : List ℕ) where
  pub wrong_end : stated_end f ≡ 0 → salvageable f ≡ false
  unfolding salvageable
  wrong_end none = and_first (table_right f) _ (no_end f none)

  module _ {last : ℕ} (told : (last ≡ stated_end f) × (stated_end f ≡ 0 → ⊥)) where
    stated : (table_right f ≡ true) × (last ≡ place_of f (section_count f))
    stated = let end = some_end f told.1 in (end.0, told.0 ∙ end.1)

    pub far_end : 65535 < last → salvageable f ≡ false
    unfolding salvageable
    far_end far = and-false (table_right f) _ (lt-leb (place_of f (section_count f)) 65535 (omega (arith, stated.1)))

    pub near_end : last ≤ 65535 → Stated f last
    unfolding salvageable
    near_end near =
        record {
          ok = and_both (table_right f) _ stated.0 (le-leb (place_of f (section_count f)) 65535 (omega (arith, stated.1)));
          ends = stated.1;
          short = near;
        }

-- A refusal leaves the buffer.
leaves : (f out : List ℕ) (w : Result Salvaged SalvageFault) → is_ok w ≡ false → w ≡ salvaged_of f (length out) →
    (w ≡ salvaged_of f (length out)) × (out ≡ buffer_after f out)
unfolding buffer_after
leaves f out w none e = (e, not_so _ _ _ (ap is_ok (sym e) ∙ none) refl)

pub refused_17 : (f out : List ℕ) → salvageable f ≡ false → (Err BadContents ≡ salvaged_of f (length out)) × (out ≡ buffer_after f out)
unfolding salvaged_of
refused_17 f out wrong = leaves f out (Err BadContents) refl (so (not (salvageable f)) _ _ (ap not wrong) refl)

pub refused_20 : (f out : List ℕ) → salvageable f ≡ true → length out < length (salvaged_file f) →
    (Err NoRoom ≡ salvaged_of f (length out)) × (out ≡ buffer_after f out)
unfolding salvaged_of answer_with
refused_20 f out ok small =
    leaves f out (Err NoRoom) refl
    (not_so (not (salvageable f)) _ _ (ap not ok) (so_lt (length out) (length (salvaged_file f)) _ _ small refl))

-- The table of contents goes by the sections' sizes.
table_by_sizes : (body : ℕ → List ℕ) (sizes : List ℕ) (n k at : ℕ) → ((j : ℕ) → j < k + n → length (body j) ≡ get_or sizes j 0) →
    table_of sizes at n k ≡ table at (sections_from body n k)
table_by_sizes body sizes zero k at same = refl
table_by_sizes body sizes (suc n) k at same =
    let here : get_or sizes k 0 ≡ length (body k) = sym (same k (omega arith)) in
    ap (λ (rest : List ℕ). word at ++ (word (get_or sizes k 0) ++ rest))
    (table_by_sizes body sizes n (k + 1) (at + get_or sizes k 0) (λ j h. same j (omega arith)))
    ∙ ap (λ (m : ℕ). word at ++ (word m ++ table (at + m) (sections_from body n (k + 1)))) here

-- The sizes of the new file's sections, and no more.
pub record AllSizes (f : List ℕ) (sizes : List ℕ) : Type 0 where
  pub count : length sizes ≡ section_count f
  pub each : (k : ℕ) → k < section_count f → get_or sizes k 0 ≡ size_of (salvaged_file f) k

pub sizes_kept : (f sizes : List ℕ) (n : ℕ) → n ≡ section_count f → salvageable f ≡ true → KeptSizes f (section_count f) sizes →
    AllSizes f (take n sizes)
sizes_kept f sizes n count ok sized =
    record {
      count = length-take-le n sizes (omega (arith, sized.all, few_sections f ok)) ∙ count;
      each = λ k h. get_or-take n sizes k 0 (omega arith) ∙ sized.each k h;
    }

-- The new file is its table of contents and its sections.
module _ (f sizes : List ℕ) (n : ℕ) (count : n ≡ section_count f) (sized : AllSizes f sizes) where
  size_at : (k : ℕ) → k < n → get_or sizes k 0 ≡ 4 * length (among (kept_of f) k)
  size_at k h = sized.each k (omega arith) ∙ new_size f k (omega arith)

  same_parts : sections_from (part_of f sizes) n 0 ≡ cut_bodies f (kept_of f)
  unfolding cut_bodies cut_body
  same_parts =
      sections_same (part_of f sizes) (cut_body f (kept_of f)) n 0
      (λ k h. ap (λ (i : ℕ). take i (body_of f k)) (size_at k (omega arith)))
      ∙ ap (λ (m : ℕ). sections_from (cut_body f (kept_of f)) m 0) count

  part-size : (k : ℕ) → k < n → length (cut_body f (kept_of f) k) ≡ get_or sizes k 0
  unfolding cut_body
  part-size k h = length-take-le (4 * length (among (kept_of f) k)) (body_of f k) (kept_fits f k (omega arith)) ∙ sym (size_at k h)

  parts_are : head_of n sizes ++ joined (sections_from (part_of f sizes) n 0) ≡ salvaged_file f
  unfolding head_of salvaged_file cut_bodies
  parts_are =
      let bs : List (List ℕ) = cut_bodies f (kept_of f) in
      let many : length bs ≡ n = sections_length (cut_body f (kept_of f)) (section_count f) 0 ∙ sym count in
      let tables : table_of sizes (2 + 8 * n) n 0 ≡ table (2 + 8 * n) (cut_bodies f (kept_of f)) =
      table_by_sizes (cut_body f (kept_of f)) sizes n 0 (2 + 8 * n)
      (λ k h. part-size k (omega arith))
      ∙ ap (λ (m : ℕ). table (2 + 8 * n) (sections_from (cut_body f (kept_of f)) m 0)) count in
      ap₂ (λ (t j : List ℕ). half n ++ (t ++ j)) tables (ap joined same_parts)
      ∙ ap (λ (m : ℕ). half m ++ (table (2 + 8 * m) (cut_bodies f (kept_of f)) ++ joined (cut_bodies f (kept_of f)))) (sym many)

  -- Written so far, it has room for the rest.
  pub new_within : (out after : List ℕ) (next : ℕ) → length (salvaged_file f) ≤ length out → Written (head_of n sizes) out 0 after next →
      Within f n sizes next after
  new_within out after next fits t =
      record {
        parts = λ k h. omega (arith, size_at k h, kept_fits f k (omega arith));
        room =
            omega (
              arith,
              fits,
              ap length parts_are,
              length-append (head_of n sizes) (joined (sections_from (part_of f sizes) n 0)),
              head_length n sizes,
              t.behind,
              length_on t,
            );
      }

  pub placed_new : (out after : List ℕ) (next : ℕ) → salvageable f ≡ true → length (salvaged_file f) ≤ length out →
      Written (head_of n sizes) out 0 after next → put_parts f n sizes next after ≡ buffer_after f out
  placed_new out after next ok fits t =
      put_on t (joined (sections_from (part_of f sizes) n 0)) (put out 0 (head_of n sizes ++ joined (sections_from (part_of f sizes) n 0))) refl
      ∙ ap (put out 0) parts_are
      ∙ put_front out (salvaged_file f) fits
      ∙ sym (after_is f out ok fits)

-- The bytes lost are those between the new file's end and the old one's.
sum_place : (f : List ℕ) (n : ℕ) → place_of f n ≡ table_end f + sum_below (size_of f) n
unfolding sum_below
sum_place f zero = omega arith
sum_place f (suc n) = omega (arith, sum_place f n)

lost_is : (f : List ℕ) → place_of f (section_count f) - length (salvaged_file f) ≡ bytes_lost f (salvaged_file f)
unfolding bytes_lost table_end
lost_is f =
    omega (
      arith,
      new_length f,
      new_count f,
      sum_place f (section_count f),
      sum_place (salvaged_file f) (section_count f),
    )

pub answer_is : (f : List ℕ) (room cut last end : ℕ) → salvageable f ≡ true → length (salvaged_file f) ≤ room →
    cut ≡ sections_cut f (salvaged_file f) → last ≡ place_of f (section_count f) → end ≡ length (salvaged_file f) →
    Ok (told cut (last - end) end) ≡ salvaged_of f room
answer_is f room cut last end ok fits cuts ends long =
    cc (cuts, ends, long, lost_is f, answers_new f room ok fits)
