-- Playing makes a file's calls one behind the other.
--     is_write, is_read, is_tick_lem, is_pin, is_clear_lem
--                                  the call of a record, by its kind
--     leaves                       what a call leaves, by its name
--     read_leaves                  what a read of STAT, CON1 or CON2 leaves
--     Repeats, repeats_all, repeated
--                                  the repeats of a section that are left, all and after one
--     entry_makes, entry_plays     a record: its own call, or all repeats of its section
--     Section                      a section from one of its records on
--     section_starts, section_goes_on, section_done
--                                  all of its records are left, one fewer, none
--     reached, names_one           the record there lies in the file, and names a section if it plays one
--     upcoming, section_passes, section_out
--                                  from an idle record on: the next that is not, and none
--     none_made                    records that count nothing make no call
--     made_right                   a file that is played is right, and counts what it made
--     nothing_made                 a file that counts nothing makes no call
--     plays_refused, plays_made    what a refused play comes to, and one that is made
-- Assumes nothing.
use Rattle.std.specs.Prelude.{◌+◌, ◌*◌, ◌-◌, ◌/◌, ◌%◌, ◌<◌, ◌≤◌, ◌∷◌, ◌++◌, ◌≡◌, Ok, Err}
use Rattle.laws.proofs.Common.{ℕ, zero, suc, Bool, true, false, List, []}
use Rattle.laws.proofs.Common.{refl, sym, ap, ap₂, ◌∙◌, suc-mul, arith, ltb-true, ltb-false, eqb-false, eq-eqb, ne_eqb, ltb}
use Rattle.laws.proofs.Common.{eqb, length, get_or, when◌then◌else◌, so, not_so, by_case, if_keeps, if_true, if_false, by_test}
use Rattle.laws.proofs.Common.{clash, and_left, and_right}
use Rattle.module_rules.proofs.Types.{Module, Call, Read, Write, Tick, Pin, Clear, Outcome}
use Rattle.module_rules.specs.Calls.{refuse, powered_up, read_of, perform_of, after_calls}
use Rattle.trace_rules.specs.declared.Entry.{Entry}
use Rattle.trace_rules.specs.declared.Fault.{Fault}
use Rattle.trace_rules.specs.Trace.{contents_right, section_count, start_of, size_of, entries_of, is_play, section_level, right_of, records_right, wire_in, call_of, times, calls_by, play_calls, count_by, play_count, file_calls, file_count, played_of, is_made, played_module}
use Rattle.trace_page.proofs.TraceLevels.{play_right}
use Rattle.trace_numbers.specs.Places.{entry_at, entries_at}
use Rattle.trace_counts.specs.Idle.{idle, landing_of, PassedFrom}
use Rattle.trace_numbers.proofs.Records.{entries_more, entries_none, section_at, section_places}
use Rattle.trace_right.proofs.Levels.{record_right_lem}
use Rattle.trace_counts.proofs.Idle.{landing_step, Lands, lands, passing}
use Rattle.module_memory.specs.Memory.{module_in}
use Rattle.trace_player.specs.Playing.{entry_calls, Plays}

-- The call of a record, by its kind.
module _ (e : Entry) where
  of_kind : (n : ℕ) → e.kind ≡ n → call_of e ≡ call_of (record { kind = n; argument = e.argument; value = e.value })
  of_kind n is = ap (λ (k : ℕ). call_of (record { kind = k; argument = e.argument; value = e.value })) is

  pub is_write : e.kind ≡ 0 → call_of e ≡ Write e.argument e.value
  unfolding call_of when◌then◌else◌
  is_write is = of_kind 0 is

  pub is_read : e.kind ≡ 1 → call_of e ≡ Read e.argument
  unfolding call_of when◌then◌else◌
  is_read is = of_kind 1 is

  -- Bit 0 has the weight 1.
  pub is_tick_lem : e.kind ≡ 2 → call_of e ≡ Tick (eqb (e.argument % 2) 1) (eqb (e.argument / 4 % 2) 1)
  unfolding call_of wire_in when◌then◌else◌
  is_tick_lem is = let bit_0 : e.argument ≡ e.argument / 1 = omega arith in cc (of_kind 2 is)

  pub is_pin : e.kind ≡ 3 →
      call_of e ≡ Pin (eqb (e.argument / 2 % 2) 1) (eqb (e.argument % 2) 1) (eqb (e.argument / 4 % 2) 1)
  unfolding call_of wire_in when◌then◌else◌
  is_pin is = let bit_0 : e.argument ≡ e.argument / 1 = omega arith in cc (of_kind 3 is)

  pub is_clear_lem : (e.kind ≡ 0 → ⊥) → (e.kind ≡ 1 → ⊥) → (e.kind ≡ 2 → ⊥) → (e.kind ≡ 3 → ⊥) → call_of e ≡ Clear
  unfolding call_of when◌then◌else◌
  is_clear_lem w r t p = rw (ne_eqb _ 0 w, ne_eqb _ 1 r, ne_eqb _ 2 t, ne_eqb _ 3 p)

-- What a call leaves is what it leaves under another name.
pub leaves : (m : Module) {after : Module} {c d : Call} → c ≡ d → after ≡ (perform_of m d).after → after ≡ (perform_of m c).after
leaves m is left = by_case (λ (x : Call). (perform_of m x).after) is left

past_two : {A : Type 0} (a : ℕ) → a ≤ 3 → (a ≡ 0 → ⊥) → (a ≡ 1 → ⊥) → (a ≡ 2 → ⊥) → (a ≡ 3 → ⊥) → A
past_two a few x y z other = clash (eqb a 3) (eq-eqb a 3 (omega arith)) (ne_eqb a 3 other)

-- A read of another register than BUF leaves the module as it was.
pub read_leaves : (m : Module) (a : ℕ) → (a ≡ 3 → ⊥) → m ≡ (perform_of m (Read a)).after
unfolding perform_of read_of refuse
read_leaves m a other =
    let P : Outcome → Type 0 = λ o. m ≡ o.after in
    if_keeps P (ltb 3 a) _ _ (λ _. refl)
    (λ named. if_keeps P (eqb a 0) _ _ (λ _. refl)
    (λ x. if_keeps P (eqb a 1) _ _ (λ _. refl)
    (λ y. if_keeps P (eqb a 2) _ _ (λ _. refl)
    (λ z. past_two a (ltb-false 3 a named) (eqb-false a 0 x) (eqb-false a 1 y) (eqb-false a 2 z) other))))

-- Calls one behind the other.
after_append : (m : Module) (x y : List Call) → after_calls m (x ++ y) ≡ after_calls (after_calls m x) y
after_append m [] y = refl
after_append m (c ∷ x) y = after_append (perform_of m c).after x y

-- The repeats of a record that plays a section: those that are left make what all of them were to make.
times_more : (n : ℕ) (cs : List Call) → 0 < n → times n cs ≡ cs ++ times (n - 1) cs
unfolding times
times_more zero cs h = absurd (omega arith)
times_more (suc n) cs h = ap (λ (i : ℕ). cs ++ times i cs) (let same : n ≡ suc n - 1 = omega arith in same)

pub record Repeats (cs : List Call) (all : ℕ) (before : Module) (n : ℕ) (now : Module) : Type 0 where
  pub calls : after_calls before (times all cs) ≡ after_calls now (times n cs)

pub repeats_all : {cs : List Call} {all n : ℕ} {now : Module} → all ≡ n → Repeats cs all now n now
repeats_all {cs} {all} {n} {now} same = record { calls = ap (λ (i : ℕ). after_calls now (times i cs)) same }

pub repeated : {cs : List Call} {all n m : ℕ} {before now after : Module} → Repeats cs all before n now → 0 < n → n - 1 ≡ m →
    after ≡ after_calls now cs → Repeats cs all before m after
repeated {cs} {all} {n} {m} {before} {now} r h fewer e =
    record {
      calls =
          r.calls ∙ ap (after_calls now) (times_more n cs h ∙ ap (λ (i : ℕ). cs ++ times i cs) fewer) ∙ after_append now cs (times m cs)
          ∙ ap (λ (x : Module). after_calls x (times m cs)) (sym e);
    }

-- A record: its own call, or all repeats of its section.
module _ (f : List ℕ) (left : ℕ) (e : Entry) (before : Module) {now : Module} where
  pub entry_makes : (e.kind ≡ 5 → ⊥) → now ≡ (perform_of before (call_of e)).after → now ≡ after_calls before (entry_calls f left e)
  unfolding entry_calls is_play
  entry_makes call made = by_case (after_calls before) (if_false (is_play e) _ _ (ne_eqb e.kind 5 call)) made

  pub entry_plays : {n : ℕ} → e.kind ≡ 5 → Repeats (play_calls f left e.argument) e.value before n now → n ≤ 0 →
      now ≡ after_calls before (entry_calls f left e)
  unfolding entry_calls is_play times
  entry_plays {n} play r h =
      let none : n ≡ 0 = omega arith in
      by_case (after_calls before) (if_true (is_play e) _ _ (eq-eqb e.kind 5 play)) (sym (rw none at r.calls))

-- The calls of a section are those of its records, with one level fewer.
levels_some : (f : List ℕ) (left k : ℕ) → 0 < left → play_calls f left k ≡ calls_by (play_calls f (left - 1)) (entries_of f k)
unfolding play_calls
levels_some f zero k h = absurd (omega arith)
levels_some f (suc left) k h =
    ap (λ (i : ℕ). calls_by (play_calls f i) (entries_of f k)) (let same : left ≡ suc left - 1 = omega arith in same)

pub no_levels : (f : List ℕ) (left k : ℕ) (m : Module) → left ≡ 0 → m ≡ after_calls m (play_calls f left k)
unfolding play_calls
no_levels f left k m none = ap (λ (i : ℕ). after_calls m (play_calls f i k)) (sym none)

-- A file that may be played, and the table of its idle records.
abbrev pub Playable : List ℕ → List ℕ → Type 0
Playable f next = (contents_right f ≡ true) × (records_right f ≡ true) × PassedFrom f 0 next

-- A section from one of its records on: from there so many are left to the section's end, and their calls make what the whole section
-- was to make.
pub record Section (f next : List ℕ) (k left : ℕ) (before : Module) (at n : ℕ) (now : Module) : Type 0 where
  pub right : Playable f next
  pub named : k < section_count f
  pub some : 0 < left
  pub most : n ≤ size_of f k / 4 % 65536
  pub place : at + 4 * n ≡ start_of f k % 65536 + 4 * (size_of f k / 4 % 65536)
  pub calls : after_calls before (play_calls f left k) ≡ after_calls now (calls_by (play_calls f (left - 1)) (entries_at f n at))

-- The record there.
pub record Here (f : List ℕ) (k at n : ℕ) : Type 0 where
  pub inside : at + 4 * n ≤ length f
  pub short : length f ≤ 65535
  pub right : right_of f k (entry_at f at) ≡ true

-- The next record from an idle one on that is not idle.
pub record Next (f : List ℕ) (at to : ℕ) : Type 0 where
  pub is : to ≡ landing_of f at
  pub further : at + 4 ≤ to
  pub whole : (to - at) % 4 ≡ 0

pub section_starts : {f next : List ℕ} {k left at n : ℕ} {m : Module} → Playable f next → k < section_count f → 0 < left →
    at ≡ start_of f k % 65536 → n ≡ size_of f k / 4 % 65536 → Section f next k left m at n m
section_starts {f} {next} {k} {left} {at} {n} {m} right named some first count =
    record {
      right = right;
      named = named;
      some = some;
      most = omega arith;
      place = omega arith;
      calls = cc (levels_some f left k some, (section_at f right.0 k named).are);
    }

module _ {f next : List ℕ} {k left at n : ℕ} {before now : Module} (s : Section f next k left before at n now) where
  pub section_done : n ≤ 0 → now ≡ after_calls before (play_calls f left k)
  unfolding calls_by
  section_done h =
      sym (s.calls ∙ ap (λ (es : List Entry). after_calls now (calls_by (play_calls f (left - 1)) es)) (entries_none f n at h))

  -- Where a record is left.
  module _ (more : 0 < n) where
    pub reached : Here f k at n
    reached =
        let p = section_places f s.right.0 k s.named in
        let i : ℕ = size_of f k / 4 % 65536 - n in
        record {
          inside = omega (arith, p.inside);
          short = p.short;
          right =
              ap (λ (j : ℕ). right_of f k (entry_at f j)) (let same : at ≡ start_of f k % 65536 + 4 * i = omega arith in same)
              ∙ record_right_lem f s.right.0 s.right.1 k s.named i (omega arith);
        }

    -- A play record that is right names a section of the file.
    pub names_one : {e : Entry} → e ≡ entry_at f at → is_play e ≡ true → e.argument < section_count f
    names_one {e} is play =
        let own = sym (play_right (section_count f) (section_level (entries_of f) k) k e play) ∙ ap (right_of f k) is ∙ reached.right in
        ltb-true e.argument (section_count f)
        (and_left (ltb e.argument (section_count f)) _ (and_right (ltb k e.argument) _ own))

    -- Its calls are made, and the records behind it are left.
    pub section_goes_on : {e : Entry} {after : Module} → e ≡ entry_at f at → after ≡ after_calls now (entry_calls f (left - 1) e) →
        Section f next k left before (at + 4) (n - 1) after
    unfolding calls_by entry_calls
    section_goes_on {e} {after} is made =
        let others = calls_by (play_calls f (left - 1)) (entries_at f (n - 1) (at + 4)) in
        record {
          right = s.right;
          named = s.named;
          some = s.some;
          most = omega (arith, s.most);
          place = omega (arith, s.place);
          calls =
              s.calls
              ∙ ap (λ (es : List Entry). after_calls now (calls_by (play_calls f (left - 1)) es)) (entries_more f n at more)
              ∙ after_append now (entry_calls f (left - 1) (entry_at f at)) others
              ∙ ap (λ (m : Module). after_calls m others)
              (sym (made ∙ ap (λ (x : Entry). after_calls now (entry_calls f (left - 1) x)) is));
        }

    -- An idle record makes no call, and is passed with those up to the next that is not idle.
    pub upcoming : {e : Entry} {b : Bool} → e ≡ entry_at f at → b ≡ idle e → b ≡ true → Next f at (get_or next (at / 4) 0)
    upcoming is test taken =
        let idles = ap idle (sym is) ∙ sym test ∙ taken in
        let p = section_places f s.right.0 k s.named in
        let inside : at + 4 ≤ length f = omega (arith, p.inside) in
        let to : get_or next (at / 4) 0 ≡ landing_of f at =
        s.right.2.each at (omega arith) inside (omega (arith, p.aligned, p.inside)) idles in
        let step : landing_of f at ≡ landing_of f (at + 4) = landing_step f at inside ∙ if_true (idle (entry_at f at)) _ _ idles in
        let l : Lands f (at + 4) (landing_of f (at + 4)) = lands f (at + 4) inside in
        record { is = to; further = omega (arith, l.least); whole = omega (arith, l.whole, l.least) }

    module _ {to : ℕ} (u : Next f at to) where
      passed : after_calls before (play_calls f left k)
          ≡ after_calls now (calls_by (play_calls f (left - 1)) (entries_at f (n - (to - at) / 4) to))
      passed =
          s.calls
          ∙ ap (after_calls now)
          (passing f (play_calls f (left - 1)) n at reached.inside
          ∙ ap (λ (i : ℕ). calls_by (play_calls f (left - 1)) (entries_at f (n - (i - at) / 4) i)) (sym u.is))

      pub section_passes : (to - at) / 4 < n → Section f next k left before to (n - (to - at) / 4) now
      section_passes fewer =
          record {
            right = s.right;
            named = s.named;
            some = s.some;
            most = omega (arith, s.most);
            place = omega (arith, s.place, u.further, u.whole);
            calls = passed;
          }

      -- The section has no other left.
      pub section_out : n ≤ (to - at) / 4 → now ≡ after_calls before (play_calls f left k)
      unfolding calls_by
      section_out h =
          sym (passed
          ∙ ap (λ (es : List Entry). after_calls now (calls_by (play_calls f (left - 1)) es))
          (entries_none f (n - (to - at) / 4) to (omega arith)))

-- Records that count nothing make no call: each plays a section zero times.
idles : (v n : ℕ) (cs : List Call) → v * (1 + n) ≡ 0 → times v cs ≡ []
unfolding times
idles zero n cs none = refl
idles (suc v) n cs none = absurd (omega (arith, suc-mul v (1 + n)))

none_made : (sub : ℕ → ℕ) (calls : ℕ → List Call) (es : List Entry) → count_by sub es ≡ 0 → calls_by calls es ≡ []
unfolding count_by calls_by
none_made sub calls [] none = refl
none_made sub calls (e ∷ es) none =
    by_test (is_play e)
    (λ play.
    let first = if_true (is_play e) (e.value * (1 + sub e.argument)) 1 play in
    ap₂ (λ (x y : List Call). x ++ y)
    (if_true (is_play e) _ _ play ∙ idles e.value (sub e.argument) _ (omega (arith, first)))
    (none_made sub calls es (omega (arith, first))))
    (λ call. absurd (omega (arith, if_false (is_play e) (e.value * (1 + sub e.argument)) 1 call)))

-- A file that is played is right, and its count is what it made.
never : {A : Type 0} {w : Fault} {n : ℕ} → Err w ≡ Ok n → A
never e = clash false (ap is_made e) refl

pub made_right : (f : List ℕ) (count : ℕ) → played_of f ≡ Ok count →
    (contents_right f ≡ true) × (records_right f ≡ true) × (file_count f ≡ count)
unfolding played_of when◌then◌else◌
made_right f count made =
    by_test (contents_right f)
    (λ contents.
    by_test (records_right f)
    (λ records.
    by_test (ltb 65535 (file_count f))
    (λ many. never (rw (contents, records, many) at made))
    (λ few. let same = rw (contents, records, few) at made in (contents, records, cc)))
    (λ wrong. never (rw (contents, wrong) at made)))
    (λ wrong. never (rw wrong at made))

pub nothing_made : (f : List ℕ) (count : ℕ) → played_of f ≡ Ok count → count ≡ 0 → file_calls f ≡ []
unfolding file_count file_calls play_count play_calls
nothing_made f count made none =
    none_made (play_count f 7) (play_calls f 7) (entries_of f 0) ((made_right f count made).2 ∙ none)

-- What a play comes to.
pub plays_refused : (f : List ℕ) (fault : Fault) (w : List ℕ) → Err fault ≡ played_of f → Plays f (Err fault) w w
unfolding played_module
plays_refused f fault w is =
    record {
      answer = is;
      ends = not_so (is_made (played_of f)) _ _ (ap is_made (sym is)) refl;
      untouched = λ _. refl;
    }

pub plays_made : (f : List ℕ) (count : ℕ) (before after : List ℕ) → Ok count ≡ played_of f →
    module_in after ≡ after_calls powered_up (file_calls f) → Plays f (Ok count) before after
unfolding played_module
plays_made f count before after is ends =
    record {
      answer = is;
      ends = so (is_made (played_of f)) _ _ (ap is_made (sym is)) ends;
      untouched = λ refused. clash true refl refused;
    }
