-- What a module counts, and what a list of modules does.
--     counts_unsent_lem, counts_none_lem    by the module's history
--     AllHold, holds_at, hold_set   a list of modules that calls reach
--     one_moved                     one of them is replaced, and the total moved by it
-- Assumes nothing.
use Rattle.std.specs.Prelude.{◌+◌, ◌*◌, ◌-◌, ◌<◌, ◌≤◌, ◌||◌, ◌∷◌, ◌++◌, ◌≡◌}
use Rattle.laws.proofs.Common.{ℕ, zero, suc, true, false, List, [], refl, sym}
use Rattle.laws.proofs.Common.{ap, ◌∙◌, arith, le-leb, leb, length, set, length-append, length-set, if_true, if_ap}
use Rattle.word_order.specs.Ledger.{sent, unsent}
use Rattle.module_rules.proofs.Types.{Settings, Module, Transmit, Shift, Free, Loaded, Begun, Call}
use Rattle.module_rules.specs.Settings.{depth_of, ssen_client}
use Rattle.module_rules.specs.Buffers.{empty_transmit}
use Rattle.module_rules.specs.Words.{unfinished, left_buffer, waiting_in}
use Rattle.module_rules.specs.Invariant.{ModuleHolds}
use Rattle.module_rules.specs.Lives.{Beginning, life}
use Rattle.module_rules.proofs.Sizes.{depth_most}
use Rattle.module_rules.proofs.BuffersOrder.{waiting_length}
use Rattle.module_order.proofs.Order.{life_holds}
use Rattle.link_page.proofs.LinkIdle.{one_unfinished}
use Rattle.board_rules.specs.BoardDemands.{at}
use Rattle.board_rules.specs.Owed.{in_shift, words_owed, at_most65535, total_moved}
use Rattle.board_rules.specs.OwedDemands.{full_count}

-- The word in the shift register, if it counts.
in_shift_lem : (s : Settings) (sh : Shift) → in_shift s sh ≡ length (unfinished s sh)
unfolding in_shift
in_shift_lem s Free = refl
in_shift_lem s (Loaded word) = refl
in_shift_lem s (Begun p) = sym (if_ap length (p.filler || ssen_client s) [] (p.word ∷ []))

count_is : (m : Module) → words_owed m ≡ length (left_buffer m) + length (waiting_in m)
unfolding words_owed
count_is m = omega (arith, in_shift_lem m.settings m.engine.shift, waiting_length (depth_of m.settings) m.engine.transmit)

pub counts_unsent_lem : (b : Beginning) (cs : List Call) → (life b cs).now.settings.spien ≡ true →
    words_owed (life b cs).now ≡ unsent (life b cs).ledger
counts_unsent_lem b cs on =
    let x = life b cs in
    omega (
      arith,
      count_is x.now,
      ap length ((life_holds b cs).tied on).words.sending,
      length-append (sent x.ledger) (left_buffer x.now ++ waiting_in x.now),
      length-append (left_buffer x.now) (waiting_in x.now),
    )

pub counts_none_lem : (b : Beginning) (cs : List Call) → (life b cs).now.settings.spien ≡ false → words_owed (life b cs).now ≡ 0
unfolding words_owed in_shift empty_transmit
counts_none_lem b cs off =
    let m = (life b cs).now in
    let emptied = (life_holds b cs).holds.holds.emptied off in
    omega (
      arith,
      ap (λ (t : Transmit). t.count) emptied.transmit,
      ap (in_shift m.settings) emptied.shift,
    )

-- No module that calls reach counts more than a full buffer and one word more.
few : (m : Module) → ModuleHolds m → words_owed m ≤ 17
few m h =
    omega (
      arith,
      count_is m,
      one_unfinished m.settings m.engine.shift,
      waiting_length (depth_of m.settings) m.engine.transmit,
      h.transmit.fits,
      depth_most m.settings,
    )

-- Modules that calls reach.
abbrev pub AllHold : List Module → Type 0
AllHold [] = Unit {0}
AllHold (m ∷ ms) = ModuleHolds m × AllHold ms

all_few : (ms : List Module) → AllHold ms → full_count ms ≤ 17 * length ms
all_few [] h = omega arith
all_few (m ∷ ms) h = omega (arith, few m h.0, all_few ms h.1)

-- One of them is replaced.
pub holds_at : (ms : List Module) (n : ℕ) → n < length ms → AllHold ms → ModuleHolds (at ms n)
holds_at [] n l h = absurd (omega arith)
holds_at (m ∷ ms) zero l h = h.0
holds_at (m ∷ ms) (suc n) l h = holds_at ms n (omega arith) h.1

pub hold_set : (ms : List Module) (n : ℕ) (m : Module) → AllHold ms → ModuleHolds m → AllHold (set ms n m)
hold_set [] n m h k = h
hold_set (x ∷ ms) zero m h k = (k, h.1)
hold_set (x ∷ ms) (suc n) m h k = (h.0, hold_set ms n m h.1 k)

set_count : (ms : List Module) (n : ℕ) (m : Module) → n < length ms → full_count (set ms n m) + words_owed (at ms n) ≡ full_count ms + words_owed m
set_count [] n m l = absurd (omega arith)
set_count (x ∷ ms) zero m l = omega arith
set_count (x ∷ ms) (suc n) m l = omega (arith, set_count ms n m (omega arith))

-- The total, moved by it, is the full count again: of no more than four modules it stays within its 16 bits.
pub one_moved : (ms : List Module) (n total : ℕ) (m : Module) → n < length ms → length ms ≤ 4 → AllHold ms → ModuleHolds m →
    total ≡ full_count ms → total_moved total (at ms n) m ≡ full_count (set ms n m)
unfolding total_moved at_most65535
one_moved ms n total m l four h k e =
    let sum = set_count ms n m l in
    let small = all_few (set ms n m) (hold_set ms n m h k) in
    let is : total + words_owed m - words_owed (at ms n) ≡ full_count (set ms n m) = omega (arith, e, sum) in
    if_true (leb (total + words_owed m - words_owed (at ms n)) 65535) _ _ (le-leb (total + words_owed m - words_owed (at ms n)) 65535 (omega (arith, is, small, length-set ms n m, four))) ∙ is
