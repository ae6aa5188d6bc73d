-- Test by test.
use Rattle.module_rules.specs.Loading.{moved}
use Rattle.module_memory.proofs.Taken.{◌then◌, alike, stays}
use Rattle.module_word_steps.proofs.Raised.{still}
use Rattle.module_word_steps.proofs.Loads.{busy_waits, none_waits_lem, kept_back, loads}
use Rattle.module_word_steps.proofs.load.Goals as goal

pub returns-then-not-is_free : goal.returns-then-not-is_free
returns-then-not-is_free c = stays (busy_waits _ _ (rw c.is_free.ensures at c.if-not-is_free.true))

pub returns-then-waiting_in-eq0 : goal.returns-then-waiting_in-eq0
returns-then-waiting_in-eq0 c = stays (none_waits_lem _ _ (rw c.waiting_in.ensures at c.if-waiting_in-eq0.true))

pub returns-then-ssen_client : goal.returns-then-ssen_client
returns-then-ssen_client c = stays (kept_back _ _ (rw (c.ssen_client.ensures, c.settings_in.ensures) at c.if-ssen_client.true))

pub leave-requires : goal.leave-requires
leave-requires c = still c.store_loaded.ensures c.requires

pub returns : goal.returns
unfolding moved
returns c =
    let free = rw c.is_free.ensures at c.if-not-is_free.false in let some = rw c.waiting_in.ensures at c.if-waiting_in-eq0.false in
    alike (c.store_loaded.ensures then c.leave.ensures)
    (rw c.first_waiting_in-word.ensures (loads _ _ free some (rw (c.ssen_client.ensures, c.settings_in.ensures) at c.if-ssen_client.false)))
