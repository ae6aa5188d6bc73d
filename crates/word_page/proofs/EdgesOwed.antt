-- The edges that a host is looked up to owe are those that it owes by its history, after which it falls idle (demand 3).
--     edges_owed_lem   of every module that calls reach
-- Assumes nothing.
use Rattle.std.specs.Prelude.{◌&&◌, ◌≡◌}
use Rattle.laws.proofs.Common.{Bool, true, false, not, refl, ap, ◌∙◌, length}
use Rattle.laws.proofs.Common.{when◌then◌else◌, if_true, by_test, and_both, and_left}
use Rattle.module_rules.proofs.Types.{Settings, Shift, Free, Loaded, Begun}
use Rattle.module_rules.specs.Settings.{own_clock, unframed_host}
use Rattle.module_rules.specs.InBits.{heeds_select}
use Rattle.module_rules.specs.Words.{unfinished}
use Rattle.module_rules.specs.Watch.{Watched}
use Rattle.module_rules.specs.Demands.{edges_still_owed}
use Rattle.module_order.proofs.Order.{Lives}
use Rattle.module_edges_owed.proofs.Parts.{given_in}
use Rattle.module_edges_owed.proofs.Edge.{owed_is}
use Rattle.module_edges_owed.proofs.Hold.{owed_is_held}
use Rattle.word_rules.specs.Word.{words_in, edges_in, edges_owed}

-- A host watches no select pin.
host_heeds_none : (s : Settings) → unframed_host s ≡ true → heeds_select s ≡ false
host_heeds_none s host =
    ap (λ (b : Bool). not b && (not s.con2.frmen && s.con1.ssen)) (and_left s.con1.msten _ (and_left (own_clock s) _ host))

-- The word in its shift register, and the edges given to it.
same_words : (s : Settings) (x : Shift) → heeds_select s ≡ false → length (unfinished s x) ≡ words_in x
unfolding when◌then◌else◌
same_words s Free none = refl
same_words s (Loaded word) none = refl
same_words s (Begun p) none =
    rw none (by_test p.filler (λ e. rw e) (λ e. rw e))

same_edges : (x : Shift) → given_in x ≡ edges_in x
same_edges Free = refl
same_edges (Loaded word) = refl
same_edges (Begun p) = refl

pub edges_owed_lem : (x : Watched) → Lives x → x.now.settings.spien ≡ true → unframed_host x.now.settings ≡ true →
    edges_owed x.now ≡ edges_still_owed x
unfolding edges_owed
edges_owed_lem x h on host =
    let s = x.now.settings in
    let n = x.now.engine in
    if_true (s.spien && unframed_host s) _ _ (and_both _ _ on host)
    ∙ cc (owed_is_held x (h.tied on), owed_is x.now, same_words s n.shift (host_heeds_none s host), same_edges n.shift)
