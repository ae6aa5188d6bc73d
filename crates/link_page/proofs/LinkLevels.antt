-- The level of SDO on the wire.
--     level_read_lem        what the other end reads of an enabled module that is not deselected
--     sampling_leaves   an edge that samples leaves SDO, also the last one of a word
-- Assumes nothing.
use Rattle.std.specs.Prelude.{◌+◌, ◌*◌, ◌%◌, ◌<◌, ◌&&◌, ◌||◌, ◌≡◌}
use Rattle.laws.proofs.Common.{ℕ, Bool, true, false, not, refl, sym, ap, arith}
use Rattle.laws.proofs.Common.{ltb-false, eqb-true, ltb, when◌then◌else◌, if_keeps, if_true, clash, like}
use Rattle.module_rules.proofs.Types.{Settings, Engine, Module, Progress, Low, High, Undriven}
use Rattle.module_rules.specs.Settings.{width_of, cke_of}
use Rattle.module_rules.specs.Bits.{samples, sdo_after}
use Rattle.module_rules.specs.Select.{deselected}
use Rattle.module_rules.specs.Edge.{word_edges, shifted, advanced}
use Rattle.module_rules.specs.Calls.{undriven, sdo_of}
use Rattle.module_invariant.proofs.FinishWords.{finished_sdo}
use Rattle.link_rules.specs.Link.{level_read}

-- What the other end reads of an SDO that is not off and not deselected.
read_level : (off dissdo away sdo : Bool) → off ≡ false → away ≡ false →
    (not dissdo && sdo) ≡ level_read (when off || (dissdo || away) then Undriven else when sdo then High else Low)
unfolding level_read when◌then◌else◌
read_level true dissdo away sdo e f = clash true refl e
read_level false dissdo true sdo e f = clash true refl f
read_level false true false sdo e f = refl
read_level false false false true e f = refl
read_level false false false false e f = refl

pub level_read_lem : (m : Module) → m.settings.spien ≡ true → deselected m.settings m.engine.pins.ss ≡ false →
    (not m.settings.con1.dissdo && m.engine.pins.sdo) ≡ level_read (sdo_of m)
unfolding sdo_of undriven
level_read_lem m enabled near =
    read_level (not m.settings.spien) m.settings.con1.dissdo (deselected m.settings m.engine.pins.ss)
    m.engine.pins.sdo (ap not enabled) near

-- Only with CKE 0 does edge 2w sample, and then the finish leaves SDO: an edge that samples leaves it.
last_samples : (cke : Bool) (k w : ℕ) → k ≡ 2 * w → samples cke k ≡ true → cke ≡ false
last_samples true k w e h =
    let odd : k % 2 ≡ 1 = eqb-true (k % 2) 1 (sym (like true _ h)) in absurd (omega (arith, e, odd))
last_samples false k w e h = refl

pub sampling_leaves : (s : Settings) (sdi : Bool) (p : Progress) (n : Engine) → p.edges < word_edges s →
    samples (cke_of s) (p.edges + 1) ≡ true → (advanced s sdi p n).pins.sdo ≡ n.pins.sdo
unfolding advanced shifted sdo_after
sampling_leaves s sdi p n short e =
    if_keeps (λ (x : Engine). x.pins.sdo ≡ n.pins.sdo) (ltb (p.edges + 1) (2 * width_of s)) _ _
    (λ on. if_true (samples (cke_of s) (p.edges + 1)) _ _ e)
    (λ ends.
    let last : p.edges + 1 ≡ 2 * width_of s = omega (arith, short, ltb-false (p.edges + 1) (2 * width_of s) ends) in
    finished_sdo s (last_samples (cke_of s) (p.edges + 1) (width_of s) last e) p.filler _ n)
