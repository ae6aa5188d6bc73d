-- An edge short of 2w counts and samples or shows.
use Rattle.std.specs.Prelude.{◌+◌, ◌-◌, ◌/◌, ◌≡◌}
use Rattle.laws.proofs.Common.{arith, refl, sym, ◌∙◌, ap, so_lt}
use Rattle.word_order.specs.Bits.{bit_of}
use Rattle.module_rules.proofs.Types.{Progress, Begun}
use Rattle.module_rules.specs.Settings.{width_of}
use Rattle.module_rules.specs.Bits.{shown_bit}
use Rattle.module_rules.specs.Edge.{word_edges, advanced, clocked}
use Rattle.module_rules.proofs.Sizes.{width_most}
use Rattle.module_memory.specs.Memory.{settings_in, engine_in}
use Rattle.module_memory.proofs.Looks.{begun_there}
use Rattle.module_memory.proofs.Taken.{◌then◌, alike}
use Rattle.module_answers.proofs.Edges.{on_begun, sampled, shown, goes_on}
use Rattle.module_midword.proofs.Short.{goes}
use Rattle.module_midword.proofs.go_within.Goals as goal
use Rattle.module_midword.proofs.go_within.Goals.{else-edge-last, then-edge-last}

pub overflow_cast-edge-then-is_sampling : goal.overflow_cast-edge-then-is_sampling
overflow_cast-edge-then-is_sampling c =
    let edges = ap (λ (x : Progress). x.edges) c.progress_in-p.ensures in
    let width = rw c.settings_in-s.ensures at c.width.ensures in
    omega (arith, width_most (settings_in c.args.w.now))

pub overflow_cast-edge-else-is_sampling : goal.overflow_cast-edge-else-is_sampling
overflow_cast-edge-else-is_sampling c =
    let edges = ap (λ (x : Progress). x.edges) c.progress_in-p.ensures in
    let width = rw c.settings_in-s.ensures at c.width.ensures in
    omega (arith, width_most (settings_in c.args.w.now))

pub returns-then-is_sampling : goal.returns-then-is_sampling
unfolding advanced clocked
returns-then-is_sampling c =
    let edges = ap (λ (x : Progress). x.edges) c.progress_in-p.ensures in
    let width = rw c.settings_in-s.ensures at c.width.ensures in
    let word = begun_there c.args.w.now c.requires.begun ∙ ap Begun (sym c.progress_in-p.ensures) in
    let step = c.store_sck.ensures then c.store_gone.ensures in (
      alike step
          (on_begun _ (clocked _ (engine_in c.args.w.now)) word _
          (so_lt (c.progress_in-p.result.edges + 1) (word_edges (settings_in c.args.w.now)) _ _ (omega arith)
          (sampled _ _ word _ (rw (c.is_sampling.ensures, c.cke.ensures, c.settings_in-s.ensures) at c.if-is_sampling.true) c.shift_in-received.ensures))
          ∙ goes_on _ _ _ _ c.requires.begun),
      goes (c.progress_in-p.result.edges + 1) c.shift_in-received.result step refl refl,
    )

pub returns-after-edge-last : goal.returns-after-edge-last
unfolding advanced clocked shown_bit
returns-after-edge-last c =
    let edges = ap (λ (x : Progress). x.edges) c.progress_in-p.ensures in
    let width = rw c.settings_in-s.ensures at c.width.ensures in
    let word = begun_there c.args.w.now c.requires.begun ∙ ap Begun (sym c.progress_in-p.ensures) in
    let at : c.if-edge-last.at ≡ width_of (settings_in c.args.w.now) - 1 - (c.progress_in-p.result.edges + 1) / 2 =
    elim c.if-edge-last.branch [ then-edge-last k ↦ omega arith | else-edge-last k ↦ omega arith ] in
    let step = c.store_sck-else-is_sampling.ensures then c.store_gone-else-is_sampling.ensures then c.store_sdo.ensures in (
      alike step
          (on_begun _ (clocked _ (engine_in c.args.w.now)) word _
          (so_lt (c.progress_in-p.result.edges + 1) (word_edges (settings_in c.args.w.now)) _ _ (omega arith)
          (shown _ _ word _ (rw (c.is_sampling.ensures, c.cke.ensures, c.settings_in-s.ensures) at c.if-is_sampling.false) (c.bit-sdo.ensures ∙ ap (bit_of c.progress_in-p.result.word) at)))
          ∙ goes_on _ _ _ _ c.requires.begun),
      goes (c.progress_in-p.result.edges + 1) c.progress_in-p.result.received step refl refl,
    )
