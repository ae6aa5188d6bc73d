-- The cell stands at its place.
use Rattle.std.specs.Prelude.{◌+◌, ◌%◌, ◌≡◌}
use Rattle.laws.proofs.Common.{arith, ℕ, sym, ◌∙◌, ap}
use Rattle.module_memory.specs.Memory.{byte_in, place_in, from}
use Rattle.module_memory.proofs.Rings.{cell_read}
use Rattle.module_memory_looks.proofs.first_in.Goals as goal

pub returns : goal.returns
unfolding byte_in
returns g c =
    let w = place_in c.args.w.now in
    let a = g.row.AT in
    let place : w (a + 17) % 256 % 16 ≡ w (a + 17) % 16 = omega arith in
    sym (cell_read 16 (from a w) (w (a + 17) % 256 % 16) (omega arith) ∙ ap (λ (k : ℕ). w (a + k)) place)
