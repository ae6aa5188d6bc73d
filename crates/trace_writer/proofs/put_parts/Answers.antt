-- Section by section, and those that are left complete the buffer.
use Rattle.laws.proofs.Common.{List, ℕ, sym, ap, arith, length, take, get_or}
use Rattle.script_rules.proofs.Texts.{written_case}
use Rattle.trace_writer.specs.Heads.{part_of}
use Rattle.trace_writer.proofs.Placing.{writing_room, writing_on, writing_ends, parts_more, parts_none, parts_first}
use Rattle.trace_writer.proofs.put_parts.Goals as goal

pub loop-k-init : goal.loop-k-init
loop-k-init c = parts_first c.requires.1

pub put-place-requires : goal.put-place-requires
put-place-requires c =
    omega (
      arith,
      writing_room c.loop-k.invariant (part_of c.args.f.now c.args.sizes.now c.loop-k.k) _
          (parts_more c.args.f.now c.args.sizes.now (length c.args.sizes.now) c.loop-k.k c.loop-k-test.true),
      ap (λ (b : List ℕ). length (take (get_or c.args.sizes.now c.loop-k.k 0) b)) c.body_of-body.ensures,
    )

pub loop-k-preserved : goal.loop-k-preserved
loop-k-preserved c =
    writing_on c.loop-k.invariant (part_of c.args.f.now c.args.sizes.now c.loop-k.k) _
    (parts_more c.args.f.now c.args.sizes.now (length c.args.sizes.now) c.loop-k.k c.loop-k-test.true)
    (written_case (take (get_or c.args.sizes.now c.loop-k.k 0)) (sym c.body_of-body.ensures) c.put-place.ensures)

pub returns : goal.returns
returns c =
    (writing_ends c.loop-k.invariant (parts_none c.args.f.now c.args.sizes.now (length c.args.sizes.now) c.loop-k.k c.loop-k-test.false)).0
