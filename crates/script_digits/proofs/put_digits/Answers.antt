-- A text without room is not put. Otherwise the last digit is put first: the digits that are left complete the buffer.
use Rattle.std.specs.Prelude.{◌≡◌}
use Rattle.laws.proofs.Common.{refl, arith}
use Rattle.script_rules.specs.Texts.{put}
use Rattle.script_digits.specs.Digits.{digits_of}
use Rattle.script_digits.proofs.Digits.{digits_length, last_first, no_room}
use Rattle.script_digits.proofs.put_digits.Goals as goal

pub returns-then-size-places : goal.returns-then-size-places
returns-then-size-places c =
    no_room _ _ _ (omega (arith, digits_length c.args.base c.args.places c.args.n))

pub loop-left-init : goal.loop-left-init
loop-left-init c = refl

pub loop-left-preserved : goal.loop-left-preserved
unfolding digits_of put
loop-left-preserved c =
    let first = last_first c.loop-left.out c.args.at c.args.base c.loop-left.left c.loop-left.rest (omega arith) in
    cc (c.loop-left.invariant, c.letter.ensures, first)

pub returns : goal.returns
unfolding digits_of put
returns c =
    let none : c.loop-left.left ≡ 0 = omega arith in
    let whole = digits_length c.args.base c.args.places c.args.n in
    record {
      fits = λ _. record { buffer = rw none at c.loop-left.invariant; behind = omega arith };
      fails = λ short. absurd (omega arith);
    }
