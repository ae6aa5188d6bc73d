use Rattle.std.specs.Prelude.{◌≡◌}
use Rattle.script_rules.specs.Texts.{put}
use Rattle.script_digits.specs.Digits.{digits_of}
use Rattle.script_digits.proofs.put_digits.Given as goal

abbrev pub invariant-loop-left : goal.invariant-loop-left
invariant-loop-left l = put l.out l.at (digits_of l.base l.left l.rest) ≡ put l.initial.out l.at (digits_of l.base l.places l.n)
