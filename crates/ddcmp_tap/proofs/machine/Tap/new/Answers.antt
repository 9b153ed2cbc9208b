use Rattle.std.proofs.Common.{◌≡◌, ◌∙◌, arith, refl, sym}
use Rattle.ddcmp_log.specs.declared.side.Side.TheVariants.{Caller, Called}
use Rattle.ddcmp_tap.proofs.TapLaws.{true-false}
use Rattle.ddcmp_tap.proofs.PieceLaws.{said-none, text-none}
use Rattle.ddcmp_tap.proofs.machine.Tap.new.Goals as goal

pub returns-clause-taps : goal.returns-clause-taps
returns-clause-taps c = record {
  moment = refl;
  caller = said-none Caller;
  called = said-none Called;
  up = c.in_ok-new.ensures.forwards;
  down = c.in_ok-new-2.ensures.forwards;
  caller_ended = λ e. true-false _ c.in_ok-new.ensures.open.0 e;
  called_ended = λ e. true-false _ c.in_ok-new-2.ensures.open.0 e;
  written = omega arith;
  rest = c.new-3.ensures.empty ∙ sym (text-none c.args.log.notation c.args.log.max);
}
