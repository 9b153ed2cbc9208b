use Rattle.std.proofs.Common.{refl}
use Rattle.clap.proofs.OnLiterals.{clap_on_literals}
use Rattle.ddcmp_args.specs.Args.{named_by, option_in, text_in}
use Rattle.ddcmp_args.proofs.laws.tap_is_asked.Goals as goal

pub returns : goal.returns
unfolding clap_on_literals named_by option_in text_in
returns c = record {
  plain = record { in_order = refl; names = refl };
  listen = refl;
  connect = refl;
  again = (refl, refl);
  json = (refl, refl);
  ladder = (refl, refl);
  time = (refl, refl);
  maximum = refl;
  incomplete = refl;
}
