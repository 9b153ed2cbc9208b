use Rattle.std.proofs.Common.{refl}
use Rattle.clap.proofs.OnLiterals.{clap_on_literals}
use Rattle.ddcmp_args.specs.Args.{named_by, option_in, text_in}
use Rattle.ddcmp_args.proofs.laws.explain_is_asked.Goals as goal

pub returns : goal.returns
unfolding clap_on_literals named_by option_in text_in
returns c = record {
  plain = record { in_order = refl; names = refl };
  no_maximum = refl;
  raw = (refl, refl);
  no_dump = refl;
  dump = refl;
  json = (refl, refl);
  discarded = (refl, refl);
  ladder = (refl, refl);
  maximum = refl;
  no_file = refl;
  file = refl;
  standard_input = refl;
  no_second = refl;
  second = refl;
  help = refl;
  version = refl;
}
