use Rattle.std.proofs.Common.{refl}
use Rattle.clap.proofs.OnLiterals.{clap_on_literals}
use Rattle.ddcmp_args.specs.Args.{named_by, option_in, text_in}
use Rattle.ddcmp_args.proofs.laws.bridge_is_asked.Goals as goal

pub returns : goal.returns
unfolding clap_on_literals named_by option_in text_in
returns c = record {
  plain = record { in_order = refl; names = refl };
  first = refl;
  second = refl;
  seconds = refl;
  lose = refl;
  damage = refl;
  delay = refl;
  seed = refl;
  no_seed = refl;
  again = (refl, refl);
  trace = (refl, refl);
  ladder = (refl, refl);
  json = (refl, refl);
  save_first = refl;
  save_second = refl;
  append = (refl, refl);
  incomplete = refl;
}
