use Rattle.std.proofs.Common.{refl}
use Rattle.clap.proofs.OnLiterals.{clap_on_literals}
use Rattle.ddcmp_args.specs.Args.{named_by, option_in, text_in}
use Rattle.ddcmp_args.proofs.laws.pair_is_asked.Goals as goal

pub returns : goal.returns
unfolding clap_on_literals named_by option_in text_in
returns c = record {
  plain = record { in_order = refl; names = refl };
  no_window = refl;
  inbox = refl;
  syn = refl;
  begun = (refl, refl);
  by_user = (refl, refl);
  restart = (refl, refl);
  ladder = (refl, refl);
  counters = (refl, refl);
  no_file = refl;
  file = refl;
}
