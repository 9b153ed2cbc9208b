use Rattle.std.proofs.Common.{refl}
use Rattle.clap.proofs.OnLiterals.{clap_on_literals}
use Rattle.ddcmp_args.specs.Args.{named_by, option_in, text_in}
use Rattle.ddcmp_args.proofs.laws.link_is_asked.Goals as goal

pub returns : goal.returns
unfolding clap_on_literals named_by option_in text_in
returns c = record {
  plain = record { in_order = refl; names = refl };
  line = refl;
  only = refl;
  window = refl;
  binary = (refl, refl);
  events = (refl, refl);
  maintenance = (refl, refl);
  acknowledge_early = (refl, refl);
  stay = (refl, refl);
  again = (refl, refl);
  counters = (refl, refl);
  trace = (refl, refl);
  ladder = (refl, refl);
  seconds = refl;
  timer = refl;
  incomplete = refl;
}
