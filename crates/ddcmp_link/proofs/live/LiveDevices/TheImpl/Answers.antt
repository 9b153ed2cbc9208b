-- What the devices gave and took isn't known.
use Rattle.std.proofs.Common.{ap, refl}
use Rattle.std.specs.Option.{option_map}
use Rattle.ddcmp_session.specs.Traffic.{line_begun}
use Rattle.ddcmp_link.proofs.live.LiveDevices.TheImpl.Goals as goal

pub open_line-tells : goal.open_line-tells
open_line-tells g c = record {
  session = c.ensures.session;
  log = c.ensures.log;
  opened = λ _ before known. ap (option_map line_begun) known;
  not_opened = λ _. refl;
}
