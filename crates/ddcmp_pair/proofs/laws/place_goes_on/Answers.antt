use Rattle.std.proofs.Common.{Some}
use Rattle.ddcmp_pair.proofs.Places.{place-stays, place_from-last}
use Rattle.ddcmp_pair.proofs.laws.place_goes_on.Goals as goal

pub returns-clause-sent : goal.returns-clause-sent
returns-clause-sent c = λ arrived sent more n e. place-stays arrived sent more (Some 0) n e

pub returns-clause-arrived : goal.returns-clause-arrived
returns-clause-arrived c = λ arrived sent f. place_from-last (Some 0) arrived sent f
