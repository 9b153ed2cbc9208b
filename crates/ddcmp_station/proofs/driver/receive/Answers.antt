use Rattle.std.proofs.Common.{refl, rules, take}
use Rattle.ddcmp_station.proofs.SeenLaws.{receives-all}
use Rattle.ddcmp_station.proofs.driver.receive.Goals as goal

pub returns-clause-seen : goal.returns-clause-seen
returns-clause-seen g c =
    receives-all g.U.User.becomes c.args.station.now c.feed_all.new.station
    (take c.match-read.came c.read.new.buf)
    _ _ _ c.feed_all.ensures.seen c.deliver.ensures.seen c.feed_all.ensures.state

pub returns-in-Bytes-eq0 : goal.returns-in-Bytes-eq0
returns-in-Bytes-eq0 g c = record {
  most = tt;
  consumed = tt;
  stands = λ text s. tt;
  state = λ text s. tt;
  offset = tt;
  limits = refl;
  syn = refl;
  refused = refl;
  nothing = search rules;
  read = search rules;
  ended = search rules;
  fine = search rules;
  write = search rules;
  memory = search rules;
  answers = search rules;
  seen = tt;
  unseen = refl;
}

pub returns-in-Failed : goal.returns-in-Failed
returns-in-Failed g c = record {
  most = tt;
  consumed = tt;
  stands = λ text s. tt;
  state = λ text s. tt;
  offset = tt;
  limits = refl;
  syn = refl;
  refused = refl;
  nothing = search rules;
  read = search rules;
  ended = search rules;
  fine = search rules;
  write = search rules;
  memory = search rules;
  answers = search rules;
  seen = tt;
  unseen = refl;
}
