use Rattle.std.proofs.Common.{◌≡◌, ◌≢◌, MatchOption, sym, subst, refl}
use Rattle.ddcmp_ports.specs.LineNames.{word_of, IsPlain}
use Rattle.ddcmp_ports.specs.declared.line_name.LineName.{LineName}
use Rattle.ddcmp_ports.specs.declared.line_name.LineName.TheVariants.{Connect, Listen, Udp}
use Rattle.ddcmp_ports.specs.declared.line_name.LineName.TheVariants.{Device}
use Rattle.ddcmp_ports.proofs.LineNameLaws.{kind_of, rest_of, word_by_parts, none_without_kind}
use Rattle.ddcmp_ports.proofs.LineNameLaws.{none_without_comma, none_of_kind, plain_connect}
use Rattle.ddcmp_ports.proofs.LineNameLaws.{plain_listen, plain_device, no_kind, split_udp}
use Rattle.ddcmp_ports.proofs.line_name.LineName.read.Goals as goal

-- src/line_name.rt:24:28
pub returns-in_err-kind : goal.returns-in_err-kind
returns-in_err-kind c = record {
  names =
      subst
      (λ r. MatchOption r ((name : LineName) → word_of name ≢ c.args.word.now)
      (λ name. (word_of name ≡ c.args.word.now) × IsPlain name)) (sym c.from_residual.ensures)
      (none_without_kind c.args.word.now c.split_once.result c.split_once.ensures.cases
      (c.in_err-kind.was));
}

-- src/line_name.rt:29:39
pub returns-in_err-local-in-udp : goal.returns-in_err-local-in-udp
returns-in_err-local-in-udp c = record {
  names =
      subst
      (λ r. MatchOption r ((name : LineName) → word_of name ≢ c.args.word.now)
      (λ name. (word_of name ≡ c.args.word.now) × IsPlain name))
      (sym c.from_residual-in_err-local-in-udp.ensures)
      (none_without_comma c.args.word.now c.split_once.result c.split_once-in-udp.result
      c.in_ok-kind.kind c.in_ok-kind.rest c.split_once.ensures.cases (c.in_ok-kind.was)
      c.in-udp.is
      c.split_once-in-udp.ensures.cases (c.in_err-local-in-udp.was));
}

-- src/line_name.rt:20:5
pub returns-in-connect : goal.returns-in-connect
unfolding kind_of rest_of
returns-in-connect c = record {
  names = (
    word_by_parts (Connect c.in_ok-kind.rest)
        c.args.word.now c.split_once.result c.in_ok-kind.kind c.in_ok-kind.rest
        c.split_once.ensures.cases (c.in_ok-kind.was) c.in-connect.is refl,
    plain_connect c.in_ok-kind.rest,
  );
}

-- src/line_name.rt:20:5
pub returns-in-listen : goal.returns-in-listen
unfolding kind_of rest_of
returns-in-listen c = record {
  names = (
    word_by_parts (Listen c.in_ok-kind.rest)
        c.args.word.now c.split_once.result c.in_ok-kind.kind c.in_ok-kind.rest
        c.split_once.ensures.cases (c.in_ok-kind.was) c.in-listen.is refl,
    plain_listen c.in_ok-kind.rest,
  );
}

-- src/line_name.rt:20:5
pub returns-in_ok-local-in-udp : goal.returns-in_ok-local-in-udp
unfolding kind_of rest_of
returns-in_ok-local-in-udp c =
    let pair =
    split_udp c.in_ok-kind.rest.now c.split_once-in-udp.result c.in_ok-local-in-udp.local
    c.in_ok-local-in-udp.remote c.split_once-in-udp.ensures.cases (c.in_ok-local-in-udp.was) in
    record {
      names = (
        word_by_parts (Udp c.in_ok-local-in-udp.local c.in_ok-local-in-udp.remote)
            c.args.word.now c.split_once.result c.in_ok-kind.kind c.in_ok-kind.rest
            c.split_once.ensures.cases (c.in_ok-kind.was) c.in-udp.is pair.0,
        pair.1,
      );
    }

-- src/line_name.rt:20:5
pub returns-in-device : goal.returns-in-device
unfolding kind_of rest_of
returns-in-device c = record {
  names = (
    word_by_parts (Device c.in_ok-kind.rest)
        c.args.word.now c.split_once.result c.in_ok-kind.kind c.in_ok-kind.rest
        c.split_once.ensures.cases (c.in_ok-kind.was) c.in-device.is refl,
    plain_device c.in_ok-kind.rest,
  );
}

-- src/line_name.rt:20:5
pub returns-in_default : goal.returns-in_default
returns-in_default c = record {
  names =
      none_of_kind c.args.word.now c.split_once.result c.in_ok-kind.kind c.in_ok-kind.rest
      c.split_once.ensures.cases (c.in_ok-kind.was)
      (no_kind c.in_ok-kind.kind.now c.in_default.not-connect c.in_default.not-listen
      c.in_default.not-udp c.in_default.not-device);
}
