use Rattle.std.proofs.Common.{◌+◌, ◌∙◌, ap, Some}
use Rattle.ddcmp_proto.proofs.PollLaws.{length_is, no_length}
use Rattle.ddcmp_proto.proofs.station.Station.next_length.Goals as goal

pub returns-in-None : goal.returns-in-None
returns-in-None c =
    no_length c.args.self.now.core.station c.args.self.now.syn c.in-None.ensures.header

pub returns-in-Some : goal.returns-in-Some
returns-in-Some c =
    let syn = ap (λ v. v.syn) c.self.view_is in
    ap (λ n. Some (n + c.frame_length.result)) syn
    ∙ ap (λ n. Some (c.args.self.now.syn + n)) c.frame_length.ensures
    ∙ length_is c.args.self.now.core.limits c.args.self.now.core.station c.args.self.now.syn
    c.in-Some.header c.next_header.ensures.sound.sound c.in-Some.ensures.header
