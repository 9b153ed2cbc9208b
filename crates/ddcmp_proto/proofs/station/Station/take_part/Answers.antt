use Rattle.std.proofs.Common.{◌≡◌, ◌+◌, ◌-◌, None, Some, ◌∙◌, ap, subst, arith, take, drop}
use Rattle.std.specs.Prelude.{option_to_list}
use Rattle.ddcmp_frame.specs.declared.header.Header.TheVariants.{Data}
use Rattle.ddcmp_frame.specs.declared.item.Item.TheVariants.{Good}
use Rattle.ddcmp_frame.specs.Reader.{items_given, PushesAll, PushesFrame}
use Rattle.ddcmp_core.specs.Table.{notice_of}
use Rattle.ddcmp_proto.specs.Bytes.{after_item, received_of}
use Rattle.ddcmp_proto.specs.Station.{StationView}
use Rattle.ddcmp_proto.specs.Inside.OnePart.{TakesPart}
use Rattle.ddcmp_proto.proofs.FeedLaws.{Pushed, pushed-part, part-none, part-some}
use Rattle.ddcmp_proto.proofs.station.Station.take_part.Goals as goal

pub returns-in-None-clause-takes : goal.returns-in-None-clause-takes
returns-in-None-clause-takes c =
    let i = c.self.inside in
    let p = c.push_all-used in
    let e =
    subst (λ r. PushesAll r c.args.piece.now p.result p.new.self)
    (c.push_frame.ensures.none c.in_default.is) p.ensures in
    let bytes = take p.result.used c.args.piece.now in
    let pushed =
    pushed-part i.reader p.new.self c.args.piece.now p.result.used p.result.item e.used e.stands
    e.item e.first e.counted in
    subst
    (λ v. TakesPart v bytes (record { core = i.core; syn = i.config.syn; line = p.new.self })
    None) c.self.view_is
    (part-none i.core i.config.syn i.reader p.new.self bytes c.self.invariant.0
    (subst (λ g. Pushed i.reader p.new.self bytes (items_given g p.new.self.lent))
    c.in-None.is pushed))

pub returns-in-Some-item-clause-takes : goal.returns-in-Some-item-clause-takes
returns-in-Some-item-clause-takes c =
    let i = c.self.inside in
    let p = c.push_all-used in
    let e =
    subst (λ r. PushesAll r c.args.piece.now p.result p.new.self)
    (c.push_frame.ensures.none c.in_default.is) p.ensures in
    let bytes = take p.result.used c.args.piece.now in
    let pushed =
    pushed-part i.reader p.new.self c.args.piece.now p.result.used p.result.item e.used e.stands
    e.item e.first e.counted in
    subst (λ v. TakesPart v bytes c.take_item.new.self c.take_item.result) c.self.view_is
    (part-some i.core i.config.syn i.reader p.new.self p.new.self.lent bytes c.in-Some-item.item
    c.take_item.new.self c.take_item.result c.self.invariant.0
    (subst (λ g. Pushed i.reader p.new.self bytes (items_given g p.new.self.lent))
    c.in-Some-item.is pushed)
    c.take_item.ensures.state c.take_item.ensures.told c.take_item.ensures.leaves)

pub returns-in-Some-clause-takes : goal.returns-in-Some-clause-takes
returns-in-Some-clause-takes c =
    let i = c.self.inside in
    let p = c.push_frame in
    let h = c.in-Some.fields in
    let piece = c.args.piece.now in
    let e : PushesFrame i.reader piece h p.new.self = c.in-Some.ensures.pushes in
    let item = Good i.reader.offset (Data h) in
    let lent = take h.count (drop 8 piece) in
    let bytes = take (h.count + 10) piece in
    let count = ap (λ x. x.count) c.fields.view_is in
    let size : c.fields.inside.count + 8 - 8 ≡ h.count = omega (arith, count) in
    let total : h.count + 10 ≡ c.fields.inside.count + 8 + 2 = omega (arith, count) in
    let new : StationView =
    record { core = c.on.new.self; syn = i.config.syn; line = p.new.self } in
    let pushed =
    pushed-part i.reader (record p.new.self { lent = lent }) piece (h.count + 10) (Some item) e.used
    e.stands e.item e.first e.counted in
    subst (λ n. TakesPart c.args.self.now (take n piece) new c.on.result) total
    (subst (λ v. TakesPart v bytes new c.on.result) c.self.view_is
    (part-some i.core i.config.syn i.reader p.new.self lent bytes item new c.on.result
    c.self.invariant.0 pushed
    (ap (λ k. record { core = k; syn = i.config.syn; line = p.new.self })
    (c.on.ensures.state ∙ ap (λ n. after_item (item, take n (drop 8 piece)) i.core) size))
    (ap option_to_list
    (c.on.ensures.told
    ∙ ap
    (λ n. notice_of i.core.limits i.core.station (received_of (item, take n (drop 8 piece))))
    size)) c.on.ensures.leaves))
