use Rattle.std.proofs.Common.{◌≡◌, [], ◌++◌, subst, sym, ap, arith}
use Rattle.std.proofs.lemmas.List.{length-take, take-take}
use Rattle.ddcmp_frame.specs.Reader.{StandsFor}
use Rattle.ddcmp_proto.specs.Bytes.{notices_of_piece}
use Rattle.ddcmp_station.proofs.link.Link.feed.Goals as goal

pub feed-fed-requires : goal.feed-fed-requires
feed-fed-requires c =
    omega (
      arith,
      length-take c.countable-most.result c.args.piece.now,
      c.countable-most.ensures.fits,
      ap (λ v. v.station.line.offset) c.self.view_is,
    )

pub returns-clause-stands : goal.returns-clause-stands
returns-clause-stands c = rw (sym c.self.view_is) (λ text s.
    subst (λ xs. StandsFor c.feed-fed.new.self.line (text ++ xs))
    (take-take c.feed-fed.result.used c.countable-most.result c.args.piece.now
    (omega
    (arith, length-take c.countable-most.result c.args.piece.now, c.feed-fed.ensures.used)))
    (c.feed-fed.ensures.stands text s))

pub returns-clause-first : goal.returns-clause-first
returns-clause-first c = rw (sym c.self.view_is) (λ text n s less.
    subst (λ xs. notices_of_piece text xs c.self.inside.station.core ≡ [])
    (take-take n c.countable-most.result c.args.piece.now
    (omega (
      arith,
      length-take c.countable-most.result c.args.piece.now,
      c.feed-fed.ensures.used,
      less,
    )))
    (c.feed-fed.ensures.first text n s less))
