use Rattle.std.proofs.Common.{arith}
use Rattle.ddcmp_explain.proofs.ReadLaws.{decodes-dump}
use Rattle.ddcmp_explain.proofs.input_bytes.InputBytes.decode_in_form.Goals as goal

pub returns-in-Dump-clause-decodes : goal.returns-in-Dump-clause-decodes
returns-in-Dump-clause-decodes c = λ form seen none read.
    decodes-dump form seen c.args.piece.now c.args.bytes.now _ c.blank.new.piece
    c.pair-in-Dump.new.bytes c.pair-in-Dump.result c.args.self.now _ c.args.n c.in-Dump.is read
    c.blank.ensures.shown (omega (arith, c.fits-piece, c.requires))
    (c.pair-in-Dump.ensures.decodes _)
    c.pair-in-Dump.ensures.spot none c.blank.ensures.state
