use Rattle.std.proofs.Common.{◌≡◌, Bool, arith, false, inl, inr, length-take-le, sym, take, true}
use Rattle.std.proofs.Common.{◌∙◌}
use Rattle.ddcmp_explain.proofs.ReadLaws.{opens}
use Rattle.ddcmp_explain.proofs.input_bytes.InputBytes.open.Goals as goal

pub returns-in-Whole-clause-gives : goal.returns-in-Whole-clause-gives
returns-in-Whole-clause-gives g c = λ input e.
    opens (g.R.Source.left c.args.reader.now) (g.R.Source.left c.read_opening.new.reader) input
    c.read_opening.new.first c.begin.new.bytes c.begin.new.self c.begin.result e
    c.in-Whole.ensures.bytes (inl c.read_opening.array_long) c.begin.ensures.seen
    c.begin.ensures.detects
    (λ t. let bad : ◌≡◌ {A = Bool} false true = sym c.begin.ensures.ended ∙ t in cc)
    c.begin.ensures.read c.begin.ensures.bytes

pub returns-in-Ended-clause-gives : goal.returns-in-Ended-clause-gives
returns-in-Ended-clause-gives g c = λ input e.
    let opened = c.in-Ended.ensures.bytes in
    let long = length-take-le c.in-Ended.n c.read_opening.new.first
    (omega (arith, opened.0, c.read_opening.array_long)) in
    opens (g.R.Source.left c.args.reader.now) (g.R.Source.left c.read_opening.new.reader) input
    (take c.in-Ended.n c.read_opening.new.first) c.begin-in-Ended.new.bytes
    c.begin-in-Ended.new.self c.begin-in-Ended.result e opened.1
    (inr (omega (arith, long, opened.0), opened.2)) c.begin-in-Ended.ensures.seen
    c.begin-in-Ended.ensures.detects (λ _. opened.2) c.begin-in-Ended.ensures.read
    c.begin-in-Ended.ensures.bytes
