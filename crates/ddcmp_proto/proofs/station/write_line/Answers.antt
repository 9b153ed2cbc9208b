use Rattle.std.proofs.Common.{◌≡◌, ◌+◌, ◌++◌, length, take, drop, replicate, sym, ◌∙◌, ap}
use Rattle.std.proofs.Common.{append_assoc}
use Rattle.std.proofs.lemmas.List.{take-replicate, length-replicate, drop-drop}
use Rattle.ddcmp_frame.specs.Wire.{wire}
use Rattle.ddcmp_proto.specs.Bytes.{data_in}
use Rattle.ddcmp_proto.proofs.station.write_line.Goals as goal

pub returns-clause-written : goal.returns-clause-written
returns-clause-written c =
    let syn = c.args.syn in
    let count = c.args.count in
    let out = c.args.out.now in
    let header = c.args.header.now in
    let frame = wire header (data_in syn count out) in
    let n = c.write_around.result in
    let f : c.copy_from_slice.new.self ≡ replicate syn 150 =
    c.copy_from_slice.ensures.after ∙ take-replicate syn 16 150 c.requires.syn.0 in
    let l = ap length f ∙ length-replicate syn 150 in
    let w =
    c.write_around.ensures.written
    ∙ ap (λ x. wire header (take count (drop 8 x)) ++ drop n x) c.split_at_mut-fill.ensures.back in
    let rest = drop-drop n syn out ∙ ap (λ k. drop (k + n) out) (sym l) in
    ap (λ x. x ++ c.write_around.new.out) f
    ∙ ap (λ x. replicate syn 150 ++ x) (w ∙ ap (λ x. frame ++ x) rest)
    ∙ sym (append_assoc (replicate syn 150) frame _)
