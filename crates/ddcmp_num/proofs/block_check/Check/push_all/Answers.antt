use Rattle.std.proofs.Common.{◌≡◌, ◌*◌, ◌/◌, ◌++◌, ◌∙◌, [], ap, get_or, length, take, sym, arith}
use Rattle.std.proofs.Common.{append_assoc}
use Rattle.std.proofs.lemmas.List.{take-append-drop}
use Rattle.ddcmp_num.specs.Check.{check_of}
use Rattle.ddcmp_num.proofs.Pieces.{take_piece}
use Rattle.ddcmp_num.proofs.block_check.Check.push_all.Goals as goal

pub loop-sixteen-preserved : goal.loop-sixteen-preserved
loop-sixteen-preserved c = λ text h.
    let bytes = c.args.bytes.now in
    let i = c.loop-sixteen.sixteen-index in
    let before = take (i * 16) bytes in
    c.push_sixteen.ensures (text ++ before) (c.loop-sixteen.invariant text h)
    ∙ ap check_of (
    append_assoc text before (get_or c.as_chunks.result.0.now i [])
    ∙ ap (λ t. text ++ (before ++ get_or t i [])) c.as_chunks.ensures.front
    ∙ ap (λ t. text ++ t) (sym (take_piece 16 (length bytes / 16) i bytes (omega arith)))
    )

pub returns : goal.returns
returns c = λ text h.
    let bytes = c.args.bytes.now in
    let rest = c.as_chunks.result.1.now in
    let taken : c.loop-sixteen.sixteen-index ≡ length bytes / 16 = omega arith in
    let before = take (length bytes / 16 * 16) bytes in
    c.push_rest.ensures (text ++ take (c.loop-sixteen.sixteen-index * 16) bytes)
    (c.loop-sixteen.invariant text h)
    ∙ ap (λ n. check_of (text ++ take (n * 16) bytes ++ rest)) taken
    ∙ ap check_of (
    append_assoc text before rest
    ∙ ap (λ t. text ++ (before ++ t)) c.as_chunks.ensures.back
    ∙ ap (λ t. text ++ t) (take-append-drop (length bytes / 16 * 16) bytes)
    )
