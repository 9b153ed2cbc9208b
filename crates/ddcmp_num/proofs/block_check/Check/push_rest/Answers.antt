use Rattle.std.proofs.Common.{◌≡◌, ◌*◌, ◌/◌, ◌++◌, ◌∙◌, [], ap, get_or, length, take, take_all, sym}
use Rattle.std.proofs.Common.{arith, append_assoc}
use Rattle.std.proofs.lemmas.List.{take-append-drop}
use Rattle.ddcmp_num.specs.Check.{check_of}
use Rattle.ddcmp_num.proofs.Pieces.{take_piece}
use Rattle.ddcmp_num.proofs.block_check.Check.push_rest.Goals as goal

pub loop-eight-preserved : goal.loop-eight-preserved
loop-eight-preserved c = λ text h.
    let bytes = c.args.bytes.now in
    let i = c.loop-eight.eight-index in
    let before = take (i * 8) bytes in
    c.push_eight.ensures (text ++ before) (c.loop-eight.invariant text h)
    ∙ ap check_of (
    append_assoc text before (get_or c.as_chunks.result.0.now i [])
    ∙ ap (λ t. text ++ (before ++ get_or t i [])) c.as_chunks.ensures.front
    ∙ ap (λ t. text ++ t) (sym (take_piece 8 (length bytes / 8) i bytes (omega arith)))
    )

pub returns : goal.returns
returns c = λ text h.
    let bytes = c.args.bytes.now in
    let rest = c.as_chunks.result.1.now in
    let taken : c.loop-eight.eight-index ≡ length bytes / 8 = omega arith in
    let before = take (length bytes / 8 * 8) bytes in
    c.loop-byte.invariant (text ++ take (c.loop-eight.eight-index * 8) bytes)
    (c.loop-eight.invariant text h)
    ∙ ap (λ n. check_of (text ++ take (n * 8) bytes ++ take c.loop-byte.byte-index rest)) taken
    ∙ ap check_of (
    append_assoc text before (take c.loop-byte.byte-index rest)
    ∙ ap (λ t. text ++ (before ++ t))
    (take_all c.loop-byte.byte-index rest (omega arith) ∙ c.as_chunks.ensures.back)
    ∙ ap (λ t. text ++ t) (take-append-drop (length bytes / 8 * 8) bytes)
    )
