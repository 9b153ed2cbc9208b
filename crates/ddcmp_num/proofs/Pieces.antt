-- A text in pieces of one size.
use Rattle.std.proofs.Common.{◌≡◌, ℕ, zero, suc, ◌+◌, ◌*◌, ◌<◌, List, [], ◌++◌, get_or, take, drop}
use Rattle.std.proofs.Common.{sym, ◌∙◌, ap, arith, append_assoc}
use Rattle.std.proofs.Math.Nat.{add-mul}
use Rattle.std.proofs.Math.Seq.{take-add}
use Rattle.std.specs.Simd.{first_chunks}

-- the text up to a piece, and that piece
pub take_piece : (size k i : ℕ) (text : List ℕ) → i < k
    → take ((i + 1) * size) text
    ≡ take (i * size) text ++ get_or (first_chunks size k text) i []
take_piece size zero i text h = absurd (omega arith)
take_piece size (suc k) zero text h =
    let one : (zero + 1) * size ≡ size = omega arith in
    let none : zero ≡ zero * size = omega arith in
    ap (λ n. take n text) one ∙ ap (λ n. take n text ++ take size text) none
take_piece size (suc k) (suc i) text h =
    let more : (suc i + 1) * size ≡ size + (i + 1) * size = omega (arith, add-mul 1 (i + 1) size) in
    let here : suc i * size ≡ size + i * size = omega (arith, add-mul 1 i size) in
    ap (λ n. take n text) more
    ∙ take-add size ((i + 1) * size) text
    ∙ ap (λ t. take size text ++ t) (take_piece size k i (drop size text) (omega arith))
    ∙ sym
    (append_assoc (take size text) (take (i * size) (drop size text))
    (get_or (first_chunks size k (drop size text)) i []))
    ∙ ap (λ t. t ++ get_or (first_chunks size k (drop size text)) i [])
    (sym (take-add size (i * size) text))
    ∙ ap (λ n. take n text ++ get_or (first_chunks size k (drop size text)) i []) (sym here)
