-- Numbers that are near are known by their remainders by 256.
use Rattle.std.proofs.Common.{◌≡◌, ◌↔◌, ℕ, ◌+◌, ◌-◌, ◌%◌, ◌≤◌, List, ◌∷◌, length, arith}
use Rattle.ddcmp_core.specs.Sequence.{distance, Within}
use Rattle.ddcmp_core.specs.Numbers.{next_number}
use Rattle.ddcmp_pair.specs.Link.{Link}
use Rattle.ddcmp_pair.proofs.Links.{Ahead, Rising, rising-ends, ahead-ends}
use Rattle.ddcmp_pair.proofs.Reached.{IsReached, reached-keeps}

-- ---- numbers

pub distance-near : (a q : ℕ) → a ≤ q → q ≤ a + 255 → distance (a % 256) (q % 256) ≡ q - a
distance-near a q low high = omega arith

pub next-near : (w u k : ℕ) → w ≤ 255 → u + 1 ≤ k + w → k ≤ u + w → k % 256 ≡ next_number (u % 256)
    → k ≡ u + 1
next-near w u k small low high e = omega arith

pub within-near : (w a q n : ℕ) → w ≤ 255 → a ≤ q → q ≤ n → n ≤ a + w
    → Within (a % 256) (q % 256) (n % 256)
within-near w a q n small low high near = omega arith

next-number : (u k : ℕ) → k ≡ u + 1 → k % 256 ≡ next_number (u % 256)
next-number u k e = omega (arith, e)

-- ---- what arrives on a link

pub forward-near : (w k : ℕ) (later : List ℕ) (l : Link) → IsReached w l → l.forward ≡ k ∷ later
    → (length l.handed_up + 1 ≤ k + w) × (k ≤ length l.handed_up + w)
forward-near w k later l r f =
    let h = (reached-keeps w l r).ahead in
    let a : Ahead w (length l.handed_up) l.sent (length l.handed_up) (k ∷ later) = rw f at h in
    (omega (arith, a.1), a.2)

pub forward-next : (w k : ℕ) (later : List ℕ) (l : Link) → w ≤ 255 → IsReached w l
    → l.forward ≡ k ∷ later
    → (k % 256 ≡ next_number (length l.handed_up % 256)) ↔ (k ≡ length l.handed_up + 1)
forward-next w k later l small r f =
    let n = forward-near w k later l r f in (
      λ e. next-near w (length l.handed_up) k small n.0 n.1 e,
      λ e. next-number (length l.handed_up) k e,
    )

pub back-between : (w q : ℕ) (later : List ℕ) (l : Link) → IsReached w l → l.back ≡ q ∷ later
    → (l.acknowledged ≤ q) × (q ≤ l.sent) × (l.sent ≤ l.acknowledged + w)
back-between w q later l r f =
    let h = reached-keeps w l r in
    let b : Rising l.acknowledged (length l.handed_up) (q ∷ later) =
    (let z = h.rising in rw f at z) in (
      b.0,
      omega (arith, rising-ends q (length l.handed_up) later b.1, ahead-ends _ _ _ _ _ h.ahead),
      h.within,
    )

pub back-within : (w q : ℕ) (later : List ℕ) (l : Link) → w ≤ 255 → IsReached w l
    → l.back ≡ q ∷ later
    → Within (l.acknowledged % 256) (q % 256) (l.sent % 256)
back-within w q later l small r f =
    let b = back-between w q later l r f in
    within-near w l.acknowledged q l.sent small b.0 b.1 b.2

pub back-distance : (w q : ℕ) (later : List ℕ) (l : Link) → w ≤ 255 → IsReached w l
    → l.back ≡ q ∷ later
    → distance (l.acknowledged % 256) (q % 256) ≡ q - l.acknowledged
back-distance w q later l small r f =
    let b = back-between w q later l r f in
    distance-near l.acknowledged q b.0 (omega (arith, b.1, b.2))
