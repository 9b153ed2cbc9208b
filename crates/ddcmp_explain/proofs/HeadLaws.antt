-- How the frame that is open begins, after one more byte.
use Rattle.std.proofs.Common.{◌≡◌, inl, inr, ℕ, ◌+◌, ◌-◌, ◌<◌, ◌≤◌, List, [], ◌∷◌, ◌++◌, length}
use Rattle.std.proofs.Common.{take, take_all, drop, sym, ◌∙◌, ap, arith, length-append}
use Rattle.std.proofs.lemmas.List.{take-append-le}
use Rattle.ddcmp_explain.specs.declared.head.Head.{Head}
use Rattle.ddcmp_explain.specs.Inside.Heads.{Heads, Follows}

grown : (rest more : List ℕ) (b : ℕ) → Follows rest b more → length rest < length more
    → more ≡ rest ++ b ∷ []
grown rest more b f l =
    let none : length rest + 1 - length more ≡ 0 = omega (arith, f.within) in
    f.suffix ∙ ap (λ n. drop n (rest ++ b ∷ [])) none

pub appended : (was now : Head) (rest more : List ℕ) (b : ℕ) → Heads was rest → Follows rest b more
    → now.count ≡ length more
    → was.count < now.count → was.count < 8 → length now.bytes ≡ 8
    → take (was.count + 1) now.bytes ≡ take was.count was.bytes ++ b ∷ [] → Heads now more
appended was now rest more b h f n l few eight kept =
    let is : more ≡ rest ++ b ∷ [] = grown rest more b f (omega (arith, h.counted)) in
    let long : length more ≡ length rest + 1 = ap length is ∙ length-append rest (b ∷ []) in
    let all : take (was.count + 1) now.bytes ≡ more =
    kept ∙ ap (λ t. t ++ b ∷ []) (h.short (omega (arith, h.counted))) ∙ sym is in
    record {
      counted = n;
      short = λ s. let k : now.count ≡ was.count + 1 = omega (arith, h.counted) in
          ap (λ k. take k now.bytes) k ∙ all;
      full =
          λ s. sym (take_all (was.count + 1) now.bytes (omega (arith, h.counted))) ∙ all
          ∙ sym (take_all 8 more (omega (arith, h.counted)));
    }

pub stayed : (was now : Head) (rest more : List ℕ) (b : ℕ) → Heads was rest → Follows rest b more
    → now.count ≡ length more
    → was.count < now.count → 8 ≤ was.count → now.bytes ≡ was.bytes → Heads now more
stayed was now rest more b h f n l full same =
    let is : more ≡ rest ++ b ∷ [] = grown rest more b f (omega (arith, h.counted)) in
    record {
      counted = n;
      short = λ s. absurd (omega (arith, h.counted));
      full =
          λ s. same ∙ h.full (omega (arith, h.counted))
          ∙ sym (take-append-le 8 rest (b ∷ []) (omega (arith, h.counted)))
          ∙ ap (take 8) (sym is);
    }

pub shifted : (was now : Head) (rest more : List ℕ) (b : ℕ) → Heads was rest → Follows rest b more
    → now.count ≡ length more
    → now.count ≤ was.count → was.count < 8
    → take now.count now.bytes
    ≡ drop (was.count + 1 - now.count) (take was.count was.bytes ++ b ∷ [])
    → Heads now more
shifted was now rest more b h f n l few kept = record {
  counted = n;
  short =
      λ s. kept
      ∙ ap (λ t. drop (was.count + 1 - now.count) (t ++ b ∷ []))
      (h.short (omega (arith, h.counted)))
      ∙ (let k : was.count + 1 - now.count ≡ length rest + 1 - length more =
      omega (arith, h.counted) in
      ap (λ k. drop k (rest ++ b ∷ [])) k)
      ∙ sym f.suffix;
  full = λ s. absurd (omega (arith, h.counted));
}

pub ended : (was now : Head) (rest more : List ℕ) (b : ℕ) → Heads was rest → Follows rest b more
    → now.count ≡ length more
    → now.count ≤ was.count → 8 ≤ was.count → Heads now more
ended was now rest more b h f n l full = elim (f.whole (omega (arith, h.counted))) [
  | inl long ↦ absurd (omega (arith, h.counted))
  | inr none ↦ record {
    counted = n;
    short = λ s. ap (λ k. take k now.bytes) (n ∙ ap length none) ∙ sym none;
    full = λ s. absurd (omega (arith, ap length none));
  }
]
