-- What tests of numbers say, and choices by them.
use Rattle.std.proofs.Common.{◌≡◌, ◌≢◌, ℕ, ◌<◌, ◌≤◌, Bool, true, false, cond, List, [], ◌∷◌, refl}
use Rattle.std.proofs.Common.{arith, ◌↔◌, ◌⊎◌, inl, inr, Some, None, Option, Result, Ok}
use Rattle.std.specs.Prelude.{◌==◌, ◌&&◌, nat_lt, IsTrue}
use Rattle.std.proofs.lemmas.Bool.Decides.{nat_tests}

pub chosen : {A : Type 0} (b : Bool) (x y z : A) → cond b x y ≡ z
    → ((b ≡ true) × (x ≡ z)) ⊎ ((b ≡ false) × (y ≡ z))
chosen true x y z h = inl (refl, h)
chosen false x y z h = inr (refl, h)

-- a choice by a test that fails
pub when_false : {A : Type 0} (b : Bool) (x y : A) → (b ≡ true → ⊥) → cond b x y ≡ y
when_false true x y h = absurd (h refl)
when_false false x y h = refl

pub false-true : ◌≡◌ {A = Bool} false true → ⊥
false-true e = cc

pub eqb-true : (a b : ℕ) → (a == b) ≡ true → a ≡ b
eqb-true a b h = grind (arith, nat_tests)

pub eqb-false : (a b : ℕ) → (a == b) ≡ false → a ≢ b
eqb-false a b h = grind (arith, nat_tests)

pub same-eqb : (a b : ℕ) → a ≡ b → (a == b) ≡ true
same-eqb a b h = grind (arith, nat_tests)

pub other-eqb : (a b : ℕ) → a ≢ b → (a == b) ≡ false
other-eqb a b h = grind (arith, nat_tests)

pub decides-eqb : (a b : ℕ) → IsTrue (a == b) ↔ (a ≡ b)
decides-eqb a b = (eqb-true a b, same-eqb a b)

pub ltb-is : (a b : ℕ) → a < b → nat_lt a b ≡ true
ltb-is a b h = grind (arith, nat_tests)

pub ltb-isnt : (a b : ℕ) → b ≤ a → nat_lt a b ≡ false
ltb-isnt a b h = grind (arith, nat_tests)

pub ltb-less : (a b : ℕ) → nat_lt a b ≡ true → a < b
ltb-less a b h = grind (arith, nat_tests)

pub ltb-not : (a b : ℕ) → nat_lt a b ≡ false → b ≤ a
ltb-not a b h = grind (arith, nat_tests)

pub pair_from_tests : (x y p q : ℕ) → ((x == p) && (y == q)) ≡ true
    → ◌≡◌ {A = List ℕ} (x ∷ y ∷ []) (p ∷ q ∷ [])
pair_from_tests x y p q h = grind (arith, nat_tests)

pub tests_from_pair : (x y p q : ℕ) → ◌≡◌ {A = List ℕ} (x ∷ y ∷ []) (p ∷ q ∷ [])
    → ((x == p) && (y == q)) ≡ true
tests_from_pair x y p q h = let a : x ≡ p = cc in let b : y ≡ q = cc in grind (arith, nat_tests)

pub same_bool : (x y : Bool) (P : Type 0) → (IsTrue x ↔ P) → (IsTrue y ↔ P) → x ≡ y
same_bool true true P f g = refl
same_bool true false P f g = let h : false ≡ true = g.1 (f.0 refl) in cc
same_bool false true P f g = f.1 (g.0 refl)
same_bool false false P f g = refl

pub some-inj : {A : Type 0} {r s : A} → ◌≡◌ {A = Option A} (Some r) (Some s) → r ≡ s
some-inj h = cc

pub ok-inj : {A E : Type 0} {r s : A} → ◌≡◌ {A = Result A E} (Ok r) (Ok s) → r ≡ s
ok-inj h = cc

pub none-some : {A : Type 0} {r : A} → ◌≡◌ {A = Option A} None (Some r) → ⊥
none-some h = cc

pub some-none : {A : Type 0} {r : A} → ◌≡◌ {A = Option A} (Some r) None → ⊥
some-none h = cc
