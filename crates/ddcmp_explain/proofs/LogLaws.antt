-- Characters of a log, one after another.
use Rattle.std.proofs.Common.{◌≡◌, ℕ, ◌+◌, ◌<◌, Bool, true, false, List, [], ◌∷◌, ◌++◌, length}
use Rattle.std.proofs.Common.{take, drop, get_or, refl, sym, ◌∙◌, ap, arith, Option, Some, None}
use Rattle.std.proofs.Common.{length-append, length-take-le, append_assoc}
use Rattle.std.specs.Prelude.{if◌then◌else◌, option_to_list}
use Rattle.std.proofs.lemmas.List.{append-nil, take_more, take-append-drop}
use Rattle.ddcmp_explain.specs.declared.form.Form.TheVariants.{Text}
use Rattle.ddcmp_explain.specs.declared.spot.Spot.{Spot}
use Rattle.ddcmp_explain.specs.declared.spot.Spot.TheVariants.{Between, Zero, Prefixed, Half}
use Rattle.ddcmp_explain.specs.declared.spot.Spot.TheVariants.{Comment, Wrong}
use Rattle.ddcmp_explain.specs.Digits.{completed_at, half_at, is_wrong, logged_from, spot_after}
use Rattle.ddcmp_explain.specs.Digits.{spot_from, wrong_from}
use Rattle.ddcmp_explain.specs.Inside.Decoding.{Decodes}

pub spot-more : (p : Spot) (xs ys : List ℕ)
    → spot_from p (xs ++ ys) ≡ spot_from (spot_from p xs) ys
unfolding spot_from
spot-more p [] ys = refl
spot-more p (x ∷ xs) ys = spot-more (spot_after p x) xs ys

pub logged-more : (p : Spot) (xs ys : List ℕ)
    → logged_from p (xs ++ ys) ≡ logged_from p xs ++ logged_from (spot_from p xs) ys
unfolding logged_from spot_from
logged-more p [] ys = refl
logged-more p (x ∷ xs) ys =
    let here = option_to_list (completed_at p x) in
    ap (λ t. here ++ t) (logged-more (spot_after p x) xs ys)
    ∙ sym (append_assoc here (logged_from (spot_after p x) xs)
    (logged_from (spot_from (spot_after p x) xs) ys))

right : (b : Bool) (n : ℕ) (o q r : Option ℕ) → (o ≡ None → q ≡ r)
    → (if b then Some n else o) ≡ None → (if b then Some n else q) ≡ r
right true n o q r h e = let bad : ◌≡◌ {A = Option ℕ} (Some n) None = e in cc
right false n o q r h e = h e

found : (b : Bool) (n i : ℕ) (o q : Option ℕ) → (o ≡ Some i → q ≡ Some i)
    → (if b then Some n else o) ≡ Some i → (if b then Some n else q) ≡ Some i
found true n i o q h e = e
found false n i o q h e = h e

pub wrong-more : (p : Spot) (n : ℕ) (xs ys : List ℕ) → wrong_from p n xs ≡ None
    → wrong_from p n (xs ++ ys) ≡ wrong_from (spot_from p xs) (n + length xs) ys
unfolding wrong_from spot_from
wrong-more p n [] ys e = ap (λ k. wrong_from p k ys) (omega arith)
wrong-more p n (x ∷ xs) ys e =
    let q = spot_after p x in
    right (is_wrong q) n (wrong_from q (n + 1) xs) (wrong_from q (n + 1) (xs ++ ys))
    (wrong_from (spot_from q xs) (n + length (x ∷ xs)) ys)
    (λ h. wrong-more q (n + 1) xs ys h ∙ ap (λ k. wrong_from (spot_from q xs) k ys) (omega arith))
    e

pub wrong-stays : (p : Spot) (n i : ℕ) (xs ys : List ℕ) → wrong_from p n xs ≡ Some i
    → wrong_from p n (xs ++ ys) ≡ Some i
unfolding wrong_from
wrong-stays p n i [] ys e = let bad : ◌≡◌ {A = Option ℕ} None (Some i) = e in cc
wrong-stays p n i (x ∷ xs) ys e =
    let q = spot_after p x in
    found (is_wrong q) n i (wrong_from q (n + 1) xs) (wrong_from q (n + 1) (xs ++ ys))
    (λ h. wrong-stays q (n + 1) i xs ys h) e

pub nothing-wrong : (p : Spot) (n : ℕ) → wrong_from p n [] ≡ None
unfolding wrong_from
nothing-wrong p n = refl

pub nothing-logged : (p : Spot) → logged_from p [] ≡ []
unfolding logged_from
nothing-logged p = refl

pub nowhere : (p : Spot) → spot_from p [] ≡ p
unfolding spot_from
nowhere p = refl

-- after a wrong character nothing is read
none-behind : (xs : List ℕ) → logged_from Wrong xs ≡ []
unfolding logged_from spot_after completed_at
none-behind [] = refl
none-behind (x ∷ xs) = none-behind xs

is-wrong : (p : Spot) → is_wrong p ≡ true → p ≡ Wrong
is-wrong Between e = let bad : ◌≡◌ {A = Bool} false true = e in cc
is-wrong Zero e = let bad : ◌≡◌ {A = Bool} false true = e in cc
is-wrong Prefixed e = let bad : ◌≡◌ {A = Bool} false true = e in cc
is-wrong (Half high) e = let bad : ◌≡◌ {A = Bool} false true = e in cc
is-wrong Comment e = let bad : ◌≡◌ {A = Bool} false true = e in cc
is-wrong Wrong e = refl

-- a single character
one-logged : (p : Spot) (c : ℕ) → logged_from p (c ∷ []) ≡ option_to_list (completed_at p c)
unfolding logged_from
one-logged p c = append-nil (option_to_list (completed_at p c))

one-spot : (p : Spot) (c : ℕ) → spot_from p (c ∷ []) ≡ spot_after p c
unfolding spot_from
one-spot p c = refl

one-wrong : (p : Spot) (n c : ℕ)
    → wrong_from p n (c ∷ []) ≡ (if is_wrong (spot_after p c) then Some n else None)
unfolding wrong_from
one-wrong p n c = refl

-- ---- a piece, up to a place in it

-- what was read of a piece after what was seen: the bytes that it completes, and where it ends
pub record Logs (seen piece : List ℕ) (i n : ℕ) (bytes : List ℕ) (spot : Spot) : Type 0 where
  pub whole : logged_from Between (seen ++ take i piece)
      ≡ logged_from Between seen ++ take n bytes
  pub expected : wrong_from Between 0 (seen ++ take i piece) ≡ None
  pub ends : spot_from Between (seen ++ take i piece) ≡ spot

pub logs-none : (seen piece bytes : List ℕ) (spot : Spot) → wrong_from Between 0 seen ≡ None
    → spot_from Between seen ≡ spot → Logs seen piece 0 0 bytes spot
logs-none seen piece bytes spot e s = record {
  whole = ap (logged_from Between) (append-nil seen) ∙ sym (append-nil (logged_from Between seen));
  expected = ap (wrong_from Between 0) (append-nil seen) ∙ e;
  ends = ap (spot_from Between) (append-nil seen) ∙ s;
}

module _ (seen piece bytes : List ℕ) (i n : ℕ) (spot : Spot) (inside : i < length piece)
    (so_far : Logs seen piece i n bytes spot) (m : ℕ) (after : List ℕ) (next : Spot)
    (taken : take m after
    ≡ take n bytes ++ option_to_list (completed_at spot (get_or piece i 0)))
    (goes : next ≡ spot_after spot (get_or piece i 0)) where
  abbrev before : List ℕ
  before = seen ++ take i piece

  abbrev byte : ℕ
  byte = get_or piece i 0

  longer : before ++ byte ∷ [] ≡ seen ++ take (i + 1) piece
  longer =
      append_assoc seen (take i piece) (byte ∷ [])
      ∙ ap (λ t. seen ++ t) (sym (take_more piece i 0 inside))

  completes : logged_from Between (before ++ byte ∷ [])
      ≡ logged_from Between seen ++ take m after
  completes =
      logged-more Between before (byte ∷ [])
      ∙ ap (λ t. t ++ logged_from (spot_from Between before) (byte ∷ [])) so_far.whole
      ∙ ap (λ p. (logged_from Between seen ++ take n bytes) ++ logged_from p (byte ∷ []))
      so_far.ends
      ∙ ap (λ t. (logged_from Between seen ++ take n bytes) ++ t) (one-logged spot byte)
      ∙ append_assoc (logged_from Between seen) (take n bytes)
      (option_to_list (completed_at spot byte))
      ∙ ap (λ t. logged_from Between seen ++ t) (sym taken)

  ending : spot_from Between (before ++ byte ∷ []) ≡ next
  ending =
      spot-more Between before (byte ∷ [])
      ∙ ap (λ p. spot_from p (byte ∷ [])) so_far.ends
      ∙ one-spot spot byte ∙ sym goes

  judged : wrong_from Between 0 (before ++ byte ∷ [])
      ≡ (if is_wrong next then Some (0 + length before) else None)
  judged =
      wrong-more Between 0 before (byte ∷ []) so_far.expected
      ∙ ap (λ p. wrong_from p (0 + length before) (byte ∷ [])) so_far.ends
      ∙ one-wrong spot (0 + length before) byte
      ∙ ap (λ p. if is_wrong p then Some (0 + length before) else None) (sym goes)

  -- it belongs there
  pub logs-more : is_wrong next ≡ false → Logs seen piece (i + 1) m after next
  logs-more right = record {
    whole = ap (logged_from Between) (sym longer) ∙ completes;
    expected =
        ap (wrong_from Between 0) (sym longer) ∙ judged
        ∙ ap (λ b. if b then Some (0 + length before) else None) right;
    ends = ap (spot_from Between) (sym longer) ∙ ending;
  }

  -- or it doesn't
  pub decodes-wrong : (high : Option ℕ) → is_wrong next ≡ true
      → Decodes Text seen piece (record { count = m; unexpected = Some i }) after high
  decodes-wrong high wrong =
      let rest = drop (i + 1) piece in
      let all : (before ++ byte ∷ []) ++ rest ≡ seen ++ piece =
      ap (λ t. t ++ rest) longer
      ∙ append_assoc seen (take (i + 1) piece) rest
      ∙ ap (λ t. seen ++ t) (take-append-drop (i + 1) piece) in
      let within = length-take-le i piece (omega (arith, inside)) in
      let all_of_them : length before ≡ length seen + i =
      length-append seen (take i piece) ∙ omega (arith, within) in
      let here : 0 + length before ≡ length seen + i = omega (arith, all_of_them) in
      record {
        whole =
            ap (logged_from Between) (sym all)
            ∙ logged-more Between (before ++ byte ∷ []) rest
            ∙ ap (λ p. logged_from Between (before ++ byte ∷ []) ++ logged_from p rest)
            (ending ∙ is-wrong next wrong)
            ∙ ap (λ t. logged_from Between (before ++ byte ∷ []) ++ t) (none-behind rest)
            ∙ append-nil (logged_from Between (before ++ byte ∷ []))
            ∙ completes;
        unexpected =
            ap (wrong_from Between 0) (sym all)
            ∙ wrong-stays Between 0 (0 + length before) (before ++ byte ∷ []) rest
            (judged ∙ ap (λ b. if b then Some (0 + length before) else None) wrong)
            ∙ ap Some here;
        left = λ e. let bad : ◌≡◌ {A = Option ℕ} (Some i) None = e in cc;
      }

-- the whole piece was read
pub decodes-logged : (seen piece bytes : List ℕ) (i n : ℕ) (spot : Spot) (high : Option ℕ)
    → take i piece ≡ piece → high ≡ half_at spot → Logs seen piece i n bytes spot
    → Decodes Text seen piece (record { count = n; unexpected = None }) bytes high
decodes-logged seen piece bytes i n spot high all half logs = record {
  whole = ap (λ t. logged_from Between (seen ++ t)) (sym all) ∙ logs.whole;
  unexpected = ap (λ t. wrong_from Between 0 (seen ++ t)) (sym all) ∙ logs.expected;
  left =
      λ _. ap (λ t. option_to_list (half_at (spot_from Between (seen ++ t)))) (sym all)
      ∙ ap (λ p. option_to_list (half_at p)) logs.ends ∙ ap option_to_list (sym half);
}

pub spot-logged : (seen piece bytes : List ℕ) (i n : ℕ) (spot : Spot) → take i piece ≡ piece
    → Logs seen piece i n bytes spot → spot_from Between (seen ++ piece) ≡ spot
spot-logged seen piece bytes i n spot all logs =
    ap (λ t. spot_from Between (seen ++ t)) (sym all) ∙ logs.ends
