-- The text of a log, read from place to place.
use Rattle.std.proofs.Common.{◌≡◌, ◌≢◌, ℕ, ◌+◌, ◌*◌, Bool, true, false, List, [], ◌∷◌, ◌++◌}
use Rattle.std.proofs.Common.{refl, ◌∙◌, ap, subst, arith, Option, Some, None}
use Rattle.std.specs.Prelude.{◌==◌, ◌||◌, if◌then◌else◌, option_to_list}
use Rattle.std.specs.List.{All}
use Rattle.std.proofs.lemmas.List.{append-nil}
use Rattle.std.proofs.lemmas.List.Elements.{All-head, All-tail}
use Rattle.ddcmp_explain.specs.declared.spot.Spot.{Spot}
use Rattle.ddcmp_explain.specs.declared.spot.Spot.TheVariants.{Between, Zero, Half}
use Rattle.ddcmp_explain.specs.declared.spot.Spot.TheVariants.{Prefixed as AfterX}
use Rattle.ddcmp_explain.specs.declared.spot.Spot.TheVariants.{Comment as InComment, Wrong}
use Rattle.ddcmp_explain.specs.Digits.{completed_at, completed_by, half_at, hex_value, is_between}
use Rattle.ddcmp_explain.specs.Digits.{is_blank, is_wrong, is_x, logged_from, spot_after, spot_by}
use Rattle.ddcmp_explain.specs.Digits.{spot_from, wrong_from}
use Rattle.ddcmp_explain.specs.Logs.{Log, Nothing, Gap, Byte, Prefixed, Comment}
use Rattle.ddcmp_explain.specs.Logs.{LastComment}
use Rattle.ddcmp_explain.specs.Explains.{refusal_by}

-- from a place on a text spells these bytes, whatever the number of its first character
pub record Spells (spot : Spot) (text bytes : List ℕ) : Type 0 where
  pub all : logged_from spot text ≡ bytes
  pub right : (n : ℕ) → wrong_from spot n text ≡ None
  pub whole : half_at (spot_from spot text) ≡ None

nothing : (p : Spot) → half_at p ≡ None → Spells p [] []
unfolding logged_from wrong_from spot_from
nothing p e = record { all = refl; right = λ n. refl; whole = e }

-- a character more in front
front : (p q : Spot) (c : ℕ) (o : Option ℕ) (text bytes : List ℕ) → spot_after p c ≡ q
    → is_wrong q ≡ false → completed_at p c ≡ o → Spells q text bytes
    → Spells p (c ∷ text) (option_to_list o ++ bytes)
unfolding logged_from wrong_from spot_from
front p q c o text bytes goes right done s = record {
  all =
      ap (λ r. option_to_list (completed_at p c) ++ logged_from r text) goes
      ∙ ap (λ r. option_to_list r ++ logged_from q text) done
      ∙ ap (λ t. option_to_list o ++ t) s.all;
  right =
      λ n. ap (λ r. if is_wrong r then Some n else wrong_from r (n + 1) text) goes
      ∙ ap (λ b. if b then Some n else wrong_from q (n + 1) text) right
      ∙ s.right (n + 1);
  whole = ap (λ r. half_at (spot_from r text)) goes ∙ s.whole;
}

goes-by : (p : Spot) (c : ℕ) (digit : Option ℕ) → hex_value c ≡ digit
    → spot_after p c ≡ spot_by p digit c
unfolding spot_after
goes-by p c digit e = ap (λ o. spot_by p o c) e

done-by : (p : Spot) (c : ℕ) (digit : Option ℕ) → hex_value c ≡ digit
    → completed_at p c ≡ completed_by p digit
unfolding completed_at
done-by p c digit e = ap (completed_by p) e

-- ---- what stands between bytes is no digit

same : (c k : ℕ) → (c == k) ≡ true → c ≡ k
same c k e = search arith

none-of : (c k : ℕ) → hex_value k ≡ None → (c == k) ≡ true → hex_value c ≡ None
none-of c k none e = ap hex_value (same c k e) ∙ none

either : (a b : Bool) (P : Type 0) → (a ≡ true → P) → (b ≡ true → P) → (a || b) ≡ true → P
either true b P f g e = f refl
either false b P f g e = g e

blank-none : (c : ℕ) → is_blank c ≡ true → hex_value c ≡ None
blank-none c e =
    either (c == 32) ((c == 9) || ((c == 13) || (c == 10))) (hex_value c ≡ None)
    (none-of c 32 refl)
    (either (c == 9) ((c == 13) || (c == 10)) (hex_value c ≡ None) (none-of c 9 refl)
    (either (c == 13) (c == 10) (hex_value c ≡ None) (none-of c 13 refl) (none-of c 10 refl))) e

between-none : (c : ℕ) → is_between c ≡ true → hex_value c ≡ None
between-none c e =
    either (is_blank c) ((c == 58) || ((c == 45) || (c == 44))) (hex_value c ≡ None)
    (blank-none c)
    (either (c == 58) ((c == 45) || (c == 44)) (hex_value c ≡ None) (none-of c 58 refl)
    (either (c == 45) (c == 44) (hex_value c ≡ None) (none-of c 45 refl) (none-of c 44 refl))) e

x-none : (c : ℕ) → is_x c ≡ true → hex_value c ≡ None
x-none c e =
    either (c == 120) (c == 88) (hex_value c ≡ None) (none-of c 120 refl) (none-of c 88 refl) e

gap : (c : ℕ) (text bytes : List ℕ) → is_between c ≡ true → Spells Between text bytes
    → Spells Between (c ∷ text) bytes
gap c text bytes is s =
    let none = between-none c is in
    front Between Between c None text bytes
    (goes-by Between c None none
    ∙ ap (λ b. if b then Between else if c == 35 then InComment else Wrong) is)
    refl (done-by Between c None none) s

-- ---- a byte

second : (high b low : ℕ) (text bytes : List ℕ) → hex_value b ≡ Some low
    → Spells Between text bytes → Spells (Half high) (b ∷ text) ((high * 16 + low) ∷ bytes)
second high b low text bytes e s =
    front (Half high) Between b (Some (high * 16 + low)) text bytes
    (goes-by (Half high) b (Some low) e) refl (done-by (Half high) b (Some low) e) s

byte : (a b high low : ℕ) (text bytes : List ℕ) → hex_value a ≡ Some high
    → hex_value b ≡ Some low → Spells Between text bytes
    → Spells Between (a ∷ b ∷ text) ((high * 16 + low) ∷ bytes)
byte a b high low text bytes ea eb s = at (high == 0) refl
  where
    begins : (z : Bool) → (high == 0) ≡ z
        → spot_after Between a ≡ (if z then Zero else Half high)
    begins z e = goes-by Between a (Some high) ea ∙ ap (λ b. if b then Zero else Half high) e

    at : (z : Bool) → (high == 0) ≡ z → Spells Between (a ∷ b ∷ text) ((high * 16 + low) ∷ bytes)
    at true e =
        let zero : high ≡ 0 = same high 0 e in
        let value : low ≡ high * 16 + low = omega (arith, zero) in
        subst (λ v. Spells Between (a ∷ b ∷ text) (v ∷ bytes)) value
        (front Between Zero a None (b ∷ text) (low ∷ bytes) (begins true e) refl
        (done-by Between a (Some high) ea)
        (front Zero Between b (Some low) text bytes (goes-by Zero b (Some low) eb) refl
        (done-by Zero b (Some low) eb) s))
    at false e =
        front Between (Half high) a None (b ∷ text) ((high * 16 + low) ∷ bytes) (begins false e)
        refl (done-by Between a (Some high) ea) (second high b low text bytes eb s)

zero-first : spot_after Between 48 ≡ Zero
unfolding spot_after
zero-first = refl

none-done : completed_at Between 48 ≡ None
unfolding completed_at
none-done = refl

after-0x : (x a b high low : ℕ) (text bytes : List ℕ) → is_x x ≡ true → hex_value a ≡ Some high
    → hex_value b ≡ Some low → Spells Between text bytes
    → Spells Between (48 ∷ x ∷ a ∷ b ∷ text) ((high * 16 + low) ∷ bytes)
after-0x x a b high low text bytes is ea eb s =
    let none = x-none x is in
    front Between Zero 48 None (x ∷ a ∷ b ∷ text) ((high * 16 + low) ∷ bytes) zero-first refl
    none-done
    (front Zero AfterX x None (a ∷ b ∷ text) ((high * 16 + low) ∷ bytes)
    (goes-by Zero x None none ∙ ap (λ b. if b then AfterX else Wrong) is) refl
    (done-by Zero x None none)
    (front AfterX (Half high) a None (b ∷ text) ((high * 16 + low) ∷ bytes)
    (goes-by AfterX a (Some high) ea) refl (done-by AfterX a (Some high) ea)
    (second high b low text bytes eb s)))

-- ---- a comment

not-feed : (c : ℕ) → c ≢ 10 → (c == 10) ≡ false
not-feed c h = search arith

stays : (c : ℕ) → c ≢ 10 → spot_after InComment c ≡ InComment
unfolding spot_after
stays c other = ap (λ b. if b then Between else InComment) (not-feed c other)

none-in-comment : (c : ℕ) → completed_at InComment c ≡ None
unfolding completed_at
none-in-comment c = refl

in-comment : (comment rest bytes : List ℕ) → All (λ c. c ≢ 10) comment
    → Spells InComment rest bytes → Spells InComment (comment ++ rest) bytes
in-comment [] rest bytes one s = s
in-comment (c ∷ comment) rest bytes one s =
    front InComment InComment c None (comment ++ rest) bytes
    (stays c (All-head (λ c. c ≢ 10) c comment one)) refl (none-in-comment c)
    (in-comment comment rest bytes (All-tail (λ c. c ≢ 10) c comment one) s)

hash : spot_after Between 35 ≡ InComment
unfolding spot_after
hash = refl

none-at-hash : completed_at Between 35 ≡ None
unfolding completed_at
none-at-hash = refl

feed : spot_after InComment 10 ≡ Between
unfolding spot_after
feed = refl

comment-then : (rest bytes : List ℕ) → Spells InComment rest bytes
    → Spells Between (35 ∷ rest) bytes
comment-then rest bytes s = front Between InComment 35 None rest bytes hash refl none-at-hash s

spells : {text bytes : List ℕ} → Log text bytes → Spells Between text bytes
spells Nothing = nothing Between refl
spells (Gap c {text} {bytes} is more) = gap c text bytes is (spells more)
spells (Byte a b high low {text} {bytes} ea eb more) =
    byte a b high low text bytes ea eb (spells more)
spells (Prefixed x a b high low {text} {bytes} is ea eb more) =
    after-0x x a b high low text bytes is ea eb (spells more)
spells (Comment comment {text} {bytes} one more) =
    comment-then (comment ++ (10 ∷ text)) bytes
    (in-comment comment (10 ∷ text) bytes one
    (front InComment Between 10 None text bytes feed refl (none-in-comment 10) (spells more)))
spells (LastComment comment one) =
    comment-then comment []
    (subst (λ t. Spells InComment t []) (append-nil comment)
    (in-comment comment [] [] one (nothing InComment refl)))

pub log-bytes : (text bytes : List ℕ) → Log text bytes → logged_from Between text ≡ bytes
log-bytes text bytes log = (spells log).all

pub log-whole : (text bytes : List ℕ) → Log text bytes
    → refusal_by (wrong_from Between 0 text)
    (option_to_list (half_at (spot_from Between text)))
    ≡ None
log-whole text bytes log =
    let s = spells log in
    ap (λ o. refusal_by o (option_to_list (half_at (spot_from Between text)))) (s.right 0)
    ∙ ap (λ o. refusal_by None (option_to_list o)) s.whole
