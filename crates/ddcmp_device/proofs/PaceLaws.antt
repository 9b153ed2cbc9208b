-- A device that is given no more than there is room for holds a quarter of a second at most.
use Rattle.std.proofs.Common.{◌≡◌, ◌⊎◌, inl, inr, ◌≤◌, ◌<◌, ℕ, suc, ◌+◌, ◌-◌, ◌*◌, ◌/◌, arith}
use Rattle.std.proofs.Common.{Bool, true, false, cond, refl, sym, subst, ◌^◌}
use Rattle.std.specs.Prelude.{◌==◌, max, min, nat_lt}
use Rattle.std.proofs.lemmas.Bool.{cond-false}
use Rattle.std.proofs.lemmas.Nat.{div-add-mod', div_below, mod_below, mul-le}
use lib.Ieee.Nearest.{div_mono}
use Rattle.ddcmp_device.specs.Pace.{IsPaced, New, Later, Given, after_given, ahead_at, most_ahead}
use Rattle.ddcmp_device.specs.Pace.{Gifts, NoGift, Afterwards, Gift, room_at, us_of}
use Rattle.ddcmp_device.specs.declared.pace.Pace.{Pace}

-- the microseconds that so many bytes need
abbrev needed : ℕ → ℕ → ℕ
needed baud n = min (10000000 * n) 18446744073709551615 / baud

-- one byte at most
one : (baud n : ℕ) → 0 < baud → n ≤ 1 → needed baud n ≤ 10000000 / baud
one baud n b few =
    div_mono (min (10000000 * n) 18446744073709551615) baud 10000000 baud b b
    (grind arith)

-- as many as the time has room for
many : (baud n us : ℕ) → 0 < baud → n ≤ us * baud / 10000000 → needed baud n ≤ us
many baud n us b few =
    let all : us * baud < suc us * baud = omega (arith, b) in
    let below =
    div_below (min (10000000 * n) 18446744073709551615) baud (suc us) b (omega (arith, few, all)) in
    omega (arith, below)

-- no byte
none : (baud n : ℕ) → 0 < baud → n ≤ 0 → needed baud n ≡ 0
none baud n b few =
    let below =
    div_below (min (10000000 * n) 18446744073709551615) baud 1 b (omega (arith, b, few)) in
    omega (arith, below)

either-fits : (n m : ℕ) → n ≤ max 1 m → (n ≤ 1) ⊎ (n ≤ m)
either-fits n m fits = grind arith

abbrev HoldsAt : ℕ → Pace → Type 0
HoldsAt now p = ahead_at now p ≤ most_ahead p.baud

-- what is left of a quarter second after an eighth or more of it is given
given-holds : (now n : ℕ) (p : Pace) (is_off is_late : Bool) → (is_off ≡ false → 0 < p.baud)
    → (is_late ≡ false → ahead_at now p ≤ 125000)
    → HoldsAt now p
    → n ≤ cond is_off 18446744073709551615
    (cond is_late 0 (max 1 ((250000 - ahead_at now p) * p.baud / 10000000)))
    → HoldsAt now
    (cond is_off p
    (record p { due = min (max p.due (us_of now) + needed p.baud n) 18446744073709551615 }))
given-holds now n p true is_late on early held fits = held
given-holds now n p false true on early held fits =
    let no = none p.baud n (on refl) (omega (arith, fits)) in omega (arith, held, no)
given-holds now n p false false on early held fits = by (either-fits n _ fits)
  where
    at : ahead_at now p ≤ 125000
    at = early refl

    by : (n ≤ 1) ⊎ (n ≤ (250000 - ahead_at now p) * p.baud / 10000000)
        → HoldsAt now
        (record p { due = min (max p.due (us_of now) + needed p.baud n) 18446744073709551615 })
    by (inl few) = let lasts = one p.baud n (on refl) few in omega (arith, at, lasts)
    by (inr all) =
        let lasts = many p.baud n (250000 - ahead_at now p) (on refl) all in
        omega (arith, at, lasts)

pub holds : (now : ℕ) (p : Pace) → IsPaced now p → HoldsAt now p
holds now p (New at baud) = omega arith
holds later p (Later now at of paced l) = let held = holds now of paced in omega (arith, l, held)
holds now p (Given at n of paced fits) =
    given-holds at n of (of.baud == 0) (nat_lt 125000 (ahead_at at of)) (λ e. grind arith)
    (λ e. grind arith) (holds at of paced) fits

-- ---- what it was given

-- the time that a number of bytes needs covers them, but for a microsecond
covers : (x baud : ℕ) → 0 < baud → x ≤ baud * (x / baud + 1)
covers x baud b =
    let whole = div-add-mod' x baud in let rest = mod_below x baud b in omega (arith, whole, rest)

sum : (baud bytes n a b c : ℕ) → 10000000 * bytes ≤ baud * a → 10000000 * n ≤ baud * b
    → a + b ≤ c → 10000000 * (bytes + n) ≤ baud * c
sum baud bytes n a b c h k l =
    let all = mul-le baud (a + b) baud c (omega arith) l in omega (arith, h, k, all)

room-of : (n x : ℕ) (is_off is_late : Bool) → is_off ≡ false
    → n ≤ cond is_off 18446744073709551615 (cond is_late 0 (max 1 x)) → n ≤ max 1 x
room-of n x true is_late on fits = cc
room-of n x false true on fits = omega (arith, fits)
room-of n x false false on fits = fits

-- no gift needs more than ten seconds, a byte at one bit a second
needs-little : (baud us n : ℕ) → 0 < baud → us ≤ 250000 → n ≤ max 1 (us * baud / 10000000)
    → needed baud n ≤ 10000000
needs-little baud us n b short fits = by (either-fits n _ fits)
  where
    by : (n ≤ 1) ⊎ (n ≤ us * baud / 10000000) → needed baud n ≤ 10000000
    by (inl few) =
        let lasts = one baud n b few in
        let most = div_below 10000000 baud 10000001 b (omega (arith, b)) in
        omega (arith, lasts, most)
    by (inr all) = let lasts = many baud n us b all in omega (arith, lasts, short)

-- and its bits are counted in full
fits-in : (baud us n : ℕ) → baud < 2 ^ 32 → us ≤ 250000 → n ≤ max 1 (us * baud / 10000000)
    → 10000000 * n ≤ 18446744073709551615
fits-in baud us n slow short fits =
    let most = mul-le us baud 250000 4294967296 short (omega (arith, slow)) in
    omega (arith, fits, most)

record Sent (since : ℕ) (first : Pace) (now : ℕ) (p : Pace) (bytes calls : ℕ) : Type 0 where
  pub baud : p.baud ≡ first.baud
  pub after : since ≤ now
  pub paced : IsPaced now p
  pub sent : 10000000 * bytes ≤ p.baud * (max p.due (1000 * since) - 1000 * since + calls)

gift-sent : (since : ℕ) (first : Pace) → 0 < first.baud → first.baud < 2 ^ 32
    → (now n : ℕ) (of : Pace) (bytes calls : ℕ) → Sent since first now of bytes calls
    → n ≤ room_at now of → now ≤ 18446744073000000
    → Sent since first now (after_given now n of) (bytes + n) (calls + 1)
gift-sent since first b slow now n of bytes calls s fits at =
    subst (λ (q : Pace). Sent since first now q (bytes + n) (calls + 1)) (sym is) given
  where
    on : 0 < of.baud
    on = subst (λ k. 0 < k) (sym s.baud) b

    is-on : (of.baud == 0) ≡ false
    is-on = grind arith

    is : after_given now n of
        ≡ record of { due = min (max of.due (us_of now) + needed of.baud n) 18446744073709551615 }
    is = cond-false (of.baud == 0) of _ is-on

    left : ℕ
    left = 250000 - ahead_at now of

    room : n ≤ max 1 (left * of.baud / 10000000)
    room = room-of n _ (of.baud == 0) (nat_lt 125000 (ahead_at now of)) is-on fits

    little : needed of.baud n ≤ 10000000
    little = needs-little of.baud left n on (omega arith) room

    counted : 10000000 * n ≤ of.baud * (needed of.baud n + 1)
    counted =
        let all = covers (min (10000000 * n) 18446744073709551615) of.baud on in
        let whole =
        fits-in of.baud left n (subst (λ k. k < 2 ^ 32) (sym s.baud) slow) (omega arith) room in
        omega (arith, all, whole)

    near : of.due ≤ us_of now + 10125000
    near =
        let held = holds now of s.paced in
        let most = div_below 10000000 of.baud 10000001 on (omega (arith, on)) in
        omega (arith, held, most)

    given : Sent since first now
        (record of { due = min (max of.due (us_of now) + needed of.baud n) 18446744073709551615 })
        (bytes + n) (calls + 1)
    given =
        record {
          baud = s.baud;
          after = s.after;
          paced = subst (IsPaced now) is (Given now n of s.paced fits);
          sent = sum of.baud bytes n _ _ _ s.sent counted
              (let before = s.after in omega (arith, before, near, little, at));
        }

gifts-sent : (since : ℕ) (first : Pace) → IsPaced since first → 0 < first.baud
    → first.baud < 2 ^ 32 → (now : ℕ) (p : Pace) (bytes calls : ℕ)
    → Gifts since first now p bytes calls → now ≤ 18446744073000000
    → Sent since first now p bytes calls
gifts-sent since first paced b slow now p bytes calls NoGift at =
    record { baud = refl; after = omega arith; paced = paced; sent = omega arith }
gifts-sent since first paced b slow later p bytes calls (Afterwards now later' p' bytes' calls' g l)
    at =
    let s = gifts-sent since first paced b slow now p' bytes' calls' g (omega (arith, l, at)) in
    record {
      baud = s.baud;
      after = (let before = s.after in omega (arith, before, l));
      paced = Later now later' p' s.paced l;
      sent = s.sent;
    }
gifts-sent since first paced b slow now p bytes calls (Gift now' n of bytes' calls' g fits) at =
    gift-sent since first b slow now' n of bytes' calls'
    (gifts-sent since first paced b slow now' of bytes' calls' g at) fits at

pub sends : (since now bytes calls : ℕ) (first p : Pace) → IsPaced since first
    → Gifts since first now p bytes calls → 0 < first.baud → first.baud < 2 ^ 32
    → now ≤ 18446744073000000
    → 10000000 * bytes ≤ first.baud * (1000 * (now - since) + most_ahead first.baud + calls)
sends since now bytes calls first p paced gifts b slow at =
    let s = gifts-sent since first paced b slow now p bytes calls gifts at in
    let held = holds now p s.paced in
    let same = s.baud in
    let before = s.after in
    let most =
    mul-le p.baud (max p.due (1000 * since) - 1000 * since + calls) p.baud
    (1000 * (now - since) + most_ahead p.baud + calls) (omega arith)
    (omega (arith, held, before, at)) in
    subst (λ k. 10000000 * bytes ≤ k * (1000 * (now - since) + most_ahead k + calls)) same
    (let sent = s.sent in omega (arith, sent, most))
