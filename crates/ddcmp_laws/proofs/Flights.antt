-- Frames in flight from one end to the other, in their order, by numbers that have no bound.
use Rattle.std.proofs.Common.{◌≡◌, ◌≢◌, ◌⊎◌, inl, inr, ℕ, ◌+◌, ◌%◌, ◌<◌, ◌≤◌, max, Bool, true}
use Rattle.std.proofs.Common.{false, cond, List, [], ◌∷◌, ◌++◌, refl, arith}
use Rattle.std.specs.Prelude.{◌==◌}
use Rattle.ddcmp_frame.specs.declared.nak.Nak.{Nak as Reason}
use Rattle.ddcmp_core.specs.Table.{Frame, Data, Acked, Naked, Rep, Strt, Stack}

-- q: how many messages are delivered where it was sent; k: the position of a message; n: the
-- highest position sent
pub data Flight : Type 0 where
  data_flies : (q k : ℕ) → List ℕ → Flight
  ack_flies : (q : ℕ) → Flight
  nak_flies : Reason → (q : ℕ) → Flight
  rep_flies : (n : ℕ) → Flight
  strt_flies : Flight
  stack_flies : Flight

abbrev pub frame : Flight → Frame
frame (data_flies q k m) = Data (q % 256) (k % 256) m
frame (ack_flies q) = Acked (q % 256)
frame (nak_flies why q) = Naked why (q % 256)
frame (rep_flies n) = Rep (n % 256)
frame strt_flies = Strt
frame stack_flies = Stack

-- ---- counts

-- a frame carries a count
abbrev pub tells_count : Flight → Bool
tells_count (data_flies q k m) = true
tells_count (ack_flies q) = true
tells_count (nak_flies why q) = true
tells_count _ = false

-- what is acknowledged once it came
abbrev pub told : Flight → ℕ → ℕ
told (data_flies q k m) low = q
told (ack_flies q) low = q
told (nak_flies why q) low = q
told _ low = low

unfoldable pub latest : ℕ → List Flight → ℕ
latest low [] = low
latest low (f ∷ fs) = latest (told f low) fs

unfoldable pub Rises : ℕ → ℕ → List Flight → Type 0
Rises low high [] = low ≤ high
Rises low high (f ∷ fs) = (low ≤ told f low) × Rises (told f low) high fs

unfoldable pub Uncounted : List Flight → Type 0
Uncounted [] = Unit {0}
Uncounted (f ∷ fs) = (tells_count f ≡ false) × Uncounted fs

-- ---- positions

-- what is delivered once it came, where there is room
abbrev pub moved : Flight → ℕ → ℕ
moved (data_flies q k m) u = cond (k == u + 1) k u
moved _ u = u

unfoldable pub reach : ℕ → List Flight → ℕ
reach u [] = u
reach u (f ∷ fs) = reach (moved f u) fs

-- at most this may be delivered once it came
abbrev pub raised : Flight → ℕ → ℕ
raised (data_flies q k m) most = max most k
raised _ most = most

-- a position is less than a window behind what may be delivered then, and was sent; a REP reports
-- no less than that
abbrev pub IsNear : ℕ → ℕ → ℕ → Flight → Type 0
IsNear w n most (data_flies q k m) = (most < k + w) × (k ≤ n)
IsNear w n most (rep_flies k) = (most ≤ k) × (k ≤ n)
IsNear w n most _ = Unit {0}

unfoldable pub Near : ℕ → ℕ → ℕ → List Flight → Type 0
Near w n most [] = most ≤ n
Near w n most (f ∷ fs) = IsNear w n most f × Near w n (raised f most) fs

-- If a message that comes is delivered, or a REP reports that all is, what was sent after it leads
-- on to the next one to send.
abbrev pub LeadsOn : ℕ → ℕ → Flight → List Flight → Type 0
LeadsOn u next (data_flies q k m) fs = u < k → next ≤ reach k fs + 1
LeadsOn u next (rep_flies n) fs = u ≤ n → next ≤ reach n fs + 1
LeadsOn u next _ fs = Unit {0}

unfoldable pub Chained : ℕ → ℕ → List Flight → Type 0
Chained u next [] = Unit {0}
Chained u next (f ∷ fs) = LeadsOn u next f fs × Chained u next fs

-- ---- kinds

abbrev pub is_strt_flight : Flight → Bool
is_strt_flight strt_flies = true
is_strt_flight _ = false

abbrev pub is_start : Flight → Bool
is_start strt_flies = true
is_start stack_flies = true
is_start _ = false

abbrev pub is_rep_flight : Flight → Bool
is_rep_flight (rep_flies n) = true
is_rep_flight _ = false

abbrev pub is_nak_flight : Flight → Bool
is_nak_flight (nak_flies why q) = true
is_nak_flight _ = false

-- it rouses an end that starts
abbrev pub rouses : Flight → Bool
rouses (nak_flies why q) = false
rouses (rep_flies n) = false
rouses _ = true

unfoldable pub Each : (Flight → Bool) → Bool → List Flight → Type 0
Each p b [] = Unit {0}
Each p b (f ∷ fs) = (p f ≡ b) × Each p b fs

unfoldable pub Has : (Flight → Bool) → List Flight → Type 0
Has p [] = ⊥
Has p (f ∷ fs) = (p f ≡ true) ⊎ Has p fs

-- no STRT after another frame
unfoldable pub StrtsFirst : List Flight → Type 0
StrtsFirst [] = Unit {0}
StrtsFirst (f ∷ fs) = ((is_strt_flight f ≡ true) ⊎ Each is_strt_flight false fs) × StrtsFirst fs

-- ---- a frame goes behind

pub latest-behind : (low : ℕ) (fs : List Flight) (f : Flight)
    → latest low (fs ++ f ∷ []) ≡ told f (latest low fs)
unfolding latest
latest-behind low [] f = refl
latest-behind low (g ∷ fs) f = latest-behind (told g low) fs f

pub reach-behind : (u : ℕ) (fs : List Flight) (f : Flight)
    → reach u (fs ++ f ∷ []) ≡ moved f (reach u fs)
unfolding reach
reach-behind u [] f = refl
reach-behind u (g ∷ fs) f = reach-behind (moved g u) fs f

moved-grows : (f : Flight) (u : ℕ) → u ≤ moved f u
moved-grows (data_flies q k m) u = by (k == u + 1) refl
  where
    by : (b : Bool) → (k == u + 1) ≡ b → u ≤ cond b k u
    by true e = let z : k ≡ u + 1 = grind (arith) in omega (arith, z)
    by false e = omega arith
moved-grows (ack_flies q) u = omega arith
moved-grows (nak_flies why q) u = omega arith
moved-grows (rep_flies n) u = omega arith
moved-grows strt_flies u = omega arith
moved-grows stack_flies u = omega arith

pub reach-grows : (u : ℕ) (fs : List Flight) → u ≤ reach u fs
unfolding reach
reach-grows u [] = omega arith
reach-grows u (f ∷ fs) =
    let m = moved-grows f u in let r = reach-grows (moved f u) fs in omega (arith, m, r)

-- a frame that carries what is delivered, or no count
pub rises-behind : (low high : ℕ) (fs : List Flight) (f : Flight) → Rises low high fs
    → ((tells_count f ≡ false) ⊎ (told f high ≡ high)) → Rises low high (fs ++ f ∷ [])
unfolding Rises
rises-behind low high (g ∷ fs) f r c = (r.0, rises-behind (told g low) high fs f r.1 c)
rises-behind low high [] (data_flies q k m) r (inl c) = absurd (cc)
rises-behind low high [] (data_flies q k m) r (inr c) = (omega (arith, r, c), omega (arith, c))
rises-behind low high [] (ack_flies q) r (inl c) = absurd (cc)
rises-behind low high [] (ack_flies q) r (inr c) = (omega (arith, r, c), omega (arith, c))
rises-behind low high [] (nak_flies why q) r (inl c) = absurd (cc)
rises-behind low high [] (nak_flies why q) r (inr c) = (omega (arith, r, c), omega (arith, c))
rises-behind low high [] (rep_flies n) r c = (omega arith, r)
rises-behind low high [] strt_flies r c = (omega arith, r)
rises-behind low high [] stack_flies r c = (omega arith, r)

pub rises-more : (low high higher : ℕ) (fs : List Flight) → high ≤ higher → Rises low high fs
    → Rises low higher fs
unfolding Rises
rises-more low high higher [] h r = omega (arith, h, r)
rises-more low high higher (f ∷ fs) h r = (r.0, rises-more (told f low) high higher fs h r.1)

pub rises-ends : (low high : ℕ) (fs : List Flight) → Rises low high fs → low ≤ high
unfolding Rises
rises-ends low high [] r = r
rises-ends low high (f ∷ fs) r =
    let a = r.0 in let b = rises-ends (told f low) high fs r.1 in omega (arith, a, b)

-- the first count lies between what is acknowledged and what is delivered
pub rises-first : (low high : ℕ) (f : Flight) (fs : List Flight) → Rises low high (f ∷ fs)
    → (low ≤ told f low) × (told f low ≤ high) × Rises (told f low) high fs
unfolding Rises
rises-first low high f fs r = (r.0, rises-ends (told f low) high fs r.1, r.1)

pub latest-within : (low high : ℕ) (fs : List Flight) → Rises low high fs
    → (low ≤ latest low fs) × (latest low fs ≤ high)
unfolding Rises latest
latest-within low high [] r = (omega arith, r)
latest-within low high (f ∷ fs) r =
    let a = r.0 in let b = latest-within (told f low) high fs r.1 in (omega (arith, a, b.0), b.1)

pub latest-first : (low : ℕ) (f : Flight) (fs : List Flight)
    → latest low (f ∷ fs) ≡ latest (told f low) fs
unfolding latest
latest-first low f fs = refl

pub latest-none : (low : ℕ) (fs : List Flight) → Uncounted fs → latest low fs ≡ low
unfolding latest Uncounted
latest-none low [] u = refl
latest-none low (data_flies q k m ∷ fs) u = absurd (let z = u.0 in cc)
latest-none low (ack_flies q ∷ fs) u = absurd (let z = u.0 in cc)
latest-none low (nak_flies why q ∷ fs) u = absurd (let z = u.0 in cc)
latest-none low (rep_flies n ∷ fs) u = latest-none low fs u.1
latest-none low (strt_flies ∷ fs) u = latest-none low fs u.1
latest-none low (stack_flies ∷ fs) u = latest-none low fs u.1

pub uncounted-behind : (fs : List Flight) (f : Flight) → tells_count f ≡ false → Uncounted fs
    → Uncounted (fs ++ f ∷ [])
unfolding Uncounted
uncounted-behind [] f e u = (e, tt)
uncounted-behind (g ∷ fs) f e u = (u.0, uncounted-behind fs f e u.1)

pub uncounted-first : (f : Flight) (fs : List Flight) → Uncounted (f ∷ fs)
    → (tells_count f ≡ false) × Uncounted fs
unfolding Uncounted
uncounted-first f fs u = u

-- ---- positions that are near

pub near-ends : (w n most : ℕ) (fs : List Flight) → Near w n most fs → most ≤ n
unfolding Near
near-ends w n most [] r = r
near-ends w n most (data_flies q k m ∷ fs) r =
    let e = near-ends w n (max most k) fs r.1 in omega (arith, e)
near-ends w n most (ack_flies q ∷ fs) r = near-ends w n most fs r.1
near-ends w n most (nak_flies why q ∷ fs) r = near-ends w n most fs r.1
near-ends w n most (rep_flies k ∷ fs) r = near-ends w n most fs r.1
near-ends w n most (strt_flies ∷ fs) r = near-ends w n most fs r.1
near-ends w n most (stack_flies ∷ fs) r = near-ends w n most fs r.1

-- less may be delivered, and more is sent
pub near-less : (w n n' most less : ℕ) (fs : List Flight) → n ≤ n' → less ≤ most → Near w n most fs
    → Near w n' less fs
unfolding Near
near-less w n n' most less [] h g r = omega (arith, h, g, r)
near-less w n n' most less (data_flies q k m ∷ fs) h g r =
    let a = r.0 in (
      (omega (arith, a.0, g), omega (arith, a.1, h)),
      near-less w n n' (max most k) (max less k) fs h (omega (arith, g)) r.1,
    )
near-less w n n' most less (ack_flies q ∷ fs) h g r = (tt, near-less w n n' most less fs h g r.1)
near-less w n n' most less (nak_flies why q ∷ fs) h g r =
    (tt, near-less w n n' most less fs h g r.1)
near-less w n n' most less (rep_flies k ∷ fs) h g r =
    let a = r.0 in
    ((omega (arith, a.0, g), omega (arith, a.1, h)), near-less w n n' most less fs h g r.1)
near-less w n n' most less (strt_flies ∷ fs) h g r = (tt, near-less w n n' most less fs h g r.1)
near-less w n n' most less (stack_flies ∷ fs) h g r = (tt, near-less w n n' most less fs h g r.1)

-- no message, and a REP reports the highest position sent
abbrev pub TellsSent : ℕ → Flight → Type 0
TellsSent n (data_flies q k m) = ⊥
TellsSent n (rep_flies k) = k ≡ n
TellsSent n _ = Unit {0}

pub near-behind : (w n most : ℕ) (fs : List Flight) (f : Flight) → TellsSent n f → Near w n most fs
    → Near w n most (fs ++ f ∷ [])
unfolding Near
near-behind w n most (g ∷ fs) f e r = (r.0, near-behind w n (raised g most) fs f e r.1)
near-behind w n most [] (data_flies q k m) e r = absurd e
near-behind w n most [] (ack_flies q) e r = (tt, r)
near-behind w n most [] (nak_flies why q) e r = (tt, r)
near-behind w n most [] (rep_flies k) e r = ((omega (arith, e, r), omega (arith, e)), r)
near-behind w n most [] strt_flies e r = (tt, r)
near-behind w n most [] stack_flies e r = (tt, r)

pub near-data : (w n n' most q k : ℕ) (m : List ℕ) (fs : List Flight) → n ≤ n' → n < k + w → k ≤ n'
    → Near w n most fs → Near w n' most (fs ++ data_flies q k m ∷ [])
unfolding Near
near-data w n n' most q k m [] h g i r = ((omega (arith, r, g), i), omega (arith, r, h, i))
near-data w n n' most q k m (data_flies q' k' m' ∷ fs) h g i r =
    let a = r.0 in ((a.0, omega (arith, a.1, h)), near-data w n n' (max most k') q k m fs h g i r.1)
near-data w n n' most q k m (ack_flies q' ∷ fs) h g i r =
    (tt, near-data w n n' most q k m fs h g i r.1)
near-data w n n' most q k m (nak_flies why q' ∷ fs) h g i r =
    (tt, near-data w n n' most q k m fs h g i r.1)
near-data w n n' most q k m (rep_flies k' ∷ fs) h g i r =
    let a = r.0 in ((a.0, omega (arith, a.1, h)), near-data w n n' most q k m fs h g i r.1)
near-data w n n' most q k m (strt_flies ∷ fs) h g i r =
    (tt, near-data w n n' most q k m fs h g i r.1)
near-data w n n' most q k m (stack_flies ∷ fs) h g i r =
    (tt, near-data w n n' most q k m fs h g i r.1)

pub near-first : (w n most : ℕ) (f : Flight) (fs : List Flight) → Near w n most (f ∷ fs)
    → IsNear w n most f × Near w n most fs
unfolding Near
near-first w n most (data_flies q k m) fs r =
    (r.0, near-less w n n (max most k) most fs (omega arith) (omega arith) r.1)
near-first w n most (ack_flies q) fs r = r
near-first w n most (nak_flies why q) fs r = r
near-first w n most (rep_flies k) fs r = r
near-first w n most strt_flies fs r = r
near-first w n most stack_flies fs r = r

-- the position that comes is delivered
pub near-up : (w n most q k : ℕ) (m : List ℕ) (fs : List Flight)
    → Near w n most (data_flies q k m ∷ fs) → Near w n k fs
unfolding Near
near-up w n most q k m fs r = near-less w n n (max most k) k fs (omega arith) (omega arith) r.1

-- ---- kinds

pub each-behind : (p : Flight → Bool) (b : Bool) (fs : List Flight) (f : Flight) → p f ≡ b
    → Each p b fs → Each p b (fs ++ f ∷ [])
unfolding Each
each-behind p b [] f e u = (e, tt)
each-behind p b (g ∷ fs) f e u = (u.0, each-behind p b fs f e u.1)

pub each-first : (p : Flight → Bool) (b : Bool) (f : Flight) (fs : List Flight) → Each p b (f ∷ fs)
    → (p f ≡ b) × Each p b fs
unfolding Each
each-first p b f fs u = u

pub has-behind : (p : Flight → Bool) (fs : List Flight) (f : Flight) → Has p fs
    → Has p (fs ++ f ∷ [])
unfolding Has
has-behind p [] f h = absurd h
has-behind p (g ∷ fs) f (inl e) = inl e
has-behind p (g ∷ fs) f (inr h) = inr (has-behind p fs f h)

pub has-last : (p : Flight → Bool) (fs : List Flight) (f : Flight) → p f ≡ true
    → Has p (fs ++ f ∷ [])
unfolding Has
has-last p [] f e = inl e
has-last p (g ∷ fs) f e = inr (has-last p fs f e)

pub has-first : (p : Flight → Bool) (f : Flight) (fs : List Flight) → Has p (f ∷ fs)
    → (p f ≡ true) ⊎ Has p fs
unfolding Has
has-first p f fs h = h

pub has-none : (p : Flight → Bool) → Has p [] → ⊥
unfolding Has
has-none p h = h

pub firsts-behind : (fs : List Flight) (f : Flight) → is_strt_flight f ≡ false → StrtsFirst fs
    → StrtsFirst (fs ++ f ∷ [])
unfolding StrtsFirst Each
firsts-behind [] f e u = (inr tt, tt)
firsts-behind (g ∷ fs) f e (inl s, u) = (inl s, firsts-behind fs f e u)
firsts-behind (g ∷ fs) f e (inr s, u) =
    (inr (each-behind is_strt_flight false fs f e s), firsts-behind fs f e u)

pub firsts-all : (fs : List Flight) → Each is_strt_flight true fs → StrtsFirst fs
unfolding StrtsFirst Each
firsts-all [] u = tt
firsts-all (f ∷ fs) u = (inl u.0, firsts-all fs u.1)

pub firsts-first : (f : Flight) (fs : List Flight) → StrtsFirst (f ∷ fs)
    → ((is_strt_flight f ≡ true) ⊎ Each is_strt_flight false fs) × StrtsFirst fs
unfolding StrtsFirst
firsts-first f fs u = u

-- ---- what leads on to the next one to send

-- the next one is sent
sent-on : (r next : ℕ) → next ≤ r + 1 → next + 1 ≤ cond (next == r + 1) next r + 1
sent-on r next h = by (next == r + 1) refl
  where
    by : (b : Bool) → (next == r + 1) ≡ b → next + 1 ≤ cond b next r + 1
    by true e = omega arith
    by false e = let z : next ≢ r + 1 = grind (arith) in omega (arith, z, h)

pub reach-sent : (u next q : ℕ) (m : List ℕ) (fs : List Flight) → next ≤ reach u fs + 1
    → next + 1 ≤ reach u (fs ++ data_flies q next m ∷ []) + 1
reach-sent u next q m fs h =
    let e = reach-behind u fs (data_flies q next m) in
    let s = sent-on (reach u fs) next h in
    omega (arith, e, s)

pub chained-data : (u next q : ℕ) (m : List ℕ) (fs : List Flight) → Chained u next fs
    → Chained u (next + 1) (fs ++ data_flies q next m ∷ [])
unfolding Chained reach
chained-data u next q m [] c = ((λ h. omega arith), tt)
chained-data u next q m (data_flies q' k m' ∷ fs) c =
    ((λ h. reach-sent k next q m fs (c.0 h)), chained-data u next q m fs c.1)
chained-data u next q m (rep_flies n ∷ fs) c =
    ((λ h. reach-sent n next q m fs (c.0 h)), chained-data u next q m fs c.1)
chained-data u next q m (ack_flies q' ∷ fs) c = (tt, chained-data u next q m fs c.1)
chained-data u next q m (nak_flies why q' ∷ fs) c = (tt, chained-data u next q m fs c.1)
chained-data u next q m (strt_flies ∷ fs) c = (tt, chained-data u next q m fs c.1)
chained-data u next q m (stack_flies ∷ fs) c = (tt, chained-data u next q m fs c.1)

-- another frame is sent: a REP reports the highest position sent
abbrev pub TellsAll : ℕ → Flight → Type 0
TellsAll next (data_flies q k m) = ⊥
TellsAll next (rep_flies n) = next ≤ n + 1
TellsAll next _ = Unit {0}

reach-still : (u next : ℕ) (fs : List Flight) (f : Flight) → TellsAll next f
    → reach u (fs ++ f ∷ []) ≡ reach u fs
reach-still u next fs (data_flies q k m) t = absurd t
reach-still u next fs (ack_flies q) t = reach-behind u fs (ack_flies q)
reach-still u next fs (nak_flies why q) t = reach-behind u fs (nak_flies why q)
reach-still u next fs (rep_flies n) t = reach-behind u fs (rep_flies n)
reach-still u next fs strt_flies t = reach-behind u fs strt_flies
reach-still u next fs stack_flies t = reach-behind u fs stack_flies

pub reach-other : (u next : ℕ) (fs : List Flight) (f : Flight) → TellsAll next f
    → reach u (fs ++ f ∷ []) ≡ reach u fs
reach-other u next fs f t = reach-still u next fs f t

pub chained-other : (u next : ℕ) (fs : List Flight) (f : Flight) → TellsAll next f
    → Chained u next fs → Chained u next (fs ++ f ∷ [])
unfolding Chained reach
chained-other u next [] (data_flies q k m) t c = absurd t
chained-other u next [] (ack_flies q) t c = (tt, tt)
chained-other u next [] (nak_flies why q) t c = (tt, tt)
chained-other u next [] (rep_flies n) t c = ((λ h. t), tt)
chained-other u next [] strt_flies t c = (tt, tt)
chained-other u next [] stack_flies t c = (tt, tt)
chained-other u next (data_flies q k m ∷ fs) f t c = (
  (λ h. let e = reach-still k next fs f t in let z = c.0 h in omega (arith, e, z)),
  chained-other u next fs f t c.1,
)
chained-other u next (rep_flies n ∷ fs) f t c = (
  (λ h. let e = reach-still n next fs f t in let z = c.0 h in omega (arith, e, z)),
  chained-other u next fs f t c.1,
)
chained-other u next (ack_flies q ∷ fs) f t c = (tt, chained-other u next fs f t c.1)
chained-other u next (nak_flies why q ∷ fs) f t c = (tt, chained-other u next fs f t c.1)
chained-other u next (strt_flies ∷ fs) f t c = (tt, chained-other u next fs f t c.1)
chained-other u next (stack_flies ∷ fs) f t c = (tt, chained-other u next fs f t c.1)

-- more is delivered, and the next one to send is at most the one after that
pub chained-moves : (u u' next next' : ℕ) (fs : List Flight) → u ≤ u' → next' ≤ max next (u' + 1)
    → Chained u next fs → Chained u' next' fs
unfolding Chained
chained-moves u u' next next' [] h g c = tt
chained-moves u u' next next' (data_flies q k m ∷ fs) h g c = (
  (λ i. let z = c.0 (omega (arith, h, i)) in let r = reach-grows k fs in
      omega (arith, z, r, i, g)),
  chained-moves u u' next next' fs h g c.1,
)
chained-moves u u' next next' (rep_flies n ∷ fs) h g c = (
  (λ i. let z = c.0 (omega (arith, h, i)) in let r = reach-grows n fs in
      omega (arith, z, r, i, g)),
  chained-moves u u' next next' fs h g c.1,
)
chained-moves u u' next next' (ack_flies q ∷ fs) h g c =
    (tt, chained-moves u u' next next' fs h g c.1)
chained-moves u u' next next' (nak_flies why q ∷ fs) h g c =
    (tt, chained-moves u u' next next' fs h g c.1)
chained-moves u u' next next' (strt_flies ∷ fs) h g c =
    (tt, chained-moves u u' next next' fs h g c.1)
chained-moves u u' next next' (stack_flies ∷ fs) h g c =
    (tt, chained-moves u u' next next' fs h g c.1)

pub chained-first : (u next : ℕ) (f : Flight) (fs : List Flight) → Chained u next (f ∷ fs)
    → LeadsOn u next f fs × Chained u next fs
unfolding Chained
chained-first u next f fs c = c

pub reach-first : (u : ℕ) (f : Flight) (fs : List Flight) → reach u (f ∷ fs) ≡ reach (moved f u) fs
unfolding reach
reach-first u f fs = refl
