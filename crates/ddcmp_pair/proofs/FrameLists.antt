-- Frames are the same by their test exactly where they are equal.
use Rattle.std.proofs.Common.{◌≡◌, ◌↔◌, ℕ, Bool, true, false, ◌&&◌, ◌==◌, IsTrue, List, [], ◌∷◌}
use Rattle.std.proofs.Common.{refl, sym, ◌∙◌, ap, subst, Some}
use Rattle.std.proofs.lemmas.Bool.{eqb-true, eq-eqb}
use Rattle.ddcmp_frame.proofs.Tests.{same_bool, some-inj, false-true}
use Rattle.ddcmp_frame.specs.Fields.{ShortFields, CountedFields}
use Rattle.ddcmp_frame.specs.Spelling.{type_code, kind_of}
use Rattle.ddcmp_frame.specs.declared.header.Flags.{Flags}
use Rattle.ddcmp_frame.specs.declared.header.ControlType.{ControlType}
use Rattle.ddcmp_frame.specs.declared.header.ControlType.TheVariants as control
use Rattle.ddcmp_frame.specs.declared.header.Header.{Header}
use Rattle.ddcmp_frame.specs.declared.header.Header.TheVariants as header
use Rattle.ddcmp_pair.specs.Place.{WholeFrame, same_flag, same_flags, same_short, same_counted}
use Rattle.ddcmp_pair.specs.Place.{same_header, same_bytes, same_frame}

both : (a b : Bool) → (a && b) ≡ true → (a ≡ true) × (b ≡ true)
both true b h = (refl, h)
both false b h = absurd (false-true h)

eqb-refl : (a : ℕ) → (a == a) ≡ true
eqb-refl a = eq-eqb a a refl

kind-back : (k : ControlType) → kind_of (type_code k) ≡ Some k
kind-back control.Ack = refl
kind-back control.Nak = refl
kind-back control.Rep = refl
kind-back control.Strt = refl
kind-back control.Stack = refl

kinds : (j k : ControlType) → type_code j ≡ type_code k → j ≡ k
kinds j k e = some-inj (sym (kind-back j) ∙ ap kind_of e ∙ kind-back k)

flag : (a b : Bool) → same_flag a b ≡ true → a ≡ b
flag true b h = sym h
flag false true h = absurd (false-true h)
flag false false h = refl

flag-refl : (a : Bool) → same_flag a a ≡ true
flag-refl true = refl
flag-refl false = refl

flags : (f g : Flags) → same_flags f g ≡ true → f ≡ g
flags f g h =
    let p = both _ _ h in
    let q = flag f.q g.q p.0 in
    let s = flag f.s g.s p.1 in
    λ i. record { q = q i; s = s i }

flags-refl : (f : Flags) → same_flags f f ≡ true
flags-refl f = rw (flag-refl f.q, flag-refl f.s) refl

shorts : (g h : ShortFields) → same_short g h ≡ true → g ≡ h
shorts g h e =
    let a = both _ _ e in
    let b = both _ _ a.1 in
    let c = both _ _ b.1 in
    let d = both _ _ c.1 in
    let n = both _ _ d.1 in
    let kind = kinds g.kind h.kind (eqb-true _ _ a.0) in
    let sub = eqb-true g.sub h.sub b.0 in
    let flag = flags g.flags h.flags c.0 in
    let resp = eqb-true g.resp h.resp d.0 in
    let num = eqb-true g.num h.num n.0 in
    let addr = eqb-true g.addr h.addr n.1 in
    λ i. record {
      kind = kind i;
      sub = sub i;
      flags = flag i;
      resp = resp i;
      num = num i;
      addr = addr i;
    }

shorts-refl : (h : ShortFields) → same_short h h ≡ true
shorts-refl h =
    rw (
      eqb-refl (type_code h.kind),
      eqb-refl h.sub,
      flags-refl h.flags,
      eqb-refl h.resp,
      eqb-refl h.num,
      eqb-refl h.addr,
    ) refl

counts : (g h : CountedFields) → same_counted g h ≡ true → g ≡ h
counts g h e =
    let b = both _ _ e in
    let c = both _ _ b.1 in
    let d = both _ _ c.1 in
    let n = both _ _ d.1 in
    let count = eqb-true g.count h.count b.0 in
    let flag = flags g.flags h.flags c.0 in
    let resp = eqb-true g.resp h.resp d.0 in
    let num = eqb-true g.num h.num n.0 in
    let addr = eqb-true g.addr h.addr n.1 in
    λ i. record { count = count i; flags = flag i; resp = resp i; num = num i; addr = addr i }

counts-refl : (h : CountedFields) → same_counted h h ≡ true
counts-refl h =
    rw (eqb-refl h.count, flags-refl h.flags, eqb-refl h.resp, eqb-refl h.num, eqb-refl h.addr) refl

headers : (g h : Header) → same_header g h ≡ true → g ≡ h
headers (header.Data g) (header.Data h) e = ap header.Data (counts g h e)
headers (header.Data g) (header.Maint h) e = absurd (false-true e)
headers (header.Data g) (header.Control h) e = absurd (false-true e)
headers (header.Maint g) (header.Data h) e = absurd (false-true e)
headers (header.Maint g) (header.Maint h) e = ap header.Maint (counts g h e)
headers (header.Maint g) (header.Control h) e = absurd (false-true e)
headers (header.Control g) (header.Data h) e = absurd (false-true e)
headers (header.Control g) (header.Maint h) e = absurd (false-true e)
headers (header.Control g) (header.Control h) e = ap header.Control (shorts g h e)

headers-refl : (h : Header) → same_header h h ≡ true
headers-refl (header.Data h) = counts-refl h
headers-refl (header.Maint h) = counts-refl h
headers-refl (header.Control h) = shorts-refl h

lists : (xs ys : List ℕ) → same_bytes xs ys ≡ true → xs ≡ ys
lists [] [] e = refl
lists [] (y ∷ ys) e = absurd (false-true e)
lists (x ∷ xs) [] e = absurd (false-true e)
lists (x ∷ xs) (y ∷ ys) e =
    let p = both _ _ e in
    let first = eqb-true x y p.0 in
    let rest = lists xs ys p.1 in
    λ i. first i ∷ rest i

lists-refl : (xs : List ℕ) → same_bytes xs xs ≡ true
lists-refl [] = refl
lists-refl (x ∷ xs) = rw (eqb-refl x, lists-refl xs) refl

pub same-equal : (f g : WholeFrame) → same_frame f g ≡ true → f ≡ g
same-equal f g e =
    let p = both _ _ e in
    let h = headers f.0 g.0 p.0 in
    let m = lists f.1 g.1 p.1 in
    λ i. (h i, m i)

pub same-refl : (f : WholeFrame) → same_frame f f ≡ true
same-refl f = rw (headers-refl f.0, lists-refl f.1) refl

-- the test by itself
pub same-decides : (f g : WholeFrame) → IsTrue (same_frame f g) ↔ ((f.0 ≡ g.0) × (f.1 ≡ g.1))
same-decides f g = (
  (λ h. (let p = both _ _ h in (headers f.0 g.0 p.0, lists f.1 g.1 p.1))),
  (λ e. (let h = e.0 in let m = e.1 in
      let q : f ≡ g = (λ i. (h i, m i)) in
      subst (λ x. same_frame f x ≡ true) q (same-refl f))),
)

-- a test that decides whether two frames are equal is this one
pub same-by : (f g : WholeFrame) (test : Bool) → (IsTrue test ↔ ((f.0 ≡ g.0) × (f.1 ≡ g.1)))
    → test ≡ same_frame f g
same-by f g test decides = same_bool test (same_frame f g) _ decides (same-decides f g)
