-- Frames that a session puts behind what waits for its line, one after another.
use Rattle.std.proofs.Common.{◌≤◌, arith, subst, List, length, ◌==◌}
use Rattle.std.proofs.Common.{◌≡◌, ℕ, zero, suc, refl, ap, sym, ◌∙◌, Bool, true, false, cond}
use Rattle.ddcmp_station.specs.Linking.{LinkView, after_frame, after_frames, polls, after_polled}
use Rattle.ddcmp_io.specs.LineKinds.{is_of_datagrams}
use Rattle.ddcmp_session.specs.Filling.{most_datagrams}
use Rattle.ddcmp_io.specs.declared.line_kind.LineKind.{LineKind}
use Rattle.ddcmp_io.specs.declared.line_kind.LineKind.TheVariants.{Datagrams}
use Rattle.ddcmp_session.specs.Logged.{LoggedSession}
use Rattle.ddcmp_session.specs.Session.{SessionView}

abbrev with_link : LinkView → SessionView → SessionView
with_link d s = record s { link = d }

no-frames : (d : LinkView) → after_frames zero d ≡ d
unfolding after_frames
no-frames d = refl

next-frame : (n : ℕ) (d : LinkView) → after_frames (suc n) d ≡ after_frame (after_frames n d)
unfolding after_frames
next-frame n d = refl

-- some frames were put
abbrev pub PutsFrames : SessionView → SessionView → Type 0
PutsFrames old new = (n : ℕ) × (new ≡ record old { link = after_frames n old.link })

pub puts-none : (s : SessionView) → PutsFrames s s
puts-none s = (zero, sym (ap (λ d. with_link d s) (no-frames s.link)))

puts-one-is : (old new : SessionView) → new ≡ record old { link = after_frame old.link }
    → new ≡ record old { link = after_frames 1 old.link }
puts-one-is old new is =
    is
    ∙ ap (λ d. with_link d old)
    (ap after_frame (sym (no-frames old.link)) ∙ sym (next-frame zero old.link))

-- at most so many were
abbrev pub PutsAtMost : ℕ → SessionView → SessionView → Type 0
PutsAtMost most old new =
    (n : ℕ) × (n ≤ most) × (new ≡ record old { link = after_frames n old.link })

pub puts-at-most-none : (most : ℕ) (s : SessionView) → PutsAtMost most s s
puts-at-most-none most s =
    (zero, omega arith, sym (ap (λ d. with_link d s) (no-frames s.link)))

-- One was put, unless it waits.
pub puts-at-most-one : (waits : Bool) (old new : SessionView)
    → new ≡ record old { link = cond waits old.link (after_frame old.link) }
    → PutsAtMost 1 old new
puts-at-most-one true old new is =
    (zero, omega arith, is ∙ sym (ap (λ d. with_link d old) (no-frames old.link)))
puts-at-most-one false old new is =
    (suc zero, omega arith, puts-one-is old new is)

pub puts-some : (waits : Bool) (old new : SessionView)
    → new ≡ record old { link = cond waits old.link (after_frame old.link) }
    → PutsFrames old new
puts-some waits old new is = let p = puts-at-most-one waits old new is in (p.0, p.2)

-- The first was put at a session that was as it began, where one may be.
pub at-most : (a b c : SessionView) → most_datagrams a.link ≡ 1 → b ≡ a → PutsAtMost 1 b c
    → PutsAtMost (most_datagrams a.link) a c
at-most a b c one same p =
    subst (λ most. PutsAtMost most a c) (sym one) (subst (λ s. PutsAtMost 1 s c) same p)

-- ---- over datagrams

pub not-datagrams : {A : Type 0} (b : Bool) (kind now : LineKind) → b ≡ is_of_datagrams kind
    → b ≡ false → kind ≡ now → now ≡ Datagrams → A
not-datagrams b kind now is off same e =
    let bad : false ≡ true = sym off ∙ is ∙ ap is_of_datagrams (same ∙ e) in cc

pub one-datagram : (waiting : List ℕ) (inside now : LoggedSession)
    → waiting ≡ inside.state.link.outbox.waiting → true ≡ (length waiting == 0)
    → inside ≡ now → most_datagrams now.state.link ≡ 1
one-datagram waiting inside now is empty same =
    ap (λ (s : LoggedSession). most_datagrams s.state.link) (sym same)
    ∙ ap (λ (xs : List ℕ). cond (length xs == 0) 1 0) (sym is)
    ∙ ap (λ b. cond b 1 0) (sym empty)

frames-add : (n m : ℕ) (d : LinkView)
    → (k : ℕ) × (after_frames m (after_frames n d) ≡ after_frames k d)
frames-add n zero d = (n, no-frames (after_frames n d))
frames-add n (suc m) d = let r = frames-add n m d in (
  suc r.0,
  next-frame m (after_frames n d) ∙ ap after_frame r.1 ∙ sym (next-frame r.0 d),
)

pub puts-then : (a b c : SessionView) → PutsFrames a b → PutsFrames b c → PutsFrames a c
puts-then a b c p q =
    let r = frames-add p.0 q.0 a.link in (
      r.0,
      q.1
          ∙ ap (λ (s : SessionView). record s { link = after_frames q.0 s.link }) p.1
          ∙ ap (λ d. with_link d a) r.1,
    )

-- the reader of the line stays
frame-line : (d : LinkView) → (after_frame d).station.line ≡ d.station.line
frame-line d = by (polls d)
  where
    by : (b : Bool) → (cond b (after_polled d) d).station.line ≡ d.station.line
    by true = refl
    by false = refl

pub frames-line : (n : ℕ) (d : LinkView) → (after_frames n d).station.line ≡ d.station.line
unfolding after_frames
frames-line zero d = refl
frames-line (suc n) d = frame-line (after_frames n d) ∙ frames-line n d
