-- A STRT never comes to an end that runs.
use Rattle.std.proofs.Common.{◌≡◌, ◌≢◌, ℕ, ◌<◌, Bool, true, false, List, [], ◌∷◌, ◌++◌, refl, sym}
use Rattle.std.proofs.Common.{◌∙◌, subst, arith, append-nil}
use Rattle.ddcmp_core.specs.declared.state.State.{State}
use Rattle.ddcmp_core.specs.declared.state.State.TheVariants.{Halted, IStart, AStart, Running}
use Rattle.ddcmp_core.specs.declared.state.State.TheVariants.{Maintenance}
use Rattle.ddcmp_core.specs.Table.{resp_of, Limits, StationState, Frame, Data, Acked, Naked, Rep}
use Rattle.ddcmp_core.specs.Table.{Strt}
use Rattle.ddcmp_core.specs.Table.{Stack, Maint, Received, Good, Next, on, after_start, next}
use Rattle.ddcmp_core.specs.NextFrame.{SentFor, sends_strt, sends_stack, sends_nak, sends_rep}
use Rattle.ddcmp_core.specs.NextFrame.{sends_data, sends_ack, sends_maint, halted_idles}
use Rattle.ddcmp_core.specs.NextFrame.{starting_idles, running_idles, maintenance_idles}
use Rattle.ddcmp_core.specs.Laws.{is_fault}
use Rattle.ddcmp_core.proofs.Sent.{sending}
use Rattle.ddcmp_core.proofs.StartLaws.{istart_stays}
use Rattle.ddcmp_core.proofs.RestartLaws.{stops, fault-stays}
use Rattle.ddcmp_pair.proofs.Relation.{Face}
use Rattle.ddcmp_pair.proofs.Receptions.{is_strt, hearing}
use Rattle.ddcmp_pair.proofs.Sendings.{as_read, frames_next, after_sending}

abbrev pub NoStrt : List Frame → Type 0
NoStrt [] = Unit {0}
NoStrt (f ∷ fs) = (is_strt f ≡ false) × NoStrt fs

abbrev pub OnlyStrt : List Frame → Type 0
OnlyStrt [] = Unit {0}
OnlyStrt (f ∷ fs) = (is_strt f ≡ true) × OnlyStrt fs

-- all STRTs come first
abbrev pub StrtsFirst : List Frame → Type 0
StrtsFirst [] = Unit {0}
StrtsFirst (f ∷ fs) = (is_strt f ≡ false → NoStrt fs) × StrtsFirst fs

-- The frames fs are in flight from y to x. If x runs, y has started and x will hear no STRT.
pub record Starting (y x : Face) (fs : List Frame) : Type 0 where
  pub first : StrtsFirst fs
  pub fresh : y.station.state ≡ IStart → OnlyStrt fs
  pub unsent : y.starts ≡ 0 → fs ≡ []
  pub runs : x.station.state ≡ Running → (0 < y.starts) × (y.station.state ≢ IStart) × NoStrt fs

-- ---- lists of frames

first-rest : (lost fs : List Frame) → StrtsFirst (lost ++ fs) → StrtsFirst fs
first-rest [] fs h = h
first-rest (f ∷ lost) fs h = first-rest lost fs h.1

none-rest : (lost fs : List Frame) → NoStrt (lost ++ fs) → NoStrt fs
none-rest [] fs h = h
none-rest (f ∷ lost) fs h = none-rest lost fs h.1

only-rest : (lost fs : List Frame) → OnlyStrt (lost ++ fs) → OnlyStrt fs
only-rest [] fs h = h
only-rest (f ∷ lost) fs h = only-rest lost fs h.1

only-last : (fs : List Frame) (f : Frame) → is_strt f ≡ true → OnlyStrt fs → OnlyStrt (fs ++ f ∷ [])
only-last [] f e h = (e, tt)
only-last (g ∷ fs) f e h = (h.0, only-last fs f e h.1)

none-last : (fs : List Frame) (f : Frame) → is_strt f ≡ false → NoStrt fs → NoStrt (fs ++ f ∷ [])
none-last [] f e h = (e, tt)
none-last (g ∷ fs) f e h = (h.0, none-last fs f e h.1)

first-last : (fs : List Frame) (f : Frame) → is_strt f ≡ false → StrtsFirst fs
    → StrtsFirst (fs ++ f ∷ [])
first-last [] f e h = ((λ n. tt), tt)
first-last (g ∷ fs) f e h = ((λ n. none-last fs f e (h.0 n)), first-last fs f e h.1)

first-only : (fs : List Frame) → OnlyStrt fs → StrtsFirst fs
first-only [] h = tt
first-only (f ∷ fs) h = let a = h.0 in ((λ n. absurd (cc)), first-only fs h.1)

not-empty : (lost : List Frame) (f : Frame) (rest : List Frame) → lost ++ f ∷ rest ≡ [] → ⊥
not-empty [] f rest e = cc
not-empty (g ∷ lost) f rest e = cc

some-starts : (n : ℕ) → (n ≡ 0 → ⊥) → 0 < n
some-starts n h = omega (arith)

-- ---- something comes

no-strt : (l : Limits) (s : StationState) (f : Frame) → (on l s (Good f)).state ≡ Running
    → is_strt f ≡ false
no-strt l s Strt e = absurd (stops l s e)
no-strt l s (Data resp num m) e = refl
no-strt l s (Acked resp) e = refl
no-strt l s (Naked why resp) e = refl
no-strt l s (Rep num) e = refl
no-strt l s Stack e = refl
no-strt l s (Maint m) e = refl

-- a frame comes to x, in front of which some are lost
pub starting-comes : (y x : Face) (lost : List Frame) (f : Frame) (rest : List Frame)
    → Starting y x (lost ++ f ∷ rest)
    → Starting y (hearing x (Good f)) rest
starting-comes y x lost f rest h = record {
  first = (first-rest lost (f ∷ rest) h.first).1;
  fresh = λ p. (only-rest lost (f ∷ rest) (h.fresh p)).1;
  unsent = λ z. absurd (not-empty lost f rest (h.unsent z));
  runs = λ r.
      let n = no-strt x.limits x.station f r in (
        some-starts y.starts (λ z. not-empty lost f rest (h.unsent z)),
        (λ p. let o = (only-rest lost (f ∷ rest) (h.fresh p)).0 in cc (o, n)),
        (first-rest lost (f ∷ rest) h.first).0 n,
      );
}

pub no-strt-comes : (y x : Face) (lost : List Frame) (f : Frame) (rest : List Frame)
    → Starting y x (lost ++ f ∷ rest) → x.station.state ≡ Running
    → is_strt f ≡ false
no-strt-comes y x lost f rest h r = (none-rest lost (f ∷ rest) (h.runs r).2).0

-- nothing is sent or arrives
pub starting-kept : (y x y' x' : Face) (fs : List Frame) → y'.starts ≡ y.starts
    → (y'.station.state ≡ IStart → y.station.state ≡ IStart)
    → (x'.station.state ≡ Running → x.station.state ≡ Running) → Starting y x fs → Starting y' x' fs
starting-kept y x y' x' fs n p r h = record {
  first = h.first;
  fresh = λ e. h.fresh (p e);
  unsent = λ e. h.unsent (sym n ∙ e);
  runs = λ e. let g = h.runs (r e) in (subst (λ k. 0 < k) (sym n) g.0, (λ q. g.1 (p q)), g.2);
}

-- y hears
pub starting-hears : (y x : Face) (fs : List Frame) (h : Received) → Starting y x fs
    → Starting (hearing y h) x fs
starting-hears y x fs h s =
    starting-kept y x (hearing y h) x fs refl (λ p. istart_stays y.limits y.station h p) (λ r. r) s

-- x hears what is no frame
pub starting-fault : (y x : Face) (fs : List Frame) (h : Received) → is_fault h ≡ true
    → Starting y x fs → Starting y (hearing x h) fs
starting-fault y x fs h f s =
    starting-kept y x y (hearing x h) fs refl (λ p. p)
    (λ r. sym (fault-stays x.limits x.station h f) ∙ r) s

-- ---- y sends

starting-more : (y x : Face) (fs : List Frame) (f : Frame) (s : StationState)
    → s.state ≡ y.station.state → (y.station.state ≡ Halted → ⊥)
    → (y.starts ≡ 0 → y.station.state ≡ Halted) → (is_strt f ≡ true → y.station.state ≡ IStart)
    → (y.station.state ≡ IStart → is_strt f ≡ true)
    → Starting y x fs → Starting (record y { station = s }) x (fs ++ f ∷ [])
starting-more y x fs f s e awake off only all h = record {
  first = by (is_strt f) refl;
  fresh = λ p. let q : y.station.state ≡ IStart = sym e ∙ p in only-last fs f (all q) (h.fresh q);
  unsent = λ z. absurd (awake (off z));
  runs =
      λ r. let g =
      h.runs r in (g.0, (λ p. g.1 (sym e ∙ p)), none-last fs f (no g.1 (is_strt f) refl) g.2);
}
  where
    no : (y.station.state ≢ IStart) → (b : Bool) → is_strt f ≡ b → is_strt f ≡ false
    no n true b = absurd (n (only b))
    no n false b = b

    by : (b : Bool) → is_strt f ≡ b → StrtsFirst (fs ++ f ∷ [])
    by true b = first-only _ (only-last fs f b (h.fresh (only b)))
    by false b = first-last fs f b h.first

starting-running : (y x : Face) (fs : List Frame) (f : Frame) (s : StationState) (p : State)
    → s.state ≡ y.station.state → y.station.state ≡ p
    → (p ≡ Halted → ⊥) → (p ≡ IStart → ⊥) → is_strt f ≡ false
    → (y.starts ≡ 0 → y.station.state ≡ Halted)
    → Starting y x fs → Starting (record y { station = s }) x (fs ++ f ∷ [])
starting-running y x fs f s p e r awake started none off h =
    starting-more y x fs f s e (λ q. awake (sym r ∙ q)) off (λ b. absurd (cc (b, none)))
    (λ q. absurd (started (sym r ∙ q))) h

idle : (y x : Face) (fs : List Frame) → Starting y x fs → Starting y x (fs ++ [])
idle y x fs h = subst (λ l. Starting y x l) (sym (append-nil fs)) h

starting-next : (y x : Face) (fs : List Frame) (t : Next) → SentFor y.station t
    → (y.starts ≡ 0 → y.station.state ≡ Halted)
    → Starting y x fs → Starting (after_sending y t) x (fs ++ frames_next t)
starting-next y x fs _ (sends_strt p d) off h =
    starting-more y x fs Strt _ refl (λ q. let z = sym p ∙ q in cc) off (λ b. p) (λ q. refl) h
starting-next y x fs _ (sends_stack p d) off h =
    starting-running y x fs Stack _ AStart refl p (λ q. cc) (λ q. cc) refl off h
starting-next y x fs _ (sends_nak why p r) off h =
    starting-running y x fs (as_read (Naked why (resp_of y.station))) _ Running refl p (λ q. cc)
    (λ q. cc)
    refl off h
starting-next y x fs _ (sends_rep p n r) off h =
    starting-running y x fs (Rep y.station.n) _ Running refl p (λ q. cc) (λ q. cc) refl off h
starting-next y x fs _ (sends_data p n r room) off h =
    starting-running y x fs _ _ Running refl p (λ q. cc) (λ q. cc) refl off h
starting-next y x fs _ (sends_ack p r n room) off h =
    starting-running y x fs (Acked (resp_of y.station)) _ Running refl p (λ q. cc)
    (λ q. cc) refl off h
starting-next y x fs _ (sends_maint m rest p o) off h =
    starting-running y x fs (Maint m) _ Maintenance refl p (λ q. cc) (λ q. cc) refl off h
starting-next y x fs _ (halted_idles p) off h = idle y x fs h
starting-next y x fs _ (starting_idles p d) off h = idle y x fs h
starting-next y x fs _ (running_idles p r n room) off h = idle y x fs h
starting-next y x fs _ (maintenance_idles p o) off h = idle y x fs h

pub starting-sends : (y x : Face) (fs : List Frame) → (y.starts ≡ 0 → y.station.state ≡ Halted)
    → Starting y x fs
    → Starting (after_sending y (next y.station)) x (fs ++ frames_next (next y.station))
starting-sends y x fs off h = starting-next y x fs (next y.station) (sending y.station) off h

-- y starts for the first time
pub starting-starts : (y x : Face) (fs : List Frame) (starts : ℕ) → y.starts ≡ 0 → 0 < starts
    → Starting y x fs
    → Starting (record y { station = after_start y.station; starts = starts }) x fs
starting-starts y x fs starts z some h = record {
  first = h.first;
  fresh = λ p. subst OnlyStrt (sym (h.unsent z)) tt;
  unsent = λ e. absurd (omega (arith, e, some));
  runs = λ r. absurd (omega (arith, (h.runs r).0, z));
}

pub starting-nothing : (y x : Face) → x.station.state ≡ Halted → Starting y x []
starting-nothing y x h =
    record {
      first = tt;
      fresh = λ p. tt;
      unsent = λ z. refl;
      runs = λ r. let z = sym h ∙ r in
          absurd (cc);
    }
