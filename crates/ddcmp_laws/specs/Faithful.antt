-- A line that loses and changes nothing: what arrived is a prefix of what was written.
use Rattle.std.specs.Prelude.{ℕ, List, [], ◌∷◌, ◌++◌, replicate}
use Rattle.ddcmp_frame.specs.declared.codes.TheConstants.{SYN}
use Rattle.ddcmp_frame.specs.Wire.{wire}
use Rattle.ddcmp_pair.specs.declared.event.Event.{Event}
use Rattle.ddcmp_pair.specs.Place.{WholeFrame}
use Rattle.ddcmp_pair.specs.Run.{EndState, PairState, after_event}
use Rattle.ddcmp_laws.specs.Prefix.{Begins}

-- frames on the line one after another, each after its fill
unfoldable pub bytes_of : ℕ → List WholeFrame → List ℕ
bytes_of fill [] = []
bytes_of fill (f ∷ rest) = (replicate fill SYN ++ wire f.0 f.1) ++ bytes_of fill rest

-- the bytes that an end wrote since the line was cleared
abbrev pub written : EndState → List ℕ
written x = bytes_of x.syn x.sent

-- what arrived at each end is a prefix of what the other wrote
pub record IsFaithful (p : PairState) : Type 0 where
  pub to_a : Begins p.a.arrived (written p.b)
  pub to_b : Begins p.b.arrived (written p.a)

-- the line is faithful after each of these events
abbrev pub StaysFaithful : List Event → PairState → Type 0
StaysFaithful [] p = Unit {0}
StaysFaithful (e ∷ rest) p =
    IsFaithful (after_event e p) × StaysFaithful rest (after_event e p)
