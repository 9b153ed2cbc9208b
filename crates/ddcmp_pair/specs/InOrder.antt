-- The main law: in order, once, unchanged, or not at all.
use Rattle.std.specs.Prelude.{◌≡◌, ℕ, ◌≤◌, true, false, List, length}
use Rattle.std.specs.List.{All}
use Rattle.ddcmp_core.specs.Laws.{tells_restart}
use Rattle.ddcmp_pair.specs.declared.event.Reply.{Reply}
use Rattle.ddcmp_pair.specs.declared.event.Reply.TheVariants as reply
use Rattle.ddcmp_pair.specs.Link.{IsReached, link_of}
use Rattle.ddcmp_pair.specs.Prefix.{IsPrefixOf}
use Rattle.ddcmp_pair.specs.Run.{EndState, PairState, handed_up, is_clean}

-- The messages delivered at `to` are a prefix of those that `from` accepted, and no more of them
-- were reported acknowledged than were delivered.
pub record Delivers (from to : EndState) : Type 0 where
  pub order : IsPrefixOf (handed_up to) from.given
  pub acknowledged : from.acknowledged ≤ length (handed_up to)

pub record DeliversBothWays (p : PairState) : Type 0 where
  pub a_to_b : Delivers p.a p.b
  pub b_to_a : Delivers p.b p.a

-- In every honest and clean run, messages are delivered at each end in the order in which the other
-- end accepted them, each once and unchanged, or not at all.
pub record IsInOrder (p : PairState) : Type 0 where
  pub where_clean : p.honest ≡ true → is_clean p ≡ true → DeliversBothWays p

-- The messages that one end accepted and the other delivered are a run of an abstract link, whose
-- window is that of the sending end.
pub record IsLink (from to : EndState) : Type 0 where
  pub sent : ℕ
  pub forward : List ℕ
  pub back : List ℕ
  pub is_reached : IsReached from.core.limits.window
      (link_of from.given from.acknowledged sent (handed_up to) forward back)

-- no notice reports that the peer restarted
abbrev pub NoRestart : Reply → Type 0
NoRestart (reply.Notices notices) = All (λ n. tells_restart n ≡ false) notices
NoRestart _ = Unit {0}
