-- The frame that is sent next, by cases with their reasons.
use Rattle.std.specs.Prelude.{◌≡◌, ℕ, ◌<◌, ◌≤◌, Bool, true, false, List, [], ◌∷◌, length}
use Rattle.ddcmp_frame.specs.declared.nak.Nak.{Nak as Reason}
use Rattle.ddcmp_core.specs.declared.state.State.TheVariants.{Halted, IStart, AStart, Running}
use Rattle.ddcmp_core.specs.declared.state.State.TheVariants.{Maintenance}
use Rattle.ddcmp_core.specs.declared.state.Owed.{Owed}
use Rattle.ddcmp_core.specs.declared.state.Owed.TheVariants.{Quiet, Ack, Nak}
use Rattle.ddcmp_core.specs.declared.state.Timer.TheVariants.{Fresh}
use Rattle.ddcmp_core.specs.Table.{StationState, resp_of, Data, Acked, Naked, Rep, Strt, Stack}
use Rattle.ddcmp_core.specs.Table.{Maint, Next}
use Rattle.ddcmp_core.specs.Table.{Idle, Sends, before_next, message_at_next, after_data}
use Rattle.ddcmp_core.specs.Table.{is_starting}

abbrev pub is_nak : Owed → Bool
is_nak (Nak why) = true
is_nak _ = false

-- The frame that a station sends next, and the reason for it, or for sending nothing.
pub data SentFor (s : StationState) : Next → Type 0 where
  sends_strt : s.state ≡ IStart → s.due ≡ true
      → SentFor s (Sends Strt (record s { due = false; timer = Fresh }))
  sends_stack : s.state ≡ AStart → s.due ≡ true
      → SentFor s (Sends Stack (record s { due = false; timer = Fresh }))
  sends_nak : (why : Reason) → s.state ≡ Running → s.reply ≡ Nak why
      → SentFor s (Sends (Naked why (resp_of s)) (record s { reply = Quiet }))
  sends_rep : s.state ≡ Running → is_nak s.reply ≡ false → s.rep ≡ true
      → SentFor s (Sends (Rep s.n) (record s { rep = false; timer = Fresh }))
  sends_data : s.state ≡ Running → is_nak s.reply ≡ false → s.rep ≡ false
      → before_next s < length s.out
      → SentFor s (Sends (Data (resp_of s) s.t (message_at_next s)) (after_data s))
  sends_ack : s.state ≡ Running → s.reply ≡ Ack → s.rep ≡ false
      → length s.out ≤ before_next s
      → SentFor s (Sends (Acked (resp_of s)) (record s { reply = Quiet }))
  sends_maint : (message : List ℕ) (rest : List (List ℕ))
      → s.state ≡ Maintenance → s.out ≡ message ∷ rest
      → SentFor s (Sends (Maint message) (record s { out = rest }))
  halted_idles : s.state ≡ Halted → SentFor s Idle
  starting_idles : is_starting s.state ≡ true → s.due ≡ false → SentFor s Idle
  running_idles : s.state ≡ Running → s.reply ≡ Quiet → s.rep ≡ false
      → length s.out ≤ before_next s → SentFor s Idle
  maintenance_idles : s.state ≡ Maintenance → s.out ≡ [] → SentFor s Idle
