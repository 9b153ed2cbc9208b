-- Two ends by their numbers, which have no bound here, and what one frame that arrives as it is
-- sent does to them.
use Rattle.std.proofs.Common.{◌≡◌, ◌≢◌, ℕ, ◌+◌, ◌<◌, ◌≤◌, max, Bool, true, false, cond}
use Rattle.std.specs.Prelude.{◌==◌}
use Rattle.ddcmp_core.specs.declared.state.State.{State}
use Rattle.ddcmp_core.specs.declared.state.State.TheVariants.{Halted, IStart, AStart, Running}
use Rattle.ddcmp_core.specs.declared.state.State.TheVariants.{Maintenance}
use Rattle.ddcmp_core.specs.declared.state.Owed.{Owed}
use Rattle.ddcmp_core.specs.declared.state.Owed.TheVariants.{Quiet, Ack, Nak}
use Rattle.ddcmp_frame.specs.declared.nak.Nak.{Nak as Reason}
use Rattle.ddcmp_frame.specs.declared.nak.Nak.TheVariants as reason
use Rattle.ddcmp_core.specs.Table.{is_starting}
use Rattle.ddcmp_core.specs.NextFrame.{is_nak}

pub record View : Type 0 where
  pub state : State
  pub due : Bool
  pub reply : Owed
  pub rep : Bool
  pub acked : ℕ
  pub sent : ℕ
  pub next : ℕ
  pub up : ℕ
  pub given : ℕ

-- all up to q are acknowledged
abbrev pub tells : View → ℕ → View
tells v q = record v { acked = q; next = max v.next (q + 1); rep = cond (q == v.acked) v.rep false }

abbrev pub back : View → View
back v = record v { next = v.acked + 1; rep = false }

abbrev pub ran : View → View
ran v = record v { state = Running; due = false }

-- message k comes
abbrev pub comes_up : View → ℕ → View
comes_up v k =
    record v { up = cond (k == v.up + 1) k v.up; reply = cond (k == v.up + 1) Ack v.reply }

-- never of a running end
abbrev pub hears_strt : State → View → View
hears_strt IStart v = record v { state = AStart; due = true }
hears_strt AStart v = record v { due = true }
hears_strt Running v = v
hears_strt Halted v = v
hears_strt Maintenance v = v

abbrev pub hears_stack : State → View → View
hears_stack IStart v = record (ran v) { reply = Ack }
hears_stack AStart v = record (ran v) { reply = Ack }
hears_stack Running v = record v { reply = Ack }
hears_stack Halted v = v
hears_stack Maintenance v = v

abbrev pub hears_nak : State → View → ℕ → View
hears_nak Running v q = back (tells v q)
hears_nak _ v q = v

abbrev pub hears_rep : State → View → ℕ → View
hears_rep Running v n = record v { reply = cond (n == v.up) Ack (Nak reason.ReplyToRep) }
hears_rep _ v n = v

abbrev pub hears_ack : State → View → ℕ → View
hears_ack AStart v q = ran v
hears_ack Running v q = tells v q
hears_ack _ v q = v

abbrev pub hears_data : State → View → ℕ → ℕ → View
hears_data AStart v q k = comes_up (tells (ran v) q) k
hears_data Running v q k = comes_up (tells v q) k
hears_data _ v q k = v

-- v sends, or doesn't, and w hears
pub data Crossing (v w : View) : Bool → View → View → Type 0 where
  c_strt : v.state ≡ IStart → v.due ≡ true
      → Crossing v w true (record v { due = false }) (hears_strt w.state w)
  c_stack : v.state ≡ AStart → v.due ≡ true
      → Crossing v w true (record v { due = false }) (hears_stack w.state w)
  c_nak : (c : Reason) → v.state ≡ Running → v.reply ≡ Nak c
      → Crossing v w true (record v { reply = Quiet }) (hears_nak w.state w v.up)
  c_rep : v.state ≡ Running → is_nak v.reply ≡ false → v.rep ≡ true
      → Crossing v w true (record v { rep = false }) (hears_rep w.state w v.sent)
  c_data : v.state ≡ Running → is_nak v.reply ≡ false → v.rep ≡ false → v.next ≤ v.given
      → Crossing v w true (record v { sent = max v.sent v.next; next = v.next + 1; reply = Quiet })
      (hears_data w.state w v.up v.next)
  c_ack : v.state ≡ Running → v.reply ≡ Ack → v.rep ≡ false → v.given < v.next
      → Crossing v w true (record v { reply = Quiet }) (hears_ack w.state w v.up)
  c_waits : is_starting v.state ≡ true → v.due ≡ false → Crossing v w false v w
  c_rests : v.state ≡ Running → v.reply ≡ Quiet → v.rep ≡ false → v.given < v.next
      → Crossing v w false v w

-- what holds of v against w at any time of a settle, W being the larger window
pub record Ordered (W : ℕ) (v w : View) : Type 0 where
  pub low : v.acked ≤ w.up
  pub high : w.up ≤ v.sent
  pub sent_given : v.sent ≤ v.given
  pub window : v.given ≤ v.acked + W
  pub next_low : v.acked < v.next
  pub next_high : v.next ≤ v.sent + 1
  pub fresh : is_starting v.state ≡ true → v.given ≡ 0
  pub young : is_starting v.state ≡ true → v.up ≡ 0
  pub awake : v.state ≢ Halted
  pub no_maintenance : v.state ≢ Maintenance
  pub apart : v.state ≡ Running → w.state ≢ IStart
