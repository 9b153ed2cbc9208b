-- When stations acknowledge: no event changes it, and runs in which users choose it are in order.
use Rattle.std.proofs.Common.{◌≡◌, ◌≤◌, Bool, true, false, cond, List, [], ◌∷◌, ◌++◌, length, refl}
use Rattle.std.proofs.Common.{sym}
use Rattle.std.proofs.Common.{ap, ◌∙◌, subst, Option, Some, None}
use Rattle.ddcmp_frame.specs.Reading.{ReadItem}
use Rattle.ddcmp_core.specs.declared.station_core.StartRefusal.{StartRefusal}
use Rattle.ddcmp_core.specs.Core.{CoreView}
use Rattle.ddcmp_core.specs.Table.{may_start, after_start, may_send, after_accept}
use Rattle.ddcmp_core.proofs.ModeLaws.{mode_on, mode_next, mode_expired}
use Rattle.ddcmp_proto.specs.Bytes.{received_of, after_item, after_items, items_added}
use Rattle.ddcmp_proto.specs.Config.{first_refusal}
use Rattle.ddcmp_proto.specs.declared.config.Config.{Config}
use Rattle.ddcmp_io.specs.declared.carrier.End.{End}
use Rattle.ddcmp_io.specs.declared.carrier.End.TheVariants.{A, B}
use Rattle.ddcmp_pair.specs.declared.event.Event.{Event}
use Rattle.ddcmp_pair.specs.declared.event.Event.TheVariants as event
use Rattle.ddcmp_pair.specs.Choices.{Act, Happens, Chooses, after_act, run_acts}
use Rattle.ddcmp_pair.specs.Choices.{IsAcknowledgedTaken}
use Rattle.ddcmp_pair.specs.Pairs.{new_pair_by, IsRunBy}
use Rattle.ddcmp_pair.specs.Run.{EndState, PairState, at, after_event_here, after_event_at}
use Rattle.ddcmp_pair.specs.Run.{after_clear_by, clear_refusal, end_of, after_event, run, new_pair}
use Rattle.ddcmp_pair.specs.Run.{is_clean}
use Rattle.ddcmp_pair.proofs.Links.{rising-ends}
use Rattle.ddcmp_pair.proofs.Relation.{face, confirmed}
use Rattle.ddcmp_pair.proofs.Ordered.{Holds, holds-after, holds-choice, holds-new}
use Rattle.ddcmp_pair.proofs.Alone.{alone-act, alone-begun}
use Rattle.ddcmp_pair.proofs.Ready.{Holding}

-- ---- no event changes it

pub items-mode : (given : List ReadItem) (k : CoreView)
    → (after_items given k).station.by_user ≡ k.station.by_user
unfolding after_items
items-mode [] k = refl
items-mode (g ∷ rest) k =
    items-mode rest (after_item g k) ∙ mode_on k.limits k.station (received_of g)

pub mode-here : (e : Event) (x : EndState)
    → (after_event_here e x).core.station.by_user ≡ x.core.station.by_user
mode-here (event.Start e) x = by (may_start x.core.station)
  where
    by : (b : Bool)
        → (cond b (after_start x.core.station) x.core.station).by_user ≡ x.core.station.by_user
    by true = refl
    by false = refl
mode-here (event.Halt e) x = refl
mode-here (event.Send e message) x = by (may_send x.core.limits x.core.station message)
  where
    by : (b : Bool) → (cond b (after_accept x.core.station message) x.core.station).by_user
        ≡ x.core.station.by_user
    by true = refl
    by false = refl
mode-here (event.Poll e) x = mode_next x.core.station
mode-here (event.Arrive e bytes) x =
    items-mode (items_added x.core.limits.longest x.arrived bytes) x.core
mode-here (event.Expire e) x = mode_expired x.core.station
mode-here (event.Take e) x = refl
mode-here event.Clear x = refl

cleared-mode : (refusal : Option StartRefusal) (p : PairState) (end : End)
    → (at end (after_clear_by refusal p)).core.station.by_user ≡ (at end p).core.station.by_user
cleared-mode (Some refusal) p end = refl
cleared-mode None p A = refl
cleared-mode None p B = refl

event-mode : (o : Option End) (e : Event) (p : PairState) (end : End)
    → (at end (after_event_at o e p)).core.station.by_user ≡ (at end p).core.station.by_user
event-mode (Some A) e p A = mode-here e p.a
event-mode (Some A) e p B = refl
event-mode (Some B) e p A = refl
event-mode (Some B) e p B = mode-here e p.b
event-mode None e p end = cleared-mode (clear_refusal p) p end

pub after-mode : (e : Event) (p : PairState) (end : End)
    → (at end (after_event e p)).core.station.by_user ≡ (at end p).core.station.by_user
unfolding after_event
after-mode e p end = event-mode (end_of e) e p end

pub run-modes : (events : List Event) (p : PairState) (end : End)
    → (at end (run events p)).core.station.by_user ≡ (at end p).core.station.by_user
unfolding run
run-modes [] p end = refl
run-modes (e ∷ rest) p end = run-modes rest (after_event e p) end ∙ after-mode e p end

-- ---- acts

holds-act : (act : Act) (p : PairState) → Holds p → Holds (after_act act p)
holds-act (Happens e) p h = holds-after e p h
holds-act (Chooses end by_user) p h = holds-choice end by_user p h

holding-acts : (acts : List Act) (p : PairState) → Holding p → Holding (run_acts acts p)
unfolding run_acts
holding-acts [] p h = h
holding-acts (act ∷ acts) p h =
    holding-acts acts (after_act act p)
    (record { holds = holds-act act p h.holds; alone = alone-act act p h.alone })

pub acts-hold : (first second : Config) (acts : List Act) → first_refusal first ≡ None
    → first_refusal second ≡ None → Holding (run_acts acts (new_pair first second))
acts-hold first second acts f g =
    holding-acts acts (new_pair first second)
    (record { holds = holds-new first second f g; alone = alone-begun first second })

-- ---- what is reported acknowledged was taken

taken-of : (x y : EndState) → x.acknowledged ≤ confirmed (face y) → IsAcknowledgedTaken x y
taken-of x y h e =
    subst
    (λ b. x.acknowledged
    ≤ cond b (length y.taken) (length (y.taken ++ y.core.station.inbox))) e h

pub holds-taken : (p : PairState) → Holds p → p.honest ≡ true → is_clean p ≡ true
    → IsAcknowledgedTaken p.a p.b × IsAcknowledgedTaken p.b p.a
holds-taken p h honest clean =
    let f = (h.linked honest clean).related.fits in (
      taken-of p.a p.b (rising-ends p.a.acknowledged (confirmed (face p.b)) f.back f.rising),
      taken-of p.b p.a (rising-ends p.b.acknowledged (confirmed (face p.a)) f.back' f.rising'),
    )

-- ---- the mode of a run

pub mode-of-run : {by_user : Bool} (p : PairState) → IsRunBy by_user p → (end : End)
    → (at end p).core.station.by_user ≡ by_user
mode-of-run {by_user} p r end =
    ap (λ (q : PairState). (at end q).core.station.by_user) (sym r.leads)
    ∙ run-modes r.events (new_pair_by by_user r.first r.second) end ∙ by end
  where
    by : (e : End)
        → (at e (new_pair_by by_user r.first r.second)).core.station.by_user ≡ by_user
    by A = refl
    by B = refl

pub run-by-mode : {by_user : Bool} (p : PairState) → IsRunBy by_user p
    → IsRunBy p.a.core.station.by_user p
run-by-mode p r = subst (λ (b : Bool). IsRunBy b p) (sym (mode-of-run p r A)) r
