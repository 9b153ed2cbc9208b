-- A frame that was just sent arrives whole where no frame is unfinished: the station hears that
-- frame and nothing else, and the arrival is honest.
use Rattle.std.proofs.Common.{◌≡◌, ◌≢◌, ℕ, ◌+◌, ◌≤◌, inl, inr, Bool, true, false, cond, List, []}
use Rattle.std.proofs.Common.{◌∷◌, ◌++◌, length, Option, Some, None, refl, ap, ◌∙◌, arith}
use Rattle.std.specs.Prelude.{◌==◌, is_some, option_to_list}
use Rattle.ddcmp_frame.specs.declared.item.Item.TheVariants as item
use Rattle.ddcmp_frame.specs.Reading.{ReadItem, items, open_at_end, good_frames, good_frames_in}
use Rattle.ddcmp_frame.proofs.ReadingLaws.{good_in-append}
use Rattle.ddcmp_frame.proofs.FrameLaws.{whole-items, whole-closed}
use Rattle.ddcmp_core.specs.declared.notice.Notice.{Notice}
use Rattle.ddcmp_core.specs.declared.notice.Notice.TheVariants as notice
use Rattle.ddcmp_core.specs.declared.state.State.{State}
use Rattle.ddcmp_core.specs.declared.state.State.TheVariants.{Halted, IStart, AStart, Running}
use Rattle.ddcmp_core.specs.declared.state.State.TheVariants.{Maintenance}
use Rattle.ddcmp_core.specs.Table.{Limits, StationState, Frame, Data, Acked, Naked, Strt, Stack}
use Rattle.ddcmp_core.specs.Table.{Maint, Good, Sends, next, on_by, on, notice_by, notice_of}
use Rattle.ddcmp_core.specs.Table.{acknowledged_by, acknowledged_notice, newly_acknowledged}
use Rattle.ddcmp_core.specs.Table.{data_notice, takes_data, has_room, on_data, after_startup}
use Rattle.ddcmp_core.specs.Table.{after_ack}
use Rattle.ddcmp_core.specs.Numbers.{next_number, is_within}
use Rattle.ddcmp_core.specs.declared.state.Timer.TheVariants.{Off}
use Rattle.ddcmp_core.specs.Frames.{frame_of, header_of, message_of}
use Rattle.ddcmp_core.specs.Counting.{count_plus, counters_on}
use Rattle.ddcmp_core.specs.Core.{IsSound}
use Rattle.ddcmp_core.proofs.StartLaws.{read_sent}
use Rattle.ddcmp_proto.specs.Bytes.{after_item, after_items, after_piece, notices_of_item}
use Rattle.ddcmp_proto.specs.Bytes.{notices_of_items, notices_of_piece, frame_on_line}
use Rattle.ddcmp_proto.proofs.FeedLaws.{after_piece-given, after_items-single}
use Rattle.ddcmp_proto.proofs.FeedLaws.{notices_of_items-single}
use Rattle.ddcmp_pair.specs.Place.{WholeFrame, place_of, IsSubsequence}
use Rattle.ddcmp_pair.specs.Run.{EndState, whole_frame, acknowledged_in, restarts_by, restarts_in}
use Rattle.ddcmp_pair.specs.Run.{after_arrival_here, notices_at}
use Rattle.ddcmp_pair.proofs.Subsequences.{place-decides}

-- how often a notice reports a restart
abbrev pub restarts_told : Option Notice → ℕ
restarts_told None = 0
restarts_told (Some n) = restarts_by n

acknowledged-one : (o : Option Notice) → acknowledged_in (option_to_list o) ≡ acknowledged_by o
acknowledged-one None = refl
acknowledged-one (Some n) = omega arith

pub restarts-one : (o : Option Notice) → restarts_in (option_to_list o) ≡ restarts_told o
restarts-one None = refl
restarts-one (Some n) = omega arith

-- what was sent last may arrive last
sent-last : (f : WholeFrame) (fs sent : List WholeFrame) → IsSubsequence fs sent
    → IsSubsequence (fs ++ f ∷ []) (sent ++ f ∷ [])
sent-last f [] [] h = inl (refl, tt)
sent-last f [] (g ∷ sent) h = inr (sent-last f [] sent tt)
sent-last f (e ∷ fs) [] h = absurd h
sent-last f (e ∷ fs) (g ∷ sent) (inl h) = inl (h.0, sent-last f fs sent h.1)
sent-last f (e ∷ fs) (g ∷ sent) (inr h) = inr (sent-last f (e ∷ fs) sent h)

one-frame : (o : ℕ) (f : WholeFrame) → good_frames_in ((item.Good o f.0, f.1) ∷ []) ≡ f ∷ []
unfolding good_frames_in
one-frame o f = refl

-- ---- an end that hears a frame

abbrev pub hears : Frame → List ℕ → EndState → EndState
hears f bytes y = record y {
  core = record y.core {
    station = on y.core.limits y.core.station (Good f);
    counters = counters_on y.core.limits y.core.station (Good f) y.core.counters;
  };
  arrived = y.arrived ++ bytes;
  acknowledged = y.acknowledged + acknowledged_by (notice_of y.core.limits y.core.station (Good f));
  starts = count_plus y.starts (restarts_told (notice_of y.core.limits y.core.station (Good f)));
}

module _ (l : Limits) (s u : StationState) (f : Frame) (syn : ℕ) (sound : IsSound l s)
    (sent : next s ≡ Sends f u) (y : EndState) (longest : l.longest ≡ y.core.limits.longest)
    (closed : open_at_end y.core.limits.longest y.arrived ≡ 0) where
  abbrev bytes : List ℕ
  bytes = frame_on_line syn f

  abbrev given : ReadItem
  given = (item.Good (length y.arrived + syn) (header_of f), message_of f)

  fits : length (message_of f) ≤ y.core.limits.longest
  fits = let r = read_sent l s f u sound sent in omega (arith, r.3, longest)

  items-are : items y.core.limits.longest (y.arrived ++ bytes)
      ≡ items y.core.limits.longest y.arrived ++ given ∷ []
  items-are =
      let r = read_sent l s f u sound sent in
      whole-items y.core.limits.longest y.arrived (message_of f) syn (header_of f)
      closed r.2 r.1 fits

  pub still-closed : open_at_end y.core.limits.longest (y.arrived ++ bytes) ≡ 0
  still-closed =
      let r = read_sent l s f u sound sent in
      whole-closed y.core.limits.longest y.arrived (message_of f) syn (header_of f)
      closed r.2 r.1 fits

  is-frame : frame_of (header_of f) (message_of f) ≡ f
  is-frame = (read_sent l s f u sound sent).0

  heard-core : after_item given y.core ≡ (hears f bytes y).core
  heard-core =
      ap
      (λ g. record y.core {
        station = on y.core.limits y.core.station (Good g);
        counters = counters_on y.core.limits y.core.station (Good g) y.core.counters;
      }) is-frame

  heard-notices : notices_of_item given y.core
      ≡ option_to_list (notice_of y.core.limits y.core.station (Good f))
  heard-notices =
      ap (λ g. option_to_list (notice_of y.core.limits y.core.station (Good g))) is-frame

  piece : (after_piece y.arrived bytes y.core ≡ after_items (given ∷ []) y.core)
      × (notices_of_piece y.arrived bytes y.core ≡ notices_of_items (given ∷ []) y.core)
  piece = after_piece-given y.core.limits.longest y.arrived bytes (given ∷ []) y.core refl items-are

  core-is : after_piece y.arrived bytes y.core ≡ (hears f bytes y).core
  core-is = piece.0 ∙ after_items-single given y.core ∙ heard-core

  notices-are : notices_at bytes y
      ≡ option_to_list (notice_of y.core.limits y.core.station (Good f))
  notices-are = piece.1 ∙ notices_of_items-single given y.core ∙ heard-notices

  pub arrives-as : after_arrival_here bytes y ≡ hears f bytes y
  arrives-as =
      let told : y.acknowledged + acknowledged_in (notices_at bytes y)
      ≡ (hears f bytes y).acknowledged =
      ap (λ n. y.acknowledged + acknowledged_in n) notices-are
      ∙ ap (λ n. y.acknowledged + n) (acknowledged-one _) in
      let starts : count_plus y.starts (restarts_in (notices_at bytes y))
      ≡ (hears f bytes y).starts =
      ap (λ n. count_plus y.starts (restarts_in n)) notices-are
      ∙ ap (λ n. count_plus y.starts n) (restarts-one _) in
      λ i. record y {
        core = core-is i;
        arrived = y.arrived ++ bytes;
        acknowledged = told i;
        starts = starts i;
      }

  frames-are : good_frames y.core.limits.longest (y.arrived ++ bytes)
      ≡ good_frames y.core.limits.longest y.arrived ++ whole_frame f ∷ []
  frames-are =
      ap good_frames_in items-are
      ∙ good_in-append (items y.core.limits.longest y.arrived) (given ∷ [])
      ∙ ap (λ t. good_frames y.core.limits.longest y.arrived ++ t)
      (one-frame (length y.arrived + syn) (whole_frame f))

  pub honest-arrival : (sent : List WholeFrame)
      → is_some (place_of (good_frames y.core.limits.longest y.arrived) sent) ≡ true
      → is_some
      (place_of (good_frames y.core.limits.longest (y.arrived ++ bytes))
      (sent ++ whole_frame f ∷ [])) ≡ true
  honest-arrival sent placed =
      ap (λ t. is_some (place_of t (sent ++ whole_frame f ∷ []))) frames-are
      ∙ (place-decides _ _).1 (sent-last (whole_frame f) _ sent ((place-decides _ sent).0 placed))

-- ---- which notices a frame gives, and how the state goes on

-- where a running station hears no STRT
module _ (l : Limits) (s : StationState) where
  none-acknowledged : (m : ℕ) → restarts_told (acknowledged_notice m) ≡ 0
  none-acknowledged m = by (m == 0)
    where
      by : (b : Bool) → restarts_told (cond b None (Some (notice.Acknowledged m))) ≡ 0
      by true = refl
      by false = refl

  none-data : (resp num : ℕ) → restarts_told (data_notice l s resp num) ≡ 0
  none-data resp num = by (takes_data l s num) (newly_acknowledged s resp == 0)
    where
      by : (b d : Bool)
          → restarts_told
          (cond b
          (Some
          (cond d notice.HandedUp (notice.HandedUpAndAcknowledged (newly_acknowledged s resp))))
          (acknowledged_notice (newly_acknowledged s resp))) ≡ 0
      by true true = refl
      by true false = refl
      by false d = none-acknowledged (newly_acknowledged s resp)

  restarts-by : (p : State) (f : Frame) → (p ≡ Running → f ≡ Strt → ⊥)
      → restarts_told (notice_by p l s (Good f)) ≡ 0
  restarts-by Halted Strt n = refl
  restarts-by Halted (Maint m) n = refl
  restarts-by Halted f n = refl
  restarts-by IStart Stack n = refl
  restarts-by IStart (Maint m) n = refl
  restarts-by IStart f n = refl
  restarts-by AStart Stack n = refl
  restarts-by AStart (Acked resp) n = by (resp == 0)
    where
      by : (b : Bool) → restarts_told (cond b (Some notice.Running) None) ≡ 0
      by true = refl
      by false = refl
  restarts-by AStart (Data resp num m) n = by (resp == 0) (takes_data l s num)
    where
      by : (b d : Bool)
          → restarts_told (cond b (Some (cond d notice.RunningAndHandedUp notice.Running)) None) ≡ 0
      by true true = refl
      by true false = refl
      by false d = refl
  restarts-by AStart (Maint m) n = refl
  restarts-by AStart f n = refl
  restarts-by Running Strt n = absurd (n refl refl)
  restarts-by Running (Acked resp) n = none-acknowledged (newly_acknowledged s resp)
  restarts-by Running (Naked why resp) n = none-acknowledged (newly_acknowledged s resp)
  restarts-by Running (Data resp num m) n = none-data resp num
  restarts-by Running (Maint m) n = refl
  restarts-by Running f n = refl
  restarts-by Maintenance Strt n = refl
  restarts-by Maintenance (Maint m) n = by (has_room l s)
    where
      by : (b : Bool)
          → restarts_told (Some (cond b notice.MaintenanceHandedUp notice.MaintenanceDropped)) ≡ 0
      by true = refl
      by false = refl
  restarts-by Maintenance f n = refl

  pub no-restart : (f : Frame) → (s.state ≡ Running → f ≡ Strt → ⊥)
      → restarts_told (notice_of l s (Good f)) ≡ 0
  unfolding notice_of
  no-restart f n = restarts-by s.state f n

  awake-by : (p : State) → s.state ≡ p → (f : Frame) → (p ≡ Running → f ≡ Strt → ⊥) → p ≢ Halted
      → (on_by p l s (Good f)).state ≢ Halted
  awake-by Halted e f n w = absurd (w refl)
  awake-by IStart e Strt n w = λ z. absurd (cc (z))
  awake-by IStart e Stack n w = λ z. absurd (cc (z))
  awake-by IStart e f n w = λ z. absurd (cc (z, e))
  awake-by AStart e Stack n w = λ z. absurd (cc (z))
  awake-by AStart e Strt n w = λ z. absurd (cc (z, e))
  awake-by AStart e (Acked resp) n w = by (resp == 0)
    where
      by : (b : Bool) → (cond b (after_startup s) s).state ≢ Halted
      by true z = absurd (cc (z))
      by false z = absurd (cc (z, e))
  awake-by AStart e (Data resp num m) n w = by (resp == 0)
    where
      by : (b : Bool) → (cond b (on_data l (after_startup s) resp num m) s).state ≢ Halted
      by true z = absurd (cc (z))
      by false z = absurd (cc (z, e))
  awake-by AStart e f n w = λ z. absurd (cc (z, e))
  awake-by Running e Strt n w = absurd (n refl refl)
  awake-by Running e (Naked why resp) n w = by (is_within s.a resp s.n)
    where
      by : (b : Bool)
          → (cond b
          (record (after_ack s resp)
          { t = next_number (after_ack s resp).a; rep = false; timer = Off }) s).state ≢ Halted
      by true z = absurd (cc (z, e))
      by false z = absurd (cc (z, e))
  awake-by Running e f n w = λ z. absurd (cc (z, e))
  awake-by Maintenance e (Maint m) n w = λ z. absurd (cc (z, e))
  awake-by Maintenance e f n w = λ z. absurd (cc (z, e))

  pub stays-awake : (f : Frame) → (s.state ≡ Running → f ≡ Strt → ⊥) → s.state ≢ Halted
      → (on l s (Good f)).state ≢ Halted
  unfolding on
  stays-awake f n w = awake-by s.state refl f n w
