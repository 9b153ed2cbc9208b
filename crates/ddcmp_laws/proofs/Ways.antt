-- What is in flight to an end: it arrives piece after piece, and each frame that the other end
-- writes goes after it.
use Rattle.std.proofs.Common.{◌≡◌, ℕ, zero, suc, ◌+◌, ◌≤◌, List, [], ◌∷◌, ◌++◌, length, sym, ap}
use Rattle.std.proofs.Common.{◌∙◌, subst, arith, append_assoc}
use Rattle.std.specs.List.{All}
use Rattle.std.proofs.lemmas.List.Elements.{All-append}
use Rattle.std.proofs.lemmas.List.Sums.{sum_by-append, sum_by-cons}
use Rattle.ddcmp_frame.specs.declared.item.Item.TheVariants as item
use Rattle.ddcmp_frame.specs.Reading.{ReadItem, open_at_end}
use Rattle.ddcmp_frame.proofs.FrameLaws.{whole-items, whole-closed}
use Rattle.ddcmp_core.specs.Frames.{header_of, message_of}
use Rattle.ddcmp_laws.proofs.Early.{resp-byte}
use Rattle.ddcmp_core.specs.Core.{CoreView, IsSound, IsReceivable}
use Rattle.ddcmp_core.specs.NextFrame.{SentFor, sends_strt, sends_stack, sends_nak, sends_rep}
use Rattle.ddcmp_core.specs.NextFrame.{sends_data, sends_ack, sends_maint, halted_idles}
use Rattle.ddcmp_core.specs.NextFrame.{starting_idles, running_idles, maintenance_idles}
use Rattle.ddcmp_core.specs.Table.{Limits, StationState, Frame, Good, Next, Idle, Sends}
use Rattle.ddcmp_core.specs.Table.{before_next, next}
use Rattle.ddcmp_core.proofs.Sent.{sending}
use Rattle.ddcmp_core.proofs.Sound.{sound_on}
use Rattle.ddcmp_core.proofs.StartLaws.{read_sent}
use Rattle.ddcmp_proto.specs.Bytes.{received_of, after_item, after_items, after_piece, items_added}
use Rattle.ddcmp_proto.specs.Bytes.{frame_on_line}
use Rattle.ddcmp_proto.proofs.FeedLaws.{items_added-is, items_added-append, after_piece-limits}
use Rattle.ddcmp_pair.specs.Run.{EndState, after_arrival_here}
use Rattle.ddcmp_laws.specs.LossFree.{ComesWhole}
use Rattle.ddcmp_laws.specs.Price.{price_of_frame, price_of_received, price_of_items}
use Rattle.ddcmp_laws.specs.Price.{price_of_station, price_of_end}
use Rattle.ddcmp_laws.proofs.Prices.{brings}

abbrev pub Receivable : Limits → List ReadItem → Type 0
Receivable l given = All (λ (g : ReadItem). IsReceivable l (received_of g)) given

-- ---- items come

record Came (w : ℕ) (given rest : List ReadItem) (k : CoreView) : Type 0 where
  price : price_of_station w (after_items given k).station
      ≤ price_of_station w k.station + price_of_items w given
  sound : IsSound (after_items given k).limits (after_items given k).station
  behind : Receivable k.limits rest

came : (w : ℕ) (given rest : List ReadItem) (k : CoreView) → k.limits.window ≤ w
    → Receivable k.limits (given ++ rest) → IsSound k.limits k.station → Came w given rest k
unfolding after_items
came w [] rest k hw all h = record { price = omega arith; sound = h; behind = all }
came w (g ∷ given) rest k hw all h =
    let first : IsReceivable k.limits (received_of g) = all 0 g (omega arith) in
    let b = brings w k.limits k.station (received_of g) hw first h in
    let c =
    came w given rest (after_item g k) hw (λ i d below. all (suc i) d (omega (arith, below)))
    (sound_on k.limits k.station (received_of g) first h) in
    let p = c.price in
    let n = sum_by-cons (λ z. price_of_received w (received_of z)) g given in
    let falls : price_of_station w (after_items given (after_item g k)).station
    ≤ price_of_station w k.station + price_of_items w (g ∷ given) = omega (arith, b, p, n) in
    record { price = falls; sound = c.sound; behind = c.behind }

-- ---- a piece arrives

pub record Arrived (w : ℕ) (x : EndState) (piece rest : List ℕ) : Type 0 where
  pub price : price_of_end w (after_arrival_here piece x) rest ≤ price_of_end w x (piece ++ rest)
  pub sound : IsSound (after_arrival_here piece x).core.limits
      (after_arrival_here piece x).core.station
  pub whole : ComesWhole (after_arrival_here piece x) rest

pub arrives : (w : ℕ) (x : EndState) (piece rest : List ℕ) → x.core.limits.window ≤ w
    → IsSound x.core.limits x.core.station → ComesWhole x (piece ++ rest) → Arrived w x piece rest
arrives w x piece rest hw h c =
    let l = x.core.limits in
    let split = items_added-append l.longest x.arrived piece rest in
    let same = after_piece-limits x.arrived piece x.core in
    let first = items_added l.longest x.arrived piece in
    let later = items_added l.longest (x.arrived ++ piece) rest in
    let k = came w first later x.core hw (subst (Receivable l) split c.receivable) h in
    let p = k.price in
    let n = sum_by-append (λ g. price_of_received w (received_of g)) first later in
    let whole : price_of_items w (items_added l.longest x.arrived (piece ++ rest))
    ≡ price_of_items w first + price_of_items w later = ap (price_of_items w) split ∙ n in
    let left : price_of_items w
    (items_added (after_piece x.arrived piece x.core).limits.longest (x.arrived ++ piece) rest)
    ≡ price_of_items w later =
    ap (λ (m : Limits). price_of_items w (items_added m.longest (x.arrived ++ piece) rest)) same in
    record {
      price = omega (arith, p, whole, left);
      sound = k.sound;
      whole = record {
        closed = ap (λ (m : Limits). open_at_end m.longest ((x.arrived ++ piece) ++ rest)) same
            ∙ ap (open_at_end l.longest) (append_assoc x.arrived piece rest) ∙ c.closed;
        receivable =
            subst (λ (m : Limits). Receivable m (items_added m.longest (x.arrived ++ piece) rest))
            (sym same) k.behind;
      };
    }

-- ---- a frame is written

-- a frame that is sent is in the range of what an end of the same lengths receives
abbrev InRange : Limits → Next → Type 0
InRange m Idle = Unit {0}
InRange m (Sends f u) = IsReceivable m (Good f)

in_range : (l m : Limits) (s : StationState) → l.longest ≡ m.longest → IsSound l s → (z : Next)
    → SentFor s z → InRange m z
in_range l m s same h _ (sends_strt e d) = tt
in_range l m s same h _ (sends_stack e d) = tt
in_range l m s same h _ (sends_nak why e r) = resp-byte s h.r_byte
in_range l m s same h _ (sends_rep e r f) = tt
in_range l m s same h _ (sends_data e r f place) =
    let g = h.out_stored.lengths (before_next s) place in
    (resp-byte s h.r_byte, h.in_window.t_byte, g.0, omega (arith, g.1, same))
in_range l m s same h _ (sends_ack e r f place) = resp-byte s h.r_byte
in_range l m s same h _ (sends_maint message rest e o) =
    let g = h.out_stored.lengths 0 (omega (arith, ap length o)) in
    let g' = rw o at g in
    (g'.0, omega (arith, g'.1, same))
in_range l m s same h _ (halted_idles e) = tt
in_range l m s same h _ (starting_idles e d) = tt
in_range l m s same h _ (running_idles e r f place) = tt
in_range l m s same h _ (maintenance_idles e o) = tt

one : (l : Limits) (g : ReadItem) → IsReceivable l (received_of g) → Receivable l (g ∷ [])
one l g e zero d h = e
one l g e (suc i) d h = absurd (omega (arith, h))

pub record Written (w : ℕ) (y : EndState) (way bytes : List ℕ) (f : Frame) : Type 0 where
  pub price : price_of_end w y (way ++ bytes) ≡ price_of_end w y way + price_of_frame w f
  pub whole : ComesWhole y (way ++ bytes)

-- a frame goes after what is in flight
pub written : (w : ℕ) (l : Limits) (s u : StationState) (f : Frame) (syn : ℕ) → IsSound l s
    → next s ≡ Sends f u → (y : EndState) → l.longest ≡ y.core.limits.longest
    → (way : List ℕ) → ComesWhole y way → Written w y way (frame_on_line syn f) f
written w l s u f syn h e y same way c =
    let r = read_sent l s f u h e in
    let m = y.core.limits in
    let text = y.arrived ++ way in
    let bytes = frame_on_line syn f in
    let g : ReadItem = (item.Good (length text + syn) (header_of f), message_of f) in
    let fits : length (message_of f) ≤ m.longest = omega (arith, r.3, same) in
    let one_more =
    whole-items m.longest text (message_of f) syn (header_of f) c.closed r.2 r.1 fits in
    let closed =
    whole-closed m.longest text (message_of f) syn (header_of f) c.closed r.2 r.1 fits in
    let added =
    items_added-append m.longest y.arrived way bytes
    ∙ ap (λ z. items_added m.longest y.arrived way ++ z)
    (items_added-is m.longest text bytes (g ∷ []) one_more) in
    let n =
    sum_by-append (λ z. price_of_received w (received_of z))
    (items_added m.longest y.arrived way) (g ∷ []) in
    let whole = ap (price_of_items w) added ∙ n in
    let last : price_of_received w (received_of g) ≡ price_of_frame w f =
    ap (price_of_frame w) r.0 in
    let range : IsReceivable m (Good f) =
    subst (InRange m) e (in_range l m s same h (next s) (sending s)) in
    let range' : IsReceivable m (received_of g) =
    subst (λ z. IsReceivable m (Good z)) (sym r.0) range in
    record {
      price = omega (arith, whole, last);
      whole = record {
        closed = ap (open_at_end m.longest) (sym (append_assoc y.arrived way bytes)) ∙ closed;
        receivable =
            subst (Receivable m) (sym added)
            (All-append (λ (z : ReadItem). IsReceivable m (received_of z))
            (items_added m.longest y.arrived way) (g ∷ []) c.receivable (one m g range'));
      };
    }
