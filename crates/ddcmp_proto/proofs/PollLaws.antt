-- The frame that a station writes.
use Rattle.std.proofs.Common.{◌≡◌, ℕ, ◌+◌, ◌-◌, ◌≤◌, List, [], ◌++◌, length, take, drop, refl, sym}
use Rattle.std.proofs.Common.{◌∙◌, ap, subst, arith, append-nil, length-append, length-drop, Option}
use Rattle.std.proofs.Common.{Some, None}
use Rattle.std.specs.Prelude.{option_map, replicate}
use Rattle.std.proofs.Math.Seq.{take-append_seam, drop-append_seam}
use Rattle.std.proofs.lemmas.List.{length-replicate, length-take, drop-drop, drop_all}
use borrow.Rule.Slice.PartMut.{put_mid}
use Rattle.ddcmp_frame.proofs.Tests.{some-inj}
use Rattle.ddcmp_frame.proofs.WireLaws.{length-wire}
use Rattle.ddcmp_frame.specs.Reader.{frame_length}
use Rattle.ddcmp_frame.specs.declared.header.Header.{Header}
use Rattle.ddcmp_frame.specs.Wire.{wire, IsFrame}
use Rattle.ddcmp_window.specs.Store.{with_front}
use Rattle.ddcmp_core.specs.Table.{Limits, StationState, Frame, Next, Idle, Sends, next, next_frame}
use Rattle.ddcmp_core.specs.Frames.{header_of, message_of, header_and_length}
use Rattle.ddcmp_core.specs.Core.{IsSound}
use Rattle.ddcmp_core.proofs.StartLaws.{read_sent}
use Rattle.ddcmp_proto.specs.Bytes.{data_in, frame_on_line}

-- a header and the front of a buffer are the next frame
pub record IsNext (l : Limits) (s : StationState) (h : Header) (message : List ℕ) : Type 0 where
  pub frame : Frame
  pub sends : next_frame (next s) ≡ Some frame
  pub header : h ≡ header_of frame
  pub data_is : message ≡ message_of frame
  pub fits : IsFrame h message
  pub short : length message ≤ l.longest

abbrev header_or : Header → Option (Header × ℕ) → Header
header_or d None = d
header_or d (Some p) = p.0

abbrev length_or : ℕ → Option (Header × ℕ) → ℕ
length_or d None = d
length_or d (Some p) = p.1

pub next_is : (l : Limits) (s : StationState) (h : Header) (n : ℕ) (old new : List ℕ) → IsSound l s
    → Some (h, n) ≡ option_map header_and_length (next_frame (next s))
    → new ≡ with_front (option_map message_of (next_frame (next s))) old
    → IsNext l s h (take n new)
next_is l s h n old new sound e w = by (next s) refl e w
  where
    by : (t : Next) → next s ≡ t → Some (h, n) ≡ option_map header_and_length (next_frame t)
        → new ≡ with_front (option_map message_of (next_frame t)) old → IsNext l s h (take n new)
    by Idle t p q = absurd (cc p)
    by (Sends f u) t p q =
        let k = read_sent l s f u sound t in
        let e0 : h ≡ header_of f = ap (header_or h) p in
        let e1 : n ≡ length (message_of f) = ap (length_or n) p in
        let front : take n new ≡ message_of f =
        ap (λ x. take x new) e1 ∙ ap (take (length (message_of f))) q
        ∙ take-append_seam (message_of f) _ in
        record {
          frame = f;
          sends = ap next_frame t;
          header = e0;
          data_is = front;
          fits =
              subst (λ x. IsFrame x (take n new)) (sym e0)
              (subst (IsFrame (header_of f)) (sym front) k.1);
          short = subst (λ m. length m ≤ l.longest) (sym front) k.3;
        }

-- what was there from n bytes on
after-front : (o : Option (List ℕ)) (m old new : List ℕ) → o ≡ Some m → new ≡ with_front o old
    → new ≡ m ++ drop (length m) old
after-front o m old new e w = w ∙ ap (λ x. with_front x old) e

-- the message was put where it goes in the frame
pub record Placed (syn n : ℕ) (old mid m : List ℕ) : Type 0 where
  pub data_is : data_in syn n mid ≡ m
  pub long : length mid ≡ length old
  pub back : (r : ℕ) → syn + 8 + length m ≤ r → drop r mid ≡ drop r old

put-behind : (a : ℕ) (xs ys : List ℕ) → put_mid a (length xs - a) xs ys ≡ take a xs ++ ys
put-behind a xs ys =
    let none : drop (length xs - a) (drop a xs) ≡ [] =
    drop_all (length xs - a) (drop a xs) (omega (arith, length-drop a xs)) in
    rw (none, append-nil ys) refl

pub placed : (l : Limits) (s : StationState) (h : Header) (syn n : ℕ) (old part new : List ℕ)
    → syn + 8 ≤ length old → part ≡ drop (syn + 8) old → length new ≡ length part
    → IsNext l s h (take n new)
    → new ≡ with_front (option_map message_of (next_frame (next s))) part
    → Placed syn n old (put_mid (syn + 8) (length old - (syn + 8)) old new) (take n new)
placed l s h syn n old part new room p long k w =
    let a = syn + 8 in
    let m = take n new in
    let mid = put_mid a (length old - a) old new in
    let is : mid ≡ take a old ++ new = put-behind a old new in
    let la : length (take a old) ≡ a = omega (arith, length-take a old) in
    let rest : drop a mid ≡ new =
    ap (drop a) is ∙ ap (λ i. drop i (take a old ++ new)) (sym la)
    ∙ drop-append_seam (take a old) new in
    let sent : option_map message_of (next_frame (next s)) ≡ Some m =
    ap (option_map message_of) k.sends ∙ ap Some (sym k.data_is) in
    let front : new ≡ m ++ drop (length m) (drop a old) =
    after-front _ m part new sent w ∙ ap (λ x. m ++ drop (length m) x) p in
    record {
      data_is = ap (take n) (drop-drop 8 syn mid ∙ rest);
      long = ap length is ∙ omega (
        arith,
        length-append (take a old) new,
        la,
        long,
        ap length p,
        length-drop a old,
      );
      back = λ r more.
          let b = r - a - length m in
          let e : r ≡ a + length m + b = omega arith in
          let up : (t : List ℕ) → drop r t ≡ drop b (drop (length m) (drop a t)) = λ t.
          ap (λ i. drop i t) e ∙ sym (drop-drop b (a + length m) t)
          ∙ ap (drop b) (sym (drop-drop (length m) a t)) in
          up mid ∙ ap (λ t. drop b (drop (length m) t)) (rest ∙ front)
          ∙ ap (drop b) (drop-append_seam m (drop (length m) (drop a old))) ∙ sym (up old);
    }

-- so its bytes are those of the next frame
pub line_is : (l : Limits) (s : StationState) (h : Header) (message : List ℕ) (syn : ℕ)
    → IsNext l s h message
    → Some (replicate syn 150 ++ wire h message)
    ≡ option_map (frame_on_line syn) (next_frame (next s))
line_is l s h message syn k =
    ap (λ m. Some (replicate syn 150 ++ wire h m)) k.data_is
    ∙ ap (λ x. Some (replicate syn 150 ++ wire x (message_of k.frame))) k.header
    ∙ sym (ap (option_map (frame_on_line syn)) k.sends)

-- how many bytes it has on the line, by its header alone
pub length_is : (l : Limits) (s : StationState) (syn : ℕ) (h : Header) → IsSound l s
    → Some h ≡ option_map header_of (next_frame (next s))
    → Some (syn + frame_length h)
    ≡ option_map length (option_map (frame_on_line syn) (next_frame (next s)))
length_is l s syn h sound e = by (next s) refl e
  where
    by : (t : Next) → next s ≡ t → Some h ≡ option_map header_of (next_frame t)
        → Some (syn + frame_length h)
        ≡ option_map length (option_map (frame_on_line syn) (next_frame t))
    by Idle t p = absurd (cc p)
    by (Sends f u) t p =
        let k = read_sent l s f u sound t in
        let same : h ≡ header_of f = some-inj p in
        let w = length-wire (header_of f) (message_of f) k.1 in
        let r = length-replicate {A = ℕ} syn 150 in
        let line : syn + frame_length (header_of f) ≡ length (frame_on_line syn f) =
        omega
        (arith, length-append (replicate syn 150) (wire (header_of f) (message_of f)), w, r) in
        ap (λ x. Some (syn + frame_length x)) same ∙ ap Some line

-- none has none
pub no_length : (s : StationState) (syn : ℕ) → None ≡ option_map header_of (next_frame (next s))
    → None ≡ option_map length (option_map (frame_on_line syn) (next_frame (next s)))
no_length s syn e = by (next s) e
  where
    by : (t : Next) → None ≡ option_map header_of (next_frame t)
        → None ≡ option_map length (option_map (frame_on_line syn) (next_frame t))
    by Idle p = refl
    by (Sends f u) p = absurd (cc p)
