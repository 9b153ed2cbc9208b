-- Frames in flight, with the positions and the counts that their numbers stand for.
use Rattle.std.proofs.Common.{◌≡◌, ℕ, zero, suc, ◌<◌, List, [], ◌∷◌, ◌++◌, length, Some, refl, sym}
use Rattle.std.proofs.Common.{ap, ◌∙◌, arith, append_assoc}
use Rattle.std.specs.Prelude.{slice_get, slice_index_or}
use Rattle.ddcmp_core.specs.Table.{Frame}
use Rattle.ddcmp_pair.specs.Link.{IsReached, link_of}
use Rattle.ddcmp_pair.proofs.Reached.{reached-lose-forward, reached-lose-back}
use Rattle.ddcmp_pair.proofs.Relation.{Wire, no_wire, wire_data, wire_ack, wire_nak, wire_rep}
use Rattle.ddcmp_pair.proofs.Relation.{wire_strt, wire_stack}

get-more : (xs : List (List ℕ)) (k : ℕ) (m y : List ℕ) → slice_get xs k ≡ Some m
    → slice_get (xs ++ y ∷ []) k ≡ Some m
get-more [] k m y e = absurd (cc)
get-more (x ∷ xs) zero m y e = e
get-more (x ∷ xs) (suc k) m y e = get-more xs k m y e

pub get-index : (xs : List (List ℕ)) (k : ℕ) (m : List ℕ) → slice_get xs k ≡ Some m
    → slice_index_or xs k [] ≡ m
get-index [] k m e = absurd (cc)
get-index (x ∷ xs) zero m e = cc
get-index (x ∷ xs) (suc k) m e = get-index xs k m e

pub get-at : (xs : List (List ℕ)) (k : ℕ) → k < length xs
    → slice_get xs k ≡ Some (slice_index_or xs k [])
get-at [] k h = absurd (omega arith)
get-at (x ∷ xs) zero h = refl
get-at (x ∷ xs) (suc k) h = get-at xs k (omega arith)

-- one more message is given
pub wire-more : {given : List (List ℕ)} {fs : List Frame} {ks qs : List ℕ} (m : List ℕ)
    → Wire given fs ks qs → Wire (given ++ m ∷ []) fs ks qs
wire-more m no_wire = no_wire
wire-more {given} m (wire_data {k = k} {message = message} e n a w) =
    wire_data e n (get-more given k message m a) (wire-more m w)
wire-more m (wire_ack e w) = wire_ack e (wire-more m w)
wire-more m (wire_nak e w) = wire_nak e (wire-more m w)
wire-more m (wire_rep w) = wire_rep (wire-more m w)
wire-more m (wire_strt w) = wire_strt (wire-more m w)
wire-more m (wire_stack w) = wire_stack (wire-more m w)

-- frames after others
pub wire-append : {given : List (List ℕ)} {fs fs' : List Frame} {ks qs ks' qs' : List ℕ}
    → Wire given fs ks qs → Wire given fs' ks' qs'
    → Wire given (fs ++ fs') (ks ++ ks') (qs ++ qs')
wire-append no_wire v = v
wire-append (wire_data e n a w) v = wire_data e n a (wire-append w v)
wire-append (wire_ack e w) v = wire_ack e (wire-append w v)
wire-append (wire_nak e w) v = wire_nak e (wire-append w v)
wire-append (wire_rep w) v = wire_rep (wire-append w v)
wire-append (wire_strt w) v = wire_strt (wire-append w v)
wire-append (wire_stack w) v = wire_stack (wire-append w v)

-- what is left after the frames that are lost
pub record Behind (given : List (List ℕ)) (fs : List Frame) (ks qs : List ℕ) : Type 0 where
  pub lost_ks : List ℕ
  pub rest_ks : List ℕ
  pub lost_qs : List ℕ
  pub rest_qs : List ℕ
  pub ks_are : ks ≡ lost_ks ++ rest_ks
  pub qs_are : qs ≡ lost_qs ++ rest_qs
  pub wire : Wire given fs rest_ks rest_qs

-- the first frame, and what is left after it
pub record First (given : List (List ℕ)) (f : Frame) (fs : List Frame) (ks qs : List ℕ)
    : Type 0 where
  pub first_ks : List ℕ
  pub rest_ks : List ℕ
  pub first_qs : List ℕ
  pub rest_qs : List ℕ
  pub ks_are : ks ≡ first_ks ++ rest_ks
  pub qs_are : qs ≡ first_qs ++ rest_qs
  pub first : Wire given (f ∷ []) first_ks first_qs
  pub wire : Wire given fs rest_ks rest_qs

pub wire-first : {given : List (List ℕ)} {f : Frame} {fs : List Frame} {ks qs : List ℕ}
    → Wire given (f ∷ fs) ks qs → First given f fs ks qs
wire-first (wire_data {k = k} {q = q} {ks = ks} {qs = qs} e n a w) =
    record {
      first_ks = suc k ∷ [];
      rest_ks = ks;
      first_qs = q ∷ [];
      rest_qs = qs;
      ks_are = refl;
      qs_are = refl;
      first = wire_data {k = k} e n a no_wire;
      wire = w;
    }
wire-first (wire_ack {q = q} {ks = ks} {qs = qs} e w) =
    record {
      first_ks = [];
      rest_ks = ks;
      first_qs = q ∷ [];
      rest_qs = qs;
      ks_are = refl;
      qs_are = refl;
      first = wire_ack e no_wire;
      wire = w;
    }
wire-first (wire_nak {q = q} {ks = ks} {qs = qs} e w) =
    record {
      first_ks = [];
      rest_ks = ks;
      first_qs = q ∷ [];
      rest_qs = qs;
      ks_are = refl;
      qs_are = refl;
      first = wire_nak e no_wire;
      wire = w;
    }
wire-first (wire_rep {ks = ks} {qs = qs} w) =
    record {
      first_ks = [];
      rest_ks = ks;
      first_qs = [];
      rest_qs = qs;
      ks_are = refl;
      qs_are = refl;
      first = wire_rep no_wire;
      wire = w;
    }
wire-first (wire_strt {ks = ks} {qs = qs} w) =
    record {
      first_ks = [];
      rest_ks = ks;
      first_qs = [];
      rest_qs = qs;
      ks_are = refl;
      qs_are = refl;
      first = wire_strt no_wire;
      wire = w;
    }
wire-first (wire_stack {ks = ks} {qs = qs} w) =
    record {
      first_ks = [];
      rest_ks = ks;
      first_qs = [];
      rest_qs = qs;
      ks_are = refl;
      qs_are = refl;
      first = wire_stack no_wire;
      wire = w;
    }

pub wire-behind : {given : List (List ℕ)} (lost fs : List Frame) {ks qs : List ℕ}
    → Wire given (lost ++ fs) ks qs → Behind given fs ks qs
wire-behind [] fs {ks = ks} {qs = qs} w =
    record {
      lost_ks = [];
      rest_ks = ks;
      lost_qs = [];
      rest_qs = qs;
      ks_are = refl;
      qs_are = refl;
      wire = w;
    }
wire-behind (f ∷ lost) fs w =
    let t = wire-first w in
    let b = wire-behind lost fs t.wire in
    record {
      lost_ks = t.first_ks ++ b.lost_ks;
      rest_ks = b.rest_ks;
      lost_qs = t.first_qs ++ b.lost_qs;
      rest_qs = b.rest_qs;
      ks_are =
          t.ks_are ∙ ap (λ l. t.first_ks ++ l) b.ks_are
          ∙ sym (append_assoc t.first_ks b.lost_ks b.rest_ks);
      qs_are =
          t.qs_are ∙ ap (λ l. t.first_qs ++ l) b.qs_are
          ∙ sym (append_assoc t.first_qs b.lost_qs b.rest_qs);
      wire = b.wire;
    }

-- ---- several are lost

pub reached-lose-forwards : (w : ℕ) (given : List (List ℕ)) (acked sent : ℕ) (up : List (List ℕ))
    (lost forward back : List ℕ)
    → IsReached w (link_of given acked sent up (lost ++ forward) back)
    → IsReached w (link_of given acked sent up forward back)
reached-lose-forwards w given acked sent up [] forward back r = r
reached-lose-forwards w given acked sent up (k ∷ lost) forward back r =
    reached-lose-forwards w given acked sent up lost forward back
    (reached-lose-forward w given acked sent up (lost ++ forward) back k r)

pub reached-lose-backs : (w : ℕ) (given : List (List ℕ)) (acked sent : ℕ) (up : List (List ℕ))
    (forward lost back : List ℕ)
    → IsReached w (link_of given acked sent up forward (lost ++ back))
    → IsReached w (link_of given acked sent up forward back)
reached-lose-backs w given acked sent up forward [] back r = r
reached-lose-backs w given acked sent up forward (q ∷ lost) back r =
    reached-lose-backs w given acked sent up forward lost back
    (reached-lose-back w given acked sent up forward (lost ++ back) q r)
