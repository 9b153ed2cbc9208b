-- Numbers of an honest and clean run are positions of its links.
use Rattle.std.proofs.Common.{◌≡◌, ℕ, suc, ◌-◌, ◌<◌, true, List, [], ◌∷◌, map, length, refl, sym}
use Rattle.std.proofs.Common.{ap, ◌∙◌, arith, Some, None}
use Rattle.std.specs.Prelude.{slice_get, slice_index_or}
use Rattle.ddcmp_core.specs.Table.{Frame}
use Rattle.ddcmp_proto.specs.Config.{first_refusal}
use Rattle.ddcmp_proto.specs.declared.config.Config.{Config}
use Rattle.ddcmp_pair.specs.declared.event.Event.{Event}
use Rattle.ddcmp_pair.specs.Link.{message_at}
use Rattle.ddcmp_pair.specs.Run.{EndState, PairState, run, new_pair, is_clean}
use Rattle.ddcmp_pair.proofs.Wires.{get-index}
use Rattle.ddcmp_pair.proofs.Relation.{Face, face, up, Wire, no_wire, wire_data, wire_ack, wire_nak}
use Rattle.ddcmp_pair.proofs.Relation.{wire_rep, wire_strt, wire_stack, Counts, Stands, not_begun}
use Rattle.ddcmp_pair.proofs.Relation.{begun}
use Rattle.ddcmp_pair.proofs.Linked.{Linked, linked-turned}
use Rattle.ddcmp_pair.proofs.Ordered.{run-holds, run-of}
use Rattle.ddcmp_laws.specs.Positions.{nums_in, messages_in, resps_in, bytes_of_numbers}
use Rattle.ddcmp_laws.specs.Positions.{IsNumberedLink}

-- ---- frames in flight

record Carries (given : List (List ℕ)) (fs : List Frame) (ks qs : List ℕ) : Type 0 where
  nums : nums_in fs ≡ bytes_of_numbers ks
  messages : messages_in fs ≡ map (λ k. message_at k given) ks
  resps : resps_in fs ≡ bytes_of_numbers qs

position_message : (given : List (List ℕ)) (k : ℕ) (message : List ℕ)
    → slice_get given k ≡ Some message
    → message ≡ message_at (suc k) given
position_message given k message e =
    let same : suc k - 1 ≡ k = omega arith in
    sym (get-index given k message e) ∙ ap (λ i. slice_index_or given i []) (sym same)

carries : (given : List (List ℕ)) {fs : List Frame} {ks qs : List ℕ} → Wire given fs ks qs
    → Carries given fs ks qs
carries given no_wire = record { nums = refl; messages = refl; resps = refl }
carries given (wire_data {k = k} {message = message} e n a w) =
    let c = carries given w in
    let m = position_message given k message a in
    record {
      nums = (λ i. n i ∷ c.nums i);
      messages = (λ i. m i ∷ c.messages i);
      resps = (λ i. e i ∷ c.resps i);
    }
carries given (wire_ack e w) =
    let c = carries given w in
    record { nums = c.nums; messages = c.messages; resps = (λ i. e i ∷ c.resps i) }
carries given (wire_nak e w) =
    let c = carries given w in
    record { nums = c.nums; messages = c.messages; resps = (λ i. e i ∷ c.resps i) }
carries given (wire_rep w) =
    let c = carries given w in record { nums = c.nums; messages = c.messages; resps = c.resps }
carries given (wire_strt w) =
    let c = carries given w in record { nums = c.nums; messages = c.messages; resps = c.resps }
carries given (wire_stack w) =
    let c = carries given w in record { nums = c.nums; messages = c.messages; resps = c.resps }

-- ---- an end that began

counted : (x : Face) (sent next : ℕ) → 0 < x.starts → Stands x sent next
    → Counts x.station x.limits.window x.given x.acknowledged sent next (length (up x))
counted x sent next s (not_begun z h g u) = absurd (omega (arith, s, z))
counted x sent next s (begun z c f) = c

numbered : (x y : EndState) → Linked x y → IsNumberedLink x y
numbered x y l =
    let f = l.related.fits in
    let fore = carries x.given f.wire in
    let aft = carries y.given f.wire' in
    record {
      sent = f.sent;
      next = f.next;
      forward = f.forward;
      back = f.back;
      is_reached = f.reached;
      giving =
          λ s. (let c = counted (face x) f.sent f.next s f.stands in
          record {
            n = c.n_is;
            t = c.t_is;
            a = c.a_is;
            kept = c.out_is;
            next_low = c.t_low;
            next_high = c.t_high;
          });
      r = λ s. (counted (face y) f.sent' f.next' s f.stands').r_is;
      there = l.there;
      there_is = l.there_is;
      nums = fore.nums;
      messages = fore.messages;
      here = l.here;
      here_is = l.here_is;
      resps = aft.resps;
    }

pub numbers_are_positions : (first second : Config) (events : List Event)
    → first_refusal first ≡ None
    → first_refusal second ≡ None
    → (run events (new_pair first second)).honest ≡ true
    → is_clean (run events (new_pair first second)) ≡ true
    → IsNumberedLink (run events (new_pair first second)).a (run events (new_pair first second)).b
    × IsNumberedLink (run events (new_pair first second)).b
    (run events (new_pair first second)).a
numbers_are_positions first second events f g honest clean =
    let p : PairState = run events (new_pair first second) in
    let l = (run-holds p (run-of first second events f g)).linked honest clean in
    (numbered p.a p.b l, numbered p.b p.a (linked-turned p.a p.b l))
