-- A test that a run stays clear.
use Rattle.std.proofs.Common.{◌≡◌, ◌<◌, ℕ, Bool, true, false, cond, List, [], ◌∷◌, length, refl}
use Rattle.std.proofs.Common.{arith}
use Rattle.std.specs.Prelude.{◌&&◌, ◌==◌, nat_lt}
use Rattle.ddcmp_frame.specs.Reading.{ReadItem}
use Rattle.ddcmp_core.specs.Core.{CoreView}
use Rattle.ddcmp_core.specs.Table.{Data, Acked, Naked, Rep, Strt, Stack, Maint, Received, Good}
use Rattle.ddcmp_core.specs.Table.{BadHeader, BadData, TooLong, BadFormat}
use Rattle.ddcmp_proto.specs.Bytes.{received_of, after_item, items_added}
use Rattle.ddcmp_pair.specs.declared.event.Event.{Event}
use Rattle.ddcmp_pair.specs.declared.event.Event.TheVariants as event
use Rattle.ddcmp_pair.specs.Run.{PairState, at, after_event}
use Rattle.ddcmp_laws.specs.Faithful.{written, IsFaithful}
use Rattle.ddcmp_laws.specs.Prefix.{Begins}
use Rattle.ddcmp_laws.specs.Clear.{IsMessage, FindRoom, FindsRoom, StaysClear}

both : (a b : Bool) → (a && b) ≡ true → (a ≡ true) × (b ≡ true)
both true b e = (refl, e)
both false b e = absurd (cc e)

unfoldable pub begins : List ℕ → List ℕ → Bool
begins [] text = true
begins (x ∷ front) [] = false
begins (x ∷ front) (y ∷ text) = x == y && begins front text

begins_by : (front text : List ℕ) → begins front text ≡ true → Begins front text
unfolding begins
begins_by [] text e = (text, refl)
begins_by (x ∷ front) [] e = absurd (cc e)
begins_by (x ∷ front) (y ∷ text) e =
    let t = both (x == y) (begins front text) e in
    let same : x ≡ y = (let z = t.0 in grind (arith)) in
    let rest = begins_by front text t.1 in
    (rest.0, λ i. same i ∷ rest.1 i)

abbrev is_message : Received → Bool
is_message (Good (Data resp num message)) = true
is_message _ = false

abbrev has_room : CoreView → Bool
has_room k = nat_lt (length k.station.inbox) k.limits.room

has_room_by : (k : CoreView) → has_room k ≡ true → length k.station.inbox < k.limits.room
has_room_by k e = grind (arith)

unfoldable pub find_room : List ReadItem → CoreView → Bool
find_room [] k = true
find_room (given ∷ rest) k =
    cond (is_message (received_of given)) (has_room k) true && find_room rest (after_item given k)

message_finds : (h : Received) (b : Bool) → cond (is_message h) b true ≡ true → IsMessage h
    → b ≡ true
message_finds (Good (Data resp num message)) b e m = e
message_finds (Good (Acked resp)) b e m = absurd m
message_finds (Good (Naked why resp)) b e m = absurd m
message_finds (Good (Rep num)) b e m = absurd m
message_finds (Good Strt) b e m = absurd m
message_finds (Good Stack) b e m = absurd m
message_finds (Good (Maint message)) b e m = absurd m
message_finds BadHeader b e m = absurd m
message_finds (BadData c) b e m = absurd m
message_finds (TooLong c) b e m = absurd m
message_finds BadFormat b e m = absurd m

find_room_by : (its : List ReadItem) (k : CoreView) → find_room its k ≡ true → FindRoom its k
unfolding find_room
find_room_by [] k e = tt
find_room_by (given ∷ rest) k e =
    let t = both (cond (is_message (received_of given)) (has_room k) true)
    (find_room rest (after_item given k)) e in (
      λ m. has_room_by k (message_finds (received_of given) (has_room k) t.0 m),
      find_room_by rest (after_item given k) t.1,
    )

unfoldable pub finds_room : Event → PairState → Bool
finds_room (event.Arrive e bytes) p =
    find_room (items_added (at e p).core.limits.longest (at e p).arrived bytes) (at e p).core
finds_room _ p = true

finds_room_by : (e : Event) (p : PairState) → finds_room e p ≡ true → FindsRoom e p
unfolding finds_room
finds_room_by (event.Arrive end bytes) p e = find_room_by _ _ e
finds_room_by (event.Start end) p e = tt
finds_room_by (event.Halt end) p e = tt
finds_room_by (event.Send end message) p e = tt
finds_room_by (event.Poll end) p e = tt
finds_room_by (event.Expire end) p e = tt
finds_room_by (event.Take end) p e = tt
finds_room_by event.Clear p e = tt

unfoldable pub is_faithful : PairState → Bool
is_faithful p = begins p.a.arrived (written p.b) && begins p.b.arrived (written p.a)

faithful_by : (p : PairState) → is_faithful p ≡ true → IsFaithful p
unfolding is_faithful
faithful_by p e =
    let t = both _ _ e in
    record {
      to_a = begins_by p.a.arrived (written p.b) t.0;
      to_b = begins_by p.b.arrived (written p.a) t.1;
    }

unfoldable pub stays_clear : List Event → PairState → Bool
stays_clear [] p = true
stays_clear (event.Halt e ∷ rest) p = false
stays_clear (e ∷ rest) p =
    finds_room e p && (is_faithful (after_event e p) && stays_clear rest (after_event e p))

stays_more : (e : Event) (rest : List Event) (p : PairState)
    → (finds_room e p && (is_faithful (after_event e p) && stays_clear rest (after_event e p)))
    ≡ true
    → (stays_clear rest (after_event e p) ≡ true → StaysClear rest (after_event e p))
    → FindsRoom e p × IsFaithful (after_event e p) × StaysClear rest (after_event e p)
stays_more e rest p t more =
    let k =
    both (finds_room e p) (is_faithful (after_event e p) && stays_clear rest (after_event e p)) t in
    let j = both (is_faithful (after_event e p)) (stays_clear rest (after_event e p)) k.1 in
    (finds_room_by e p k.0, faithful_by (after_event e p) j.0, more j.1)

pub stays_by : (events : List Event) (p : PairState) → stays_clear events p ≡ true
    → StaysClear events p
unfolding stays_clear
stays_by [] p e = tt
stays_by (event.Halt end ∷ rest) p e = absurd (cc e)
stays_by (event.Start end ∷ rest) p e =
    stays_more (event.Start end) rest p e (stays_by rest (after_event (event.Start end) p))
stays_by (event.Send end message ∷ rest) p e =
    stays_more (event.Send end message) rest p e
    (stays_by rest (after_event (event.Send end message) p))
stays_by (event.Poll end ∷ rest) p e =
    stays_more (event.Poll end) rest p e (stays_by rest (after_event (event.Poll end) p))
stays_by (event.Arrive end bytes ∷ rest) p e =
    stays_more (event.Arrive end bytes) rest p e
    (stays_by rest (after_event (event.Arrive end bytes) p))
stays_by (event.Expire end ∷ rest) p e =
    stays_more (event.Expire end) rest p e (stays_by rest (after_event (event.Expire end) p))
stays_by (event.Take end ∷ rest) p e =
    stays_more (event.Take end) rest p e (stays_by rest (after_event (event.Take end) p))
stays_by (event.Clear ∷ rest) p e =
    stays_more event.Clear rest p e (stays_by rest (after_event event.Clear p))
