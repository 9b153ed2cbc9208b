-- Parts of an input that are dropped once the run is over.
use Rattle.std.proofs.Common.{◌≡◌, ◌∙◌, ◌≤◌, ◌<◌, ◌+◌, ◌-◌, ℕ, zero, suc, refl, ap, sym, subst}
use Rattle.std.proofs.Common.{arith, length}
use Rattle.std.proofs.Common.{List, [], ◌∷◌, ◌++◌, take, drop, take-add, take_all, length-drop}
use Rattle.std.proofs.Common.{Option, Some, None, option_to_list}
use Rattle.ddcmp_input.specs.declared.entry.Entry.{Entry}
use Rattle.ddcmp_input.specs.declared.entry.Entry.TheVariants as entry
use Rattle.ddcmp_input.proofs.LengthsLaws as length_laws
use Rattle.ddcmp_input.proofs.HexLinesLaws as line_laws
use Rattle.ddcmp_input.proofs.RecordsLaws as record_laws
use Rattle.ddcmp_input.proofs.CommandLinesLaws as command_laws
use Rattle.ddcmp_streams.specs.declared.messages.Messages.{Messages}
use Rattle.ddcmp_streams.specs.declared.messages.Messages.TheVariants.{Digits, Binary, Events}
use Rattle.ddcmp_streams.specs.declared.messages.Messages.TheVariants.{EventLines}
use Rattle.ddcmp_streams.specs.Messages.{after_input, count_of, entries_of_input}
use Rattle.ddcmp_streams.specs.Messages.{messages_among}
use Rattle.ddcmp_session.specs.Session.{SessionView, lost_among}
use Rattle.ddcmp_session.proofs.InputLaws.{no-entries, nothing-read}

-- ---- messages among entries

among-more : (xs ys : List Entry)
    → messages_among (xs ++ ys) ≡ messages_among xs + messages_among ys
unfolding messages_among
among-more [] ys = omega arith
among-more (x ∷ xs) ys =
    let more = among-more xs ys in
    omega (arith, more)

among-one : (entry : Option Entry) → messages_among (option_to_list entry) ≡ count_of entry
unfolding messages_among
among-one None = refl
among-one (Some entry) = omega arith

-- ---- an input in two parts

pub read-more : (xs ys : List ℕ) (m : Messages)
    → after_input (xs ++ ys) m ≡ after_input ys (after_input xs m)
read-more xs ys (Digits v) = ap (λ x. Digits x) (line_laws.after_more xs ys v)
read-more xs ys (Binary v) = ap (λ x. Binary x) (length_laws.after_more xs ys v)
read-more xs ys (Events v) = ap (λ x. Events x) (record_laws.after_more xs ys v)
read-more xs ys (EventLines v) = ap (λ x. EventLines x) (command_laws.after_more xs ys v)

pub entries-more : (xs ys : List ℕ) (m : Messages)
    → entries_of_input (xs ++ ys) m
    ≡ entries_of_input xs m ++ entries_of_input ys (after_input xs m)
entries-more xs ys (Digits v) = line_laws.entries_of_more xs ys v
entries-more xs ys (Binary v) = length_laws.entries_of_more xs ys v
entries-more xs ys (Events v) = record_laws.entries_of_more xs ys v
entries-more xs ys (EventLines v) = command_laws.entries_of_more xs ys v

-- ---- the parts that were dropped

-- Of these bytes the first `at` were dropped, in so many parts, and so many messages with them.
pub record Dropped (bytes : List ℕ) (old : SessionView) (n at lost : ℕ) (now : SessionView)
    : Type 0 where
  pub most : at ≤ length bytes
  pub parts : n ≤ at
  pub few : lost ≤ n
  pub count : lost ≡ lost_among (take at bytes) old
  pub messages : now.messages ≡ after_input (take at bytes) old.messages
  pub stays : now ≡ record old { messages = now.messages; was_refused = now.was_refused }

pub drops-none : (bytes : List ℕ) (s : SessionView) → Dropped bytes s 0 0 0 s
unfolding messages_among
drops-none bytes s = record {
  most = omega arith;
  parts = omega arith;
  few = omega arith;
  count = ap messages_among (sym (no-entries s.messages));
  messages = sym (nothing-read s.messages);
  stays = refl;
}

few-messages : (e : Option Entry) → count_of e ≤ 1
few-messages None = omega arith
few-messages (Some entry.Message) = omega arith
few-messages (Some entry.NotHexadecimal) = omega arith
few-messages (Some entry.TooLong) = omega arith
few-messages (Some entry.Empty) = omega arith
few-messages (Some entry.Command) = omega arith

-- A part is one byte at least.
some : (used : ℕ) (rest : List ℕ) (entry : Option Entry) (m : Messages) → 0 < length rest
    → (entry ≡ None → used ≡ length rest)
    → entries_of_input (take used rest) m ≡ option_to_list entry → 1 ≤ used
some used rest None m more whole entries = let all = whole refl in omega (arith, all, more)
some zero rest (Some e) m more whole entries =
    let bad : [] ≡ e ∷ [] = sym (no-entries m) ∙ entries in cc
some (suc n) rest (Some e) m more whole entries = omega arith

-- one part more
module _ (bytes : List ℕ) (old b v : SessionView) (parts at lost used : ℕ) (entry : Option Entry)
    (m : Messages) where
  pub drops-more : (new : SessionView) → Dropped bytes old parts at lost b → v ≡ b
      → 0 < length (drop at bytes) → used ≤ length (drop at bytes)
      → (entry ≡ None → used ≡ length (drop at bytes))
      → entries_of_input (take used (drop at bytes)) v.messages ≡ option_to_list entry
      → m ≡ after_input (take used (drop at bytes)) v.messages
      → new ≡ record v { messages = m; was_refused = new.was_refused }
      → Dropped bytes old (parts + 1) (at + used) (lost + count_of entry) new
  drops-more new d view more most whole entries state is =
      let one = some used (drop at bytes) entry v.messages more whole entries in
      let few = few-messages entry in
      let rest = length-drop at bytes in
      let was : v.messages ≡ after_input (take at bytes) old.messages =
      ap (λ (s : SessionView). s.messages) view ∙ d.messages in
      let two : take (at + used) bytes ≡ take at bytes ++ take used (drop at bytes) =
      take-add at used bytes in
      record {
        most = omega (arith, most, rest, d.most);
        parts = omega (arith, one, d.parts);
        few = omega (arith, few, d.few);
        count =
            ap (λ n. n + count_of entry) d.count
            ∙ ap (λ n. lost_among (take at bytes) old + n)
            (sym (among-one entry) ∙ ap messages_among (sym entries))
            ∙ ap (λ k. lost_among (take at bytes) old
            + messages_among (entries_of_input (take used (drop at bytes)) k)) was
            ∙ sym (among-more (entries_of_input (take at bytes) old.messages)
            (entries_of_input (take used (drop at bytes))
            (after_input (take at bytes) old.messages)))
            ∙ ap messages_among
            (sym (entries-more (take at bytes) (take used (drop at bytes)) old.messages))
            ∙ ap (λ xs. lost_among xs old) (sym two);
        messages =
            ap (λ (s : SessionView). s.messages) is
            ∙ state
            ∙ ap (after_input (take used (drop at bytes))) was
            ∙ sym (read-more (take at bytes) (take used (drop at bytes)) old.messages)
            ∙ ap (λ xs. after_input xs old.messages) (sym two);
        stays =
            is
            ∙ ap (λ k. record v { messages = k; was_refused = new.was_refused })
            (sym (ap (λ (s : SessionView). s.messages) is))
            ∙ ap (λ (s : SessionView). record s {
              messages = new.messages;
              was_refused = new.was_refused;
            }) (view ∙ d.stays);
      }

-- the same of bytes that are those from there on
module _ (bytes : List ℕ) (old b v : SessionView) (parts at lost used : ℕ) (entry : Option Entry)
    (m : Messages) (new : SessionView) (d : Dropped bytes old parts at lost b) (view : v ≡ b) where
  Part : List ℕ → Type 0
  Part rest =
      0 < length rest → used ≤ length rest → (entry ≡ None → used ≡ length rest)
      → entries_of_input (take used rest) v.messages ≡ option_to_list entry
      → m ≡ after_input (take used rest) v.messages
      → new ≡ record v { messages = m; was_refused = new.was_refused }
      → Dropped bytes old (parts + 1) (at + used) (lost + count_of entry) new

  pub drops-part : at < length bytes → used ≤ length (take (length bytes - at) (drop at bytes))
      → (entry ≡ None → used ≡ length (take (length bytes - at) (drop at bytes)))
      → entries_of_input (take used (take (length bytes - at) (drop at bytes))) v.messages
      ≡ option_to_list entry
      → m ≡ after_input (take used (take (length bytes - at) (drop at bytes))) v.messages
      → new ≡ record v { messages = m; was_refused = new.was_refused }
      → Dropped bytes old (parts + 1) (at + used) (lost + count_of entry) new
  unfolding Part
  drops-part more =
      let left = length-drop at bytes in
      let whole = take_all (length bytes - at) (drop at bytes) (omega (arith, left)) in
      let some : 0 < length (take (length bytes - at) (drop at bytes)) =
      omega (arith, more, left, ap length whole) in
      subst Part (sym whole)
      (drops-more bytes old b v parts at lost used entry m new d view) some

-- At the end of the bytes all were dropped.
pub all-dropped : (bytes : List ℕ) (old now : SessionView) (n at lost : ℕ)
    → Dropped bytes old n at lost now → length bytes ≤ at
    → (lost ≡ lost_among bytes old) × (now.messages ≡ after_input bytes old.messages)
all-dropped bytes old now n at lost d end =
    let all = take_all at bytes end in (
      d.count ∙ ap (λ xs. lost_among xs old) all,
      d.messages ∙ ap (λ xs. after_input xs old.messages) all,
    )
