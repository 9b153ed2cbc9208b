-- What further bytes add to what was reported.
use Rattle.std.proofs.Common.{◌≡◌, ℕ, ◌+◌, List, [], ◌∷◌, ◌++◌, length, drop, sym, ◌∙◌, ap, subst}
use Rattle.std.proofs.Common.{append_assoc, length-append, Option}
use Rattle.std.proofs.lemmas.List.{append-nil}
use Rattle.std.proofs.Math.Seq.{drop-append_seam}
use Rattle.std.proofs.lemmas.Grind.{flat_map-append}
use Rattle.ddcmp_io.specs.Written.{HandsOver, Output}
use Rattle.ddcmp_io.proofs.TextLaws.{sends-as, sends-nothing}
use Rattle.ddcmp_io.proofs.WrittenLaws.{sends-then}
use Rattle.ddcmp_frame.specs.Reader.{ReaderView, StandsFor}
use Rattle.ddcmp_frame.specs.Reading.{ReadItem, items}
use Rattle.ddcmp_log.specs.declared.notation.LogNotation.{LogNotation}
use Rattle.ddcmp_log.specs.declared.side.Side.{Side}
use Rattle.ddcmp_log.specs.declared.side.Stamp.{Stamp}
use Rattle.ddcmp_log.specs.Inside.Telling.{Tells}
use Rattle.ddcmp_log.specs.Items.{HasTold}
use Rattle.ddcmp_log.specs.Logged.{items_added, logged_line, logged_lines}

-- the items that were counted and those that bytes add
pub counts : (frames new : ReaderView) (count after : ℕ) (told more : List ℕ)
    (given : List ReadItem)
    → HasTold frames count told → StandsFor new (told ++ more) → new.max ≡ frames.max
    → items frames.max (told ++ more) ≡ items frames.max told ++ given
    → after ≡ count + length given
    → HasTold new after (told ++ more)
counts frames new count after told more given h s m e n = record {
  stands = s;
  counted =
      n ∙ ap (λ k. k + length given) h.counted ∙ sym (length-append (items frames.max told) given)
      ∙ ap length (sym e) ∙ ap (λ k. length (items k (told ++ more))) (sym m);
}

module _ (notation : LogNotation) (side : Side) (max : ℕ) (stamp : Option Stamp) where
  pub tells-nothing : (told : List ℕ) (at : Output) → Tells notation side max stamp told [] at at
  unfolding logged_lines
  tells-nothing told at = record {
    given = [];
    adds = ap (items max) (append-nil told) ∙ sym (append-nil (items max told));
    puts = sends-nothing at;
  }

  -- bytes that complete no item
  pub tells-none : (told more : List ℕ) (at : Output)
      → items max (told ++ more) ≡ items max told ++ []
      → Tells notation side max stamp told more at at
  unfolding logged_lines
  tells-none told more at e = record { given = []; adds = e; puts = sends-nothing at }

  -- and those that complete one
  pub tells-item : (told more : List ℕ) (given : ReadItem) (old new : Output)
      → items max (told ++ more) ≡ items max told ++ (given ∷ [])
      → HandsOver old new (logged_line notation stamp side given)
      → Tells notation side max stamp told more old new
  unfolding logged_lines
  tells-item told more given old new e puts = record {
    given = given ∷ [];
    adds = e;
    puts = sends-as (sym (append-nil (logged_line notation stamp side given))) puts;
  }

  -- some bytes and then more
  pub tells-then : (told a b : List ℕ) (old mid new : Output)
      → Tells notation side max stamp told a old mid
      → Tells notation side max stamp (told ++ a) b mid new
      → Tells notation side max stamp told (a ++ b) old new
  unfolding logged_lines
  tells-then told a b old mid new p q = record {
    given = p.given ++ q.given;
    adds =
        ap (items max) (sym (append_assoc told a b)) ∙ q.adds ∙ ap (λ t. t ++ q.given) p.adds
        ∙ append_assoc (items max told) p.given q.given;
    puts =
        sends-as (sym (flat_map-append (logged_line notation stamp side) p.given q.given))
        (sends-then p.puts q.puts);
  }

  -- the lines of all items that bytes add
  pub told-added : (told more : List ℕ) (old new : Output)
      → Tells notation side max stamp told more old new
      → HandsOver old new (logged_lines notation stamp side (items_added max told more))
  told-added told more old new t =
      sends-as
      (ap (logged_lines notation stamp side)
      (sym (ap (drop (length (items max told))) t.adds
      ∙ drop-append_seam (items max told) t.given)))
      t.puts

-- the same of a side whose names are others
pub tells-of : (n m : LogNotation) (s t : Side) (a b : ℕ) (stamp : Option Stamp) (told more : List ℕ)
    (old new : Output) → n ≡ m → s ≡ t → a ≡ b
    → Tells n s a stamp told more old new → Tells m t b stamp told more old new
tells-of n m s t a b stamp told more old new en es ea h =
    subst (λ x. Tells x t b stamp told more old new) en
    (subst (λ x. Tells n x b stamp told more old new) es
    (subst (λ x. Tells n s x stamp told more old new) ea h))
