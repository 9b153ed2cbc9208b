-- The machine values of a pointer and an allocator, and what they own. Assumes `Logic`.
use Rattle.std.proofs.Common.{◌≡◌, ℕ, List, [], ◌∷◌, refl, lit<}
use mathlib.Core.Bool.{true, ◌&&◌}
use lib.Dec.{T}
use seplogic.Ra.Ura.{Ura}
use mir.Syntax.{impl, tnil, ty_ptr}
use mir.Raw.{raw as bare}
use mir.Val.{Val, has_ty, WT}
use base.Logic.{never_e, via, snd∗, guard_i}
use base.Fml.{ftrue}
use base.Fraction.{full_share}
use types.Logic.{Logic, sem}
use types.Kit.{Item, Goal, Seq, ‵, given, ◌$◌, drop, use1, learn}
use contract.Monad.{fact_use}
use denote.RattleType.{RattleType}
use denote.Memory.{lone}
use denote.RawPtr.{Ptr, block_ptr, null_ptr, ptr_val, Testable, lies_at}
use denote.Param.{layout}
use Rattle.std.proofs.alloc.Calls.{Al}
use Rattle.std.proofs.cell.Inside.{Good}
use Rattle.std.specs.Prelude.{Option, Some, None}
use Rattle.std.specs.Box.Ownership.{box_owns}
use Rattle.std.specs.declared.alloc.Global.{Global}
use Rattle.std.specs.contracts.alloc.Global as heap
use Rattle.std.proofs.alloc.Global.TheLaws as heap_laws
use Rattle.std.specs.contracts.impls.GlobalAllocator.TheImpl.{ghosts}
use Rattle.std.proofs.GlobalToken.{dealloc_token-Testable}
use Rattle.std.proofs.ResultValues.{and_tt}
use Rattle.ddcmp_c.specs.Owned.{null_or_box}
use Rattle.ddcmp_c.proofs.LooseValues.{both}

abbrev pub Z : RattleType
Z = heap.the_row

abbrev pub al : Al
al =
    record {
      row = Z;
      laws = heap_laws.the_row_laws;
      g = ghosts;
      d = impl [] tnil mir.Syntax.dnil;
      drops = impl [] tnil mir.Syntax.dnil;
    }

pub ptr_good : (p : Ptr) → T (has_ty ty_ptr (ptr_val p)) × WT (ptr_val p)
ptr_good (block_ptr b o) = (tt, tt)
ptr_good null_ptr = (tt, record { fits = lit< tt })

pub handle_good : (p : Ptr) (h : Val) → Good (layout Z) h
    → T (has_ty ty_ptr (ptr_val p) && (has_ty (layout Z) h && true)) × WT (both (ptr_val p) h)
handle_good (block_ptr b o) h fits = (and_tt (has_ty (layout Z) h) fits.0, (tt, (fits.1, tt)))
handle_good null_ptr h fits =
    (and_tt (has_ty (layout Z) h) fits.0, (record { fits = lit< tt }, (fits.1, tt)))

module _ (R : RattleType) where
  abbrev pub boxed : Global → Ptr → R.Denot → base.Fml.Fml
  boxed a p x = box_owns (ghosts.dealloc_token a) R p x

  module _ {M : Type 1} {𝓤 : Ura M} {𝓛 : Logic 𝓤} {K : Type 0} {Γ : List (Item 𝓤)} {G : Goal 𝓤 𝓛.H}
    where
      -- a handle has nothing, or a box with a value
      pub either : K → (a : Global) (p : Ptr) (s : Option R.Denot)
          → (p ≡ null_ptr → s ≡ None → Seq K 𝓛 Γ G)
          → ((b o : ℕ) (x : R.Denot) → p ≡ block_ptr b o → s ≡ Some x → Testable (block_ptr b o)
          → Seq K 𝓛 (‵ (boxed a (block_ptr b o) x) ∷ Γ) G)
          → Seq K 𝓛 (‵ (null_or_box R a p s) ∷ Γ) G
      either t a null_ptr None none one = drop t $ none refl refl
      either t a null_ptr (Some x) none one =
          use1 𝓛 (given ⊥ (‵ ftrue)) (never_e 𝓤 _) $ learn t (λ z. absurd z)
      either t a (block_ptr b o) None none one =
          use1 𝓛 (given ⊥ (‵ ftrue)) (never_e 𝓤 _) $ learn t (λ z. absurd z)
      either t a (block_ptr b o) (Some x) none one =
          let p : Ptr = block_ptr b o in
          use1 𝓛 (given (Testable p) (‵ (boxed a p x)))
          (fact_use 𝓤 (Testable p)
          (via 𝓤 _
          (snd∗ 𝓤 (sem 𝓛 (lies_at R full_share p x))
          (sem 𝓛 (ghosts.dealloc_token a (bare (lone R.mir)) p)))
          (dealloc_token-Testable 𝓛 a (bare (lone R.mir)) p))
          (guard_i 𝓤 (Testable p) (sem 𝓛 (boxed a p x)))) $
          learn t (λ e. one b o x refl refl e)
