-- `seal` puts the station of a `Loose` behind the pointer.
use Rattle.std.proofs.Common.{◌≡◌, List, [], ◌∷◌, ◌++◌, refl, sym, subst}
use mir.Val.{Val}
use base.Logic.{SProp, ent, emp, id⊢}
use base.Fml.{ftrue}
use prog.Wp.{WpFn}
use types.Kit.{‵, raw, ◌⊛◌, ◌$◌, ◌∵◌, !, qed, by, move, keep, split, fsplit, fjoin, suffices, use0}
use types.Run.{stop, fld, of_opd, no_more, and_then, returns, enter}
use types.ByLocal.{alloc_all, pass_all, free_all, look_at, get, get_in, sets}
use types.Part.{agg, sub, whole}
use contract.Monad.{fact, fact_i}
use contract.Running.{tables}
use denote.Exit.{yes}
use denote.RattleType.{owns}
use denote.Signature.{types_at, plain}
use denote.RawPtr.{block_ptr, ptr_val}
use denote.Steps.{nothing}
use denote.Triple.Walked.{Stays, stay_dropped, walk_of}
use Rattle.std.proofs.alloc.Calls.{Goes-blank}
use Rattle.std.proofs.raw_atomic.Walks.{proved_at, leaves}
use Rattle.std.specs.Prelude.{Option, Some}
use Rattle.ddcmp_proto.specs.Station.{StationView}
use Rattle.ddcmp_c.proofs.LooseValues.{both, Loose, loose_out}
use Rattle.std.specs.contracts.impls.GlobalAllocator.TheImpl.{ghosts}
use Rattle.std.proofs.alloc.Global.TheLaws as heap_laws
use Rattle.ddcmp_c.proofs.OwnedValues.{Z, handle_good}
use Rattle.ddcmp_c.proofs.HandleValues.{R, handle_in}
use Rattle.ddcmp_c.specs.contracts.handle.Handle.seal.{ended, clauses}
use Rattle.ddcmp_c.specs.contracts.handle.Handle.seal.Key.{name as #self}
use Rattle.ddcmp_c.proofs.handle.Handle.seal.Statement.{statement}
use Rattle.ddcmp_c.proofs.handle.Handle.seal.Code as code

abbrev Same : Option StationView → Option StationView → Type 0
Same s t = s ≡ t

pub seal_spec : {M : Type 1} → statement M
seal_spec 𝓤 𝓛 𝓜 𝓡 wired =
    let H' = 𝓛.H in let L = Loose R Z heap_laws.the_row_laws ghosts in
    let 𝓣 = tables 𝓤 H' 𝓜 𝓡 𝓡.env in let c = clauses 𝓛 𝓜.mem 𝓡.returns in let fn = code.function in
    let hs : Stays ended.signature.params ended.kept = (stay_dropped (plain (λ _. L)) yes, tt) in
    proved_at 𝓛 ended hs c 𝓜 𝓡 (Goes-blank 𝓛 0 (plain (λ _. L)) yes (λ κs x f. tt), tt) #self fn
    (code.unfolded 𝓤 H' 𝓜 𝓡 wired) (λ z are.
    let v = z.0.3.0 in let Post : Val → SProp 𝓤 = (walk_of 𝓛 ended hs c).post z in
    let Run : List Val → SProp 𝓤 = λ ws. WpFn 𝓤 H' 𝓣.C 𝓣.Λ fn ws Post in
    qed 𝓛
    ((‵ ftrue ⊛ ‵ (owns (types_at ended.signature.params z.0.0) z.0.3 z.0.4))
    ∷ raw ((c z.0.0 z.0.3).requires z.1) ∷ []) ∵ split ! $ move ! (1 ∷ []) $ fsplit ! $
    loose_out R Z heap_laws.the_row_laws ghosts ! v z.0.4.0
    (λ b o h e ws fits. let w : Val = both (ptr_val (block_ptr b o)) h in
    let typed = handle_good (block_ptr b o) h fits in
    suffices ! (Run (w ∷ []))
    (subst (λ (us : List Val). ent 𝓤 (Run (w ∷ [])) (Run us)) (sym (λ i. ws i ++ []))
    (id⊢ 𝓤 (Run (w ∷ [])))) $
    enter ! 𝓣.C 𝓣.Λ fn (w ∷ []) Post $ alloc_all ! (λ l. pass_all ! refl (typed, tt) $
    sets ! (of_opd ! (get_in ! (fld ! refl (stop !)) (sub ! 0 refl (whole !)))) refl (tt, tt)
    $ sets ! (of_opd ! (get_in ! (fld ! refl (stop !)) (sub ! 1 refl (whole !)))) refl fits $
    sets ! (of_opd ! (get ! refl)) refl (tt, tt)
    $ sets ! (agg ! (and_then ! (get ! refl) (and_then ! (get ! refl) (no_more !)))) refl typed
    $
    handle_in ! (block_ptr b o) h v.alloc (Some v.value)
    $ use0 𝓛 (raw (fact 𝓤 (Same (Some v.value) (Some v.value))))
    (fact_i 𝓤 (Same (Some v.value) (Some v.value)) (emp 𝓤) refl) $ nothing ! $ nothing !
    $ fjoin ! $
    returns ! (look_at ! 0 refl) $ free_all ! refl $ keep ! (4 ∷ 0 ∷ 2 ∷ 1 ∷ [])
    $ by !
    (leaves 𝓛 ended hs c z w
    (record { at = block_ptr b o; alloc = v.alloc; station = Some v.value }) (tt, tt)
    (tt, tt)))))
