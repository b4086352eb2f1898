-- `dvg_free` makes a box of what lies behind the pointer, and drops it.
use Rattle.dvg_c.proofs.Steps.{[], ◌∷◌, refl, ap, Val, vunit, proved, full_share, id⊢, ftrue, flft, tables, ‵, raw, ◌⊛◌, some, later, prop, ◌$◌, ◌∵◌, !, qed, done, drop, move, keep, use1, split, join, fjoin, feq_i, feq_l, pick, await, suffices, group, regoal, enter, of_opd, unit_lit, no_more, and_then, returns, alloc_all, pass_all, free_all, look_at, get, sets, lands_as, yes, nowhere, boxed, heap_goes, statics, outlives, Ptr, RawPtr, block_ptr, in_a_block, rawptr_vals, rawptr_Tells, plain, nothing, owned, only, on_entry, calls_at, ensured, triple_of, Stays, walk_of, stay_dropped, Goes-dropped, ends_at, framed, unit}
use mathlib.Core.List.{List, ◌++◌}
use mir.Val.{vptr}
use prog.Wp.{WpFn}
use denote.Laws.{Is}
use denote.Struct.Laws.{val, vals, tells, makes}
use Rattle.std.specs.contracts.alloc.Global as heap
use Rattle.std.proofs.alloc.Global.TheLaws as heap_laws
use Rattle.std.proofs.BoxSteps.Form.{B, D, word, box_typed}
use Rattle.std.proofs.BoxSteps.Steps.{box_out, box_in}
use Rattle.std.specs.contracts.boxed.Box.from_raw as from
use Rattle.std.proofs.boxed.Box.from_raw.Met as from_met
use Rattle.std.proofs.impls.GlobalAllocator.TheImpl.Met.{passed as heap_met}
use Rattle.dvg_c.specs.Owning.{owned as has}
use Rattle.dvg_c.specs.contracts.dvg_free as f
use Rattle.dvg_c.proofs.dvg_free.Statement.{statement}
use Rattle.dvg_c.proofs.dvg_free.Code as code
use Rattle.dvg_c.specs.contracts.freed as g
use Rattle.dvg_c.proofs.freed.Met.{met}

abbrev stayed : Stays f.ended.signature.params f.ended.kept
stayed = (stay_dropped _ yes, (stay_dropped _ yes, tt))

pub dvg_free_spec : {M : Type 1} → statement M
dvg_free_spec {M = M} 𝓤 𝓛 𝓜 𝓡 wired =
    let c = f.clauses 𝓛 𝓜.mem 𝓡.returns in let W = walk_of 𝓛 f.ended stayed c in let 𝓣 = tables 𝓤 𝓛.H 𝓜 𝓡 𝓡.env in
    let E = boxed in let Z = E.al in
    proved 𝓛 f.ended stayed c 𝓜 𝓡 (Goes-dropped 𝓛 0 (plain (λ _. heap.the_row)) yes (λ κs x w. refl), (Goes-dropped 𝓛 0 (plain (λ _. RawPtr)) yes (λ κs x w. refl), tt))
    f.Key.name code.function (code.unfolded 𝓤 𝓛.H 𝓜 𝓡 wired)
    (λ κs. (vals heap.the_type heap_laws.the_laws, (rawptr_vals, tt))) (λ κs. (tells heap.the_type heap_laws.the_laws, (rawptr_Tells, tt))) (λ κs qs bounds a n are.
    let alloc = a.0 in let hv : Val = val heap.the_type heap_laws.the_laws alloc in
    let y : Ptr → W.Ghost = λ p. ((κs, qs, bounds, (alloc, (p, tt)), (hv ∷ [], (rawptr_vals p, tt))), n) in
    qed 𝓛 (raw (on_entry 𝓛 f.signature κs qs a (y a.1.0).0.4) ∷ ‵ (has a.1.0 n) ∷ []) ∵ drop ! $
    in_a_block ! a.1.0 (λ p. has p n) (nowhere 𝓛 n) (λ b o e.
    regoal ! (λ p. prop (WpFn 𝓤 𝓛.H 𝓣.C 𝓣.Λ code.function ((hv ∷ []) ++ (rawptr_vals p ++ [])) (W.post (y p)))) e refl $
    enter ! _ _ _ _ _ $ alloc_all ! (λ l. pass_all ! refl ((tt, ((tt, tt), tt)), ((tt, tt), tt)) $
    sets ! (of_opd ! (get ! refl)) refl (tt, tt) $
    -- [the device, with the right to free; the locals]
    let F = triple_of 𝓛 (from.signature E.row Z.row Z.g Z.d Z.drops) (from.spec E.row Z.row Z.g Z.d Z.drops 𝓛 𝓜.mem 𝓡.returns) in
    let toks = ‵ (flft [] full_share) ⊛ ‵ (flft [] full_share) ⊛ ‵ ftrue in
    let z : F.Ghost = ((([], ([], tt)), (full_share, (full_share, tt)), tt, (alloc, (block_ptr b o, tt)), (hv ∷ [], (vptr b o ∷ [], tt))), n) in
    outlives ! $ nothing ! $ feq_i ! (List Val) (vptr b o ∷ []) (vptr b o ∷ []) refl $ fjoin ! $
    owned ! heap.the_row (Is heap.the_row) (makes heap.the_type heap_laws.the_plain 𝓛) alloc (hv ∷ []) are.0 $ fjoin ! $ statics ! $
    join ! $ join ! $ use1 𝓛 (raw (F.pre z)) (id⊢ 𝓤 _) $
    calls_at ! (framed 𝓤 𝓛.H 𝓜 𝓣) F (from_met.met 𝓤 𝓛 𝓜 𝓡 (code.calls-std_alloc::boxed::Box::from_raw 𝓡.env wired) E.row Z.row E.laws Z.laws Z.g Z.d Z.drops
    (heap_met 𝓡.env (code.calls-std_heap::GlobalAllocator::allocate 𝓡.env wired) (code.calls-std_heap::GlobalAllocator::deallocate 𝓡.env wired) (code.calls-std_heap::GlobalAllocator::grow 𝓡.env wired) (code.calls-std_heap::GlobalAllocator::shrink 𝓡.env wired) M 𝓤 𝓛 𝓜 𝓡)
    (heap_goes 𝓡.env (code.calls-dvg_c::Destruct++none::drop 𝓡.env wired) M 𝓤 𝓛 𝓜 𝓡)) z
    (and_then ! (get ! refl) (and_then ! (get ! refl) (no_more !))) (λ v.
    use1 𝓛 (later (some (λ (x : D E). (toks ⊛ ‵ ((B E).own_val x (v ∷ []))) ⊛ raw (ensured 𝓛 (from.ended E.row Z.row Z.g Z.d Z.drops) (from.clauses E.row Z.row Z.g Z.d Z.drops 𝓛 𝓜.mem 𝓡.returns) z.0.0 z.0.3 n x)))) (id⊢ 𝓤 _) $
    await ! tt $ pick ! (λ x. split ! $ split ! $ drop ! $
    box_out E ! x (v ∷ []) (λ b' o' hw at is fits. box_in E ! x b' o' x.value at refl $ lands_as ! (ap only is) refl (box_typed E hw b' o' fits) $
    -- [the box; what is said of it; the locals]
    let G = triple_of 𝓛 g.signature (g.spec 𝓛 𝓜.mem 𝓡.returns) in let z₂ : G.Ghost = ((tt, tt, tt, (x, tt), (word E hw b' o' ∷ [], tt)), tt) in
    nothing ! $ move ! (1 ∷ 0 ∷ []) $ fjoin ! $ nothing ! $ join ! $ nothing ! $ move ! (1 ∷ 0 ∷ []) $ join ! $ use1 𝓛 (raw (G.pre z₂)) (id⊢ 𝓤 _) $
    calls_at ! (framed 𝓤 𝓛.H 𝓜 𝓣) G (met 𝓤 𝓛 𝓜 𝓡 (code.calls-dvg_c::freed 𝓡.env wired)) z₂ (and_then ! (get ! refl) (no_more !)) (λ u.
    use1 𝓛 (later (some (λ (r : Unit {0}). (‵ ftrue ⊛ ‵ (unit.own_val r (u ∷ []))) ⊛ raw (ensured 𝓛 g.ended (g.clauses 𝓛 𝓜.mem 𝓡.returns) tt (x, tt) tt r)))) (id⊢ 𝓤 _) $
    await ! tt $ pick ! (λ r. split ! $ split ! $ drop ! $ feq_l ! (λ is_unit. lands_as ! (ap only is_unit) refl (tt, tt) $
    sets ! (of_opd ! (unit_lit !)) refl (tt, tt) $ returns ! (look_at ! 0 refl) $ free_all ! refl $
    suffices ! _ (ends_at 𝓛 f.ended stayed c (y (block_ptr b o)) vunit tt (tt, (tt, tt)) (tt, (tt, tt))) $
    keep ! [] $ nothing ! $ feq_i ! _ (vunit ∷ []) _ refl $ nothing ! $ nothing ! $ join ! $ nothing ! $ join ! $ nothing ! $ group ! 3 $ done !)))))))))
