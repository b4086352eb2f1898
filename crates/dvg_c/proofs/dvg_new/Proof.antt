-- `dvg_new` takes the box apart, and writes its pointer where C looks for it.
use Rattle.dvg_c.proofs.Steps.{ℕ, List, [], ◌∷◌, ◌≡◌, refl, sym, ap, ◌∙◌, lit<, Val, vint, MutBor, proved, full_share, id⊢, ftrue, flft, fact, named, tables, ‵, raw, ◌⊛◌, some, later, at_ret, Sq, prop, ◌$◌, ◌∵◌, !, qed, drop, move, keep, use0, use1, split, join, fsplit3, fjoin, feq_i, feq_l, pick, await, rewrite, enter, of_opd, lit, stop, fld, store, first, exec, no_more, and_then, assigns, returns, alloc_all, pass_all, free_all, look_at, get, through, sets, lands_as, env, yes, nowhere, boxed, heap_goes, device_goes, gone, statics, outlives, boxed_or_none, Ptr, RawPtr, block_ptr, in_a_block, MutRef, mut_vals, mut_Tells, plain, nothing, owned, heard, opens, closes, only, calls_at, lasts, uint_Makes, triple_of, Stays, walk_of, stay_dropped, Goes-dropped, stay_ref, Goes-ref, framed}
use native.Mathlib.Nat.{suc-ne-zero}
use Rattle.std.proofs.Common.{◌<◌, ◌^◌}
use Rattle.std.proofs.ResultValues.{and_tt}
use mir.Syntax.{w32}
use mir.Val.{vptr}
use base.Logic.{SProp, emp, sep, ex, ex_i, via}
use seplogic.Bi.Basic.{or-intro_l, or-intro_r}
use contract.Monad.{fact_i}
use types.Logic.{sem}
use types.Kit.{split3, by}
use types.ByLocal.{get_in, get_tag, sets_last}
use types.Match.{vrt, in_variant}
use types.Part.{whole}
use types.Run.{switches}
use denote.Builtin.{u32}
use denote.Laws.{Is}
use denote.Memory.{cell_at}
use denote.RawPtr.{ptr_val}
use denote.Struct.Laws.{val, vals, tells}
use denote.Triple.Clauses.{Lasts, at_exit}
use Rattle.std.specs.Prelude.{Option, IfSome}
use Rattle.std.specs.contracts.alloc.Global as heap
use Rattle.std.specs.contracts.option.Option as option
use Rattle.std.proofs.alloc.Global.TheLaws as heap_laws
use Rattle.std.proofs.BoxSteps.Form.{B, D, word, box_typed}
use Rattle.std.specs.contracts.boxed.Box.into_raw as into
use Rattle.std.proofs.boxed.Box.into_raw.Met as into_met
use Rattle.std.proofs.impls.GlobalAllocator.TheImpl.Met.{passed as heap_met}
use Rattle.std.proofs.raw_atomic.Walks.{leaves}
use Rattle.dvg_c.specs.Owning.{owned as has}
use Rattle.dvg_c.specs.contracts.dvg_new as f
use Rattle.dvg_c.proofs.dvg_new.Statement.{statement}
use Rattle.dvg_c.proofs.dvg_new.Code as code
use Rattle.dvg_c.proofs.dvg_new.Code.{calls-dvg_c::dvg_device++device++Device+Destruct::drop as calls-drop}
use Rattle.dvg_c.specs.contracts.made as g
use Rattle.dvg_c.proofs.made.Met.{met}
use Rattle.dvg_c.specs.Owning.{IsNew}
use Rattle.dvg_device.specs.Devices.{Held}

abbrev stayed : Stays f.ended.signature.params f.ended.kept
stayed = (stay_dropped _ yes, (stay_ref (0 ∷ []) tt (plain (λ _. RawPtr)), tt))

pub dvg_new_spec : {M : Type 1} → statement M
dvg_new_spec {M = M} 𝓤 𝓛 𝓜 𝓡 wired =
    let c = f.clauses 𝓛 𝓜.mem 𝓡.returns in let W = walk_of 𝓛 f.ended stayed c in let 𝓣 = tables 𝓤 𝓛.H 𝓜 𝓡 𝓡.env in
    let E = boxed in let Z = E.al in
    proved 𝓛 f.ended stayed c 𝓜 𝓡 (Goes-dropped 𝓛 1 (plain (λ _. heap.the_row)) yes (λ κs x w. refl), (Goes-ref 𝓛 1 0 tt (plain (λ _. RawPtr)), tt))
    f.Key.name code.function (code.unfolded 𝓤 𝓛.H 𝓜 𝓡 wired)
    (λ κs. (vals heap.the_type heap_laws.the_laws, (mut_vals, tt))) (λ κs. (tells heap.the_type heap_laws.the_laws, (mut_Tells (named 0) κs.0 RawPtr, tt))) (λ κs qs bounds a _ are.
    let alloc = a.0 in let hv : Val = val heap.the_type heap_laws.the_laws alloc in
    let r : MutBor Ptr = a.1.0 in let b = r.ref_ptr.0 in let o = r.ref_ptr.1 in let Ref = λ (x : MutBor Ptr). (MutRef (named 0) κs.0 RawPtr).own_val x (mut_vals r) in
    let y : W.Ghost = ((κs, qs, bounds, a, (hv ∷ [], (mut_vals r, tt))), tt) in
    let At : Ptr → Lasts f.ended κs a = λ w. (tt, (w, tt)) in let Said : ℕ → Ptr → SProp 𝓤 = λ n w. (c κs a).ensures tt n (at_exit f.ended κs a (At w)) in
    let New : Ptr → SProp 𝓤 = λ p. ex 𝓤 (λ (d : Held). sep 𝓤 (fact 𝓤 (IsNew d)) (sem 𝓛 (has p d))) in let Is_0 : ℕ → SProp 𝓤 = λ n. fact 𝓤 (n ≡ 0) in
    let Refused : ℕ → Ptr → SProp 𝓤 = λ n p. fact 𝓤 ((n ≡ 2) × (p ≡ r.now)) in
    let out : (n : ℕ) → n < 2 ^ 32 → (w : Ptr) → Sq 𝓛 (raw (Said n w) ∷ ‵ (Ref (record r { now = w })) ∷ ‵ (flft κs.0 qs.0) ∷ []) (prop (W.post y (vint w32 n))) = λ n low w.
    owned ! u32 (Is u32) (uint_Makes 𝓛 w32) n _ (refl, low) $ nothing ! $ move ! (3 ∷ 0 ∷ []) $ fjoin ! $ nothing ! $ fjoin ! $ nothing ! $ move ! (4 ∷ 0 ∷ []) $ join ! $
    by ! (leaves 𝓛 f.ended stayed c y (vint w32 n) n (At w) (tt, (tt, tt))) in
    qed 𝓛 (((‵ (flft κs.0 qs.0) ⊛ ‵ ftrue) ⊛ ‵ (heap.the_row.own_val alloc (hv ∷ [])) ⊛ ‵ (Ref r) ⊛ ‵ ftrue) ∷ ‵ ftrue ∷ []) ∵
    split ! $ split ! $ move ! (2 ∷ []) $ split3 ! $ keep ! (0 ∷ 1 ∷ 3 ∷ []) $
    enter ! _ _ _ _ _ $ alloc_all ! (λ l. pass_all ! refl ((tt, ((tt, tt), tt)), ((tt, tt), tt)) $
    -- [the heap's handle; the reference; the token; the locals]
    let G = triple_of 𝓛 g.signature (g.spec 𝓛 𝓜.mem 𝓡.returns) in let z : G.Ghost = ((tt, tt, tt, (alloc, tt), (hv ∷ [], tt)), tt) in
    nothing ! $ move ! (1 ∷ 0 ∷ []) $ fjoin ! $ nothing ! $ join ! $ nothing ! $ move ! (1 ∷ 0 ∷ []) $ join ! $ use1 𝓛 (raw (G.pre z)) (id⊢ 𝓤 _) $
    calls_at ! (framed 𝓤 𝓛.H 𝓜 𝓣) G (met 𝓤 𝓛 𝓜 𝓡 (code.calls-dvg_c::made 𝓡.env wired)) z (and_then ! (get ! refl) (no_more !)) (λ v.
    use1 𝓛 (later (some (λ (m : Option (D E)). (‵ ftrue ⊛ ‵ ((option.the_row (B E)).own_val m (v ∷ []))) ⊛
    some (λ (ws : Unit {0} × Unit {0}). ‵ (lasts g.ended tt (alloc, tt) ws) ⊛ raw (fact 𝓤 (IfSome m (λ x. IsNew x.value))))))) (id⊢ 𝓤 _) $
    await ! tt $ pick ! (λ m. split ! $ move ! (1 ∷ []) $ pick ! (λ ws. split ! $ drop ! $ heard ! _ (λ new. split ! $ drop ! $
    -- [what `made` answered; the reference; the token; the locals]
    boxed_or_none ! m v new
    (λ x b₁ o₁ h is_new is fits. let w : Val = word E h b₁ o₁ in let typed = box_typed E h b₁ o₁ fits in
    lands_as ! is refl (and_tt _ typed.0, (record { fits = lit< tt }, (typed.1, tt))) $ first ! $
    switches ! (get_tag ! (vrt ! refl (fld ! refl (stop !))) (whole !)) (
      (λ _.
          sets ! (of_opd ! (get_in ! (vrt ! refl (fld ! refl (stop !))) (in_variant ! 1 0 refl refl (whole !)))) refl typed $ sets ! (of_opd ! (get ! refl)) refl typed $
          let F = triple_of 𝓛 (into.signature E.row Z.row Z.g Z.d Z.drops gone) (into.spec E.row Z.row Z.g Z.d Z.drops gone 𝓛 𝓜.mem 𝓡.returns) in
          let z₂ : F.Ghost = ((([], ([], tt)), (full_share, (full_share, tt)), tt, (x, tt), (w ∷ [], tt)), tt) in
          nothing ! $ move ! (1 ∷ 0 ∷ []) $ fjoin ! $ nothing ! $ outlives ! $ move ! (1 ∷ 0 ∷ []) $ statics ! $ join ! $ join ! $ use1 𝓛 (raw (F.pre z₂)) (id⊢ 𝓤 _) $
          calls_at ! (framed 𝓤 𝓛.H 𝓜 𝓣) F (into_met.met 𝓤 𝓛 𝓜 𝓡 (code.calls-std_alloc::boxed::Box::into_raw 𝓡.env wired) E.row Z.row E.laws Z.laws Z.g Z.d Z.drops gone
          (heap_met 𝓡.env (code.calls-std_heap::GlobalAllocator::allocate 𝓡.env wired) (code.calls-std_heap::GlobalAllocator::deallocate 𝓡.env wired) (code.calls-std_heap::GlobalAllocator::grow 𝓡.env wired) (code.calls-std_heap::GlobalAllocator::shrink 𝓡.env wired) M 𝓤 𝓛 𝓜 𝓡)
          (heap_goes 𝓡.env (code.calls-dvg_c::Destruct++none::drop 𝓡.env wired) M 𝓤 𝓛 𝓜 𝓡)
          (device_goes 𝓤 𝓛 𝓜 𝓡 (calls-drop 𝓡.env wired))) z₂ (and_then ! (get ! refl) (no_more !)) (λ u.
          use1 𝓛 (later (some (λ (p : Ptr). ((‵ (flft [] full_share) ⊛ ‵ (flft [] full_share) ⊛ ‵ ftrue) ⊛ ‵ (RawPtr.own_val p (u ∷ []))) ⊛
          some (λ (ws : Lasts (into.ended E.row Z.row Z.g Z.d Z.drops gone) z₂.0.0 z₂.0.3). ‵ (lasts (into.ended E.row Z.row Z.g Z.d Z.drops gone) z₂.0.0 z₂.0.3 ws) ⊛ ‵ (has p x.value))))) (id⊢ 𝓤 _) $
          await ! tt $ pick ! (λ p. split ! $ split ! $ drop ! $ feq_l ! (λ at. pick ! (λ _. split ! $ drop ! $ in_a_block ! p (λ p. has p x.value) (nowhere 𝓛 x.value) (λ b₂ o₂ e. let q = block_ptr b₂ o₂ in
          lands_as ! (ap only at ∙ ap ptr_val e) refl (tt, tt) $ sets ! (of_opd ! (get ! refl)) refl (tt, tt) $
          -- [the device, with the right to free; the reference; the token; the locals]
          move ! (1 ∷ []) $ fsplit3 ! $ move ! (1 ∷ 2 ∷ 4 ∷ []) $ opens ! tt RawPtr b o (λ us. move ! (1 ∷ []) $ feq_l ! (λ held. rewrite ! 0 (λ (ws : List Val). ‵ (cell_at full_share RawPtr.mir ws b o)) held refl $
          assigns ! (of_opd ! (get ! refl)) (through ! refl (stop !)) (store ! 0 refl (tt, tt)) $
          feq_i ! (List Val) (vptr b₂ o₂ ∷ []) (ptr_val q ∷ []) refl $ move ! (1 ∷ 0 ∷ []) $ closes ! tt RawPtr q (vptr b₂ o₂ ∷ []) b o $
          sets_last ! (of_opd ! (lit ! tt)) refl (tt, record { fits = lit< tt }) $ exec ! 𝓣.C 𝓣.Λ (env code.Mir.locals l) code.Mir.t-3 (at_ret _ (W.post y)) $
          sets ! (of_opd ! (get ! refl)) refl (tt, record { fits = lit< tt }) $ returns ! (look_at ! 0 refl) $ free_all ! refl $
          move ! (0 ∷ 1 ∷ []) $ fjoin ! $ move ! (2 ∷ 0 ∷ []) $ fjoin ! $ move ! (2 ∷ []) $
          use0 𝓛 (raw (fact 𝓤 (IsNew x.value))) (fact_i 𝓤 (IsNew x.value) (emp 𝓤) is_new) $ join ! $ use1 𝓛 (raw (New q)) (ex_i 𝓤 (λ (d : Held). sep 𝓤 (fact 𝓤 (IsNew d)) (sem 𝓛 (has q d))) x.value) $
          use0 𝓛 (raw (Is_0 0)) (fact_i 𝓤 (◌≡◌ {A = ℕ} 0 0) (emp 𝓤) refl) $ join ! $ use1 𝓛 (raw (Said 0 q)) (or-intro_l 𝓤.op (Refused 0 q)) $
          out 0 (lit< tt) q)))))))),
      ((λ wrong. absurd (suc-ne-zero 0 wrong)), (λ n. absurd (n.0.1 refl))),
    ))
    (λ is. lands_as ! is refl (tt, (record { fits = lit< tt }, tt)) $ first ! $
    switches ! (get_tag ! (vrt ! refl (fld ! refl (stop !))) (whole !)) (
      (λ wrong. absurd (suc-ne-zero 0 (sym wrong))),
      (
        (λ _.
            sets_last ! (of_opd ! (lit ! tt)) refl (tt, record { fits = lit< tt }) $ exec ! 𝓣.C 𝓣.Λ (env code.Mir.locals l) code.Mir.t-3 (at_ret _ (W.post y)) $
            sets ! (of_opd ! (get ! refl)) refl (tt, record { fits = lit< tt }) $ returns ! (look_at ! 0 refl) $ free_all ! refl $
            use0 𝓛 (raw (Said 2 r.now)) (via 𝓤 (Refused 2 r.now) (fact_i 𝓤 ((2 ≡ 2) × (r.now ≡ r.now)) (emp 𝓤) (refl, refl)) (or-intro_r 𝓤.op (sep 𝓤 (Is_0 2) (New r.now)))) $
            out 2 (lit< tt) r.now),
        (λ n. absurd (n.1 refl)),
      ),
    ))))))))
