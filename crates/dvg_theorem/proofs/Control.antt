-- What a draft draws, and what the machine does that finds it in memory.
use Rattle.std.proofs.Common.{◌≡◌, ℕ, zero, suc, ◌+◌, ◌<◌, ◌≤◌, List, [], ◌∷◌, ◌++◌, length, Option, refl, sym, ap, ◌∙◌, subst, arith, append_assoc, ⊎_elim}
use Rattle.std.proofs.lemmas.Bool.{cases_lt}
use Rattle.dvg_code.specs.declared.instr.Instr.{Instr}
use Rattle.dvg_code.specs.declared.instr.Instr.TheVariants.{Vctr, Labs, Halt, Jsrl, Rtsl, Jmpl, Svec}
use Rattle.dvg_code.specs.Spelling.{word_count}
use Rattle.dvg_gen.specs.declared.beam.Beam.{Beam}
use Rattle.dvg_gen.specs.declared.stroke.Stroke.{Stroke}
use Rattle.dvg_gen.specs.Drawing.{moved, drawn}
use Rattle.dvg_code.specs.Acts.{Act, Moves, Jumps, Calls, Returns, Halts, act_of}
use Rattle.dvg_gen.specs.Run.{on}
use Rattle.dvg_frame.specs.declared.op.OpKind.{OpKind}
use Rattle.dvg_frame.specs.declared.place.Place.{Place}
use Rattle.dvg_frame.specs.declared.fault.FrameFault.TheVariants.{TooDeep}
use Rattle.dvg_frame.specs.Steps.{Stands, GoesPast, IsFine, deep, Leads, on as leads_on, jump as leads_jump, call as leads_call, back as leads_back, Reached, begin, step, Closed}
use Rattle.dvg_frame.specs.Picture.{End, AtHalt, AtReturn, Draws, halts, returns, moves, jumps, call_halts, calls}
use Rattle.dvg_gen.specs.Stacks.{stack_by, to_of, CanGo}
use Rattle.dvg_theorem.proofs.Machine.{ReadsAt}
use Rattle.dvg_theorem.proofs.Ends.{Ends, ends, steps, quiet, IsQuiet, moves_is}

-- an act whose targets are addresses
abbrev pub at_addresses : (Place → ℕ) → Act Place → Act ℕ
at_addresses addr (Moves c) = Moves c
at_addresses addr (Jumps to) = Jumps (addr to)
at_addresses addr (Calls to) = Calls (addr to)
at_addresses addr Returns = Returns
at_addresses addr Halts = Halts

-- the instruction in memory that a place stands for
pub record Found (mem : ℕ → Option ℕ) (addr : Place → ℕ) (p : Place) (act : Act Place) (after : Place) : Type 0 where
  pub code : Instr
  pub reads : ReadsAt mem (addr p) code
  pub acts : act_of code ≡ at_addresses addr act
  pub goes : GoesPast act → addr after ≡ on (addr p) (word_count code)

-- the memory holds the draft and the ROM
pub record Faithful (F : List OpKind) (R : List ℕ) (mem : ℕ → Option ℕ) (addr : Place → ℕ) : Type 0 where
  pub found : (p : Place) (d : ℕ) (act : Act Place) (after : Place) → Reached F R p d → Stands F R p act after → Found mem addr p act after
  pub there : (p : Place) (d : ℕ) → Reached F R p d → (act : Act Place) × (after : Place) × Stands F R p act after
  pub unique : (a : ℕ) (c c' : Instr) → ReadsAt mem a c → ReadsAt mem a c' → c ≡ c'

-- how the machine goes on from an end
abbrev pub Continues : (ℕ → Option ℕ) → End → List ℕ → Beam → List Stroke → ℕ → Type 0
Continues mem AtHalt st b s n = (s ≡ []) × (n ≡ 0)
Continues mem AtReturn [] b s n = ⊥
Continues mem AtReturn (r ∷ st) b s n = Ends mem r st b s n

-- what the machine drew up to its end, or up to the return from here
pub data Result (F : List OpKind) (R : List ℕ) (mem : ℕ → Option ℕ) (p : Place) (st : List ℕ) (b : Beam) (s : List Stroke) (n : ℕ) : Type 0 where
  halted : {b' : Beam} → Draws F R p b s b' AtHalt n → Result F R mem p st b s n
  returned : {r n1 n2 : ℕ} {st' : List ℕ} {s1 s2 : List Stroke} {b1 : Beam} → st ≡ r ∷ st' → s ≡ s1 ++ s2 → n ≡ n1 + n2 → 1 ≤ n1 → Draws F R p b s1 b1 AtReturn n1 → Ends mem r st' b1 s2 n2 → Result F R mem p st b s n

one_or_two : (c : Instr) (n fuel : ℕ) → word_count c + n ≤ suc fuel → n ≤ fuel
one_or_two (Vctr scale dx dy z) n fuel h = omega arith
one_or_two (Labs x y scale) n fuel h = omega arith
one_or_two Halt n fuel h = omega arith
one_or_two (Jsrl to) n fuel h = omega arith
one_or_two Rtsl n fuel h = omega arith
one_or_two (Jmpl to) n fuel h = omega arith
one_or_two (Svec scale dx dy z) n fuel h = omega arith

module _ (F : List OpKind) (R : List ℕ) (mem : ℕ → Option ℕ) (addr : Place → ℕ) (closed : Closed F R) (faith : Faithful F R mem addr) where
  -- no pair is deeper than four
  lead_depth : (p q : Place) (d e : ℕ) → d ≤ 4 → IsFine F R p d → Leads F R p d q e → e ≤ 4
  lead_depth p q d e h f (leads_on s) = h
  lead_depth p q d e h f (leads_jump s) = h
  lead_depth p q d e h f (leads_call s) = ⊎_elim (λ lt. lt) (λ ge. let d4 : d ≡ 4 = omega arith in absurd (f (TooDeep p) (deep s d4))) (cases_lt d 4)
  lead_depth p q d e h f (leads_back s) = h

  pub depth : (p : Place) (d : ℕ) → Reached F R p d → d ≤ 4
  depth p d begin = omega arith
  depth p d (step {p = q} {d = e} r f l) = lead_depth q p e d (depth q e r) f l

  fine_of : (p : Place) (d : ℕ) → Reached F R p d → IsFine F R p d
  fine_of p d r = closed.fine p d r

  call_room : (p to after : Place) (d : ℕ) → Reached F R p d → Stands F R p (Calls to) after → d < 4
  call_room p to after d r s =
      let h = depth p d r in
      ⊎_elim (λ lt. lt) (λ ge. let d4 : d ≡ 4 = omega arith in absurd (fine_of p d r (TooDeep p) (deep s d4))) (cases_lt d 4)

  -- one instruction of the machine, by how it leads on
  go : (a n n0 : ℕ) (c : Instr) (act : Act ℕ) (st : List ℕ) (b : Beam) (s s0 : List Stroke) → ReadsAt mem a c → act_of c ≡ act → CanGo act st → Ends mem (to_of act a st) (stack_by act a st) (moved b c) s n → s0 ≡ drawn b c ++ s → n0 ≡ word_count c + n → Ends mem a st b s0 n0
  go a n n0 c act st b s s0 r e can t es en =
      steps r (subst (λ x. CanGo x st) (sym e) can) (subst (λ x. Ends mem (to_of x a st) (stack_by x a st) (moved b c) s n) (sym e) t) es en

  quiet_go : (a n : ℕ) (c : Instr) (act : Act ℕ) (st : List ℕ) (b : Beam) (s : List Stroke) → ReadsAt mem a c → act_of c ≡ act → IsQuiet act → CanGo act st → Ends mem (to_of act a st) (stack_by act a st) b s n → Ends mem a st b s (suc n)
  quiet_go a n c act st b s r e q can t =
      let k = quiet c (subst IsQuiet (sym e) q) in
      let t2 = subst (λ x. Ends mem (to_of act a st) (stack_by act a st) x s n) (sym (k.moved_is b)) t in
      go a n (suc n) c act st b s s r e can t2 (ap (λ x. x ++ s) (sym (k.drawn_is b))) (omega (arith, k.words_is))

  -- the same, by how its place leads on
  by_move : (p after : Place) (d : ℕ) (c : Instr) (st : List ℕ) (b : Beam) (s s0 : List Stroke) (n n0 : ℕ) → Reached F R p d → Stands F R p (Moves c) after → Ends mem (addr after) st (moved b c) s n → s0 ≡ drawn b c ++ s → n0 ≡ word_count c + n → Ends mem (addr p) st b s0 n0
  by_move p after d c st b s s0 n n0 r stand t es en =
      let f = faith.found p d (Moves c) after r stand in
      let e = moves_is f.code c f.acts in
      let reads = subst (λ x. ReadsAt mem (addr p) x) e f.reads in
      let act : act_of c ≡ Moves c = ap act_of (sym e) ∙ f.acts in
      let to : addr after ≡ on (addr p) (word_count c) = f.goes tt ∙ ap (λ x. on (addr p) (word_count x)) e in
      go (addr p) n n0 c (Moves c) st b s s0 reads act tt (subst (λ x. Ends mem x st (moved b c) s n) to t) es en

  by_jump : (p to after : Place) (d : ℕ) (st : List ℕ) (b : Beam) (s : List Stroke) (n : ℕ) → Reached F R p d → Stands F R p (Jumps to) after → Ends mem (addr to) st b s n → Ends mem (addr p) st b s (suc n)
  by_jump p to after d st b s n r stand t =
      let f = faith.found p d (Jumps to) after r stand in
      quiet_go (addr p) n f.code (Jumps (addr to)) st b s f.reads f.acts tt tt t

  by_call : (p to after : Place) (d : ℕ) (st : List ℕ) (b : Beam) (s : List Stroke) (n : ℕ) → Reached F R p d → length st ≡ d → Stands F R p (Calls to) after → Ends mem (addr to) (addr after ∷ st) b s n → Ends mem (addr p) st b s (suc n)
  by_call p to after d st b s n r len stand t =
      let f = faith.found p d (Calls to) after r stand in
      let q = quiet f.code (subst IsQuiet (sym f.acts) tt) in
      let room = call_room p to after d r stand in
      let e : addr after ≡ on (addr p) 1 = f.goes tt ∙ ap (λ k. on (addr p) k) q.words_is in
      quiet_go (addr p) n f.code (Calls (addr to)) st b s f.reads f.acts tt (omega arith) (subst (λ x. Ends mem (addr to) (x ∷ st) b s n) e t)

  by_return : (p after : Place) (d x : ℕ) (st : List ℕ) (b : Beam) (s : List Stroke) (n : ℕ) → Reached F R p d → Stands F R p Returns after → Ends mem x st b s n → Ends mem (addr p) (x ∷ st) b s (suc n)
  by_return p after d x st b s n r stand t =
      let f = faith.found p d Returns after r stand in
      quiet_go (addr p) n f.code Returns (x ∷ st) b s f.reads f.acts tt (omega arith) t

  by_halt : (p after : Place) (d : ℕ) (st : List ℕ) (b : Beam) → Reached F R p d → Stands F R p Halts after → Ends mem (addr p) st b [] 1
  by_halt p after d st b r stand = let f = faith.found p d Halts after r stand in ends f.reads f.acts

  -- what a draft draws, the machine does
  pub follows : {p : Place} {b b' : Beam} {s : List Stroke} {e : End} {n : ℕ} → Draws F R p b s b' e n → (d : ℕ) → Reached F R p d → (st : List ℕ) → length st ≡ d → (s' : List Stroke) (n' : ℕ) → Continues mem e st b' s' n' → Ends mem (addr p) st b (s ++ s') (n + n')
  follows {p} {b} (halts {after = after} stand) d r st len s' n' k =
      let t = by_halt p after d st b r stand in
      let n2 : 1 ≡ 1 + n' = omega (arith, k.1) in
      subst (λ x. Ends mem (addr p) st b x (1 + n')) (sym k.0) (subst (λ x. Ends mem (addr p) st b [] x) n2 t)
  follows (returns {after = after} stand) d r [] len s' n' k = absurd k
  follows {p} {b} (returns {after = after} stand) d r (x ∷ st) len s' n' k =
      let n2 : suc n' ≡ 1 + n' = omega arith in
      subst (λ m. Ends mem (addr p) (x ∷ st) b s' m) n2 (by_return p after d x st b s' n' r stand k)
  follows {p} {b} (moves {after = after} {instr = c} {strokes = s} {n = n} stand rest) d r st len s' n' k =
      let t = follows rest d (step r (fine_of p d r) (leads_on stand)) st len s' n' k in
      by_move p after d c st b (s ++ s') _ (n + n') _ r stand t (append_assoc (drawn b c) s s') (omega arith)
  follows {p} {b} (jumps {to = to} {after = after} {strokes = s} {n = n} stand rest) d r st len s' n' k =
      let t = follows rest d (step r (fine_of p d r) (leads_jump stand)) st len s' n' k in
      let n2 : suc (n + n') ≡ suc n + n' = omega arith in
      subst (λ m. Ends mem (addr p) st b (s ++ s') m) n2 (by_jump p to after d st b (s ++ s') (n + n') r stand t)
  follows {p} {b} (call_halts {to = to} {after = after} {strokes = s} {n = n} stand rest) d r st len s' n' k =
      let t = follows rest (suc d) (step r (fine_of p d r) (leads_call stand)) (addr after ∷ st) (ap suc len) s' n' k in
      let n2 : suc (n + n') ≡ suc n + n' = omega arith in
      subst (λ m. Ends mem (addr p) st b (s ++ s') m) n2 (by_call p to after d st b (s ++ s') (n + n') r len stand t)
  follows {p} {b} (calls {to = to} {after = after} {back = b1} {strokes = s1} {more = s2} {n = n1} {m = n2} stand inner rest) d r st len s' n' k =
      let t2 = follows rest d (step r (fine_of p d r) (leads_back stand)) st len s' n' k in
      let t1 = follows inner (suc d) (step r (fine_of p d r) (leads_call stand)) (addr after ∷ st) (ap suc len) (s2 ++ s') (n2 + n') t2 in
      let t = by_call p to after d st b (s1 ++ (s2 ++ s')) (n1 + (n2 + n')) r len stand t1 in
      let m : suc (n1 + (n2 + n')) ≡ suc (n1 + n2) + n' = omega arith in
      subst (λ x. Ends mem (addr p) st b x (suc (n1 + n2) + n')) (sym (append_assoc s1 s2 s')) (subst (λ x. Ends mem (addr p) st b (s1 ++ (s2 ++ s')) x) m t)

  -- the other way: what the machine does from a place, the draft draws, up to the return from there
  abbrev Traced : ℕ → Type 0
  Traced fuel = (p : Place) (d a n : ℕ) (st : List ℕ) (b : Beam) (s : List Stroke) → n ≤ fuel → Reached F R p d → length st ≡ d → a ≡ addr p → Ends mem a st b s n → Result F R mem p st b s n

  at_end : (p : Place) (st : List ℕ) (b : Beam) (s s0 : List Stroke) (n n0 : ℕ) → s0 ≡ s → n0 ≡ n → Result F R mem p st b s n → Result F R mem p st b s0 n0
  at_end p st b s s0 n n0 es en r = subst (λ x. Result F R mem p st b x n0) (sym es) (subst (λ x. Result F R mem p st b s x) (sym en) r)

  after_move : (p after : Place) (c : Instr) (st : List ℕ) (b : Beam) (s : List Stroke) (n : ℕ) → Stands F R p (Moves c) after → Result F R mem after st (moved b c) s n → Result F R mem p st b (drawn b c ++ s) (word_count c + n)
  after_move p after c st b s n stand (halted x) = halted (moves stand x)
  after_move p after c st b s n stand (returned {n1 = n1} {n2 = n2} {s1 = s1} {s2 = s2} est es en le x t) =
      returned est (ap (λ k. drawn b c ++ k) es ∙ sym (append_assoc (drawn b c) s1 s2)) (omega arith) (omega arith) (moves stand x) t

  after_jump : (p to after : Place) (st : List ℕ) (b : Beam) (s : List Stroke) (n : ℕ) → Stands F R p (Jumps to) after → Result F R mem to st b s n → Result F R mem p st b s (suc n)
  after_jump p to after st b s n stand (halted x) = halted (jumps stand x)
  after_jump p to after st b s n stand (returned est es en le x t) = returned est es (omega arith) (omega arith) (jumps stand x) t

  after_both : (p to after : Place) (st : List ℕ) (b b1 : Beam) (s1 s2 : List Stroke) (n1 n2 : ℕ) → Stands F R p (Calls to) after → Draws F R to b s1 b1 AtReturn n1 → Result F R mem after st b1 s2 n2 → Result F R mem p st b (s1 ++ s2) (suc (n1 + n2))
  after_both p to after st b b1 s1 s2 n1 n2 stand x (halted y) = halted (calls stand x y)
  after_both p to after st b b1 s1 s2 n1 n2 stand x (returned {s1 = s3} {s2 = s4} est es en le y t) =
      returned est (ap (λ k. s1 ++ k) es ∙ sym (append_assoc s1 s3 s4)) (omega arith) (omega arith) (calls stand x y) t

  ends_some : {a n : ℕ} {st : List ℕ} {b : Beam} {s : List Stroke} → Ends mem a st b s n → 1 ≤ n
  ends_some (ends r e) = omega arith
  ends_some (steps r can t es en) = let h = ends_some t in omega arith

  after_call : (fuel : ℕ) → Traced fuel → (p to after : Place) (d x : ℕ) (st : List ℕ) (b : Beam) (s : List Stroke) (n : ℕ) → n ≤ fuel → Reached F R p d → length st ≡ d → x ≡ addr after → Stands F R p (Calls to) after → Result F R mem to (x ∷ st) b s n → Result F R mem p st b s (suc n)
  after_call fuel ih p to after d x st b s n le r len ex stand (halted y) = halted (call_halts stand y)
  after_call fuel ih p to after d x st b s n le r len ex stand (returned {r = x2} {n1 = n1} {n2 = n2} {st' = st2} {s1 = s1} {s2 = s2} {b1 = b1} est es en le1 y t) =
      let er : x2 ≡ addr after = let e : x ≡ x2 = cc in sym e ∙ ex in
      let e2 : st2 ≡ st = cc in
      let t2 = subst (λ k. Ends mem x2 k b1 s2 n2) e2 t in
      let z = ih after d x2 n2 st b1 s2 (omega arith) (step r (fine_of p d r) (leads_back stand)) len er t2 in
      at_end p st b (s1 ++ s2) s (suc (n1 + n2)) (suc n) es (ap suc en) (after_both p to after st b b1 s1 s2 n1 n2 stand y z)

  at_halt : (act : Act Place) (p : Place) (b : Beam) (st : List ℕ) (after : Place) → Stands F R p act after → at_addresses addr act ≡ Halts → Result F R mem p st b [] 1
  at_halt (Moves c) p b st after stand e = let e2 : Moves c ≡ Halts = e in cc
  at_halt (Jumps to) p b st after stand e = let e2 : Jumps (addr to) ≡ Halts = e in cc
  at_halt (Calls to) p b st after stand e = let e2 : Calls (addr to) ≡ Halts = e in cc
  at_halt Returns p b st after stand e = let e2 : ◌≡◌ {A = Act ℕ} Returns Halts = e in cc
  at_halt Halts p b st after stand e = halted (halts stand)

  by_act : (fuel : ℕ) → Traced fuel → (act : Act Place) (p : Place) (d a n : ℕ) (st : List ℕ) (b : Beam) (s : List Stroke) (c : Instr) (after : Place) → word_count c + n ≤ suc fuel → Reached F R p d → length st ≡ d → Stands F R p act after → act_of c ≡ at_addresses addr act → CanGo (at_addresses addr act) st → Ends mem (to_of (at_addresses addr act) a st) (stack_by (at_addresses addr act) a st) (moved b c) s n → (GoesPast act → addr after ≡ on a (word_count c)) → (s0 : List Stroke) (n0 : ℕ) → s0 ≡ drawn b c ++ s → n0 ≡ word_count c + n → Result F R mem p st b s0 n0
  by_act fuel ih (Moves x) p d a n st b s c after le r len stand e can t goes s0 n0 es en =
      let cx = moves_is c x e in
      let le2 : n ≤ fuel = let h = ends_some t in one_or_two c n fuel le in
      let t2 = subst (λ k. Ends mem (on a (word_count x)) st (moved b k) s n) cx t in
      let ea = ap (λ k. on a (word_count k)) (sym cx) ∙ sym (goes tt) in
      let z = ih after d (on a (word_count x)) n st (moved b x) s le2 (step r (fine_of p d r) (leads_on stand)) len ea t2 in
      at_end p st b (drawn b x ++ s) s0 (word_count x + n) n0 (es ∙ ap (λ k. drawn b k ++ s) cx) (en ∙ ap (λ k. word_count k + n) cx) (after_move p after x st b s n stand z)
  by_act fuel ih (Jumps to) p d a n st b s c after le r len stand e can t goes s0 n0 es en =
      let q = quiet c (subst IsQuiet (sym e) tt) in
      let le2 : n ≤ fuel = one_or_two c n fuel le in
      let t2 = subst (λ k. Ends mem (addr to) st k s n) (q.moved_is b) t in
      let z = ih to d (addr to) n st b s le2 (step r (fine_of p d r) (leads_jump stand)) len refl t2 in
      at_end p st b s s0 (suc n) n0 (es ∙ ap (λ k. k ++ s) (q.drawn_is b)) (omega (arith, q.words_is)) (after_jump p to after st b s n stand z)
  by_act fuel ih (Calls to) p d a n st b s c after le r len stand e can t goes s0 n0 es en =
      let q = quiet c (subst IsQuiet (sym e) tt) in
      let le2 : n ≤ fuel = one_or_two c n fuel le in
      let t2 = subst (λ k. Ends mem (addr to) (on a 1 ∷ st) k s n) (q.moved_is b) t in
      let z = ih to (suc d) (addr to) n (on a 1 ∷ st) b s le2 (step r (fine_of p d r) (leads_call stand)) (ap suc len) refl t2 in
      let ex : on a 1 ≡ addr after = ap (λ k. on a k) (sym q.words_is) ∙ sym (goes tt) in
      at_end p st b s s0 (suc n) n0 (es ∙ ap (λ k. k ++ s) (q.drawn_is b)) (omega (arith, q.words_is)) (after_call fuel ih p to after d (on a 1) st b s n le2 r len ex stand z)
  by_act fuel ih Returns p d a n [] b s c after le r len stand e can t goes s0 n0 es en = absurd (omega arith)
  by_act fuel ih Returns p d a n (x ∷ st) b s c after le r len stand e can t goes s0 n0 es en =
      let q = quiet c (subst IsQuiet (sym e) tt) in
      let t2 = subst (λ k. Ends mem x st k s n) (q.moved_is b) t in
      returned refl (es ∙ ap (λ k. k ++ s) (q.drawn_is b)) (omega (arith, q.words_is)) (omega arith) (returns stand) t2
  by_act fuel ih Halts p d a n st b s c after le r len stand e can t goes s0 n0 es en = absurd can

  trace_step : (fuel : ℕ) → Traced fuel → (act : Act Place) (p : Place) (d a n : ℕ) (st : List ℕ) (b : Beam) (s : List Stroke) (after : Place) → n ≤ suc fuel → Reached F R p d → length st ≡ d → a ≡ addr p → Stands F R p act after → Ends mem a st b s n → Result F R mem p st b s n
  trace_step fuel ih act p d a n st b s after le r len ea stand (ends {c = c} rd e) =
      let f = faith.found p d act after r stand in
      let same = faith.unique (addr p) c f.code (subst (λ x. ReadsAt mem x c) ea rd) f.reads in
      at_halt act p b st after stand (sym f.acts ∙ ap act_of (sym same) ∙ e)
  trace_step fuel ih act p d a n0 st b s0 after le r len ea stand (steps {n = n} {s = s} {c = c} rd can t es en) =
      let f = faith.found p d act after r stand in
      let same = faith.unique (addr p) c f.code (subst (λ x. ReadsAt mem x c) ea rd) f.reads in
      let acts : act_of c ≡ at_addresses addr act = ap act_of same ∙ f.acts in
      let can2 = subst (λ x. CanGo x st) acts can in
      let t2 = subst (λ x. Ends mem (to_of x a st) (stack_by x a st) (moved b c) s n) acts t in
      let goes : GoesPast act → addr after ≡ on a (word_count c) = λ g. f.goes g ∙ ap (λ x. on x (word_count f.code)) (sym ea) ∙ ap (λ x. on a (word_count x)) (sym same) in
      by_act fuel ih act p d a n st b s c after (omega arith) r len stand acts can2 t2 goes s0 n0 es en

  pub traces : (fuel : ℕ) → Traced fuel
  traces zero p d a n st b s le r len ea t = let h = ends_some t in absurd (omega arith)
  traces (suc fuel) p d a n st b s le r len ea t =
      let w = faith.there p d r in
      trace_step fuel (traces fuel) w.0 p d a n st b s w.1 le r len ea w.2 t
