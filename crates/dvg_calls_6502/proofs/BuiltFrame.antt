-- A frame that a program builds is one that the check accepts.
use Rattle.std.proofs.Common.{◌≡◌, ℕ, zero, suc, ◌+◌, ◌-◌, ◌/◌, ◌<◌, ◌≤◌, List, [], ◌∷◌, ◌++◌, length, refl, sym, ap, ◌∙◌}
use Rattle.std.proofs.Common.{subst, arith, Some}
use Rattle.std.specs.Prelude.{All, slice_get}
use Rattle.std.proofs.lemmas.List.Elements.{All-head, All-tail}
use Rattle.std.proofs.lemmas.Option.{slice_get_within}
use Rattle.dvg_code.specs.declared.instr.Instr.{Instr}
use Rattle.dvg_code.specs.declared.instr.Instr.TheVariants.{Vctr, Labs, Svec, Halt as Stops, Jsrl, Rtsl, Jmpl}
use Rattle.dvg_code.specs.Acts.{Act, Jumps, Calls, Returns, act_by}
use Rattle.dvg_frame.specs.declared.op.OpKind.{OpKind}
use Rattle.dvg_frame.specs.declared.op.OpKind.TheVariants.{Draw, CallRom, JumpRom, Call, Jump, Return, Halt as Stop}
use Rattle.dvg_frame.specs.declared.place.Place.{Place}
use Rattle.dvg_frame.specs.declared.place.Place.TheVariants.{InFrame, InRom}
use Rattle.dvg_frame.specs.declared.fault.FrameFault.{FrameFault}
use Rattle.dvg_frame.specs.Layout.{size}
use Rattle.dvg_frame.specs.Steps.{Stands, in_frame, in_rom, Bad, last, target, second, past, deep, bare, Leads, on, jump}
use Rattle.dvg_frame.specs.Steps.{call, back, Reached, begin, step, Closed, IsWellFormed, IsFine, op_act, GoesPast, Names, Misses}
use Rattle.dvg_frame.specs.Steps.{misses, labs}
use Rattle.dvg_frame.specs.Loops.{HasLoop, Walks, none, more}
use Rattle.dvg_frame.specs.Faults.{Accepts}
use Rattle.dvg_driver.proofs.Places.{some_same}
use Rattle.dvg_calls_6502.specs.Build.{IsPut, calls_one, BuiltAccepted}

-- what an operation of such a frame is: it isn't the last one, or it is the HALT
abbrev Kind : List ℕ → OpKind → (i len : ℕ) → Type 0
Kind R (Draw instr) i len = i + 1 < len
Kind R (CallRom a) i len = (i + 1 < len) × Accepts (calls_one a) R
Kind R Stop i len = i + 1 ≡ len
Kind R op i len = ⊥

put_kind : (R : List ℕ) (op : OpKind) (i len : ℕ) → IsPut R op → i + 1 < len → Kind R op i len
put_kind R (Draw instr) i len put less = less
put_kind R (CallRom a) i len put less = (less, put)
put_kind R _ i len put less = absurd put

kind_suc : (R : List ℕ) (op : OpKind) (i len : ℕ) → Kind R op i len → Kind R op (suc i) (suc len)
kind_suc R (Draw instr) i len k = omega (arith, k)
kind_suc R (CallRom a) i len k = let less = k.0 in (omega (arith, less), k.1)
kind_suc R Stop i len k = omega (arith, k)
kind_suc R _ i len k = absurd k

kinds : (R : List ℕ) (ops : List OpKind) → All (IsPut R) ops → (i : ℕ) (op : OpKind)
    → slice_get (ops ++ Stop ∷ []) i ≡ Some op
    → Kind R op i (length (ops ++ Stop ∷ []))
kinds R [] all zero op is = subst (λ o. Kind R o 0 1) (some_same is) (omega arith)
kinds R [] all (suc i) op is = absurd (cc)
kinds R (o ∷ ops) all zero op is = subst (λ k. Kind R k 0 (length (o ∷ ops ++ Stop ∷ []))) (some_same is)
    (put_kind R o 0 (length (o ∷ ops ++ Stop ∷ [])) (All-head (IsPut R) o ops all) (some ops))
  where
    some : (ops : List OpKind) → 1 < suc (length (ops ++ Stop ∷ []))
    some [] = omega arith
    some (p ∷ ops) = omega arith
kinds R (o ∷ ops) all (suc i) op is =
    kind_suc R op i (length (ops ++ Stop ∷ [])) (kinds R ops (All-tail (IsPut R) o ops all) i op is)

-- what the ROM leads to stands in the ROM
rom_jumps : (instr : Instr) (j : ℕ) → Jumps (InFrame j) ≡ act_by InRom instr → ⊥
rom_jumps (Vctr scale dx dy z) j is = absurd (cc)
rom_jumps _ j is = absurd (cc)

rom_calls : (instr : Instr) (j : ℕ) → Calls (InFrame j) ≡ act_by InRom instr → ⊥
rom_calls (Vctr scale dx dy z) j is = absurd (cc)
rom_calls _ j is = absurd (cc)

module _ (F G : List OpKind) (R : List ℕ) where
  stands_as : {b : ℕ} {act : Act Place} {after : Place} → Stands F R (InRom b) act after → Stands G R (InRom b) act after
  stands_as (in_rom spelled act_is) = in_rom spelled act_is

  bad_as : (b d : ℕ) (fault : FrameFault) → Bad F R (InRom b) d fault → Bad G R (InRom b) d fault
  bad_as b d fault (target a stands named outside) = target a (stands_as stands) named outside
  bad_as b d fault (second is first outside) = second is first outside
  bad_as b d fault (past stands goes outside) = past (stands_as stands) goes outside
  bad_as b d fault (deep stands is) = deep (stands_as stands) is
  bad_as b d fault (bare stands is) = bare (stands_as stands) is

  leads_as : {b d e : ℕ} {q : Place} → Leads F R (InRom b) d q e → Leads G R (InRom b) d q e
  leads_as (on stands) = on (stands_as stands)
  leads_as (jump stands) = jump (stands_as stands)
  leads_as (call stands) = call (stands_as stands)
  leads_as (back stands) = back (stands_as stands)

  no_frame : {b d e j : ℕ} → Leads F R (InRom b) d (InFrame j) e → ⊥
  no_frame (on stands) = elim stands [ ]
  no_frame (back stands) = elim stands [ ]
  no_frame (jump (in_rom {instr = instr} spelled act_is)) = rom_jumps instr _ act_is
  no_frame (call (in_rom {instr = instr} spelled act_is)) = rom_calls instr _ act_is

  walks_as : (d n b : ℕ) (end : Place) → Walks F R d (InRom b) n end → Walks G R d (InRom b) n end
  walks_as d zero b end none = none
  walks_as d (suc n) b end (more {q = InRom c} leads rest) = more (leads_as leads) (walks_as d n c end rest)
  walks_as d (suc n) b end (more {q = InFrame j} leads rest) = absurd (no_frame leads)

-- a part of a walk
walk_part : (F : List OpKind) (R : List ℕ) (d n m : ℕ) (p end : Place) → Walks F R d p (n + m) end
    → (there : Place) × Walks F R d p m there
walk_part F R d n zero p end walk = (p, none)
walk_part F R d n (suc m) p end walk =
    by (subst (λ k. Walks F R d p k end) (let e : n + suc m ≡ suc (n + m) = omega arith in e) walk)
    (λ q rest. walk_part F R d n m q end rest)
  where
    by : Walks F R d p (suc (n + m)) end
        → ((q : Place) → Walks F R d q (n + m) end → (there : Place) × Walks F R d q m there)
        → (there : Place) × Walks F R d p (suc m) there
    by (more {q = q} leads rest) part = let there = part q rest in (there.0, more leads there.1)

-- the frame
module _ (R : List ℕ) (x y scale : ℕ) (ops : List OpKind) (all : All (IsPut R) ops)
    (fits : size (Draw (Labs x y scale) ∷ ops ++ Stop ∷ []) ≤ 511) where
  abbrev F : List OpKind
  F = Draw (Labs x y scale) ∷ ops ++ Stop ∷ []

  kind : (i : ℕ) (op : OpKind) → slice_get F i ≡ Some op → Kind R op i (length F)
  kind zero op is = subst (λ k. Kind R k 0 (length F)) (some_same is) (some ops)
    where
      some : (ops : List OpKind) → 1 < suc (length (ops ++ Stop ∷ []))
      some [] = omega arith
      some (p ∷ ops) = omega arith
  kind (suc i) op is = kind_suc R op i (length (ops ++ Stop ∷ [])) (kinds R ops all i op is)

  -- an operation that names a place names a shape
  names : (i : ℕ) (op : OpKind) (q : Place) → slice_get F i ≡ Some op → Names (op_act op) q
      → (a : ℕ) × (q ≡ InRom a) × Accepts (calls_one a) R × (op ≡ CallRom a) × (i + 1 < length F)
  names i (CallRom a) q is named = let k = kind i (CallRom a) is in (a, sym named, k.1, refl, k.0)
  names i (JumpRom a) q is named = absurd (kind i (JumpRom a) is)
  names i (Call j) q is named = absurd (kind i (Call j) is)
  names i (Jump j) q is named = absurd (kind i (Jump j) is)
  names i Return q is named = absurd (kind i Return is)
  names i _ q is named = absurd named

  begins : IsWellFormed F
  begins = record {
    begins = labs;
    fits = fits;
    targets = λ i missed. no_miss i missed;
  }
    where
      no_miss : (i : ℕ) → Misses F i → ⊥
      no_miss i (misses {j = j} {op = op} is named far) = let n = names i op (InFrame j) is named in
          absurd (let e = n.1 in cc)

  -- where steps of such a frame are: in the frame with no call open, or in the ROM, as in the frame of a shape
  abbrev Kept : Place → ℕ → Type 0
  Kept (InFrame i) d = d ≡ 0
  Kept (InRom b) d = (a : ℕ) × Accepts (calls_one a) R × Reached (calls_one a) R (InRom b) d × (3 ≤ length F)

  -- the frame of a shape, up to its call
  at_call : (a : ℕ) → Accepts (calls_one a) R → Reached (calls_one a) R (InFrame 1) 0
  at_call a accepts = step begin (accepts.closed.fine (InFrame 0) 0 begin) (on (in_frame refl refl))

  in_shape : (a : ℕ) → Accepts (calls_one a) R → Reached (calls_one a) R (InRom a) 1
  in_shape a accepts = step (at_call a accepts) (accepts.closed.fine (InFrame 1) 0 (at_call a accepts))
      (call (in_frame refl refl))

  long : (i a : ℕ) → slice_get F i ≡ Some (CallRom a) → i + 1 < length F → 3 ≤ length F
  long zero a is less = absurd (let e = some_same is in cc)
  long (suc i) a is less = omega (arith, less)

  kept_step : (p q : Place) (d e : ℕ) → Kept p d → Leads F R p d q e → Kept q e
  kept_step (InFrame i) q d e kept (on (in_frame is act_is)) = kept
  kept_step (InFrame i) q d e kept (jump (in_frame {op = op} is act_is)) =
      let n = names i op q is (subst (λ act. Names act q) act_is refl) in
      absurd (let k = act_is ∙ ap op_act n.3 in cc)
  kept_step (InFrame i) q d e kept (call (in_frame {op = op} is act_is)) =
      let n = names i op q is (subst (λ act. Names act q) act_is refl) in
      subst (λ place. Kept place (suc d)) (sym n.1) (
        n.0,
        n.2,
        subst (λ k. Reached (calls_one n.0) R (InRom n.0) (suc k)) (sym kept) (in_shape n.0 n.2),
        long i n.0 (is ∙ ap Some n.3) n.4,
      )
  kept_step (InFrame i) q d e kept (back (in_frame is act_is)) = kept
  kept_step (InRom b) (InFrame j) d e kept leads = absurd (no_frame F F R leads)
  kept_step (InRom b) (InRom c) d e kept leads =
      (kept.0, kept.1, step kept.2 (kept.1.closed.fine (InRom b) d kept.2) (leads_as F (calls_one kept.0) R leads), kept.3)

  kept_at : (p : Place) (d : ℕ) → Reached F R p d → Kept p d
  kept_at p d begin = refl
  kept_at q e (step {p = p} {d = d} reached fine leads) = kept_step p q d e (kept_at p d reached) leads

  fine_frame : (i d : ℕ) (fault : FrameFault) → d ≡ 0 → Bad F R (InFrame i) d fault → ⊥
  fine_frame i d fault zero' (last (in_frame {op = op} is act_is) goes end) =
      by op (kind i op is) (subst GoesPast act_is goes)
    where
      by : (op : OpKind) → Kind R op i (length F) → GoesPast (op_act op) → ⊥
      by (Draw instr) k goes = absurd (omega (arith, k, end))
      by (CallRom a) k goes = let less = k.0 in absurd (omega (arith, less, end))
      by (JumpRom a) k goes = k
      by (Call j) k goes = k
      by (Jump j) k goes = k
      by Return k goes = k
      by Stop k goes = goes
  fine_frame i d fault zero' (target a (in_frame {op = op} is act_is) named outside) =
      let n = names i op (InRom a) is (subst (λ act. Names act (InRom a)) act_is named) in
      let same : InRom n.0 ≡ InRom a = sym n.1 in
      n.2.closed.fine (InFrame 1) 0 (at_call n.0 n.2) _ (target a (in_frame refl refl) same outside)
  fine_frame i d fault zero' (deep stands four) = absurd (omega (arith, zero', four))
  fine_frame i d fault zero' (bare (in_frame {op = op} is act_is) none_open) = by op (kind i op is) act_is
    where
      by : (op : OpKind) → Kind R op i (length F) → Returns ≡ op_act op → ⊥
      by (Draw instr) k e = absurd (cc)
      by (CallRom a) k e = absurd (cc)
      by (JumpRom a) k e = k
      by (Call j) k e = k
      by (Jump j) k e = k
      by Return k e = k
      by Stop k e = absurd (cc)

  fine_at : (p : Place) (d : ℕ) → Kept p d → IsFine F R p d
  fine_at (InFrame i) d kept fault bad = fine_frame i d fault kept bad
  fine_at (InRom b) d kept fault bad =
      kept.1.closed.fine (InRom b) d kept.2 fault (bad_as F (calls_one kept.0) R b d fault bad)

  closed : Closed F R
  closed = record { begins = begins; fine = λ p d reached. fine_at p d (kept_at p d reached) }

  -- a walk in the frame ends
  one_on : (i d e : ℕ) (q : Place) → Leads F R (InFrame i) d q e → e ≡ d → (q ≡ InFrame (i + 1)) × (i < length F)
  one_on i d e q (on (in_frame {op = op} is act_is)) same = (refl, slice_get_within F i op is)
  one_on i d e q (jump (in_frame {op = op} is act_is)) same =
      let n = names i op q is (subst (λ act. Names act q) act_is refl) in
      absurd (let k = act_is ∙ ap op_act n.3 in cc)
  one_on i d e q (call stands) same = absurd (omega (arith, same))
  one_on i d e q (back (in_frame {op = op} is act_is)) same = (refl, slice_get_within F i op is)

  short : (n i d : ℕ) (end : Place) → i ≤ length F → Walks F R d (InFrame i) n end → i + n ≤ length F
  short zero i d end within none = omega (arith, within)
  short (suc n) i d end within (more {q = q} leads rest) =
      let first = one_on i d d q leads refl in
      let less = first.1 in
      let after = short n (i + 1) d end (omega (arith, less)) (subst (λ p. Walks F R d p n end) first.0 rest) in
      omega (arith, after)

  first_in : (n i d : ℕ) (end : Place) → Walks F R d (InFrame i) (suc n) end → i < length F
  first_in n i d end (more {q = q} leads rest) = (one_on i d d q leads refl).1

  no_loop : HasLoop F R → ⊥
  no_loop loop = by loop.place loop.reached loop.walk
    where
      by : (p : Place) → Reached F R p loop.depth → Walks F R loop.depth p (1 + (length F + length R / 2)) loop.end → ⊥
      by (InFrame i) reached walk =
          let e : 1 + (length F + length R / 2) ≡ suc (length F + length R / 2) = omega arith in
          let less = first_in (length F + length R / 2) i loop.depth loop.end
          (subst (λ m. Walks F R loop.depth (InFrame i) m loop.end) e walk) in
          let few = short (1 + (length F + length R / 2)) i loop.depth loop.end (omega (arith, less)) walk in
          absurd (omega (arith, few))
      by (InRom b) reached walk =
          let k = kept_at (InRom b) loop.depth reached in
          let long' = k.3 in
          let enough : 1 + (length F + length R / 2) ≡ (length F - 3) + (1 + (3 + length R / 2)) = omega (arith, long') in
          let part = walk_part F R loop.depth (length F - 3) (1 + (3 + length R / 2)) (InRom b) loop.end
          (subst (λ m. Walks F R loop.depth (InRom b) m loop.end) enough walk) in
          k.1.ends (record {
            place = InRom b;
            depth = loop.depth;
            end = part.0;
            reached = k.2;
            walk = walks_as F (calls_one k.0) R loop.depth (1 + (3 + length R / 2)) b part.0 part.1;
          })

  accepts : Accepts F R
  accepts = record { closed = closed; ends = no_loop }

pub built_accepted : BuiltAccepted
built_accepted R x y scale ops all fits = accepts R x y scale ops all fits
