-- What is computed of a path is what the processor does.
use Rattle.std.proofs.Common.{◌≡◌, ℕ, zero, suc, ◌+◌, ◌-◌, ◌*◌, ◌%◌, ◌<◌, ◌≤◌, Bool, true, false, not, cond, List, [], ◌∷◌}
use Rattle.std.proofs.Common.{◌++◌, length, refl, sym, ap, ◌∙◌, subst, arith, set, eqb-true, le-leb, leb-true}
use Rattle.std.proofs.Common.{get_or-set_same, get_or-set_other}
use Rattle.std.proofs.Math.Path.{fun_ext}
use Rattle.std.specs.Prelude.{nat_eq, nat_le, nat_lt, if◌then◌else◌, ◌&&◌, ◌||◌, slice_index, bit_or}
use Rattle.dvg_calls_6502.specs.Processor.{Cpu, Access, Reads, Writes, Mode, Immediate, ZeroPage, ZeroPageX, ZeroPageY, Absolute}
use Rattle.dvg_calls_6502.specs.Processor.{AbsoluteX, AbsoluteY, IndexedIndirect, IndirectIndexed, Register, A, X, Y, Flag, Negative}
use Rattle.dvg_calls_6502.specs.Processor.{Zero, Carry, Overflow, Decimal, Interrupt, Instr, Load, Store, Transfer, And, Or, Xor}
use Rattle.dvg_calls_6502.specs.Processor.{Add, Subtract, Compare, TestBits, Change, Step, ShiftAt, ShiftA, Set, Branch, Jump, JumpAt}
use Rattle.dvg_calls_6502.specs.Processor.{Call, Return, PushA, PushFlags, PullA, PullFlags, FromStack, ToStack, Resume, Pass, Unknown}
use Rattle.dvg_calls_6502.specs.Processor.{does, flag_place, reading, setting, flagging, next, size, decoded, opcodes, put, run, turn}
use Rattle.dvg_calls_6502.specs.Processor.{at_return, address, operand, found, of_register, of_flag, is_so, target, writing, shifted, step}
use Rattle.dvg_calls_6502.specs.Processor.{flags_after, reads}
use Rattle.dvg_calls_6502.specs.Code.{code}
use Rattle.dvg_calls_6502.specs.Board.{seen, is_hardware}
use Rattle.dvg_calls_6502.specs.Amid.{changed, is_steady, are_steady}
use Rattle.dvg_calls_6502.proofs.Memory.{in_code, swap2, both_true, same_eqb}
use Rattle.dvg_calls_6502.proofs.ProcessorRuns.{and_true}
use Rattle.dvg_calls_6502.proofs.TableTick.{not_flag}
use Rattle.dvg_calls_6502.proofs.Follow.{Sym, Way, Goes, Puts, Gets, full, over, in_part, taken, seen_over, quietly, placed, moved, left, owes}
use Rattle.dvg_calls_6502.proofs.Follow.{Sure, is_placed, IsFar, owes_store, owes_load, owes_branch, moved_store, moved_load, moved_branch}
use Rattle.dvg_calls_6502.proofs.Follow.{having_read, follow, Owes, steadily, instr_at}

-- a write into the page
put_part : (a v : ℕ) (page : List ℕ) (mem : ℕ → ℕ) → in_part a ≡ true → length page ≡ 17
    → put a v (over page mem) ≡ over (set page (a - 0x10) v) mem
put_part a v page mem inside l =
    let bounds = both_true (nat_le 0x10 a) (nat_lt a 0x21) inside in
    let low = leb-true 0x10 a bounds.0 in let high = leb-true (suc a) 0x21 bounds.1 in
    fun_ext (λ b. swap2 (nat_eq b a) (in_part b) v (slice_index page (b - 0x10)) (slice_index (set page (a - 0x10) v) (b - 0x10))
    (if in_code b then slice_index code (b - 0x6800) else mem b)
    (λ is. let e = eqb-true b a is in let back : b - 0x10 ≡ a - 0x10 = omega arith in
    let few : a - 0x10 < length page = omega (arith, low, high, l) in (
      subst (λ q. in_part q ≡ true) (sym e) inside,
      ap (slice_index (set page (a - 0x10) v)) back ∙ get_or-set_same page (a - 0x10) v 0 few,
    ))
    (λ not paged.
    let floor : 0x10 ≤ b = leb-true 0x10 b (both_true (nat_le 0x10 b) (nat_lt b 0x21) paged).0 in
    sym (get_or-set_other page (a - 0x10) (b - 0x10) v 0 (λ same. let there : b ≡ a = omega (arith, low, floor, same) in
    let hit : nat_eq b a ≡ true = same_eqb b a there in absurd (cc)))))

swap3 : (w t u : Bool) (byte a b rest : ℕ) → (w ≡ true → (t ≡ false) × (u ≡ false))
    → cond w byte (cond t a (cond u b rest)) ≡ cond t a (cond u b (cond w byte rest))
swap3 false t u byte a b rest out = refl
swap3 true false false byte a b rest out = refl
swap3 true true u byte a b rest out = absurd (let e = (out refl).0 in cc)
swap3 true false true byte a b rest out = absurd (let e = (out refl).1 in cc)

-- a write elsewhere
put_off : (a v : ℕ) (page : List ℕ) (mem : ℕ → ℕ) → in_part a ≡ false → in_code a ≡ false
    → put a v (over page mem) ≡ over page (put a v mem)
put_off a v page mem not_page not_code = fun_ext (λ b. swap3 (nat_eq b a) (in_part b) (in_code b) v
    (slice_index page (b - 0x10)) (slice_index code (b - 0x6800)) (mem b)
    (λ is. let e = sym (eqb-true b a is) in
    (subst (λ q. in_part q ≡ false) e not_page, subst (λ q. in_code q ≡ false) e not_code)))

put_placed : (a v : ℕ) (page : List ℕ) (mem : ℕ → ℕ) → is_placed a page ≡ true
    → put a v (over page mem)
    ≡ over (if in_part a then set page (a - 0x10) v else page) (if in_part a then mem else put a v mem)
put_placed a v page mem is = by (in_part a) refl (in_code a) refl is
  where
    by : (t : Bool) → in_part a ≡ t → (u : Bool) → in_code a ≡ u
        → ((t && nat_eq (length page) 17) || (not t && not u)) ≡ true
        → put a v (over page mem) ≡ over (if t then set page (a - 0x10) v else page) (if t then mem else put a v mem)
    by true inside u coded is = put_part a v page mem inside (eqb-true (length page) 17 (whole (nat_eq (length page) 17) is))
      where
        whole : (w : Bool) → (w || false) ≡ true → w ≡ true
        whole true is = refl
        whole false is = is
    by false outside false coded is = put_off a v page mem outside coded
    by false outside true coded is = absurd (cc)

seen_on : (news log : List Access) → seen (news ++ log) ≡ seen_over news (seen log)
seen_on [] log = refl
seen_on (Reads a byte ∷ news) log =
    ap (λ rest. if is_hardware a then Reads a byte ∷ rest else rest) (seen_on news log)
seen_on (Writes a byte ∷ news) log =
    ap (λ rest. if nat_le 0x200 a then Writes a byte ∷ rest else rest) (seen_on news log)

-- the step of an instruction leads there
abbrev LeadsTo : Cpu → Sym → Sym → Type 0
LeadsTo new it then' = (new ≡ full then') × (seen it.cpu.log ≡ it.events → seen then'.cpu.log ≡ then'.events)

quiet_so : (news : List Access) (new : Cpu) (it : Sym) → new.mem ≡ over it.page it.cpu.mem → new.log ≡ news ++ it.cpu.log
    → LeadsTo new it (quietly news new it)
quiet_so news new it mem log = (
  ap (λ (m : ℕ → ℕ). changed m new) mem,
  λ so. ap seen log ∙ seen_on news it.cpu.log ∙ ap (seen_over news) so,
)

placed_so : (a v : ℕ) (news : List Access) (new : Cpu) (it : Sym) → new.mem ≡ put a v (over it.page it.cpu.mem)
    → new.log ≡ Writes a v ∷ news ++ it.cpu.log → is_placed a it.page ≡ true → LeadsTo new it (placed a v news new it)
placed_so a v news new it mem log is = (
  ap (λ (m : ℕ → ℕ). changed m new) (mem ∙ put_placed a v it.page it.cpu.mem is),
  λ so. ap seen log ∙ seen_on (Writes a v ∷ news) it.cpu.log ∙ ap (seen_over (Writes a v ∷ news)) so,
)

set_mem : (r : Register) (v : ℕ) (k : Cpu) → (setting r v k).mem ≡ k.mem
set_mem A v k = refl
set_mem _ v k = refl

set_log : (r : Register) (v : ℕ) (k : Cpu) → (setting r v k).log ≡ k.log
set_log A v k = refl
set_log _ v k = refl

read_mem : (mode : Mode) (cpu : Cpu) → (reading mode cpu).mem ≡ cpu.mem
read_mem Immediate cpu = refl
read_mem _ cpu = refl

read_log : (mode : Mode) (cpu : Cpu) → (reading mode cpu).log ≡ taken mode cpu ++ cpu.log
read_log Immediate cpu = refl
read_log _ cpu = refl

flag_mem : (flag : Flag) (to : Bool) (k : Cpu) → (flagging flag to k).mem ≡ k.mem
flag_mem Negative to k = refl
flag_mem _ to k = refl

flag_log : (flag : Flag) (to : Bool) (k : Cpu) → (flagging flag to k).log ≡ k.log
flag_log Negative to k = refl
flag_log _ to k = refl

sure : (t : Bool) (rest : Type 0) → Sure t rest → (t ≡ true) × rest
sure true rest o = (refl, o)
sure false rest o = absurd o

of_full : (r : Register) (it : Sym) → of_register r (full it) ≡ of_register r it.cpu
of_full A it = refl
of_full _ it = refl

abbrev Parts : Instr → List Way → Sym → Type 0 → Type 0
Parts instr ways it rest = LeadsTo (does instr (full it)) it (moved instr ways it) × rest

store_placed : (r : Register) (mode : Mode) (it : Sym) → is_placed (address mode (full it)) it.page ≡ true
    → LeadsTo (does (Store r mode) (full it)) it
    (placed (address mode (full it)) (of_register r it.cpu) [] (does (Store r mode) (full it)) it)
store_placed r mode it is = placed_so (address mode (full it)) (of_register r it.cpu) [] (does (Store r mode) (full it)) it
    (ap (λ v. put (address mode (full it)) v (over it.page it.cpu.mem)) (of_full r it))
    (ap (λ v. Writes (address mode (full it)) v ∷ it.cpu.log) (of_full r it)) is

store_far : (r : Register) (a : ℕ) (ways : List Way) (it : Sym) → address IndirectIndexed (full it) ≡ a → IsFar a
    → LeadsTo (does (Store r IndirectIndexed) (full it)) it (moved_store r IndirectIndexed (Puts a ∷ ways) it)
store_far r a ways it is far = (
  ap (λ p. next 2 (writing p (of_register r (full it)) (full it))) is
      ∙ ap (λ v. next 2 (writing a v (full it))) (of_full r it)
      ∙ ap (λ (m : ℕ → ℕ). changed m (next 2 (writing a (of_register r it.cpu) it.cpu)))
      (put_off a (of_register r it.cpu) it.page it.cpu.mem far.0 far.1),
  λ so. ap (λ (t : Bool). let rest = seen it.cpu.log in if t then Writes a (of_register r it.cpu) ∷ rest else rest) far.2
      ∙ ap (λ l. Writes a (of_register r it.cpu) ∷ l) so,
)

parts_store : (r : Register) (mode : Mode) (ways : List Way) (it : Sym) (rest : Type 0) → owes_store r mode ways it rest
    → LeadsTo (does (Store r mode) (full it)) it (moved_store r mode ways it) × rest
parts_store r IndirectIndexed (Puts a ∷ ways) it rest o = (store_far r a ways it o.0.0 o.0.1, o.1)
parts_store r IndirectIndexed _ it rest o = absurd o
parts_store r Immediate ways it rest o = let s = sure _ rest o in (store_placed r Immediate it s.0, s.1)
parts_store r ZeroPage ways it rest o = let s = sure _ rest o in (store_placed r ZeroPage it s.0, s.1)
parts_store r ZeroPageX ways it rest o = let s = sure _ rest o in (store_placed r ZeroPageX it s.0, s.1)
parts_store r ZeroPageY ways it rest o = let s = sure _ rest o in (store_placed r ZeroPageY it s.0, s.1)
parts_store r Absolute ways it rest o = let s = sure _ rest o in (store_placed r Absolute it s.0, s.1)
parts_store r AbsoluteX ways it rest o = let s = sure _ rest o in (store_placed r AbsoluteX it s.0, s.1)
parts_store r AbsoluteY ways it rest o = let s = sure _ rest o in (store_placed r AbsoluteY it s.0, s.1)
parts_store r IndexedIndirect ways it rest o = let s = sure _ rest o in (store_placed r IndexedIndirect it s.0, s.1)

load_quiet : (r : Register) (mode : Mode) (it : Sym)
    → LeadsTo (does (Load r mode) (full it)) it (quietly (taken mode (full it)) (does (Load r mode) (full it)) it)
load_quiet r mode it = quiet_so (taken mode (full it)) (does (Load r mode) (full it)) it
    (set_mem r _ (reading mode (full it)) ∙ read_mem mode (full it))
    (set_log r _ (reading mode (full it)) ∙ read_log mode (full it))

read_full : (r : Register) (a v : ℕ) (it : Sym) → setting r v (having_read a v (full it))
    ≡ full (record it { cpu = setting r v (having_read a v it.cpu) })
read_full A a v it = refl
read_full _ a v it = refl

load_far : (r : Register) (a v : ℕ) (ways : List Way) (it : Sym) → address IndirectIndexed (full it) ≡ a
    → is_hardware a ≡ false → over it.page it.cpu.mem a ≡ v
    → LeadsTo (does (Load r IndirectIndexed) (full it)) it (moved_load r IndirectIndexed (Gets a v ∷ ways) it)
load_far r a v ways it is device byte = (
  ap (λ p. setting r (found p c) (next 2 (reads p c))) is
      ∙ ap with_flag (not_flag a device) ∙ ap (λ k. setting r k (having_read a k c)) byte ∙ read_full r a v it,
  λ so. ap seen (set_log r v (having_read a v it.cpu))
      ∙ ap (λ (t : Bool). let rest = seen it.cpu.log in if t then Reads a v ∷ rest else rest) device ∙ so,
)
  where
    c : Cpu
    c = full it

    with_flag : Bool → Cpu
    with_flag t = let k = if t then c.flags 0 else c.mem a in
        setting r k (next 2 (record c { flags = if t then (λ n. c.flags (suc n)) else c.flags; log = Reads a k ∷ c.log }))

parts_load : (r : Register) (mode : Mode) (ways : List Way) (it : Sym) (rest : Type 0) → owes_load r mode ways it rest
    → LeadsTo (does (Load r mode) (full it)) it (moved_load r mode ways it) × rest
parts_load r IndirectIndexed (Gets a v ∷ ways) it rest o = (load_far r a v ways it o.0.0 o.0.1 o.0.2, o.1)
parts_load r IndirectIndexed _ it rest o = absurd o
parts_load r Immediate ways it rest o = (load_quiet r Immediate it, o)
parts_load r ZeroPage ways it rest o = (load_quiet r ZeroPage it, o)
parts_load r ZeroPageX ways it rest o = (load_quiet r ZeroPageX it, o)
parts_load r ZeroPageY ways it rest o = (load_quiet r ZeroPageY it, o)
parts_load r Absolute ways it rest o = (load_quiet r Absolute it, o)
parts_load r AbsoluteX ways it rest o = (load_quiet r AbsoluteX it, o)
parts_load r AbsoluteY ways it rest o = (load_quiet r AbsoluteY it, o)
parts_load r IndexedIndirect ways it rest o = (load_quiet r IndexedIndirect it, o)

is_of : (when f t : Bool) → is_so when f ≡ t → f ≡ is_so when t
is_of true f t e = e
is_of false true true e = sym e
is_of false true false e = refl
is_of false false true e = refl
is_of false false false e = sym e

flag_full : (flag : Flag) (it : Sym) → of_flag flag (full it) ≡ of_flag flag it.cpu
flag_full Negative it = refl
flag_full _ it = refl

-- a flag that is so may be set so
flagged : (flag : Flag) (u : Bool) (page : List ℕ) (k : Cpu) → of_flag flag k ≡ u
    → changed (over page k.mem) k ≡ changed (over page (flagging flag u k).mem) (flagging flag u k)
flagged Negative u page k e = ap (λ u. changed (over page k.mem) (record k { n = u })) e
flagged Zero u page k e = ap (λ u. changed (over page k.mem) (record k { z = u })) e
flagged Carry u page k e = ap (λ u. changed (over page k.mem) (record k { c = u })) e
flagged Overflow u page k e = ap (λ u. changed (over page k.mem) (record k { v = u })) e
flagged Decimal u page k e = ap (λ u. changed (over page k.mem) (record k { d = u })) e
flagged Interrupt u page k e = ap (λ u. changed (over page k.mem) (record k { i = u })) e

flag_pc : (flag : Flag) (pc : ℕ) (k : Cpu) → of_flag flag (record k { pc = pc }) ≡ of_flag flag k
flag_pc Negative pc k = refl
flag_pc _ pc k = refl

parts_branch : (flag : Flag) (when : Bool) (ways : List Way) (it : Sym) (rest : Type 0) → owes_branch flag when ways it rest
    → LeadsTo (does (Branch flag when) (full it)) it (moved_branch flag when ways it) × rest
parts_branch flag when (Goes t ∷ ways) it rest o = (
  (
    ap (λ f. to (is_so when f)) (flag_full flag it) ∙ ap to o.0
        ∙ flagged flag (is_so when t) it.page (record it.cpu { pc = goes t })
        (flag_pc flag (goes t) it.cpu ∙ is_of when (of_flag flag it.cpu) t o.0),
    λ so. ap seen (flag_log flag (is_so when t) (record it.cpu { pc = goes t })) ∙ so,
  ),
  o.1,
)
  where
    goes : Bool → ℕ
    goes t = if t then target it.cpu.pc (over it.page it.cpu.mem (it.cpu.pc + 1)) else it.cpu.pc + 2

    to : Bool → Cpu
    to t = record (full it) { pc = goes t }
parts_branch flag when _ it rest o = absurd o

-- what an instruction that reads does besides
abbrev reads_so : (new : Cpu) (mode : Mode) (it : Sym) → new.mem ≡ (reading mode (full it)).mem → new.log ≡ (reading mode (full it)).log
    → LeadsTo new it (quietly (taken mode (full it)) new it)
reads_so new mode it mem log = quiet_so (taken mode (full it)) new it (mem ∙ read_mem mode (full it)) (log ∙ read_log mode (full it))

parts : (instr : Instr) (ways : List Way) (it : Sym) (rest : Type 0) → owes instr ways it rest → Parts instr ways it rest
parts (Load r mode) ways it rest o = parts_load r mode ways it rest o
parts (Store r mode) ways it rest o = parts_store r mode ways it rest o
parts (Branch flag when) ways it rest o = parts_branch flag when ways it rest o
parts (Change mode k) ways it rest o = let s = sure _ rest o in let c = full it in (
  placed_so (address mode c) ((operand mode c + k) % 256) (taken mode c) (does (Change mode k) c) it
      (ap (put (address mode c) ((operand mode c + k) % 256)) (read_mem mode c))
      (ap (λ l. Writes (address mode c) ((operand mode c + k) % 256) ∷ l) (read_log mode c)) s.0,
  s.1,
)
parts (ShiftAt shift mode) ways it rest o = let s = sure _ rest o in let c = full it in (
  placed_so (address mode c) (shifted shift it.cpu.c (operand mode c)) (taken mode c) (does (ShiftAt shift mode) c) it
      (ap (put (address mode c) (shifted shift it.cpu.c (operand mode c))) (read_mem mode c))
      (ap (λ l. Writes (address mode c) (shifted shift it.cpu.c (operand mode c)) ∷ l) (read_log mode c)) s.0,
  s.1,
)
parts (And mode) ways it rest o = (reads_so (does (And mode) (full it)) mode it refl refl, o)
parts (Or mode) ways it rest o = (reads_so (does (Or mode) (full it)) mode it refl refl, o)
parts (Xor mode) ways it rest o = (reads_so (does (Xor mode) (full it)) mode it refl refl, o)
parts (Add mode) ways it rest o = (reads_so (does (Add mode) (full it)) mode it refl refl, o)
parts (Subtract mode) ways it rest o = (reads_so (does (Subtract mode) (full it)) mode it refl refl, o)
parts (Compare r mode) ways it rest o = (reads_so (does (Compare r mode) (full it)) mode it refl refl, o)
parts (TestBits mode) ways it rest o = (reads_so (does (TestBits mode) (full it)) mode it refl refl, o)
parts (Transfer r to) ways it rest o = (
  quiet_so [] (does (Transfer r to) (full it)) it (set_mem to _ (next 1 (full it)))
      (set_log to _ (next 1 (full it))),
  o,
)
parts (Step r k) ways it rest o = (
  quiet_so [] (does (Step r k) (full it)) it (set_mem r _ (next 1 (full it)))
      (set_log r _ (next 1 (full it))),
  o,
)
parts (Set flag to) ways it rest o = (
  quiet_so [] (does (Set flag to) (full it)) it (flag_mem flag to (next 1 (full it)))
      (flag_log flag to (next 1 (full it))),
  o,
)
parts (ShiftA shift) ways it rest o = (quiet_so [] (does (ShiftA shift) (full it)) it refl refl, o)
parts Jump ways it rest o = (quiet_so [] (does Jump (full it)) it refl refl, o)
parts Return ways it rest o = (quiet_so [] (does Return (full it)) it refl refl, o)
parts FromStack ways it rest o = (quiet_so [] (does FromStack (full it)) it refl refl, o)
parts ToStack ways it rest o = (quiet_so [] (does ToStack (full it)) it refl refl, o)
parts Pass ways it rest o = (quiet_so [] (does Pass (full it)) it refl refl, o)
parts Unknown ways it rest o = (quiet_so [] (does Unknown (full it)) it refl refl, o)
parts Call ways it rest o = absurd o
parts JumpAt ways it rest o = absurd o
parts PushA ways it rest o = absurd o
parts PushFlags ways it rest o = absurd o
parts PullA ways it rest o = absurd o
parts PullFlags ways it rest o = absurd o
parts Resume ways it rest o = absurd o

turns : (q : ℕ) (it : Sym) → not (nat_eq (over it.page it.cpu.mem it.cpu.pc) 0x60) ≡ true
    → turn q (full it) ≡ does (instr_at it) (full it)
turns q it is = by (nat_eq (over it.page it.cpu.mem it.cpu.pc) 0x60) is
  where
    by : (t : Bool) → not t ≡ true
        → (if t && nat_eq it.cpu.s q then full it else step (full it)) ≡ does (instr_at it) (full it)
    by false is = refl
    by true is = absurd (cc)

-- where the processor comes by so many steps
pub runs : (q n : ℕ) (ways : List Way) (it : Sym) → Owes n ways it → run q n (full it) ≡ full (follow n ways it)
runs q zero ways it o = refl
runs q (suc n) ways it o =
    let instr = instr_at it in
    let s = sure _ _ o in
    let p = parts instr ways it (Owes n (left instr ways) (moved instr ways it)) s.1 in
    ap (run q n) (turns q it s.0 ∙ p.0.0) ∙ runs q n (left instr ways) (moved instr ways it) p.1

-- what is seen of it
pub sees : (n : ℕ) (ways : List Way) (it : Sym) → Owes n ways it → seen it.cpu.log ≡ it.events
    → seen (follow n ways it).cpu.log ≡ (follow n ways it).events
sees zero ways it o so = so
sees (suc n) ways it o so =
    let instr = instr_at it in
    let p = parts instr ways it (Owes n (left instr ways) (moved instr ways it)) (sure _ _ o).1 in
    sees n (left instr ways) (moved instr ways it) p.1 (p.0.1 so)

-- it takes guarded bytes alone
pub is_steadily : (kept : ℕ → Bool) (q n : ℕ) (ways : List Way) (it : Sym) → Owes n ways it → steadily kept q n ways it ≡ true
    → are_steady kept q n (full it) ≡ true
is_steadily kept q zero ways it o so = refl
is_steadily kept q (suc n) ways it o so =
    let instr = instr_at it in
    let s = sure _ _ o in
    let p = parts instr ways it (Owes n (left instr ways) (moved instr ways it)) s.1 in
    let two = both_true (is_steady kept q (full it)) (steadily kept q n (left instr ways) (moved instr ways it)) so in
    and_true (is_steady kept q (full it)) (are_steady kept q n (turn q (full it))) two.0
    (ap (are_steady kept q n) (turns q it s.0 ∙ p.0.0)
    ∙ is_steadily kept q n (left instr ways) (moved instr ways it) p.1 two.1)
