-- The ROM whose words are all returns: a board serves it by a pin that always has D0, and the check accepts a frame that
-- calls it.
use Rattle.std.proofs.Common.{◌≡◌, ℕ, ◌+◌, ◌-◌, ◌*◌, ◌<◌, ◌≤◌, not, List, Some, None}
use Rattle.std.proofs.Common.{refl, sym, ap, ◌∙◌, subst, arith, lit<, lit≤, inl}
use Rattle.std.proofs.lemmas.List.{length-replicate, get_or-replicate}
use Rattle.std.proofs.lemmas.List.Elements.{All-replicate}
use Rattle.std.specs.Prelude.{◌==◌, if◌then◌else◌, slice_get, zero, suc}
use Rattle.dvg_code.specs.declared.instr.Instr.TheVariants.{Labs, Rtsl}
use Rattle.dvg_code.specs.Acts.{Act, Moves, Calls, Returns, Halts}
use Rattle.dvg_code.specs.Spelling.{rtsl}
use Rattle.dvg_mem.specs.Memory.{IsRom, first_word, rom_word}
use Rattle.dvg_driver.proofs.Places.{some_same}
use Rattle.dvg_frame.specs.declared.op.OpKind.{OpKind}
use Rattle.dvg_frame.specs.declared.place.Place.{Place}
use Rattle.dvg_frame.specs.declared.place.Place.TheVariants.{InFrame, InRom}
use Rattle.dvg_frame.specs.declared.fault.FrameFault.{FrameFault}
use Rattle.dvg_frame.specs.Steps.{one, Stands, in_frame, in_rom, op_act, GoesPast, Names, Bad, last, target, second}
use Rattle.dvg_frame.specs.Steps.{past, deep, bare, IsFine, Leads, on, jump, call, back, Reached, begin, step, Misses, misses, labs}
use Rattle.dvg_frame.specs.Loops.{Walks, none, more}
use Rattle.dvg_frame.specs.Faults.{Accepts}
use Rattle.dvg_frame.proofs.FaultsAtPlaces.{same_standing}
use Rattle.dvg_cells_core.specs.Cells.{bit}
use Rattle.dvg_calls_6502.specs.Build.{calls_one}
use Rattle.dvg_cells_board.specs.Board.{Board, Bus, high, at}
use Rattle.dvg_cells_board.specs.Clocks.{IsBus, IsServed}
use Rattle.dvg_calls_board.specs.Example.{returns}

pub is_rom : IsRom returns
is_rom = record {
  count = inl (length-replicate {A = ℕ} 2048 0xD0);
  bytes = All-replicate (λ b. b < 256) 2048 0xD0 (lit< tt);
}

begins_at : first_word returns ≡ 0x800
begins_at = ap (λ n. if n == 2048 then 0x800 else 0x400) (length-replicate {A = ℕ} 2048 0xD0)

-- a clock without an access, one that reads, and one that writes; the pin `rom` has D0
abbrev pub no_access : Bus
no_access = record { reset = 0; hold = 0; access = 0; write = 0; a = 0; d = 0; big = 0; rom = 0xD0; undefined = 0 }

abbrev pub reading : ℕ → Bus
reading a = record no_access { access = 1; a = a }

abbrev pub writing : ℕ → ℕ → Bus
writing a d = record no_access { access = 1; write = 1; a = a; d = d }

pub is_quiet : IsBus no_access
is_quiet = record { reset = omega arith; a = omega arith; d = omega arith; rom = omega arith }

pub is_reading : (a : ℕ) → a < 65536 → IsBus (reading a)
is_reading a small = record { reset = omega arith; a = small; d = omega arith; rom = omega arith }

pub is_writing : (a d : ℕ) → a < 65536 → d < 256 → IsBus (writing a d)
is_writing a d small byte = record { reset = omega arith; a = small; d = byte; rom = omega arith }

-- so it has, whatever the core asks for
pub served : (board : Board) (bus : Bus) → (bus.big ≡ 0) × (bus.rom ≡ 0xD0) → high board < 2 → IsServed returns board bus
served board bus drives bit_high = record {
  big = drives.0 ∙ sym (ap (λ n. bit (not (n == 2048))) (length-replicate {A = ℕ} 2048 0xD0));
  rom = λ e from to.
      drives.1 ∙ sym (get_or-replicate 2048 (2 * (at board - first_word returns) + high board) 0xD0 0
      (let first = begins_at in omega (arith, first, from, to, bit_high)));
}

-- the frame that calls its first word
abbrev F : List OpKind
F = calls_one 0x800

first_is : rom_word returns 0x800 ≡ Some 0xD0D0
first_is = refl

-- the pairs that it reaches
data At : Place → ℕ → Type 0 where
  at0 : At (InFrame 0) 0
  at1 : At (InFrame 1) 0
  at2 : At (InFrame 2) 0
  shape : At (InRom 0x800) 1

acts0 : {act : Act Place} {after : Place} → Stands F returns (InFrame 0) act after
    → (act ≡ Moves (Labs 0 0 0)) × (after ≡ InFrame 1)
acts0 stands = same_standing stands (in_frame refl refl)

acts1 : {act : Act Place} {after : Place} → Stands F returns (InFrame 1) act after
    → (act ≡ Calls (InRom 0x800)) × (after ≡ InFrame 2)
acts1 stands = same_standing stands (in_frame refl refl)

acts2 : {act : Act Place} {after : Place} → Stands F returns (InFrame 2) act after → act ≡ Halts
acts2 stands = (same_standing stands (in_frame refl refl)).0

acts_shape : {act : Act Place} {after : Place} → Stands F returns (InRom 0x800) act after → act ≡ Returns
acts_shape stands = (same_standing stands (in_rom {instr = Rtsl} (one first_is (rtsl (lit≤ tt) (lit< tt))) refl)).0

abbrev number : Place → ℕ
number (InFrame i) = i
number (InRom a) = 2

low : {p : Place} {d : ℕ} → At p d → number p ≤ 2
low at0 = lit≤ tt
low _ = lit≤ tt

-- each step goes on to a later operation, or to the shape
lead : {p q : Place} {d e : ℕ} → At p d → Leads F returns p d q e → At q e × (number p < number q)
lead at0 (on s) = let a = acts0 s in subst (λ x. At x 0 × (0 < number x)) (sym a.1) (at1, lit< tt)
lead at0 (jump {q = q} s) = let a = (acts0 s).0 in absurd (cc)
lead at0 (call {q = q} s) = let a = (acts0 s).0 in absurd (cc)
lead at0 (back {q = q} s) = let a = (acts0 s).0 in absurd (cc)
lead at1 (on {instr = c} s) = let a = (acts1 s).0 in absurd (cc)
lead at1 (jump {q = q} s) = let a = (acts1 s).0 in absurd (cc)
lead at1 (call {q = q} s) = let a = (acts1 s).0 in let e : q ≡ InRom 0x800 = cc in
    subst (λ x. At x 1 × (1 < number x)) (sym e) (shape, lit< tt)
lead at1 (back s) = let a = acts1 s in subst (λ x. At x 0 × (1 < number x)) (sym a.1) (at2, lit< tt)
lead at2 (on {instr = c} s) = let a = acts2 s in absurd (cc)
lead at2 (jump {q = q} s) = let a = acts2 s in absurd (cc)
lead at2 (call {q = q} s) = let a = acts2 s in absurd (cc)
lead at2 (back {q = q} s) = let a = acts2 s in absurd (cc)
lead shape (on {instr = c} s) = let a = acts_shape s in absurd (cc)
lead shape (jump {q = q} s) = let a = acts_shape s in absurd (cc)
lead shape (call {q = q} s) = let a = acts_shape s in absurd (cc)
lead shape (back {q = q} s) = let a = acts_shape s in absurd (cc)

reached : {p : Place} {d : ℕ} → Reached F returns p d → At p d
reached begin = at0
reached (step r f l) = (lead (reached r) l).0

fine0 : (fault : FrameFault) → ¬ Bad F returns (InFrame 0) 0 fault
fine0 fault (last s g e) = omega arith
fine0 fault (target a s n o) = let k = (acts0 s).0 in subst (λ x. Names x (InRom a)) k n
fine0 fault (deep {to = to} s e) = let k = (acts0 s).0 in cc
fine0 fault (bare s e) = let k = (acts0 s).0 in cc

fine1 : (fault : FrameFault) → ¬ Bad F returns (InFrame 1) 0 fault
fine1 fault (last s g e) = omega arith
fine1 fault (target a s n o) =
    let to : InRom 0x800 ≡ InRom a = subst (λ x. Names x (InRom a)) (acts1 s).0 n in
    let a_is : 0x800 ≡ a = cc in
    let none_there : rom_word returns 0x800 ≡ None = subst (λ x. rom_word returns x ≡ None) (sym a_is) o in
    let is = first_is in absurd (cc)
fine1 fault (deep s e) = cc
fine1 fault (bare s e) = let k = (acts1 s).0 in cc

fine2 : (fault : FrameFault) → ¬ Bad F returns (InFrame 2) 0 fault
fine2 fault (last s g e) = let k = acts2 s in subst GoesPast k g
fine2 fault (target a s n o) = let k = acts2 s in subst (λ x. Names x (InRom a)) k n
fine2 fault (deep {to = to} s e) = let k = acts2 s in cc
fine2 fault (bare s e) = let k = acts2 s in cc

fine_shape : (fault : FrameFault) → ¬ Bad F returns (InRom 0x800) 1 fault
fine_shape fault (target a s n o) = let k = acts_shape s in subst (λ x. Names x (InRom a)) k n
fine_shape fault (second {word = word} is first outside) =
    let same : 0xD0D0 ≡ word = some_same (sym first_is ∙ is) in omega (arith, same, first)
fine_shape fault (past s g o) = let k = acts_shape s in subst GoesPast k g
fine_shape fault (deep {to = to} s e) = let k = acts_shape s in cc
fine_shape fault (bare s e) = absurd (cc)

fine : {p : Place} {d : ℕ} → At p d → IsFine F returns p d
fine at0 = fine0
fine at1 = fine1
fine at2 = fine2
fine shape = fine_shape

names_none : (i j : ℕ) (op : OpKind) → slice_get F i ≡ Some op → ¬ Names (op_act op) (InFrame j)
names_none (suc zero) j op e n =
    let to : InRom 0x800 ≡ InFrame j = subst (λ x. Names (op_act x) (InFrame j)) (sym (some_same e)) n in absurd (cc)
names_none (suc (suc (suc i))) j op e n = absurd (cc)
names_none _ j op e n = subst (λ x. Names (op_act x) (InFrame j)) (sym (some_same e)) n

misses_none : (i : ℕ) → ¬ Misses F i
misses_none i (misses {j = j} {op = op} e n far) = names_none i j op e n

walks_up : {d n : ℕ} {p q : Place} → At p d → Walks F returns d p n q → number p + n ≤ 2
walks_up at none = let few = low at in omega arith
walks_up at (more leads walk) =
    let next = lead at leads in
    let up = next.1 in
    let rest = walks_up next.0 walk in
    omega arith

pub one_call : Accepts (calls_one 0x800) returns
one_call = record {
  closed = record {
    begins = record { begins = labs; fits = lit≤ tt; targets = misses_none };
    fine = λ p d r. fine (reached r);
  };
  ends = λ loop. let few = walks_up (reached loop.reached) loop.walk in omega arith;
}
