-- Calls that others interrupt come out as calls that nobody interrupts.
use Rattle.std.proofs.Common.{◌≡◌, ℕ, zero, suc, ◌+◌, ◌<◌, ◌≤◌, Bool, true, false, not, List, ◌∷◌, refl, sym, ap, ◌∙◌}
use Rattle.std.proofs.Common.{subst, arith, le-leb, eqb-true}
use Rattle.std.specs.Prelude.{nat_eq, nat_le, nat_lt, ◌&&◌, ◌||◌, if◌then◌else◌}
use Rattle.dvg_calls_6502.specs.Processor.{Cpu, run, turn, at_return}
use Rattle.dvg_calls_6502.specs.Amid.{amid, changed, AreHarmless, guards, is_kept, is_code, are_steady, CameOut}
use Rattle.dvg_calls_6502.specs.Board.{seen}
use Rattle.dvg_calls_6502.specs.Routines.{Enters, Put, Pair, Labs, Vector}
use Rattle.dvg_calls_6502.specs.Calls as calls
use Rattle.dvg_calls_6502.specs.Calls.{Routine}
use Rattle.dvg_calls_6502.specs.Decided.{IsDecided, CallsDecide}
use Rattle.dvg_calls_6502.proofs.ProcessorRuns.{run_more}
use Rattle.dvg_calls_6502.proofs.Memory.{both_true}
use Rattle.dvg_calls_6502.proofs.Decided.{looked, leaving}
use Rattle.dvg_calls_6502.proofs.AmidRun.{came_out}
use Rattle.dvg_calls_6502.proofs.Steady.{last_kept, code_kept}
pub use Rattle.std.proofs.lemmas.Bool.{or_left as left_true, or_right as right_true}
use Rattle.std.proofs.lemmas.Bool.{and_from as both}

-- a call that is over goes on to its return, where nobody interrupts: memory stays, and nothing more is seen
record GoesHome (call : calls.Call) : Type 0 where
  left : ℕ
  over : calls.is_over call ≡ at_return call.from.s (run call.from.s (left + call.steps) call.from)
  carry : calls.is_over call ≡ true → calls.answer call ≡ (run call.from.s (left + call.steps) call.from).c
  memory : (run call.from.s (left + call.steps) call.from).mem ≡ (run call.from.s call.steps call.from).mem
  shows : seen (run call.from.s (left + call.steps) call.from).log ≡ seen (run call.from.s call.steps call.from).log

-- where it is decided
decided_home : (call : calls.Call) (c : Bool) → calls.is_over call ≡ true → calls.answer call ≡ c
    → IsDecided (run call.from.s call.steps call.from) c → (run call.from.s call.steps call.from).s ≡ call.from.s
    → GoesHome call
decided_home call c over told is level =
    let pl : Cpu = run call.from.s call.steps call.from in
    let on : run call.from.s (is.steps + call.steps) call.from ≡ run call.from.s is.steps pl =
    run_more call.from.s call.steps is.steps call.from in
    let back : at_return call.from.s (run call.from.s is.steps pl) ≡ true =
    subst (λ q. at_return q (run q is.steps pl) ≡ true) level is.returns in
    let c_is : (run call.from.s is.steps pl).c ≡ c = subst (λ q. (run q is.steps pl).c ≡ c) level is.carry in
    let m_is : (run call.from.s is.steps pl).mem ≡ pl.mem = subst (λ q. (run q is.steps pl).mem ≡ pl.mem) level is.kept in
    let l_is : seen (run call.from.s is.steps pl).log ≡ seen pl.log =
    subst (λ q. seen (run q is.steps pl).log ≡ seen pl.log) level is.shows in
    record {
      left = is.steps;
      over = over ∙ sym (ap (at_return call.from.s) on ∙ back);
      carry = λ now. told ∙ sym (ap (λ (k : Cpu). k.c) on ∙ c_is);
      memory = ap (λ (k : Cpu). k.mem) on ∙ m_is;
      shows = ap (λ (k : Cpu). seen k.log) on ∙ l_is;
    }

or_false : (t : Bool) → (t || false) ≡ t
or_false true = refl
or_false false = refl

-- a call that is leaving amid others is leaving without them
pub leaves_too : (s : ℕ) (kept : ℕ → Bool) (pl it : Cpu) (memory : ℕ → ℕ) → ((b : ℕ) → is_code b ≡ true → kept b ≡ true)
    → it ≡ changed memory pl → ((b : ℕ) → kept b ≡ true → it.mem b ≡ pl.mem b) → calls.is_leaving s it ≡ true
    → calls.is_leaving s pl ≡ true
leaves_too s kept pl it memory code same agree is =
    let same_pc : it.pc ≡ pl.pc = ap (λ (k : Cpu). k.pc) same in
    let one = both_true (is_code it.pc) _ is in
    let two = both_true (is_code (it.pc + 1)) _ one.1 in
    let three = both_true (nat_eq (it.mem it.pc) 0x18) _ two.1 in
    let clc = sym (ap pl.mem same_pc) ∙ sym (agree it.pc (code it.pc one.0)) in
    let rts = sym (ap (λ p. pl.mem (p + 1)) same_pc) ∙ sym (agree (it.pc + 1) (code (it.pc + 1) two.0)) in
    both (is_code pl.pc) _ (ap is_code (sym same_pc) ∙ one.0)
    (both (is_code (pl.pc + 1)) _ (ap (λ p. is_code (p + 1)) (sym same_pc) ∙ two.0)
    (both (nat_eq (pl.mem pl.pc) 0x18) _ (ap (λ k. nat_eq k 0x18) clc ∙ three.0)
    (ap (λ k. nat_eq k 0x60 && nat_eq pl.s s) rts
    ∙ ap (λ (k : Cpu). nat_eq (it.mem (it.pc + 1)) 0x60 && nat_eq k.s s) (sym same) ∙ three.1)))

level_of : (s : ℕ) (cpu : Cpu) → calls.is_leaving s cpu ≡ true → cpu.s ≡ s
level_of s cpu is =
    let one = both_true (is_code cpu.pc) _ is in
    let two = both_true (is_code (cpu.pc + 1)) _ one.1 in
    let three = both_true (nat_eq (cpu.mem cpu.pc) 0x18) _ two.1 in
    eqb-true cpu.s s (both_true (nat_eq (cpu.mem (cpu.pc + 1)) 0x60) (nat_eq cpu.s s) three.1).1

pub within : (low high b : ℕ) → low ≤ b → b < high → (nat_le low b && nat_lt b high) ≡ true
within low high b l h = both (nat_le low b) (nat_lt b high) (le-leb low b l) (le-leb (suc b) high h)

-- how a call comes out: as a run of so many steps that nobody interrupts, which returns where the call is over
pub record Came (call : calls.Call) (more : List calls.Call) : Type 0 where
  pub n : ℕ
  pub same : CameOut (guards (is_kept (calls.is_table call more)) call.from.s)
      (run call.from.s call.steps call.from) (calls.after call)
  pub returned : calls.has_returned call ≡ at_return call.from.s (run call.from.s call.steps call.from)
  pub over : calls.is_over call ≡ at_return call.from.s (run call.from.s n call.from)
  pub carry : calls.is_over call ≡ true → calls.answer call ≡ (run call.from.s n call.from).c
  pub shows : seen (calls.after call).log ≡ seen (run call.from.s n call.from).log
  pub keeps : (b : ℕ) → is_kept (calls.is_table call more) b ≡ true
      → (calls.after call).mem b ≡ (run call.from.s n call.from).mem b

-- one call, which takes guarded bytes alone
module _ (call : calls.Call) (more : List calls.Call) (enters : Enters call.from (calls.entry call.routine))
    (alone : calls.IsLeftAlone call more)
    (steady : (k : ℕ) → are_steady (is_kept (calls.is_table call more)) call.from.s k call.from ≡ true) where
  abbrev tables : ℕ → Bool
  tables = calls.is_table call more

  abbrev pl : Cpu
  pl = run call.from.s call.steps call.from

  same : CameOut (guards (is_kept tables) call.from.s) pl (calls.after call)
  same = came_out (is_kept tables) call.from.s call.steps call.from call.from.mem call.others (λ b is. refl)
      (steady call.steps) alone

  kept_same : (b : ℕ) → is_kept tables b ≡ true → (calls.after call).mem b ≡ pl.mem b
  kept_same b is = ap (λ (k : Cpu). k.mem b) same.same ∙ same.keeps b (left_true (is_kept tables b) _ is)

  returned : calls.has_returned call ≡ at_return call.from.s pl
  returned = ap (at_return call.from.s) same.same
      ∙ ap (λ b. nat_eq b 0x60 && nat_eq pl.s call.from.s)
      (same.keeps pl.pc (left_true (is_kept tables pl.pc) _
      (last_kept (is_kept tables) call.from.s call.steps call.from (steady (suc call.steps)))))

  -- where it has looked, and is refused
  refused_home : calls.is_refused call ≡ true → GoesHome call
  refused_home is =
      let two = both_true (nat_eq call.steps 1) (calls.finds_busy call.routine call.from.mem) is in
      let once = sym (eqb-true call.steps 1 two.0) in
      let done = looked call.from enters.loaded.code (enters.loaded.bytes 0x10) call.routine enters.entry two.1 in
      let now = subst (λ k. IsDecided (run call.from.s k call.from) true × ((run call.from.s k call.from).s ≡ call.from.s))
      once done in
      decided_home call true
      (right_true (calls.has_returned call) _ (left_true (calls.is_refused call) _ is))
      (ap (λ (t : Bool). if t then true else (if calls.is_leaving call.from.s (calls.after call) then false
      else (calls.after call).c)) is) now.0 now.1

  -- where CLC and RTS are left
  leaving_home : calls.is_refused call ≡ false → calls.is_leaving call.from.s (calls.after call) ≡ true → GoesHome call
  leaving_home not_refused is =
      let also : calls.is_leaving call.from.s pl ≡ true = leaves_too call.from.s (is_kept tables) pl (calls.after call)
      same.memory (λ b code. code_kept tables b code) same.same kept_same is in
      let level : pl.s ≡ call.from.s = level_of call.from.s pl also in
      let here : calls.is_leaving pl.s pl ≡ true = subst (λ q. calls.is_leaving q pl ≡ true) (sym level) also in
      decided_home call false
      (right_true (calls.has_returned call) _ (right_true (calls.is_refused call) _ is))
      (ap (λ (t : Bool). if t then true else (if calls.is_leaving call.from.s (calls.after call) then false
      else (calls.after call).c)) not_refused
      ∙ ap (λ (t : Bool). if t then false else (calls.after call).c) is) (leaving pl here) level

  -- and else
  plain_home : calls.is_refused call ≡ false → calls.is_leaving call.from.s (calls.after call) ≡ false → GoesHome call
  plain_home not_refused not_leaving =
      let none : call.steps ≡ 0 + call.steps = omega arith in
      let on : pl ≡ run call.from.s (0 + call.steps) call.from = ap (λ k. run call.from.s k call.from) none in
      record {
        left = 0;
        over = ap (λ (t : Bool). calls.has_returned call || (t || calls.is_leaving call.from.s (calls.after call)))
            not_refused
            ∙ ap (λ (t : Bool). calls.has_returned call || t) not_leaving ∙ or_false (calls.has_returned call) ∙ returned
            ∙ ap (at_return call.from.s) on;
        carry = λ now. ap (λ (t : Bool). if t then true else (if calls.is_leaving call.from.s (calls.after call) then false
            else (calls.after call).c)) not_refused
            ∙ ap (λ (t : Bool). if t then false else (calls.after call).c) not_leaving
            ∙ ap (λ (k : Cpu). k.c) (same.same) ∙ ap (λ (k : Cpu). k.c) on;
        memory = ap (λ (k : Cpu). k.mem) (sym on);
        shows = ap (λ (k : Cpu). seen k.log) (sym on);
      }

  home : GoesHome call
  home = by (calls.is_refused call) refl (calls.is_leaving call.from.s (calls.after call)) refl
    where
      by : (t : Bool) → calls.is_refused call ≡ t → (u : Bool)
          → calls.is_leaving call.from.s (calls.after call) ≡ u → GoesHome call
      by true is u leaves = refused_home is
      by false is true leaves = leaving_home is leaves
      by false is false leaves = plain_home is leaves

  pub came : Came call more
  came = record {
    n = home.left + call.steps;
    same = same;
    returned = returned;
    over = home.over;
    carry = home.carry;
    shows = ap (λ (k : Cpu). seen k.log) same.same ∙ sym home.shows;
    keeps = λ b is. kept_same b is ∙ ap (λ (m : ℕ → ℕ). m b) (sym home.memory);
  }

-- a call whose answer is decided
module _ (call : calls.Call) (more : List calls.Call) (session : calls.IsSession (call ∷ more)) where
  abbrev it : Cpu
  it = calls.after call

  -- what its first step finds
  abbrev first : Cpu
  first = changed (call.others 0) call.from

  abbrev Decided : ℕ → Type 0
  Decided k = let now = amid call.from.s call.others k call.from in
      IsDecided now true × (now.s ≡ call.from.s)

  refused_decided : calls.is_refused call ≡ true → IsDecided it (calls.answer call) × (it.s ≡ call.from.s)
  refused_decided is =
      let two = both_true (nat_eq call.steps 1) (calls.finds_busy call.routine call.from.mem) is in
      let once = eqb-true call.steps 1 two.0 in
      let alone = subst (λ k. AreHarmless (guards (is_kept (calls.is_table call more)) call.from.s) call.from.s
      call.others k call.from) once session.2 in
      let found : ((b : ℕ) → is_kept (calls.is_table call more) b ≡ true → call.others 0 b ≡ call.from.mem b) =
      λ b k. alone.0 b (left_true (is_kept (calls.is_table call more) b) _ k) in
      let phase = found 0x10 refl in
      let small = session.0.loaded.bytes 0x10 in
      let done = looked first (λ i h. found (0x6800 + i) (code_kept (calls.is_table call more) (0x6800 + i)
      (both (nat_le 0x6800 (0x6800 + i)) (nat_lt (0x6800 + i) 0x6A87) (le-leb 0x6800 (0x6800 + i) (omega arith))
      (le-leb (suc (0x6800 + i)) 0x6A87 (omega (arith, h))))) ∙ session.0.loaded.code i h)
      (omega (arith, phase, small)) call.routine session.0.entry
      (busy_by call.routine (call.others 0) call.from.mem phase ∙ two.1) in
      let now = subst Decided (sym once) done in (
        subst (λ (c : Bool). IsDecided it c) (sym (ap (λ (t : Bool). if t then true
            else (if calls.is_leaving call.from.s it then false else it.c)) is)) now.0,
        now.1,
      )
    where
      busy_by : (routine : Routine) (m mem : ℕ → ℕ) → m 0x10 ≡ mem 0x10
          → calls.finds_busy routine m ≡ calls.finds_busy routine mem
      busy_by (calls.Offer F) m mem e = ap (λ p. not (nat_eq p 2)) e
      busy_by calls.Redraw m mem e = ap (λ p. not (nat_eq p 2)) e
      busy_by (calls.Open F) m mem e = ap (λ p. not (nat_eq p 2)) e
      busy_by (calls.Puts Put) m mem e = ap (λ p. not (nat_eq p 7)) e
      busy_by (calls.Puts Pair) m mem e = ap (λ p. not (nat_eq p 7)) e
      busy_by calls.Close m mem e = ap (λ p. not (nat_eq p 7)) e
      busy_by _ m mem e = refl

  decided_now : calls.is_decided call ≡ true → IsDecided it (calls.answer call) × (it.s ≡ call.from.s)
  decided_now is = by (calls.is_refused call) refl
    where
      by : (t : Bool) → calls.is_refused call ≡ t → IsDecided it (calls.answer call) × (it.s ≡ call.from.s)
      by true refused = refused_decided refused
      by false not_refused =
          let leaves : calls.is_leaving call.from.s it ≡ true =
          sym (ap (λ (t : Bool). t || calls.is_leaving call.from.s it) not_refused) ∙ is in
          let level = level_of call.from.s it leaves in (
            subst (λ (c : Bool). IsDecided it c)
                (sym (ap (λ (t : Bool). if t then true else (if calls.is_leaving call.from.s it then false else it.c)) not_refused
                ∙ ap (λ (t : Bool). if t then false else it.c) leaves))
                (leaving it (subst (λ q. calls.is_leaving q it ≡ true) (sym level) leaves)),
            level,
          )

pub calls_decide : CallsDecide
calls_decide call more session is = decided_now call more session is

-- calls that nobody interrupts are among them: each step finds memory as the one before it left it
pub still : (s n : ℕ) (cpu : Cpu) → amid s (λ k. (run s k cpu).mem) n cpu ≡ run s n cpu
still s zero cpu = refl
still s (suc n) cpu = still s n (turn s cpu)

pub still_harmless : (guard : ℕ → ℕ → Bool) (s n : ℕ) (cpu : Cpu)
    → AreHarmless guard s (λ k. (run s k cpu).mem) n cpu
still_harmless guard s zero cpu = tt
still_harmless guard s (suc n) cpu = ((λ b is. refl), still_harmless guard s n (turn s cpu))

-- an interrupt at the call's instruction number n, which changes memory so; else nobody interrupts
abbrev pub once : ℕ → ((ℕ → ℕ) → ℕ → ℕ) → ℕ → Cpu → ℕ → ℕ → ℕ
once zero change s cpu zero = change cpu.mem
once zero change s cpu (suc k) = (run s k (turn s (changed (change cpu.mem) cpu))).mem
once (suc n) change s cpu zero = cpu.mem
once (suc n) change s cpu (suc k) = once n change s (turn s cpu) k

-- it is harmless where it leaves what is guarded then
pub once_harmless : (guard : ℕ → ℕ → Bool) (change : (ℕ → ℕ) → ℕ → ℕ) (n s m : ℕ) (cpu : Cpu)
    → ((b : ℕ) → guard (run s n cpu).s b ≡ true → change (run s n cpu).mem b ≡ (run s n cpu).mem b)
    → AreHarmless guard s (once n change s cpu) m cpu
once_harmless guard change n s zero cpu leaves = tt
once_harmless guard change zero s (suc m) cpu leaves =
    ((λ b is. leaves b is), still_harmless guard s m (turn s (changed (change cpu.mem) cpu)))
once_harmless guard change (suc n) s (suc m) cpu leaves =
    ((λ b is. refl), once_harmless guard change n s m (turn s cpu) leaves)
