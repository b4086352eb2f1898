-- Each step of each call of a session stays in the driver's code, and writes what it may.
use Rattle.std.proofs.Common.{◌≡◌, ◌⊎◌, inl, inr, ℕ, zero, suc, ◌+◌, ◌-◌, ◌*◌, ◌%◌, ◌<◌, Bool, true}
use Rattle.std.proofs.Common.{false, List, [], ◌∷◌, ◌++◌, refl, sym, ap, ◌∙◌, subst, arith, eqb-true, eq-eqb, leb-true}
use Rattle.std.proofs.Common.{Some}
use Rattle.std.proofs.lemmas.Bool.{ne_eqb, or_left, or_right}
use Rattle.std.specs.Prelude.{nat_eq, nat_lt, nat_le, ◌&&◌, ◌||◌, not, if◌then◌else◌}
use Rattle.dvg_calls_6502.specs.Processor.{Access, Reads, Writes, Cpu, at_return, stack_place, step, turn}
use Rattle.dvg_calls_6502.specs.Amid.{AreHarmless, amid, changed, guards, is_code, is_kept}
use Rattle.dvg_calls_6502.specs.Board.{is_own}
use Rattle.dvg_calls_6502.specs.Routines.{Enters, Labs, Pair, Put, Vector}
use Rattle.dvg_calls_6502.specs.Calls as c
use Rattle.dvg_calls_6502.specs.Calls.{Routine, Call, after, entry, is_leaving, is_over, is_refused, is_table}
use Rattle.dvg_calls_6502.specs.Calls.{IsSessionBy, UnlessReset}
use Rattle.dvg_calls_6502.specs.Programs.{CallBrings}
use Rattle.dvg_game_rules.proofs.Facts.{both_true}
use Rattle.dvg_game_6502.specs.Stays.{CallsStay}
use Rattle.dvg_game_6502.proofs.Claims.{AreHard, Nothing, Claim, Unknown, Ready, Sized, Holds, HoldsIn}
use Rattle.dvg_game_6502.proofs.Claims.{Means, Note, is_known, Low, Blank, Aims, Inside}
use Rattle.dvg_game_6502.proofs.Notes.{lookup, noted, notes}
use Rattle.dvg_game_6502.proofs.Rows.{byte_at, some_same}
use Rattle.dvg_game_6502.proofs.CallPlaces.{Good, Level, below, home, noted_is_code}
use Rattle.dvg_game_6502.proofs.CallSteps.{Turned, turned}
use Rattle.dvg_game_6502.proofs.HardLogs.{hard_session}
use Rattle.dvg_game_6502.proofs.Logs.{log_is_passive}
use Rattle.dvg_game_6502.proofs.OpenCall.{code_guarded}
use Rattle.dvg_game_6502.proofs.Sessions.{further, further_turns, session_goes_on}

-- the driver's bytes are guarded
own_guarded : (tables : ℕ → Bool) (s now b : ℕ) → is_own b ≡ true → guards (is_kept tables) s now b ≡ true
own_guarded tables s now b is = or_left (is_kept tables b) _ (or_left (is_own b) _ is)

-- so are the two bytes above S where it's lower
stack_guarded : (kept : ℕ → Bool) (s now b : ℕ) → nat_eq now s ≡ false
    → (b ≡ stack_place (now + 1)) ⊎ (b ≡ stack_place (now + 2)) → guards kept s now b ≡ true
stack_guarded kept s now b apart which =
    by (kept b) (nat_eq now s) (nat_eq b (stack_place (now + 1)))
    (nat_eq b (stack_place (now + 2))) apart (here which)
  where
    here : (b ≡ stack_place (now + 1)) ⊎ (b ≡ stack_place (now + 2))
        → (nat_eq b (stack_place (now + 1)) ≡ true) ⊎ (nat_eq b (stack_place (now + 2)) ≡ true)
    here (inl is) = inl (eq-eqb b (stack_place (now + 1)) is)
    here (inr is) = inr (eq-eqb b (stack_place (now + 2)) is)

    by : (t u v w : Bool) → u ≡ false → (v ≡ true) ⊎ (w ≡ true) → (t || (not u && (v || w))) ≡ true
    by true u v w a b = refl
    by false false true w a b = refl
    by false false false true a b = refl
    by false true v w a b = absurd (cc)
    by false false false false a (inl b) = absurd (cc)
    by false false false false a (inr b) = absurd (cc)

-- others that leave what is guarded leave what is known
good_changed : (awake : Bool) (tables : ℕ → Bool) (s : ℕ) (cpu : Cpu) (m : ℕ → ℕ)
    → ((b : ℕ) → guards (is_kept tables) s cpu.s b ≡ true → m b ≡ cpu.mem b) → Good awake s cpu
    → Good awake s (changed m cpu)
good_changed awake tables s cpu m same good = record {
  coded = λ b is. same b (code_guarded tables s cpu.s b is) ∙ good.coded b is;
  place = subst (λ (j : ℕ). j < 256) (sym (own 0x13 refl)) good.place;
  note = good.note;
  here = good.here;
  level = by good.level;
  claim = subst (λ j. Holds good.note.claim j (m 0x14) (m 0x15)) (sym (own 0x10 refl))
      (subst (λ j. Holds good.note.claim (cpu.mem 0x10) j (m 0x15)) (sym (own 0x14 refl))
      (subst (λ j. Holds good.note.claim (cpu.mem 0x10) (cpu.mem 0x14) j)
      (sym (own 0x15 refl)) good.claim));
  also = subst (λ j. Means good.note.also j cpu.a cpu.x cpu.y cpu.z cpu.n) (sym (own 0x10 refl)) good.also;
  aware = good.aware;
}
  where
    own : (b : ℕ) → is_own b ≡ true → m b ≡ cpu.mem b
    own b is = same b (own_guarded tables s cpu.s b is)

    by : Level s good.note.inner cpu → Level s good.note.inner (changed m cpu)
    by (home is) = home is
    by (below within small up back) = below within small up
        (ap (λ w. noted ((w + 256 * m (stack_place (cpu.s + 2)) + 1) % 65536))
        (same (stack_place (cpu.s + 1))
        (stack_guarded (is_kept tables) s cpu.s (stack_place (cpu.s + 1)) apart (inl refl)))
        ∙ ap (λ w. noted ((cpu.mem (stack_place (cpu.s + 1)) + 256 * w + 1) % 65536))
        (same (stack_place (cpu.s + 2))
        (stack_guarded (is_kept tables) s cpu.s (stack_place (cpu.s + 2)) apart (inr refl)))
        ∙ back)
      where
        apart : nat_eq cpu.s s ≡ false
        apart = ne_eqb cpu.s s (λ is. absurd (omega arith))

-- the log only grows
hard_rest : (new old : List Access) → AreHard (new ++ old) → AreHard old
hard_rest [] old hard = hard
hard_rest (Reads a byte ∷ new) old hard = hard_rest new old hard
hard_rest (Writes a byte ∷ new) old hard = hard_rest new old hard.1

hard_before : (s : ℕ) (cpu : Cpu) → AreHard (turn s cpu).log → AreHard cpu.log
hard_before s cpu hard = by (at_return s cpu) hard
  where
    by : (t : Bool) → AreHard (if t then cpu else step cpu).log → AreHard cpu.log
    by true hard = hard
    by false hard = hard_rest (step (record cpu { log = [] })).log cpu.log
        (subst (λ (k : Cpu). AreHard k.log) (log_is_passive cpu) hard)

hard_at_first : (s : ℕ) (n : ℕ) (others : ℕ → ℕ → ℕ) (cpu : Cpu) → AreHard (amid s others n cpu).log → AreHard cpu.log
hard_at_first s zero others cpu hard = hard
hard_at_first s (suc n) others cpu hard = hard_before s (changed (others 0) cpu)
    (hard_at_first s n (λ k. others (suc k)) (turn s (changed (others 0) cpu)) hard)

-- what is noted holds all along a call
good_amid : (awake : Bool) (tables : ℕ → Bool) (s : ℕ) → s < 256
    → (n : ℕ) (others : ℕ → ℕ → ℕ) (cpu : Cpu) → Good awake s cpu
    → AreHarmless (guards (is_kept tables) s) s others n cpu → AreHard (amid s others n cpu).log
    → Good awake s (amid s others n cpu)
good_amid awake tables s few zero others cpu good harmless hard = good
good_amid awake tables s few (suc n) others cpu good harmless hard =
    good_amid awake tables s few n (λ k. others (suc k)) (turn s (changed (others 0) cpu))
    (turned awake s few (changed (others 0) cpu)
    (good_changed awake tables s cpu (others 0) harmless.0 good)
    (hard_at_first s n (λ k. others (suc k))
    (turn s (changed (others 0) cpu)) hard)).good harmless.1 hard

-- what holds of the driver's bytes between two calls
abbrev IsReady : (ℕ → ℕ) → Type 0
IsReady mem = HoldsIn Ready mem

-- at a routine's entry
entered : (awake : Bool) (s at : ℕ) (claim : Claim) (within : Bool) (cpu : Cpu) → cpu.s ≡ s → Enters cpu at
    → noted at ≡ Some (record { inner = within; claim = claim; also = Nothing }) → HoldsIn claim cpu.mem
    → (awake ≡ true → is_known claim ≡ true) → Good awake s cpu
entered awake s at claim within cpu level enters there holds aware = record {
  coded = λ b is. code_at b is;
  place = enters.loaded.bytes 0x13;
  note = record { inner = within; claim = claim; also = Nothing };
  here = ap noted enters.entry ∙ there;
  level = home level;
  claim = holds;
  also = tt;
  aware = aware;
}
  where
    code_at : (b : ℕ) → is_code b ≡ true → cpu.mem b ≡ byte_at b
    code_at b is =
        let two = both_true (nat_le 0x6800 b) (nat_lt b 0x6A87) is in
        let low = leb-true 0x6800 b two.0 in
        let high = leb-true (suc b) 0x6A87 two.1 in
        let same : b ≡ 0x6800 + (b - 0x6800) = omega arith in
        ap cpu.mem same ∙ enters.loaded.code (b - 0x6800) (omega (arith, low, high))

-- a call of dvg_reset begins with nothing known
abbrev is_awake : Routine → Bool
is_awake c.Reset = false
is_awake routine = true

begun : (routine : Routine) (cpu : Cpu) → Enters cpu (entry routine) → (is_awake routine ≡ true → IsReady cpu.mem)
    → Good (is_awake routine) cpu.s cpu
begun c.Reset cpu enters ready = entered false cpu.s 0x6800 Unknown false cpu refl enters refl tt (λ is. absurd (cc))
begun c.Tick cpu enters ready = entered true cpu.s 0x686A Ready true cpu refl enters refl (ready refl) (λ is. refl)
begun c.Ticks cpu enters ready = entered true cpu.s 0x6860 Ready false cpu refl enters refl (ready refl) (λ is. refl)
begun c.Run cpu enters ready = entered true cpu.s 0x6809 Ready false cpu refl enters refl (ready refl) (λ is. refl)
begun (c.Offer F) cpu enters ready = entered true cpu.s 0x68FE Sized false cpu refl enters refl
    (enters.loaded.bytes 0x10, ready refl) (λ is. refl)
begun c.Redraw cpu enters ready = entered true cpu.s 0x6943 Ready false cpu refl enters refl (ready refl) (λ is. refl)
begun (c.Open F) cpu enters ready = entered true cpu.s 0x6924 Sized false cpu refl enters refl
    (enters.loaded.bytes 0x10, ready refl) (λ is. refl)
begun (c.Puts Put) cpu enters ready =
    entered true cpu.s 0x6957 Ready false cpu refl enters refl (ready refl) (λ is. refl)
begun (c.Puts Pair) cpu enters ready =
    entered true cpu.s 0x6989 Ready false cpu refl enters refl (ready refl) (λ is. refl)
begun (c.Puts Labs) cpu enters ready =
    entered true cpu.s 0x6979 Ready false cpu refl enters refl (ready refl) (λ is. refl)
begun (c.Puts Vector) cpu enters ready =
    entered true cpu.s 0x6A17 Ready false cpu refl enters refl (ready refl) (λ is. refl)
begun c.Close cpu enters ready = entered true cpu.s 0x6A00 Ready false cpu refl enters refl (ready refl) (λ is. refl)

-- what is known tells so, if it isn't nothing
ready_by : (claim : Claim) (mem : ℕ → ℕ) → is_known claim ≡ true → HoldsIn claim mem → IsReady mem
ready_by Ready mem is holds = holds
ready_by Sized mem is holds = holds.1
ready_by Low mem is holds = inl (let less : mem 0x10 < 6 = holds in omega arith)
ready_by Blank mem is holds = inl (let less : mem 0x10 < 6 = holds.0 in omega arith)
ready_by Aims mem is holds = inr holds
ready_by Inside mem is holds = inr (holds.0, holds.1, (let less = holds.2 in omega (arith, less)))
ready_by Unknown mem is holds = absurd (cc)

-- no RTS and no CLC stands where nothing is known
abbrev is_end : ℕ → Bool
is_end opcode = nat_eq opcode 0x60 || nat_eq opcode 0x18

abbrev end_known : List (ℕ × Note) → Bool
end_known [] = true
end_known (row ∷ rows) = (is_known row.1.claim || not (is_end (byte_at row.0))) && end_known rows

known_of : (table : List (ℕ × Note)) (at : ℕ) (note : Note) → end_known table ≡ true → lookup table at ≡ Some note
    → is_end (byte_at at) ≡ true → is_known note.claim ≡ true
known_of [] at note all is ends = absurd (cc)
known_of (row ∷ rows) at note all is ends =
    by (nat_eq row.0 at) refl (λ found. known_of rows at note two.1 found ends)
  where
    two : ((is_known row.1.claim || not (is_end (byte_at row.0))) ≡ true) × (end_known rows ≡ true)
    two = both_true (is_known row.1.claim || not (is_end (byte_at row.0))) (end_known rows) all

    either : (t u : Bool) → (t || not u) ≡ true → u ≡ true → t ≡ true
    either true u a b = refl
    either false true a b = absurd (cc)
    either false false a b = absurd (cc)

    by : (t : Bool) → nat_eq row.0 at ≡ t → (lookup rows at ≡ Some note → is_known note.claim ≡ true)
        → is_known note.claim ≡ true
    by true same rest =
        let it : row.1 ≡ note = some_same
        (sym (ap (λ (t : Bool). if t then Some row.1 else lookup rows at) same) ∙ is) in
        ap (λ (k : Note). is_known k.claim) (sym it)
        ∙ either (is_known row.1.claim) (is_end (byte_at row.0)) two.0
        (ap (λ a. is_end (byte_at a)) (eqb-true row.0 at same) ∙ ends)
    by false other rest = rest (sym (ap (λ (t : Bool). if t then Some row.1 else lookup rows at) other) ∙ is)

-- where a call ends the driver's bytes are ready
ready_at_end : (awake : Bool) (s : ℕ) (cpu : Cpu) → Good awake s cpu → is_end (cpu.mem cpu.pc) ≡ true → IsReady cpu.mem
ready_at_end awake s cpu good ends = ready_by good.note.claim cpu.mem
    (known_of notes cpu.pc good.note refl good.here
    (ap is_end (sym (good.coded cpu.pc (noted_is_code cpu.pc good.note good.here)))
    ∙ ends)) good.claim

ready_awake : (s : ℕ) (cpu : Cpu) → Good true s cpu → IsReady cpu.mem
ready_awake s cpu good = ready_by good.note.claim cpu.mem (good.aware refl) good.claim

returned_ends : (s : ℕ) (cpu : Cpu) → at_return s cpu ≡ true → is_end (cpu.mem cpu.pc) ≡ true
returned_ends s cpu is = or_left (nat_eq (cpu.mem cpu.pc) 0x60) _ (both_true (nat_eq (cpu.mem cpu.pc) 0x60) _ is).0

leaving_ends : (s : ℕ) (cpu : Cpu) → is_leaving s cpu ≡ true → is_end (cpu.mem cpu.pc) ≡ true
leaving_ends s cpu is = or_right (nat_eq (cpu.mem cpu.pc) 0x60) (nat_eq (cpu.mem cpu.pc) 0x18)
    (both_true (nat_eq (cpu.mem cpu.pc) 0x18) _
    (both_true (is_code (cpu.pc + 1)) _ (both_true (is_code cpu.pc) _ is).1).1).0

-- where a call is over
ready_over : (call : Call) (routine : Routine) → call.routine ≡ routine
    → Good (is_awake routine) call.from.s (after call) → is_over call ≡ true → IsReady (after call).mem
ready_over call c.Reset same good over =
    by (c.has_returned call) refl (is_refused call) refl
    (is_leaving call.from.s (after call)) refl over
  where
    never : is_refused call ≡ true → ⊥
    never is = absurd (let e = (both_true (nat_eq call.steps 1) _ is).1 in
        let f = sym (ap (λ r. c.finds_busy r call.from.mem) same) ∙ e in cc)

    by : (t : Bool) → c.has_returned call ≡ t → (u : Bool) → is_refused call ≡ u → (v : Bool)
        → is_leaving call.from.s (after call) ≡ v → (t || (u || v)) ≡ true → IsReady (after call).mem
    by true returned u refused v leaving over =
        ready_at_end false call.from.s (after call) good
        (returned_ends call.from.s (after call) returned)
    by false returned true refused v leaving over = absurd (never refused)
    by false returned false refused true leaving over =
        ready_at_end false call.from.s (after call) good
        (leaving_ends call.from.s (after call) leaving)
    by false returned false refused false leaving over = absurd (cc)
ready_over call routine same good over = ready_awake call.from.s (after call) good

-- others leave the driver's bytes as they are between two calls
ready_on : (mem now : ℕ → ℕ) → ((b : ℕ) → is_own b ≡ true → now b ≡ mem b) → IsReady mem → IsReady now
ready_on mem now own ready = subst (λ j. Holds Ready j (now 0x14) (now 0x15)) (sym (own 0x10 refl))
    (subst (λ j. Holds Ready (mem 0x10) j (now 0x15)) (sym (own 0x14 refl))
    (subst (λ j. Holds Ready (mem 0x10) (mem 0x14) j) (sym (own 0x15 refl)) ready))

-- what is noted holds after a call, if the driver's bytes are ready where it begins
good_from : (R : List ℕ) (call : Call) (calls : List Call) → IsSessionBy (CallBrings R) (call ∷ calls)
    → (c.Follows call calls × IsSessionBy (CallBrings R) calls → IsReady call.from.mem)
    → Good (is_awake call.routine) call.from.s (after call)
good_from R call calls session ready =
    good_amid (is_awake call.routine) (is_table call calls) call.from.s session.0.s
    call.steps call.others call.from
    (begun call.routine call.from session.0 (unless call.routine session.3)) session.2
    (hard_session R call calls session)
  where
    unless : (routine : Routine) → UnlessReset routine (c.Follows call calls × IsSessionBy (CallBrings R) calls)
        → is_awake routine ≡ true → IsReady call.from.mem
    unless c.Reset is awake = absurd (cc)
    unless _ is awake = ready is

-- and so after each call of a session
pub good_call : (R : List ℕ) (call : Call) (calls : List Call) → IsSessionBy (CallBrings R) (call ∷ calls)
    → Good (is_awake call.routine) call.from.s (after call)
good_call R call [] session = good_from R call [] session (λ two. absurd two.0)
good_call R call (older ∷ calls) session = good_from R call (older ∷ calls) session (λ two.
    ready_on (after older).mem call.from.mem two.0.1.own
    (ready_over older older.routine refl (good_call R older calls two.1) two.0.0))

pub calls_stay : CallsStay
calls_stay R call calls m session deep same = record {
  place = noted_is_code new.pc did.good.note did.good.here;
  level = by did.good.level;
  kept = did.kept;
}
  where
    new : Cpu
    new = turn call.from.s (changed m (after call))

    did : Turned (is_awake call.routine) call.from.s (changed m (after call))
        (turn call.from.s (changed m (after call)))
    did = turned (is_awake call.routine) call.from.s session.0.s (changed m (after call))
        (good_changed (is_awake call.routine) (is_table call calls) call.from.s (after call) m same
        (good_call R call calls session))
        (subst (λ (k : Cpu). AreHard k.log) (further_turns call m)
        (hard_session R (further call m) calls (session_goes_on R call calls m session same)))

    by : Level call.from.s did.good.note.inner (turn call.from.s (changed m (after call)))
        → ((turn call.from.s (changed m (after call))).s ≡ call.from.s)
        ⊎ ((turn call.from.s (changed m (after call))).s + 2 ≡ call.from.s)
    by (home is) = inl is
    by (below within small up back) =
        inr (low (turn call.from.s (changed m (after call))).s small up)
      where
        low : (now : ℕ) → now < 256 → (now + 2) % 256 ≡ call.from.s → now + 2 ≡ call.from.s
        low now small up = omega (arith, deep)
