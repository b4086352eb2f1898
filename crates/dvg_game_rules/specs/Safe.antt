-- What a checker's yes means.
use Rattle.std.specs.Prelude.{suc, nat_eq, ◌≡◌, ◌⊎◌, ℕ, ◌+◌, ◌%◌, ◌≤◌, Bool, true, false, None, Some, List, [], ◌∷◌}
use Rattle.std.specs.Prelude.{◌||◌}
use Rattle.dvg_calls_6502.specs.Code.{code}
use Rattle.dvg_calls_6502.specs.Processor.{stack_place}
use Rattle.dvg_game_rules.specs.Kinds.{Kind, Quiet, Reads, Transfer, Stores, Push, PushFlags, Pull, PullFlags, Branch, Jump}
use Rattle.dvg_game_rules.specs.Kinds.{Call, Return, Finish, Wild, kind_of}
use Rattle.dvg_game_rules.specs.Machine.{State, IsLoaded, word_at, is_driver, is_reset, is_own, is_operand, address, back_of}
use Rattle.dvg_game_rules.specs.Machine.{resumed_at, reset_vector, IsRun}
use Rattle.dvg_game_rules.specs.Checker.{goes_on, Notes, is_free, is_strobe, is_entry, is_code, accepts}

-- an address that a game may write: one of its own; if not amid an NMI, also dvg_y or dvg_x; and if
-- no call is open either, also one of the driver's, after which dvg_reset must be called
abbrev pub MayWrite : State → ℕ → Type 0
MayWrite st a = (is_free a ≡ true) ⊎ ((st.amid ≡ None) × ((is_operand a ≡ true)
    ⊎ ((is_own a ≡ true) × (st.calls ≡ []))))

-- a routine of the driver is called: by the program, with room on the stack, and dvg_reset first
pub record IsCalled (st : State) (to : ℕ) : Type 0 where
  pub entry : is_entry to ≡ true
  pub room : 36 ≤ st.s
  pub program : st.amid ≡ None
  pub awake : (is_reset to || st.awake) ≡ true
  -- a frame begins with a LABS, and isn't closed with nothing in it
  pub labs : goes_on to ≡ true → st.blank ≡ false

-- an RTS leads to where its call came from
abbrev pub ComesBack : State → Type 0
ComesBack st = (backs : List ℕ) × (st.calls ≡ back_of st ∷ backs)

abbrev pub InCase : Bool → Type 0 → Type 0 → Type 0
InCase true one other = one
InCase false one other = other

-- what the next instruction does is allowed
abbrev pub IsSafeBy : Kind → State → Type 0
IsSafeBy (Quiet sets bytes) st = Unit {0}
-- what is read by an address in the instruction is no strobe
IsSafeBy (Reads sets place) st = (index : ℕ) → is_strobe (address place st.mem st.pc index) ≡ false
IsSafeBy (Transfer from to) st = Unit {0}
IsSafeBy (Stores place) st = (index : ℕ) → MayWrite st (address place st.mem st.pc index)
IsSafeBy Push st = 1 ≤ st.s
IsSafeBy PushFlags st = 1 ≤ st.s
IsSafeBy Pull st = st.s + 1 ≤ 255
IsSafeBy PullFlags st = st.s + 1 ≤ 255
IsSafeBy Branch st = Unit {0}
IsSafeBy Jump st =
    let to = word_at st.mem (st.pc + 1) in
    InCase (nat_eq to (word_at st.mem reset_vector)) (st.amid ≡ None)
    (InCase (is_driver to) (IsCalled st to × ComesBack st) (Unit {0}))
IsSafeBy Call st = let to = word_at st.mem (st.pc + 1) in InCase (is_driver to) (IsCalled st to) (2 ≤ st.s)
IsSafeBy Return st = ComesBack st
-- an RTI leads to where the NMI came, with S, the flags, A, X and Y as they were there
IsSafeBy Finish st = st.amid ≡ Some (record {
  pc = resumed_at st;
  s = (st.s + 3) % 256;
  p = st.mem (stack_place (st.s + 1));
  a = st.a;
  x = st.x;
  y = st.y;
})
IsSafeBy Wild st = ⊥

-- these bytes stand there
abbrev pub BytesLieAt : List ℕ → (ℕ → ℕ) → ℕ → Type 0
BytesLieAt [] mem at = Unit {0}
BytesLieAt (byte ∷ bytes) mem at = (mem at ≡ byte) × BytesLieAt bytes mem (suc at)

pub record IsSafe (rom : ℕ → ℕ) (st : State) : Type 0 where
  pub rom_kept : IsLoaded rom st.mem
  pub driver : BytesLieAt code st.mem 0x6800
  -- PC is in the game's code, where calls of the driver are one step
  pub inside : is_code st.pc ≡ true
  pub next : IsSafeBy (kind_of (st.mem st.pc)) st
  -- no NMI comes amid another one
  pub alone : 860 ≤ st.since → st.amid ≡ None
  -- and where one may come there is room for it
  pub room : st.amid ≡ None → 32 ≤ st.s

-- where the checker accepts a ROM, each run of it is safe, all along, whatever the notes are
abbrev pub CheckedSafe : Type 0
CheckedSafe = (rom : ℕ → ℕ) (start : ℕ) (notes : Notes) → accepts rom start notes ≡ true
    → (st : State) → IsRun rom start st → IsSafe rom st
