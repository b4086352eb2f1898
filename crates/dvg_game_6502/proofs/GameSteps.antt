-- A play between calls of the driver: the game's instructions, and its NMI's.
use Rattle.std.proofs.Common.{◌≡◌, ◌⊎◌, inl, inr, ℕ, suc, ◌+◌, ◌/◌, ◌%◌, ◌<◌, ◌≤◌, Bool, true, false, List, []}
use Rattle.std.proofs.Common.{◌∷◌, refl, sym, ap, ◌∙◌, subst, arith, le-leb, leb-true}
use Rattle.std.specs.Prelude.{◌&&◌, ◌||◌, not, nat_le, nat_lt, if◌then◌else◌}
use Rattle.std.proofs.lemmas.Bool.{or_right}
use Rattle.dvg_calls_6502.specs.Processor.{Cpu, flags_byte, put, stack_place}
use Rattle.dvg_calls_6502.specs.Amid as driver
use Rattle.dvg_calls_6502.specs.Board.{is_own, is_ram, seen}
use Rattle.dvg_calls_6502.specs.Calls.{Call, bounds}
use Rattle.dvg_calls_6502.proofs.Memory.{put_small}
use Rattle.dvg_calls_6502.proofs.Resuming.{bit_small}
use Rattle.dvg_game_rules.specs.Kinds.{kind_of}
use Rattle.dvg_game_rules.specs.Machine.{Choice, IsRun, State, begins, calling, nmi, restarts, step}
use Rattle.dvg_game_rules.specs.Between.{is_drivers}
use Rattle.dvg_game_rules.specs.Checker.{first, is_code, places}
use Rattle.dvg_game_rules.specs.Safe.{IsSafe}
use Rattle.dvg_game_rules.specs.Alike.{idle, of_cpu}
use Rattle.dvg_game_rules.proofs.Between.{leaves_alone}
use Rattle.dvg_game_rules.proofs.Facts.{both_true, inside}
use Rattle.dvg_game_rules.proofs.Memory.{between, either, other}
use Rattle.dvg_game_6502.specs.Play
use Rattle.dvg_game_6502.specs.Play.{Begins, IsByteWide, done, interrupted, made}
use Rattle.dvg_game_6502.specs.Open.{InRom, Rested}
use Rattle.dvg_game_6502.proofs.CheckerFollows.{along, Followed, follow, homeless, restarts_same}
use Rattle.dvg_game_6502.proofs.Bearers.{Bearer}
use Rattle.dvg_game_6502.proofs.Stages.{InGame, Rests, IsAccepted, safe_at}

-- the game's code isn't the driver's
pub outside_code : (pc : ℕ) → is_code pc ≡ true → driver.is_code pc ≡ false
outside_code pc is = by (nat_lt pc 0x6A87) refl (nat_le 0x6800 pc)
  where
    low : first ≤ pc
    low = leb-true first pc (both_true (nat_le first pc) (nat_lt pc (first + places)) is).0

    by : (t : Bool) → nat_lt pc 0x6A87 ≡ t → (u : Bool) → (u && t) ≡ false
    by false less true = refl
    by false less false = refl
    by true less u = let high = leb-true (suc pc) 0x6A87 less in let at = low in absurd (omega (arith, high, at))

pub made_none : (cpu new : Cpu) → driver.is_code cpu.pc ≡ false → made cpu new ≡ []
made_none cpu new out = ap (λ (t : Bool). if t then seen new.log else []) out

pub own_too : (b : ℕ) → is_own b ≡ true → is_drivers b ≡ true
own_too b is = by (between 0x10 0x1B b is)
  where
    by : (0x10 ≤ b) × (b < 0x1B) → is_drivers b ≡ true
    by page = by_parts (nat_le 0x10 b) (nat_lt b 0x21) (nat_le 0x1B b) _ _ (le-leb 0x10 b page.0)
        (let high = page.1 in le-leb (suc b) 0x21 (omega (arith, high))) (less (nat_le 0x1B b) refl)
      where
        less : (t : Bool) → nat_le 0x1B b ≡ t → t ≡ false
        less false is = refl
        less true is = let low = leb-true 0x1B b is in let high = page.1 in absurd (omega (arith, low, high))

        by_parts : (t u v w x : Bool) → t ≡ true → u ≡ true → v ≡ false → (((t && u) && not (v && w)) || x) ≡ true
        by_parts true true false w x one two three = refl
        by_parts false u v w x one two three = absurd (cc)
        by_parts true false v w x one two three = absurd (cc)
        by_parts true true true w x one two three = absurd (cc)

ram_too : (b : ℕ) → is_ram b ≡ true → is_drivers b ≡ true
ram_too b is = by _ _ (nat_le 0x4000 b && nat_lt b 0x4800) is
  where
    by : (t u v : Bool) → v ≡ true → (t || (u || v)) ≡ true
    by true u v one = refl
    by false true v one = refl
    by false false true one = refl
    by false false false one = absurd (cc)

needed_too : (b : ℕ) → (is_own b || is_ram b) ≡ true → is_drivers b ≡ true
needed_too b is = by (either (is_own b) (is_ram b) is)
  where
    by : (is_own b ≡ true) ⊎ (is_ram b ≡ true) → is_drivers b ≡ true
    by (inl own) = own_too b own
    by (inr ram) = ram_too b ram

-- what a memory leaves that is needed between calls
pub rested_on : (R : List ℕ) (calls : List Call) (mem now : ℕ → ℕ)
    → ((b : ℕ) → (is_own b || is_ram b) ≡ true → now b ≡ mem b)
    → ((b : ℕ) → (bounds calls).0 ≤ b → b < (bounds calls).1 → now b ≡ mem b) → Rested R calls mem → Rested R calls now
rested_on R [] mem now own table rested = absurd rested
rested_on R (older ∷ calls) mem now own table rested = (
  rested.0,
  rested.1,
  (λ b is. own b is ∙ rested.2 b is),
  (λ b low high. table b low high ∙ rested.3 b low high),
)

-- an NMI leaves bytes
pub flags_small : (asked : Bool) (cpu : Cpu) → flags_byte asked cpu < 256
flags_small asked cpu =
    let b = bit_small asked in
    let n = bit_small cpu.n in
    let v = bit_small cpu.v in
    let d = bit_small cpu.d in
    let i = bit_small cpu.i in
    let z = bit_small cpu.z in
    let c = bit_small cpu.c in
    omega (arith, b, n, v, d, i, z, c)

pub bytes_pushed : (cpu : Cpu) → IsByteWide cpu → cpu.pc < 65536 → IsByteWide (interrupted cpu)
bytes_pushed cpu bytes low = record {
  a = bytes.a;
  x = bytes.x;
  y = bytes.y;
  s = omega arith;
  mem = put_small (stack_place (cpu.s + 254)) (flags_byte false cpu)
      (put (stack_place (cpu.s + 255)) (cpu.pc % 256) (put (stack_place cpu.s) (cpu.pc / 256) cpu.mem))
      (flags_small false cpu)
      (put_small (stack_place (cpu.s + 255)) (cpu.pc % 256) (put (stack_place cpu.s) (cpu.pc / 256) cpu.mem)
      (omega arith)
      (put_small (stack_place cpu.s) (cpu.pc / 256) cpu.mem (omega (arith, low)) bytes.mem));
}

-- and writes on the stack alone
pub pushed_off : (cpu : Cpu) (b : ℕ) → (b < 0x100) ⊎ (0x200 ≤ b) → (interrupted cpu).mem b ≡ cpu.mem b
pushed_off cpu b off =
    other (stack_place (cpu.s + 254)) (flags_byte false cpu)
    (put (stack_place (cpu.s + 255)) (cpu.pc % 256) (put (stack_place cpu.s) (cpu.pc / 256) cpu.mem)) b
    (λ is. apart off (cpu.s + 254) is)
    ∙ other (stack_place (cpu.s + 255)) (cpu.pc % 256) (put (stack_place cpu.s) (cpu.pc / 256) cpu.mem) b
    (λ is. apart off (cpu.s + 255) is)
    ∙ other (stack_place cpu.s) (cpu.pc / 256) cpu.mem b (λ is. apart off cpu.s is)
  where
    apart : (b < 0x100) ⊎ (0x200 ≤ b) → (k : ℕ) → b ≡ stack_place k → ⊥
    apart (inl less) k is = omega (arith, less, is)
    apart (inr more) k is = omega (arith, more, is)

-- below where it came
pub pushed_below : (cpu : Cpu) (b : ℕ) → 2 ≤ cpu.s → cpu.s ≤ 255 → (b < 0x100) ⊎ (0x100 + cpu.s < b)
    → (interrupted cpu).mem b ≡ cpu.mem b
pushed_below cpu b some most off =
    other (stack_place (cpu.s + 254)) (flags_byte false cpu)
    (put (stack_place (cpu.s + 255)) (cpu.pc % 256) (put (stack_place cpu.s) (cpu.pc / 256) cpu.mem)) b
    (λ is. apart off (cpu.s + 254) (omega arith) is)
    ∙ other (stack_place (cpu.s + 255)) (cpu.pc % 256) (put (stack_place cpu.s) (cpu.pc / 256) cpu.mem) b
    (λ is. apart off (cpu.s + 255) (omega arith) is)
    ∙ other (stack_place cpu.s) (cpu.pc / 256) cpu.mem b (λ is. apart off cpu.s (omega arith) is)
  where
    apart : (b < 0x100) ⊎ (0x100 + cpu.s < b) → (k : ℕ) → k % 256 ≤ cpu.s → b ≡ stack_place k → ⊥
    apart (inl less) k low is = omega (arith, less, is)
    apart (inr more) k low is = omega (arith, more, is, low)

pub needed_off : (b : ℕ) → (is_own b || is_ram b) ≡ true → (b < 0x100) ⊎ (0x200 ≤ b)
needed_off b is = by (either (is_own b) (is_ram b) is)
  where
    by : (is_own b ≡ true) ⊎ (is_ram b ≡ true) → (b < 0x100) ⊎ (0x200 ≤ b)
    by (inl own) = let high = (between 0x10 0x1B b own).1 in inl (omega (arith, high))
    by (inr ram) = let low = (between 0x4000 0x4800 b ram).0 in inr (omega (arith, low))

-- the choice of an NMI that pushes these flags
abbrev pub pushing : ℕ → Choice
pushing byte = record {
  a = 0;
  x = 0;
  y = 0;
  index = 0;
  byte = byte;
  taken = false;
  left = λ b. 0;
  since = 0;
  place = 0;
  deep = 0;
}

-- a place of the vector RAM isn't on the stack
ram_off : (b : ℕ) → is_ram b ≡ true → (b < 0x100) ⊎ (0x200 ≤ b)
ram_off b is = needed_off b (or_right (is_own b) (is_ram b) is)

-- a run of the checker's machine begins there
pub run_begins : (rom : ℕ → ℕ) (start : ℕ) (cpu : Cpu) (since : ℕ) → Begins rom start cpu
    → IsRun rom start (record (idle cpu) { since = since })
run_begins rom start cpu since is = begins (record (idle cpu) { since = since }) (record {
  loaded = is.loaded;
  entry = is.entry;
  stack = is.stack;
  calls = refl;
  amid = refl;
  home = refl;
  blank = refl;
})

pub game_begins : (R : List ℕ) (B : Bearer R) (rom : ℕ → ℕ) (start : ℕ) (cpu : Cpu) (since : ℕ) (w : B.World)
    (calls : List Call) → B.Between calls cpu.mem w
    → ((b : ℕ) → (bounds calls).0 ≤ b → b < (bounds calls).1 → InRom b) → Begins rom start cpu
    → InGame R B rom start cpu since w
game_begins R B rom start cpu since w calls between tables is = record {
  st = record (idle cpu) { since = since };
  run = run_begins rom start cpu since is;
  homeless = refl;
  time = refl;
  bytes = is.bytes;
  calls = calls;
  between = between;
  tables = tables;
  rests = λ awake. absurd (cc);
}

module _ {R : List ℕ} {B : Bearer R} {rom : ℕ → ℕ} {start : ℕ} (game : IsAccepted rom start)
    {cpu : Cpu} {since : ℕ} {w : B.World} (g : InGame R B rom start cpu since w) where
  abbrev here : State
  here = of_cpu cpu g.st

  pub safe : IsSafe rom here
  safe = safe_at game here g.run

  pub nowhere : driver.is_code cpu.pc ≡ false
  nowhere = outside_code cpu.pc safe.inside

  pub game_steps : (flags : ℕ → ℕ) → Play.restarts cpu ≡ false → calling (kind_of (cpu.mem cpu.pc)) here ≡ false
      → IsByteWide (done flags cpu) → InGame R B rom start (done flags cpu) (suc since) w
  game_steps flags go calls bytes = record {
    st = new;
    run = did.run;
    homeless = homeless (kind_of (cpu.mem cpu.pc)) did.choice here g.homeless calls;
    time = (along (kind_of (cpu.mem cpu.pc)) did.choice here calls).since ∙ ap suc g.time;
    bytes = bytes;
    calls = g.calls;
    between = B.aside g.calls cpu g.st flags w g.bytes safe.next g.between;
    tables = g.tables;
    rests = λ awake. on awake (g.rests ((along (kind_of (cpu.mem cpu.pc)) did.choice here calls).awake awake));
  }
    where
      did : Followed rom start cpu (done flags cpu) g.st
      did = follow rom start cpu g.st flags g.run go calls (λ is. g.homeless) g.bytes.x g.bytes.y

      new : State
      new = step did.choice here

      in_rom : (b : ℕ) → InRom b → (done flags cpu).mem b ≡ cpu.mem b
      in_rom b two = (safe_at game (of_cpu (done flags cpu) new) did.run).rom_kept b two.0 two.1
          ∙ sym (safe.rom_kept b two.0 two.1)

      needed : new.awake ≡ true → (b : ℕ) → (is_own b || is_ram b) ≡ true → (done flags cpu).mem b ≡ cpu.mem b
      needed awake b is = by (leaves_alone rom start game.notes game.yes here g.run did.choice (sym
          (restarts_same cpu g.st) ∙ go)
          (ap (λ t. t && not (restarts here)) calls))
        where
          by : (new.awake ≡ false) ⊎ ((b : ℕ) → is_drivers b ≡ true → new.mem b ≡ here.mem b)
              → (done flags cpu).mem b ≡ cpu.mem b
          by (inl asleep) = absurd (let e = sym asleep ∙ awake in cc)
          by (inr same) = sym (did.alike.mem b) ∙ same b (needed_too b is)

      on : new.awake ≡ true → Rests R g.calls cpu.mem g.st.blank → Rests R g.calls (done flags cpu).mem new.blank
      on awake r = record {
        rested = rested_on R g.calls cpu.mem (done flags cpu).mem (needed awake)
            (λ b low high. in_rom b (g.tables b low high)) r.rested;
        frame = λ blank. r.frame (sym (along (kind_of (cpu.mem cpu.pc)) did.choice here calls).blank ∙ blank);
      }

  pub game_nmi : 860 ≤ since → InGame R B rom start (interrupted cpu) 0 w
  game_nmi late = record {
    st = Rattle.dvg_game_rules.specs.Machine.interrupted (pushing (flags_byte false cpu)) here;
    run = nmi (pushing (flags_byte false cpu)) g.run (subst (λ n. 860 ≤ n) (sym g.time) late);
    homeless = g.homeless;
    time = refl;
    bytes = bytes_pushed cpu g.bytes low;
    calls = g.calls;
    between = B.keeps g.calls cpu.mem (interrupted cpu).mem w (λ b is. pushed_off cpu b (ram_off b is)) g.between;
    tables = g.tables;
    rests = λ awake. on (g.rests awake);
  }
    where
      low : cpu.pc < 65536
      low = let high = (inside cpu.pc safe.inside).1 in omega (arith, high)

      on : Rests R g.calls cpu.mem g.st.blank → Rests R g.calls (interrupted cpu).mem g.st.blank
      on r = record {
        rested = rested_on R g.calls cpu.mem (interrupted cpu).mem (λ b is. pushed_off cpu b (needed_off b is))
            (λ b low high. let far = (g.tables b low high).0 in pushed_off cpu b (inr (omega (arith, far)))) r.rested;
        frame = r.frame;
      }
