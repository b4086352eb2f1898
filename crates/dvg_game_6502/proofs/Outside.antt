-- What is outside turns, at any time: a play stands as it stood.
use Rattle.std.proofs.Common.{◌≡◌, ◌⊎◌, inl, inr, ℕ, ◌+◌, ◌<◌, ◌≤◌, Bool, true, false, List, refl, ◌∙◌, arith, eqb-true}
use Rattle.std.specs.Prelude.{◌&&◌, ◌||◌, not, nat_eq}
use Rattle.std.proofs.lemmas.Bool.{or_left, or_right}
use Rattle.dvg_calls_6502.specs.Processor.{Cpu, Access, stack_place}
use Rattle.dvg_calls_6502.specs.Amid as driver
use Rattle.dvg_calls_6502.specs.Amid.{changed, guards, is_kept, is_work}
use Rattle.dvg_calls_6502.specs.Board.{is_own, is_ram, is_readable}
use Rattle.dvg_calls_6502.specs.Calls.{Call, Routine}
use Rattle.dvg_game_rules.specs.Machine.{State, IsTurned, is_outside, turns}
use Rattle.dvg_game_rules.proofs.Facts.{both_true}
use Rattle.dvg_game_rules.proofs.Memory.{between, either}
use Rattle.dvg_game_rules.proofs.OutsideTurns.{low_inside, readable_inside, rom_inside}
use Rattle.dvg_game_6502.specs.Play.{IsByteWide}
use Rattle.dvg_game_6502.specs.Open.{InRom}
use Rattle.dvg_game_6502.proofs.Bearers.{Bearer}
use Rattle.dvg_game_6502.proofs.GameSteps.{rested_on}
use Rattle.dvg_game_6502.proofs.Stages.{Back, jmp, jsr, InDriver, InGame, InNmi, Rests, Stage}

pub stack_inside : (k : ℕ) → k ≤ 255 → is_outside (0x100 + k) ≡ false
stack_inside k few = low_inside (0x100 + k) (omega (arith, few))

own_inside : (b : ℕ) → is_own b ≡ true → is_outside b ≡ false
own_inside b is = let high = (between 0x10 0x1B b is).1 in low_inside b (omega (arith, high))

-- what is needed between calls isn't outside
pub needed_inside : (b : ℕ) → (is_own b || is_ram b) ≡ true → is_outside b ≡ false
needed_inside b is = by (either (is_own b) (is_ram b) is)
  where
    by : (is_own b ≡ true) ⊎ (is_ram b ≡ true) → is_outside b ≡ false
    by (inl own) = own_inside b own
    by (inr ram) = readable_inside b (or_left (is_ram b) _ ram)

-- and so is what is guarded amid a call
pub guard_is_inside : (tables : ℕ → Bool) → ((b : ℕ) → tables b ≡ true → InRom b) → (s now b : ℕ)
    → guards (is_kept tables) s now b ≡ true → is_outside b ≡ false
guard_is_inside tables in_rom s now b is = one (either (is_kept tables b) _ is)
  where
    last : (is_readable b ≡ true) ⊎ (tables b ≡ true) → is_outside b ≡ false
    last (inl readable) = readable_inside b readable
    last (inr table) = let two = in_rom b table in rom_inside b two.0 two.1

    four : (driver.is_code b ≡ true) ⊎ ((is_readable b || tables b) ≡ true) → is_outside b ≡ false
    four (inl code) = let two = between 0x6800 0x6A87 b code in let low = two.0 in let high = two.1 in
        rom_inside b (omega (arith, low)) (omega (arith, high))
    four (inr more) = last (either (is_readable b) _ more)

    three : (is_work b ≡ true) ⊎ ((driver.is_code b || (is_readable b || tables b)) ≡ true) → is_outside b ≡ false
    three (inl work) = let high = (between 0x1B 0x21 b work).1 in low_inside b (omega (arith, high))
    three (inr more) = four (either (driver.is_code b) _ more)

    two : (is_own b ≡ true) ⊎ ((is_work b || (driver.is_code b || (is_readable b || tables b))) ≡ true)
        → is_outside b ≡ false
    two (inl own) = own_inside b own
    two (inr more) = three (either (is_work b) _ more)

    stack : (nat_eq b (stack_place (now + 1)) ≡ true) ⊎ (nat_eq b (stack_place (now + 2)) ≡ true) → is_outside b ≡ false
    stack (inl first) = let at = eqb-true b (stack_place (now + 1)) first in low_inside b (omega (arith, at))
    stack (inr second) = let at = eqb-true b (stack_place (now + 2)) second in low_inside b (omega (arith, at))

    one : (is_kept tables b ≡ true) ⊎ ((not (nat_eq now s)
        && (nat_eq b (stack_place (now + 1)) || nat_eq b (stack_place (now + 2)))) ≡ true) → is_outside b ≡ false
    one (inl kept) = two (either (is_own b) _ kept)
    one (inr more) = stack (either (nat_eq b (stack_place (now + 1))) _ (both_true (not (nat_eq now s)) _ more).1)

-- memory alone is other
pub other_bytes : (cpu : Cpu) (mem : ℕ → ℕ) → IsByteWide cpu → ((b : ℕ) → mem b < 256) → IsByteWide (changed mem cpu)
other_bytes cpu mem bytes small = record { a = bytes.a; x = bytes.x; y = bytes.y; s = bytes.s; mem = small }

-- where the driver returns to stands on the stack
pub back_turns : (st : State) (old mem : ℕ → ℕ) → IsTurned old mem → (s : ℕ) → st.s ≤ 255 → Back st old s → Back st mem s
back_turns st old mem same s most (jsr is level one two) = jsr is level
    (same (0x100 + (s + 1)) (stack_inside (s + 1) (omega (arith, level, most))) ∙ one)
    (same (0x100 + (s + 2)) (stack_inside (s + 2) (omega (arith, level, most))) ∙ two)
back_turns st old mem same s most (jmp is level) = jmp is level

-- a call is borne along where its processor's memory turns to this
abbrev Carries : {R : List ℕ} (B : Bearer R) → Cpu → (ℕ → ℕ) → B.World → B.World → Type 0
Carries B cpu mem w v = (routine : Routine) (s : ℕ) (calls : List Call) (mine : List Access)
    → B.Amid routine s calls cpu mine w → B.Amid routine s calls (changed mem cpu) mine v

module _ {R : List ℕ} {B : Bearer R} {rom : ℕ → ℕ} {start : ℕ} {w v : B.World} where
  -- in a call of the driver
  driver_moves : {cpu : Cpu} (mem : ℕ → ℕ) → ((b : ℕ) → mem b < 256) → IsTurned cpu.mem mem → Carries B cpu mem w v
      → InDriver R B rom start cpu w → InDriver R B rom start (changed mem cpu) v
  driver_moves {cpu} mem small same carries d = record {
    st = d.st;
    run = d.run;
    outside = d.outside;
    homeless = d.homeless;
    calls_it = d.calls_it;
    goes = d.goes;
    routine = d.routine;
    to = d.to;
    s = d.s;
    back = back_turns d.st cpu.mem mem same d.s d.most d.back;
    calls = d.calls;
    mine = d.mine;
    doing = carries d.routine d.s d.calls d.mine d.doing;
    most = d.most;
    top = d.top;
    level = d.level;
    place = d.place;
    rom_kept = λ b low high. same b (rom_inside b low high) ∙ d.rom_kept b low high;
    stack_kept = λ b low high. same b (low_inside b high) ∙ d.stack_kept b low high;
    bytes = other_bytes cpu mem d.bytes small;
    frame = d.frame;
  }

  -- in the game
  game_moves : {cpu : Cpu} {since : ℕ} (mem : ℕ → ℕ) → ((b : ℕ) → mem b < 256) → IsTurned cpu.mem mem
      → ((calls : List Call) → B.Between calls cpu.mem w → B.Between calls mem v)
      → InGame R B rom start cpu since w → InGame R B rom start (changed mem cpu) since v
  game_moves {cpu} mem small same keeping g = record {
    st = g.st;
    run = turns mem g.run same;
    homeless = g.homeless;
    time = g.time;
    bytes = other_bytes cpu mem g.bytes small;
    calls = g.calls;
    between = keeping g.calls g.between;
    tables = g.tables;
    rests = λ awake. on (g.rests awake);
  }
    where
      on : Rests R g.calls cpu.mem g.st.blank → Rests R g.calls mem g.st.blank
      on r = record {
        rested = rested_on R g.calls cpu.mem mem (λ b is. same b (needed_inside b is))
            (λ b low high. let two = g.tables b low high in same b (rom_inside b two.0 two.1)) r.rested;
        frame = r.frame;
      }

  -- in an NMI that came amid a call
  nmi_moves : {cpu : Cpu} {since : ℕ} (mem : ℕ → ℕ) → ((b : ℕ) → mem b < 256) → IsTurned cpu.mem mem
      → ((outer : Cpu) → Carries B outer outer.mem w v)
      → InNmi R B rom start cpu since w → InNmi R B rom start (changed mem cpu) since v
  unfolding driver_moves
  nmi_moves {cpu} mem small same amid n = record {
    outer = n.outer;
    driver = driver_moves n.outer.mem n.driver.bytes.mem (λ b inside. refl) (amid n.outer) n.driver;
    st = n.st;
    run = turns mem n.run same;
    time = n.time;
    amid = n.amid;
    home = n.home;
    blank = n.blank;
    bytes = other_bytes cpu mem n.bytes small;
    kept = λ b spared inside. same b inside ∙ n.kept b spared inside;
  }

  -- where what bears the calls goes on by itself
  pub stage_waits : {cpu : Cpu} {since : ℕ}
      → ((calls : List Call) (mem : ℕ → ℕ) → B.Between calls mem w → B.Between calls mem v)
      → ((outer : Cpu) → Carries B outer outer.mem w v)
      → Stage R B rom start cpu since w → Stage R B rom start cpu since v
  stage_waits {cpu} keeping carries (inl g) =
      inl (game_moves cpu.mem g.bytes.mem (λ b inside. refl) (λ calls. keeping calls cpu.mem) g)
  stage_waits {cpu} keeping carries (inr (inl d)) =
      inr (inl (driver_moves cpu.mem d.bytes.mem (λ b inside. refl) (carries cpu) d))
  stage_waits {cpu} keeping carries (inr (inr n)) =
      inr (inr (nmi_moves cpu.mem n.bytes.mem (λ b inside. refl) carries n))

-- where what is outside turns
module _ (R : List ℕ) (B : Bearer R) (rom : ℕ → ℕ) (start : ℕ) (cpu : Cpu) (since : ℕ) (w : B.World) (mem : ℕ → ℕ)
    (small : (b : ℕ) → mem b < 256) (same : IsTurned cpu.mem mem) where
  pub game_turns : InGame R B rom start cpu since w → InGame R B rom start (changed mem cpu) since w
  game_turns g = game_moves mem small same
      (λ calls before. B.keeps calls cpu.mem mem w (λ b is. same b (needed_inside b (or_right (is_own b) _ is))) before) g

  pub driver_turns : InDriver R B rom start cpu w → InDriver R B rom start (changed mem cpu) w
  driver_turns d = driver_moves mem small same (λ routine s calls mine doing. B.passes routine s calls cpu mine w mem
      (λ tables in_rom b guarded. same b (guard_is_inside tables in_rom s cpu.s b guarded)) doing) d

  pub nmi_turns : InNmi R B rom start cpu since w → InNmi R B rom start (changed mem cpu) since w
  nmi_turns n = nmi_moves mem small same (λ outer routine s calls mine doing. doing) n

  pub stage_turns : Stage R B rom start cpu since w → Stage R B rom start (changed mem cpu) since w
  stage_turns (inl g) = inl (game_turns g)
  stage_turns (inr (inl d)) = inr (inl (driver_turns d))
  stage_turns (inr (inr n)) = inr (inr (nmi_turns n))
