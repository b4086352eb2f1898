-- The calls of the example: dvg_reset, and two calls of dvg_tick, which nobody interrupts, over a memory of zeros with the code.
use Rattle.std.proofs.Common.{◌≡◌, ℕ, zero, suc, ◌+◌, ◌<◌, Bool, true, false, List, [], ◌∷◌}
use Rattle.std.proofs.Common.{refl, sym, ap, ◌∙◌, arith, lit<, inl}
use Rattle.std.proofs.lemmas.List.{length-replicate, get_or-replicate}
use Rattle.std.proofs.lemmas.List.Elements.{All-replicate}
use Rattle.std.specs.Prelude.{nat_le, ◌||◌, slice_index, replicate}
use Rattle.dvg_mem.specs.Memory.{IsImage, IsRom}
use Rattle.dvg_calls_6502.specs.Processor.{Cpu, put, run, at_return}
use Rattle.dvg_calls_6502.specs.Amid.{guards, is_kept}
use Rattle.dvg_calls_6502.specs.Calls as calls
use Rattle.dvg_calls_6502.specs.Calls.{Routine, Call, IsSession, Follows, is_table, is_refused, is_leaving}
use Rattle.dvg_calls_6502.proofs.ProcessorRuns.{at}
use Rattle.dvg_calls_6502.proofs.Memory.{laid, page_of, in_page, put_page, loaded, AreSmall, le_not, out_of_page}
use Rattle.dvg_calls_6502.proofs.Interrupted.{still, still_harmless}
use Rattle.dvg_cells_board.specs.Example.{zeros}
use Rattle.dvg_cells_board.proofs.Example.{held}

pub is_rom : IsRom zeros
is_rom = record { count = inl (length-replicate {A = ℕ} 2048 0); bytes = All-replicate (λ b. b < 256) 2048 0 (lit< tt) }

pub is_image : IsImage zeros
is_image = record { count = length-replicate {A = ℕ} 2048 0; bytes = All-replicate (λ b. b < 256) 2048 0 (lit< tt) }

abbrev world : ℕ → ℕ
world b = 0

world_small : (b : ℕ) → world b < 256
world_small b = lit< tt

-- a routine is entered after a reset, with these bytes of the driver
abbrev state : (pc a s : ℕ) → List ℕ → Cpu
state pc a s page = at pc a 0 0 s false false false false false true (laid page world) (λ n. 0) []

abbrev pub reset_page : List ℕ
reset_page = page_of 0 0 0 0 0 0 0 0 0 0 0

abbrev tick_page : List ℕ
tick_page = page_of 0 0 3 0 0 0 0 0 0 0 0

abbrev look_page : List ℕ
look_page = page_of 1 0xE2 3 0 0 0 0 0 0 0 0

pub small : (phase free publish : ℕ) → phase < 256 → free < 256 → publish < 256
    → AreSmall (page_of phase free publish 0 0 0 0 0 0 0 0)
small phase free publish a b less =
    (a, (b, (less, (lit< tt, (lit< tt, (lit< tt, (lit< tt, (lit< tt, (lit< tt, (lit< tt, (lit< tt, tt)))))))))))

-- a call that nobody interrupts
abbrev pub others : Cpu → ℕ → ℕ → ℕ
others from k = (run from.s k from).mem

abbrev pub plain : Routine → ℕ → Cpu → Call
plain routine n from = record { routine = routine; from = from; steps = n; others = others from }

follows : (r : Routine) (from : Cpu) (n : ℕ) (olds : List Call) (call : Call) → at_return from.s (run from.s n from) ≡ true
    → (run from.s n from).mem ≡ call.from.mem → Follows call (plain r n from ∷ olds)
follows r from n olds call returned same =
    let e : (calls.after (plain r n from)).mem ≡ call.from.mem = ap (λ (c : Cpu). c.mem) (still from.s n from) ∙ same in (
      ap (λ (c : Cpu). at_return from.s c || (is_refused (plain r n from) || is_leaving from.s c)) (still from.s n from)
          ∙ ap (λ (t : Bool). t || (is_refused (plain r n from) || is_leaving from.s (run from.s n from))) returned,
      record {
        own = λ b is. ap (λ (m : ℕ → ℕ). m b) (sym e);
        ram = λ b is. ap (λ (m : ℕ → ℕ). m b) (sym e);
        table = λ writing b low high. ap (λ (m : ℕ → ℕ). m b) (sym e);
      },
    )

-- dvg_reset, over any memory
abbrev pub resetting : (ℕ → ℕ) → ℕ → Cpu
resetting mem s = at 0x6800 0 0 0 s false false false false false true (laid reset_page mem) (λ n. 0) []

pub resets : (mem : ℕ → ℕ) → ((b : ℕ) → mem b < 256) → (s n : ℕ) → s < 256
    → IsSession (plain calls.Reset n (resetting mem s) ∷ [])
resets mem bytes s n low = (
  record {
    entry = refl;
    log = refl;
    loaded = loaded reset_page mem (small 0 0 0 (lit< tt) (lit< tt) (lit< tt)) bytes;
    a = lit< tt;
    x = lit< tt;
    s = low;
  },
  tt,
  still_harmless (guards (is_kept (is_table (plain calls.Reset n (resetting mem s)) [])) s) s n (resetting mem s),
  tt,
)

abbrev pub reset_from : Cpu
reset_from = resetting world 0xFB

abbrev pub reset : ℕ → Call
reset n = plain calls.Reset n reset_from

pub reset_session : (n : ℕ) → IsSession (reset n ∷ [])
reset_session n = resets world world_small 0xFB n (lit< tt)

after_reset : (run 0xFB 4 reset_from).mem ≡ laid tick_page world
after_reset = ap (put 0x12 3) (put_page 0 0 (page_of 0 0 0 0 0 0 0 0 0 0 0) world (omega arith) refl)
    ∙ put_page 2 3 (page_of 0 0 0 0 0 0 0 0 0 0 0) world (omega arith) refl

abbrev pub tick_from : Cpu
tick_from = state 0x686A 3 0xFD tick_page

abbrev pub tick : ℕ → Call
tick n = plain calls.Tick n tick_from

pub tick_session : (n : ℕ) → IsSession (tick n ∷ reset 4 ∷ [])
tick_session n = (
  record {
    entry = refl;
    log = refl;
    loaded = loaded tick_page world (small 0 0 3 (lit< tt) (lit< tt) (lit< tt)) world_small;
    a = lit< tt;
    x = lit< tt;
    s = lit< tt;
  },
  tt,
  still_harmless (guards (is_kept (is_table (tick n) (reset 4 ∷ []))) 0xFD) 0xFD n tick_from,
  (follows calls.Reset reset_from 4 [] (tick n) refl after_reset, reset_session 4),
)

after_tick : (run 0xFD 8 tick_from).mem ≡ laid look_page world
after_tick = ap (put 0x10 1) (put_page 1 0xE2 (page_of 0 0 3 0 0 0 0 0 0 0 0) world (omega arith) refl)
    ∙ put_page 0 1 (page_of 0 0xE2 3 0 0 0 0 0 0 0 0) world (omega arith) refl

abbrev pub look_from : Cpu
look_from = state 0x686A 0xE2 0xFF look_page

abbrev pub look : ℕ → Call
look n = plain calls.Tick n look_from

pub look_session : (n : ℕ) → IsSession (look n ∷ tick 8 ∷ reset 4 ∷ [])
look_session n = (
  record {
    entry = refl;
    log = refl;
    loaded = loaded look_page world (small 1 0xE2 3 (lit< tt) (lit< tt) (lit< tt)) world_small;
    a = lit< tt;
    x = lit< tt;
    s = lit< tt;
  },
  tt,
  still_harmless (guards (is_kept (is_table (look n) (tick 8 ∷ reset 4 ∷ []))) 0xFF) 0xFF n look_from,
  (follows calls.Tick tick_from 8 (reset 4 ∷ []) (look n) refl after_tick, tick_session 8),
)

-- memories of bytes
pub reset_bytes : (b : ℕ) → laid reset_page world b < 256
reset_bytes = (loaded reset_page world (small 0 0 0 (lit< tt) (lit< tt) (lit< tt)) world_small).bytes

pub tick_bytes : (b : ℕ) → laid tick_page world b < 256
tick_bytes = (loaded tick_page world (small 0 0 3 (lit< tt) (lit< tt) (lit< tt)) world_small).bytes

pub look_bytes : (b : ℕ) → laid look_page world b < 256
look_bytes = (loaded look_page world (small 1 0xE2 3 (lit< tt) (lit< tt) (lit< tt)) world_small).bytes

-- the RAM is zeros, as the processor has it
pub shares : (a : ℕ) → a < 2048 → laid reset_page world (0x4000 + a) ≡ held a
shares a few =
    let page : in_page (0x4000 + a) ≡ false = out_of_page (0x4000 + a) (omega arith) in
    let code : nat_le 0x6800 (0x4000 + a) ≡ false = le_not 0x6800 (0x4000 + a) (omega arith) in
    rw (page, code) (sym (get_or-replicate 2048 a 0 0 few))

zeros_at : (n b : ℕ) → slice_index (replicate n 0) b < 256
zeros_at zero b = omega arith
zeros_at (suc n) zero = omega arith
zeros_at (suc n) (suc b) = zeros_at n b

pub held_bytes : (b : ℕ) → held b < 256
held_bytes b = zeros_at 2048 b
