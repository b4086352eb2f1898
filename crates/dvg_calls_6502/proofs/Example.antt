-- A boot and an offer, over a memory of zeros with the code and a table.
use Rattle.std.proofs.Common.{◌≡◌, ℕ, ◌+◌, ◌%◌, Bool, true, false, eqb-true, List, [], ◌∷◌, ◌<◌}
use Rattle.std.proofs.Common.{◌++◌, refl, sym, ap, ◌∙◌, arith, inl, suc}
use Rattle.std.proofs.lemmas.List.Elements.{All-cons, All-nil}
use Rattle.std.specs.Prelude.{◌||◌, ◌&&◌, nat_eq, not, if◌then◌else◌, slice_index, pos}
use Rattle.dvg_code.specs.declared.instr.Instr.TheVariants.{Labs, Vctr}
use Rattle.dvg_mem.specs.declared.half.Half.TheVariants.{H1}
use Rattle.dvg_frame.specs.declared.op.OpKind.{OpKind}
use Rattle.dvg_frame.specs.declared.op.OpKind.TheVariants.{Draw, Halt}
use Rattle.dvg_frame.specs.Ops.{IsOp, IsDraft}
use Rattle.dvg_frame.specs.Faults.{Accepts}
use Rattle.dvg_driver.specs.declared.action.Action.TheVariants.{Peek, Read, Wrote}
use Rattle.dvg_driver.specs.Script.{Did, Offered}
use Rattle.dvg_calls_6502.specs.Processor.{Cpu, run}
use Rattle.dvg_calls_6502.specs.Amid.{AreHarmless, guards, is_kept, is_kept_building}
use Rattle.dvg_calls_6502.specs.Board.{IsLoaded, is_hardware}
use Rattle.dvg_calls_6502.specs.Tables.{HasTable, table_of}
use Rattle.dvg_calls_6502.specs.Routines
use Rattle.dvg_calls_6502.specs.Routines.{Enters}
use Rattle.dvg_calls_6502.specs.Whole.{Done, SomeFrame}
use Rattle.dvg_calls_6502.specs.Copy.{SomeCopies, CanCopy, Copy, is_source}
use Rattle.dvg_calls_6502.specs.Board.{is_own, is_hardware}
use Rattle.dvg_calls_6502.specs.Amid.{is_work}
use Rattle.dvg_calls_6502.specs.Calls
use Rattle.dvg_calls_6502.specs.Calls.{Call, IsSession, IsLifeOf}
use Rattle.dvg_calls_6502.specs.Build.{IsPut, put_items}
use Rattle.dvg_calls_6502.specs.Joined.{stroke, SomeCalls, SomeTicks, SomeBuilding, SomeLogs}
use Rattle.dvg_calls_6502.proofs.ExampleWorld.{start, start_loaded}
use Rattle.dvg_calls_6502.proofs.BuiltFrame.{built_accepted}
use Rattle.dvg_calls_6502.proofs.Memory.{both_true}
use Rattle.dvg_calls_6502.proofs.Interrupted.{still, still_harmless, once, once_harmless}
use Rattle.dvg_calls_6502.proofs.UninterruptedCalls.{entered, enters, quiet, follows, puts, loaded_puts, loaded_as, loaded_after, not_true, at_all}

-- the boot
abbrev reset_from : Cpu
reset_from = entered 0x6800 0 0xFF 0 start

abbrev reset : Call
reset = quiet Calls.Reset 4 reset_from

abbrev peek_from : Cpu
peek_from = entered 0x686A 0 0xFF 0 (run 0xFF 4 reset_from).mem

abbrev peek : Call
peek = quiet Calls.Tick 8 peek_from

abbrev look_from : Cpu
look_from = entered 0x686A 0 0xFF 0 (run 0xFF 8 peek_from).mem

abbrev look : Call
look = quiet Calls.Tick 8 look_from

abbrev booted : ℕ → ℕ
booted = (run 0xFF 8 look_from).mem

peek_loaded : IsLoaded peek_from.mem
peek_loaded = loaded_after 0xFF 4 reset_from _ refl refl refl start_loaded

look_loaded : IsLoaded look_from.mem
look_loaded = loaded_after 0xFF 8 peek_from _ refl refl refl peek_loaded

booted_loaded : IsLoaded booted
booted_loaded = loaded_after 0xFF 8 look_from _ refl refl refl look_loaded

alone : (guard : ℕ → ℕ → Bool) (n : ℕ) (cpu : Cpu) → AreHarmless guard cpu.s (λ k. (run cpu.s k cpu).mem) n cpu
alone guard n cpu = still_harmless guard cpu.s n cpu

session_reset : IsSession (reset ∷ [])
session_reset = (
  enters 0x6800 0 0xFF 0 start (omega arith) (omega arith) start_loaded,
  tt,
  alone (guards (is_kept (Calls.is_table reset [])) 0xFF) 4 reset_from,
  tt,
)

session_peek : IsSession (peek ∷ reset ∷ [])
session_peek = (
  enters 0x686A 0 0xFF 0 peek_from.mem (omega arith) (omega arith) peek_loaded,
  tt,
  alone (guards (is_kept (Calls.is_table peek (reset ∷ []))) 0xFF) 8 peek_from,
  (follows Calls.Reset 4 reset_from [] peek refl refl, session_reset),
)

session_look : IsSession (look ∷ peek ∷ reset ∷ [])
session_look = (
  enters 0x686A 0 0xFF 0 look_from.mem (omega arith) (omega arith) look_loaded,
  tt,
  alone (guards (is_kept (Calls.is_table look (peek ∷ reset ∷ []))) 0xFF) 8 look_from,
  (follows Calls.Tick 8 peek_from (reset ∷ []) look refl refl, session_peek),
)

life_peek : IsLifeOf (peek ∷ reset ∷ []) (Did Peek ∷ [])
life_peek = (Did Peek ∷ [], [], refl, ((0, refl), tt), ([], [], refl, (refl, refl), refl))

life_look : IsLifeOf (look ∷ peek ∷ reset ∷ []) (Did (Read true) ∷ Did Peek ∷ [])
life_look = (Did (Read true) ∷ [], Did Peek ∷ [], refl, ((0, refl, refl), tt), life_peek)

-- an offer, amid which an NMI has come: it has counted, and below S stands what it pushed
abbrev nmi_writes : (ℕ → ℕ) → List (ℕ × ℕ)
nmi_writes mem = (0, (mem 0 + 1) % 256) ∷ (0x1FD, 0x30) ∷ (0x1FE, 0x6E) ∷ (0x1FF, 0x68) ∷ []

abbrev nmi : (ℕ → ℕ) → ℕ → ℕ
nmi mem = puts (nmi_writes mem) mem

abbrev offer_from : Cpu
offer_from = entered 0x68FE 0x50 0xFF 0 booted

abbrev offer_after : ℕ → Call
offer_after n = record { routine = Calls.Offer stroke; from = offer_from; steps = n; others = once 3 nmi 0xFF offer_from }

abbrev offer : Call
offer = offer_after 33

abbrev kept : ℕ → Bool
kept = is_kept (Calls.is_table offer (look ∷ peek ∷ reset ∷ []))

-- writes that reach nothing that is kept
abbrev all_out : List (ℕ × ℕ) → Bool
all_out [] = true
all_out (w ∷ ws) = not (kept w.0) && all_out ws

puts_beside : (ws : List (ℕ × ℕ)) (mem : ℕ → ℕ) → all_out ws ≡ true → (b : ℕ) → (kept b || false) ≡ true → puts ws mem b ≡ mem b
puts_beside [] mem out b is = refl
puts_beside (w ∷ ws) mem out b is = let two = both_true (not (kept w.0)) (all_out ws) out in
    by (nat_eq b w.0) refl (puts_beside ws mem two.1 b is)
  where
    by : (t : Bool) → nat_eq b w.0 ≡ t → puts ws mem b ≡ mem b → (if t then w.1 else puts ws mem b) ≡ mem b
    by false e rest = rest
    by true e rest = absurd (let k = ap (λ q. kept q || false) (eqb-true b w.0 e) ∙ ap (λ (t : Bool). t || false)
        (not_true (kept w.0) (both_true (not (kept w.0)) (all_out ws) out).0) in let f = sym is ∙ k in cc)

offer_alone : (n : ℕ) → AreHarmless (guards kept 0xFF) 0xFF offer.others n offer_from
offer_alone n = once_harmless (guards kept 0xFF) nmi 3 0xFF n offer_from
    (λ b is. let mem = (run 0xFF 3 offer_from).mem in puts_beside (nmi_writes mem) mem refl b is)

vector_is : IsOp (Draw (Vctr 9 (pos 100) (pos 0) 7))
vector_is = ((omega arith, omega arith, omega arith, omega arith), refl)

labs_is : IsOp (Draw (Labs 512 512 0))
labs_is = ((omega arith, omega arith, omega arith), refl)

pub has_table : HasTable booted 0x5000 stroke
has_table = record {
  fit = (labs_is, tt, (vector_is, tt, (tt, tt, tt)));
  some = omega arith;
  fits = omega arith;
  count = refl;
  table = λ k less. eqb-true (booted (0x5002 + k)) (slice_index (table_of stroke) k)
      (at_all 10 (λ j. nat_eq (booted (0x5002 + j)) (slice_index (table_of stroke) j)) refl k less);
  head = (refl, refl);
  far = λ k less. not_true (is_hardware (0x5002 + k)) (at_all 10 (λ j. not (is_hardware (0x5002 + j))) refl k less);
  low = omega arith;
  ends = omega arith;
}

session_offer : (n : ℕ) → IsSession (offer_after n ∷ look ∷ peek ∷ reset ∷ [])
session_offer n = (
  enters 0x68FE 0x50 0xFF 0 booted (omega arith) (omega arith) booted_loaded,
  has_table,
  offer_alone n,
  (follows Calls.Tick 8 look_from (peek ∷ reset ∷ []) offer refl refl, session_look),
)

pub some_calls : SomeCalls
some_calls = (
  offer,
  look ∷ peek ∷ reset ∷ [],
  session_offer 33,
  (Offered H1 stroke ∷ [], Did (Read true) ∷ Did Peek ∷ [], refl, (refl, refl), life_look),
  refl,
  refl,
)

-- an NMI that ticks: it has counted and pushed, and calls dvg_tick
abbrev idle : Cpu
idle = entered 0x686A 0 0xF7 0 (nmi booted)

-- that offer, up to its CLC; an idle tick comes amid it
abbrev decided : Call
decided = offer_after 28

-- and a tick that acts comes after that
abbrev feed_from : Cpu
feed_from = entered 0x686A 0 0xF7 0 (Calls.after decided).mem

abbrev feed : Call
feed = quiet Calls.Tick 20 feed_from

loaded_nmi : IsLoaded (nmi booted)
loaded_nmi = loaded_puts (nmi_writes booted) booted refl booted_loaded

loaded_decided : IsLoaded (Calls.after decided).mem
loaded_decided = loaded_as (Calls.after decided) (nmi booted) refl refl loaded_nmi

session_feed : IsSession (feed ∷ decided ∷ look ∷ peek ∷ reset ∷ [])
session_feed = (
  enters 0x686A 0 0xF7 0 feed_from.mem (omega arith) (omega arith) loaded_decided,
  tt,
  still_harmless (guards (is_kept (Calls.is_table feed (decided ∷ look ∷ peek ∷ reset ∷ []))) 0xF7) 0xF7 20 feed_from,
  ((refl, record { own = λ b is. refl; ram = λ b is. refl; table = λ writing b low high. refl }), session_offer 28),
)

pub some_ticks : SomeTicks
some_ticks = (
  feed,
  decided,
  look ∷ peek ∷ reset ∷ [],
  session_feed,
  refl,
  refl,
  refl,
  refl,
  (
    Did (Wrote 0x402 0x00) ∷ [],
    Offered H1 stroke ∷ Did (Read true) ∷ Did Peek ∷ [],
    refl,
    (refl, tt),
    (Offered H1 stroke ∷ [], Did (Read true) ∷ Did Peek ∷ [], refl, (refl, refl), life_look),
  ),
  idle,
  7,
  enters 0x686A 0 0xF7 0 (nmi booted) (omega arith) (omega arith) loaded_nmi,
  refl,
  refl,
)

draft : IsDraft stroke
draft = record {
  count = omega arith;
  ops = All-cons IsOp (Draw (Labs 512 512 0)) (Draw (Vctr 9 (pos 100) (pos 0) 7) ∷ Halt ∷ []) labs_is
      (All-cons IsOp (Draw (Vctr 9 (pos 100) (pos 0) 7)) (Halt ∷ []) vector_is (All-cons IsOp Halt [] tt (All-nil IsOp)));
}

accepted : (R : List ℕ) → Accepts stroke R
accepted R = built_accepted R 512 512 0 (Draw (Vctr 9 (pos 100) (pos 0) 7) ∷ [])
    (All-cons (IsPut R) (Draw (Vctr 9 (pos 100) (pos 0) 7)) [] refl (All-nil (IsPut R))) (omega arith)

-- after that boot a frame is built: a LABS, and the HALT
abbrev places_and_halt : List OpKind
places_and_halt = Draw (Labs 512 512 0) ∷ Halt ∷ []

abbrev open_from : Cpu
open_from = entered 0x6924 0 0xFF 0 booted

abbrev opening : Call
opening = quiet (Calls.Open places_and_halt) 16 open_from

abbrev labs_from : Cpu
labs_from = entered 0x6979 0 0xFF 0 (run 0xFF 16 open_from).mem

abbrev putting : Call
putting = quiet (Calls.Puts Routines.Labs) 30 labs_from

abbrev close_from : Cpu
close_from = entered 0x6A00 0 0xFF 0 (run 0xFF 30 labs_from).mem

abbrev closing : Call
closing = quiet Calls.Close 12 close_from

enters_open : Enters open_from 0x6924
enters_open = enters 0x6924 0 0xFF 0 booted (omega arith) (omega arith) booted_loaded

labs_loaded : IsLoaded labs_from.mem
labs_loaded = loaded_after 0xFF 16 open_from _ refl refl refl booted_loaded

enters_labs : Enters labs_from 0x6979
enters_labs = enters 0x6979 0 0xFF 0 labs_from.mem (omega arith) (omega arith) labs_loaded

enters_close : Enters close_from 0x6A00
enters_close = enters 0x6A00 0 0xFF 0 close_from.mem (omega arith) (omega arith)
    (loaded_after 0xFF 30 labs_from _ refl refl refl labs_loaded)

session_open : IsSession (opening ∷ look ∷ peek ∷ reset ∷ [])
session_open = (
  enters_open,
  record { alike = refl; some = omega arith; fits = omega arith },
  alone (guards (is_kept (Calls.is_table opening (look ∷ peek ∷ reset ∷ []))) 0xFF) 16 open_from,
  (follows Calls.Tick 8 look_from (peek ∷ reset ∷ []) opening refl refl, session_look),
)

session_labs : IsSession (putting ∷ opening ∷ look ∷ peek ∷ reset ∷ [])
session_labs = (
  enters_labs,
  (λ less. (0x00 ∷ 0xB0 ∷ [], refl, omega arith)),
  alone (guards (is_kept (Calls.is_table putting (opening ∷ look ∷ peek ∷ reset ∷ []))) 0xFF) 30 labs_from,
  (follows (Calls.Open places_and_halt) 16 open_from (look ∷ peek ∷ reset ∷ []) putting refl refl, session_open),
)

session_close : IsSession (closing ∷ putting ∷ opening ∷ look ∷ peek ∷ reset ∷ [])
session_close = (
  enters_close,
  refl,
  alone (guards (is_kept (Calls.is_table closing (putting ∷ opening ∷ look ∷ peek ∷ reset ∷ []))) 0xFF) 12 close_from,
  (follows (Calls.Puts Routines.Labs) 30 labs_from (opening ∷ look ∷ peek ∷ reset ∷ []) closing refl refl, session_labs),
)

pub some_building : SomeBuilding
some_building = (
  closing,
  putting ∷ opening ∷ look ∷ peek ∷ reset ∷ [],
  session_close,
  (
    put_items 0x4406 (0x00 ∷ 0xB0 ∷ []),
    put_items 0x4402 (0x00 ∷ 0xA2 ∷ 0x00 ∷ 0x02 ∷ []) ++ Offered H1 places_and_halt ∷ Did (Read true) ∷ Did Peek ∷ [],
    refl,
    (refl, (refl, tt)),
    (
      put_items 0x4402 (0x00 ∷ 0xA2 ∷ 0x00 ∷ 0x02 ∷ []),
      Offered H1 places_and_halt ∷ Did (Read true) ∷ Did Peek ∷ [],
      refl,
      (refl, (refl, (refl, (refl, tt)))),
      (Offered H1 places_and_halt ∷ [], Did (Read true) ∷ Did Peek ∷ [], refl, (refl, refl), life_look),
    ),
  ),
)

-- the same calls, as laws of whole frames have them
abbrev done : ℕ → Cpu → Done
done steps from = record { from = from; steps = steps; others = λ k. (run from.s k from).mem }

pub some_frame : SomeFrame
some_frame = (
  done 16 open_from,
  done 12 close_from,
  (Routines.Labs, done 30 labs_from) ∷ [],
  record { flipped = refl; place = (refl, refl, refl) },
  record {
    enters = enters_open;
    untouched = λ b own. refl;
    alone = alone (guards is_kept_building 0xFF) 16 open_from;
    returns = refl;
  },
  (
    record {
      enters = enters_labs;
      untouched = λ b own. ap (λ (c : Cpu). c.mem b) (sym (still 0xFF 16 open_from));
      alone = alone (guards is_kept_building 0xFF) 30 labs_from;
      returns = refl;
    },
    tt,
  ),
  record {
    enters = enters_close;
    untouched = λ b own. ap (λ (c : Cpu). c.mem b) (sym (still 0xFF 30 labs_from));
    alone = alone (guards is_kept_building 0xFF) 12 close_from;
    returns = refl;
  },
  refl,
)

-- the same frame, copied
abbrev copy_from : Cpu
copy_from = record (entered 0x69C0 0x50 0xFF 0 labs_from.mem) { a = 2; y = 4 }

abbrev close_copied : Cpu
close_copied = entered 0x6A00 0 0xFF 0 (run 0xFF 49 copy_from).mem

can_copy : CanCopy copy_from
can_copy = record {
  clear = refl;
  byte = omega arith;
  even = refl;
  top = omega arith;
  apart = apart;
  device = device;
}
  where
    apart : (k : ℕ) → k < 4 → (is_own (0x5002 + k) || is_work (0x5002 + k)) ≡ false
    apart (suc (suc (suc (suc k)))) less = absurd (omega arith)
    apart _ less = refl

    device : (k : ℕ) → k < 4 → is_hardware (0x5002 + k) ≡ false
    device (suc (suc (suc (suc k)))) less = absurd (omega arith)
    device _ less = refl

pub some_copies : SomeCopies
some_copies = (
  done 16 open_from,
  done 12 close_copied,
  (Copy, done 49 copy_from) ∷ [],
  record { flipped = refl; place = (refl, refl, refl) },
  record {
    enters = enters_open;
    untouched = λ b own. refl;
    alone = alone (guards is_kept_building 0xFF) 16 open_from;
    returns = refl;
  },
  (
    record {
      enters = record { entry = refl; log = refl; loaded = labs_loaded; a = omega arith; x = omega arith; s = omega arith };
      can = can_copy;
      untouched = λ b own. ap (λ (c : Cpu). c.mem b) (sym (still 0xFF 16 open_from));
      alone = alone (guards (is_kept (is_source Copy copy_from)) 0xFF) 49 copy_from;
      returns = refl;
    },
    tt,
  ),
  record {
    enters = enters 0x6A00 0 0xFF 0 close_copied.mem (omega arith) (omega arith)
        (loaded_after 0xFF 49 copy_from _ refl refl refl labs_loaded);
    untouched = λ b own. ap (λ (c : Cpu). c.mem b) (sym (still 0xFF 49 copy_from));
    alone = alone (guards is_kept_building 0xFF) 12 close_copied;
    returns = refl;
  },
  refl,
  done 49 copy_from,
  refl,
  refl,
)

pub some_logs : SomeLogs
some_logs R image rom is = (
  inl (accepted R, answered),
  draft,
  (
    ((look ∷ peek ∷ reset ∷ [], session_look, life_look), refl),
    tt,
    (((peek ∷ reset ∷ [], session_peek, life_peek), tt), tt, (rom, is)),
  ),
)
  where
    answered : Calls.IsAnswered (Calls.Offer stroke) false (Did (Read true) ∷ Did Peek ∷ [])
    answered = record {
      from = offer_from;
      steps = 33;
      others = offer.others;
      calls = look ∷ peek ∷ reset ∷ [];
      session = session_offer 33;
      makes = life_look;
      over = refl;
      carry = refl;
    }
