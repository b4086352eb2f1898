-- A session of calls grows by a step of its newest call, and by a call.
use Rattle.std.proofs.Common.{◌≡◌, ℕ, suc, true, List, [], ◌∷◌}
use Rattle.std.proofs.lemmas.Bool.{or_left, or_right}
use Rattle.dvg_calls_6502.specs.Processor.{Cpu, turn}
use Rattle.dvg_calls_6502.specs.Amid.{changed, guards, is_kept}
use Rattle.dvg_calls_6502.specs.Board.{is_own, is_ram}
use Rattle.dvg_calls_6502.specs.Routines.{Enters}
use Rattle.dvg_calls_6502.specs.Calls.{Routine, Reset, Tick, Ticks, Run, Offer, Redraw, Open, Puts, Close, Call, after}
use Rattle.dvg_calls_6502.specs.Calls.{entry, frame_of, is_table, Follows, IsSessionBy, UnlessReset}
use Rattle.dvg_calls_6502.specs.Programs.{CallBrings}
use Rattle.dvg_game_6502.specs.Open.{Rested}
use Rattle.dvg_game_6502.proofs.NextMemory.{and_then, grows, spared}

-- the newest call, one step later, which finds this memory
abbrev pub further : Call → (ℕ → ℕ) → Call
further call m = record call { steps = suc call.steps; others = and_then call.steps call.others m }

pub further_turns : (call : Call) (m : ℕ → ℕ) → after (further call m) ≡ turn call.from.s (changed m (after call))
further_turns call m = grows call.from.s call.steps call.others m call.from

pub session_goes_on : (R : List ℕ) (call : Call) (calls : List Call) (m : ℕ → ℕ) → IsSessionBy (CallBrings R) (call ∷ calls)
    → ((b : ℕ) → guards (is_kept (is_table call calls)) call.from.s (after call).s b ≡ true → m b ≡ (after call).mem b)
    → IsSessionBy (CallBrings R) (further call m ∷ calls)
session_goes_on R call calls m session same = (
  session.0,
  session.1,
  spared (guards (is_kept (is_table call calls)) call.from.s) call.from.s call.steps call.others m call.from
      session.2 same,
  session.3,
)

pub unless_map : (routine : Routine) (P Q : Type 0) → (P → Q) → UnlessReset routine P → UnlessReset routine Q
unless_map Reset P Q f is = tt
unless_map _ P Q f is = f is

-- the newest call is followed by one that begins with this memory
follows : (R : List ℕ) (call : Call) (calls : List Call) → Rested R calls call.from.mem
    → Follows call calls × IsSessionBy (CallBrings R) calls
follows R call [] rested = absurd rested
follows R call (older ∷ calls) rested = (
  (
    rested.1,
    record {
      own = λ b is. rested.2 b (or_left (is_own b) (is_ram b) is);
      ram = λ b is. rested.2 b (or_right (is_own b) (is_ram b) is);
      table = λ writing b low high. rested.3 b low high;
    },
  ),
  rested.0,
)

pub session_begins : (R : List ℕ) (routine : Routine) (from : Cpu) (others : ℕ → ℕ → ℕ) (calls : List Call)
    → UnlessReset routine (Rested R calls from.mem) → Enters from (entry routine)
    → CallBrings R routine from (frame_of calls)
    → IsSessionBy (CallBrings R) (record { routine = routine; from = from; steps = 0; others = others } ∷ calls)
session_begins R routine from others calls rested enters brought =
    let call : Call = record { routine = routine; from = from; steps = 0; others = others } in (
      enters,
      brought,
      tt,
      unless_map routine (Rested R calls from.mem) (Follows call calls × IsSessionBy (CallBrings R) calls)
          (follows R call calls) rested,
    )
