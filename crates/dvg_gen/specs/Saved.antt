-- A generator's state as a plain value.
use Rattle.std.specs.Prelude.{◌≡◌, ℕ, ◌+◌, ◌<◌, List, [], length, reverse, slice_index, All, IsSome, true}
use Rattle.dvg_gen.specs.declared.state.GeneratorState.{GeneratorState}
use Rattle.dvg_gen.specs.declared.stroke.Stroke.{Stroke}
use Rattle.dvg_gen.specs.Machine.{Machine, IsKept}
use Rattle.dvg_gen.specs.Position.{IsBeam, IsStroke}
use Rattle.dvg_gen.specs.Run.{Visit, past_call, calls, returns}
use Rattle.dvg_gen.specs.Wrapping.{Wrapped}

-- these are the return addresses of a run, newest first: one past each call that is still open
pub record IsReturns (addresses : List ℕ) (visits : List Visit) : Type 0 where
  pub count : calls visits ≡ returns visits + length addresses
  pub brackets : (k : ℕ) → k < length addresses → slice_index addresses k ≡ past_call k visits

-- a generator can be in a state: it could keep its addresses and words, a low byte waits only in an open run, and its
-- beam is one
pub record IsState (state : GeneratorState) : Type 0 where
  pub kept : IsKept state.at state.held state.return_addresses.items
  pub waits : IsSome state.low → state.is_open ≡ true
  pub beam : IsBeam state.x state.y state.scale

-- one that can be in a state, if this holds, goes on in it with these strokes of its run, each of which is one
abbrev pub CanResume : (CanBe : Type 0) → List Stroke → Type 0
CanResume CanBe strokes = CanBe × All IsStroke strokes

-- a generator whose stack wraps can be in a state: a generator can, and there are four return addresses
pub record IsWrappedState (state : GeneratorState) : Type 0 where
  pub plain : IsState state
  pub four : length state.return_addresses.items ≡ 4

-- the machine in a state, with these strokes of its run and this picture
abbrev pub machine_of : GeneratorState → List Stroke → List Stroke → Machine
machine_of state strokes picture = record {
  at = state.at;
  held = state.held;
  low = state.low;
  stack = reverse state.return_addresses.items;
  beam = record { x = state.x; y = state.y; scale = state.scale };
  strokes = strokes;
  picture = picture;
  is_open = state.is_open;
}

-- the same where the stack wraps: the machine in it has no return addresses, as the registers are
-- the state's return addresses, the newest first
abbrev pub wrapped_of : GeneratorState → List Stroke → List Stroke → Wrapped
wrapped_of state strokes picture = record {
  machine = record (machine_of state strokes picture) { stack = [] };
  registers = reverse state.return_addresses.items;
}
