-- A frame that is begun, with nothing in it, takes its LABS.
use Rattle.std.proofs.Common.{◌≡◌, ℕ, ◌+◌, ◌≤◌, Bool, true, false, List, [], ◌∷◌, ◌++◌, refl, sym}
use Rattle.std.proofs.Common.{ap, ◌∙◌, subst, arith}
use Rattle.std.specs.Prelude.{◌&&◌, not, if◌then◌else◌, Option, None, Some, length}
use Rattle.std.proofs.lemmas.Bool.{or_left}
use Rattle.dvg_frame.specs.declared.op.OpKind.{OpKind}
use Rattle.dvg_calls_6502.specs.Processor.{Cpu}
use Rattle.dvg_calls_6502.specs.Calls.{Routine, Reset, Tick, Ticks, Run, Offer, Redraw, Open, Puts, Close, Call, Brings}
use Rattle.dvg_calls_6502.specs.Calls.{answer}
use Rattle.dvg_calls_6502.specs.Calls.{bounds, call_of, frame_after, frame_of, has_returned, is_over, is_taken, put_on}
use Rattle.dvg_calls_6502.specs.Calls.{IsSession}
use Rattle.dvg_calls_6502.specs.Programs.{renamed, with_drafts}
use Rattle.dvg_calls_6502.specs.Routines.{Labs, put_by}
use Rattle.dvg_calls_6502.specs.Tables.{table_of}
use Rattle.dvg_calls_6502.proofs.BuildCalls.{Ended, puts_room}
use Rattle.dvg_calls_6502.proofs.Built.{Built, holds_in}
use Rattle.dvg_calls_6502.proofs.Interrupted.{Came}
use Rattle.dvg_calls_6502.proofs.Programs.{hindsight}
use Rattle.dvg_calls_6502.proofs.Sessions.{Before, before_call, came_of}
use Rattle.dvg_game_6502.specs.Stays.{LabsBegins}

-- of the frame that is being built, how many bytes were put
abbrev counts : Option (ℕ × List ℕ) → Option ℕ
counts None = None
counts (Some frame) = Some frame.0

abbrev more_by : ℕ → Option ℕ → Option ℕ
more_by k None = None
more_by k (Some n) = Some (n + k)

puts_count : (now : List ℕ) (frame : Option (ℕ × List ℕ)) → counts (put_on now frame) ≡ more_by (length now)
    (counts frame)
puts_count now None = refl
puts_count now (Some frame) = refl

-- it doesn't rest on drafts
either_count : (t : Bool) (one two three four : Option (ℕ × List ℕ)) → counts one ≡ counts three
    → counts two ≡ counts four → counts (if t then one else two) ≡ counts (if t then three else four)
either_count true one two three four a b = a
either_count false one two three four a b = b

frame_same : (r : Routine) (G : List OpKind) (from : Cpu) (steps : ℕ) (others : ℕ → ℕ → ℕ)
    (frame other : Option (ℕ × List ℕ)) → counts frame ≡ counts other
    → counts (frame_after (renamed r G) (call_of (renamed r G) from steps others) frame)
    ≡ counts (frame_after r (call_of r from steps others) other)
frame_same Reset G from steps others frame other same = refl
frame_same (Open F) G from steps others frame other same =
    either_count (is_taken (call_of (Open F) from steps others)) (Some (0, table_of G)) frame (Some
    (0, table_of F)) other
    refl same
frame_same (Puts part) G from steps others frame other same =
    either_count (is_taken (call_of (Puts part) from steps others)) (put_on (put_by part from) frame) frame
    (put_on (put_by part from) other) other
    (puts_count (put_by part from) frame ∙ ap (more_by (length (put_by part from))) same
    ∙ sym (puts_count (put_by part from) other)) same
frame_same Close G from steps others frame other same =
    either_count (is_taken (call_of Close from steps others)) None frame None other refl same
frame_same _ G from steps others frame other same = same

frames_same : (calls : List Call) (drafts : List (List OpKind))
    → counts (frame_of (with_drafts calls drafts)) ≡ counts (frame_of calls)
frames_same [] drafts = refl
frames_same (call ∷ calls) [] = refl
frames_same (call ∷ calls) (G ∷ drafts) = frame_same call.routine G call.from call.steps call.others
    (frame_of (with_drafts calls drafts)) (frame_of calls) (frames_same calls drafts)

same_count : (n m : ℕ) → ◌≡◌ {A = Option ℕ} (Some n) (Some m) → n ≡ m
same_count n m is = cc

-- a dvg_labs there
module _ (from : Cpu) (steps : ℕ) (others : ℕ → ℕ → ℕ) (calls : List Call)
    (session : IsSession (call_of (Puts Labs) from steps others ∷ calls)) (none : counts (frame_of calls) ≡ Some 0)
    (back : has_returned (call_of (Puts Labs) from steps others) ≡ true) where
  abbrev call : Call
  call = call_of (Puts Labs) from steps others

  before : Before from calls
  before = before_call call calls session.3.0 session.0.loaded session.3.1

  came : Came call calls
  came = came_of call calls session

  over : is_over call ≡ true
  over = or_left (has_returned call) _ back

  carry : (frame : Option (ℕ × List ℕ)) → frame_of calls ≡ frame → counts frame ≡ Some 0 → answer call ≡ false
  carry None is empty = absurd (cc)
  carry (Some frame) is empty = came.carry over ∙ did.carry came.n (sym came.over ∙ over)
    where
      zero_put : frame.0 ≡ 0
      zero_put = same_count frame.0 0 empty

      built : Built from.mem frame before.life
      built = subst (λ f. holds_in (bounds calls).0 (bounds calls).1 f from.mem before.life) is before.holds

      brings : Brings (Puts Labs) from (Some frame)
      brings = subst (λ f. Brings (Puts Labs) from f) is session.1

      next : (more : List ℕ) × (frame.1 ≡ put_by Labs from ++ more) × (2 ≤ length more)
      next = let empty_put = zero_put in brings (omega arith, omega (arith, empty_put))

      did : Ended from (bounds calls).0 (bounds calls).1 false (put_on (put_by Labs from) (Some frame)) before.life
      did = puts_room Labs from (bounds calls).0 (bounds calls).1 frame next.0 before.life session.0 (omega arith) built
          next.1 next.2

  labs_in : is_taken call ≡ true
  labs_in = ap (λ t. t && not (answer call)) over ∙ ap not (carry (frame_of calls) refl none)

pub labs_begins : LabsBegins
labs_begins R call calls rest session is none back = by found.0 found.1
  where
    found : (drafts : List (List OpKind)) × IsSession (with_drafts (call ∷ calls) drafts)
    found = let h = hindsight R (call ∷ calls) session in (h.0, h.1)

    empty : (drafts : List (List OpKind)) → counts (frame_of (with_drafts calls drafts)) ≡ Some 0
    empty drafts = frames_same calls drafts ∙ ap counts none

    named : is_taken (call_of (Puts Labs) call.from call.steps call.others) ≡ true → is_taken call ≡ true
    named = subst (λ r. is_taken (call_of r call.from call.steps call.others) ≡ true) (sym is)

    by : (drafts : List (List OpKind)) → IsSession (with_drafts (call ∷ calls) drafts) → is_taken call ≡ true
    by [] s = named (labs_in call.from call.steps call.others calls
        (subst (λ r. IsSession (call_of r call.from call.steps call.others ∷ calls)) is s) (ap counts none) back)
    by (G ∷ drafts) s = named (labs_in call.from call.steps call.others (with_drafts calls drafts)
        (subst (λ r. IsSession (call_of (renamed r G) call.from call.steps call.others
        ∷ with_drafts calls drafts)) is s)
        (empty drafts) back)
