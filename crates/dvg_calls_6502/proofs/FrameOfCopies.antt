-- Calls one after the other build a whole frame, some of them by dvg_copy.
use Rattle.std.proofs.Common.{◌≡◌, ℕ, suc, ◌+◌, ◌-◌, ◌*◌, ◌<◌, ◌≤◌, Bool, true, false, not, List, [], ◌∷◌, ◌++◌}
use Rattle.std.proofs.Common.{length, refl, sym, ap, ◌∙◌, subst, arith, append_assoc, length-append, le-leb}
use Rattle.std.proofs.lemmas.List.{append-nil}
use Rattle.std.proofs.lemmas.Bool.{or_left}
use Rattle.std.specs.Prelude.{nat_le, nat_lt}
use Rattle.dvg_mem.specs.declared.half.Half.{Half}
use Rattle.dvg_mem.specs.Areas.{base, other}
use Rattle.dvg_calls_6502.specs.Processor.{Cpu, run, at_return}
use Rattle.dvg_calls_6502.specs.Amid.{ComesOut, guards, is_kept}
use Rattle.dvg_calls_6502.specs.Code.{dvg_open, dvg_close}
use Rattle.dvg_calls_6502.specs.Board.{seen, is_own, goal_in}
use Rattle.dvg_calls_6502.specs.Routines.{Enters}
use Rattle.dvg_calls_6502.specs.Build.{IsBuilding, written}
use Rattle.dvg_calls_6502.specs.Whole.{Done, end_of}
use Rattle.dvg_calls_6502.specs.Copy.{CopiesFrame, Piece, Puts, Copy, Pieces, IsPieceDone, ArePiecesDone, CanPut, is_source}
use Rattle.dvg_calls_6502.specs.Copy.{begins_piece, put_piece, memory_then, bytes_of, shown_of, source, copied}
use Rattle.dvg_calls_6502.proofs.ProcessorRuns.{and_true}
use Rattle.dvg_calls_6502.proofs.LogsGrow.{same_end}
use Rattle.dvg_calls_6502.proofs.Built.{building_on, goal_on}
use Rattle.dvg_calls_6502.proofs.OpenAndClose.{open_is_taken, close_takes}
use Rattle.dvg_calls_6502.proofs.FrameOfCalls.{Same, same, Does, part_does, written_append, closes_on}
use Rattle.dvg_calls_6502.proofs.Copying.{copy_takes, length_from}

-- what a piece does
record DoesPiece (piece : Piece) (cpu : Cpu) (half : Half) (flipped : Bool) (rest : List ℕ) : Type 0 where
  steps : ℕ
  returns : at_return cpu.s (run cpu.s steps cpu) ≡ true
  shows : seen (run cpu.s steps cpu).log ≡ written (goal_in cpu.mem) (put_piece piece cpu)
  goes_on : goal_in (run cpu.s steps cpu).mem ≡ goal_in cpu.mem + length (put_piece piece cpu)
  building : IsBuilding (run cpu.s steps cpu).mem half flipped rest
  alike : ComesOut (guards (is_kept (is_source piece cpu)) cpu.s) cpu

piece_does : (piece : Piece) (cpu : Cpu) (half : Half) (flipped : Bool) (rest : List ℕ) → Enters cpu (begins_piece piece)
    → CanPut piece cpu → IsBuilding cpu.mem half flipped (put_piece piece cpu ++ rest) → 2 ≤ length rest
    → DoesPiece piece cpu half flipped rest
piece_does (Puts part) cpu half flipped rest enters can building more =
    let did = part_does part cpu half flipped rest enters building more in
    record {
      steps = did.steps;
      returns = did.returns;
      shows = did.shows;
      goes_on = did.goes_on;
      building = did.building;
      alike = did.alike;
    }
piece_does Copy cpu half flipped rest enters can building more =
    let did = copy_takes cpu half flipped rest enters can building more in
    record {
      steps = did.steps;
      returns = did.returns;
      shows = did.shows;
      goes_on = did.goes_on ∙ ap (λ k. goal_in cpu.mem + k) (sym (length_from cpu.mem (source cpu) cpu.y));
      building = did.building;
      alike = did.alike (is_source Copy cpu) (λ k less. and_true (nat_le (source cpu) (source cpu + k))
          (nat_lt (source cpu + k) (source cpu + cpu.y)) (le-leb (source cpu) (source cpu + k) (omega arith))
          (le-leb (suc (source cpu + k)) (source cpu + cpu.y) (omega (arith, less))));
    }

-- a call of it amid others
same_piece : (piece : Piece) (before : ℕ → ℕ) (call : Done) (steps : ℕ) → IsPieceDone piece before call
    → ComesOut (guards (is_kept (is_source piece call.from)) call.from.s) call.from
    → at_return call.from.s (run call.from.s steps call.from) ≡ true → Same call (run call.from.s steps call.from)
same_piece piece before call steps done out back =
    let two = out call.steps call.others done.alone in
    let came = two.0 in
    let here : at_return call.from.s (run call.from.s call.steps call.from) ≡ true = sym two.1 ∙ done.returns in
    let ends = same_end call.from.s call.steps steps call.from here back in
    record {
      log = ap (λ (k : Cpu). k.log) came.same ∙ ap (λ (k : Cpu). k.log) ends;
      own = λ b is. ap (λ (k : Cpu). k.mem b) came.same
          ∙ came.keeps b (or_left (is_kept (is_source piece call.from) b) _ (or_left (is_own b) _ is))
          ∙ ap (λ (k : Cpu). k.mem b) ends;
    }

-- what pieces do
record Did (mem : ℕ → ℕ) (calls : Pieces) (half : Half) (flipped : Bool) (rest : List ℕ) : Type 0 where
  shows : shown_of calls ≡ written (goal_in mem) (bytes_of calls)
  goes_on : goal_in (memory_then mem calls) ≡ goal_in mem + length (bytes_of calls)
  building : IsBuilding (memory_then mem calls) half flipped rest

pieces_do : (mem : ℕ → ℕ) (calls : Pieces) (half : Half) (flipped : Bool) (rest : List ℕ) → ArePiecesDone mem calls
    → IsBuilding mem half flipped (bytes_of calls ++ rest) → 2 ≤ length rest → Did mem calls half flipped rest
pieces_do mem [] half flipped rest done building more =
    record { shows = refl; goes_on = omega arith; building = building }
pieces_do mem (call ∷ calls) half flipped rest done building more =
    let now = put_piece call.0 call.1.from in
    let long : 2 ≤ length (now ++ rest) = (let e = length-append now rest in omega (arith, e, more)) in
    let older = pieces_do mem calls half flipped (now ++ rest) done.1
    (subst (IsBuilding mem half flipped) (append_assoc (bytes_of calls) now rest) building) long in
    let at_entry = building_on (memory_then mem calls) call.1.from.mem half flipped (now ++ rest) done.0.untouched
    older.building in
    let did = piece_does call.0 call.1.from half flipped rest done.0.enters done.0.can at_entry more in
    let out = same_piece call.0 (memory_then mem calls) call.1 did.steps done.0 did.alike did.returns in
    let goal : goal_in call.1.from.mem ≡ goal_in mem + length (bytes_of calls) =
    goal_on (memory_then mem calls) call.1.from.mem done.0.untouched ∙ older.goes_on in
    let reached = did.goes_on in
    let whole = length-append (bytes_of calls) now in
    record {
      shows = ap (λ l. seen l ++ shown_of calls) out.log ∙ ap (λ l. l ++ shown_of calls) did.shows
          ∙ ap (λ p. written p now ++ shown_of calls) goal
          ∙ ap (λ l. written (goal_in mem + length (bytes_of calls)) now ++ l) older.shows
          ∙ sym (written_append (goal_in mem) (bytes_of calls) now);
      goes_on = goal_on (run call.1.from.s did.steps call.1.from).mem (end_of call.1).mem out.own ∙ reached
          ∙ ap (λ p. p + length now) goal ∙ sum (goal_in mem) (length (bytes_of calls)) (length now)
          ∙ ap (λ k. goal_in mem + k) (sym whole);
      building = building_on (run call.1.from.s did.steps call.1.from).mem (end_of call.1).mem half flipped rest out.own
          did.building;
    }
  where
    sum : (a b c : ℕ) → a + b + c ≡ a + (b + c)
    sum a b c = omega arith

pub copies_frame : CopiesFrame
copies_frame begin stop half flipped first opening closing calls holds opened done closed fits =
    let halt : List ℕ = 0 ∷ 0xB0 ∷ [] in
    let whole = length-append (bytes_of calls) halt in
    let began = open_is_taken opening.from begin stop half flipped first (bytes_of calls ++ halt) opened.enters holds
    (omega (arith, whole)) (omega (arith, whole, fits)) in
    let out = same dvg_open opening.from.mem opening began.steps opened (began.alike (λ b. false)) began.returns in
    let start = building_on (run opening.from.s began.steps opening.from).mem (end_of opening).mem half flipped
    (bytes_of calls ++ halt) out.own began.building in
    let goal : goal_in (end_of opening).mem ≡ 0x4000 + 2 * base (other half) =
    goal_on (run opening.from.s began.steps opening.from).mem (end_of opening).mem out.own ∙ began.begins in
    let did = pieces_do (end_of opening).mem calls half flipped halt done start (omega arith) in
    let last = building_on (memory_then (end_of opening).mem calls) closing.from.mem half flipped halt closed.untouched
    did.building in
    let ends = close_takes closing.from half flipped closed.enters last in
    let shut = same dvg_close (memory_then (end_of opening).mem calls) closing ends.steps closed (ends.alike (λ b. false)) ends.returns in
    let there : goal_in closing.from.mem ≡ goal_in (end_of opening).mem + length (bytes_of calls) =
    goal_on (memory_then (end_of opening).mem calls) closing.from.mem closed.untouched ∙ did.goes_on in (
      ap (λ l. seen l ++ (shown_of calls ++ seen (end_of opening).log)) shut.log
          ∙ ap (λ l. l ++ (shown_of calls ++ seen (end_of opening).log)) ends.shows
          ∙ ap (λ p. written p halt ++ (shown_of calls ++ seen (end_of opening).log)) there
          ∙ ap (λ l. written (goal_in (end_of opening).mem + length (bytes_of calls)) halt ++ (shown_of calls ++ seen l)) out.log
          ∙ ap (λ l. written (goal_in (end_of opening).mem + length (bytes_of calls)) halt ++ (shown_of calls ++ l)) began.shows
          ∙ ap (λ l. written (goal_in (end_of opening).mem + length (bytes_of calls)) halt ++ l) (append-nil (shown_of calls) ∙ did.shows)
          ∙ sym (written_append (goal_in (end_of opening).mem) (bytes_of calls) halt)
          ∙ ap (λ p. written p (bytes_of calls ++ halt)) goal,
      λ from to. closes_on half flipped closing ends shut from to,
    )
