-- Calls one after the other build a whole frame.
use Rattle.std.proofs.Common.{◌≡◌, ℕ, suc, inl, inr, ◌+◌, ◌*◌, ◌≤◌, Bool, true, false, not, List, [], ◌∷◌, ◌++◌}
use Rattle.std.proofs.Common.{length, refl, sym, ap, ◌∙◌, subst, arith, append_assoc, length-append, Some, ◌-◌}
use Rattle.std.proofs.lemmas.List.{append-nil}
use Rattle.std.specs.Prelude.{◌⊎◌, option_and_then}
use Rattle.std.proofs.lemmas.Bool.{or_left}
use Rattle.dvg_mem.specs.declared.half.Half.{Half}
use Rattle.dvg_mem.specs.declared.half.Half.TheVariants.{H0, H1}
use Rattle.dvg_frame.specs.Bytes.{addressed, bytes}
use Rattle.dvg_frame.specs.Layout.{laid}
use Rattle.dvg_mem.specs.Areas.{base, other}
use Rattle.dvg_driver.specs.Script.{Offered, word_zero}
use Rattle.dvg_driver.specs.Place.{Writing, next_place}
use Rattle.dvg_calls_6502.specs.Processor.{Cpu, Writes, run, at_return}
use Rattle.dvg_calls_6502.specs.Amid.{ComesOut, guards, is_kept_building}
use Rattle.dvg_calls_6502.specs.Board.{seen, is_own, goal_in}
use Rattle.dvg_calls_6502.specs.Holds.{Holds, IsFeeding}
use Rattle.dvg_calls_6502.specs.Routines.{Enters, Part, Put, Pair, Labs, Vector, begins, put_by}
use Rattle.dvg_calls_6502.specs.Code.{dvg_vector}
use Rattle.dvg_calls_6502.specs.Build.{IsBuilding, Builds, IsRefused, Closes, is_changed, written}
use Rattle.dvg_calls_6502.specs.Whole.{Done, end_of, IsDone, Parts, memory_after}
use Rattle.dvg_calls_6502.specs.Whole.{AreDone, bytes_put, seen_of, BuildsFrame, BuildsLife}
use Rattle.dvg_calls_6502.proofs.LogsGrow.{same_end}
use Rattle.dvg_calls_6502.proofs.DriverInMemory.{holds_on}
use Rattle.dvg_calls_6502.proofs.Built.{building_on, goal_on}
use Rattle.dvg_calls_6502.proofs.BuildScript.{builds_script}
use Rattle.dvg_calls_6502.proofs.Building.{put_takes}
use Rattle.dvg_calls_6502.proofs.VectorBuilds.{vector_takes, vector_refuses, own_not_work}
use Rattle.dvg_calls_6502.proofs.Pairing.{pair_takes, labs_takes}
use Rattle.dvg_calls_6502.proofs.OpenAndClose.{open_is_taken, close_takes}

pub written_append : (a : ℕ) (xs ys : List ℕ) → written a (xs ++ ys) ≡ written (a + length xs) ys ++ written a xs
written_append a [] ys = let e : a ≡ a + 0 = omega arith in
    ap (λ p. written p ys) e ∙ sym (append-nil (written (a + 0) ys))
written_append a (x ∷ xs) ys = let e : suc a + length xs ≡ a + suc (length xs) = omega arith in
    ap (λ l. l ++ Writes a x ∷ []) (written_append (suc a) xs ys
    ∙ ap (λ p. written p ys ++ written (suc a) xs) e)
    ∙ append_assoc (written (a + suc (length xs)) ys) (written (suc a) xs) (Writes a x ∷ [])

pub own_kept : (b : ℕ) → is_own b ≡ true → is_kept_building b ≡ true
own_kept b is = or_left (is_own b) _ is

-- a call amid others that has returned, by the run without them
pub record Same (call : Done) (end : Cpu) : Type 0 where
  pub log : (end_of call).log ≡ end.log
  pub own : (b : ℕ) → is_own b ≡ true → (end_of call).mem b ≡ end.mem b

pub same : (entry : ℕ) (before : ℕ → ℕ) (call : Done) (steps : ℕ) → IsDone entry before call
    → ComesOut (guards is_kept_building call.from.s) call.from
    → at_return call.from.s (run call.from.s steps call.from) ≡ true → Same call (run call.from.s steps call.from)
same entry before call steps done out back =
    let two = out call.steps call.others done.alone in
    let came = two.0 in
    let here : at_return call.from.s (run call.from.s call.steps call.from) ≡ true = sym two.1 ∙ done.returns in
    let ends = same_end call.from.s call.steps steps call.from here back in
    record {
      log = ap (λ (k : Cpu). k.log) came.same ∙ ap (λ (k : Cpu). k.log) ends;
      own = λ b is. ap (λ (k : Cpu). k.mem b) came.same
          ∙ came.keeps b (or_left (is_kept_building b) _ (own_kept b is)) ∙ ap (λ (k : Cpu). k.mem b) ends;
    }

-- what a part does, whether it puts something or is refused
pub record Does (cpu : Cpu) (half : Half) (flipped : Bool) (now rest : List ℕ) : Type 0 where
  pub steps : ℕ
  pub returns : at_return cpu.s (run cpu.s steps cpu) ≡ true
  pub shows : seen (run cpu.s steps cpu).log ≡ written (goal_in cpu.mem) now
  pub goes_on : goal_in (run cpu.s steps cpu).mem ≡ goal_in cpu.mem + length now
  pub building : IsBuilding (run cpu.s steps cpu).mem half flipped rest
  pub alike : ComesOut (guards is_kept_building cpu.s) cpu

of_builds : (cpu : Cpu) (half : Half) (flipped : Bool) (now rest : List ℕ) → Builds cpu half flipped now rest
    → Does cpu half flipped now rest
of_builds cpu half flipped now rest did = record {
  steps = did.steps;
  returns = did.returns;
  shows = did.shows;
  goes_on = did.goes_on;
  building = did.building;
  alike = did.alike (λ b. false);
}

of_refusal : (cpu : Cpu) (half : Half) (flipped : Bool) (rest : List ℕ) → cpu.pc ≡ dvg_vector → IsRefused cpu
    → IsBuilding cpu.mem half flipped rest → Does cpu half flipped [] rest
of_refusal cpu half flipped rest entry did building = record {
  steps = did.steps;
  returns = did.returns;
  shows = did.shows;
  goes_on = goal_on cpu.mem (run cpu.s did.steps cpu).mem own ∙ omega arith;
  building = building_on cpu.mem (run cpu.s did.steps cpu).mem half flipped rest own building;
  alike = did.alike (λ b. false);
}
  where
    own : (b : ℕ) → is_own b ≡ true → (run cpu.s did.steps cpu).mem b ≡ cpu.mem b
    own b is = did.kept b (subst (λ entry. is_changed entry b ≡ false) (sym entry) (own_not_work b is))

pub part_does : (part : Part) (cpu : Cpu) (half : Half) (flipped : Bool) (rest : List ℕ) → Enters cpu (begins part)
    → IsBuilding cpu.mem half flipped (put_by part cpu ++ rest) → 2 ≤ length rest
    → Does cpu half flipped (put_by part cpu) rest
part_does Put cpu half flipped rest enters building more =
    of_builds cpu half flipped _ rest (put_takes cpu half flipped rest enters building more)
part_does Pair cpu half flipped rest enters building more =
    of_builds cpu half flipped _ rest (pair_takes cpu half flipped rest enters building more)
part_does Labs cpu half flipped rest enters building more =
    of_builds cpu half flipped _ rest (labs_takes cpu half flipped rest enters building more)
part_does Vector cpu half flipped rest enters building more = by (put_by Vector cpu) refl
  where
    by : (now : List ℕ) → put_by Vector cpu ≡ now → Does cpu half flipped (put_by Vector cpu) rest
    by [] is = subst (λ l. Does cpu half flipped l rest) (sym is)
        (of_refusal cpu half flipped rest enters.entry (vector_refuses cpu enters (inl is))
        (subst (λ l. IsBuilding cpu.mem half flipped (l ++ rest)) is building))
    by (byte ∷ bytes) is = of_builds cpu half flipped (put_by Vector cpu) rest (vector_takes cpu half flipped rest enters
        (let e = ap length is in omega (arith, e)) building more)

-- what parts do
record Did (mem : ℕ → ℕ) (calls : Parts) (half : Half) (flipped : Bool) (rest : List ℕ) : Type 0 where
  shows : seen_of calls ≡ written (goal_in mem) (bytes_put calls)
  goes_on : goal_in (memory_after mem calls) ≡ goal_in mem + length (bytes_put calls)
  building : IsBuilding (memory_after mem calls) half flipped rest

parts_do : (mem : ℕ → ℕ) (calls : Parts) (half : Half) (flipped : Bool) (rest : List ℕ) → AreDone mem calls
    → IsBuilding mem half flipped (bytes_put calls ++ rest) → 2 ≤ length rest → Did mem calls half flipped rest
parts_do mem [] half flipped rest done building more =
    record { shows = refl; goes_on = omega arith; building = building }
parts_do mem (call ∷ calls) half flipped rest done building more =
    let now = put_by call.0 call.1.from in
    let long : 2 ≤ length (now ++ rest) = (let e = length-append now rest in omega (arith, e, more)) in
    let older = parts_do mem calls half flipped (now ++ rest) done.1
    (subst (IsBuilding mem half flipped) (append_assoc (bytes_put calls) now rest) building) long in
    let at_entry = building_on (memory_after mem calls) call.1.from.mem half flipped (now ++ rest) done.0.untouched
    older.building in
    let did = part_does call.0 call.1.from half flipped rest done.0.enters at_entry more in
    let out = same (begins call.0) (memory_after mem calls) call.1 did.steps done.0 did.alike did.returns in
    let goal : goal_in call.1.from.mem ≡ goal_in mem + length (bytes_put calls) =
    goal_on (memory_after mem calls) call.1.from.mem done.0.untouched ∙ older.goes_on in
    let reached = did.goes_on in
    let whole = length-append (bytes_put calls) now in
    record {
      shows = ap (λ l. seen l ++ seen_of calls) out.log ∙ ap (λ l. l ++ seen_of calls) did.shows
          ∙ ap (λ p. written p now ++ seen_of calls) goal
          ∙ ap (λ l. written (goal_in mem + length (bytes_put calls)) now ++ l) older.shows
          ∙ sym (written_append (goal_in mem) (bytes_put calls) now);
      goes_on = goal_on (run call.1.from.s did.steps call.1.from).mem (end_of call.1).mem out.own ∙ reached
          ∙ ap (λ p. p + length now) goal ∙ sum (goal_in mem) (length (bytes_put calls)) (length now) ∙ ap (λ k. goal_in mem + k) (sym whole);
      building = building_on (run call.1.from.s did.steps call.1.from).mem (end_of call.1).mem half flipped rest out.own
          did.building;
    }
  where
    sum : (a b c : ℕ) → a + b + c ≡ a + (b + c)
    sum a b c = omega arith

-- a frame is closed
pub closes_on : (half : Half) (flipped : Bool) (closing : Done) (ends : Closes closing.from half flipped) → Same closing (run closing.from.s ends.steps closing.from)
    → (from to : ℕ) → Holds (end_of closing).mem from to
    (record { place = Writing (word_zero (other half) (not flipped)); half = half; flipped = flipped })
closes_on half flipped closing ends shut from to = holds_on (run closing.from.s ends.steps closing.from).mem (end_of closing).mem from to
    shut.own (λ feeding. absurd (not_feeding (ends.holds 0 0).place.1 feeding))
    (record { place = Writing (word_zero (other half) (not flipped)); half = half; flipped = flipped }) (ends.holds from to)
  where
    m : ℕ → ℕ
    m = (run closing.from.s ends.steps closing.from).mem

    not_feeding : IsFeeding m 0 0 half flipped (word_zero (other half) (not flipped))
        ⊎ ((m 0x10 ≡ 3) × (word_zero (other half) (not flipped) ≡ word_zero (other half) true))
        ⊎ ((m 0x10 ≡ 4) × (word_zero (other half) (not flipped) ≡ word_zero (other half) false)) → m 0x10 ≡ 0x80 → ⊥
    not_feeding (inl feeds) phase = let some = feeds.some in let ends = feeds.ends in absurd (omega (arith, some, ends))
    not_feeding (inr (inl is)) phase = let e = is.0 in absurd (omega (arith, e, phase))
    not_feeding (inr (inr is)) phase = let e = is.0 in absurd (omega (arith, e, phase))

pub builds_frame : BuildsFrame
builds_frame begin stop half flipped first opening closing calls holds opened done closed fits =
    let halt : List ℕ = 0 ∷ 0xB0 ∷ [] in
    let whole = length-append (bytes_put calls) halt in
    let began = open_is_taken opening.from begin stop half flipped first (bytes_put calls ++ halt) opened.enters holds
    (omega (arith, whole)) (omega (arith, whole, fits)) in
    let out = same 0x6924 opening.from.mem opening began.steps opened (began.alike (λ b. false)) began.returns in
    let start = building_on (run opening.from.s began.steps opening.from).mem (end_of opening).mem half flipped
    (bytes_put calls ++ halt) out.own began.building in
    let goal : goal_in (end_of opening).mem ≡ 0x4000 + 2 * base (other half) =
    goal_on (run opening.from.s began.steps opening.from).mem (end_of opening).mem out.own ∙ began.begins in
    let did = parts_do (end_of opening).mem calls half flipped halt done start (omega arith) in
    let last = building_on (memory_after (end_of opening).mem calls) closing.from.mem half flipped halt closed.untouched
    did.building in
    let ends = close_takes closing.from half flipped closed.enters last in
    let shut = same 0x6A00 (memory_after (end_of opening).mem calls) closing ends.steps closed (ends.alike (λ b. false)) ends.returns in
    let there : goal_in closing.from.mem ≡ goal_in (end_of opening).mem + length (bytes_put calls) =
    goal_on (memory_after (end_of opening).mem calls) closing.from.mem closed.untouched ∙ did.goes_on in (
      ap (λ l. seen l ++ (seen_of calls ++ seen (end_of opening).log)) shut.log
          ∙ ap (λ l. l ++ (seen_of calls ++ seen (end_of opening).log)) ends.shows
          ∙ ap (λ p. written p halt ++ (seen_of calls ++ seen (end_of opening).log)) there
          ∙ ap (λ l. written (goal_in (end_of opening).mem + length (bytes_put calls)) halt ++ (seen_of calls ++ seen l)) out.log
          ∙ ap (λ l. written (goal_in (end_of opening).mem + length (bytes_put calls)) halt ++ (seen_of calls ++ l)) began.shows
          ∙ ap (λ l. written (goal_in (end_of opening).mem + length (bytes_put calls)) halt ++ l) (append-nil (seen_of calls) ∙ did.shows)
          ∙ sym (written_append (goal_in (end_of opening).mem) (bytes_put calls) halt)
          ∙ ap (λ p. written p (bytes_put calls ++ halt)) goal,
      λ from to. closes_on half flipped closing ends shut from to,
    )

pub builds_life : BuildsLife
builds_life half first F life place =
    builds_script (0x4000 + 2 * base half) (bytes (laid half F)) [] half first (Offered half F ∷ life) (from_word half)
    (ap (option_and_then (λ p. next_place p (Offered half F))) place
    ∙ ap (λ a. Some (Writing (addressed a (bytes (laid half F)) ++ word_zero half first))) (at_base half)
    ∙ ap (λ l. Some (Writing (addressed (0x4000 + 2 * base half - 0x4000) l ++ word_zero half first)))
    (sym (append-nil (bytes (laid half F)))))
  where
    from_word : (half : Half) → 0x4002 ≤ 0x4000 + 2 * base half
    from_word H0 = omega arith
    from_word H1 = omega arith

    at_base : (half : Half) → 2 * base half ≡ 0x4000 + 2 * base half - 0x4000
    at_base half = omega arith
