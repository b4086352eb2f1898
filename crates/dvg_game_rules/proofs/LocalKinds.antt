-- The instructions that go on within their level, kind by kind.
use Rattle.std.proofs.Common.{◌%◌, ◌≡◌, ℕ, suc, ◌+◌, ◌*◌, ◌<◌, ◌≤◌, ◌⊎◌, inl, inr, Bool, true, false, refl, sym, ap}
use Rattle.std.proofs.Common.{◌∙◌, subst, arith, leb-true}
use Rattle.std.specs.Prelude.{nat_le, nat_lt, ◌&&◌, ◌||◌, not, if◌then◌else◌}
use Rattle.dvg_calls_6502.specs.Processor.{A, Register, X, Y, put, stack_place, target}
use Rattle.dvg_game_rules.specs.Kinds.{Sets, Nothing, Only, Quiet, Reads, Transfer, Stores, Push, PushFlags, Pull}
use Rattle.dvg_game_rules.specs.Kinds.{PullFlags, Branch, Place, size}
use Rattle.dvg_game_rules.specs.Machine.{setting, State, IsLoaded, Came, Choice, does, address, word_at, is_own, is_operand}
use Rattle.dvg_game_rules.specs.Checker.{Level, Main, Sub, Nmi, Note, Notes, Slot, Any, Held, set, holding, of_held, newest}
use Rattle.dvg_game_rules.specs.Checker.{pushing, pulling, fine_by, leads, may_write, of_reached, is_free, is_output}
use Rattle.dvg_game_rules.specs.Checker.{is_strobe}
use Rattle.dvg_game_rules.proofs.Facts.{IsInside, Leads, both_true, leading}
use Rattle.dvg_game_rules.proofs.WithinLevel.{Moves}
use Rattle.dvg_game_rules.proofs.Memory.{output_place, IsAside, aside, may_apart, other, reaching, between, either}
use Rattle.dvg_game_rules.proofs.Memory.{here}
use Rattle.dvg_game_rules.proofs.Saved.{Fits, Holds, Saved, saved_kept, set_holds, transfer_holds, pushed_saved}
use Rattle.dvg_game_rules.proofs.Saved.{pulled_saved, pulled_fits}
use Rattle.std.proofs.lemmas.Bool.{and_from as both}

-- an instruction was counted
abbrev pub ticked : State → State
ticked st = record st { since = suc st.since }

free_far : (a : ℕ) → is_free a ≡ true → (a < 0x10) ⊎ (0x21 ≤ a)
free_far a is = one (either (nat_lt a 0x10) _ is)
  where
    three : (((nat_le 0x200 a && nat_lt a 0x400) ≡ true) ⊎ (is_output a ≡ true)) → (a < 0x10) ⊎ (0x21 ≤ a)
    three (inl ram) = let low = (between 0x200 0x400 a ram).0 in inr (omega arith)
    three (inr out) = let low = (output_place a out).0 in inr (omega arith)

    next : (((nat_le 0x21 a && nat_lt a 0x100) ≡ true) ⊎ (((nat_le 0x200 a && nat_lt a 0x400) || is_output a) ≡ true))
        → (a < 0x10) ⊎ (0x21 ≤ a)
    next (inl zero_page) = inr (between 0x21 0x100 a zero_page).0
    next (inr more) = three (either (nat_le 0x200 a && nat_lt a 0x400) _ more)

    one : ((nat_lt a 0x10 ≡ true)
        ⊎ (((nat_le 0x21 a && nat_lt a 0x100) || ((nat_le 0x200 a && nat_lt a 0x400) || is_output a)) ≡ true))
        → (a < 0x10) ⊎ (0x21 ≤ a)
    one (inl less) = inl (leb-true (suc a) 0x10 less)
    one (inr more) = next (either (nat_le 0x21 a && nat_lt a 0x100) _ more)

pub free_not_own : (a : ℕ) → is_free a ≡ true → is_own a ≡ false
free_not_own a free = by (is_own a) refl
  where
    by : (t : Bool) → is_own a ≡ t → t ≡ false
    by false is = refl
    by true is = far (free_far a free)
      where
        page : (0x10 ≤ a) × (a < 0x21)
        page = between 0x10 0x21 a (both_true (nat_le 0x10 a && nat_lt a 0x21) _ is).0

        far : ((a < 0x10) ⊎ (0x21 ≤ a)) → true ≡ false
        far (inl less) = let low = page.0 in absurd (omega (arith, less, low))
        far (inr more) = let high = page.1 in absurd (omega (arith, more, high))

pub operand_not_own : (a : ℕ) → is_operand a ≡ true → is_own a ≡ false
operand_not_own a operand = by (nat_le 0x10 a && nat_lt a 0x21) (is_operand a) operand
  where
    by : (t u : Bool) → u ≡ true → (t && not u) ≡ false
    by true true is = refl
    by false true is = refl
    by t false is = absurd (cc)

pub not_own : (level : Level) (a : ℕ) → (level ≡ Main → ⊥) → may_write level a ≡ true → is_own a ≡ false
not_own Main a out may = absurd (out refl)
not_own Sub a out may = one (either (is_free a) _ may)
  where
    one : ((is_free a ≡ true) ⊎ (is_operand a ≡ true)) → is_own a ≡ false
    one (inl free) = free_not_own a free
    one (inr operand) = operand_not_own a operand
not_own Nmi a out may = free_not_own a may

module _ (notes : Notes) (rom : ℕ → ℕ) (choice : Choice) (st : State) (now : Note)
    (loaded : IsLoaded rom st.mem) (in_rom : IsInside st.pc)
    (top : st.s + now.depth ≤ 255) (room : now.room ≤ st.s) where
  one_byte : st.mem (st.pc + 1) ≡ rom (st.pc + 1)
  one_byte = let low = in_rom.0 in let high = in_rom.1 in loaded (st.pc + 1) (omega (arith, low)) (omega (arith, high))

  two_bytes : st.mem (st.pc + 1 + 1) ≡ rom (st.pc + 1 + 1)
  two_bytes = let low = in_rom.0 in let high = in_rom.1 in loaded (st.pc + 1 + 1) (omega (arith, low)) (omega
      (arith, high))

  -- registers are changed, and where it goes on
  goes_with : (held : Held) (after : State) → Leads notes after.pc (record now { held = held })
      → after.s ≡ st.s → after.mem ≡ st.mem → after.calls ≡ st.calls → after.amid ≡ st.amid → after.since ≡ suc st.since
      → after.awake ≡ st.awake → after.blank ≡ st.blank → after.home ≡ st.home → ((came : Came)
      → Holds now.held came st → Holds held came after)
      → Moves notes now st after
  goes_with held after leads s mem calls amid since awake blank home holds = record {
    then = record now { held = held };
    leads = leads;
    level = refl;
    fuel = refl;
    ends = refl;
    blank = (blank, refl);
    top = ap (λ t. t + now.depth) s;
    room = λ more fits. subst (λ t. now.room + more ≤ t) (sym s) fits;
    calls = calls;
    amid = amid;
    home = home;
    since = since;
    awake = λ is old. awake ∙ old is;
    others = λ out is. awake ∙ is;
    rom = λ b high top. ap (λ m. m b) mem;
    saves = λ came is saved. (
      holds came is,
      subst (λ m. Saved now.slots came m after.s) (sym mem)
          (subst (Saved now.slots came st.mem) (sym s) saved),
    );
    kept = λ k above high. ap (λ m. m (stack_place k)) mem;
  }

  sets_moves : (sets : Sets) (to : ℕ) → leads notes to (record now { held = set sets now.held }) ≡ true
      → Moves notes now st (record (setting sets choice (ticked st)) { pc = to })
  sets_moves Nothing to fine = goes_with now.held _ (leading notes to now fine)
      refl refl refl refl refl refl refl refl (λ came is. is)
  sets_moves (Only A) to fine = goes_with (set (Only A) now.held) _ (leading notes to _ fine)
      refl refl refl refl refl refl refl refl (λ came is. set_holds (Only A) now.held came choice st is)
  sets_moves (Only X) to fine = goes_with (set (Only X) now.held) _ (leading notes to _ fine)
      refl refl refl refl refl refl refl refl (λ came is. set_holds (Only X) now.held came choice st is)
  sets_moves (Only Y) to fine = goes_with (set (Only Y) now.held) _ (leading notes to _ fine)
      refl refl refl refl refl refl refl refl (λ came is. set_holds (Only Y) now.held came choice st is)

  pub quiet_moves : (sets : Sets) (bytes : ℕ) → fine_by (Quiet sets bytes) notes rom st.pc now ≡ true
      → Moves notes now st (does (Quiet sets bytes) choice (ticked st))
  quiet_moves sets bytes fine = sets_moves sets (st.pc + bytes) fine

  pub reads_moves : (sets : Sets) (place : Place) → fine_by (Reads sets place) notes rom st.pc now ≡ true
      → Moves notes now st (does (Reads sets place) choice (ticked st))
  reads_moves sets place fine = sets_moves sets (st.pc + size place)
      (both_true (of_reached place rom st.pc (λ a. not (is_strobe a))) _ fine).1

  pub transfer_moves : (from to : Register) → fine_by (Transfer from to) notes rom st.pc now ≡ true
      → Moves notes now st (does (Transfer from to) choice (ticked st))
  transfer_moves A A fine = goes_with (holding A (of_held A now.held) now.held) _ (leading notes (st.pc + 1) _ fine)
      refl refl refl refl refl refl refl refl (λ came is. transfer_holds A A now.held came st is)
  transfer_moves A X fine = goes_with (holding X (of_held A now.held) now.held) _ (leading notes (st.pc + 1) _ fine)
      refl refl refl refl refl refl refl refl (λ came is. transfer_holds A X now.held came st is)
  transfer_moves A Y fine = goes_with (holding Y (of_held A now.held) now.held) _ (leading notes (st.pc + 1) _ fine)
      refl refl refl refl refl refl refl refl (λ came is. transfer_holds A Y now.held came st is)
  transfer_moves X A fine = goes_with (holding A (of_held X now.held) now.held) _ (leading notes (st.pc + 1) _ fine)
      refl refl refl refl refl refl refl refl (λ came is. transfer_holds X A now.held came st is)
  transfer_moves X X fine = goes_with (holding X (of_held X now.held) now.held) _ (leading notes (st.pc + 1) _ fine)
      refl refl refl refl refl refl refl refl (λ came is. transfer_holds X X now.held came st is)
  transfer_moves X Y fine = goes_with (holding Y (of_held X now.held) now.held) _ (leading notes (st.pc + 1) _ fine)
      refl refl refl refl refl refl refl refl (λ came is. transfer_holds X Y now.held came st is)
  transfer_moves Y A fine = goes_with (holding A (of_held Y now.held) now.held) _ (leading notes (st.pc + 1) _ fine)
      refl refl refl refl refl refl refl refl (λ came is. transfer_holds Y A now.held came st is)
  transfer_moves Y X fine = goes_with (holding X (of_held Y now.held) now.held) _ (leading notes (st.pc + 1) _ fine)
      refl refl refl refl refl refl refl refl (λ came is. transfer_holds Y X now.held came st is)
  transfer_moves Y Y fine = goes_with (holding Y (of_held Y now.held) now.held) _ (leading notes (st.pc + 1) _ fine)
      refl refl refl refl refl refl refl refl (λ came is. transfer_holds Y Y now.held came st is)

  pub stores_moves : (mode : Place) → fine_by (Stores mode) notes rom st.pc now ≡ true
      → Moves notes now st (does (Stores mode) choice (ticked st))
  stores_moves mode fine = record {
    then = record now { awake = now.awake && of_reached mode rom st.pc (λ a. not (is_own a)) };
    leads = leading notes (st.pc + size mode) _ two.1;
    level = refl;
    fuel = refl;
    ends = refl;
    blank = (refl, refl);
    top = refl;
    room = λ more fits. fits;
    calls = refl;
    amid = refl;
    home = refl;
    since = refl;
    awake = λ is old. let three = both_true now.awake _ is in
        both st.awake (not (is_own place)) (old three.0)
        (reaching mode rom st.mem st.pc choice.index (λ a. not (is_own a)) one_byte two_bytes three.1);
    others = λ out is. both st.awake (not (is_own place)) is (ap not (not_own now.level place out may));
    rom = λ b high top. other place choice.byte st.mem b (λ same. apart.rom b high same);
    saves = λ came is saved. (
      is,
      saved_kept now.slots came st.mem (put place choice.byte st.mem) st.s
          (λ k above high. other place choice.byte st.mem (stack_place k) (λ same. apart.stack k high same)) saved,
    );
    kept = λ k above high. other place choice.byte st.mem (stack_place k) (λ same. apart.stack k high same);
  }
    where
      two : (of_reached mode rom st.pc (may_write now.level) ≡ true) × (leads notes (st.pc + size mode)
          (record now { awake = now.awake && of_reached mode rom st.pc (λ a. not (is_own a)) }) ≡ true)
      two = both_true (of_reached mode rom st.pc (may_write now.level)) _ fine

      place : ℕ
      place = address mode st.mem st.pc choice.index

      may : may_write now.level place ≡ true
      may = reaching mode rom st.mem st.pc choice.index (may_write now.level) one_byte two_bytes two.0

      apart : IsAside place
      apart = aside place (may_apart now.level place may)

  -- a byte is pushed
  pushes : (slot : Slot) (byte : ℕ) → ((came : Came) → Holds now.held came st → Fits slot came byte)
      → (nat_le 1 now.room && leads notes (st.pc + 1) (pushing slot now)) ≡ true
      → Moves notes now st (record (ticked st) {
        pc = st.pc + 1;
        s = (st.s + 255) % 256;
        mem = put (stack_place st.s) byte st.mem;
      })
  pushes slot byte fits fine = record {
    then = pushing slot now;
    leads = leading notes (st.pc + 1) (pushing slot now) two.1;
    level = refl;
    fuel = refl;
    ends = refl;
    blank = (refl, refl);
    top = omega (arith, some, top, room);
    room = λ more fits. omega (arith, some, top, room, fits);
    calls = refl;
    amid = refl;
    home = refl;
    since = refl;
    awake = λ is old. old is;
    others = λ out is. is;
    rom = λ b high below. other (stack_place st.s) byte st.mem b (λ same. omega (arith, same, high, top));
    saves = λ came is saved. (
      is,
      pushed_saved slot now.slots came byte st.mem (put (stack_place st.s) byte st.mem) st.s
          ((st.s + 255) % 256) (omega (arith, some, top, room)) (omega (arith, top)) (fits came is)
          (here (stack_place st.s) byte st.mem) above saved,
    );
    kept = above;
  }
    where
      two : (nat_le 1 now.room ≡ true) × (leads notes (st.pc + 1) (pushing slot now) ≡ true)
      two = both_true (nat_le 1 now.room) _ fine

      some : 1 ≤ now.room
      some = leb-true 1 now.room two.0

      above : (k : ℕ) → st.s < k → k ≤ 255 → put (stack_place st.s) byte st.mem (stack_place k) ≡ st.mem (stack_place k)
      above k more high = other (stack_place st.s) byte st.mem (stack_place k) (λ same. omega
          (arith, same, more, high, top))

  pub push_moves : fine_by Push notes rom st.pc now ≡ true → Moves notes now st (does Push choice (ticked st))
  push_moves fine = pushes now.held.a st.a (λ came is. is.0) fine

  pub push_flags_moves : fine_by PushFlags notes rom st.pc now ≡ true
      → Moves notes now st (does PushFlags choice (ticked st))
  push_flags_moves fine = pushes Any choice.byte (λ came is. tt) fine

  -- a byte is pulled, into A or into the flags
  pulls : (held : Held) (a : ℕ)
      → ((came : Came) → Holds now.held came st → Saved now.slots came st.mem st.s
      → Holds held came (record st { a = a }))
      → (nat_le 1 now.depth && leads notes (st.pc + 1) (record (pulling now) { held = held })) ≡ true
      → Moves notes now st (record (ticked st) { pc = st.pc + 1; s = (st.s + 1) % 256; a = a })
  pulls held a holds fine = record {
    then = record (pulling now) { held = held };
    leads = leading notes (st.pc + 1) _ two.1;
    level = refl;
    fuel = refl;
    ends = refl;
    blank = (refl, refl);
    top = omega (arith, some, top);
    room = λ more fits. omega (arith, some, top, fits);
    calls = refl;
    amid = refl;
    home = refl;
    since = refl;
    awake = λ is old. old is;
    others = λ out is. is;
    rom = λ b high top. refl;
    saves = λ came is saved. (
      holds came is saved,
      pulled_saved now.slots came st.mem st.s ((st.s + 1) % 256)
          (omega (arith, some, top)) saved,
    );
    kept = λ k above high. refl;
  }
    where
      two : (nat_le 1 now.depth ≡ true) × (leads notes (st.pc + 1) (record (pulling now) { held = held }) ≡ true)
      two = both_true (nat_le 1 now.depth) _ fine

      some : 1 ≤ now.depth
      some = leb-true 1 now.depth two.0

  pub pull_moves : fine_by Pull notes rom st.pc now ≡ true → Moves notes now st (does Pull choice (ticked st))
  pull_moves fine = pulls (holding A (newest now.slots) now.held) (st.mem (stack_place (st.s + 1)))
      (λ came is saved. (pulled_fits now.slots came st.mem st.s saved, is.1, is.2)) fine

  pub pull_flags_moves : fine_by PullFlags notes rom st.pc now ≡ true
      → Moves notes now st (does PullFlags choice (ticked st))
  pull_flags_moves fine = pulls now.held st.a (λ came is saved. is) fine

  -- to a place that is noted, with all else as it is
  goes_to : (to : ℕ) → leads notes to now ≡ true → Moves notes now st (record (ticked st) { pc = to })
  goes_to to fine = goes_with now.held _ (leading notes to now fine) refl refl refl refl refl refl refl refl
      (λ came is. is)

  pub branch_moves : fine_by Branch notes rom st.pc now ≡ true → Moves notes now st (does Branch choice (ticked st))
  branch_moves fine = by choice.taken
    where
      two : (leads notes (target st.pc (rom (st.pc + 1))) now ≡ true) × (leads notes (st.pc + 2) now ≡ true)
      two = both_true (leads notes (target st.pc (rom (st.pc + 1))) now) _ fine

      by : (t : Bool) → Moves notes now st
          (record (ticked st) { pc = if t then target st.pc (st.mem (st.pc + 1)) else st.pc + 2 })
      by true = goes_to (target st.pc (st.mem (st.pc + 1)))
          (subst (λ b. leads notes (target st.pc b) now ≡ true) (sym one_byte) two.0)
      by false = goes_to (st.pc + 2) two.1

  -- the word after an opcode
  pub same_word : word_at st.mem (st.pc + 1) ≡ word_at rom (st.pc + 1)
  same_word = ap (λ b. b + 256 * st.mem (st.pc + 1 + 1)) one_byte ∙ ap (λ b. rom (st.pc + 1) + 256 * b) two_bytes

  pub jump_moves : leads notes (word_at st.mem (st.pc + 1)) now ≡ true
      → Moves notes now st (record (ticked st) { pc = word_at st.mem (st.pc + 1) })
  jump_moves fine = goes_to (word_at st.mem (st.pc + 1)) fine
