-- A run where the stack wraps is as one where it does not, as long as that one does not break.
use Rattle.std.proofs.Common.{◌≡◌, ℕ, ◌+◌, ◌<◌, ◌≤◌, true, false, Bool, List, [], ◌∷◌, ◌++◌, length, take, drop, cond, eqb, ⊎_elim}
use Rattle.std.proofs.Common.{Option, Some, None, refl, sym, ap, ap₂, ◌∙◌, subst, arith}
use Rattle.std.proofs.lemmas.Bool.{cases_lt, lt-ltb, le-ltb, le-leb, leb-true, ltb-true}
use Rattle.std.proofs.lemmas.List.{take-append-le, take-take, length-take, length-append}
use Rattle.std.proofs.lemmas.List.Elements.{All-append, All-cons, All-drop, All-head, All-nil, All-take}
use Rattle.std.specs.Prelude.{All, nat_le, nat_lt, ◌&&◌, slice_index}
use Rattle.dvg_code.specs.declared.instr.Instr.{Instr}
use Rattle.dvg_code.specs.declared.instr.Instr.TheVariants.{Jsrl, Rtsl, Jmpl}
use Rattle.dvg_code.specs.Acts.{Act, Moves, Jumps, Calls, Returns, Halts, act_of}
use Rattle.dvg_code.specs.Spelling.{Spells, vctr, labs, halt, jsrl, rtsl, jmpl, svec, word_count}
use Rattle.dvg_code.proofs.Unique.{same_spelling}
use Rattle.dvg_gen.specs.declared.taken.GenFault.{GenFault}
use Rattle.dvg_gen.specs.declared.taken.GenFault.TheVariants.{StackOver, StackUnder}
use Rattle.dvg_gen.specs.Drawing.{moved, drawn}
use Rattle.dvg_gen.specs.Run.{Visit, on, next, led, wanted, calls, returns, Fate, Goes, Finished, Breaks, fate_by, fate, beam_after, strokes, Adds, first, one, two}
use Rattle.dvg_gen.specs.Stacks.{stack_by}
use Rattle.dvg_gen.specs.Told.{Told, Newest, goes_on, grown, stopped, Leaves, new, starts, resets, meets_hole, takes}
use Rattle.dvg_gen.specs.Wrapping as wraps
use Rattle.dvg_gen.specs.Wrapping.{AreRegisters, Wraps, IsAlike, WrapsAlike, WrapsUnbroken, is_turn, jump_of, turned}
use Rattle.dvg_gen.proofs.OneRun.{leaves_same}
use Rattle.dvg_gen.proofs.Stack.{stack, next_is, can_more, Sound}
use Rattle.dvg_gen.proofs.GeneratorAfterHistory.{open_goes, open_sound}
use Rattle.dvg_gen.proofs.Words.{not_first}

abbrev visit : ℕ → Instr → Visit
visit place code = record { place = place; code = code }

-- the words of a call or a return

both_true : (a b : Bool) → (a && b) ≡ true → (a ≡ true) × (b ≡ true)
both_true true true e = (refl, refl)
both_true true false e = absurd (cc)
both_true false b e = absurd (cc)

turn_range : (held : Option ℕ) (word : ℕ) → is_turn held word ≡ true
    → (held ≡ None) × (0xC000 ≤ word) × (word < 0xE000)
turn_range None word turn =
    let both = both_true (nat_le 0xC000 word) (nat_lt word 0xE000) turn in
    (refl, leb-true 0xC000 word both.0, ltb-true word 0xE000 both.1)
turn_range (Some held) word turn = let never : false ≡ true = turn in absurd (cc)

is_turn_in : (word : ℕ) → 0xC000 ≤ word → word < 0xE000 → is_turn None word ≡ true
is_turn_in word low high = ap₂ (λ a b. a && b) (le-leb 0xC000 word low) (lt-ltb word 0xE000 high)

clash : {A : Type 0} {b : Bool} → b ≡ true → b ≡ false → A
clash turns none = let never : true ≡ false = sym turns ∙ none in absurd (cc)

-- an instruction that is neither a call nor a return
abbrev IsPlain : Act ℕ → Type 0
IsPlain (Moves code) = Unit {0}
IsPlain (Jumps to) = Unit {0}
IsPlain (Calls to) = ⊥
IsPlain Returns = ⊥
IsPlain Halts = Unit {0}

plain_one : {code : Instr} {word : ℕ} → Spells code (word ∷ []) → is_turn None word ≡ false → IsPlain (act_of code)
plain_one (halt p q) none = tt
plain_one {word = word} (jsrl r p) none = clash (is_turn_in word (omega arith) (omega arith)) none
plain_one {word = word} (rtsl p q) none = clash (is_turn_in word (omega arith) (omega arith)) none
plain_one (jmpl r p) none = tt
plain_one (svec r p) none = tt

plain_two : {code : Instr} {held word : ℕ} → Spells code (held ∷ word ∷ []) → IsPlain (act_of code)
plain_two (vctr r p q) = tt
plain_two (labs r p q) = tt

-- it leads on, ends a run and leaves the stack by itself
plain_led : (act : Act ℕ) (p q : ℕ) (code : Instr) (us vs : List Visit) → IsPlain act → p ≡ q
    → led act (visit p code) us ≡ led act (visit q code) vs
plain_led (Moves moving) p q code us vs plain same = ap (λ place. on place (word_count moving)) same
plain_led (Jumps to) p q code us vs plain same = refl
plain_led (Calls to) p q code us vs plain same = absurd plain
plain_led Returns p q code us vs plain same = absurd plain
plain_led Halts p q code us vs plain same = ap (λ place. on place 1) same

plain_fate : (act : Act ℕ) (us vs : List Visit) → IsPlain act → fate_by act us ≡ fate_by act vs
plain_fate (Moves moving) us vs plain = refl
plain_fate (Jumps to) us vs plain = refl
plain_fate (Calls to) us vs plain = absurd plain
plain_fate Returns us vs plain = absurd plain
plain_fate Halts us vs plain = refl

plain_stack : (act : Act ℕ) (place : ℕ) (saved : List ℕ) → IsPlain act → stack_by act place saved ≡ saved
plain_stack (Moves moving) place saved plain = refl
plain_stack (Jumps to) place saved plain = refl
plain_stack (Calls to) place saved plain = absurd plain
plain_stack Returns place saved plain = absurd plain
plain_stack Halts place saved plain = refl

plain_unbroken : (act : Act ℕ) (us : List Visit) (fault : GenFault) → IsPlain act → fate_by act us ≡ Breaks fault → ⊥
plain_unbroken (Moves moving) us fault plain broke = let never : Goes ≡ Breaks fault = broke in absurd (cc)
plain_unbroken (Jumps to) us fault plain broke = let never : Goes ≡ Breaks fault = broke in absurd (cc)
plain_unbroken (Calls to) us fault plain broke = plain
plain_unbroken Returns us fault plain broke = plain
plain_unbroken Halts us fault plain broke = let never : Finished ≡ Breaks fault = broke in absurd (cc)

-- two runs with one word more that is no turn: a first word, or the same instruction
data Grows (us vs : List Visit) : List Visit → List Visit → Type 0 where
  still : Grows us vs us vs
  more : {code : Instr} → IsPlain (act_of code) → Grows us vs (visit (next us) code ∷ us) (visit (next vs) code ∷ vs)

grows : {us vs us' vs' : List Visit} {held h k : Option ℕ} {word : ℕ} → Adds us held word us' h → Adds vs held word vs' k
    → is_turn held word ≡ false → Grows us vs us' vs' × (k ≡ h)
grows (first p) (first q) none = (still, refl)
grows (first p) (one s) none = absurd (not_first _ _ p s)
grows (one s) (first p) none = absurd (not_first _ _ p s)
grows {us = us} {vs = vs} (one {code = c} s) (one t) none =
    (subst (λ d. Grows us vs (visit (next us) c ∷ us) (visit (next vs) d ∷ vs)) (same_spelling _ _ _ s t) (more (plain_one s none)), refl)
grows {us = us} {vs = vs} (two {code = c} s) (two t) none =
    (subst (λ d. Grows us vs (visit (next us) c ∷ us) (visit (next vs) d ∷ vs)) (same_spelling _ _ _ s t) (more (plain_two s)), refl)

-- a call or a return more
data Turns (us : List Visit) (word : ℕ) : List Visit → Option ℕ → Type 0 where
  calls_to : {to : ℕ} → word ≡ 0xC000 + to → to ≤ 4095 → Turns us word (visit (next us) (Jsrl to) ∷ us) None
  comes_back : 0xD000 ≤ word → Turns us word (visit (next us) Rtsl ∷ us) None

turned_one : {code : Instr} {us : List Visit} {word : ℕ} → Spells code (word ∷ []) → 0xC000 ≤ word → word < 0xE000
    → Turns us word (visit (next us) code ∷ us) None
turned_one (halt p q) low high = absurd (omega arith)
turned_one (jsrl r p) low high = calls_to p (omega arith)
turned_one (rtsl p q) low high = comes_back p
turned_one (jmpl r p) low high = absurd (omega arith)
turned_one (svec r p) low high = let sum = p.sum in absurd (omega arith)

turned_adds : {us us' : List Visit} {h : Option ℕ} {word : ℕ} → Adds us None word us' h → 0xC000 ≤ word → word < 0xE000
    → Turns us word us' h
turned_adds (first p) low high = absurd (omega arith)
turned_adds (one s) low high = turned_one s low high

-- a jump more
data JumpsOn (us : List Visit) (word : ℕ) : List Visit → Option ℕ → Type 0 where
  jumps_to : {to : ℕ} → word ≡ 0xE000 + to → JumpsOn us word (visit (next us) (Jmpl to) ∷ us) None

jumped_one : {code : Instr} {us : List Visit} {word : ℕ} → Spells code (word ∷ []) → 0xE000 ≤ word → word < 0xF000
    → JumpsOn us word (visit (next us) code ∷ us) None
jumped_one (halt p q) low high = absurd (omega arith)
jumped_one (jsrl r p) low high = absurd (omega arith)
jumped_one (rtsl p q) low high = absurd (omega arith)
jumped_one (jmpl r p) low high = jumps_to p
jumped_one (svec r p) low high = let sum = p.sum in absurd (omega arith)

jumped_adds : {us us' : List Visit} {h : Option ℕ} {word : ℕ} → Adds us None word us' h → 0xE000 ≤ word → word < 0xF000
    → JumpsOn us word us' h
jumped_adds (first p) low high = absurd (omega arith)
jumped_adds (one s) low high = jumped_one s low high

-- the registers

abbrev Small : ℕ → Type 0
Small address = address < 4096

jump_of_call : (registers : List ℕ) (word : ℕ) → word < 0xD000 → jump_of registers word ≡ word + 0x2000
jump_of_call registers word low = ap (λ b. cond b (word + 0x2000) (0xE000 + slice_index registers 0)) (lt-ltb word 0xD000 low)

jump_of_return : (registers : List ℕ) (word : ℕ) → 0xD000 ≤ word → jump_of registers word ≡ 0xE000 + slice_index registers 0
jump_of_return registers word high =
    ap (λ b. cond b (word + 0x2000) (0xE000 + slice_index registers 0)) (le-ltb word 0xD000 high)

turned_call : (registers : List ℕ) (back word : ℕ) → word < 0xD000 → turned registers back word ≡ back ∷ take 3 registers
turned_call registers back word low =
    ap (λ b. cond b (back ∷ take 3 registers) (drop 1 registers ++ take 1 registers)) (lt-ltb word 0xD000 low)

turned_return : (registers : List ℕ) (back word : ℕ) → 0xD000 ≤ word
    → turned registers back word ≡ drop 1 registers ++ take 1 registers
turned_return registers back word high =
    ap (λ b. cond b (back ∷ take 3 registers) (drop 1 registers ++ take 1 registers)) (le-ltb word 0xD000 high)

called_are : (back : ℕ) (registers : List ℕ) → back < 4096 → AreRegisters registers → AreRegisters (back ∷ take 3 registers)
called_are back registers small are = record {
  four = let count = are.four in let taken = length-take 3 registers in omega arith;
  addresses = All-cons Small back (take 3 registers) small (All-take Small 3 registers are.addresses);
}

returned_are : (registers : List ℕ) → AreRegisters registers → AreRegisters (drop 1 registers ++ take 1 registers)
returned_are [] are = let count = are.four in absurd (omega arith)
returned_are (r ∷ rs) are = record {
  four = let count = are.four in length-append rs (r ∷ []) ∙ omega arith;
  addresses = All-append Small rs (r ∷ []) (All-drop Small 1 (r ∷ rs) are.addresses) (All-take Small 1 (r ∷ rs) are.addresses);
}

small_first : (registers : List ℕ) → AreRegisters registers → slice_index registers 0 < 4096
small_first [] are = omega arith
small_first (r ∷ rs) are = All-head Small r rs are.addresses

zeros_small : All Small (0 ∷ 0 ∷ 0 ∷ 0 ∷ [])
zeros_small =
    All-cons Small 0 (0 ∷ 0 ∷ 0 ∷ []) (omega arith)
    (All-cons Small 0 (0 ∷ 0 ∷ []) (omega arith)
    (All-cons Small 0 (0 ∷ []) (omega arith) (All-cons Small 0 [] (omega arith) (All-nil Small))))

jump_range : (registers : List ℕ) (word : ℕ) → AreRegisters registers → 0xC000 ≤ word
    → (0xE000 ≤ jump_of registers word) × (jump_of registers word < 0xF000)
jump_range registers word are from = ⊎_elim
    (λ low. let jump = jump_of_call registers word low in (omega arith, omega arith))
    (λ high. let jump = jump_of_return registers word high in let small = small_first registers are in (omega arith, omega arith))
    (cases_lt word 0xD000)

-- they stay four addresses
registers_are : {history told : List Told} {registers : List ℕ} → Wraps history told registers → AreRegisters registers
registers_are wraps.new = record { four = refl; addresses = zeros_small }
registers_are (wraps.starts w) = registers_are w
registers_are (wraps.resets w) = registers_are w
registers_are (wraps.meets_hole w) = registers_are w
registers_are (wraps.takes w l none) = registers_are w
registers_are (wraps.turns {registers = registers} {run = run} {word = word} w l turns) =
    let back = on (wanted run.visits run.held) 1 in
    let are = registers_are w in
    ⊎_elim
    (λ low. subst AreRegisters (sym (turned_call registers back word low)) (called_are back registers (omega arith) are))
    (λ high. subst AreRegisters (sym (turned_return registers back word high)) (returned_are registers are))
    (cases_lt word 0xD000)

-- a stack that lies in the registers, newest first
abbrev LiesIn : List ℕ → List ℕ → Type 0
LiesIn saved registers = take (length saved) registers ≡ saved

lies_called : (back : ℕ) (saved registers : List ℕ) → length saved < 4 → LiesIn saved registers
    → LiesIn (back ∷ saved) (back ∷ take 3 registers)
lies_called back saved registers few lies = ap (λ l. back ∷ l) (take-take (length saved) 3 registers (omega arith) ∙ lies)

lies_returned : (back : ℕ) (saved registers : List ℕ) → length registers ≡ 4 → length saved < 4
    → LiesIn (back ∷ saved) registers → (slice_index registers 0 ≡ back) × LiesIn saved (drop 1 registers ++ take 1 registers)
lies_returned back saved [] four few lies = absurd (omega arith)
lies_returned back saved (r ∷ rs) four few lies =
    let head : r ≡ back = cc in
    let tail : take (length saved) rs ≡ saved = cc in
    (head, take-append-le (length saved) rs (r ∷ []) (omega arith) ∙ tail)

lies_left : (place : ℕ) (saved registers : List ℕ) → length registers ≡ 4 → length saved ≤ 4 → 0 < length saved
    → LiesIn saved registers
    → (slice_index registers 0 ≡ slice_index saved 0) × LiesIn (stack_by Returns place saved) (drop 1 registers ++ take 1 registers)
lies_left place [] registers four few some lies = absurd (omega arith)
lies_left place (back ∷ saved) registers four few some lies = lies_returned back saved registers four (omega arith) lies

abbrev turn_at : List ℕ → ℕ → ℕ → List ℕ
turn_at registers at word = turned registers (on at 1) word

-- what stays between the two runs
record Going (run other : Newest) (registers : List ℕ) : Type 0 where
  is_open : other.is_open ≡ run.is_open
  place : next other.visits ≡ next run.visits
  fates : fate other.visits ≡ fate run.visits
  lies : LiesIn (stack run.visits) registers

abbrev Unbroken : Newest → Type 0
Unbroken run = (fault : GenFault) → fate run.visits ≡ Breaks fault → ⊥

record Beside (run other : Newest) (registers : List ℕ) : Type 0 where
  begin : other.first ≡ run.first
  held : other.held ≡ run.held
  beam : beam_after other.first other.visits ≡ beam_after run.first run.visits
  drew : strokes other.first other.visits ≡ strokes run.first run.visits
  going : Unbroken run → Going run other registers

goes_unbroken : (run : Newest) → fate run.visits ≡ Goes → Unbroken run
goes_unbroken run goes fault broke = let never : Goes ≡ Breaks fault = sym goes ∙ broke in absurd (cc)

-- with a word more that is no turn
grown_plain : (run other : Newest) (registers : List ℕ) → Beside run other registers → Going run other registers
    → {us vs : List Visit} {h k : Option ℕ} → Grows run.visits other.visits us vs → k ≡ h
    → Beside (grown run us h) (grown other vs k) registers
grown_plain run other registers a g still same = record {
  begin = a.begin;
  held = same;
  beam = a.beam;
  drew = a.drew;
  going = λ unbroken. record { is_open = ap goes_on g.fates; place = g.place; fates = g.fates; lies = g.lies };
}
grown_plain run other registers a g (more {code = code} plain) same =
    let fates = plain_fate (act_of code) other.visits run.visits plain in
    record {
      begin = a.begin;
      held = same;
      beam = ap (λ b. moved b code) a.beam;
      drew = ap₂ (λ drew beam. drew ++ drawn beam code) a.drew a.beam;
      going = λ unbroken. record {
        is_open = ap goes_on fates;
        place = plain_led (act_of code) (next other.visits) (next run.visits) code other.visits run.visits plain g.place;
        fates = fates;
        lies = subst (λ saved. LiesIn saved registers) (sym (plain_stack (act_of code) (next run.visits) (stack run.visits) plain)) g.lies;
      };
    }

-- a call or a return that did not break the run goes on
goes_else : {f : Fate} {fault : GenFault} (b : Bool) → f ≡ cond b (Breaks fault) Goes → (f ≡ Breaks fault → ⊥) → f ≡ Goes
goes_else true is unbroken = absurd (unbroken is)
goes_else false is unbroken = is

-- with a call or a return more, and a jump in its place
grown_turn : (run other : Newest) (registers : List ℕ) (word : ℕ) → AreRegisters registers → Sound run.visits
    → Beside run other registers → Going run other registers
    → {us vs : List Visit} {h k : Option ℕ} → Turns run.visits word us h → JumpsOn other.visits (jump_of registers word) vs k
    → Beside (grown run us h) (grown other vs k) (turned registers (on (next other.visits) 1) word)
grown_turn run other registers word are sound a g (calls_to {to = to} is small) (jumps_to {to = there} jump) =
    let newest = visit (next run.visits) (Jsrl to) in
    let low : word < 0xD000 = omega arith in
    let leads : there ≡ to = let jumps = sym (jump_of_call registers word low) ∙ jump in omega arith in
    record {
      begin = a.begin;
      held = refl;
      beam = a.beam;
      drew = ap (λ drew. drew ++ []) a.drew;
      going = λ unbroken.
          let goes : fate (newest ∷ run.visits) ≡ Goes =
          goes_else (eqb (calls run.visits) (returns run.visits + 4)) refl (unbroken StackOver) in
          let can : length (stack run.visits) < 4 = can_more newest run.visits sound goes in
          let back = on (next other.visits) 1 in
          let lies : LiesIn (on (next run.visits) 1 ∷ stack run.visits) (on (next run.visits) 1 ∷ take 3 registers) =
          lies_called (on (next run.visits) 1) (stack run.visits) registers can g.lies in
          let there_lies = subst (λ place. LiesIn (on (next run.visits) 1 ∷ stack run.visits) (on place 1 ∷ take 3 registers)) (sym g.place) lies in
          record {
            is_open = ap goes_on (sym goes);
            place = leads;
            fates = sym goes;
            lies = subst (LiesIn (on (next run.visits) 1 ∷ stack run.visits)) (sym (turned_call registers back word low)) there_lies;
          };
    }
grown_turn run other registers word are sound a g (comes_back high) (jumps_to {to = there} jump) =
    let newest = visit (next run.visits) Rtsl in
    let leads : there ≡ slice_index registers 0 =
    let jumps = sym (jump_of_return registers word high) ∙ jump in omega arith in
    record {
      begin = a.begin;
      held = refl;
      beam = a.beam;
      drew = ap (λ drew. drew ++ []) a.drew;
      going = λ unbroken.
          let goes : fate (newest ∷ run.visits) ≡ Goes =
          goes_else (eqb (calls run.visits) (returns run.visits)) refl (unbroken StackUnder) in
          let can = can_more newest run.visits sound goes in
          let back = on (next other.visits) 1 in
          let returned = lies_left (next run.visits) (stack run.visits) registers are.four sound.short can g.lies in
          record {
            is_open = ap goes_on (sym goes);
            place = leads ∙ returned.0 ∙ sym (next_is newest run.visits);
            fates = sym goes;
            lies = subst (LiesIn (stack (newest ∷ run.visits))) (sym (turned_return registers back word high)) returned.1;
          };
    }

-- runs that are over
over : {run other : Newest} {registers : List ℕ} → Beside run other registers → Beside (stopped run) (stopped other) registers
over a = record {
  begin = a.begin;
  held = a.held;
  beam = a.beam;
  drew = a.drew;
  going = λ unbroken. let g = a.going unbroken in record { is_open = refl; place = g.place; fates = g.fates; lies = g.lies };
}

-- the two runs stay beside each other
beside : {history told : List Told} {registers : List ℕ} {run other : Newest} → Leaves history run
    → Wraps history told registers → Leaves told other → Beside run other registers
beside new wraps.new new = record {
  begin = refl;
  held = refl;
  beam = refl;
  drew = refl;
  going = λ unbroken. record { is_open = refl; place = refl; fates = refl; lies = refl };
}
beside (starts l) (wraps.starts w) (starts m) =
    let a = beside l w m in
    record {
      begin = a.beam;
      held = refl;
      beam = a.beam;
      drew = refl;
      going = λ unbroken. record { is_open = refl; place = refl; fates = refl; lies = refl };
    }
beside (resets l) (wraps.resets w) (resets m) = over (beside l w m)
beside (meets_hole l o) (wraps.meets_hole w) (meets_hole m p) = over (beside l w m)
beside {registers = registers} (takes {run = run} {word = word} {visits = us} {held = h} l o adds)
    (wraps.takes w k plain) (takes {run = other} {visits = vs} {held = there} m p adds') =
    let a = beside l w m in
    let g = a.going (goes_unbroken run (open_goes l o)) in
    let none =
    ap (λ k. is_turn k word) (sym a.held) ∙ (ap (λ r. is_turn r.held word) (sym (leaves_same k m)) ∙ plain) in
    let more = grows adds (subst (λ k. Adds other.visits k word vs there) a.held adds') none in
    grown_plain run other registers a g more.0 more.1
beside (takes {run = run} {word = word} {visits = us} {held = h} l o adds)
    (wraps.turns {registers = registers} {run = asked} w k turn) (takes {run = other} {visits = vs} {held = there} m p adds') =
    let a = beside l w m in
    let g = a.going (goes_unbroken run (open_goes l o)) in
    let same = leaves_same k m in
    let turn_here = ap (λ k. is_turn k word) (sym a.held) ∙ (ap (λ r. is_turn r.held word) (sym same) ∙ turn) in
    let range = turn_range run.held word turn_here in
    let alone = a.held ∙ range.0 in
    let are = registers_are w in
    let jump = jump_range registers word are range.1 in
    let turned = turned_adds (subst (λ k. Adds run.visits k word us h) range.0 adds) range.1 range.2 in
    let jumped =
    jumped_adds (subst (λ k. Adds other.visits k (jump_of registers word) vs there) alone adds') jump.0 jump.1 in
    let grown_both = grown_turn run other registers word are (open_sound l o) a g turned jumped in
    let at = ap (λ r. wanted r.visits r.held) same ∙ ap (wanted other.visits) alone in
    subst (λ to. Beside (grown run us h) (grown other vs there) (turn_at registers to word)) (sym at) grown_both

-- so they are alike
pub alike : WrapsAlike
alike history told registers run other l w m unbroken =
    let a = beside l w m in
    let g = a.going unbroken in
    record {
      is_open = g.is_open;
      held = a.held;
      wanted = ap (wanted other.visits) a.held ∙ wanted_at run.held g.place;
      fate = g.fates;
      beam = a.beam;
      strokes = a.drew;
    }
  where
    wanted_at : (held : Option ℕ) → next other.visits ≡ next run.visits → wanted other.visits held ≡ wanted run.visits held
    wanted_at None place = place
    wanted_at (Some held) place = ap (λ at. on at 1) place

-- a word that is no turn breaks no run
plain_word : {us us' : List Visit} {held h : Option ℕ} {word : ℕ} (fault : GenFault) → Adds us held word us' h
    → is_turn held word ≡ false → fate us ≡ Goes → fate us' ≡ Breaks fault → ⊥
plain_word fault (first p) none goes broke = let never : Goes ≡ Breaks fault = sym goes ∙ broke in absurd (cc)
plain_word fault (one {visits = us} {code = code} s) none goes broke =
    plain_unbroken (act_of code) us fault (plain_one s none) broke
plain_word fault (two {visits = us} {code = code} s) none goes broke =
    plain_unbroken (act_of code) us fault (plain_two s) broke

jump_plain : (word : ℕ) → 0xE000 ≤ word → is_turn None word ≡ false
jump_plain word high = ap (λ b. nat_le 0xC000 word && b) (le-ltb word 0xE000 high) ∙ and_false (nat_le 0xC000 word)
  where
    and_false : (b : Bool) → (b && false) ≡ false
    and_false true = refl
    and_false false = refl

-- nothing does where the stack wraps
pub unbroken : WrapsUnbroken
unbroken history told registers run fault wraps.new new broke = let never : Goes ≡ Breaks fault = broke in absurd (cc)
unbroken history told registers run fault (wraps.starts w) (starts l) broke =
    let never : Goes ≡ Breaks fault = broke in absurd (cc)
unbroken history told registers run fault (wraps.resets w) (resets {run = before} l) broke =
    unbroken _ _ _ before fault w l broke
unbroken history told registers run fault (wraps.meets_hole w) (meets_hole {run = before} l o) broke =
    unbroken _ _ _ before fault w l broke
unbroken history told registers run fault (wraps.takes {word = word} w k plain) (takes l o adds) broke =
    plain_word fault adds (ap (λ r. is_turn r.held word) (sym (leaves_same k l)) ∙ plain) (open_goes l o) broke
unbroken history told registers run fault (wraps.turns {registers = kept} {run = asked} {word = word} w k turn) (takes {run = before} l o adds) broke =
    let range = turn_range asked.held word turn in
    let jump = jump_range kept word (registers_are w) range.1 in
    let alone = ap (λ r. r.held) (sym (leaves_same k l)) ∙ range.0 in
    plain_word fault adds (ap (λ h. is_turn h (jump_of kept word)) alone ∙ jump_plain (jump_of kept word) jump.0) (open_goes l o) broke
