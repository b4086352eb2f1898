-- The memory of a laid-out draft holds its operations and the ROM's instructions.
use Rattle.std.proofs.Common.{◌≡◌, ℕ, zero, suc, ◌+◌, ◌-◌, ◌<◌, ◌≤◌, inl, inr, ⊎_elim, List, [], ◌∷◌, ◌++◌, length, get_or, take, Option, Some, None, refl, sym, ap, ◌∙◌, subst, arith}
use Rattle.std.specs.Prelude.{slice_get, slice_index, flat_map}
use Rattle.std.proofs.lemmas.Bool.{cases_lt}
use Rattle.std.proofs.lemmas.Option.{slice_get_within, slice_get-get_or, get_or_from_slice_get}
use Rattle.std.proofs.lemmas.List.Elements.{All-get_or}
use Rattle.dvg_code.specs.declared.instr.Instr.{Instr}
use Rattle.dvg_code.specs.declared.instr.Instr.TheVariants.{Vctr, Labs, Halt, Jsrl, Rtsl, Jmpl, Svec}
use Rattle.dvg_code.specs.Spelling.{Spells, word_count, canon}
use Rattle.dvg_code.specs.Ranges.{InRange}
use Rattle.dvg_code.proofs.Unique.{same_spelling}
use Rattle.dvg_code.proofs.FieldsSpell.{canon_spells}
use Rattle.dvg_code.proofs.Beginnings.{one_word, two_words}
use Rattle.dvg_mem.specs.declared.half.Half.{Half}
use Rattle.dvg_mem.specs.declared.half.Half.TheVariants.{H0, H1}
use Rattle.dvg_mem.specs.Areas.{base}
use Rattle.dvg_code.specs.Words.{word_in}
use Rattle.dvg_mem.specs.Memory.{first_word, rom_word}
use Rattle.dvg_mem.proofs.Roms.{behind_ram, none_there, rom_some, rom_there, word_fits}
use Rattle.dvg_code.specs.Acts.{Act, Moves, Jumps, Calls, act_by, act_of}
use Rattle.dvg_gen.specs.Run.{on}
use Rattle.dvg_frame.specs.declared.op.OpKind.{OpKind}
use Rattle.dvg_frame.specs.declared.op.OpKind.TheVariants.{Draw, CallRom, JumpRom, Call, Jump, Return, Halt as Stop}
use Rattle.dvg_frame.specs.declared.place.Place.{Place}
use Rattle.dvg_frame.specs.declared.place.Place.TheVariants.{InFrame, InRom}
use Rattle.dvg_frame.specs.Ops.{IsOp, IsDraft}
use Rattle.dvg_frame.specs.Layout.{op_words, size, at, op_code, laid}
use Rattle.dvg_frame.specs.declared.fault.FrameFault.TheVariants.{RunsOff, OutOfRom}
use Rattle.dvg_frame.specs.Steps.{SpelledAt, one, two, op_act, Stands, in_frame, in_rom, GoesPast, Names, misses, IsFine, last, target, second, past, Leads, Reached, begin, step, Closed, BeginsWithLabs, labs}
use Rattle.dvg_frame.specs.Steps.{on as leads_on, jump as leads_jump, call as leads_call, back as leads_back}
use Rattle.dvg_frame.proofs.Sizes.{canon_length}
use Rattle.dvg_mem.specs.Memory.{IsRom}
use Rattle.dvg_theorem.specs.Law.{HasFrame}
use Rattle.dvg_theorem.proofs.Machine.{ReadsAt, reads1, reads2, one_size, first_size}
use Rattle.dvg_theorem.proofs.Control.{at_addresses, Found, Faithful}

-- where a place stands in memory
abbrev pub addr : Half → List OpKind → Place → ℕ
addr h F (InFrame i) = at h F i
addr h F (InRom a) = a

-- these words stand in memory from this address on
abbrev pub WordsAt : (ℕ → Option ℕ) → ℕ → List ℕ → Type 0
WordsAt mem a [] = Unit {0}
WordsAt mem a (w ∷ ws) = (mem a ≡ Some w) × WordsAt mem (a + 1) ws

words_front : (mem : ℕ → Option ℕ) (a : ℕ) (xs ys : List ℕ) → WordsAt mem a (xs ++ ys) → WordsAt mem a xs
words_front mem a [] ys h = tt
words_front mem a (x ∷ xs) ys h = (h.0, words_front mem (a + 1) xs ys h.1)

words_back : (mem : ℕ → Option ℕ) (a : ℕ) (xs ys : List ℕ) → WordsAt mem a (xs ++ ys) → WordsAt mem (a + length xs) ys
words_back mem a [] ys h = let e : a ≡ a + 0 = omega arith in subst (λ n. WordsAt mem n ys) e h
words_back mem a (x ∷ xs) ys h =
    let e : a + 1 + length xs ≡ a + length (x ∷ xs) = omega arith in
    subst (λ n. WordsAt mem n ys) e (words_back mem (a + 1) xs ys h.1)

held_words : (mem : ℕ → Option ℕ) (ws : List ℕ) (a : ℕ) → ((k : ℕ) → k < length ws → mem (a + k) ≡ Some (slice_index ws k)) → WordsAt mem a ws
held_words mem [] a f = tt
held_words mem (w ∷ ws) a f =
    let e0 : a ≡ a + 0 = omega arith in
    let here = ap mem e0 ∙ f 0 (omega arith) in
    let rest = held_words mem ws (a + 1) (λ k lt. let e : a + 1 + k ≡ a + suc k = omega arith in ap mem e ∙ f (suc k) (omega arith)) in
    (here, rest)

code_words : (h : Half) (F : List OpKind) (op : OpKind) → word_count (op_code h F op) ≡ op_words op
code_words h F (Draw c) = refl
code_words h F (CallRom a) = refl
code_words h F (JumpRom a) = refl
code_words h F (Call j) = refl
code_words h F (Jump j) = refl
code_words h F Return = refl
code_words h F Stop = refl

size_take : (F : List OpKind) (i : ℕ) → size (take i F) ≤ size F
size_take F zero = omega arith
size_take [] (suc i) = omega arith
size_take (op ∷ F) (suc i) = let h = size_take F i in omega arith

size_next : (F : List OpKind) (i : ℕ) (op : OpKind) → slice_get F i ≡ Some op → size (take (suc i) F) ≡ size (take i F) + op_words op
size_next [] i op e = cc
size_next (o ∷ F) zero op e = let k : o ≡ op = cc in let k2 = ap op_words k in omega arith
size_next (o ∷ F) (suc i) op e = let h = size_next F i op e in omega arith

op_at : (mem : ℕ → Option ℕ) (h : Half) (F ops : List OpKind) (i a : ℕ) (op : OpKind) → WordsAt mem a (flat_map (λ o. canon (op_code h F o)) ops) → slice_get ops i ≡ Some op → WordsAt mem (a + size (take i ops)) (canon (op_code h F op))
op_at mem h F [] i a op w e = cc
op_at mem h F (o ∷ ops) zero a op w e =
    let k : o ≡ op = cc in
    let n : a ≡ a + 0 = omega arith in
    subst (λ x. WordsAt mem x (canon (op_code h F op))) n (subst (λ x. WordsAt mem a (canon (op_code h F x))) k (words_front mem a (canon (op_code h F o)) _ w))
op_at mem h F (o ∷ ops) (suc i) a op w e =
    let t = op_at mem h F ops i (a + length (canon (op_code h F o))) op (words_back mem a (canon (op_code h F o)) _ w) e in
    let n : a + length (canon (op_code h F o)) + size (take i ops) ≡ a + (op_words o + size (take i ops)) = omega (arith, canon_length h F o) in
    subst (λ x. WordsAt mem x (canon (op_code h F op))) n t

reads_canon : (mem : ℕ → Option ℕ) (c : Instr) (a : ℕ) → a + 1 < 4096 → Spells c (canon c) → WordsAt mem a (canon c) → ReadsAt mem a c
reads_canon mem (Vctr scale dx dy z) a h s w = let n : a + 1 ≡ on a 1 = omega arith in reads2 w.0 (ap mem (sym n) ∙ w.1.0) (first_size s) s
reads_canon mem (Labs x y scale) a h s w = let n : a + 1 ≡ on a 1 = omega arith in reads2 w.0 (ap mem (sym n) ∙ w.1.0) (first_size s) s
reads_canon mem Halt a h s w = reads1 w.0 s
reads_canon mem (Jsrl to) a h s w = reads1 w.0 s
reads_canon mem Rtsl a h s w = reads1 w.0 s
reads_canon mem (Jmpl to) a h s w = reads1 w.0 s
reads_canon mem (Svec scale dx dy z) a h s w = reads1 w.0 s

base_size : (h : Half) → base h ≤ 513
base_size H0 = omega arith
base_size H1 = omega arith

pub at_size : (h : Half) (F : List OpKind) (i : ℕ) → size F ≤ 511 → at h F i ≤ 1024
at_size h F i s = let b = base_size h in let t = size_take F i in omega arith

code_range : (h : Half) (F : List OpKind) (op : OpKind) → size F ≤ 511 → IsOp op → InRange (op_code h F op)
code_range h F (Draw c) s o = o.0
code_range h F (CallRom a) s o = o
code_range h F (JumpRom a) s o = o
code_range h F (Call j) s o = let k = at_size h F j s in omega arith
code_range h F (Jump j) s o = let k = at_size h F j s in omega arith
code_range h F Return s o = tt
code_range h F Stop s o = tt

op_acts : (h : Half) (F : List OpKind) (op : OpKind) → IsOp op → act_of (op_code h F op) ≡ at_addresses (addr h F) (op_act op)
op_acts h F (Draw c) o = o.1
op_acts h F (CallRom a) o = refl
op_acts h F (JumpRom a) o = refl
op_acts h F (Call j) o = refl
op_acts h F (Jump j) o = refl
op_acts h F Return o = refl
op_acts h F Stop o = refl

rom_acts : (h : Half) (F : List OpKind) (c : Instr) → act_of c ≡ at_addresses (addr h F) (act_by InRom c)
rom_acts h F (Vctr scale dx dy z) = refl
rom_acts h F (Labs x y scale) = refl
rom_acts h F Halt = refl
rom_acts h F (Jsrl to) = refl
rom_acts h F Rtsl = refl
rom_acts h F (Jmpl to) = refl
rom_acts h F (Svec scale dx dy z) = refl

rom_reads : (mem : ℕ → Option ℕ) (rom : List ℕ) → ((a w : ℕ) → rom_word rom a ≡ Some w → mem a ≡ Some w) → (a : ℕ) (c : Instr) → SpelledAt (rom_word rom) a c → ReadsAt mem a c
rom_reads mem rom m a c (one {word = w} e s) = reads1 (m a w e) s
rom_reads mem rom m a c (two {first = v} {second = w} e1 e2 s) =
    let b = rom_some rom (a + 1) w e2 in
    let n : a + 1 ≡ on a 1 = omega arith in
    reads2 (m a v e1) (subst (λ x. mem x ≡ Some w) n (m (a + 1) w e2)) (first_size s) s

rom_inside : (rom : List ℕ) (a : ℕ) (c : Instr) → SpelledAt (rom_word rom) a c → (first_word rom ≤ a) × (a < 0xC00)
rom_inside rom a c (one {word = w} e s) = rom_some rom a w e
rom_inside rom a c (two {first = v} e1 e2 s) = rom_some rom a v e1

few_words : (c : Instr) → word_count c ≤ 2
few_words (Vctr scale dx dy z) = omega arith
few_words (Labs x y scale) = omega arith
few_words Halt = omega arith
few_words (Jsrl to) = omega arith
few_words Rtsl = omega arith
few_words (Jmpl to) = omega arith
few_words (Svec scale dx dy z) = omega arith

same_some : (a b : ℕ) → ◌≡◌ {A = Option ℕ} (Some a) (Some b) → a ≡ b
same_some a b e = cc

reads_unique : (mem : ℕ → Option ℕ) (a : ℕ) (c c' : Instr) → ReadsAt mem a c → ReadsAt mem a c' → c ≡ c'
reads_unique mem a c c' (reads1 {w = w} e s) (reads1 {w = w'} e' s') =
    let k = same_some w w' (sym e ∙ e') in same_spelling _ _ _ s (subst (λ x. Spells c' (x ∷ [])) (sym k) s')
reads_unique mem a c c' (reads1 {w = w} e s) (reads2 {v = v} e' e2' f' s') =
    let k = same_some w v (sym e ∙ e') in let z = one_size s in absurd (omega arith)
reads_unique mem a c c' (reads2 {v = v} e e2 f s) (reads1 {w = w} e' s') =
    let k = same_some v w (sym e ∙ e') in let z = one_size s' in absurd (omega arith)
reads_unique mem a c c' (reads2 {v = v} {w = w} e e2 f s) (reads2 {v = v'} {w = w'} e' e2' f' s') =
    let k = same_some v v' (sym e ∙ e') in
    let l = same_some w w' (sym e2 ∙ e2') in
    same_spelling _ _ _ s (subst (λ y. Spells c' (v ∷ y ∷ [])) (sym l) (subst (λ x. Spells c' (x ∷ w' ∷ [])) (sym k) s'))

module _ (h : Half) (F : List OpKind) (rom : List ℕ) (mem : ℕ → Option ℕ) (draft : IsDraft F) (image : IsRom rom) (closed : Closed F rom) (holds : HasFrame mem h F rom) where
  op_of : (i : ℕ) (op : OpKind) → slice_get F i ≡ Some op → IsOp op
  op_of i op e =
      let n = slice_get_within F i op e in
      subst IsOp (get_or_from_slice_get F i op op e) (All-get_or IsOp F i op n draft.ops)

  all_words : WordsAt mem (base h) (laid h F)
  all_words = held_words mem (laid h F) (base h) holds.laid

  frame_found : (i : ℕ) (op : OpKind) → slice_get F i ≡ Some op → Found mem (addr h F) (InFrame i) (op_act op) (InFrame (i + 1))
  frame_found i op e =
      let o = op_of i op e in
      let r = code_range h F op closed.begins.fits o in
      let w = op_at mem h F F i (base h) op all_words e in
      let k = at_size h F i closed.begins.fits in
      let k2 = at_size h F (suc i) closed.begins.fits in
      let n = size_next F i op e in
      let ws = code_words h F op in
      let i1 : i + 1 ≡ suc i = omega arith in
      let next : at h F (suc i) ≡ on (at h F i) (word_count (op_code h F op)) = omega arith in
      record {
        code = op_code h F op;
        reads = reads_canon mem (op_code h F op) (at h F i) (omega arith) (canon_spells (op_code h F op) r) w;
        acts = op_acts h F op o;
        goes = λ g. ap (λ x. at h F x) i1 ∙ next;
      }

  rom_found : (a : ℕ) (c : Instr) → SpelledAt (rom_word rom) a c → Found mem (addr h F) (InRom a) (act_by InRom c) (InRom (a + word_count c))
  rom_found a c s =
      let b = rom_inside rom a c s in
      let n = few_words c in
      record { code = c; reads = rom_reads mem rom holds.shapes a c s; acts = rom_acts h F c; goes = λ g. omega arith }

  found_at : (p : Place) (act : Act Place) (after : Place) → Stands F rom p act after → Found mem (addr h F) p act after
  found_at p act after (in_frame {i = i} {op = op} e ea) =
      subst (λ x. Found mem (addr h F) (InFrame i) x (InFrame (i + 1))) (sym ea) (frame_found i op e)
  found_at p act after (in_rom {a = a} {instr = c} s ea) =
      subst (λ x. Found mem (addr h F) (InRom a) x (InRom (a + word_count c))) (sym ea) (rom_found a c s)

  -- a place of the draft, or of the ROM
  abbrev Inside : Place → Type 0
  Inside (InFrame i) = i < length F
  Inside (InRom a) = (first_word rom ≤ a) × (a < 0xC00)

  not_outside : (a : ℕ) → ¬ rom_word rom a ≡ None → (first_word rom ≤ a) × (a < 0xC00)
  not_outside a n =
      ⊎_elim
      (λ lt. absurd (n (none_there rom a (inl lt))))
      (λ ge. ⊎_elim (λ lt. (ge, lt)) (λ ge2. absurd (n (none_there rom a (inr ge2)))) (cases_lt a 0xC00))
      (cases_lt a (first_word rom))

  after_inside : (p after : Place) (d : ℕ) (act : Act Place) → IsFine F rom p d → Stands F rom p act after → GoesPast act → Inside after
  after_inside p after d act f (in_frame {i = i} {op = op} e ea) g =
      let n = slice_get_within F i op e in
      ⊎_elim (λ lt. lt) (λ ge. let l : i + 1 ≡ length F = omega arith in absurd (f (RunsOff i) (last (in_frame e ea) g l))) (cases_lt (i + 1) (length F))
  after_inside p after d act f (in_rom {a = a} {instr = c} s ea) g =
      not_outside (a + word_count c) (λ o. f (OutOfRom (InRom a)) (past (in_rom s ea) g o))

  rom_names : (c : Instr) (j : ℕ) → Names (act_by InRom c) (InFrame j) → ⊥
  rom_names (Vctr scale dx dy z) j n = n
  rom_names (Labs x y scale) j n = n
  rom_names Halt j n = n
  rom_names (Jsrl to) j n = let e : InRom to ≡ InFrame j = n in cc
  rom_names Rtsl j n = n
  rom_names (Jmpl to) j n = let e : InRom to ≡ InFrame j = n in cc
  rom_names (Svec scale dx dy z) j n = n

  named_inside : (p after q : Place) (d : ℕ) (act : Act Place) → IsFine F rom p d → Stands F rom p act after → Names act q → Inside q
  named_inside p after (InRom b) d act f s n = not_outside b (λ o. f (OutOfRom p) (target b s n o))
  named_inside p after (InFrame j) d act f (in_frame {i = i} {op = op} e ea) n =
      ⊎_elim (λ lt. lt) (λ far. absurd (closed.begins.targets i (misses e (subst (λ x. Names x (InFrame j)) ea n) far))) (cases_lt j (length F))
  named_inside p after (InFrame j) d act f (in_rom {a = a} {instr = c} s ea) n = absurd (rom_names c j (subst (λ x. Names x (InFrame j)) ea n))

  lead_inside : (p q : Place) (d e : ℕ) → IsFine F rom p d → Leads F rom p d q e → Inside q
  lead_inside p q d e f (leads_on {instr = c} s) = after_inside p q d (Moves c) f s tt
  lead_inside p q d e f (leads_jump {after = after} s) = named_inside p after q d (Jumps q) f s refl
  lead_inside p q d e f (leads_call {after = after} s) = named_inside p after q d (Calls q) f s refl
  lead_inside p q d e f (leads_back {q = to} s) = after_inside p q d (Calls to) f s tt

  some_first : (G : List OpKind) → BeginsWithLabs G → 0 < length G
  some_first G labs = omega arith

  inside : (p : Place) (d : ℕ) → Reached F rom p d → Inside p
  inside p d begin = some_first F closed.begins.begins
  inside p d (step {p = q} {d = e} r f l) = lead_inside q p e d f l

  stands_rom : (a d : ℕ) → first_word rom ≤ a → a < 0xC00 → IsFine F rom (InRom a) d → (act : Act Place) × (after : Place) × Stands F rom (InRom a) act after
  stands_rom a d h1 h2 f =
      let e = rom_there rom a h1 h2 in
      let n = word_fits rom a image h1 h2 in
      ⊎_elim
      (λ lt.
      let b = not_outside (a + 1) (λ o. f (OutOfRom (InRom a)) (second e lt o)) in
      let e2 = rom_there rom (a + 1) b.0 b.1 in
      let n2 = word_fits rom (a + 1) image b.0 b.1 in
      let c = two_words (word_in rom (a - first_word rom)) (word_in rom (a + 1 - first_word rom)) lt n2 in
      (act_by InRom c.0, InRom (a + word_count c.0), in_rom (two e e2 c.1) refl))
      (λ ge.
      let c = one_word (word_in rom (a - first_word rom)) ge n in
      (act_by InRom c.0, InRom (a + word_count c.0), in_rom (one e c.1) refl))
      (cases_lt (word_in rom (a - first_word rom)) 45056)

  stands_in : (p : Place) (d : ℕ) → Inside p → IsFine F rom p d → (act : Act Place) × (after : Place) × Stands F rom p act after
  stands_in (InFrame i) d n f =
      let op = get_or F i Return in
      (op_act op, InFrame (i + 1), in_frame (slice_get-get_or F i Return n) refl)
  stands_in (InRom a) d n f = stands_rom a d n.0 n.1 f

  pub faithful : Faithful F rom mem (addr h F)
  faithful =
      record {
        found = λ p d act after r s. found_at p act after s;
        there = λ p d r. stands_in p d (inside p d r) (closed.fine p d r);
        unique = λ a c c'. reads_unique mem a c c';
      }

  pub start_reads : ReadsAt mem 0 (Jmpl (base h))
  start_reads =
      let b = base_size h in
      let r : InRange (Jmpl (base h)) = omega arith in
      reads_canon mem (Jmpl (base h)) 0 (omega arith) (canon_spells (Jmpl (base h)) r) (holds.zero, tt)

  -- an instruction of the draft or of the ROM stands after word zero, and does not wrap round
  pub behind : (p : Place) (d : ℕ) → Reached F rom p d → (1 ≤ addr h F p) × (addr h F p < 4095)
  behind p d r = behind_in p (inside p d r)
    where
      low : (g : Half) → 1 ≤ base g
      low H0 = omega arith
      low H1 = omega arith

      behind_in : (q : Place) → Inside q → (1 ≤ addr h F q) × (addr h F q < 4095)
      behind_in (InFrame i) n = let l = low h in let k = at_size h F i closed.begins.fits in (omega arith, omega arith)
      behind_in (InRom a) n = let l = n.0 in let u = n.1 in let past = behind_ram rom in (omega arith, omega arith)
