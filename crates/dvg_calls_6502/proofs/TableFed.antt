-- What a table gives the machine code of a frame.
use Rattle.std.proofs.Common.{◌≡◌, ℕ, suc, ◌+◌, ◌-◌, ◌*◌, ◌%◌, ◌/◌, ◌<◌, ◌≤◌, ℤ, pos, negsuc, Bool, true}
use Rattle.std.proofs.Common.{false, not, List, [], ◌∷◌, ◌++◌, refl, sym, ap, ◌∙◌, arith, eqb-true, eq-eqb}
use Rattle.std.proofs.Common.{leb-true}
use Rattle.std.proofs.lemmas.Bool.{agree_below_at, lt-leb as le_not, le-leb as le_true}
use Rattle.std.proofs.lemmas.List.Concat.{flat_map-cons}
use Rattle.std.specs.Prelude.{nat_eq, nat_le, nat_lt, ◌&&◌, ◌||◌, bit_and, bit_or, if◌then◌else◌, unsigned_abs}
use Rattle.dvg_code.specs.declared.instr.Instr.TheVariants.{Vctr, Labs, Svec, Halt, Jsrl, Rtsl, Jmpl}
use Rattle.dvg_code.specs.Spelling.{canon, sign_bit}
use Rattle.dvg_mem.specs.declared.half.Half.{Half}
use Rattle.dvg_mem.specs.declared.half.Half.TheVariants.{H0, H1}
use Rattle.dvg_mem.specs.Areas.{high}
use Rattle.dvg_frame.specs.declared.op.OpKind.{OpKind}
use Rattle.dvg_frame.specs.declared.op.OpKind.TheVariants.{Draw, CallRom, JumpRom, Call, Jump, Return, Halt as Stop}
use Rattle.dvg_frame.specs.Bytes.{bytes}
use Rattle.dvg_frame.specs.Cursors.{laid_ops}
use Rattle.dvg_frame.specs.Layout.{op_code, at}
use Rattle.dvg_frame.specs.Ops.{IsOp}
use Rattle.dvg_calls_6502.specs.Feed.{fed, moved_byte}
use Rattle.dvg_calls_6502.specs.Tables.{IsExpressible, AreExpressible, TableLaw}
use Rattle.dvg_frame.proofs.Bytes.{bytes-append as bytes_append}

-- the high bytes of calls and jumps below 400, by trying each byte
abbrev ours : ℕ → Bool
ours b = (nat_le 0xC0 b && nat_lt b 0xC4) || (nat_le 0xE0 b && nat_lt b 0xE4)

masks : (b : ℕ) → b < 256 → nat_eq (bit_and b 0xDC) 0xC0 ≡ ours b
masks b h = agree_below_at (λ k. nat_eq (bit_and k 0xDC) 0xC0) ours 256 b refl h

ors : (b : ℕ) → b < 256 → nat_eq (b / 2 % 2) 0 ≡ true → bit_or 2 b ≡ b + 2
ors b h low = eqb-true (bit_or 2 b) (b + 2)
    (by (nat_eq (b / 2 % 2) 0) (nat_eq (bit_or 2 b) (b + 2))
    (agree_below_at (λ k. not (nat_eq (k / 2 % 2) 0) || nat_eq (bit_or 2 k) (k + 2)) (λ k. true) 256 b refl h) low)
  where
    by : (t u : Bool) → (not t || u) ≡ true → t ≡ true → u ≡ true
    by true u is low = is
    by false u is low = absurd (cc)

abbrev is_1 : Half → Bool
is_1 H0 = false
is_1 H1 = true

abbrev feed : Half → List ℕ → List ℕ
feed half list = fed (high half) false false list

-- a word that is one instruction, and calls or jumps nowhere in the frame
alone : (half : Half) (w : ℕ) (rest : List ℕ) → w < 65536 → nat_le 0xB0 (w / 256) ≡ true → ours (w / 256) ≡ false
    → feed half (bytes (w ∷ rest)) ≡ w % 256 ∷ w / 256 ∷ feed half (bytes rest)
alone half w rest small great out =
    let h : w / 256 < 256 = omega arith in
    ap (λ (t : Bool). w % 256 ∷ moved_byte (high half) (w / 256) ∷ fed (high half) false (not t) (bytes rest)) great
    ∙ ap (λ (t : Bool). w % 256 ∷ (if t then bit_or (bit_and (high half) 2) (w / 256) else w / 256)
    ∷ feed half (bytes rest)) (masks (w / 256) h ∙ out)

-- a word that wants a second one
pair : (half : Half) (w v : ℕ) (rest : List ℕ) → w < 0xB000 → feed half (bytes (w ∷ v ∷ rest)) ≡ w % 256 ∷ w / 256
    ∷ v % 256 ∷ v / 256 ∷ feed half (bytes rest)
pair half w v rest small =
    let less : nat_le 0xB0 (w / 256) ≡ false = under (nat_le 0xB0 (w / 256)) refl in
    let h : w / 256 < 256 = omega arith in
    ap (λ (t : Bool). w % 256 ∷ moved_byte (high half) (w / 256) ∷ fed (high half) false (not t) (bytes (v ∷ rest)))
    less
    ∙ ap (λ (t : Bool). w % 256 ∷ (if t then bit_or (bit_and (high half) 2) (w / 256) else w / 256) ∷ v % 256
    ∷ v / 256 ∷ feed half (bytes rest)) (masks (w / 256) h ∙ out)
  where
    under : (t : Bool) → nat_le 0xB0 (w / 256) ≡ t → nat_le 0xB0 (w / 256) ≡ false
    under false is = is
    under true is = let most = leb-true 0xB0 (w / 256) is in absurd (omega arith)

    not_le : (k b : ℕ) → b < k → nat_le k b ≡ false
    not_le k b h = by (nat_le k b) refl
      where
        by : (t : Bool) → nat_le k b ≡ t → nat_le k b ≡ false
        by false is = is
        by true is = let most = leb-true k b is in absurd (omega arith)

    out : ours (w / 256) ≡ false
    out = let a : nat_le 0xC0 (w / 256) ≡ false = not_le 0xC0 (w / 256) (omega arith) in
        let b : nat_le 0xE0 (w / 256) ≡ false = not_le 0xE0 (w / 256) (omega arith) in rw (a, b) refl

-- a word that calls or jumps to a word of the frame, and what stands for it
named : (half : Half) (w also : ℕ) (rest : List ℕ) → w < 65536 → nat_le 0xB0 (w / 256) ≡ true → ours (w / 256) ≡ true
    → w % 256 ≡ also % 256 → bit_or (bit_and (high half) 2) (w / 256) ≡ also / 256
    → feed half (bytes (w ∷ rest)) ≡ also % 256 ∷ also / 256 ∷ feed half (bytes rest)
named half w also rest small great in_frame low top =
    let h : w / 256 < 256 = omega arith in
    ap (λ (t : Bool). w % 256 ∷ moved_byte (high half) (w / 256) ∷ fed (high half) false (not t) (bytes rest)) great
    ∙ ap (λ (t : Bool). w % 256 ∷ (if t then bit_or (bit_and (high half) 2) (w / 256) else w / 256)
    ∷ feed half (bytes rest)) (masks (w / 256) h ∙ in_frame)
    ∙ ap (λ b. w % 256 ∷ b ∷ feed half (bytes rest)) top ∙ ap (λ b. b ∷ also / 256 ∷ feed half (bytes rest)) low

ours_C : (b : ℕ) → 0xC0 ≤ b → b < 0xC4 → ours b ≡ true
ours_C b low high = let p = le_true 0xC0 b low in let q = le_true (suc b) 0xC4 high in rw (p, q) refl

ours_E : (b : ℕ) → 0xE0 ≤ b → b < 0xE4 → ours b ≡ true
ours_E b low high = let p = le_true 0xE0 b low in let q = le_true (suc b) 0xE4 high in
    let r = le_true 0xC0 b (omega arith) in let t = le_not (suc b) 0xC4 (omega arith) in rw (p, q, r, t) refl

not_ours_C : (b : ℕ) → 0xC4 ≤ b → b < 0xE0 → ours b ≡ false
not_ours_C b low high = let p = le_not 0xE0 b high in let q = le_not (suc b) 0xC4 (omega arith) in
    let r = le_true 0xC0 b (omega arith) in rw (p, q, r) refl

not_ours_E : (b : ℕ) → 0xE4 ≤ b → ours b ≡ false
not_ours_E b low = let p = le_true 0xE0 b (omega arith) in let q = le_not (suc b) 0xE4 (omega arith) in
    let r = le_true 0xC0 b (omega arith) in let t = le_not (suc b) 0xC4 (omega arith) in rw (p, q, r, t) refl

-- the words of calls and jumps into the frame
call_word : (half : Half) (n also : ℕ) (rest : List ℕ) → n ≤ 0x1FF → also ≡ n + (if is_1 half then 0x200 else 0)
    → feed half (bytes ((0xC000 + n) ∷ rest)) ≡ (0xC000 + also) % 256 ∷ (0xC000 + also) / 256 ∷ feed half (bytes rest)
call_word H0 n also rest small is =
    named H0 (0xC000 + n) (0xC000 + also) rest (omega arith) (le_true 0xB0 ((0xC000 + n) / 256) (omega arith))
    (ours_C ((0xC000 + n) / 256) (omega arith) (omega arith)) (omega arith) (omega arith)
call_word H1 n also rest small is =
    let even : (0xC000 + n) / 256 / 2 % 2 ≡ 0 = omega arith in
    let moved : bit_or 2 ((0xC000 + n) / 256) ≡ (0xC000 + n) / 256 + 2 =
    ors ((0xC000 + n) / 256) (omega arith) (eq-eqb ((0xC000 + n) / 256 / 2 % 2) 0 even) in
    let there : (0xC000 + n) / 256 + 2 ≡ (0xC000 + also) / 256 = omega arith in
    named H1 (0xC000 + n) (0xC000 + also) rest (omega arith) (le_true 0xB0 ((0xC000 + n) / 256) (omega arith))
    (ours_C ((0xC000 + n) / 256) (omega arith) (omega arith)) (omega arith) (moved ∙ there)

jump_word : (half : Half) (n also : ℕ) (rest : List ℕ) → n ≤ 0x1FF → also ≡ n + (if is_1 half then 0x200 else 0)
    → feed half (bytes ((0xE000 + n) ∷ rest)) ≡ (0xE000 + also) % 256 ∷ (0xE000 + also) / 256 ∷ feed half (bytes rest)
jump_word H0 n also rest small is =
    named H0 (0xE000 + n) (0xE000 + also) rest (omega arith) (le_true 0xB0 ((0xE000 + n) / 256) (omega arith))
    (ours_E ((0xE000 + n) / 256) (omega arith) (omega arith)) (omega arith) (omega arith)
jump_word H1 n also rest small is =
    let even : (0xE000 + n) / 256 / 2 % 2 ≡ 0 = omega arith in
    let moved : bit_or 2 ((0xE000 + n) / 256) ≡ (0xE000 + n) / 256 + 2 =
    ors ((0xE000 + n) / 256) (omega arith) (eq-eqb ((0xE000 + n) / 256 / 2 % 2) 0 even) in
    let there : (0xE000 + n) / 256 + 2 ≡ (0xE000 + also) / 256 = omega arith in
    named H1 (0xE000 + n) (0xE000 + also) rest (omega arith) (le_true 0xB0 ((0xE000 + n) / 256) (omega arith))
    (ours_E ((0xE000 + n) / 256) (omega arith) (omega arith)) (omega arith) (moved ∙ there)

sign_small : (z : ℤ) → sign_bit z ≤ 1
sign_small (pos n) = omega arith
sign_small (negsuc n) = omega arith

-- an operation's words, and those after them
op_fed : (half : Half) (F : List OpKind) (op : OpKind) (rest : List ℕ) → IsOp op → IsExpressible F op
    → feed half (bytes (canon (op_code H0 F op) ++ rest)) ≡ bytes (canon (op_code half F op)) ++ feed half (bytes rest)
op_fed half F (Draw (Vctr scale dx dy z)) rest op fit =
    let a = sign_small dy in let b = op.0.0 in let c = op.0.2 in
    pair half (4096 * scale + 1024 * sign_bit dy + unsigned_abs dy) (4096 * z + 1024 * sign_bit dx + unsigned_abs dx)
    rest (omega (arith, a, b, c))
op_fed half F (Draw (Labs x y scale)) rest op fit =
    pair half (0xA000 + y) (4096 * scale + x) rest (omega (arith, op.0.1))
op_fed half F (Draw (Svec scale dx dy z)) rest op fit =
    let w = 0xF000 + 2048 * ((scale - 2) % 2) + 1024 * sign_bit dy + 256 * unsigned_abs dy + 16 * z
    + 8 * ((scale - 2) / 2) + 4 * sign_bit dx + unsigned_abs dx in
    let a = sign_small dy in let b = sign_small dx in let c = op.0.1 in let d = op.0.3 in let e = op.0.2 in
    let f = op.0.4 in
    let high : w < 65536 = omega (arith, a, b, c, d, e, f) in
    let low : 0xF0 ≤ w / 256 = omega arith in
    alone half w rest high (le_true 0xB0 (w / 256) (omega arith)) (not_ours_E (w / 256) (omega arith))
op_fed half F (CallRom a) rest op fit =
    alone half (0xC000 + a) rest (omega arith) (le_true 0xB0 ((0xC000 + a) / 256) (omega arith))
    (not_ours_C ((0xC000 + a) / 256) (omega arith) (omega arith))
op_fed half F (JumpRom a) rest op fit =
    alone half (0xE000 + a) rest (omega arith) (le_true 0xB0 ((0xE000 + a) / 256) (omega arith))
    (not_ours_E ((0xE000 + a) / 256) (omega arith))
op_fed H0 F (Call j) rest op fit = call_word H0 (at H0 F j) (at H0 F j) rest fit (omega arith)
op_fed H1 F (Call j) rest op fit = call_word H1 (at H0 F j) (at H1 F j) rest fit (omega arith)
op_fed H0 F (Jump j) rest op fit = jump_word H0 (at H0 F j) (at H0 F j) rest fit (omega arith)
op_fed H1 F (Jump j) rest op fit = jump_word H1 (at H0 F j) (at H1 F j) rest fit (omega arith)
op_fed half F Return rest op fit = alone half 0xD000 rest (omega arith) refl refl
op_fed half F Stop rest op fit = alone half 0xB000 rest (omega arith) refl refl
op_fed half F _ rest op fit = absurd (let e = op.1 in cc)

ops_fed : (half : Half) (F ops : List OpKind) → AreExpressible F ops
    → feed half (bytes (laid_ops H0 F ops)) ≡ bytes (laid_ops half F ops)
ops_fed half F [] fit = refl
ops_fed half F (op ∷ ops) fit =
    ap (λ l. feed half (bytes l)) (flat_map-cons (λ o. canon (op_code H0 F o)) op ops)
    ∙ op_fed half F op (laid_ops H0 F ops) fit.0 fit.1
    ∙ ap (λ l. bytes (canon (op_code half F op)) ++ l) (ops_fed half F ops fit.2)
    ∙ sym (bytes_append (canon (op_code half F op)) (laid_ops half F ops))
    ∙ ap bytes (sym (flat_map-cons (λ o. canon (op_code half F o)) op ops))

pub table_law : TableLaw
table_law half F fit = ops_fed half F F fit
