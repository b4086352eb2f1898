-- What the tests of words and tables say.
use Rattle.std.proofs.Common.{◌≡◌, ◌⊎◌, inl, inr, ℕ, zero, suc, ◌+◌, ◌-◌, ◌*◌, ◌/◌, ◌%◌, ◌<◌, ◌≤◌, true, refl, sym, ap}
use Rattle.std.proofs.Common.{◌∙◌, arith, eqb-true, leb-true, List, [], ◌∷◌}
use Rattle.std.specs.Prelude.{◌&&◌, nat_eq, nat_le, nat_lt, length, slice_index, All, unsigned_abs}
use Rattle.std.proofs.lemmas.List.Elements.{All-cons}
use Rattle.dvg_code.specs.declared.instr.Instr.{Instr}
use Rattle.dvg_code.specs.declared.instr.Instr.TheVariants.{Vctr, Labs, Svec, Halt, Jsrl, Rtsl, Jmpl}
use Rattle.dvg_code.specs.Acts.{Moves, act_of}
use Rattle.dvg_code.specs.Ranges.{InRange}
use Rattle.dvg_code.specs.Spelling.{sign_bit}
use Rattle.dvg_frame.specs.declared.op.OpKind.{OpKind}
use Rattle.dvg_frame.specs.declared.op.OpKind.TheVariants.{Draw, CallRom, JumpRom, Call, Jump, Return, Halt as Stop}
use Rattle.dvg_frame.specs.declared.draft.TheConstants.{MAX_OPS}
use Rattle.dvg_frame.specs.Ops.{IsDraft, IsOp}
use Rattle.dvg_frame.specs.Faults.{Accepts}
use Rattle.dvg_calls_6502.specs.Build.{IsPut, calls_one}
use Rattle.dvg_calls_6502.specs.Tables.{AreExpressible, HasTable, IsExpressible, table_of}
use Rattle.dvg_calls_6502.proofs.FewAccesses.{high_plain}
use Rattle.dvg_game_rules.specs.Checker.{stand_at}
use Rattle.dvg_game_rules.specs.Machine.{word_at}
use Rattle.dvg_game_rules.proofs.Facts.{both_true}
use Rattle.dvg_game_rules.proofs.Memory.{either}
use Rattle.dvg_game_content.specs.Frames.{passes}
use Rattle.dvg_game_content.specs.Words.{calls_shape, draws, has_table, hold, is_plain, is_short, may_hold, may_lay, may_offer}
use Rattle.dvg_game_content.specs.Words.{may_put, number, shape_of, short_of}
use Rattle.dvg_game_content.proofs.Frames.{passes_accepts}

-- the operation of a word
pub record Put (R : List ℕ) (a x : ℕ) : Type 0 where
  pub op : OpKind
  pub word : a ∷ x ∷ [] ≡ table_of (op ∷ [])
  pub put : IsPut R op
  pub is_op : IsOp op

-- a call of a shape whose frame the check accepts
pub shape_word : (R : List ℕ) (a x : ℕ) → a < 256 → 0xC0 ≤ x → x < 0xD0 → Accepts (calls_one (shape_of a x)) R → Put R a x
shape_word R a x small low high accepted =
    let first : a ≡ (0xC000 + shape_of a x) % 256 = omega (arith, small, low, high) in
    let second : x ≡ (0xC000 + shape_of a x) / 256 = omega (arith, small, low, high) in
    record {
      op = CallRom (shape_of a x);
      word = λ j. first j ∷ second j ∷ [];
      put = accepted;
      is_op = omega (arith, small, low, high);
    }

shape_put : (R : List ℕ) (a x : ℕ) → a < 256 → calls_shape R a x ≡ true → Put R a x
shape_put R a x small is =
    let one = both_true (nat_le 0xC0 x && nat_lt x 0xD0) _ is in
    let two = both_true (nat_le 0xC0 x) (nat_lt x 0xD0) one.0 in
    shape_word R a x small (leb-true 0xC0 x two.0) (leb-true (suc x) 0xD0 two.1)
    (passes_accepts (calls_one (shape_of a x)) R one.1)

number_is : (sign n : ℕ) → sign < 2 → is_plain sign n ≡ true
    → (sign_bit (number sign n) ≡ sign) × (unsigned_abs (number sign n) ≡ n)
number_is zero n low is = (refl, refl)
number_is (suc zero) zero low is = absurd (cc)
number_is (suc zero) (suc n) low is = (refl, refl)
number_is (suc (suc sign)) n low is = absurd (omega (arith, low))

-- the word of a short vector, by its fields
abbrev packed : (scale ys y z xs x : ℕ) → ℕ
packed scale ys y z xs x =
    0xF000 + 2048 * ((scale - 2) % 2) + 1024 * ys + 256 * y + 16 * z + 8 * ((scale - 2) / 2) + 4 * xs + x

pub short_put : (R : List ℕ) (a x : ℕ) → a < 256 → is_short a x ≡ true → Put R a x
short_put R a x small is =
    let one = both_true (nat_le 0xF0 x && nat_lt x 0x100) _ is in
    let two = both_true (nat_le 0xF0 x) (nat_lt x 0x100) one.0 in
    let low = leb-true 0xF0 x two.0 in
    let high = leb-true (suc x) 0x100 two.1 in
    let plain = both_true (is_plain (a / 4 % 2) (a % 4)) (is_plain (x / 4 % 2) (x % 4)) one.1 in
    let dx = number_is (a / 4 % 2) (a % 4) (omega arith) plain.0 in
    let dy = number_is (x / 4 % 2) (x % 4) (omega arith) plain.1 in
    let scale : ℕ = 2 + 2 * (a / 8 % 2) + x / 8 % 2 in
    let fields : packed (2 + 2 * (a / 8 % 2) + x / 8 % 2) (x / 4 % 2) (x % 4) (a / 16) (a / 4 % 2) (a % 4) ≡ 256 * x + a =
    omega (arith, small, low, high) in
    let whole : packed (2 + 2 * (a / 8 % 2) + x / 8 % 2) (sign_bit (number (x / 4 % 2) (x % 4)))
    (unsigned_abs (number (x / 4 % 2) (x % 4))) (a / 16) (sign_bit (number (a / 4 % 2) (a % 4)))
    (unsigned_abs (number (a / 4 % 2) (a % 4))) ≡ 256 * x + a =
    (λ j. packed (2 + 2 * (a / 8 % 2) + x / 8 % 2) (dy.0 j) (dy.1 j) (a / 16) (dx.0 j) (dx.1 j)) ∙ fields in
    let first : a ≡ (256 * x + a) % 256 = omega (arith, small) in
    let second : x ≡ (256 * x + a) / 256 = omega (arith, small) in
    let first_is = first ∙ ap (λ w. w % 256) (sym whole) in
    let second_is = second ∙ ap (λ w. w / 256) (sym whole) in
    let x_low = dx.1 in
    let y_low = dy.1 in
    record {
      op = Draw (short_of a x);
      word = λ j. first_is j ∷ second_is j ∷ [];
      put = refl;
      is_op = ((omega arith, omega arith, omega (arith, x_low), omega (arith, y_low), omega (arith, small)), refl);
    }

pub may_is : (R : List ℕ) (a x : ℕ) → a < 256 → may_put R a x ≡ true → Put R a x
may_is R a x small is = by (either (is_short a x) (calls_shape R a x) is)
  where
    by : (is_short a x ≡ true) ⊎ (calls_shape R a x ≡ true) → Put R a x
    by (inl short) = short_put R a x small short
    by (inr shape) = shape_put R a x small shape

-- a draft's operations
drawn : (instr : Instr) → draws instr ≡ true → InRange instr × (act_of instr ≡ Moves instr)
drawn (Vctr scale dx dy z) is =
    let a = both_true (nat_le scale 9) _ is in
    let b = both_true (nat_le (unsigned_abs dx) 1023) _ a.1 in
    let c = both_true (nat_le (unsigned_abs dy) 1023) _ b.1 in
    ((leb-true scale 9 a.0, leb-true (unsigned_abs dx) 1023 b.0, leb-true (unsigned_abs dy) 1023 c.0, leb-true z 15 c.1), refl)
drawn (Labs x y scale) is =
    let a = both_true (nat_le x 4095) _ is in
    let b = both_true (nat_le y 4095) _ a.1 in
    ((leb-true x 4095 a.0, leb-true y 4095 b.0, leb-true scale 15 b.1), refl)
drawn (Svec scale dx dy z) is =
    let a = both_true (nat_le 2 scale) _ is in
    let b = both_true (nat_le scale 5) _ a.1 in
    let c = both_true (nat_le (unsigned_abs dx) 3) _ b.1 in
    let d = both_true (nat_le (unsigned_abs dy) 3) _ c.1 in (
      (
        leb-true 2 scale a.0,
        leb-true scale 5 b.0,
        leb-true (unsigned_abs dx) 3 c.0,
        leb-true (unsigned_abs dy) 3 d.0,
        leb-true z 15 d.1,
      ),
      refl,
    )
drawn _ is = absurd (cc)

held_op : (F : List OpKind) (op : OpKind) → may_hold F op ≡ true → IsOp op × IsExpressible F op
held_op F (Draw instr) is = (drawn instr is, tt)
held_op F (CallRom a) is = let two = both_true (nat_le 0x400 a) (nat_le a 0xFFF) is in
    (leb-true a 0xFFF two.1, leb-true 0x400 a two.0)
held_op F (JumpRom a) is = let two = both_true (nat_le 0x400 a) (nat_le a 0xFFF) is in
    (leb-true a 0xFFF two.1, leb-true 0x400 a two.0)
held_op F Return is = (tt, tt)
held_op F Stop is = (tt, tt)
held_op F _ is = (tt, leb-true _ 0x1FF is)

none_op : All IsOp []
none_op k d less = absurd (omega (arith, less))

held_ops : (F ops : List OpKind) → hold F ops ≡ true → All IsOp ops × AreExpressible F ops
held_ops F [] is = (none_op, tt)
held_ops F (op ∷ ops) is =
    let two = both_true (may_hold F op) _ is in
    let one = held_op F op two.0 in
    let rest = held_ops F ops two.1 in
    (All-cons IsOp op ops one.0 rest.0, (one.0, one.1, rest.1))

-- bytes that stand at an address
stands : (bytes : List ℕ) (rom : ℕ → ℕ) (at : ℕ) → stand_at bytes rom at ≡ true → (k : ℕ) → k < length bytes
    → rom (at + k) ≡ slice_index bytes k
stands [] rom at is k less = absurd (omega (arith, less))
stands (byte ∷ bytes) rom at is zero less =
    let e : at + 0 ≡ at = omega arith in ap rom e ∙ eqb-true (rom at) byte (both_true (nat_eq (rom at) byte) _ is).0
stands (byte ∷ bytes) rom at is (suc k) less =
    let e : at + suc k ≡ suc at + k = omega arith in
    ap rom e ∙ stands bytes rom (suc at) (both_true (nat_eq (rom at) byte) _ is).1 k (omega (arith, less))

-- a table
pub record Offered (R : List ℕ) (rom : ℕ → ℕ) (t : ℕ) (F : List OpKind) : Type 0 where
  pub table : HasTable rom t F
  pub low : 0x4800 ≤ t
  pub ends : t + 2 + length (table_of F) ≤ 0x8000
  pub checked : IsDraft F × Accepts F R

offered : (R : List ℕ) (rom : ℕ → ℕ) (t : ℕ) (F : List OpKind) → has_table rom t (table_of F) ≡ true
    → may_lay F R ≡ true → Offered R rom t F
offered R rom t F table lay =
    let a = both_true (nat_le 0x4800 t && nat_le (t + 2 + length (table_of F)) 0x8000) _ table in
    let b = both_true (nat_le 0x4800 t) (nat_le (t + 2 + length (table_of F)) 0x8000) a.0 in
    let low = leb-true 0x4800 t b.0 in
    let high = leb-true (t + 2 + length (table_of F)) 0x8000 b.1 in
    let c = both_true (nat_le 1 (length (table_of F)) && nat_le (length (table_of F)) 1022) _ a.1 in
    let d = both_true (nat_le 1 (length (table_of F))) (nat_le (length (table_of F)) 1022) c.0 in
    let e = both_true (nat_eq (2 * word_at rom t) (length (table_of F))) _ c.1 in
    let f = both_true (nat_le (length F) MAX_OPS && hold F F) (passes F R) lay in
    let g = both_true (nat_le (length F) MAX_OPS) (hold F F) f.0 in
    let ops = held_ops F F g.1 in
    record {
      table = record {
        fit = ops.1;
        some = leb-true 1 (length (table_of F)) d.0;
        fits = leb-true (length (table_of F)) 1022 d.1;
        count = eqb-true (2 * word_at rom t) (length (table_of F)) e.0;
        table = stands (table_of F) rom (t + 2) e.1;
        head = (high_plain t low, high_plain (t + 1) (omega (arith, low)));
        far = λ k less. high_plain (t + 2 + k) (omega (arith, low));
        low = omega (arith, low);
        ends = omega (arith, high);
      };
      low = low;
      ends = high;
      checked = (record { count = leb-true (length F) MAX_OPS g.0; ops = ops.0 }, passes_accepts F R f.1);
    }

pub may_offer_is : (R : List ℕ) (rom : ℕ → ℕ) (drafts : ℕ → List OpKind) (t : ℕ) → may_offer R rom drafts t ≡ true
    → Offered R rom t (drafts t)
may_offer_is R rom drafts t is =
    let two = both_true (has_table rom t (table_of (drafts t))) (may_lay (drafts t) R) is in
    offered R rom t (drafts t) two.0 two.1
