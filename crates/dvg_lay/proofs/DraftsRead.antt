-- A draft's lines are read as this draft.
use Rattle.std.proofs.Common.{◌≡◌, ◌∙◌, ◌+◌, ◌/◌, ◌%◌, ◌<◌, ◌≤◌, ℕ, Bool, true, false, List, [], ◌∷◌, ◌++◌, All, ap, append_assoc, arith, cond, codes, decimal, lit<, refl, sym, subst}
use Rattle.std.specs.Char.{digit_value}
use Rattle.std.specs.Fmt.{digit_glyph, signed_decimal}
use Rattle.std.specs.List.{AllZip}
use Rattle.std.specs.Prelude.{nat_lt}
use Rattle.std.proofs.lemmas.Bool.{cond_above, cond_below, ltb-true, ltb-false}
use Rattle.std.proofs.lemmas.List.Elements.{All-head, All-tail, All-from_recursion}
use Rattle.dvg_code.specs.Acts.{Moves, act_of}
use Rattle.dvg_code.specs.declared.instr.Instr.TheVariants as instr
use Rattle.dvg_frame.specs.declared.op.OpKind.{OpKind}
use Rattle.dvg_frame.specs.declared.op.OpKind.TheVariants.{Draw, CallRom, JumpRom, Call, Jump, Return, Halt}
use Rattle.dvg_frame.specs.Ops.{IsOp}
use Rattle.dvg_print.specs.Lines.{hex_3, hex_4}
use Rattle.dvg_read.specs.OpLines.{IsOpLine, OpParts, callrom, jumprom, return}
use Rattle.dvg_read.specs.TextLines.{HasOp}
use Rattle.dvg_read.specs.Texts.{IsHex, is_passed, lines, unpassed}
use Rattle.dvg_read.proofs.Heads.{IsPart, call_head, halt_head, jump_head, labs_head, last_part, next_part, op_unpassed, svec_head, vctr_head}
use Rattle.dvg_lay.specs.Drafts.{draft_line, draft_lines}
use Rattle.dvg_lay.specs.Laws.{IsNumbered}

-- ---- texts that end with a line

-- parts with a space between each two
tail_3 : (a b c r : List ℕ) → (((a ++ 32 ∷ b) ++ 32 ∷ c) ++ 10 ∷ []) ++ r ≡ a ++ 32 ∷ (b ++ 32 ∷ (c ++ 10 ∷ r))
tail_3 a b c r =
    append_assoc ((a ++ 32 ∷ b) ++ 32 ∷ c) (10 ∷ []) r ∙ append_assoc (a ++ 32 ∷ b) (32 ∷ c) (10 ∷ r) ∙ append_assoc a (32 ∷ b) (32 ∷ (c ++ 10 ∷ r))

tail_4 : (a b c d r : List ℕ) → ((((a ++ 32 ∷ b) ++ 32 ∷ c) ++ 32 ∷ d) ++ 10 ∷ []) ++ r ≡ a ++ 32 ∷ (b ++ 32 ∷ (c ++ 32 ∷ (d ++ 10 ∷ r)))
tail_4 a b c d r =
    append_assoc (((a ++ 32 ∷ b) ++ 32 ∷ c) ++ 32 ∷ d) (10 ∷ []) r ∙ append_assoc ((a ++ 32 ∷ b) ++ 32 ∷ c) (32 ∷ d) (10 ∷ r)
    ∙ append_assoc (a ++ 32 ∷ b) (32 ∷ c) (32 ∷ (d ++ 10 ∷ r)) ∙ append_assoc a (32 ∷ b) (32 ∷ (c ++ 32 ∷ (d ++ 10 ∷ r)))

last : (x r : List ℕ) → (x ++ 10 ∷ []) ++ r ≡ x ++ 10 ∷ r
last x r = append_assoc x (10 ∷ []) r

-- ---- hexadecimal digits

-- a digit's value, and that it is above the space
digit_of : (d : ℕ) → d < 16 → digit_value (digit_glyph true d) ≡ d
digit_of d h = by (nat_lt d 10) refl
  where
    by : (t : Bool) → nat_lt d 10 ≡ t → digit_value (cond t (48 + d) (55 + d)) ≡ d
    by true e = let l = ltb-true d 10 e in sym (cond_above (48 + d) 48 _ _ _ (omega arith) (cond_below (48 + d) 58 _ _ (omega arith))) ∙ omega arith
    by false e =
        let l = ltb-false d 10 e in
        sym (cond_above (55 + d) 48 _ _ _ (omega arith) (cond_above (55 + d) 58 _ _ _ (omega arith) (cond_above (55 + d) 65 _ _ _ (omega arith) (cond_below (55 + d) 91 _ _ (omega arith))))) ∙ omega arith

above : (d : ℕ) → d < 16 → 32 < digit_glyph true d
above d h = by (nat_lt d 10)
  where
    by : (t : Bool) → 32 < cond t (48 + d) (55 + d)
    by true = omega arith
    by false = omega arith

pub is_hex_3 : (n : ℕ) → n ≤ 0xFFF → IsHex 3 n (hex_3 n)
is_hex_3 n low =
    let a = digit_of (n / 256 % 16) (omega arith) in
    let b = digit_of (n / 16 % 16) (omega arith) in
    let c = digit_of (n % 16) (omega arith) in
    record { size = refl; digits = (omega (arith, a), (omega (arith, b), (omega (arith, c), tt))); value = omega (arith, a, b, c, low) }

pub is_hex_4 : (n : ℕ) → n < 65536 → IsHex 4 n (hex_4 n)
is_hex_4 n low =
    let a = digit_of (n / 4096 % 16) (omega arith) in
    let b = digit_of (n / 256 % 16) (omega arith) in
    let c = digit_of (n / 16 % 16) (omega arith) in
    let d = digit_of (n % 16) (omega arith) in
    record { size = refl; digits = (omega (arith, a), (omega (arith, b), (omega (arith, c), (omega (arith, d), tt)))); value = omega (arith, a, b, c, d, low) }

pub part_3 : (n : ℕ) → IsPart (hex_3 n)
part_3 n = All-from_recursion (λ byte. 32 < byte) (hex_3 n) (above (n / 256 % 16) (omega arith), (above (n / 16 % 16) (omega arith), (above (n % 16) (omega arith), tt)))

pub part_4 : (n : ℕ) → IsPart (hex_4 n)
part_4 n = All-from_recursion (λ byte. 32 < byte) (hex_4 n)
    (above (n / 4096 % 16) (omega arith), (above (n / 256 % 16) (omega arith), (above (n / 16 % 16) (omega arith), (above (n % 16) (omega arith), tt))))

-- ---- lines of operations

-- a name of seven letters and an address
address_read : (op : OpKind) (name : List ℕ) (a : ℕ) (rest : List ℕ) → IsPart name → OpParts op (name ∷ hex_3 a ∷ [])
    → HasOp (name ++ 32 ∷ (hex_3 a ++ 10 ∷ rest)) op rest
address_read op name a rest part spelled =
    let read = next_part (name ++ 32 ∷ (hex_3 a ++ 10 ∷ rest)) name (hex_3 a ++ 10 ∷ rest) rest (hex_3 a ∷ []) part refl (last_part (hex_3 a ++ 10 ∷ rest) (hex_3 a) rest (part_3 a) refl) in
    record { line = read.line; spelled = subst (OpParts op) (sym read.parted) spelled; cut = read.cut }

letters_callrom : IsPart (codes "callrom")
letters_callrom = All-from_recursion (λ byte. 32 < byte) (codes "callrom") (lit< tt, (lit< tt, (lit< tt, (lit< tt, (lit< tt, (lit< tt, (lit< tt, tt)))))))

letters_jumprom : IsPart (codes "jumprom")
letters_jumprom = All-from_recursion (λ byte. 32 < byte) (codes "jumprom") (lit< tt, (lit< tt, (lit< tt, (lit< tt, (lit< tt, (lit< tt, (lit< tt, tt)))))))

letters_return : IsPart (codes "return")
letters_return = All-from_recursion (λ byte. 32 < byte) (codes "return") (lit< tt, (lit< tt, (lit< tt, (lit< tt, (lit< tt, (lit< tt, tt))))))

return_read : (rest : List ℕ) → HasOp (codes "return" ++ 10 ∷ rest) Return rest
return_read rest =
    let read = last_part (codes "return" ++ 10 ∷ rest) (codes "return") rest letters_return refl in
    record { line = read.line; spelled = subst (OpParts Return) (sym read.parted) return; cut = read.cut }

-- the first line of a text that begins with an operation's line
op_read : (op : OpKind) (rest : List ℕ) → IsOp op → IsNumbered op → HasOp (draft_line op ++ rest) op rest
op_read (Draw (instr.Vctr s x y z)) rest fits small =
    let a = decimal s in let b = signed_decimal x in let c = signed_decimal y in let d = decimal z in
    vctr_head (((((a ++ 32 ∷ b) ++ 32 ∷ c) ++ 32 ∷ d) ++ 10 ∷ []) ++ rest) (b ++ 32 ∷ (c ++ 32 ∷ (d ++ 10 ∷ rest))) (c ++ 32 ∷ (d ++ 10 ∷ rest)) (d ++ 10 ∷ rest) rest
    (Draw (instr.Vctr s x y z)) s x y z refl fits.0 (tail_4 a b c d rest) refl refl refl
op_read (Draw (instr.Svec s x y z)) rest fits small =
    let a = decimal s in let b = signed_decimal x in let c = signed_decimal y in let d = decimal z in
    svec_head (((((a ++ 32 ∷ b) ++ 32 ∷ c) ++ 32 ∷ d) ++ 10 ∷ []) ++ rest) (b ++ 32 ∷ (c ++ 32 ∷ (d ++ 10 ∷ rest))) (c ++ 32 ∷ (d ++ 10 ∷ rest)) (d ++ 10 ∷ rest) rest
    (Draw (instr.Svec s x y z)) s x y z refl fits.0 (tail_4 a b c d rest) refl refl refl
op_read (Draw (instr.Labs x y s)) rest fits small =
    let a = decimal x in let b = decimal y in let c = decimal s in
    labs_head ((((a ++ 32 ∷ b) ++ 32 ∷ c) ++ 10 ∷ []) ++ rest) (b ++ 32 ∷ (c ++ 10 ∷ rest)) (c ++ 10 ∷ rest) rest
    (Draw (instr.Labs x y s)) x y s refl fits.0 (tail_3 a b c rest) refl refl
op_read (Draw instr.Halt) rest fits small = let is : act_of instr.Halt ≡ Moves instr.Halt = fits.1 in absurd cc
op_read (Draw instr.Rtsl) rest fits small = let is : act_of instr.Rtsl ≡ Moves instr.Rtsl = fits.1 in absurd cc
op_read (Draw (instr.Jsrl a)) rest fits small = let is : act_of (instr.Jsrl a) ≡ Moves (instr.Jsrl a) = fits.1 in absurd cc
op_read (Draw (instr.Jmpl a)) rest fits small = let is : act_of (instr.Jmpl a) ≡ Moves (instr.Jmpl a) = fits.1 in absurd cc
op_read (Call n) rest fits small = call_head ((decimal n ++ 10 ∷ []) ++ rest) rest (Call n) n refl small (last (decimal n) rest)
op_read (Jump n) rest fits small = jump_head ((decimal n ++ 10 ∷ []) ++ rest) rest (Jump n) n refl small (last (decimal n) rest)
op_read (CallRom a) rest fits small = address_read (CallRom a) (codes "callrom") a rest letters_callrom (callrom (is_hex_3 a fits))
op_read (JumpRom a) rest fits small = address_read (JumpRom a) (codes "jumprom") a rest letters_jumprom (jumprom (is_hex_3 a fits))
op_read Return rest fits small = return_read rest
op_read Halt rest fits small = halt_head (10 ∷ rest) rest Halt refl refl

-- lines that aren't passed over, which a text begins with
pub record Begins (text rest : List ℕ) (ls : List (List ℕ)) : Type 0 where
  pub cut : lines text ≡ ls ++ lines rest
  pub told : unpassed ls ≡ ls

pub begins_with : (text more rest line : List ℕ) (ls : List (List ℕ)) → lines text ≡ line ∷ lines more → is_passed line ≡ false → Begins more rest ls → Begins text rest (line ∷ ls)
begins_with text more rest line ls first told begins = record {
  cut = first ∙ ap (λ l. line ∷ l) begins.cut;
  told = rw told (ap (λ l. line ∷ l) begins.told);
}

-- the lines of a draft
pub record ReadsOps (F : List OpKind) (text rest : List ℕ) : Type 0 where
  pub ls : List (List ℕ)
  pub begins : Begins text rest ls
  pub spelled : AllZip IsOpLine F ls

pub draft_read : (F : List OpKind) (rest : List ℕ) → All IsOp F → All IsNumbered F → ReadsOps F (draft_lines F ++ rest) rest
draft_read [] rest fits small = record { ls = []; begins = record { cut = refl; told = refl }; spelled = tt }
draft_read (op ∷ F) rest fits small =
    let first = op_read op (draft_lines F ++ rest) (All-head IsOp op F fits) (All-head IsNumbered op F small) in
    let more = draft_read F rest (All-tail IsOp op F fits) (All-tail IsNumbered op F small) in
    record {
      ls = first.line ∷ more.ls;
      begins = begins_with (draft_lines (op ∷ F) ++ rest) (draft_lines F ++ rest) rest first.line more.ls
          (ap lines (append_assoc (draft_line op) (draft_lines F) rest) ∙ first.cut) (op_unpassed op first.line first.spelled) more.begins;
      spelled = (first.spelled, more.spelled);
    }
