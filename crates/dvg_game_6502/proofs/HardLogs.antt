-- Outside the zero page and the stack, the calls of a session write the hardware alone.
use Rattle.std.proofs.Common.{◌≡◌, ℕ, suc, ◌+◌, ◌*◌, ◌<◌, ◌≤◌, Bool, true, false, List, [], ◌∷◌, ◌++◌}
use Rattle.std.proofs.Common.{length, refl, sym, ap, ◌∙◌, subst, arith, eqb-true, le-leb, None, Some}
use Rattle.std.specs.Prelude.{nat_eq, nat_lt, nat_le, ◌&&◌, ◌||◌, if◌then◌else◌}
use Rattle.dvg_mem.specs.declared.half.Half.{Half}
use Rattle.dvg_mem.specs.declared.half.Half.TheVariants.{H0, H1}
use Rattle.dvg_mem.specs.Areas.{base, other, half_of_high}
use Rattle.dvg_frame.specs.declared.op.OpKind.{OpKind}
use Rattle.dvg_frame.specs.Bytes.{addressed, bytes}
use Rattle.dvg_frame.specs.Layout.{laid, size}
use Rattle.dvg_frame.proofs.Bytes.{addressed-length}
use Rattle.dvg_frame.proofs.Cursors.{items_of_laid}
use Rattle.dvg_driver.specs.declared.action.Action.TheVariants.{Peek, Wrote, Read, Sent, Idle}
use Rattle.dvg_driver.specs.Script.{Item, Offered, Asked, Did, frame_writes, word_zero}
use Rattle.dvg_driver.specs.Place.{Place, Start, Booting, Resting, Writing, Waiting, Sending, next_place}
use Rattle.dvg_driver.specs.Place.{place_of_life, with_left}
use Rattle.dvg_driver.proofs.Places.{life_place, place_before, some_same}
use Rattle.dvg_calls_6502.specs.Processor.{Access, Reads, Writes}
use Rattle.dvg_calls_6502.specs.Board.{byte1_place, is_hardware, seen}
use Rattle.dvg_calls_6502.specs.Tables.{table_of}
use Rattle.dvg_calls_6502.specs.Calls as c
use Rattle.dvg_calls_6502.specs.Calls.{Routine, Call, after, is_taken, Adds, AreShown, IsLifeOf, IsSession, IsSessionBy}
use Rattle.dvg_calls_6502.specs.Programs.{CallBrings, renamed, with_drafts}
use Rattle.dvg_calls_6502.proofs.Programs.{hindsight}
use Rattle.dvg_calls_6502.proofs.Sessions.{calls_live, head_same}
use Rattle.dvg_game_6502.proofs.Claims.{AreHard}

-- all these writes are in the vector RAM
abbrev AreNear : List (ℕ × ℕ) → Type 0
AreNear [] = Unit {0}
AreNear (write ∷ writes) = (write.0 < 0x800) × AreNear writes

abbrev IsNear : Place → Type 0
IsNear (Writing writes) = AreNear writes
IsNear place = Unit {0}

-- a frame that is taken fits in a half
abbrev Fits : Item → Type 0
Fits (Offered half F) = length (table_of F) ≤ 1022
Fits item = Unit {0}

abbrev AllFit : List Item → Type 0
AllFit [] = Unit {0}
AllFit (item ∷ items) = Fits item × AllFit items

-- a byte is written in the vector RAM
abbrev InRam : Item → Type 0
InRam (Did (Wrote a byte)) = a < 0x800
InRam item = Unit {0}

abbrev AllInRam : List Item → Type 0
AllInRam [] = Unit {0}
AllInRam (item ∷ items) = InRam item × AllInRam items

near_both : (one two : List (ℕ × ℕ)) → AreNear one → AreNear two → AreNear (one ++ two)
near_both [] two a b = b
near_both (write ∷ writes) two a b = (a.0, near_both writes two a.1 b)

near_bytes : (a : ℕ) (bs : List ℕ) → a + length bs ≤ 0x800 → AreNear (addressed a bs)
near_bytes a [] high = tt
near_bytes a (byte ∷ bs) high = (omega arith, near_bytes (suc a) bs (omega arith))

-- a frame's writes are
near_frame : (half : Half) (F : List OpKind) (first : Bool) → length (table_of F) ≤ 1022
    → AreNear (frame_writes half F first)
near_frame half F first fits =
    near_both (addressed (2 * base half) (bytes (laid half F))) (word_zero half first)
    (near_bytes (2 * base half) (bytes (laid half F)) (room half)) (zero first)
  where
    long : (half : Half) → length (bytes (laid half F)) ≡ 2 * size F
    long half = sym (addressed-length (2 * base half) (bytes (laid half F))) ∙ items_of_laid half F

    room : (half : Half) → 2 * base half + length (bytes (laid half F)) ≤ 0x800
    room H0 = let a = long H0 in omega (arith, a, fits)
    room H1 = let a = long H1 in let b = long H0 in omega (arith, a, b, fits)

    zero : (first : Bool) → AreNear (word_zero half first)
    zero true = (omega arith, (omega arith, tt))
    zero false = (omega arith, tt)

near_left : (writes : List (ℕ × ℕ)) → AreNear writes → IsNear (with_left writes)
near_left [] near = tt
near_left (write ∷ writes) near = near

-- an item that may come leads to such a place, and is in the vector RAM
near_next : (place : Place) (item : Item) (new : Place) → next_place place item ≡ Some new → Fits item → IsNear place
    → IsNear new × InRam item
near_next Start (Did Peek) new is fits near = (subst IsNear (some_same is) tt, tt)
near_next Booting (Did (Read true)) new is fits near = (subst IsNear (some_same is) tt, tt)
near_next Booting (Did (Read false)) new is fits near = (subst IsNear (some_same is) tt, tt)
near_next (Resting first) (Offered half F) new is fits near =
    (subst IsNear (some_same is) (near_frame half F first fits), tt)
near_next (Resting first) Asked new is fits near = (subst IsNear (some_same is) tt, tt)
near_next (Resting first) (Did Idle) new is fits near = (subst IsNear (some_same is) tt, tt)
near_next (Writing []) (Did (Wrote a byte)) new is fits near = absurd (cc)
near_next (Writing (write ∷ writes)) (Did (Wrote a byte)) new is fits near =
    by (nat_eq write.0 a) (nat_eq write.1 byte) refl is
  where
    by : (t u : Bool) → nat_eq write.0 a ≡ t → (if t && u then Some (with_left writes) else None) ≡ Some new
        → IsNear new × (a < 0x800)
    by true true same is = (
      subst IsNear (some_same is) (near_left writes near.1),
      subst (λ (j : ℕ). j < 0x800) (eqb-true write.0 a same) near.0,
    )
    by true false same is = absurd (cc)
    by false u same is = absurd (cc)
near_next (Waiting first) (Did (Read true)) new is fits near = (subst IsNear (some_same is) tt, tt)
near_next (Waiting first) (Did (Read false)) new is fits near = (subst IsNear (some_same is) tt, tt)
near_next (Sending first) (Did Sent) new is fits near = (subst IsNear (some_same is) tt, tt)
near_next place item new is fits near = absurd (cc)

near_life : (life : List Item) (place : Place) → place_of_life life ≡ Some place → AllFit life
    → IsNear place × AllInRam life
near_life [] place is fit = (subst IsNear (some_same is) tt, tt)
near_life (item ∷ life) place is fit =
    let one = place_before item life place is in
    let older = near_life life one.0 one.1 fit.1 in
    let now = near_next one.0 item place one.2 fit.0 older.0 in
    (now.0, (now.1, older.1))

fit_both : (one two : List Item) → AllFit one → AllFit two → AllFit (one ++ two)
fit_both [] two a b = b
fit_both (item ∷ items) two a b = (a.0, fit_both items two a.1 b)

ram_first : (one two : List Item) → AllInRam (one ++ two) → AllInRam one
ram_first [] two all = tt
ram_first (item ∷ items) two all = (all.0, ram_first items two all.1)

-- accesses are no frames
fit_shown : (items : List Item) (log : List Access) → AreShown items log → AllFit items
fit_shown [] log shown = tt
fit_shown (Did action ∷ items) [] shown = absurd shown
fit_shown (Did action ∷ items) (access ∷ log) shown = (tt, fit_shown items log shown.1)
fit_shown (Offered half F ∷ items) log shown = absurd shown
fit_shown (Asked ∷ items) log shown = absurd shown

fit_taken : (half : Half) (F : List OpKind) (taken : Bool) (items : List Item) → length (table_of F) ≤ 1022
    → items ≡ (if taken then Offered half F ∷ [] else []) → AllFit items
fit_taken half F true items fits is = subst AllFit (sym is) (fits, tt)
fit_taken half F false items fits is = subst AllFit (sym is) tt

fit_new : (routine : Routine) (call : Call) (calls : List Call) (items : List Item)
    → c.Brings routine call.from (c.frame_of calls) → Adds routine call items → AllFit items
fit_new c.Reset call calls items brings adds = subst AllFit (sym adds.1) tt
fit_new (c.Offer F) call calls items brings adds =
    fit_taken (other (half_of_high (call.from.mem byte1_place))) F
    (is_taken call) items brings.fits adds.1
fit_new c.Redraw call calls items brings adds = asked (is_taken call) adds.1
  where
    asked : (t : Bool) → items ≡ (if t then Asked ∷ [] else []) → AllFit items
    asked true is = subst AllFit (sym is) (tt, tt)
    asked false is = subst AllFit (sym is) tt
fit_new (c.Open F) call calls items brings adds =
    fit_taken (other (half_of_high (call.from.mem byte1_place))) F
    (is_taken call) items brings.fits adds.1
fit_new _ call calls items brings adds = fit_shown items (seen (after call).log) adds

-- since a reset, or after the calls before
since : (routine : Routine) (old : List Item) (P Q : Type 0) → (P → Q → AllFit old) → c.SinceReset routine old P
    → c.UnlessReset routine Q → AllFit old
since c.Reset old P Q go is unless = subst AllFit (sym is) tt
since _ old P Q go is unless = go is unless

-- the frames of a session's life fit
fit_life : (calls : List Call) (life : List Item) → IsSession calls → IsLifeOf calls life → AllFit life
fit_life [] life session is = absurd is
fit_life (call ∷ calls) life session is =
    subst AllFit (sym is.2) (fit_both is.0 is.1
    (fit_new call.routine call calls is.0 session.1 is.3)
    (since call.routine is.1 (IsLifeOf calls is.1) (c.Follows call calls × IsSession calls)
    (λ older both. fit_life calls is.1 both.1 older) is.4 session.3))

-- an access that is shown by an action in the vector RAM, or by the strobe
ram_hard : (a : ℕ) → a < 0x800 → is_hardware (0x4000 + a) ≡ true
ram_hard a less = by (nat_le 0x4000 (0x4000 + a)) (nat_lt (0x4000 + a) 0x4800)
    (nat_eq (0x4000 + a) 0x2002 || nat_eq (0x4000 + a) 0x3000)
    (le-leb 0x4000 (0x4000 + a) (omega arith)) (le-leb (suc (0x4000 + a)) 0x4800 (omega arith))
  where
    by : (t u v : Bool) → t ≡ true → u ≡ true → ((t && u) || v) ≡ true
    by true true v a b = refl
    by false u v a b = absurd (cc)
    by true false v a b = absurd (cc)

address_same : (a b x y : ℕ) → Writes a x ≡ Writes b y → a ≡ b
address_same a b x y is = cc

shown_hard : (item : Item) (items : List Item) (a byte : ℕ) (log : List Access)
    → AreShown (item ∷ items) (Writes a byte ∷ log) → InRam item → is_hardware a ≡ true
shown_hard (Did (Wrote b v)) items a byte log shown near =
    let same = address_same a (0x4000 + b) byte v
    (head_same (Writes a byte) (Writes (0x4000 + b) v) shown.0) in
    ap is_hardware same ∙ ram_hard b near
shown_hard (Did Sent) items a byte log shown near =
    let same = address_same a 0x3000 byte shown.0.0
    (head_same (Writes a byte) (Writes 0x3000 shown.0.0) shown.0.1) in
    ap is_hardware same
shown_hard (Did Peek) items a byte log shown near =
    absurd (let e = head_same (Writes a byte) (Reads 0x4001 shown.0.0) shown.0.1 in cc)
shown_hard (Did (Read halted)) items a byte log shown near =
    absurd (let e = head_same (Writes a byte) (Reads 0x2002 shown.0.0) shown.0.1 in cc)
shown_hard (Did Idle) items a byte log shown near = absurd (let e = shown.0 in cc)
shown_hard _ items a byte log shown near = absurd shown

shown_rest : (item : Item) (items : List Item) (access : Access) (log : List Access)
    → AreShown (item ∷ items) (access ∷ log) → AreShown items log
shown_rest (Did action) items access log shown = shown.1
shown_rest _ items access log shown = absurd shown

hard_log : (log : List Access) (items : List Item) → AreShown items (seen log) → AllInRam items → AreHard log
hard_log [] items shown near = tt
hard_log (Reads a byte ∷ log) items shown near = by (is_hardware a) items shown near (hard_log log)
  where
    by : (t : Bool) (items : List Item) → AreShown items (if t then Reads a byte ∷ seen log else seen log)
        → AllInRam items → ((items : List Item) → AreShown items (seen log) → AllInRam items
        → AreHard log) → AreHard log
    by true [] shown near rest = absurd shown
    by true (item ∷ items) shown near rest = rest items (shown_rest item items (Reads a byte) (seen log) shown) near.1
    by false items shown near rest = rest items shown near
hard_log (Writes a byte ∷ log) items shown near =
    by (nat_le 0x200 a) refl items shown near (hard_log log)
  where
    by : (t : Bool) → nat_le 0x200 a ≡ t → (items : List Item)
        → AreShown items (if t then Writes a byte ∷ seen log else seen log) → AllInRam items
        → ((items : List Item) → AreShown items (seen log) → AllInRam items → AreHard log)
        → (nat_le 0x200 a ≡ true → is_hardware a ≡ true) × AreHard log
    by true is [] shown near rest = absurd shown
    by true is (item ∷ items) shown near rest = (
      (λ far. shown_hard item items a byte (seen log) shown near.0),
      rest items (shown_rest item items (Writes a byte) (seen log) shown) near.1,
    )
    by false is items shown near rest = ((λ far. absurd (let e = sym is ∙ far in cc)), rest items shown near)

-- a call that touches no hardware
hard_none : (log : List Access) → seen log ≡ [] → AreHard log
hard_none log none = hard_log log [] (subst (λ l. AreShown [] l) (sym none) tt) tt

hard_adds : (routine : Routine) (call : Call) (items : List Item) → Adds routine call items → AllInRam items
    → AreHard (after call).log
hard_adds c.Reset call items adds near = hard_none (after call).log adds.0
hard_adds (c.Offer F) call items adds near = hard_none (after call).log adds.0
hard_adds c.Redraw call items adds near = hard_none (after call).log adds.0
hard_adds (c.Open F) call items adds near = hard_none (after call).log adds.0
hard_adds _ call items adds near = hard_log (after call).log items adds near

hard_of : (call : Call) (calls : List Call) → IsSession (call ∷ calls) → AreHard (after call).log
hard_of call calls session =
    let made = calls_live (call ∷ calls) session in
    let life = made.0 in
    let is = made.1 in
    let there = life_place life made.2 in
    let near = near_life life there.0 there.1 (fit_life (call ∷ calls) life session is) in
    hard_adds call.routine call is.0 is.3 (ram_first is.0 is.1 (subst AllInRam is.2 near.1))

-- so is what a program's calls write
pub hard_session : (R : List ℕ) (call : Call) (calls : List Call) → IsSessionBy (CallBrings R) (call ∷ calls)
    → AreHard (after call).log
hard_session R call calls session = let named =
    hindsight R (call ∷ calls) session in by named.0 named.1
  where
    by : (drafts : List (List OpKind)) → IsSession (with_drafts (call ∷ calls) drafts) → AreHard (after call).log
    by [] session = hard_of call calls session
    by (G ∷ drafts) session = hard_of (record call { routine = renamed call.routine G })
        (with_drafts calls drafts) session
