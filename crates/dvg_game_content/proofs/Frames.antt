-- A draft whose ways were gone to their ends has none of the check's faults.
use Rattle.std.proofs.Common.{◌≡◌, ℕ, zero, suc, ◌+◌, ◌-◌, ◌<◌, ◌≤◌, Bool, true, false, List, []}
use Rattle.std.proofs.Common.{◌∷◌, refl, sym, ap, ◌∙◌, subst, arith, leb-true, le-leb, eq-eqb}
use Rattle.std.specs.Prelude.{◌&&◌, not, nat_eq, nat_le, nat_lt, if◌then◌else◌, Some, None, slice_get, length}
use Rattle.std.specs.Prelude.{ℤ, pos, negsuc}
use Rattle.dvg_code.specs.declared.instr.Instr.{Instr}
use Rattle.dvg_code.specs.declared.instr.Instr.TheVariants.{Labs, Vctr, Svec}
use Rattle.dvg_code.specs.Spelling.{IsSignOf, vctr, labs as labs_word, halt, jsrl, rtsl, jmpl, svec, word_count}
use Rattle.dvg_code.specs.Words.{word_in}
use Rattle.dvg_code.specs.Acts.{Act, act_by, Moves, Jumps, Calls, Returns, Halts}
use Rattle.dvg_mem.specs.Memory.{first_word, rom_word}
use Rattle.dvg_frame.specs.declared.op.OpKind.{OpKind}
use Rattle.dvg_frame.specs.declared.op.OpKind.TheVariants.{Draw, CallRom, JumpRom, Call, Jump, Return, Halt as Stop}
use Rattle.dvg_frame.specs.declared.place.Place.{Place}
use Rattle.dvg_frame.specs.declared.place.Place.TheVariants.{InFrame, InRom}
use Rattle.dvg_driver.proofs.Places.{some_same}
use Rattle.dvg_frame.specs.Layout.{size}
use Rattle.dvg_frame.specs.Steps.{SpelledAt, one, two, op_act, Stands, in_frame, in_rom, GoesPast, Names, last}
use Rattle.dvg_frame.specs.Steps.{target, second, past, deep, bare, IsFine, Leads, on, jump, call, back, Reached, begin}
use Rattle.dvg_frame.specs.Steps.{step, BeginsWithLabs, labs, Misses, misses}
use Rattle.dvg_frame.specs.Loops.{Walks, none, more}
use Rattle.dvg_game_rules.proofs.Facts.{both_true}
use Rattle.dvg_game_content.specs.Frames.{View, Wrong, On, To, Both, Back, End, is_there, view_word, view_rom, view_op, view}
use Rattle.dvg_game_content.specs.Frames.{leads_well, ends, has_labs, aims, all_aim, longest}
use Rattle.dvg_game_content.specs.Law.{PassesAccepts}

-- comparisons
pub under : (w n : ℕ) → w < n → nat_lt w n ≡ true
under w n less = le-leb (suc w) n less

pub over : (w n : ℕ) → n ≤ w → nat_lt w n ≡ false
over w n most = by (nat_lt w n) refl
  where
    by : (t : Bool) → nat_lt w n ≡ t → t ≡ false
    by false is = refl
    by true is = let less = leb-true (suc w) n is in absurd (omega (arith, less, most))

-- what stands at a place, as it is seen
abbrev Sees : View → Act Place → Place → Type 0
Sees Wrong act after = Unit {0}
Sees (On q) act after = (instr : Instr) × (act ≡ Moves instr) × (after ≡ q)
Sees (To q) act after = act ≡ Jumps q
Sees (Both q r) act after = (act ≡ Calls q) × (after ≡ r)
Sees Back act after = act ≡ Returns
Sees End act after = act ≡ Halts

sign_small : (n : ℤ) (bit : ℕ) → IsSignOf n bit → bit < 2
sign_small (pos zero) bit is = is
sign_small _ bit is = omega (arith, is)

-- the view of a word, by the five comparisons
abbrev chain : List ℕ → ℕ → ℕ → (b c d e f : Bool) → View
chain R a word b c d e f = if b then (if is_there [] R (InRom (a + 1)) then On (InRom (a + 2)) else Wrong)
    else if c then End
    else if d then Both (InRom (word - 0xC000)) (InRom (a + 1))
    else if e then Back
    else if f then To (InRom (word - 0xE000)) else On (InRom (a + 1))

module _ (R : List ℕ) where
  view_at : (a w : ℕ) → rom_word R a ≡ Some w → view_rom R a (rom_word R a) ≡ view_word R a w
  view_at a w e = ap (view_rom R a) e

  is_first : (a w : ℕ) → w < 0xB000 → view_word R a w
      ≡ (if is_there [] R (InRom (a + 1)) then On (InRom (a + 2)) else Wrong)
  is_first a w less = λ j. chain R a w (under w 0xB000 less j) (nat_lt w 0xC000) (nat_lt w 0xD000) (nat_lt w 0xE000)
      (nat_lt w 0xF000)

  is_halt : (a w : ℕ) → 0xB000 ≤ w → w < 0xC000 → view_word R a w ≡ End
  is_halt a w low high = λ j. chain R a w (over w 0xB000 low j) (under w 0xC000 high j) (nat_lt w 0xD000)
      (nat_lt w 0xE000) (nat_lt w 0xF000)

  is_call : (a w : ℕ) → 0xC000 ≤ w → w < 0xD000 → view_word R a w ≡ Both (InRom (w - 0xC000)) (InRom (a + 1))
  is_call a w low high = λ j. chain R a w (over w 0xB000 (omega (arith, low)) j) (over w 0xC000 low j)
      (under w 0xD000 high j) (nat_lt w 0xE000) (nat_lt w 0xF000)

  is_back : (a w : ℕ) → 0xD000 ≤ w → w < 0xE000 → view_word R a w ≡ Back
  is_back a w low high = λ j. chain R a w (over w 0xB000 (omega (arith, low)) j) (over w 0xC000 (omega (arith, low)) j)
      (over w 0xD000 low j) (under w 0xE000 high j) (nat_lt w 0xF000)

  is_jump : (a w : ℕ) → 0xE000 ≤ w → w < 0xF000 → view_word R a w ≡ To (InRom (w - 0xE000))
  is_jump a w low high = λ j. chain R a w (over w 0xB000 (omega (arith, low)) j) (over w 0xC000 (omega (arith, low)) j)
      (over w 0xD000 (omega (arith, low)) j) (over w 0xE000 low j) (under w 0xF000 high j)

  is_short : (a w : ℕ) → 0xF000 ≤ w → view_word R a w ≡ On (InRom (a + 1))
  is_short a w low = λ j. chain R a w (over w 0xB000 (omega (arith, low)) j) (over w 0xC000 (omega (arith, low)) j)
      (over w 0xD000 (omega (arith, low)) j) (over w 0xE000 (omega (arith, low)) j) (over w 0xF000 low j)

  on_first : (instr : Instr) (a : ℕ) → Sees (if is_there [] R (InRom (a + 1)) then On (InRom (a + 2)) else Wrong)
      (Moves instr) (InRom (a + 2))
  on_first instr a = by (is_there [] R (InRom (a + 1)))
    where
      by : (t : Bool) → Sees (if t then On (InRom (a + 2)) else Wrong) (Moves instr) (InRom (a + 2))
      by true = (instr, refl, refl)
      by false = tt

  -- what a word of the ROM spells
  sees_rom : {a : ℕ} {instr : Instr} → SpelledAt (rom_word R) a instr
      → Sees (view_rom R a (rom_word R a)) (act_by InRom instr) (InRom (a + word_count instr))
  sees_rom {a} (two {first = w} e f (vctr {scale} {dx} {dy} {z} range word_one word_two)) =
      let sum = word_one.sum in
      let free = word_one.free_is_bit in
      let sign = sign_small dy word_one.sign word_one.sign_is in
      let scale_low = range.0 in
      let dy_low = range.2 in
      subst (λ v. Sees v (Moves (Vctr scale dx dy z)) (InRom (a + 2)))
      (sym (view_at a w e ∙ is_first a w (omega (arith, sum, free, sign, scale_low, dy_low))))
      (on_first (Vctr scale dx dy z) a)
  sees_rom {a} (two {first = w} e f (labs_word {x} {y} {scale} range word_one word_two)) =
      let y_low = range.1 in
      subst (λ v. Sees v (Moves (Labs x y scale)) (InRom (a + 2)))
      (sym (view_at a w e ∙ is_first a w (omega (arith, word_one, y_low))))
      (on_first (Labs x y scale) a)
  sees_rom {a} (one {word = w} e (halt low high)) =
      subst (λ v. Sees v Halts (InRom (a + 1))) (sym (view_at a w e ∙ is_halt a w low high)) refl
  sees_rom {a} (one {word = w} e (jsrl {address} range is)) =
      let less : address ≤ 4095 = range in
      let same : w - 0xC000 ≡ address = omega (arith, is) in
      subst (λ v. Sees v (Calls (InRom address)) (InRom (a + 1)))
      (sym (view_at a w e ∙ is_call a w (omega (arith, is)) (omega (arith, is, less))))
      (ap (λ n. Calls (InRom n)) (sym same), refl)
  sees_rom {a} (one {word = w} e (rtsl low high)) =
      subst (λ v. Sees v Returns (InRom (a + 1))) (sym (view_at a w e ∙ is_back a w low high)) refl
  sees_rom {a} (one {word = w} e (jmpl {address} range is)) =
      let less : address ≤ 4095 = range in
      let same : w - 0xE000 ≡ address = omega (arith, is) in
      subst (λ v. Sees v (Jumps (InRom address)) (InRom (a + 1)))
      (sym (view_at a w e ∙ is_jump a w (omega (arith, is)) (omega (arith, is, less))))
      (ap (λ n. Jumps (InRom n)) (sym same))
  sees_rom {a} (one {word = w} e (svec {scale} {dx} {dy} {z} range is)) =
      let sum = is.sum in
      subst (λ v. Sees v (Moves (Svec scale dx dy z)) (InRom (a + 1)))
      (sym (view_at a w e ∙ is_short a w (omega (arith, sum)))) (Svec scale dx dy z, refl, refl)

module _ (F : List OpKind) (R : List ℕ) where
  sees_op : (i : ℕ) (op : OpKind) → Sees (view_op i (Some op)) (op_act op) (InFrame (i + 1))
  sees_op i (Draw instr) = (instr, refl, refl)
  sees_op i (CallRom a) = (refl, refl)
  sees_op i (Call j) = (refl, refl)
  sees_op i _ = refl

  sees : {p : Place} {act : Act Place} {after : Place} → Stands F R p act after → Sees (view F R p) act after
  sees (in_frame {i} {op} {act} e is) = subst (λ v. Sees v act (InFrame (i + 1))) (ap (view_op i) (sym e))
      (subst (λ k. Sees (view_op i (Some op)) k (InFrame (i + 1))) (sym is) (sees_op i op))
  sees (in_rom {a} {instr} {act} spelled is) = subst (λ k. Sees (view F R (InRom a)) k (InRom (a + word_count instr)))
      (sym is) (sees_rom R spelled)

  -- what is there isn't outside the ROM
  there : (a : ℕ) → is_there F R (InRom a) ≡ true → rom_word R a ≡ None → ⊥
  there a is outside = let e : Some (word_in R (a - first_word R)) ≡ None =
      sym (ap (λ t. if t then Some (word_in R (a - first_word R)) else None) is) ∙ outside in cc

  goes_past : (well : Place → ℕ → Bool) (v : View) (d : ℕ) (act : Act Place) (after : Place)
      → leads_well F R well v d ≡ true → Sees v act after → GoesPast act
      → (is_there F R after ≡ true) × (well after d ≡ true)
  goes_past well Wrong d act after fine s g = absurd (cc)
  goes_past well (On q) d act after fine s g =
      subst (λ k. (is_there F R k ≡ true) × (well k d ≡ true)) (sym s.2)
      (both_true (is_there F R q) (well q d) fine)
  goes_past well (Both q r) d act after fine s g =
      let one = both_true (is_there F R q && is_there F R r) _ fine in
      let two = both_true (not (nat_eq d 4)) _ one.1 in
      subst (λ k. (is_there F R k ≡ true) × (well k d ≡ true)) (sym s.1)
      ((both_true (is_there F R q) (is_there F R r) one.0).1, (both_true (well q (suc d)) (well r d) two.1).1)
  goes_past well _ d act after fine s g = absurd (subst GoesPast s g)

  names : (well : Place → ℕ → Bool) (v : View) (d : ℕ) (act : Act Place) (after q : Place)
      → leads_well F R well v d ≡ true → Sees v act after → Names act q → is_there F R q ≡ true
  names well Wrong d act after q fine s n = absurd (cc)
  names well (On r) d act after q fine s n = absurd (subst (λ k. Names k q) s.1 n)
  names well (To r) d act after q fine s n =
      subst (λ k. is_there F R k ≡ true) (subst (λ k. Names k q) s n) (both_true (is_there F R r) _ fine).0
  names well (Both r p) d act after q fine s n =
      subst (λ k. is_there F R k ≡ true) (subst (λ k. Names k q) s.0 n)
      (both_true (is_there F R r) (is_there F R p) (both_true (is_there F R r && is_there F R p) _ fine).0).0
  names well _ d act after q fine s n = absurd (subst (λ k. Names k q) s n)

  jumps : (well : Place → ℕ → Bool) (v : View) (d : ℕ) (q after : Place)
      → leads_well F R well v d ≡ true → Sees v (Jumps q) after → well q d ≡ true
  jumps well (On r) d q after fine s = let e = s.1 in absurd (cc)
  jumps well (To r) d q after fine s =
      subst (λ k. well k d ≡ true) (subst (λ k. Names k q) s refl) (both_true (is_there F R r) _ fine).1
  jumps well (Both r p) d q after fine s = let e = s.0 in absurd (cc)
  jumps well _ d q after fine s = absurd (cc)

  calls : (well : Place → ℕ → Bool) (v : View) (d : ℕ) (q after : Place)
      → leads_well F R well v d ≡ true → Sees v (Calls q) after
      → (not (nat_eq d 4) ≡ true) × (well q (suc d) ≡ true)
  calls well (On r) d q after fine s = let e = s.1 in absurd (cc)
  calls well (Both r p) d q after fine s =
      let one = both_true (is_there F R r && is_there F R p) _ fine in
      let two = both_true (not (nat_eq d 4)) _ one.1 in (
        two.0,
        subst (λ k. well k (suc d) ≡ true) (subst (λ k. Names k q) s.0 refl)
            (both_true (well r (suc d)) (well p d) two.1).0,
      )
  calls well _ d q after fine s = absurd (cc)

  returns : (well : Place → ℕ → Bool) (v : View) (d : ℕ) (after : Place)
      → leads_well F R well v d ≡ true → Sees v Returns after → not (nat_eq d 0) ≡ true
  returns well (On r) d after fine s = let e = s.1 in absurd (cc)
  returns well (Both r p) d after fine s = let e = s.0 in absurd (cc)
  returns well Back d after fine s = fine
  returns well _ d after fine s = absurd (cc)

  not_same : (d n : ℕ) → not (nat_eq d n) ≡ true → d ≡ n → ⊥
  not_same d n apart is = let e = sym (ap not (eq-eqb d n is)) ∙ apart in cc

  next_one : {p : Place} {act : Act Place} {after : Place} → Stands F R p act after → (i : ℕ) → p ≡ InFrame i
      → after ≡ InFrame (i + 1)
  next_one (in_frame {i = k} e is) i same = let one : k ≡ i = cc in ap (λ n. InFrame (n + 1)) one
  next_one (in_rom spelled is) i same = absurd (cc)

  fine : (n : ℕ) (p : Place) (d : ℕ) → ends n F R p d ≡ true → IsFine F R p d
  fine zero p d is fault bad = absurd (cc)
  fine (suc n) p d is fault (last {i = i} {act = act} {after = after} s g e) =
      let there = (goes_past (ends n F R) (view F R (InFrame i)) d act after is (sees s) g).0 in
      let less = leb-true (suc (i + 1)) (length F)
      (subst (λ q. is_there F R q ≡ true) (next_one s i refl) there) in absurd (omega (arith, less, e))
  fine (suc n) p d is fault (target {after = after} {act = act} a s g outside) =
      there a (names (ends n F R) (view F R p) d act after (InRom a) is (sees s) g) outside
  fine (suc n) p d is fault (second {a = a} {word = word} e low outside) = by (is_there [] R (InRom (a + 1))) refl
    where
      by : (t : Bool) → is_there [] R (InRom (a + 1)) ≡ t → ⊥
      by true at = there (a + 1) at outside
      by false at = let wrong : view F R (InRom a) ≡ Wrong = view_at R a word e ∙ is_first R a word low
          ∙ ap (λ t. if t then On (InRom (a + 2)) else Wrong) at in
          let e = sym (ap (λ v. leads_well F R (ends n F R) v d) wrong) ∙ is in cc
  fine (suc n) p d is fault (past {a = a} {b = b} {act = act} s g outside) =
      there b (goes_past (ends n F R) (view F R (InRom a)) d act (InRom b) is (sees s) g).0 outside
  fine (suc n) p d is fault (deep {to = to} {after = after} s e) =
      not_same d 4 (calls (ends n F R) (view F R p) d to after is (sees s)).0 e
  fine (suc n) p d is fault (bare {after = after} s e) =
      not_same d 0 (returns (ends n F R) (view F R p) d after is (sees s)) e

  -- where a way has so many steps at most, those from the next place are fewer
  follows : (n : ℕ) (p : Place) (d : ℕ) (q : Place) (e : ℕ) → ends (suc n) F R p d ≡ true → Leads F R p d q e
      → ends n F R q e ≡ true
  follows n p d q e is (on {instr = instr} s) =
      (goes_past (ends n F R) (view F R p) d (Moves instr) q is (sees s) tt).1
  follows n p d q e is (jump {after = after} s) = jumps (ends n F R) (view F R p) d q after is (sees s)
  follows n p d q e is (call {after = after} s) = (calls (ends n F R) (view F R p) d q after is (sees s)).1
  follows n p d q e is (back {q = to} {after = after} s) =
      (goes_past (ends n F R) (view F R p) d (Calls to) after is (sees s) tt).1

  -- so a walk is shorter
  shorter : (n : ℕ) (p : Place) (d k : ℕ) (q : Place) → ends n F R p d ≡ true → Walks F R d p k q → k < n
  shorter zero p d k q is walk = absurd (cc)
  shorter (suc n) p d k q is none = omega arith
  shorter (suc n) p d k end is (more {q = r} {n = m} leads walk) =
      let rest = shorter n r d m end (follows n p d r d is leads) walk in omega (arith, rest)

  -- all that is reached
  reached : (top : ℕ) → ends top F R (InFrame 0) 0 ≡ true → {p : Place} {d : ℕ} → Reached F R p d
      → (n : ℕ) × (n ≤ top) × (ends n F R p d ≡ true)
  reached top is begin = (top, omega arith, is)
  reached top is (step {p} {q} {d} {e} before fine leads) = by (reached top is before)
    where
      by : (n : ℕ) × (n ≤ top) × (ends n F R p d ≡ true) → (n : ℕ) × (n ≤ top) × (ends n F R q e ≡ true)
      by (zero, less, well) = absurd (cc)
      by (suc n, less, well) = (n, omega (arith, less), follows n p d q e well leads)

  aimed : (count : ℕ) (op : OpKind) (j : ℕ) → aims count op ≡ true → Names (op_act op) (InFrame j) → j < count
  aimed count (CallRom a) j is n = absurd (cc)
  aimed count (JumpRom a) j is n = absurd (cc)
  aimed count (Call k) j is n = let same : k ≡ j = cc in let less = leb-true (suc k) count is in omega (arith, same, less)
  aimed count (Jump k) j is n = let same : k ≡ j = cc in let less = leb-true (suc k) count is in omega (arith, same, less)
  aimed count _ j is n = absurd n

  in_all : (count : ℕ) (ops : List OpKind) (i : ℕ) (op : OpKind) → all_aim count ops ≡ true → slice_get ops i ≡ Some op
      → aims count op ≡ true
  in_all count [] i op all e = absurd (cc)
  in_all count (o ∷ ops) zero op all e =
      subst (λ k. aims count k ≡ true) (some_same e) (both_true (aims count o) _ all).0
  in_all count (o ∷ ops) (suc i) op all e = in_all count ops i op (both_true (aims count o) _ all).1 e

  has_begin : (G : List OpKind) → has_labs G ≡ true → BeginsWithLabs G
  has_begin (Draw (Labs x y scale) ∷ ops) is = labs
  has_begin _ is = absurd (cc)

pub passes_accepts : PassesAccepts
passes_accepts F R is =
    let one = both_true (has_labs F) _ is in
    let two = both_true (nat_le (size F) 511) _ one.1 in
    let three = both_true (all_aim (length F) F) _ two.1 in
    record {
      closed = record {
        begins = record {
          begins = has_begin F R F one.0;
          fits = leb-true (size F) 511 two.0;
          targets = λ i missed. missing i missed three.0;
        };
        fine = λ p d r. let way = reached F R (longest F R) three.1 r in fine F R way.0 p d way.2;
      };
      ends = λ loop.
          let way = reached F R (longest F R) three.1 loop.reached in
          let less = shorter F R way.0 loop.place loop.depth (longest F R) loop.end way.2 loop.walk in
          let most = way.1 in omega (arith, less, most);
    }
  where
    missing : (i : ℕ) → Misses F i → all_aim (length F) F ≡ true → ⊥
    missing i (misses {j = j} {op = op} e n outside) all =
        let less = aimed F R (length F) op j (in_all F R (length F) F i op all e) n in omega (arith, less, outside)
