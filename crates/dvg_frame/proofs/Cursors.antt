-- What a cursor has still to give, as it goes on.
use Rattle.std.proofs.Common.{◌≡◌, ◌≢◌, ℕ, zero, suc, ◌+◌, ◌-◌, ◌*◌, ◌≤◌, ◌<◌, List, [], ◌∷◌, ◌++◌, drop, length, Some, refl, sym, ap, ◌∙◌, subst, inl, inr, add-one, arith}
use Rattle.std.specs.Prelude.{All, slice_get}
use Rattle.std.proofs.lemmas.Option.{slice_get_cases}
use Rattle.std.proofs.Math.ListN.{drop_of_length-le, length-drop}
use Rattle.dvg_code.specs.Spelling.{canon}
use Rattle.dvg_mem.specs.declared.half.Half.{Half}
use Rattle.dvg_mem.specs.Areas.{base}
use Rattle.dvg_frame.specs.declared.op.OpKind.{OpKind}
use Rattle.dvg_frame.specs.Bytes.{IsBehindWordZero, addressed, bytes}
use Rattle.dvg_frame.specs.Left.{CursorState, last_items}
use Rattle.dvg_frame.specs.Layout.{op_code, laid, size}
use Rattle.dvg_frame.specs.Steps.{IsWellFormed}
use Rattle.dvg_frame.specs.declared.cursor.Cursor.TheInside.{Inside}
use Rattle.dvg_frame.specs.own.Counting.{IsCounted}
use Rattle.dvg_frame.specs.own.Frames.{AreBytesOf}
use Rattle.dvg_frame.specs.Cursors.{laid_ops, bytes_from, bytes_left, items_left, IsCursor}
use Rattle.dvg_frame.proofs.Bytes.{addressed-length, addressed_in_ram, bytes-append, bytes-length}
use Rattle.dvg_frame.proofs.Sizes.{base_high, base_low, canon_length, laid_length, some_words}

drop_at : {A : Type 0} (xs : List A) (k : ℕ) (x : A) → slice_get xs k ≡ Some x → drop k xs ≡ x ∷ drop (suc k) xs
drop_at [] k x is = absurd (cc)
drop_at (y ∷ xs) zero x is = let same : y ≡ x = cc in ap (λ z. z ∷ xs) same
drop_at (y ∷ xs) (suc k) x is = drop_at xs k x is

pub drop_one_at : {A : Type 0} (xs : List A) (k : ℕ) (x : A) → slice_get xs k ≡ Some x → drop k xs ≡ x ∷ drop (k + 1) xs
drop_one_at xs k x is = rw add-one (drop_at xs k x is)

-- what stands after the first of the items that are left
drop_rest : {A : Type 0} (xs : List A) (k : ℕ) (x : A) (rest : List A) → drop k xs ≡ x ∷ rest → rest ≡ drop (suc k) xs
drop_rest [] zero x rest is = absurd (cc)
drop_rest [] (suc k) x rest is = absurd (cc)
drop_rest (y ∷ xs) zero x rest is = let same : xs ≡ rest = cc in sym same
drop_rest (y ∷ xs) (suc k) x rest is = drop_rest xs k x rest is

-- the last bytes with their addresses
drop_addressed : (k a : ℕ) (bs : List ℕ) → drop k (addressed a bs) ≡ addressed (a + k) (drop k bs)
drop_addressed zero a bs = let same : a ≡ a + 0 = omega arith in ap (λ b. addressed b bs) same
drop_addressed (suc k) a [] = refl
drop_addressed (suc k) a (byte ∷ bs) = let same : suc a + k ≡ a + suc k = omega arith in drop_addressed k (suc a) bs ∙ ap (λ b. addressed b (drop k bs)) same

bytes_of_laid : (half : Half) (F : List OpKind) → length (bytes (laid half F)) ≡ 2 * size F
bytes_of_laid half F = bytes-length (laid half F) ∙ ap (λ n. 2 * n) (laid_length half F)

-- a laid draft has an item for each byte
pub items_of_laid : (half : Half) (F : List OpKind) → length (addressed (2 * base half) (bytes (laid half F))) ≡ 2 * size F
items_of_laid half F = addressed-length (2 * base half) (bytes (laid half F)) ∙ bytes_of_laid half F

-- so many of a draft's last items are as many
last_items-length : (half : Half) (F : List OpKind) (left : ℕ) → left ≤ 2 * size F → length (last_items half F left) ≡ left
last_items-length half F left few =
    let dropped = length-drop (2 * size F - left) (addressed (2 * base half) (bytes (laid half F))) in
    let all = items_of_laid half F in
    omega arith

-- the number of a cursor's items is that of its bytes
pub left_is : (cursor : Inside) → IsCursor cursor → cursor.left ≡ length (bytes_left cursor)
left_is cursor kept =
    let bs = bytes (laid cursor.half cursor.draft) in
    let count = ap length kept.bytes in
    let dropped = length-drop (2 * size cursor.draft - cursor.left) bs in
    let double = bytes_of_laid cursor.half cursor.draft in
    let few = kept.left in
    omega arith

-- its items are its bytes, each with its address
pub items_are : (cursor : Inside) → IsCursor cursor → items_left cursor ≡ addressed (cursor.end - cursor.left) (bytes_left cursor)
items_are cursor kept =
    let k = 2 * size cursor.draft - cursor.left in
    let from : 2 * base cursor.half + k ≡ cursor.end - cursor.left = let end = kept.end in let few = kept.left in omega arith in
    drop_addressed k (2 * base cursor.half) (bytes (laid cursor.half cursor.draft))
    ∙ ap (addressed (2 * base cursor.half + k)) (sym kept.bytes) ∙ ap (λ a. addressed a (bytes_left cursor)) from

-- where bytes are to come and none is at hand, there is one more operation
pub one_more : (half : Half) (F : List OpKind) (at_hand : List ℕ) (op left : ℕ) → left ≡ length (bytes_from half F at_hand op) → left ≢ 0 → at_hand ≡ [] → op < length F
one_more half F at_hand op left left_is some none =
    elim (slice_get_cases F op).1 [
      | inl here ↦ here.1
      | inr past ↦ absurd (some (left_is ∙ ap (λ bs. length (bytes_from half F bs op)) none ∙ ap (λ ops. length (bytes (laid_ops half F ops))) (drop_of_length-le F past.0)))
    ]

-- the next operation's bytes come to hand: the bytes to come are the same, and some are at hand
pub record Turns (half : Half) (F : List OpKind) (at_hand next : List ℕ) (op : ℕ) : Type 0 where
  pub same : bytes_from half F at_hand op ≡ bytes_from half F next (op + 1)
  pub some : next ≢ []

pub turns : (half : Half) (F : List OpKind) (at_hand next : List ℕ) (op : ℕ) → at_hand ≡ [] → op < length F → AreBytesOf half F op next → Turns half F at_hand next op
turns half F at_hand next op none within are =
    elim (slice_get_cases F op).1 [
      | inl here ↦ (
          let next_is : next ≡ bytes (canon (op_code half F here.0)) = are here.0 here.2 in
          let count : length next ≡ 2 * length (canon (op_code half F here.0)) = ap length next_is ∙ bytes-length (canon (op_code half F here.0)) in
          let words = canon_length half F here.0 in
          let some = some_words here.0 in
          record {
            same = ap (λ bs. bytes_from half F bs op) none ∙ ap (λ ops. bytes (laid_ops half F ops)) (drop_one_at F op here.0 here.2)
                ∙ bytes-append (canon (op_code half F here.0)) (laid_ops half F (drop (op + 1) F)) ∙ ap (λ bs. bs ++ bytes (laid_ops half F (drop (op + 1) F))) (sym next_is);
            some = λ empty. let zero_long : length next ≡ 0 = ap length empty in omega arith;
          })
      | inr past ↦ absurd (let outside = past.0 in omega arith)
    ]

-- a cursor that has a byte at hand; its items to come are those of another one
pub record GoesOn (old new : Inside) : Type 0 where
  pub same : bytes_left old ≡ bytes_left new
  pub some : new.at_hand ≢ []
  pub draft : new.draft ≡ old.draft
  pub half : new.half ≡ old.half
  pub end : new.end ≡ old.end
  pub left : new.left ≡ old.left
  pub counted : IsCounted new.draft new.words_before.items

-- the cursor after its first item
pub record IsNext (old new : Inside) (address byte : ℕ) : Type 0 where
  pub here : address ≡ old.end - old.left
  pub bytes : bytes_left old ≡ byte ∷ bytes_left new
  pub draft : new.draft ≡ old.draft
  pub half : new.half ≡ old.half
  pub end : new.end ≡ old.end
  pub left : suc new.left ≡ old.left
  pub counted : IsCounted new.draft new.words_before.items

pub next_kept : (old new : Inside) (address byte : ℕ) → IsCursor old → IsNext old new address byte → IsCursor new
next_kept old new address byte kept next =
    let words = ap size next.draft in
    let few = kept.left in
    let less = next.left in
    record {
      begins = subst IsWellFormed (sym next.draft) kept.begins;
      counted = next.counted;
      left = omega arith;
      bytes =
          let k = 2 * size old.draft - old.left in
          let on : suc k ≡ 2 * size new.draft - new.left = omega arith in
          drop_rest (bytes (laid old.half old.draft)) k byte (bytes_left new) (sym kept.bytes ∙ next.bytes)
          ∙ ap (λ n. drop n (bytes (laid old.half old.draft))) on
          ∙ ap (λ F. drop (2 * size new.draft - new.left) (bytes (laid old.half F))) (sym next.draft)
          ∙ ap (λ half. drop (2 * size new.draft - new.left) (bytes (laid half new.draft))) (sym next.half);
      end = let end = kept.end in let same = next.end in let first = ap base next.half in omega arith;
    }

pub next_items : (old new : Inside) (items : List (ℕ × ℕ)) (address byte : ℕ) → items_left old ≡ items → IsCursor old → IsNext old new address byte → items ≡ (address, byte) ∷ items_left new
next_items old new items address byte items_is kept next =
    let rises : suc (old.end - old.left) ≡ new.end - new.left =
    let few = kept.left in let all = kept.end in let end = next.end in let left = next.left in omega arith in
    sym items_is ∙ items_are old kept ∙ ap (addressed (old.end - old.left)) next.bytes ∙ ap (λ a. (old.end - old.left, byte) ∷ addressed a (bytes_left new)) rises
    ∙ ap (λ items. (old.end - old.left, byte) ∷ items) (sym (items_are new (next_kept old new address byte kept next))) ∙ ap (λ a. (a, byte) ∷ items_left new) (sym next.here)

-- no byte at hand yet, and no operation passed
pub begins : (half : Half) (F : List OpKind) (at_hand : List ℕ) → at_hand ≡ [] → bytes_from half F at_hand 0 ≡ bytes (laid half F)
begins half F at_hand none = ap (λ bs. bytes_from half F bs 0) none

-- where all bytes are left, no item is passed over
pub all_left : (half : Half) (F G : List OpKind) (count : ℕ) → G ≡ F → length (laid half F) ≡ count → last_items half G (2 * count) ≡ addressed (2 * base half) (bytes (laid half F))
all_left half F G count same count_is =
    let words = laid_length half F in
    let none : 2 * size F - 2 * count ≡ 0 = omega arith in
    ap (λ F. last_items half F (2 * count)) same ∙ ap (λ n. drop n (addressed (2 * base half) (bytes (laid half F)))) none

-- each byte of a frame lies in the RAM, and none in word zero
pub in_ram : (half : Half) (F : List OpKind) (count : ℕ) → length (laid half F) ≡ count → count ≤ 511 → All IsBehindWordZero (addressed (2 * base half) (bytes (laid half F)))
in_ram half F count count_is few =
    let long = bytes-length (laid half F) in
    let low = base_low half in
    let high = base_high half in
    addressed_in_ram (2 * base half) (bytes (laid half F)) (omega arith) (omega arith)

-- a cursor that gives the bytes of this draft from the first on
pub begun : (cursor : Inside) (F : List OpKind) (a count : ℕ) → cursor.draft ≡ F → IsWellFormed F → IsCounted F cursor.words_before.items
    → cursor.at_hand ≡ [] → cursor.op ≡ 0 → a ≡ base cursor.half → cursor.end ≡ 2 * a + 2 * count → cursor.left ≡ 2 * count
    → length (laid cursor.half F) ≡ count → IsCursor cursor
begun cursor F a count draft_is begins_so counted none op_is a_is end_is left_is count_is =
    let half = cursor.half in
    let at_hand = cursor.at_hand in
    let words = laid_length half F in
    let same = ap size draft_is in
    record {
      begins = subst IsWellFormed (sym draft_is) begins_so;
      counted = subst (λ G. IsCounted G cursor.words_before.items) (sym draft_is) counted;
      left = omega arith;
      bytes =
          let passed : 0 ≡ 2 * size cursor.draft - cursor.left = omega arith in
          ap (λ k. bytes_from half cursor.draft at_hand k) op_is ∙ begins half cursor.draft at_hand none
          ∙ ap (λ n. drop n (bytes (laid half cursor.draft))) passed;
      end = omega arith;
    }

-- cursors of the same draft and half, with as many bytes still to come, are the same
pub same_cursor : {F G : List OpKind} {half other : Half} {left few : ℕ} → F ≡ G → half ≡ other → left ≡ few
    → ◌≡◌ {A = CursorState} (record { draft = F; half = half; left = left }) (record { draft = G; half = other; left = few })
same_cursor F half left = cc

-- a cursor has as many items as it says
pub items_count : (cursor : Inside) (items : List (ℕ × ℕ)) → items_left cursor ≡ items → IsCursor cursor → length items ≡ cursor.left
items_count cursor items items_is kept = sym (ap length items_is) ∙ last_items-length cursor.half cursor.draft cursor.left kept.left

-- a cursor that has no item left has none
pub none_left : (cursor : Inside) (items : List (ℕ × ℕ)) → items_left cursor ≡ items → IsCursor cursor → cursor.left ≡ 0 → items ≡ []
none_left cursor items items_is kept none = empty items (items_count cursor items items_is kept ∙ none)
  where
    empty : (items : List (ℕ × ℕ)) → length items ≡ 0 → items ≡ []
    empty [] is = refl
    empty (item ∷ items) is = absurd (omega arith)
