-- What stands in a memory after a life.
use Rattle.std.proofs.Common.{◌≡◌, ◌≢◌, ℕ, inl, inr, ◌+◌, ◌-◌, ◌%◌, ◌<◌, ◌≤◌, Bool, true, false, not, List, [], ◌∷◌}
use Rattle.std.proofs.Common.{◌++◌, refl, sym, ap, ◌∙◌, subst, arith, Some, eqb-true, eq-eqb}
use Rattle.std.proofs.lemmas.Bool.{eqb-false, ne_eqb}
use Rattle.std.specs.Prelude.{nat_eq, ◌⊎◌, if◌then◌else◌}
use Rattle.dvg_mem.specs.declared.half.Half.{Half}
use Rattle.dvg_mem.specs.Areas.{other}
use Rattle.dvg_frame.specs.Bytes.{addressed}
use Rattle.dvg_driver.specs.declared.action.Action.{Action}
use Rattle.dvg_driver.specs.declared.action.Action.TheVariants.{Peek, Wrote, Read, Sent, Idle}
use Rattle.dvg_driver.specs.Script.{Item, Offered, Asked, Did, word_zero}
use Rattle.dvg_driver.specs.Place.{Place, Start, Booting, Resting, Writing, Waiting, Sending, place_of_life, next_place}
use Rattle.dvg_driver.specs.Stands.{Stage, StandsAfter, byte1_of, peeked_after}
use Rattle.dvg_driver.proofs.Places.{place_before, some_same}
use Rattle.dvg_calls_6502.specs.Processor.{Cpu, Access, run}
use Rattle.dvg_calls_6502.specs.Board.{IsLoaded, is_own, is_ram, is_hardware, source_in, goal_in}
use Rattle.dvg_calls_6502.specs.Feed.{fed}
use Rattle.dvg_calls_6502.specs.Holds.{Holds, HoldsPlace, IsFeeding}
use Rattle.dvg_calls_6502.specs.Routines.{Shows, acted}
use Rattle.dvg_calls_6502.specs.Calls.{AreShown}
use Rattle.dvg_calls_6502.proofs.PlainTicks.{Acts}

-- what stands in other memories: where the driver's bytes are the same, and a table while it is written
module _ (mem now : ℕ → ℕ) (begin stop : ℕ) (own : (b : ℕ) → is_own b ≡ true → now b ≡ mem b)
    (table : mem 0x10 ≡ 0x80 → (b : ℕ) → begin ≤ b → b < stop → 0x200 ≤ b → is_hardware b ≡ false → now b ≡ mem b) where
  source_same : source_in now ≡ source_in mem
  source_same = let a = own 0x13 refl in let b = own 0x19 refl in let c = own 0x1A refl in omega arith

  goal_same : goal_in now ≡ goal_in mem
  goal_same = let a = own 0x13 refl in let b = own 0x14 refl in let c = own 0x15 refl in omega arith

  feeds_on : (half : Half) (flipped : Bool) (writes : List (ℕ × ℕ)) → IsFeeding mem begin stop half flipped writes
      → IsFeeding now begin stop half flipped writes
  feeds_on half flipped writes f =
      let place = own 0x13 refl in let pages = own 0x16 refl in let end = own 0x17 refl in
      record {
        phase = own 0x10 refl ∙ f.phase;
        rest = f.rest;
        odd = f.odd;
        second = f.second;
        parity = ap (λ p. nat_eq (p % 2) 1) place ∙ f.parity;
        mark = own 0x18 refl ∙ f.mark;
        some = f.some;
        left = omega (arith, place, pages, end, f.left);
        even = ap (λ e. e % 2) end ∙ f.even;
        reads = λ k h. ap now (moved k)
            ∙ table f.phase (source_in mem + k) (omega (arith, f.after)) (omega (arith, h, f.ends)) (f.far k h).0
            (f.far k h).1 ∙ f.reads k h;
        far = λ k h. subst (λ q. (0x200 ≤ q) × (is_hardware q ≡ false)) (sym (moved k)) (f.far k h);
        after = omega (arith, source_same, f.after);
        ends = omega (arith, source_same, f.ends);
        top = f.top;
        low = omega (arith, goal_same, f.low);
        high = omega (arith, goal_same, f.high);
        are = f.are ∙ ap (λ p. addressed (p - 0x4000) (fed (mem 0x11) f.odd f.second f.rest)
            ++ word_zero (other half) (not flipped)) (sym goal_same)
            ∙ ap (λ b. addressed (goal_in now - 0x4000) (fed b f.odd f.second f.rest)
            ++ word_zero (other half) (not flipped)) (sym (own 0x11 refl));
      }
    where
      moved : (k : ℕ) → source_in now + k ≡ source_in mem + k
      moved k = omega (arith, source_same)

  place_on : (place : Place) (half : Half) (flipped : Bool) → HoldsPlace mem begin stop place half flipped
      → HoldsPlace now begin stop place half flipped
  place_on Start half flipped h = (own 0x10 refl ∙ h.0, h.1)
  place_on (Writing writes) half flipped h = (own 0x11 refl ∙ h.0, by h.1)
    where
      by : IsFeeding mem begin stop half flipped writes ⊎ ((mem 0x10 ≡ 3) × (writes ≡ word_zero (other half) true))
          ⊎ ((mem 0x10 ≡ 4) × (writes ≡ word_zero (other half) false))
          → IsFeeding now begin stop half flipped writes ⊎ ((now 0x10 ≡ 3) × (writes ≡ word_zero (other half) true))
          ⊎ ((now 0x10 ≡ 4) × (writes ≡ word_zero (other half) false))
      by (inl f) = inl (feeds_on half flipped writes f)
      by (inr (inl is)) = inr (inl (own 0x10 refl ∙ is.0, is.1))
      by (inr (inr is)) = inr (inr (own 0x10 refl ∙ is.0, is.1))
  place_on _ half flipped h = (own 0x10 refl ∙ h.0, own 0x11 refl ∙ h.1, h.2)

  pub holds_on : (stage : Stage) → Holds mem begin stop stage → Holds now begin stop stage
  holds_on stage h = record {
    flipped = own 0x12 refl ∙ h.flipped;
    place = place_on stage.place stage.half stage.flipped h.place;
  }

-- a driver of this memory stands after a life; byte 001 is what the life tells
pub record Stood (mem : ℕ → ℕ) (begin stop : ℕ) (life : List Item) : Type 0 where
  pub stage : Stage
  pub peeked : ℕ
  pub stands : StandsAfter stage peeked life
  pub holds : Holds mem begin stop stage
  pub byte1 : mem 0x4001 ≡ byte1_of peeked life
  pub loaded : IsLoaded mem

pub stood_on : (mem now : ℕ → ℕ) (begin stop : ℕ) (life : List Item) → Stood mem begin stop life → IsLoaded now
    → ((b : ℕ) → is_own b ≡ true → now b ≡ mem b) → ((b : ℕ) → is_ram b ≡ true → now b ≡ mem b)
    → (mem 0x10 ≡ 0x80 → (b : ℕ) → begin ≤ b → b < stop → 0x200 ≤ b → is_hardware b ≡ false → now b ≡ mem b)
    → Stood now begin stop life
stood_on mem now begin stop life stood load own ram table = record {
  stage = stood.stage;
  peeked = stood.peeked;
  stands = stood.stands;
  holds = holds_on mem now begin stop own table stood.stage stood.holds;
  byte1 = ram 0x4001 refl ∙ stood.byte1;
  loaded = load;
}

-- the place before newer items
pub place_of_rest : (more life : List Item) (place : Place) → place_of_life (more ++ life) ≡ Some place
    → (before : Place) × (place_of_life life ≡ Some before)
place_of_rest [] life place is = (place, is)
place_of_rest (item ∷ more) life place is = let one = place_before item (more ++ life) place is in
    place_of_rest more life one.0 one.1

-- the items of older accesses
pub shown_rest : (items : List Item) (pre log : List Access) → AreShown items (pre ++ log) → (more : List Item)
    × (rest : List Item) × (items ≡ more ++ rest) × AreShown rest log
shown_rest items [] log shown = ([], items, refl, shown)
shown_rest (Did action ∷ items) (access ∷ pre) log shown =
    let on = shown_rest items pre log shown.1 in (Did action ∷ on.0, on.1, ap (λ l. Did action ∷ l) on.2, on.3)
shown_rest _ (access ∷ pre) log shown = absurd shown

-- an action's access, as items
abbrev pub items_of : Action → List Item
items_of Idle = []
items_of Peek = Did Peek ∷ []
items_of (Wrote a byte) = Did (Wrote a byte) ∷ []
items_of (Read halted) = Did (Read halted) ∷ []
items_of Sent = Did Sent ∷ []

pub shown_items : (action : Action) (accesses : List Access) → Shows action accesses
    → AreShown (items_of action) accesses
shown_items Idle accesses is = subst (λ l. AreShown [] l) (sym is) tt
shown_items Peek accesses is = subst (λ l. AreShown (Did Peek ∷ []) l) (sym is.1) ((is.0, refl), tt)
shown_items (Wrote a byte) accesses is = subst (λ l. AreShown (Did (Wrote a byte) ∷ []) l) (sym is) (refl, tt)
shown_items (Read halted) accesses is = subst (λ l. AreShown (Did (Read halted) ∷ []) l) (sym is.1)
    ((is.0, refl, is.2), tt)
shown_items Sent accesses is = subst (λ l. AreShown (Did Sent ∷ []) l) (sym is.1) ((is.0, refl), tt)

-- an idle tick leaves a life as it was
rests_as : (before place : Place) → next_place before (Did Idle) ≡ Some place → before ≡ place
rests_as (Resting first) place is = some_same is
rests_as _ place is = absurd (cc)

without_idle : (new : Stage) (peeked : ℕ) (life : List Item) → StandsAfter new peeked (Did Idle ∷ life)
    → StandsAfter new peeked life
without_idle new peeked life stands =
    let one = place_before (Did Idle) life new.place stands.place in
    record { place = one.1 ∙ ap Some (rests_as one.0 new.place one.2); half = stands.half; flipped = stands.flipped }

pub stands_items : (action : Action) (new : Stage) (peeked : ℕ) (life : List Item)
    → StandsAfter new peeked (Did action ∷ life) → StandsAfter new peeked (items_of action ++ life)
stands_items Idle new peeked life stands = without_idle new peeked life stands
stands_items _ new peeked life stands = stands

-- byte 001 after an action
same_place : (a : ℕ) → nat_eq 0x4001 (0x4000 + a) ≡ nat_eq a 1
same_place a = by (nat_eq a 1) refl
  where
    by : (t : Bool) → nat_eq a 1 ≡ t → nat_eq 0x4001 (0x4000 + a) ≡ t
    by true is = let e : a ≡ 1 = eqb-true a 1 is in let f : 0x4001 ≡ 0x4000 + a = omega arith in
        eq-eqb 0x4001 (0x4000 + a) f
    by false is = let n : a ≢ 1 = eqb-false a 1 is in ne_eqb 0x4001 (0x4000 + a) (λ e. n (omega arith))

byte1_after : (action : Action) (mem : ℕ → ℕ) (peeked : ℕ) (life : List Item) → mem 0x4001 ≡ byte1_of peeked life
    → acted action mem 0x4001 ≡ byte1_of (peeked_after action (mem 0x4001) peeked) (items_of action ++ life)
byte1_after Peek mem peeked life is = refl
byte1_after (Wrote a byte) mem peeked life is =
    ap (λ (t : Bool). if t then byte else mem 0x4001) (same_place a) ∙ ap (λ m. if nat_eq a 1 then byte else m) is
byte1_after _ mem peeked life is = is

-- what stands after a tick
pub stood_tick : (q : ℕ) (cpu : Cpu) (begin stop peeked : ℕ) (life : List Item)
    → cpu.mem 0x4001 ≡ byte1_of peeked life → (did : Acts q cpu begin stop peeked life)
    → Stood (run q did.steps cpu).mem begin stop (items_of did.action ++ life)
stood_tick q cpu begin stop peeked life byte1 did = record {
  stage = did.new;
  peeked = peeked_after did.action (cpu.mem 0x4001) peeked;
  stands = stands_items did.action did.new (peeked_after did.action (cpu.mem 0x4001) peeked) life did.stands;
  holds = did.holds;
  byte1 = did.kept 0x4001 refl (λ same. absurd (omega arith)) ∙ byte1_after did.action cpu.mem peeked life byte1;
  loaded = did.loaded;
}
