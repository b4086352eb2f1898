-- A generator that is followed through its first run, word by word.
use Rattle.std.proofs.Common.{◌≡◌, ℕ, ◌+◌, ◌<◌, ◌≤◌, List, [], ◌∷◌, Option, Some, None}
use Rattle.std.proofs.Common.{Bool, true, false}
use Rattle.std.proofs.Common.{refl, ap, ◌∙◌, subst, arith, Vec}
use Rattle.std.specs.Prelude.{Result, Ok, Err, IfOk}
use Rattle.dvg_gen.specs.declared.stroke.Stroke.{Stroke}
use Rattle.dvg_gen.specs.declared.taken.Taken.{Taken}
use Rattle.dvg_gen.specs.declared.taken.Taken.TheVariants.{Low, Word, Done, Broke}
use Rattle.dvg_gen.specs.Machine.{Machine, HasTaken, answer_of}
use Rattle.dvg_gen.specs.Run.{Visit, Goes, Runs, begins, fate}
use Rattle.dvg_gen.specs.Told.{Start, Reply, new, starts, wants}
use Rattle.dvg_gen.proofs.OneRun.{before_end, leaves_same}
use Rattle.dvg_dump.specs.Ends.{End, Complete, Broken, Ends, halts, breaks, meets_hole, goes_on}
use Rattle.dvg_dump.specs.Following.{FollowsRun, TakesWord}
use Rattle.dvg_dump.specs.Tracing.{Stepped, Traces, TracesWord, fresh}
use Rattle.dvg_dump.proofs.OneEnd.{one_end}
use Rattle.dvg_dump.proofs.OneWordMore.{stepped, wanted_is}
use Rattle.test_facts.specs.Facts.{IsComplete}

-- only a low byte is answered by none
pub was_low : {A : Type 0} (taken : Taken A) → answer_of taken ≡ None → taken ≡ Low
was_low Low is = refl
was_low Word is = absurd (cc)
was_low (Done list) is = absurd (cc)
was_low (Broke fault) is = absurd (cc)

-- it is in the run, after this many words
pub record InRun (memory : ℕ → Option ℕ) (words : ℕ) (machine : Machine) : Type 0 where
  pub visits : List Visit
  pub held : Option ℕ
  pub follows : FollowsRun memory machine words visits held

pub at_first : (memory : ℕ → Option ℕ) (machine : Machine) → HasTaken machine (Start ∷ []) None
    → InRun memory 0 machine
at_first memory machine after = record {
  visits = [];
  held = None;
  follows = record {
    history = Start ∷ [];
    after = after;
    run = leaves_same after.leaves (starts new);
    runs = begins;
    goes = refl;
  };
}

pub is_open : {memory : ℕ → Option ℕ} {words : ℕ} {machine : Machine} → InRun memory words machine
    → machine.is_open ≡ true
is_open run = run.follows.after.stands.is_open ∙ ap (λ r. r.is_open) run.follows.run

-- nobody traces it
traces_none : (memory : ℕ → Option ℕ) (visits : List Visit) (held : Option ℕ) (traces : Bool)
    → false ≡ traces → Traces traces memory visits held (fresh false)
traces_none memory visits held traces none = record {
  flag = none;
  beside = λ on. absurd (let both : false ≡ true = none ∙ on in cc);
  silent = λ off. refl;
}

traced_none : (address : ℕ) (word : Option ℕ) → TracesWord address word (fresh false) (fresh false)
traced_none address None = refl
traced_none address (Some word) =
    λ traces memory visits visits' held held' fetched before.
    traces_none memory visits' held' traces before.flag

module _ {memory : ℕ → Option ℕ} {words : ℕ} {old : Machine} (run : InRun memory words old) where
  -- what comes of a word
  pub by_word : (address : ℕ) (word : Option ℕ) (machine : Machine) (answer : Option Reply)
      → words < 65536 → Some address ≡ wants run.follows.after.run → memory address ≡ word
      → TakesWord old word machine answer
      → Stepped memory false words address machine (fresh false) answer
  by_word address word machine answer few at there takes =
      let here = wanted_is address run.follows at in
      let none = traces_none memory run.visits run.held false refl in
      stepped false word machine (fresh false) (fresh false) answer few here there run.follows takes
      (traced_none address word) none

-- the run goes on
pub goes_further : {A : Type 0} (memory : ℕ → Option ℕ) (machine : Machine) (words address : ℕ)
    (taken : Taken A) → taken ≡ Word
    → Stepped memory false words address machine (fresh false) (answer_of taken)
    → InRun memory (words + 1) machine
goes_further memory machine words address taken word step =
    let next =
    subst (λ t. Stepped memory false words address machine (fresh false) (answer_of t)) word step in
    record { visits = next.0; held = next.1; follows = next.2 }

-- a run that is complete later doesn't break
pub never_breaks : {A : Type 0} (memory : ℕ → Option ℕ) (machine : Machine) (words address : ℕ)
    (taken : Taken A) → Stepped memory false words address machine (fresh false) (answer_of taken)
    → (taken ≡ Word → ⊥) → ((list : Vec Stroke A) → taken ≡ Done list → ⊥)
    → (most : ℕ) (drew : List Stroke) → IsComplete memory most drew → ⊥
never_breaks memory machine words address Low step not_word not_done most drew complete = step
never_breaks memory machine words address Word step not_word not_done most drew complete =
    not_word refl
never_breaks memory machine words address (Done list) step not_word not_done most drew complete =
    not_done list refl
never_breaks memory machine words address (Broke fault) step not_word not_done most drew complete =
    let same : Broken address fault ≡ Complete most drew =
    (one_end memory step.0 complete.0 _ _ step.1 complete.1).1 in
    cc

-- nor does it go on for so long
later : {memory : ℕ → Option ℕ} {words most : ℕ} {visits older : List Visit} {held : Option ℕ}
    {end : End} {drew : List Stroke} → Ends memory visits end
    → end ≡ Complete most drew → Runs memory words older held → fate older ≡ Goes → words < most
later {words = words} (halts {words = count} runs few finished) is before goes =
    let low = before_end before goes runs finished in
    let same = counts is in
    omega arith
  where
    counts : {n m : ℕ} {some other : List Stroke} → Complete n some ≡ Complete m other → n ≡ m
    counts e = cc
later (breaks runs few broke) is before goes = absurd (cc)
later (meets_hole runs few going hole) is before goes = absurd (cc)
later (goes_on runs going) is before goes = absurd (cc)

pub not_so_long : {memory : ℕ → Option ℕ} {words : ℕ} {machine : Machine}
    → InRun memory words machine → (most : ℕ) (drew : List Stroke)
    → most ≤ words → IsComplete memory most drew → ⊥
not_so_long run most drew few complete =
    let low = later complete.1 refl run.follows.runs run.follows.goes in omega arith

-- what is complete is so in one way
pub one_way : (memory : ℕ → Option ℕ) (words most : ℕ) (some drew : List Stroke)
    → IsComplete memory words some → IsComplete memory most drew
    → (words ≡ most) × (some ≡ drew)
one_way memory words most some drew one other =
    let same : Complete words some ≡ Complete most drew =
    (one_end memory one.0 other.0 _ _ one.1 other.1).1 in
    (cc, cc)

-- so it is with what is answered
pub answered : {A E : Type 0} (memory : ℕ → Option ℕ) (most : ℕ) (drew : List Stroke)
    (result : Result (ℕ × Vec Stroke A) E)
    → IfOk result (λ drawn. IsComplete memory drawn.0 drawn.1.items) → IsComplete memory most drew
    → IfOk result (λ drawn. (drawn.0 ≡ most) × (drawn.1.items ≡ drew))
answered memory most drew (Ok drawn) one other =
    one_way memory drawn.0 most drawn.1.items drew one other
answered memory most drew (Err refused) one other = tt
