-- One word more of a run that is followed.
use Rattle.std.specs.Prelude.{Result, Ok, Err, IfOk}
use Rattle.std.proofs.Common.{◌*◌, ◌≡◌, ℕ, ◌+◌, ◌<◌, ◌≤◌, List, [], ◌∷◌, Option, Some, None, Bool, true, false, refl, sym, ap, ◌∙◌, subst, add-one, arith, ◌⊎◌, inl, inr}
use Rattle.dvg_code.specs.declared.instr.Instr.{Instr}
use Rattle.dvg_code.specs.Spelling.{Spells, vctr, labs}
use Rattle.dvg_gen.specs.declared.stroke.Stroke.{Stroke}
use Rattle.dvg_gen.specs.declared.taken.GenFault.{GenFault}
use Rattle.dvg_gen.specs.declared.taken.GenFault.TheVariants.{Hole}
use Rattle.dvg_gen.specs.declared.taken.Step.{Step}
use Rattle.dvg_gen.specs.declared.taken.Step.TheVariants.{Low, Word, Done, Broke}
use Rattle.dvg_gen.specs.Bytes.{met}
use Rattle.dvg_gen.specs.Machine.{Machine, HasTaken, Answers, answer_by}
use Rattle.dvg_gen.specs.Run.{Visit, Goes, Breaks, fate, next, wanted, Adds, first, one, two, Runs, begins, fetches}
use Rattle.dvg_gen.specs.Told.{Told, Start, nothing, goes_on as goes_by, grown, Leaves, new as untold, starts, Reply, More, Drew, Fails, reply, reply_by, wants}
use Rattle.dvg_gen.proofs.OneRun.{leaves_same}
use Rattle.dvg_gen.proofs.Replies.{drew_finished, fails_breaks, more_goes}
use Rattle.dvg_dump.specs.Ends.{Complete, Broken, Endless, Ends, drawn_by, halts, breaks, meets_hole, goes_on}
use Rattle.dvg_dump.specs.Following.{FollowsRun, TakesWord, TellsRun, opened}
use Rattle.dvg_dump.specs.Traces.{trace_if}
use Rattle.dvg_dump.specs.Tracing.{Trail, Traces, TracesWord, Stepped, Steps, fresh}
use Rattle.dvg_dump.proofs.OneEnd.{added}

some_is : {x y : ℕ} → ◌≡◌ {A = Option ℕ} (Some x) (Some y) → x ≡ y
some_is e = cc

-- the wanted address
pub wanted_is : {memory : ℕ → Option ℕ} {machine : Machine} {words : ℕ} {visits : List Visit} {held : Option ℕ} (address : ℕ) (f : FollowsRun memory machine words visits held)
    → Some address ≡ wants f.after.run → address ≡ wanted visits held
wanted_is address f e = some_is (e ∙ ap wants f.run)

-- what was recorded of a run that is over
pub recorded_of : (traces : Bool) {memory : ℕ → Option ℕ} {visits : List Visit} {held : Option ℕ} {trail : Trail} → Traces traces memory visits held trail
    → trail.ran ≡ trace_if traces memory visits
recorded_of true t = (t.beside refl).ran_is
recorded_of false t = t.silent refl

-- a hole breaks the run
at_hole : {memory : ℕ → Option ℕ} {visits : List Visit} {held : Option ℕ} {words address : ℕ} (traces : Bool) (machine : Machine) (trail : Trail)
    → Runs memory words visits held → fate visits ≡ Goes → words < 65536 → address ≡ wanted visits held → memory address ≡ None
    → Traces traces memory visits held trail → Stepped memory traces words address machine trail (Some (Fails Hole))
at_hole {memory = memory} {visits = visits} {address = address} traces machine trail r g low at none t =
    let broke : Ends memory visits (Broken _ Hole) = meets_hole r low g (ap memory (sym at) ∙ none) in
    (visits, subst (λ x. Ends memory visits (Broken x Hole)) (sym at) broke, recorded_of traces t)

-- an instruction of two words breaks no run
two_goes : {A : Type 0} {code : Instr} {held word : ℕ} {fault : GenFault} (place : ℕ) (older : List Visit) → Spells code (held ∷ word ∷ []) → fate (record { place = place; code = code } ∷ older) ≡ Breaks fault → A
two_goes {fault = fault} place older (vctr r p q) e = let clash : Goes ≡ Breaks fault = e in absurd (cc)
two_goes {fault = fault} place older (labs r p q) e = let clash : Goes ≡ Breaks fault = e in absurd (cc)

-- a run that breaks does so at the address of its newest word
broke_at : {memory : ℕ → Option ℕ} {words address word : ℕ} {visits visits' : List Visit} {held held' : Option ℕ} {fault : GenFault} → Runs memory words visits held → fate visits ≡ Goes
    → memory (wanted visits held) ≡ Some word → address ≡ wanted visits held → (words + 1) ≤ 65536 → Adds visits held word visits' held' → fate visits' ≡ Breaks fault
    → Ends memory visits' (Broken address fault)
broke_at {fault = fault} r g m at few (first p) e = let clash : Goes ≡ Breaks fault = sym g ∙ e in absurd (cc)
broke_at {memory} {words} {address} {visits = visits} {fault = fault} r g m at few (one {code = code} s) e =
    let broke = breaks (fetches r g m (one s)) (omega arith) e in
    subst (λ x. Ends memory (record { place = next visits; code = code } ∷ visits) (Broken x fault)) (sym at) broke
broke_at {visits = visits} r g m at few (two s) e = two_goes (next visits) visits s e

-- a word is added
at_word : {memory : ℕ → Option ℕ} {visits visits' : List Visit} {held held' : Option ℕ} {words address word : ℕ} {history : List Told} (traces : Bool) (machine : Machine)
    (trail : Trail) (answer : Reply) → Runs memory words visits held → fate visits ≡ Goes → words < 65536 → address ≡ wanted visits held → memory address ≡ Some word
    → Adds visits held word visits' held' → Traces traces memory visits' held' trail → (after : HasTaken machine history None) → after.run ≡ grown (opened visits held) visits' held'
    → reply_by held' (fate visits') (drawn_by visits') ≡ answer → Stepped memory traces words address machine trail (Some answer)
at_word {memory = memory} {visits = visits} {visits' = visits'} {held = held} {held' = held'} {words = words} {word = word} {history = history} traces machine trail More r g low at there a t after run more =
    let goes = more_goes a g (drawn_by visits') more in (
      visits',
      held',
      record {
        history = history;
        after = after;
        run = run ∙ ap (λ f. record { first = nothing.first; visits = visits'; held = held'; is_open = goes_by f }) goes;
        runs = subst (λ n. Runs memory n visits' held') (sym (add-one words)) (fetches r g (ap memory (sym at) ∙ there) a);
        goes = goes;
      },
      t,
    )
at_word {memory = memory} {visits = visits} {visits' = visits'} {held = held} {held' = held'} {words = words} {word = word} traces machine trail (Drew list) r g low at there a t after run drew =
    let end = drew_finished held' (fate visits') (drawn_by visits') list drew in
    let runs = fetches r g (ap memory (sym at) ∙ there) a in
    let counted = subst (λ n. Runs memory n visits' held') (sym (add-one words)) runs in
    let whole = subst (λ k. Runs memory (words + 1) visits' k) end.0 counted in
    let few : words + 1 ≤ 65536 = omega arith in
    (visits', subst (λ l. Ends memory visits' (Complete (words + 1) l)) end.2 (halts whole few end.1), recorded_of traces t)
at_word {memory = memory} {visits = visits} {visits' = visits'} {held = held} {held' = held'} {words = words} {word = word} traces machine trail (Fails fault) r g low at there a t after run fails =
    let broke = fails_breaks held' (fate visits') (drawn_by visits') fault fails in
    (visits', broke_at r g (ap memory (sym at) ∙ there) at (omega arith) a broke, recorded_of traces t)

-- a word or a hole
pub stepped : {memory : ℕ → Option ℕ} {visits : List Visit} {held : Option ℕ} {words address : ℕ} {old : Machine} (traces : Bool) (word : Option ℕ) (machine : Machine)
    (before trail : Trail) (answer : Option Reply) → words < 65536 → address ≡ wanted visits held → memory address ≡ word → FollowsRun memory old words visits held
    → TakesWord old word machine answer → TracesWord address word before trail → Traces traces memory visits held before → Stepped memory traces words address machine trail answer
stepped {memory = memory} {visits = visits} {held = held} {words = words} {address = address} traces None machine before trail answer low at there f takes same t =
    let told = takes f.history f.after in
    let hole = at_hole traces machine trail f.runs f.goes low at there (subst (λ x. Traces traces memory visits held x) (sym same) t) in
    subst (Stepped memory traces words address machine trail) (sym told.1) hole
stepped {memory = memory} {visits = visits} {held = held} {words = words} {address = address} traces (Some word) machine before trail answer low at there f takes tells t =
    let told = takes f.history f.after in
    let leaves = subst (λ r. Leaves f.history r) f.run f.after.leaves in
    let adds = added leaves told.0.leaves in
    let beside = tells traces memory visits adds.0 held adds.1 (record { words = words; runs = f.runs; address_is = at; there = there; adds = adds.2 }) t in
    let word_added = at_word traces machine trail (reply (Some word) told.0.run) f.runs f.goes low at there adds.2 beside told.0 adds.3 (sym (ap (reply (Some word)) adds.3)) in
    subst (Stepped memory traces words address machine trail) (sym told.1) word_added

-- only a low byte is answered by none
pub is_low : (step : Step) (picture : List Stroke) → answer_by step picture ≡ None → step ≡ Low
is_low Low picture is = refl
is_low Word picture is = absurd (cc)
is_low Done picture is = absurd (cc)
is_low (Broke fault) picture is = absurd (cc)

-- the answer to a hole
pub takes_hole : {T E : Type 0} (answer : T → Option Reply) (result : Result T E) (old new : Machine) (word : Option ℕ) → word ≡ None
    → IfOk result (λ taken. (history : List Told) (low : Option ℕ) → HasTaken old history low → Answers history (met low None) new (answer taken))
    → IfOk result (λ taken. TakesWord old word new (answer taken))
takes_hole answer (Ok taken) old new word none answers = subst (λ word. TakesWord old word new (answer taken)) (sym none) (λ history after. answers history None after)
takes_hole answer (Err refused) old new word none answers = tt

-- the answer to a word, after that to its low byte
pub takes_both : {T E : Type 0} (answer : T → Option Reply) (result : Result T E) (first_answer : Option Reply) (old middle new : Machine) (word : Option ℕ) (whole low high : ℕ) → word ≡ Some whole → low + 256 * high ≡ whole
    → ((history : List Told) (waiting : Option ℕ) → HasTaken old history waiting → Answers history (met waiting (Some low)) middle first_answer)
    → IfOk result (λ taken. (history : List Told) (waiting : Option ℕ) → HasTaken middle history waiting → Answers history (met waiting (Some high)) new (answer taken))
    → IfOk result (λ taken. TakesWord old word new (answer taken))
takes_both answer (Ok taken) first_answer old middle new word whole low high there sum first_answers answers =
    subst (λ word. TakesWord old word new (answer taken)) (sym (there ∙ ap Some (sym sum))) (λ history after. answers history (Some low) (first_answers history None after).0)
takes_both answer (Err refused) first_answer old middle new word whole low high there sum first_answers answers = tt

-- the answer to a word that is found in memory
pub steps : {E : Type 0} (result : Result Step E) (memory : ℕ → Option ℕ) (address : ℕ) (word : Option ℕ) (old new : Machine) (before trail : Trail) → memory address ≡ word
    → TracesWord address word before trail → IfOk result (λ step. TakesWord old word new (answer_by step new.picture))
    → IfOk result (λ step. Steps memory address old before new trail (answer_by step new.picture))
steps (Ok step) memory address word old new before trail there tells takes = λ traces words visits held low at f t.
    stepped traces word new before trail (answer_by step new.picture) low at there f takes tells t
steps (Err refused) memory address word old new before trail there tells takes = tt

-- a generator and a tracer follow a run
pub record Followed (traces : Bool) (memory : ℕ → Option ℕ) (words : ℕ) (machine : Machine) (trail : Trail) : Type 0 where
  pub visits : List Visit
  pub held : Option ℕ
  pub follows : FollowsRun memory machine words visits held
  pub tells : Traces traces memory visits held trail

-- from its start on
pub followed_first : (memory : ℕ → Option ℕ) (machine : Machine) (trail : Trail) → HasTaken machine (Start ∷ []) None → trail ≡ fresh trail.traces → Followed trail.traces memory 0 machine trail
followed_first memory machine trail after begins_fresh = record {
  visits = [];
  held = None;
  follows = record {
    history = Start ∷ [];
    after = after;
    run = leaves_same after.leaves (starts untold);
    runs = begins;
    goes = refl;
  };
  tells = record {
    flag = refl;
    beside = λ on. record {
      held_is = ap (λ t. t.held) begins_fresh;
      address_is = λ w e. no_word e;
      beam_is = ap (λ t. t.beam) begins_fresh;
      ran_is = ap (λ t. t.ran) begins_fresh;
    };
    silent = λ off. ap (λ t. t.ran) begins_fresh;
  };
}
  where
    no_word : {A : Type 0} {w : ℕ} → ◌≡◌ {A = Option ℕ} None (Some w) → A
    no_word e = absurd (cc)

-- what a step answers of a run that is followed
pub next_step : {traces : Bool} {memory : ℕ → Option ℕ} {words address : ℕ} {old : Machine} {before : Trail} (new : Machine) (trail : Trail) (answer : Option Reply) (f : Followed traces memory words old before)
    → words < 65536 → Some address ≡ wants f.follows.after.run → Steps memory address old before new trail answer → Stepped memory traces words address new trail answer
next_step {traces = traces} {words = words} {address = address} new trail answer f low at steps_on = steps_on traces words f.visits f.held low (wanted_is address f.follows at) f.follows f.tells

-- the run goes on
pub goes_further : {memory : ℕ → Option ℕ} {traces : Bool} {machine : Machine} {trail : Trail} (words address : ℕ) (step : Step) → (step ≡ Low) ⊎ (step ≡ Word)
    → Stepped memory traces words address machine trail (answer_by step machine.picture) → Followed traces memory (words + 1) machine trail
goes_further {memory = memory} {traces = traces} {machine = machine} {trail = trail} words address step (inl low) s =
    absurd (subst (λ t. Stepped memory traces words address machine trail (answer_by t machine.picture)) low s)
goes_further {memory = memory} {traces = traces} {machine = machine} {trail = trail} words address step (inr word) s =
    let next = subst (λ t. Stepped memory traces words address machine trail (answer_by t machine.picture)) word s in
    record { visits = next.0; held = next.1; follows = next.2; tells = next.3 }

-- a run that comes to a HALT ends with the picture that is taken then
pub ends_with : (memory : ℕ → Option ℕ) (traces : Bool) (words address : ℕ) (machine : Machine) (trail : Trail) (step : Step) (list : List Stroke) → step ≡ Done
    → list ≡ machine.picture → Stepped memory traces words address machine trail (answer_by step machine.picture)
    → TellsRun traces memory trail.ran (Complete (words + 1) list)
ends_with memory traces words address machine trail step list done is s =
    let ended = subst (λ t. Stepped memory traces words address machine trail (answer_by t machine.picture)) done s in
    subst (λ l. TellsRun traces memory trail.ran (Complete (words + 1) l)) (sym is) ended

-- so many words were followed
pub no_end : {traces : Bool} {memory : ℕ → Option ℕ} {words : ℕ} {machine : Machine} {trail : Trail} → words ≡ 65536 → Followed traces memory words machine trail
    → TellsRun traces memory trail.ran Endless
no_end {traces = traces} {memory = memory} all f = (f.visits, goes_on (subst (λ n. Runs memory n f.visits f.held) all f.follows.runs) f.follows.goes, recorded_of traces f.tells)
