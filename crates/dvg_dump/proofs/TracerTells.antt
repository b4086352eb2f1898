-- What a tracer tells of a word more.
use Rattle.std.proofs.Common.{◌≡◌, ℕ, List, [], ◌∷◌, ◌++◌, Option, Some, None, Bool, true, false, refl, sym, ap, ◌∙◌, subst}
use Rattle.std.specs.Prelude.{nat_eq, ◌&&◌, Result, Ok, Err, IfOk, length}
use Rattle.std.specs.Cmp.Lexicographic.{pointwise}
use Rattle.dvg_code.specs.declared.instr.Instr.{Instr}
use Rattle.dvg_code.specs.Cutting.{Fronts}
use Rattle.dvg_code.specs.Spelling.{IsFirst, canon, vctr, labs, halt, jsrl, rtsl, jmpl, svec}
use Rattle.dvg_gen.specs.Completing.{Completes}
use Rattle.dvg_gen.specs.Drawing.{moved}
use Rattle.dvg_gen.specs.Run.{Visit, on, next, wanted, beam_after, Adds, first, one, two, Runs, begins, fetches}
use Rattle.dvg_gen.specs.Told.{nothing}
use Rattle.dvg_dump.specs.declared.tracer.Spelled.{Spelled}
use Rattle.dvg_dump.specs.Traces.{is_word, stand_at, run_at, trace}
use Rattle.dvg_dump.specs.Tracing.{Trail, IsBeside, TracesWord, began, ran_by, taken_by, recorded, words_by}

-- the first word that a run holds stands at the next instruction's address
held_stands : {memory : ℕ → Option ℕ} {words first_word : ℕ} {visits : List Visit} {held : Option ℕ} → Runs memory words visits held → held ≡ Some first_word → memory (next visits) ≡ Some first_word
held_stands begins e = absurd (cc)
held_stands (fetches r g m (first p)) e = m ∙ e
held_stands (fetches r g m (one s)) e = absurd (cc)
held_stands (fetches r g m (two s)) e = absurd (cc)

one_stands : (memory : ℕ → Option ℕ) {place word : ℕ} (canonical : ℕ) → memory place ≡ Some word → pointwise nat_eq (canonical ∷ []) (word ∷ []) ≡ stand_at memory place (canonical ∷ [])
one_stands memory canonical there = ap (λ found. is_word found canonical && true) (sym there)

two_stand : (memory : ℕ → Option ℕ) {place held word : ℕ} (high low : ℕ) → memory place ≡ Some held → memory (on place 1) ≡ Some word
    → pointwise nat_eq (high ∷ low ∷ []) (held ∷ word ∷ []) ≡ stand_at memory place (high ∷ low ∷ [])
two_stand memory {place = place} {held = held} high low here there =
    ap (λ found. nat_eq high held && (is_word found low && true)) (sym there) ∙ ap (λ found. is_word found high && (is_word (memory (on place 1)) low && true)) (sym here)

-- whether what was fetched is canonical is whether the canonical words stand there
canonical_is : (memory : ℕ → Option ℕ) (place word : ℕ) (held : Option ℕ) (code : Instr) → ((first_word : ℕ) → held ≡ Some first_word → memory place ≡ Some first_word)
    → (held ≡ None → memory place ≡ Some word) → ((first_word : ℕ) → held ≡ Some first_word → memory (on place 1) ≡ Some word) → Completes held word code
    → pointwise nat_eq (canon code) (words_by held word) ≡ stand_at memory place (canon code)
canonical_is memory place word None code first_stands alone second (halt p q) = one_stands memory _ (alone refl)
canonical_is memory place word None code first_stands alone second (jsrl r p) = one_stands memory _ (alone refl)
canonical_is memory place word None code first_stands alone second (rtsl p q) = one_stands memory _ (alone refl)
canonical_is memory place word None code first_stands alone second (jmpl r p) = one_stands memory _ (alone refl)
canonical_is memory place word None code first_stands alone second (svec r p) = one_stands memory _ (alone refl)
canonical_is memory place word (Some held) code first_stands alone second (vctr r p q) = two_stand memory _ _ (first_stands _ refl) (second _ refl)
canonical_is memory place word (Some held) code first_stands alone second (labs r p q) = two_stand memory _ _ (first_stands _ refl) (second _ refl)

-- where the instruction began
began_is : {memory : ℕ → Option ℕ} {visits : List Visit} {held : Option ℕ} {trail : Trail} (address : ℕ) → IsBeside memory visits held trail → address ≡ wanted visits held
    → began trail.held address trail.address ≡ next visits
began_is {held = None} {trail = trail} address b at = ap (λ h. began h address trail.address) b.held_is ∙ at
began_is {held = Some first_word} {trail = trail} address b at = ap (λ h. began h address trail.address) b.held_is ∙ b.address_is first_word refl

-- an instruction more is recorded
recorded_more : {memory : ℕ → Option ℕ} {words word address : ℕ} {visits : List Visit} {held : Option ℕ} {code : Instr} (old new : Trail) → Runs memory words visits held
    → address ≡ wanted visits held → memory address ≡ Some word → IsBeside memory visits held old → Completes held word code
    → new ≡ taken_by (Some (record { code = code; canonical = pointwise nat_eq (canon code) (words_by old.held word) })) word (record old { address = began old.held address old.address })
    → IsBeside memory (record { place = next visits; code = code } ∷ visits) None new
recorded_more {memory = memory} {word = word} {address = address} {visits = visits} {held = held} {code = code} old new r at there b completes same =
    let before = beam_after nothing.first visits in
    let place = began_is address b at in
    let canonical = ap (λ h. pointwise nat_eq (canon code) (words_by h word)) b.held_is
    ∙ canonical_is memory (next visits) word held code (λ w e. held_stands r e) (λ e. ap memory (sym (at ∙ ap (wanted visits) e)) ∙ there) (λ w e. ap memory (sym (at ∙ ap (wanted visits) e)) ∙ there) completes in
    let newest = ap (λ a. run_at a code (pointwise nat_eq (canon code) (words_by old.held word)) old.beam) place
    ∙ ap (λ c. run_at (next visits) code c old.beam) canonical
    ∙ ap (λ p. run_at (next visits) code (stand_at memory (next visits) (canon code)) p) b.beam_is in
    record {
      held_is = ap (λ trail. trail.held) same;
      address_is = λ w e. no_word e;
      beam_is = ap (λ trail. trail.beam) same ∙ ap (λ p. moved p code) b.beam_is;
      ran_is = ap (λ trail. trail.ran) same ∙ ap (λ l. l ++ run_at (began old.held address old.address) code (pointwise nat_eq (canon code) (words_by old.held word)) old.beam ∷ []) b.ran_is ∙ ap (λ x. trace memory visits ++ x ∷ []) newest;
    }
  where
    no_word : {A : Type 0} {w : ℕ} → ◌≡◌ {A = Option ℕ} None (Some w) → A
    no_word e = absurd (cc)

-- a word more is recorded
module _ (found : Option Spelled) (address word : ℕ) (old new : Trail)
    (completed : (code : Instr) → Completes old.held word code → found ≡ Some (record { code = code; canonical = pointwise nat_eq (canon code) (words_by old.held word) }))
    (held_first : IsFirst word → old.held ≡ None → found ≡ None) (same : new ≡ taken_by found word (record old { address = began old.held address old.address })) where
  now_beside : {memory : ℕ → Option ℕ} {words : ℕ} {visits visits' : List Visit} {held held' : Option ℕ} → Runs memory words visits held → address ≡ wanted visits held → memory address ≡ Some word
      → Adds visits held word visits' held' → IsBeside memory visits held old → IsBeside memory visits' held' new
  now_beside {visits = visits} r at there (first p) b =
      let holds = same ∙ ap (λ f. taken_by f word (record old { address = began old.held address old.address })) (held_first p b.held_is) in
      record {
        held_is = ap (λ trail. trail.held) holds;
        address_is = λ w e. ap (λ trail. trail.address) holds ∙ began_is address b at;
        beam_is = ap (λ trail. trail.beam) holds ∙ b.beam_is;
        ran_is = ap (λ trail. trail.ran) holds ∙ b.ran_is;
      }
  now_beside r at there (one {code = code} s) b =
      let completes = subst (λ h. Completes h word code) (sym b.held_is) s in
      recorded_more old new r at there b s (same ∙ ap (λ f. taken_by f word (record old { address = began old.held address old.address })) (completed code completes))
  now_beside r at there (two {code = code} s) b =
      let completes = subst (λ h. Completes h word code) (sym b.held_is) s in
      recorded_more old new r at there b s (same ∙ ap (λ f. taken_by f word (record old { address = began old.held address old.address })) (completed code completes))

  same_flag : new.traces ≡ old.traces
  same_flag = ap (λ trail. trail.traces) same ∙ flag_of found
    where
      flag_of : (found : Option Spelled) → (taken_by found word (record old { address = began old.held address old.address })).traces ≡ old.traces
      flag_of None = refl
      flag_of (Some read) = refl

  pub traces_word : old.traces ≡ true → TracesWord address (Some word) old new
  traces_word traced = λ traces memory visits visits' held held' f t. record {
    flag = same_flag ∙ t.flag;
    beside = λ on. now_beside f.runs f.address_is f.there f.adds (t.beside on);
    silent = λ off. clash (sym traced ∙ t.flag ∙ off);
  }
    where
      clash : {A : Type 0} → true ≡ false → A
      clash e = absurd (cc)

-- what words that were decoded are read as
pub read_as : {E : Type 0} (words written : List ℕ) (found : Instr × ℕ) (equal : Bool) → ((instr : Instr) (count : ℕ) → Fronts words instr count → ◌≡◌ {A = Result (Instr × ℕ) E} (Ok found) (Ok (instr, count)))
    → written ≡ canon found.0 → equal ≡ pointwise nat_eq written words → (code : Instr) → Fronts words code (length words)
    → ◌≡◌ {A = Option Spelled} (Some (record { code = found.0; canonical = equal })) (Some (record { code = code; canonical = pointwise nat_eq (canon code) words }))
read_as {E} words written found equal only canon_is equal_is code fronts =
    let same = found_is (only code (length words) fronts) in
    ap (λ b. Some (record { code = found.0; canonical = b })) (equal_is ∙ ap (λ l. pointwise nat_eq l words) canon_is)
    ∙ ap (λ read. Some (record { code = read; canonical = pointwise nat_eq (canon read) words })) same
  where
    ok_is : {x y : Instr × ℕ} → ◌≡◌ {A = Result (Instr × ℕ) E} (Ok x) (Ok y) → x ≡ y
    ok_is e = cc

    found_is : {read : Instr × ℕ} → ◌≡◌ {A = Result (Instr × ℕ) E} (Ok found) (Ok read) → found.0 ≡ read.0
    found_is e = ap (λ p. p.0) (ok_is e)

-- an instruction that a word completes is recorded
pub recorded_word : {T E : Type 0} (result : Result T E) (read : Spelled) (found : Option Spelled) (address word : ℕ) (held : Option ℕ) (old middle new : Trail) → old.traces ≡ true → found ≡ Some read
    → middle ≡ record old { address = began old.held address old.address } → old.held ≡ held
    → ((code : Instr) → Completes held word code → found ≡ Some (record { code = code; canonical = pointwise nat_eq (canon code) (words_by held word) })) → (IsFirst word → held ≡ None → found ≡ None)
    → IfOk result (λ _. new ≡ recorded middle (ran_by middle read)) → IfOk result (λ _. TracesWord address (Some word) old new)
recorded_word (Ok done) read found address word held old middle new traced found_is middle_is held_is completed held_first tells =
    traces_word found address word old new
    (subst (λ h. (code : Instr) → Completes h word code → found ≡ Some (record { code = code; canonical = pointwise nat_eq (canon code) (words_by h word) })) (sym held_is) completed)
    (subst (λ h. IsFirst word → h ≡ None → found ≡ None) (sym held_is) held_first)
    (tells ∙ ap (λ t. recorded t (ran_by t read)) middle_is ∙ ap (λ f. taken_by f word (record old { address = began old.held address old.address })) (sym found_is))
    traced
recorded_word (Err refused) read found address word held old middle new traced found_is middle_is held_is completed held_first tells = tt

-- a word that wants a second one is held
pub held_word : (found : Option Spelled) (address word : ℕ) (held : Option ℕ) (old middle new : Trail) → old.traces ≡ true → found ≡ None
    → middle ≡ record old { address = began old.held address old.address } → old.held ≡ held
    → ((code : Instr) → Completes held word code → found ≡ Some (record { code = code; canonical = pointwise nat_eq (canon code) (words_by held word) })) → (IsFirst word → held ≡ None → found ≡ None)
    → new ≡ record middle { held = Some word } → TracesWord address (Some word) old new
held_word found address word held old middle new traced found_is middle_is held_is completed held_first holds =
    traces_word found address word old new
    (subst (λ h. (code : Instr) → Completes h word code → found ≡ Some (record { code = code; canonical = pointwise nat_eq (canon code) (words_by h word) })) (sym held_is) completed)
    (subst (λ h. IsFirst word → h ≡ None → found ≡ None) (sym held_is) held_first)
    (holds ∙ ap {A = Trail} (λ t. record t { held = Some word }) middle_is ∙ ap (λ f. taken_by f word (record old { address = began old.held address old.address })) (sym found_is))
    traced
