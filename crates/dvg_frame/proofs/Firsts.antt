-- The faults that are looked for first.
use Rattle.std.proofs.Common.{◌≡◌, ℕ, ◌<◌, ◌≤◌, List, [], ◌∷◌, length, Some, refl, sym, ◌∙◌, subst, arith}
use Rattle.std.specs.Prelude.{slice_get}
use Rattle.std.proofs.lemmas.Option.{slice_get_within}
use Rattle.dvg_code.specs.declared.instr.Instr.{Instr}
use Rattle.dvg_code.specs.declared.instr.Instr.TheVariants.{Labs}
use Rattle.dvg_gen.specs.Obeyed.{IsLabs}
use Rattle.dvg_frame.specs.declared.op.OpKind.{OpKind}
use Rattle.dvg_frame.specs.declared.op.OpKind.TheVariants.{Draw, CallRom, JumpRom, Call, Jump, Return, Halt as Stop}
use Rattle.dvg_frame.specs.declared.place.Place.TheVariants.{InFrame, InRom}
use Rattle.dvg_frame.specs.declared.place.Place.{Place}
use Rattle.dvg_frame.specs.declared.fault.FrameFault.{FrameFault}
use Rattle.dvg_frame.specs.declared.fault.FrameFault.TheVariants.{Empty, NoLabs, TooLong, Target, RunsOff, OutOfRom, TooDeep, NoCaller, Loops}
use Rattle.dvg_frame.specs.Layout.{size}
use Rattle.dvg_frame.specs.Steps.{op_act, Names, Bad, last, target, second, past, deep, bare, IsFine, Reached, BeginsWithLabs, labs, Closed, Misses, misses, IsWellFormed}
use Rattle.dvg_frame.specs.Faults.{Least, Refuses}
use Rattle.dvg_frame.specs.own.Firsts.{DrawsLabs, NamesNone}
use Rattle.dvg_frame.specs.FaultNumbers.{number_of}
use Rattle.dvg_frame.specs.own.Frames.{IsFrame}
use Rattle.dvg_frame.specs.Ops.{IsDraft}
use Rattle.dvg_frame.proofs.Sizes.{length-le-size}

-- operation 0 is a LABS exactly where the draft begins with one
labs_by_code : (instr : Instr) (ops : List OpKind) → IsLabs instr → BeginsWithLabs (Draw instr ∷ ops)
labs_by_code (Labs x y scale) ops is = labs
labs_by_code _ ops is = absurd is

labs_by_op : (op : OpKind) (ops : List OpKind) → DrawsLabs op → BeginsWithLabs (op ∷ ops)
labs_by_op (Draw instr) ops is = labs_by_code instr ops is
labs_by_op _ ops is = absurd is

op_by_labs : {op : OpKind} {ops : List OpKind} → BeginsWithLabs (op ∷ ops) → DrawsLabs op
op_by_labs labs = tt

pub begins_with : (F : List OpKind) (op kind : OpKind) → slice_get F 0 ≡ Some op → kind ≡ op → DrawsLabs kind → BeginsWithLabs F
begins_with [] op kind is kind_is labs_is = let within = slice_get_within [] 0 op is in absurd (omega arith)
begins_with (x ∷ xs) op kind is kind_is labs_is =
    let same : kind ≡ x = cc in
    labs_by_op x xs (subst DrawsLabs same labs_is)

pub begins_not : (F : List OpKind) (op kind : OpKind) → slice_get F 0 ≡ Some op → kind ≡ op → ¬ DrawsLabs kind → ¬ BeginsWithLabs F
begins_not [] op kind is kind_is not_labs = let within = slice_get_within [] 0 op is in absurd (omega arith)
begins_not (x ∷ xs) op kind is kind_is not_labs =
    let same : x ≡ kind = cc in
    λ begins. not_labs (subst DrawsLabs same (op_by_labs begins))

-- an operation names none of the draft exactly where it misses
none_named : (count : ℕ) (op : OpKind) → NamesNone count op → (j : ℕ) × Names (op_act op) (InFrame j) × (count ≤ j)
none_named count (Call k) none = (k, refl, none)
none_named count (Jump k) none = (k, refl, none)
none_named count _ none = absurd none

named_none : (count j : ℕ) (op : OpKind) → Names (op_act op) (InFrame j) → count ≤ j → NamesNone count op
named_none count j (Draw instr) named far = named
named_none count j (CallRom a) named far = let is : InRom a ≡ InFrame j = named in cc
named_none count j (JumpRom a) named far = let is : InRom a ≡ InFrame j = named in cc
named_none count j (Call k) named far = let is : InFrame k ≡ InFrame j = named in let same : k ≡ j = cc in omega arith
named_none count j (Jump k) named far = let is : InFrame k ≡ InFrame j = named in let same : k ≡ j = cc in omega arith
named_none count j Return named far = named
named_none count j Stop named far = named

pub misses_at : (F : List OpKind) (i count : ℕ) (op kind : OpKind) → slice_get F i ≡ Some op → kind ≡ op → count ≡ length F → NamesNone count kind → Misses F i
misses_at F i count op kind is kind_is count_is none =
    let (j, named, far) = none_named count kind none in
    misses is (subst (λ x. Names (op_act x) (InFrame j)) kind_is named) (omega arith)

miss_within : {F : List OpKind} {i : ℕ} → Misses F i → i < length F
miss_within {F} {i} (misses {op = op} is named far) = slice_get_within F i op is

pub no_miss : (F : List OpKind) (n : ℕ) → length F ≤ n → ((k : ℕ) → k < n → ¬ Misses F k) → (i : ℕ) → ¬ Misses F i
no_miss F n all none i miss = let within = miss_within miss in none i (omega arith) miss

miss_named : {F : List OpKind} {i : ℕ} (op : OpKind) → slice_get F i ≡ Some op → Misses F i → NamesNone (length F) op
miss_named {F} op is (misses {j = j} {op = other} other_is named far) =
    let same : other ≡ op = let two : Some other ≡ Some op = sym other_is ∙ is in cc in
    named_none (length F) j op (subst (λ x. Names (op_act x) (InFrame j)) same named) far

pub no_miss_at : (F : List OpKind) (i count : ℕ) (op kind : OpKind) → slice_get F i ≡ Some op → kind ≡ op → count ≡ length F → ¬ NamesNone count kind → ¬ Misses F i
no_miss_at F i count op kind is kind_is count_is some miss =
    some (subst (λ n. NamesNone n kind) (sym count_is) (subst (NamesNone (length F)) (sym kind_is) (miss_named op is miss)))

-- an operation of a draft without the faults 1 to 4 names none that is missing
pub names_some : (F : List OpKind) (i : ℕ) (op kind : OpKind) → IsWellFormed F → slice_get F i ≡ Some op → kind ≡ op → ¬ NamesNone (length F) kind
names_some F i op kind begins is kind_is none = begins.targets i (misses_at F i (length F) op kind is kind_is refl none)

-- what the looks at faults 1 to 4 show
pub too_long : (F : List OpKind) (words : ℕ) → words ≡ size F → 511 < words → 511 < size F
too_long F words words_is long = omega arith

pub long_list : (F : List OpKind) → 511 < length F → 511 < size F
long_list F long = let each = length-le-size F in omega arith

pub fits_by : (F : List OpKind) (words : ℕ) → words ≡ size F → words ≤ 511 → size F ≤ 511
fits_by F words words_is fits = omega arith

pub frame_by : (F : List OpKind) (op kind : OpKind) (words : ℕ) → IsDraft F → slice_get F 0 ≡ Some op → kind ≡ op → DrawsLabs kind → words ≡ size F → words ≤ 511
    → ((i : ℕ) → ¬ Misses F i) → IsFrame F
frame_by F op kind words draft is kind_is labs_is words_is fits none =
    record {
      draft = draft;
      begins = record { begins = begins_with F op kind is kind_is labs_is; fits = fits_by F words words_is fits; targets = none };
    }

-- the faults 1 to 4 hold at no pair
late_bad : {F : List OpKind} {R : List ℕ} {p : Place} {d : ℕ} {fault : FrameFault} → Bad F R p d fault → 4 < number_of fault
late_bad (last stands goes end) = omega arith
late_bad (target a stands named outside) = omega arith
late_bad (second is first outside) = omega arith
late_bad (past stands goes outside) = omega arith
late_bad (deep stands depth) = omega arith
late_bad (bare stands depth) = omega arith

-- and neither does a loop
early_bad : {F : List OpKind} {R : List ℕ} {p : Place} {d : ℕ} {fault : FrameFault} → Bad F R p d fault → number_of fault < 9
early_bad (last stands goes end) = omega arith
early_bad (target a stands named outside) = omega arith
early_bad (second is first outside) = omega arith
early_bad (past stands goes outside) = omega arith
early_bad (deep stands depth) = omega arith
early_bad (bare stands depth) = omega arith

-- the fault of the first reached pair that has one is picked
pub refuses_by : (F : List OpKind) (R : List ℕ) (fault : FrameFault) → IsWellFormed F → Least F R fault → Refuses F R fault
refuses_by F R Empty begins found = let late = late_bad found.bad in absurd (omega arith)
refuses_by F R NoLabs begins found = let late = late_bad found.bad in absurd (omega arith)
refuses_by F R TooLong begins found = let late = late_bad found.bad in absurd (omega arith)
refuses_by F R (Target i) begins found = let late = late_bad found.bad in absurd (omega arith)
refuses_by F R (RunsOff i) begins found = (begins, found)
refuses_by F R (OutOfRom p) begins found = (begins, found)
refuses_by F R (TooDeep p) begins found = (begins, found)
refuses_by F R (NoCaller p) begins found = (begins, found)
refuses_by F R Loops begins found = let early = early_bad found.bad in absurd (omega arith)

-- where each reached pair is fine, the draft has no fault
pub closed_by : (F : List OpKind) (R : List ℕ) → IsWellFormed F → ((p : Place) → (d : ℕ) → Reached F R p d → IsFine F R p d) → Closed F R
closed_by F R begins fine = record { begins = begins; fine = fine }
