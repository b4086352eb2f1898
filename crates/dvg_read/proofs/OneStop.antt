-- The text of a draft has one fault at most, and none where it denotes something.
use Rattle.std.proofs.Common.{◌≡◌, ◌<◌, ℕ, List, [], ◌∷◌, ◌++◌, length, refl, sym, ap, subst, arith}
use Rattle.dvg_frame.specs.declared.op.OpKind.{OpKind}
use Rattle.dvg_read.specs.declared.fault.TextFault.{TextFault}
use Rattle.dvg_read.specs.declared.fault.TextFault.TheVariants.{TooLong, Syntax, Full}
use Rattle.dvg_read.specs.Texts.{unpassed}
use Rattle.dvg_read.specs.RomTexts.{RomText}
use Rattle.dvg_read.specs.DraftTexts.{Denotes, HasDraftFault, IsFineDraft, DraftMeetsFull, DraftMeetsSyntax, SpellsDraft}
use Rattle.dvg_read.proofs.FirstStop.{StopsAt, never_stops, one_stop, too_short}
use Rattle.dvg_read.proofs.DraftSteps.{fine_front, one_spelled}

abbrev syntax_stops : {text : List ℕ} {n : ℕ} → DraftMeetsSyntax text n → StopsAt IsFineDraft text n
syntax_stops m = record { before = m.before; line = m.line; reaches = m.reaches; wrong = λ fine. m.wrong fine.rom fine.ops fine.spelled }

too_many : {rom : RomText} {ops : List OpKind} {ls : List (List ℕ)} → SpellsDraft rom ops ls → 511 < length ops → ¬ IsFineDraft ls
too_many right over fine = let same = (one_spelled right fine.spelled).1 in let count = ap length same in let few = fine.count in omega arith

abbrev full_stops : {text : List ℕ} {n : ℕ} → DraftMeetsFull text n → StopsAt IsFineDraft text n
full_stops m = record { before = m.before; line = m.line; reaches = m.reaches; wrong = too_many m.right m.over }

same_stop : {text : List ℕ} {m n : ℕ} (a : StopsAt IsFineDraft text m) (b : StopsAt IsFineDraft text n) → (a.before ≡ b.before) × (a.line ≡ b.line) × (n ≡ m)
same_stop a b = one_stop IsFineDraft fine_front a b

not_both : {text : List ℕ} {m n : ℕ} → DraftMeetsSyntax text m → DraftMeetsFull text n → ⊥
not_both s f =
    let same = same_stop (syntax_stops s) (full_stops f) in
    s.wrong f.rom f.ops (subst (λ line. SpellsDraft f.rom f.ops (unpassed s.before ++ line ∷ [])) (sym same.1) (subst (λ before. SpellsDraft f.rom f.ops (unpassed before ++ f.line ∷ [])) (sym same.0) f.right))

-- a text has one fault at most
pub one_text_fault : (text : List ℕ) (one other : TextFault) → HasDraftFault text one → HasDraftFault text other → other ≡ one
one_text_fault text TooLong TooLong a b = refl
one_text_fault text TooLong (Syntax n) a b = absurd (too_short (syntax_stops b) a)
one_text_fault text TooLong (Full n) a b = absurd (too_short (full_stops b) a)
one_text_fault text (Syntax m) TooLong a b = absurd (too_short (syntax_stops a) b)
one_text_fault text (Syntax m) (Syntax n) a b = ap Syntax (same_stop (syntax_stops a) (syntax_stops b)).2
one_text_fault text (Syntax m) (Full n) a b = absurd (not_both a b)
one_text_fault text (Full m) TooLong a b = absurd (too_short (full_stops a) b)
one_text_fault text (Full m) (Syntax n) a b = absurd (not_both b a)
one_text_fault text (Full m) (Full n) a b = ap Full (same_stop (full_stops a) (full_stops b)).2
one_text_fault text TooLong _ a b = absurd b
one_text_fault text (Syntax m) _ a b = absurd b
one_text_fault text (Full m) _ a b = absurd b
one_text_fault text _ _ a b = absurd a

never_at_fault : {text : List ℕ} {n : ℕ} {rom : RomText} {F : List OpKind} → Denotes text rom F → StopsAt IsFineDraft text n → ⊥
never_at_fault {rom = rom} {F = F} d s = never_stops IsFineDraft fine_front (record { rom = rom; ops = F; spelled = d.spelled; count = d.count }) s

-- a text that denotes something has no fault
pub no_fault_beside : (text : List ℕ) (rom : RomText) (F : List OpKind) → Denotes text rom F → (fault : TextFault) → ¬ HasDraftFault text fault
no_fault_beside text rom F d TooLong h = let short = d.short in omega arith
no_fault_beside text rom F d (Syntax n) h = never_at_fault d (syntax_stops h)
no_fault_beside text rom F d (Full n) h = never_at_fault d (full_stops h)
no_fault_beside text rom F d _ h = h
