-- Worked logs. In one a run reads bytes 2 and 3, then bytes 2 and 5 are written, and it reads byte 5.
use Rattle.std.proofs.Common.{◌≡◌, ℕ, ◌/◌, false, inl, inr, [], ◌∷◌, ◌++◌, refl, sym, subst, arith}
use Rattle.std.proofs.lemmas.Option.{none-some}
use Rattle.dvg_driver.specs.declared.action.Action.TheVariants.{Wrote}
use Rattle.dvg_log.specs.declared.event.Event.TheVariants.{Tick, Strobe, Fetch}
use Rattle.dvg_log.specs.declared.entry.Entry.TheVariants.{Acted, Started, Fetched, Done}
use Rattle.dvg_log.specs.Log.{Line, ◌⟼◌, Log, Throughout}
use Rattle.dvg_moment.specs.Moment.{told, Contradicts, Changes, HasChanged, StillStands, ReadsThen, OfOneMoment}
use Rattle.dvg_moment.specs.Judging.{IsTorn}
use Rattle.dvg_moment.proofs.LinesRead.{some_read, word_at}

abbrev pub begun : Log
begun = (Fetch ⟼ Fetched 1 0x0101) ∷ (Strobe ⟼ Started) ∷ []

abbrev pub written : Log
written = (Tick ⟼ Acted (Wrote 2 5)) ∷ begun

abbrev pub torn : Log
torn = (Fetch ⟼ Fetched 2 0x0701) ∷ (Tick ⟼ Acted (Wrote 5 7)) ∷ written

tails : {k l : Line} {ks ls : Log} → k ∷ ks ≡ l ∷ ls → (k ≡ l) × (ks ≡ ls)
tails e = (cc, cc)

-- byte 2 changes, which was read
changed_read : ¬ StillStands told written
changed_read s = s.0 2 (inl (some_read {byte = 1} refl)) (refl, omega arith, λ e. cc)

-- so the moment is before that, and then byte 5 changes before it is read
no_moment : (since moment : Log) → torn ≡ since ++ moment → StillStands told moment → Throughout (ReadsThen told moment) since → ⊥
no_moment [] moment e s r = let all = subst (StillStands told) (sym e) s in changed_read all.1.1
no_moment (a ∷ []) moment e s r = let all = subst (StillStands told) (sym (tails e).1) s in changed_read all.1
no_moment (a ∷ b ∷ since) moment e s r =
    let one = tails e in
    let two = tails one.1 in
    let P : Line → Line → Type 0 = λ k l. Throughout (ReadsThen told moment) (k ∷ l ∷ since) in
    let q : Throughout (ReadsThen told moment) ((Fetch ⟼ Fetched 2 0x0701) ∷ (Tick ⟼ Acted (Wrote 5 7)) ∷ since) =
    subst (λ k. P k (Tick ⟼ Acted (Wrote 5 7))) (sym one.0) (subst (λ l. P a l) (sym two.0) r) in
    let R : Log → Type 0 = λ log. Changes told 5 log (Acted (Wrote 5 7)) in
    q.0.1 5 (some_read {byte = 7} refl) (inl (subst R two.1 (refl, omega arith, λ e. cc)))

pub torn_run : IsTorn torn
torn_run = ((λ e. none-some _ (sym e)), λ m. no_moment m.0 m.1 m.2.split m.2.read_before m.2.read_since)

-- where byte 2 alone is written, and bytes 4 and 5 are read, the moment is before that
pub late_of_one : OfOneMoment told ((Fetch ⟼ Done 2 0xB000 []) ∷ written)
late_of_one = (
  (Fetch ⟼ Done 2 0xB000 []) ∷ (Tick ⟼ Acted (Wrote 2 5)) ∷ [],
  begun,
  record { split = refl; read_before = ((λ a h c. c), tt); read_since = (((λ e. cc), λ a r c. apart a (word_at false 2 0xB000 a r) c), (((λ e. cc), λ a r c. r refl), tt)) },
)
  where
    apart : (a : ℕ) → a / 2 ≡ 2 → HasChanged told a ((Tick ⟼ Acted (Wrote 2 5)) ∷ []) begun → ⊥
    apart a e (inl c) = let at = c.0 in omega arith
    apart a e (inr c) = c

-- byte 2 is read as 1, and was written as 5
pub reads_another : Contradicts ((Tick ⟼ Acted (Wrote 2 5)) ∷ (Strobe ⟼ Started) ∷ []) (Fetched 1 0x0101)
reads_another = inl (2, 1, 5, omega arith, refl, refl, λ e. cc)
