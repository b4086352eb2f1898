-- Sums of ticks, in numbers.
use Rattle.std.proofs.Common.{◌≡◌, ℕ, ◌+◌, ◌-◌, ◌<◌, ◌≤◌, arith}
use Rattle.dvg_cells_core.specs.Cells.{add}

pub few_more : (own : ℕ) → own ≤ 2 → own - 0 ≤ 2
few_more own few = omega arith

pub taken_sum : (t b o o' g g' l late own v : ℕ) → o ≡ 0 → late ≡ b → o' ≡ 1 + own + v → g' ≡ g + (1 + (own + v)) → t + o ≡ g + l → t + b + o' ≡ g' + (l + late)
taken_sum t b o o' g g' l late own v none_owed is_late owes more before = omega arith

pub sum_on : (t b o o' g g' l late : ℕ) → b + o' ≡ o + late → g' ≡ g → t + o ≡ g + l → t + b + o' ≡ g' + (l + late)
sum_on t b o o' g g' l late change same before = omega arith

pub owed_sum : (left last count own v base : ℕ) → left ≡ own - 0 → last ≡ base + v → count ≡ base → 1 + left + (last - count) ≡ 1 + own + v
owed_sum left last count own v base left_is last_is count_is = omega arith

pub still_sum : (b o o' late : ℕ) → b ≡ 0 → o' ≡ o → late ≡ 0 → b + o' ≡ o + late
still_sum b o o' late none_now same none_late = omega arith

pub late_sum : (b o late : ℕ) → o ≡ 0 → late ≡ b → b + 0 ≡ o + late
late_sum b o late none_owed is_late = omega arith

pub own_sum : (b o left left' last last' count count' late : ℕ) → b ≡ 1 → 0 < left → left' ≡ left - 1 → last' ≡ last → count' ≡ count → late ≡ 0
    → o ≡ 1 + left + (last - count) → b + (1 + left' + (last' - count')) ≡ o + late
own_sum b o left left' last last' count count' late one more less last_is count_is none_late owes = omega arith

pub go_sum : (b o left left' last last' count count' late : ℕ) → b ≡ 1 → left ≡ 0 → left' ≡ left - 1 → last' ≡ last → count' ≡ count + 1 → count < last → late ≡ 0
    → o ≡ 1 + left + (last - count) → b + (1 + left' + (last' - count')) ≡ o + late
go_sum b o left left' last last' count count' late one none_left less last_is count_is more none_late owes = omega arith

pub end_sum : (b o left last count late : ℕ) → b ≡ 1 → left ≡ 0 → count ≡ last → late ≡ 0 → o ≡ 1 + left + (last - count) → b + 0 ≡ o + late
end_sum b o left last count late one none_left over none_late owes = omega arith

pub begin_sum : (o left last count g : ℕ) → o ≡ 1 + left + (last - count) → left ≡ 1 → count ≡ last → g ≡ 2 → 0 + o ≡ g + 0
begin_sum o left last count g owes left_is over gives = omega arith

pub finish_sum : (n o left last count late r h w : ℕ) → o ≡ 1 + left + (last - count) → left ≡ 0 → count ≡ last → h ≡ 0 → w ≡ 0
    → n + o ≡ 1 + r + h + w + late → n ≡ r + late
finish_sum n o left last count late r h w owes none_left over no_word no_byte sum = omega arith

pub add_one : (count last : ℕ) → count < last → last ≤ 1024 → add 11 count 1 ≡ count + 1
add_one count last less small = omega arith

pub few_less : (left left' : ℕ) → left ≤ 2 → left' ≡ left - 1 → left' ≤ 2
few_less left left' few is = omega arith

pub none_less : (left left' : ℕ) → left ≡ 0 → left' ≡ left - 1 → left' ≡ 0
none_less left left' none_left is = omega arith

pub within : (count count' last last' : ℕ) → count' ≡ count + 1 → last' ≡ last → count < last → count' ≤ last'
within count count' last last' is last_is less = omega arith

pub is_over : (count last base v : ℕ) → v ≡ 0 → last ≡ base + v → count ≡ base → count ≡ last
is_over count last base v none_more last_is count_is = omega arith

pub goes_less : (count last base v : ℕ) → 0 < v → last ≡ base + v → count ≡ base → count < last
goes_less count last base v more last_is count_is = omega arith
