-- Numbers that are counted on in place: nines at the end become zeros, and the digit before them one more.
use Rattle.std.proofs.Common.{◌≡◌, ℕ, zero, suc, ◌+◌, ◌-◌, ◌/◌, ◌%◌, ◌^◌, ◌<◌, ◌≤◌, List, [], ◌∷◌, ◌++◌, length, set}
use Rattle.std.proofs.Common.{get_or, take, drop, replicate, decimal, refl, sym, ap, ◌∙◌, ⊎_elim, subst, arith}
use Rattle.std.proofs.Common.{append-nil, append_assoc, length-append}
use Rattle.std.proofs.lemmas.Bool.{cases_lt}
use Rattle.std.proofs.lemmas.Fmt.{decimal_digit, decimal_step, length-decimal-le}
use Rattle.std.proofs.lemmas.List.{get_or_append_left, length-replicate, length-take-le, same_from_push, set_at}
use Rattle.std.proofs.lemmas.List.{take-append-drop, take_all, take_at, take_more}
use Rattle.dvg_print.specs.Numbering.{CountsUp}

-- the number after one that ends with a lower digit than 9
next_digit : (n d : ℕ) (front : List ℕ) → n + 1 < 2 ^ 64 → decimal n ≡ front ++ d ∷ [] → d < 57
    → decimal (n + 1) ≡ front ++ (d + 1) ∷ []
next_digit n d front small is low = ⊎_elim short long (cases_lt n 10)
  where
    short : n < 10 → decimal (n + 1) ≡ front ++ (d + 1) ∷ []
    short few =
        let same = same_from_push [] front (48 + n) d (sym (decimal_digit n few) ∙ is) in
        let more : 48 + (n + 1) ≡ d + 1 = (let digit = same.1 in omega (arith, digit)) in
        decimal_digit (n + 1) (let digit = same.1 in omega (arith, digit, low))
        ∙ ap (λ xs. xs ++ (48 + (n + 1)) ∷ []) same.0 ∙ ap (λ x. front ++ x ∷ []) more

    long : 10 ≤ n → decimal (n + 1) ≡ front ++ (d + 1) ∷ []
    long many =
        let same = same_from_push (decimal (n / 10)) front (48 + n % 10) d
        (sym (decimal_step n many (omega (arith, small))) ∙ is) in
        let digit = same.1 in
        let tens : (n + 1) / 10 ≡ n / 10 = omega (arith, digit, low) in
        let more : 48 + (n + 1) % 10 ≡ d + 1 = omega (arith, digit, low) in
        decimal_step (n + 1) (omega (arith, many)) small ∙ ap (λ k. decimal k ++ (48 + (n + 1) % 10) ∷ []) tens
        ∙ ap (λ xs. xs ++ (48 + (n + 1) % 10) ∷ []) same.0 ∙ ap (λ x. front ++ x ∷ []) more

-- the last digit of a number, and those before it
pub last_digit : (n d : ℕ) (front : List ℕ) → n < 2 ^ 64 → decimal n ≡ front ++ d ∷ [] → d ≡ 48 + n % 10
last_digit n d front small is = ⊎_elim short long (cases_lt n 10)
  where
    short : n < 10 → d ≡ 48 + n % 10
    short few =
        let same = same_from_push [] front (48 + n) d (sym (decimal_digit n few) ∙ is) in
        let digit : 48 + n ≡ d = same.1 in
        omega arith

    long : 10 ≤ n → d ≡ 48 + n % 10
    long many =
        let same = same_from_push (decimal (n / 10)) front (48 + n % 10) d (sym (decimal_step n many small) ∙ is) in
        sym same.1

pub split_digits : (n : ℕ) (front : List ℕ) → 10 ≤ n → n < 2 ^ 64 → front ≡ decimal (n / 10)
    → front ++ (48 + n % 10) ∷ [] ≡ decimal n
split_digits n front many small is = ap (λ xs. xs ++ (48 + n % 10) ∷ []) is ∙ sym (decimal_step n many small)

pub one_digit : (n : ℕ) → n < 10 → (48 + n % 10) ∷ [] ≡ decimal n
one_digit n few =
    let same : n % 10 ≡ n = omega arith in
    ap (λ d. (48 + d) ∷ []) same ∙ sym (decimal_digit n few)

-- a lower last digit than 9 becomes one more
pub more_at_end : (n d : ℕ) (front : List ℕ) → n + 1 < 2 ^ 64 → front ++ d ∷ [] ≡ decimal n → d < 57
    → front ++ (d + 1) ∷ [] ≡ decimal (n + 1)
more_at_end n d front small is low = sym (next_digit n d front small (sym is) low)

-- any other is a nine
pub nine_at_end : (n d : ℕ) (front : List ℕ) → n + 1 < 2 ^ 64 → front ++ d ∷ [] ≡ decimal n → 57 ≤ d
    → (n % 10 ≡ 9) × (front ++ 57 ∷ [] ≡ decimal n)
nine_at_end n d front small is high =
    let last : d ≡ 48 + n % 10 = last_digit n d front (omega (arith, small)) (sym is) in
    let nine : 57 ≡ d = omega (arith, last, high) in
    (omega (arith, last, high), ap (λ x. front ++ x ∷ []) nine ∙ is)

-- the number before one that doesn't end with a zero
fewer_at_end : (n d : ℕ) (front : List ℕ) → n < 2 ^ 64 → front ++ d ∷ [] ≡ decimal n → 48 < d
    → decimal (n - 1) ≡ front ++ (d - 1) ∷ []
fewer_at_end n d front small is high = ⊎_elim short long (cases_lt n 10)
  where
    last : d ≡ 48 + n % 10
    last = last_digit n d front small (sym is)

    short : n < 10 → decimal (n - 1) ≡ front ++ (d - 1) ∷ []
    short few =
        let same = same_from_push [] front (48 + n) d (sym (decimal_digit n few) ∙ sym is) in
        let less : 48 + (n - 1) ≡ d - 1 = omega (arith, last, high, few) in
        decimal_digit (n - 1) (omega (arith, few))
        ∙ ap (λ xs. xs ++ (48 + (n - 1)) ∷ []) same.0 ∙ ap (λ x. front ++ x ∷ []) less

    long : 10 ≤ n → decimal (n - 1) ≡ front ++ (d - 1) ∷ []
    long many =
        let same = same_from_push (decimal (n / 10)) front (48 + n % 10) d
        (sym (decimal_step n many small) ∙ sym is) in
        let tens : (n - 1) / 10 ≡ n / 10 = omega (arith, last, high) in
        let less : 48 + (n - 1) % 10 ≡ d - 1 = omega (arith, last, high) in
        decimal_step (n - 1) (omega (arith, last, high, many)) (omega (arith, small))
        ∙ ap (λ k. decimal k ++ (48 + (n - 1) % 10) ∷ []) tens
        ∙ ap (λ xs. xs ++ (48 + (n - 1) % 10) ∷ []) same.0 ∙ ap (λ x. front ++ x ∷ []) less

-- a line that begins with the number before begins with the number itself, once its last digit is put in
pub digit_put : (n d k : ℕ) (front rest line : List ℕ) → n < 2 ^ 64 → front ++ d ∷ [] ≡ decimal n → 48 < d
    → length front ≡ k → line ≡ decimal (n - 1) ++ rest
    → (k < length line) × (set line k d ≡ decimal n ++ rest)
digit_put n d k front rest line small is high here begins =
    let whole : line ≡ front ++ (d - 1) ∷ rest =
    begins ∙ ap (λ l. l ++ rest) (fewer_at_end n d front small is high) ∙ append_assoc front ((d - 1) ∷ []) rest in
    let size = ap length whole ∙ length-append front ((d - 1) ∷ rest) in (
      omega (arith, size, here),
      ap (λ l. set l k d) whole ∙ set_at front (d - 1) rest d k here ∙ sym (append_assoc front (d ∷ []) rest)
          ∙ ap (λ l. l ++ rest) is,
    )

-- an item that is put into the front of a list
pub take_set : (n : ℕ) (xs : List ℕ) (i y : ℕ) → take n (set xs i y) ≡ set (take n xs) i y
take_set zero xs i y = refl
take_set (suc n) [] i y = refl
take_set (suc n) (x ∷ xs) zero y = refl
take_set (suc n) (x ∷ xs) (suc i) y = ap (λ l. x ∷ l) (take_set n xs i y)

-- some items before k of one kind, and one more at the end
pushed : (front : List ℕ) (d x k : ℕ) → front ++ d ∷ replicate (suc k) x ≡ (front ++ d ∷ replicate k x) ++ x ∷ []
pushed front d x k =
    ap (λ xs. front ++ d ∷ xs) (sym (more k)) ∙ sym (append_assoc front (d ∷ replicate k x) (x ∷ []))
  where
    more : (n : ℕ) → replicate n x ++ x ∷ [] ≡ replicate (suc n) x
    more zero = refl
    more (suc n) = ap (λ xs. x ∷ xs) (more n)

-- the number after one that ends with k nines
carried : (k n d : ℕ) (front : List ℕ) → n + 1 < 2 ^ 64 → decimal n ≡ front ++ d ∷ replicate k 57 → d < 57
    → decimal (n + 1) ≡ front ++ (d + 1) ∷ replicate k 48
carried zero n d front small is low = next_digit n d front small is low
carried (suc k) n d front small is low = ⊎_elim short (long (carried k (n / 10) d front)) (cases_lt n 10)
  where
    ends : decimal n ≡ (front ++ d ∷ replicate k 57) ++ 57 ∷ []
    ends = is ∙ pushed front d 57 k

    short : n < 10 → decimal (n + 1) ≡ front ++ (d + 1) ∷ replicate (suc k) 48
    short few =
        let same = same_from_push [] (front ++ d ∷ replicate k 57) (48 + n) 57 (sym (decimal_digit n few) ∙ ends) in
        let none = ap length same.0 in
        absurd (let len = length-append front (d ∷ replicate k 57) in omega (arith, none, len))

    long : (n / 10 + 1 < 2 ^ 64 → decimal (n / 10) ≡ front ++ d ∷ replicate k 57 → d < 57
        → decimal (n / 10 + 1) ≡ front ++ (d + 1) ∷ replicate k 48)
        → 10 ≤ n → decimal (n + 1) ≡ front ++ (d + 1) ∷ replicate (suc k) 48
    long shorter many =
        let same = same_from_push (decimal (n / 10)) (front ++ d ∷ replicate k 57) (48 + n % 10) 57
        (sym (decimal_step n many (omega (arith, small))) ∙ ends) in
        let nine = same.1 in
        let tens : (n + 1) / 10 ≡ n / 10 + 1 = omega (arith, nine) in
        let ones : 48 + (n + 1) % 10 ≡ 48 = omega (arith, nine) in
        decimal_step (n + 1) (omega (arith, many)) small ∙ ap (λ t. decimal t ++ (48 + (n + 1) % 10) ∷ []) tens
        ∙ ap (λ o. decimal (n / 10 + 1) ++ o ∷ []) ones
        ∙ ap (λ xs. xs ++ 48 ∷ []) (shorter (omega (arith, small)) same.0 low)
        ∙ sym (pushed front (d + 1) 48 k)

-- so far: of the first bytes, this many, those from `at` on were nines and are zeros
pub record Carrying (old bytes : List ℕ) (count at : ℕ) : Type 0 where
  pub front : List ℕ
  pub nines : ℕ
  pub here : length front ≡ at
  pub all : at + nines ≡ count
  pub were : take count old ≡ front ++ replicate nines 57
  pub now : bytes ≡ front ++ (replicate nines 48 ++ drop count old)

pub none_carried : (old : List ℕ) (count : ℕ) → count ≤ length old → Carrying old old count count
none_carried old count inside = record {
  front = take count old;
  nines = 0;
  here = length-take-le count old inside;
  all = omega arith;
  were = sym (append-nil (take count old));
  now = sym (take-append-drop count old);
}

-- the last byte of the front, and those before it
last_of : (front rest : List ℕ) (at : ℕ) → length front ≡ at → 0 < at
    → front ≡ take (at - 1) front ++ get_or (front ++ rest) (at - 1) 0 ∷ []
last_of front rest at here some =
    let end : at - 1 + 1 ≡ at = omega arith in
    sym (take_all at front (omega (arith, here)))
    ∙ sym (ap (λ n. take n front) end)
    ∙ take_more front (at - 1) 0 (omega (arith, here, some))
    ∙ ap (λ d. take (at - 1) front ++ d ∷ [])
    (sym (get_or_append_left front rest 0 (at - 1) (omega (arith, here, some))))

module _ (old bytes : List ℕ) (count at : ℕ) (so_far : Carrying old bytes count at) (some : 0 < at) where
  abbrev zeros : List ℕ
  zeros = replicate so_far.nines 48 ++ drop count old

  abbrev before : List ℕ
  before = take (at - 1) so_far.front

  abbrev digit : ℕ
  digit = get_or bytes (at - 1) 0

  split : so_far.front ≡ before ++ digit ∷ []
  split = last_of so_far.front zeros at so_far.here some
      ∙ ap (λ bs. before ++ get_or bs (at - 1) 0 ∷ []) (sym so_far.now)

  len : length before ≡ at - 1
  len = length-take-le (at - 1) so_far.front (let here = so_far.here in omega (arith, here))

  ones : take count old ≡ before ++ digit ∷ replicate so_far.nines 57
  ones = so_far.were ∙ ap (λ xs. xs ++ replicate so_far.nines 57) split
      ∙ append_assoc before (digit ∷ []) (replicate so_far.nines 57)

  put : (x : ℕ) → set bytes (at - 1) x ≡ before ++ x ∷ zeros
  put x =
      let are : bytes ≡ before ++ digit ∷ zeros = so_far.now ∙ ap (λ xs. xs ++ zeros) split
      ∙ append_assoc before (digit ∷ []) zeros in
      ap (λ bs. set bs (at - 1) x) are ∙ set_at before digit zeros x (at - 1) len

  -- one more nine
  pub one_carried : digit ≡ 57 → Carrying old (set bytes (at - 1) 48) count (at - 1)
  one_carried nine = record {
    front = before;
    nines = suc so_far.nines;
    here = len;
    all = (let all = so_far.all in omega (arith, all, some));
    were = ones ∙ ap (λ d. before ++ d ∷ replicate so_far.nines 57) nine;
    now = put 48;
  }

  -- one more in place of another digit
  abbrev more : List ℕ
  more = before ++ (digit + 1) ∷ replicate so_far.nines 48

  parts : set bytes (at - 1) (digit + 1) ≡ more ++ drop count old
  parts = put (digit + 1) ∙ sym (append_assoc before ((digit + 1) ∷ replicate so_far.nines 48) (drop count old))

  size : length more ≡ count
  size =
      let all = so_far.all in
      let add = length-append before ((digit + 1) ∷ replicate so_far.nines 48) in
      let rep = length-replicate {A = ℕ} so_far.nines 48 in
      omega (arith, len, all, add, rep, some)

  pub counts_up : digit < 57 → CountsUp (take count old) (take count (set bytes (at - 1) (digit + 1)))
  counts_up low n small is =
      let were : decimal n ≡ before ++ digit ∷ replicate (suc so_far.nines) 57 =
      sym is ∙ ap (λ xs. xs ++ 57 ∷ []) ones ∙ sym (pushed before digit 57 so_far.nines) in
      ap (λ xs. xs ++ 48 ∷ []) (ap (take count) parts ∙ take_at more (drop count old) count size)
      ∙ sym (carried (suc so_far.nines) n digit before small were low ∙ pushed before (digit + 1) 48 so_far.nines)

-- the digits of a number of 64 bits
pub few_digits : (number : ℕ) (text : List ℕ) → number < 2 ^ 64 → text ≡ decimal number → length text ≤ 20
few_digits number text small is =
    subst (λ l. length l ≤ 20) (sym is) (length-decimal-le 20 number (omega arith) (omega (arith, small)) small)
