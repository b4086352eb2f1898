-- The subcommands that the program's command can match.
use Rattle.std.proofs.Common.{◌≡◌, ◌∙◌, ◌⊎◌, ◌&&◌, ◌||◌, inl, inr, Bool, true, false, not, cond, codes, List, [], ◌∷◌, ℕ, find, subst, sym, Option, Some, None, option_map, is_some, refl, ap, fold, true≢false}
use Rattle.std.specs.Prelude.{Box, IfSome}
use Rattle.std.specs.Str.{bytes_eq}
use Rattle.std.specs.Cmp.Lexicographic.{same_text}
use Rattle.clap.specs.Lexer.{long_of, short_of}
use Rattle.clap.specs.Words.{App, Row, Rule, Shape, Text, built, is_simple, is_simple_and_free, fault_of, subcommand_of, subcommand_rows}
use Rattle.clap.specs.Simple.{argument_words, entered, label_of, names_of, rows_at}
use Rattle.clap.specs.Faults.{other_fault, step_fault, walk_fault, word_fault}
use Rattle.clap.specs.Kinds.{Kinds, or_else}
use Rattle.clap.specs.Walk.{Held, Names, Outcome, Step, Waiting, Walk, after_flag, after_step, answers_to, arg_by_index, done, idle, long_or_other, next, nothing_held, option, plain, plain_word, positional, refused, short_or_plain, stop_after, subcommand, subcommand_met, subcommand_or_other, to_positional, trailing, value, waits, walk_from, walked, walked_from, word_met}
use Rattle.clap.specs.declared.error.kind.ErrorKind.{ErrorKind}
use Rattle.clap.specs.declared.parser.matches.SubCommand.{SubCommand}
use Rattle.clap.specs.declared.parser.matches.ArgMatches.TheViews.{out-SubCommand}
use Rattle.std.specs.Box.{box_value}
use Rattle.clap.proofs.OnLiterals.{clap_on_literals}
use Rattle.dvg_args.specs.Arguments.{IsJobName, dvg_app}

pub dvg_app_is_simple : is_simple dvg_app ≡ true
unfolding dvg_app clap_on_literals
dvg_app_is_simple = refl

pub dvg_app_is_free : is_simple_and_free dvg_app ≡ true
unfolding dvg_app clap_on_literals
dvg_app_is_free = refl

pub subcommand_is_required : dvg_app.top.subcommand_required ≡ true
unfolding dvg_app
subcommand_is_required = refl

-- ---- a walk with no fault stops at no subcommand `help`

abbrev IsNoHelp : Text → Type 0
IsNoHelp name = name ≡ codes "help" → ⊥

abbrev StopsAtNoHelp : Option (Text × List Text) → Type 0
StopsAtNoHelp None = Unit {0}
StopsAtNoHelp (Some p) = IsNoHelp p.0

abbrev MeetsNoHelp : Step → Type 0
MeetsNoHelp (subcommand name) = IsNoHelp name
MeetsNoHelp _ = Unit {0}

-- where two steps have no fault together, neither has one
first_none : (a b : Kinds) → or_else a b ≡ [] → a ≡ []
first_none [] b e = refl
first_none (k ∷ ks) b e = cc

second_none : (a b : Kinds) → or_else a b ≡ [] → b ≡ []
second_none [] b e = e
second_none (k ∷ ks) b e = cc

plain_meets : (c : List Rule) (waiting : Waiting) (argument : Text) (h : Held) → MeetsNoHelp (plain_word c waiting argument h).1
plain_meets c idle argument h = tt
plain_meets c (option id) argument h = tt
plain_meets c positional argument h = tt

flag_meets : (c : List Rule) (waiting : Waiting) (argument : Text) (h : Held) (o : Outcome) → MeetsNoHelp (after_flag c waiting argument h o).1
flag_meets c waiting argument h done = tt
flag_meets c waiting argument h (waits id) = tt
flag_meets c waiting argument h plain = plain_meets c waiting argument h
flag_meets c waiting argument h refused = plain_meets c waiting argument h

short_meets : (c : List Rule) (waiting : Waiting) (argument : Text) (flags : Option Text) (h : Held) → MeetsNoHelp (short_or_plain c waiting argument flags h).1
short_meets c waiting argument (Some flags) h = flag_meets c waiting argument _ _
short_meets c waiting argument None h = plain_meets c waiting argument h

long_meets : (c : List Rule) (waiting : Waiting) (argument : Text) (long : Option (Text × Option Text)) (h : Held) → MeetsNoHelp (long_or_other c waiting argument long h).1
long_meets c waiting argument (Some p) h = flag_meets c waiting argument _ _
long_meets c waiting argument None h = short_meets c waiting argument (short_of argument) h

dash_meets : (b : Bool) (x y : Held × Step) → MeetsNoHelp x.1 → MeetsNoHelp y.1 → MeetsNoHelp (cond b x y).1
dash_meets true x y h k = h
dash_meets false x y h k = k

not_faulted : (b d : Bool) (k : ErrorKind) (ks : Kinds) → d ≡ false → cond (b && not d) (k ∷ ks) [] ≡ [] → b ≡ false
not_faulted false d k ks enabled none = refl
not_faulted true false k ks enabled none = cc
not_faulted true true k ks enabled none = cc

is_no_help : (name : Text) → bytes_eq name (codes "help") ≡ false → IsNoHelp name
is_no_help name e same = true≢false (subst (λ t. bytes_eq t (codes "help") ≡ false) same e)

subcommand_meets : (s : Shape) (met : Option Text) (waiting : Waiting) (position : ℕ) (argument : Text) (h : Held) → s.disable_help_subcommand ≡ false
    → other_fault s met argument h ≡ [] → MeetsNoHelp (subcommand_or_other s.rules met waiting position argument h).1
subcommand_meets s (Some name) waiting position argument h enabled none = is_no_help name (not_faulted _ s.disable_help_subcommand _ _ enabled none)
subcommand_meets s None waiting position argument h enabled none = dash_meets (bytes_eq argument (45 ∷ 45 ∷ [])) (h, trailing position) (long_or_other s.rules waiting argument (long_of argument) h) tt (long_meets s.rules waiting argument (long_of argument) h)

argument_meets : (s : Shape) (names : Names) (is_trailing : Bool) (waiting : Waiting) (position : ℕ) (argument : Text) (h : Held) → s.disable_help_subcommand ≡ false
    → word_fault s names is_trailing waiting argument h ≡ [] → MeetsNoHelp (word_met s.rules names is_trailing waiting position argument h).1
argument_meets s names true waiting position argument h enabled none = tt
argument_meets s names false waiting position argument h enabled none = subcommand_meets s (subcommand_met names waiting argument) waiting position argument h enabled none

positional_stops : (c : List Rule) (a : Option Rule) (argument : Text) (w : Walk) (h : Held) → StopsAtNoHelp w.stopped → StopsAtNoHelp (to_positional c a argument w h).stopped
positional_stops c None argument w h k = k
positional_stops c (Some a) argument w h k = tt

step_stops : (c : List Rule) (argument : Text) (w : Walk) (h : Held) (step : Step) → MeetsNoHelp step → StopsAtNoHelp w.stopped → StopsAtNoHelp (after_step c argument w h step).stopped
step_stops c argument w h (next waiting) m k = k
step_stops c argument w h (trailing position) m k = k
step_stops c argument w h (subcommand name) m k = m
step_stops c argument w h value m k = positional_stops c (arg_by_index c w.position) argument w h k

turn_stops : (s : Shape) (names : Names) (w : Walk) (argument : Text) (stop : Option (Text × List Text)) → s.disable_help_subcommand ≡ false
    → cond (is_some stop) [] (or_else (word_fault s names w.is_trailing w.waiting argument w.held)
    (step_fault s w.position (word_met s.rules names w.is_trailing w.waiting w.position argument w.held).0 (word_met s.rules names w.is_trailing w.waiting w.position argument w.held).1)) ≡ []
    → StopsAtNoHelp stop → StopsAtNoHelp w.stopped → StopsAtNoHelp (walked_from s.rules names stop w argument).stopped
turn_stops s names w argument (Some p) enabled none k h = k
turn_stops s names w argument None enabled none k h =
    step_stops s.rules argument w _ _ (argument_meets s names w.is_trailing w.waiting w.position argument w.held enabled (first_none _ _ none)) h

walk_stops : (s : Shape) (names : Names) (w : Walk) (arguments : List Text) → s.disable_help_subcommand ≡ false → walk_fault s names w arguments ≡ []
    → StopsAtNoHelp w.stopped → StopsAtNoHelp (fold (walked s.rules names) w arguments).stopped
unfolding walk_fault walked
walk_stops s names w [] enabled none h = h
walk_stops s names w (argument ∷ rest) enabled none h =
    walk_stops s names (walked s.rules names w argument) rest enabled (second_none _ _ none) (turn_stops s names w argument w.stopped enabled (first_none _ _ none) h h)

enabled_help : (built dvg_app).top.disable_help_subcommand ≡ false
unfolding dvg_app clap_on_literals
enabled_help = refl

stops : (a : App) (arguments : List Text) → (built a).top.disable_help_subcommand ≡ false → fault_of a arguments ≡ []
    → StopsAtNoHelp (stop_after (built a).top.rules (names_of (built a)) (argument_words a arguments))
stops a arguments enabled none = walk_stops (built a).top (names_of (built a)) (walk_from nothing_held) (argument_words a arguments) enabled (first_none _ _ none) tt

-- ---- any other subcommand is a job

-- each shape that passes the test has the name of a job
abbrev HasNames : (Shape → Bool) → List Shape → Type 0
HasNames test [] = Unit {0}
HasNames test (s ∷ rest) = (IsJobName s.name ⊎ (test s ≡ false)) × HasNames test rest

chosen : {X Y : Type 0} (b : Bool) (x : X) (rest : Option X) (f : X → Y) (p : Y) → option_map f (cond b (Some x) rest) ≡ Some p
    → ((b ≡ true) × (f x ≡ p)) ⊎ (option_map f rest ≡ Some p)
chosen true x rest f p e = inl (refl, cc)
chosen false x rest f p e = inr e

found_name : (test : Shape → Bool) (arguments : List Text) (shapes : List Shape) → HasNames test shapes → (p : Text × List Row)
    → option_map (λ s. rows_at s arguments) (find test shapes) ≡ Some p → IsJobName p.0
found_name test arguments [] h p e = cc
found_name test arguments (s ∷ rest) h p e = elim (chosen (test s) s (find test rest) (λ t. rows_at t arguments) p e) [
  | inl here ↦ elim h.0 [
    | inl job ↦ subst IsJobName (ap (λ (q : Text × List Row). q.0) here.1) job
    | inr other ↦ absurd (true≢false (sym here.0 ∙ other))
  ]
  | inr there ↦ found_name test arguments rest h.1 p there
]

not_met : (name : Text) (b : Bool) → b ≡ bytes_eq (codes "help") name → IsNoHelp name → (b || false) ≡ false
not_met name true e differs = absurd (differs (sym (same_text _ _ e)))
not_met name false e differs = refl

has_names : (name : Text) → IsNoHelp name → HasNames (λ s. answers_to name (label_of s)) (built dvg_app).subs
unfolding dvg_app clap_on_literals
has_names name differs = (
  inl (inl refl),
  (
    inl (inr (inr (inr (inr (inr (inr (inl refl))))))),
    (
      inl (inr (inl refl)),
      (
        inl (inr (inr (inr (inr (inr (inr (inr (inl refl)))))))),
        (
          inl (inr (inr (inl refl))),
          (
            inl (inr (inr (inr (inr (inr (inl refl)))))),
            (
              inl (inr (inr (inr (inl refl)))),
              (
                inl (inr (inr (inr (inr (inl refl))))),
                (
                  inl (inr (inr (inr (inr (inr (inr (inr (inr (inl refl))))))))),
                  (
                    inl (inr (inr (inr (inr (inr (inr (inr (inr (inr refl))))))))),
                    (inr (not_met name _ refl differs), tt),
                  ),
                ),
              ),
            ),
          ),
        ),
      ),
    ),
  ),
)

named_in : (stop : Option (Text × List Text)) → StopsAtNoHelp stop → (p : Text × List Row) → entered (built dvg_app) stop ≡ Some p → IsJobName p.0
named_in None stop_is p e = cc
named_in (Some stop) stop_is p e = found_name (λ s. answers_to stop.0 (label_of s)) stop.1 _ (has_names stop.0 stop_is) p e

pub matched_name : (arguments : List Text) → fault_of dvg_app arguments ≡ [] → (p : Text × List Row) → subcommand_of dvg_app arguments ≡ Some p → IsJobName p.0
matched_name arguments none p e = named_in _ (stops dvg_app arguments enabled_help none) p e

-- the name and the rows that a parse entered
pub entered_as : {Z : Type 0} (met : Option (Box SubCommand Z)) (name : Text) (rows : List Row)
    → Some name ≡ option_map (λ b. (out-SubCommand (box_value b)).name.now) met → Some rows ≡ option_map (λ p. p.1) (subcommand_rows met)
    → subcommand_rows met ≡ Some (name, rows)
entered_as None name rows e f = cc
entered_as (Some b) name rows e f = cc

-- the name that a parse entered is that of a job
pub entered_name : (arguments : List Text) {Z : Type 0} (met : Option (Box SubCommand Z)) → fault_of dvg_app arguments ≡ []
    → subcommand_rows met ≡ subcommand_of dvg_app arguments → IfSome (option_map (λ b. (out-SubCommand (box_value b)).name.now) met) IsJobName
entered_name arguments None none e = tt
entered_name arguments (Some b) none e = matched_name arguments none _ (sym e)
