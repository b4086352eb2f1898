-- Options that are refused by no subcommand.
use Rattle.std.proofs.Common.{◌≡◌, ◌&&◌, ◌||◌, Bool, true, false, not, [], ◌∷◌, ℕ, List, Option, Some, None, ap, cond, codes, refl, sym}
use Rattle.std.specs.Prelude.{All, IfSome, is_some, nat_lt}
use Rattle.std.specs.Str.{bytes_eq}
use Rattle.std.specs.Cmp.Lexicographic.{same_text}
use Rattle.std.proofs.lemmas.List.Elements.{All-head, All-tail}
use Rattle.clap.specs.Words.{Kinds, Row, Text, first_of, subcommand_of}
use Rattle.dvg_args.specs.Options.{address_of, base_in, fault_in, form_by, gives, forms_wanted, list_fault, number_of, percent_of, rate_of, refused_by, render_fault, sets}
use Rattle.dvg_args.specs.Arguments.{dvg_app, options_fault}
use Rattle.dvg_args.specs.Laws.{GivesNoneRefused, UnrefusedOptions}

-- an option without a value has its default
none_given : {T : Type 0} (o : Option T) → is_some o ≡ false → o ≡ None
none_given None e = refl
none_given (Some x) e = cc

good_number : (id : Text) (least most default : ℕ) (rows : List Row) → is_some (first_of id rows) ≡ false → is_some (number_of id least most default rows) ≡ true
good_number id least most default rows e = rw (none_given _ e) refl

either : (b : Bool) (x y : Kinds) → x ≡ [] → y ≡ [] → cond b x y ≡ []
either true x y e f = e
either false x y e f = f

-- the test of a size and a rate
good_show : (clash svg scale rate percents rates : Bool) → clash ≡ false → scale ≡ false → rate ≡ false → percents ≡ true → rates ≡ true
    → refused_by clash (not svg && (scale || rate)) (percents && rates) ≡ []
good_show clash true scale rate percents rates a b c d e = rw (a, d, e) refl
good_show clash false scale rate percents rates a b c d e = rw (a, b, c, d, e) refl

-- what excludes an SVG isn't given, nor what excludes each instruction
no_clash : (svg all moves units : Bool) → svg ≡ false → moves ≡ false → units ≡ false → ((svg && all) || ((svg || all) && (moves || units))) ≡ false
no_clash false true false false a b c = refl
no_clash false false false false a b c = refl
no_clash false all true units a b c = cc
no_clash false all moves true a b c = cc
no_clash true all moves units a b c = cc

good_form : (half : Option Text) (table rom equates draft : Bool) → is_some half ≡ false → table ≡ false → rom ≡ false → equates ≡ false → draft ≡ false
    → refused_by (nat_lt 1 (forms_wanted (is_some half) table rom equates draft)) false (is_some (form_by table rom equates draft half)) ≡ []
good_form half table rom equates draft a b c d e = rw (none_given half a, b, c, d, e) refl

by_name : (b : Bool) (x : Kinds) → (b ≡ true → x ≡ []) → cond b x [] ≡ []
by_name true x e = e refl
by_name false x e = refl

good_base : (moments all : Bool) (base : Option Text) → all ≡ false → is_some base ≡ false → refused_by false (all && not moments) (is_some (base_in base)) ≡ []
good_base moments all base none ungiven = rw (none, none_given base ungiven) refl

four : (P : Text → Type 0) (a b c d : Text) → All P (a ∷ b ∷ c ∷ d ∷ []) → P a × P b × P c × P d
four P a b c d h =
    let g = All-tail P a (b ∷ c ∷ d ∷ []) h in
    let f = All-tail P b (c ∷ d ∷ []) g in
    (All-head P a (b ∷ c ∷ d ∷ []) h, All-head P b (c ∷ d ∷ []) g, All-head P c (d ∷ []) f, All-head P d [] (All-tail P c (d ∷ []) f))

five : (P : Text → Type 0) (a b c d e : Text) → All P (a ∷ b ∷ c ∷ d ∷ e ∷ []) → P a × P b × P c × P d × P e
five P a b c d e h =
    let more = four P b c d e (All-tail P a (b ∷ c ∷ d ∷ e ∷ []) h) in
    (All-head P a (b ∷ c ∷ d ∷ e ∷ []) h, more.0, more.1, more.2, more.3)

seven : (P : Text → Type 0) (a b c d e f g : Text) → All P (a ∷ b ∷ c ∷ d ∷ e ∷ f ∷ g ∷ []) → P a × P b × P c × P d × P e × P f × P g
seven P a b c d e f g h =
    let i = All-tail P a (b ∷ c ∷ d ∷ e ∷ f ∷ g ∷ []) h in
    let j = All-tail P b (c ∷ d ∷ e ∷ f ∷ g ∷ []) i in
    let more = four P d e f g (All-tail P c (d ∷ e ∷ f ∷ g ∷ []) j) in
    (All-head P a (b ∷ c ∷ d ∷ e ∷ f ∷ g ∷ []) h, All-head P b (c ∷ d ∷ e ∷ f ∷ g ∷ []) i, All-head P c (d ∷ e ∷ f ∷ g ∷ []) j, more.0, more.1, more.2, more.3)

none_refused : (name : Text) (rows : List Row) → GivesNoneRefused name rows → fault_in name rows ≡ []
none_refused name rows none =
    let set = seven (λ id. sets id rows ≡ false) (codes "svg") (codes "moves") (codes "units") (codes "table") (codes "rom") (codes "equates") (codes "draft") none.1 in
    let given = five (λ id. gives id rows ≡ false) (codes "at") (codes "scale") (codes "rate") (codes "half") (codes "base") none.2 in
    let percents : is_some (percent_of rows) ≡ true = good_number _ _ _ _ rows given.1 in
    let rates : is_some (rate_of rows) ≡ true = good_number _ _ _ _ rows given.2 in
    let free = no_clash _ (sets (codes "all") rows) _ _ set.0 set.1 set.2 in
    let drawn = good_show _ _ _ _ _ _ free given.1 given.2 percents rates in
    let played = good_show _ _ _ _ _ _ (ap (λ b. b && sets (codes "all") rows) set.0) given.1 given.2 percents rates in
    let listed : list_fault rows ≡ [] = ap (λ b. refused_by false false (not b || is_some (address_of rows))) given.0 in
    let rendered : render_fault rows ≡ [] = good_show false true false false _ _ refl refl refl percents rates in
    let laid = good_form _ _ _ _ _ given.3 set.3 set.4 set.5 set.6 in
    either (bytes_eq name (codes "list")) _ _ listed
    (either (bytes_eq name (codes "picture")) _ _ drawn
    (either (bytes_eq name (codes "play")) _ _ played
    (either (bytes_eq name (codes "render")) _ _ rendered
    (either (bytes_eq name (codes "lay")) _ _ laid
    (by_name (bytes_eq name (codes "torn")) _ (λ is. good_base _ _ _ (none.0 (same_text _ _ (sym is))) given.4))))))

met_refused : (met : Option (Text × List Row)) → IfSome met (λ m. GivesNoneRefused m.0 m.1) → options_fault met ≡ []
met_refused None none = refl
met_refused (Some m) none = none_refused m.0 m.1 none

pub unrefused_options : UnrefusedOptions
unrefused_options arguments none = met_refused (subcommand_of dvg_app arguments) none
