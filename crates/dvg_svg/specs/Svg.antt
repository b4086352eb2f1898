-- The text of pictures as SVG. What is written of one stroke is `path_line`, and 10 is LF.
use Rattle.std.specs.Prelude.{ℕ, zero, suc, ◌-◌, ◌*◌, ◌/◌, List, [], ◌∷◌, ◌++◌, length, flat_map, map, Vec}
use Rattle.std.specs.Prelude.{codes, decimal, Option, Some, None}
use Rattle.dvg_gen.specs.declared.stroke.Stroke.{Stroke}
use Rattle.dvg_print.specs.Svg.{path_line}
use Rattle.dvg_job.specs.declared.form.Show.{Show}

-- the side of a picture in pixels, by its size in percent
abbrev pub side : ℕ → ℕ
side percent = 1024 * percent / 100

-- how long one of several pictures is seen, in milliseconds, by how many there are in a second
abbrev pub seen : ℕ → ℕ
seen rate = 1000 / rate

-- texts, one after the other
abbrev pub concat : List (List ℕ) → List ℕ
concat = flat_map (λ text. text)

-- the line that begins the text
abbrev pub size_line : ℕ → List ℕ
size_line percent = concat (codes "<svg xmlns=\"http://www.w3.org/2000/svg\" width=\"" ∷ decimal (side percent)
    ∷ codes "\" height=\"" ∷ decimal (side percent)
    ∷ (codes "\" viewBox=\"-256 -256 524288 524288\">" ++ 10 ∷ []) ∷ [])

-- the line of a title, if there is one
abbrev pub title_line : Option (List ℕ) → List ℕ
title_line None = []
title_line (Some title) = concat (codes "<title>" ∷ title ∷ (codes "</title>" ++ 10 ∷ []) ∷ [])

-- the line of the background, over all that is seen
abbrev pub background_line : List ℕ
background_line = codes "<rect x=\"-256\" y=\"-256\" width=\"524288\" height=\"524288\"/>" ++ 10 ∷ []

-- the line that begins the strokes: y goes up, and a stroke is two screen units wide, white, and round at its ends
abbrev pub strokes_begin : List ℕ
strokes_begin = codes "<g transform=\"matrix(1 0 0 -1 0 523776)\" fill=\"none\" stroke=\"#fff\" "
    ++ codes "stroke-width=\"1024\" stroke-linecap=\"round\">" ++ 10 ∷ []

-- what comes before the strokes, but for the first line and the title
abbrev pub screen_lines : List ℕ
screen_lines = background_line ++ strokes_begin

-- the line that ends a group
abbrev pub group_end : List ℕ
group_end = codes "</g>" ++ 10 ∷ []

-- the lines that end the text
abbrev pub end_lines : List ℕ
end_lines = group_end ++ codes "</svg>" ++ 10 ∷ []

-- the lines that show the first picture in its turn, by the number of the last one: it is seen where nothing moves,
-- is hidden while others are seen, and comes again after the last one
abbrev pub first_turn : (rate last : ℕ) → List ℕ
first_turn rate last = concat (
    (codes "<g>" ++ 10 ∷ codes "<set id=\"p0\" attributeName=\"opacity\" to=\"1\" begin=\"0s;p") ∷ decimal last
    ∷ codes ".end\" dur=\"" ∷ decimal (seen rate)
    ∷ (codes "ms\"/>" ++ 10 ∷ codes "<set attributeName=\"visibility\" to=\"hidden\" begin=\"p0.end\" dur=\"")
    ∷ decimal (seen rate * last) ∷ (codes "ms\"/>" ++ 10 ∷ []) ∷ [])

-- the lines that show the picture after this one in its turn
abbrev pub later_turn : (rate before : ℕ) → List ℕ
later_turn rate before = concat (
    (codes "<g visibility=\"hidden\">" ++ 10 ∷ codes "<set id=\"p") ∷ decimal (suc before)
    ∷ codes "\" attributeName=\"visibility\" to=\"visible\" begin=\"p" ∷ decimal before
    ∷ codes ".end\" dur=\"" ∷ decimal (seen rate) ∷ (codes "ms\"/>" ++ 10 ∷ []) ∷ [])

-- the lines that show the picture of a number in its turn
abbrev pub turn_lines : (rate last number : ℕ) → List ℕ
turn_lines rate last zero = first_turn rate last
turn_lines rate last (suc before) = later_turn rate before

-- the lines of a picture's strokes
abbrev pub stroke_lines : List Stroke → List ℕ
stroke_lines = flat_map path_line

-- the strokes of each picture
abbrev pub strokes_of : {A : Type 0} → List (Vec Stroke A) → List (List Stroke)
strokes_of = map (λ picture. picture.items)

-- one of several pictures
abbrev pub group : (rate last number : ℕ) → List Stroke → List ℕ
group rate last number picture = turn_lines rate last number ++ stroke_lines picture ++ group_end

-- several pictures, the first of which has this number
abbrev pub groups : (rate last number : ℕ) → List (List Stroke) → List ℕ
groups rate last number [] = []
groups rate last number (picture ∷ later) = group rate last number picture ++ groups rate last (suc number) later

-- pictures: one alone, or several that are shown in turn
abbrev pub pictures_text : ℕ → List (List Stroke) → List ℕ
pictures_text rate (picture ∷ []) = stroke_lines picture
pictures_text rate pictures = groups rate (length pictures - 1) 0 pictures

-- what comes before the pictures
abbrev pub begin_lines : ℕ → Option (List ℕ) → List ℕ
begin_lines percent title = size_line percent ++ title_line title ++ screen_lines

-- the text of one picture, with a title or without
abbrev pub svg_text : (percent : ℕ) → (title : Option (List ℕ)) → List Stroke → List ℕ
svg_text percent title picture = begin_lines percent title ++ stroke_lines picture ++ end_lines

-- the text of pictures
abbrev pub svgs_text : Show → List (List Stroke) → List ℕ
svgs_text show pictures = begin_lines show.percent None ++ pictures_text show.rate pictures ++ end_lines
