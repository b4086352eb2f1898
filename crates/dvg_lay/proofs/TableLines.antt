-- The operations of a draft, one after the other, with their words and lines.
use Rattle.std.proofs.Common.{◌≡◌, ◌∙◌, ◌+◌, ◌<◌, ◌≤◌, ℕ, suc, List, ◌∷◌, ◌++◌, ap, ap₂, arith, drop, get_or, length, length-append, sym, take}
use Rattle.std.proofs.lemmas.List.{drop_more}
use Rattle.std.proofs.Math.Seq.{drop-append_seam, take-append_seam}
use Rattle.dvg_code.specs.Spelling.{canon}
use Rattle.dvg_mem.specs.declared.half.Half.TheVariants.{H0}
use Rattle.dvg_frame.specs.declared.op.OpKind.{OpKind}
use Rattle.dvg_frame.specs.Cursors.{laid_ops}
use Rattle.dvg_frame.specs.Layout.{op_code, op_words}
use Rattle.dvg_frame.proofs.Sizes.{canon_length}
use Rattle.dvg_named.specs.declared.meaning.NamedFrame.{NamedFrame}
use Rattle.dvg_rows.specs.declared.source.Source.{Source}
use Rattle.dvg_lay.specs.Texts.{frame_table, op_line, op_lines, tables}
use Rattle.dvg_blame.proofs.Lists.{grew, next_at}

-- the words that are left, cut after those of an operation
pub record IsCut (F : List OpKind) (rest : List ℕ) (count : ℕ) (op : OpKind) (more : List ℕ) : Type 0 where
  pub within : count ≤ length rest
  pub these : take count rest ≡ canon (op_code H0 F op)
  pub others : drop count rest ≡ more

pub cut_words : (F ops : List OpKind) (op : OpKind) (rest : List ℕ) (count : ℕ) → rest ≡ laid_ops H0 F (op ∷ ops) → count ≡ op_words op
    → IsCut F rest count op (laid_ops H0 F ops)
cut_words F ops op rest count is count_is =
    let words = canon (op_code H0 F op) in
    let long : count ≡ length words = count_is ∙ sym (canon_length H0 F op) in
    record {
      within = let whole = ap length is ∙ length-append words (laid_ops H0 F ops) in omega (arith, whole, long);
      these = ap₂ take long is ∙ take-append_seam words (laid_ops H0 F ops);
      others = ap₂ drop long is ∙ drop-append_seam words (laid_ops H0 F ops);
    }

-- the line of the next operation was added
pub line_added : (F ops : List OpKind) (sources : List Source) (i : ℕ) (op : OpKind) (d : Source) (words old new whole : List ℕ)
    → i < length ops → op ≡ get_or ops i op → i < length sources
    → words ≡ canon (op_code H0 F op) → new ≡ old ++ op_line words (get_or sources i d)
    → old ++ op_lines F (drop i ops) (drop i sources) ≡ whole → new ++ op_lines F (drop (i + 1) ops) (drop (i + 1) sources) ≡ whole
line_added F ops sources i op d words old new whole low is low' words_are more before =
    let source = get_or sources i d in
    let next = ap₂ (op_lines F) (next_at ops i op low is) (drop_more sources i d low') in
    grew old (op_line (canon (op_code H0 F op)) source) new (op_lines F (drop (i + 1) ops) (drop (i + 1) sources)) whole
    (more ∙ ap (λ ws. old ++ op_line ws source) words_are) (ap (λ l. old ++ l) (sym next) ∙ before)

-- the table of the next frame was added
pub table_added : (frames : List NamedFrame) (i : ℕ) (frame : NamedFrame) (old new whole : List ℕ) → i < length frames → frame ≡ get_or frames i frame
    → new ≡ old ++ frame_table i frame → old ++ tables i (drop i frames) ≡ whole → new ++ tables (i + 1) (drop (i + 1) frames) ≡ whole
table_added frames i frame old new whole low is more before =
    let next : tables i (drop i frames) ≡ frame_table i frame ++ tables (suc i) (drop (i + 1) frames) = ap (tables i) (next_at frames i frame low is) in
    let step : suc i ≡ i + 1 = omega arith in
    grew old (frame_table i frame) new (tables (i + 1) (drop (i + 1) frames)) whole more
    (ap (λ n. old ++ (frame_table i frame ++ tables n (drop (i + 1) frames))) (sym step) ∙ ap (λ l. old ++ l) (sym next) ∙ before)
