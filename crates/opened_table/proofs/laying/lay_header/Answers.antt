use Rattle.std.proofs.Common.{◌≡◌, ℕ, List, length, slice_set, sym, ap, subst, ◌∙◌}
use Rattle.line_window.specs.Line.{Parts, error_of}
use Rattle.rebuild_plan.specs.Plan.{lane_count}
use Rattle.word_layout.specs.Headers.{header_word}
use Rattle.word_layout.specs.Layout.{shape_of}
use Rattle.word_layout.specs.Words.{Header, address_of}
use Rattle.word_layout.specs.declared.headers.HeaderWord.TheVariants as header
use Rattle.opened_table.specs.Laying.{LaysCuts, keys_in}
use Rattle.opened_table.proofs.LaidHeaders.{header_laid}
use Rattle.opened_table.proofs.LaidKeys.{length_of_keys, rising_keys}
use Rattle.opened_table.proofs.laying.lay_header.Goals as goal

pub of-line-requires : goal.of-line-requires
of-line-requires c = record { rising = rising_keys c.args.rows.now c.requires.rising }

pub returns : goal.returns
returns c =
    let s = shape_of c.args.layout.now in
    let group : ℕ = c.args.group in
    let pivot : ℕ = c.args.pivot in
    let rows = c.args.rows.now in
    let keys : List ℕ = keys_in rows in
    let old : List ℕ = c.args.words.now.items in
    let new : List ℕ = c.lay_cuts.new.words.items in
    let at : (i : ℕ) → ℕ = λ i. address_of s (Header group (header_word i)) in
    let at_pivot : c.header.result ≡ address_of s (Header group header.Pivot) =
    c.header.ensures.named ∙ ap at c.number.ensures
    in
    let at_size : c.header-2.result ≡ address_of s (Header group header.Size) =
    c.header-2.ensures.named ∙ ap at c.number-2.ensures
    in
    let at_error : c.header-3.result ≡ address_of s (Header group header.LineError) =
    c.header-3.ensures.named ∙ ap at c.number-3.ensures
    in
    let at_next : c.header-4.result ≡ address_of s (Header group header.Next) =
    c.header-4.ensures.named ∙ ap at c.number-4.ensures
    in
    let at_lanes : c.header-5.result ≡ address_of s (Header group header.Lanes) =
    c.header-5.ensures.named ∙ ap at c.number-5.ensures
    in
    let next : ℕ = c.args.next in
    let error : c.error.result ≡ error_of keys =
    c.error.ensures ∙ ap (λ (z : Parts). z.error) c.of-line.ensures.line
    in
    let lanes : c.from.result ≡ lane_count (length keys) =
    c.from.ensures
    ∙ (c.lanes_for-lanes.ensures.count ∙ ap lane_count (sym (length_of_keys rows)))
    in
    let told : (ℕ × ℕ × ℕ × ℕ × ℕ × ℕ × ℕ × ℕ) → List ℕ =
    λ z.
    slice_set (slice_set (slice_set (slice_set (slice_set old z.0 pivot) z.1 z.2) z.3 z.4) z.5 next) z.6 z.7
    in
    header_laid s group pivot next keys old new c.requires.is_group c.requires.wide
    (subst
    (λ (z : ℕ × ℕ × ℕ × ℕ × ℕ × ℕ × ℕ × ℕ).
    LaysCuts s group pivot keys (lane_count (length keys)) (told z) new)
    (λ j. (
      at_pivot j,
      at_size j,
      sym (length_of_keys rows) j,
      at_error j,
      error j,
      at_next j,
      at_lanes j,
      lanes j,
    ))
    c.lay_cuts.ensures)
