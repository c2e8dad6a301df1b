use Rattle.std.proofs.Common.{◌≡◌, ◌<◌, ℕ, List, length, slice_set, sym, ap, subst, ◌∙◌}
use Rattle.std.proofs.lemmas.List.{get_or-replicate, length-replicate}
use Rattle.word_layout.specs.Limits.{word_count}
use Rattle.word_layout.specs.Words.{Word, IsWord, address_of, word_named}
use Rattle.word_layout.proofs.WordNames.{address_of-within}
use Rattle.index_machine.specs.Words.{limits, shape}
use Rattle.opened_table.specs.Laying.{LinksRows}
use Rattle.opened_table.proofs.Laid.{laid}
use Rattle.opened_table.proofs.laying.laid_words.Goals as goal

pub returns : goal.returns
returns c =
    let o = c.args.opening.now in
    let s = shape o in
    let zeros : List ℕ = c.in_ok-words.words.items in
    let items = c.in_ok-words.ensures.items_if_clones_equal (λ y h. h) in
    let wide : length zeros ≡ word_count s =
    ap (λ (z : List ℕ). length z) items ∙ (length-replicate _ 0 ∙ c.words.ensures.count)
    in
    let blank : (w : Word) → IsWord s w → word_named s zeros w ≡ 0 =
    λ w is. ap (λ (z : List ℕ). word_named s z w) items
    ∙ get_or-replicate _ (address_of s w) 0 0
    (subst (λ (n : ℕ). address_of s w < n) (sym c.words.ensures.count) (address_of-within s w is))
    in
    let to = c.from.ensures ∙ c.row.ensures.address in
    let linked : List ℕ = c.link_rows.new.words.items in
    laid o zeros linked c.lay_parts.new.words.items wide blank
    (subst (λ (z : ℕ × ℕ). LinksRows s (limits o).records (slice_set zeros z.0 z.1) linked)
    (λ j. (c.free_head.ensures.named j, to j)) c.link_rows.ensures)
    c.lay_parts.ensures
