use Rattle.std.proofs.Common.{arith, ◌≡◌, ◌+◌, ◌-◌, ◌<◌, ℕ, List, slice_set, sym, ap, subst, ◌∙◌}
use Rattle.word_layout.specs.declared.limits.Limits.{Limits}
use Rattle.word_layout.specs.declared.places.Part.TheVariants.{Link}
use Rattle.word_layout.specs.Layout.{shape_of}
use Rattle.word_layout.specs.Addresses.{row_address}
use Rattle.word_layout.specs.Places.{part_address}
use Rattle.opened_table.specs.Laying.{LinksRows}
use Rattle.opened_table.proofs.LaidLinks.{link_more}
use Rattle.opened_table.proofs.laying.link_rows.Goals as goal

pub loop-i-preserved : goal.loop-i-preserved
loop-i-preserved c =
    let s = shape_of c.args.layout.now in
    let i : ℕ = c.loop-i.i in
    let at : c.link_word.result ≡ part_address (row_address s (i - 1)) Link =
    c.link_word.ensures ∙ ap (λ (p : ℕ). part_address p Link) c.row-in-loop-i.ensures.address
    in
    let to : c.from.result ≡ row_address s i = c.from.ensures ∙ c.row.ensures.address in
    let below : i < s.limits.records =
    subst (λ (z : Limits). i < z.records) c.limits-i-end.ensures.limits c.loop-i-test.true
    in
    let words : List ℕ = c.loop-i.words.items in
    record {
      done = subst
          (λ (z : ℕ × ℕ). LinksRows s (i + 1) c.args.words.now.items (slice_set words z.0 z.1))
          (λ j. (sym at j, sym to j))
          (link_more s i c.args.words.now.items words c.requires (omega arith) below
          c.loop-i.invariant.done);
    }
