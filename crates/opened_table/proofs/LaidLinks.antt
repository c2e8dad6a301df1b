-- The links that are laid out between the record rows.
use Rattle.std.proofs.Common.{◌≡◌, ◌≢◌, inl, ℕ, ◌+◌, ◌-◌, ◌<◌, ◌≤◌, List, length}
use Rattle.std.proofs.Common.{slice_set, sym, ap, ◌∙◌, subst, arith, length-set}
use mathlib.Core.Logic.{dite}
use native.Mathlib.Decide.{ℕ_discrete}
use Rattle.word_layout.specs.declared.places.Part.TheVariants.{Link}
use Rattle.word_layout.specs.Limits.{word_count}
use Rattle.word_layout.specs.Addresses.{row_address}
use Rattle.word_layout.specs.Places.{part_address}
use Rattle.word_layout.specs.Shape.{Shape}
use Rattle.word_layout.specs.Words.{Word, PlaceWord, IsWord, word_named}
use Rattle.word_layout.proofs.RowPlaces.{IsRow-row_address, row_address-injective}
use Rattle.word_layout.proofs.WordNames.{stores_by_name}
use Rattle.opened_table.specs.Laying.{LinksRows}

pub place_of_link : (p q : ℕ) → PlaceWord p Link ≡ PlaceWord q Link → p ≡ q
place_of_link p q e = cc

-- one more link
pub link_more : (s : Shape) (many : ℕ) (old words : List ℕ) → length old ≡ word_count s →
    1 ≤ many → many < s.limits.records → LinksRows s many old words →
    LinksRows s (many + 1) old
    (slice_set words (part_address (row_address s (many - 1)) Link) (row_address s many))
link_more s many old words wide least below done =
    let last : ℕ = row_address s (many - 1) in
    let w : Word = PlaceWord last Link in
    let is_word : IsWord s w = inl (IsRow-row_address s (many - 1) (omega arith)) in
    record {
      wide = length-set words (part_address last Link) (row_address s many) ∙ done.wide;
      linked = λ i lt. dite (ℕ_discrete i (many - 1))
          (λ (same : i ≡ many - 1).
          let next : i + 1 ≡ many = omega arith in
          subst
          (λ (z : ℕ).
          word_named s (slice_set words (part_address last Link) (row_address s many))
          (PlaceWord (row_address s z) Link) ≡ row_address s (z + 1))
          (sym same)
          ((stores_by_name s).stored words w (row_address s many) (done.wide ∙ wide) is_word
          ∙ ap (row_address s) (omega arith)))
          (λ (differ : i ≢ many - 1).
          let v : Word = PlaceWord (row_address s i) Link in
          (stores_by_name s).kept words w v (row_address s many) is_word
          (inl (IsRow-row_address s i (omega arith)))
          (λ e.
          differ (sym (row_address-injective s (many - 1) i
          (place_of_link last (row_address s i) e))))
          ∙ done.linked i (omega arith));
      kept = λ v is none.
          (stores_by_name s).kept words w v (row_address s many) is_word is
          (λ e. none (many - 1) (omega arith) (sym e))
          ∙ done.kept v is (λ i lt. none i (omega arith));
    }
