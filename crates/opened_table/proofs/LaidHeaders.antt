-- The words that the header of a group gets for its keys.
use Rattle.std.proofs.Common.{◌≡◌, ◌≢◌, ℕ, zero, suc, ◌+◌, ◌*◌, ◌<◌, ◌≤◌, List, length, slice_index}
use Rattle.std.proofs.Common.{slice_set, refl, sym, ◌∙◌, subst, arith, length-set}
use mathlib.Core.Logic.{dite}
use native.Mathlib.Decide.{ℕ_discrete}
use Rattle.line_window.specs.Line.{error_of}
use Rattle.rebuild_plan.specs.Plan.{lane_count, lane_width}
use Rattle.rebuild_plan.specs.Keys.{cut_of}
use Rattle.word_layout.specs.declared.headers.HeaderWord.{HeaderWord}
use Rattle.word_layout.specs.declared.headers.HeaderWord.TheVariants as header
use Rattle.word_layout.specs.Headers.{most_lanes}
use Rattle.word_layout.specs.Limits.{word_count}
use Rattle.word_layout.specs.Shape.{Shape, group_total}
use Rattle.word_layout.specs.Words.{Word, Header, IsWord, address_of, word_named}
use Rattle.word_layout.proofs.WordNames.{stores_by_name}
use Rattle.opened_table.specs.Laying.{LaysCuts, LaysHeader}

cut_lane : {g i j : ℕ} → Header g (header.Cut i) ≡ Header g (header.Cut j) → i ≡ j
cut_lane e = cc

-- ---- the cuts ----

-- the cut of a later lane is the key of its first record
pub cut_at : (pivot : ℕ) (keys : List ℕ) (lane : ℕ) → 1 ≤ lane →
    cut_of pivot keys lane ≡ slice_index keys (lane * lane_width (length keys))
cut_at pivot keys zero some = absurd (omega arith)
cut_at pivot keys (suc before) some = refl

-- before any
pub no_cuts : (s : Shape) (group pivot : ℕ) (keys words : List ℕ) →
    LaysCuts s group pivot keys 0 words words
no_cuts s group pivot keys words =
    record {
      wide = refl;
      cuts = λ lane lt. absurd (omega arith);
      kept = λ w is none. refl;
    }

-- and one more
pub cut_more : (s : Shape) (group pivot : ℕ) (keys : List ℕ) (many : ℕ) (old words : List ℕ) →
    group < group_total s → length old ≡ word_count s → many < most_lanes →
    LaysCuts s group pivot keys many old words →
    LaysCuts s group pivot keys (many + 1) old
    (slice_set words (address_of s (Header group (header.Cut many))) (cut_of pivot keys many))
cut_more s group pivot keys many old words exists wide below done =
    let w : Word = Header group (header.Cut many) in
    let is_word : IsWord s w = (exists, below) in
    let wide_words : length words ≡ word_count s = done.wide ∙ wide in
    record {
      wide = length-set words (address_of s w) (cut_of pivot keys many) ∙ done.wide;
      cuts = λ lane lt. dite (ℕ_discrete lane many)
          (λ (same : lane ≡ many).
          subst
          (λ (i : ℕ).
          word_named s (slice_set words (address_of s w) (cut_of pivot keys many))
          (Header group (header.Cut i)) ≡ cut_of pivot keys i)
          (sym same)
          ((stores_by_name s).stored words w (cut_of pivot keys many) wide_words is_word))
          (λ (differ : lane ≢ many).
          (stores_by_name s).kept words w (Header group (header.Cut lane)) (cut_of pivot keys many)
          is_word (exists, omega arith) (λ e. differ (sym (cut_lane e)))
          ∙ done.cuts lane (omega arith));
      kept = λ v is none.
          (stores_by_name s).kept words w v (cut_of pivot keys many) is_word is
          (λ e. none many (omega arith) (sym e))
          ∙ done.kept v is (λ lane lt. none lane (omega arith));
    }

-- ---- the header ----

-- the table where the pivot, the size, the line error, the next word and the number of lanes were stored
abbrev pub told : (s : Shape) (group pivot next : ℕ) (keys words : List ℕ) → List ℕ
told s group pivot next keys words =
    slice_set
    (slice_set
    (slice_set
    (slice_set (slice_set words (address_of s (Header group header.Pivot)) pivot)
    (address_of s (Header group header.Size)) (length keys))
    (address_of s (Header group header.LineError)) (error_of keys))
    (address_of s (Header group header.Next)) next)
    (address_of s (Header group header.Lanes)) (lane_count (length keys))

module _ (s : Shape) (group pivot next : ℕ) (keys old new : List ℕ) (exists : group < group_total s)
    (wide : length old ≡ word_count s)
    (cuts : LaysCuts s group pivot keys (lane_count (length keys)) (told s group pivot next keys old) new) where
  abbrev with_pivot : List ℕ
  with_pivot = slice_set old (address_of s (Header group header.Pivot)) pivot

  abbrev with_size : List ℕ
  with_size = slice_set with_pivot (address_of s (Header group header.Size)) (length keys)

  abbrev with_error : List ℕ
  with_error = slice_set with_size (address_of s (Header group header.LineError)) (error_of keys)

  abbrev with_next : List ℕ
  with_next = slice_set with_error (address_of s (Header group header.Next)) next

  wide_pivot : length with_pivot ≡ word_count s
  wide_pivot = length-set old (address_of s (Header group header.Pivot)) pivot ∙ wide

  wide_size : length with_size ≡ word_count s
  wide_size = length-set with_pivot (address_of s (Header group header.Size)) (length keys) ∙ wide_pivot

  wide_error : length with_error ≡ word_count s
  wide_error =
      length-set with_size (address_of s (Header group header.LineError)) (error_of keys) ∙ wide_size

  wide_next : length with_next ≡ word_count s
  wide_next = length-set with_error (address_of s (Header group header.Next)) next ∙ wide_error

  -- a word of the header that no lane has
  abbrev IsOwn : HeaderWord → Type 0
  IsOwn which = IsWord s (Header group which)

  is_pivot : IsOwn header.Pivot
  is_pivot = (exists, tt)

  is_size : IsOwn header.Size
  is_size = (exists, tt)

  is_error : IsOwn header.LineError
  is_error = (exists, tt)

  is_next : IsOwn header.Next
  is_next = (exists, tt)

  is_lanes : IsOwn header.Lanes
  is_lanes = (exists, tt)

  -- what the stores of the next word, of the number of lanes and of the cuts keep
  kept_last : (w : Word) → IsWord s w →
      ((lane : ℕ) → lane < lane_count (length keys) → w ≢ Header group (header.Cut lane)) →
      Header group header.Lanes ≢ w → Header group header.Next ≢ w →
      word_named s new w ≡ word_named s with_error w
  kept_last w is no_cut no_lanes no_next =
      cuts.kept w is no_cut
      ∙ ((stores_by_name s).kept with_next (Header group header.Lanes) w (lane_count (length keys))
      is_lanes is no_lanes
      ∙ (stores_by_name s).kept with_error (Header group header.Next) w next is_next is no_next)

  pub header_laid : LaysHeader s group pivot next keys old new
  header_laid =
      let by_name = stores_by_name s in
      record {
        wide = cuts.wide
            ∙ (length-set with_next (address_of s (Header group header.Lanes)) (lane_count (length keys))
            ∙ (wide_next ∙ sym wide));
        begins = kept_last (Header group header.Pivot) is_pivot (λ lane lt e. cc) (λ e. cc) (λ e. cc)
            ∙ (by_name.kept with_size (Header group header.LineError) (Header group header.Pivot)
            (error_of keys) is_error is_pivot (λ e. cc)
            ∙ (by_name.kept with_pivot (Header group header.Size) (Header group header.Pivot)
            (length keys) is_size is_pivot (λ e. cc)
            ∙ by_name.stored old (Header group header.Pivot) pivot wide is_pivot));
        size = kept_last (Header group header.Size) is_size (λ lane lt e. cc) (λ e. cc) (λ e. cc)
            ∙ (by_name.kept with_size (Header group header.LineError) (Header group header.Size)
            (error_of keys) is_error is_size (λ e. cc)
            ∙ by_name.stored with_pivot (Header group header.Size) (length keys) wide_pivot is_size);
        error = kept_last (Header group header.LineError) is_error (λ lane lt e. cc) (λ e. cc) (λ e. cc)
            ∙ by_name.stored with_size (Header group header.LineError) (error_of keys) wide_size
            is_error;
        leads = cuts.kept (Header group header.Next) is_next (λ lane lt e. cc)
            ∙ (by_name.kept with_next (Header group header.Lanes) (Header group header.Next)
            (lane_count (length keys)) is_lanes is_next (λ e. cc)
            ∙ by_name.stored with_error (Header group header.Next) next wide_error is_next);
        lanes = cuts.kept (Header group header.Lanes) is_lanes (λ lane lt e. cc)
            ∙ by_name.stored with_next (Header group header.Lanes) (lane_count (length keys))
            wide_next is_lanes;
        cuts = cuts.cuts;
        kept = λ w is none.
            kept_last w is (λ lane lt e. none (header.Cut lane) lt e)
            (λ e. none header.Lanes tt (sym e)) (λ e. none header.Next tt (sym e))
            ∙ (by_name.kept with_size (Header group header.LineError) w (error_of keys) is_error is
            (λ e. none header.LineError tt (sym e))
            ∙ (by_name.kept with_pivot (Header group header.Size) w (length keys) is_size is
            (λ e. none header.Size tt (sym e))
            ∙ by_name.kept old (Header group header.Pivot) w pivot is_pivot is
            (λ e. none header.Pivot tt (sym e))));
      }
