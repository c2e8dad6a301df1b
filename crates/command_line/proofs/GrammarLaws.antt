-- What clap says of the one command.
use Rattle.std.proofs.Common.{◌≡◌, ◌∙◌, ◌+◌, ◌<◌, ℕ, List, true, ap, inl, inr, refl, subst, sym, take, length, get_or}
use Rattle.std.proofs.lemmas.List.Folds.{fold-map}
use Rattle.std.proofs.lemmas.List.Sums.{fold_more}
use Rattle.std.specs.Borrow.{Bor}
use Rattle.std.specs.Prelude.{fold}
use Rattle.clap.proofs.OnLiterals.{clap_on_literals}
use Rattle.clap.specs.Walk.{Text}
use Rattle.clap.specs.Words.{App, HasKind, Kinds, fault_of, is_simple, is_simple_and_free, kind_of}
use Rattle.clap.specs.declared.error.Error.{Error}
use Rattle.clap.specs.declared.error.kind.ErrorKind.TheVariants.{OutOfMemory}
use Rattle.command_line.specs.Grammar.{IsTaken, row_of, table_of, the_app, with_option}

-- clap's meaning of the command is exact: in what it finds
pub the_app-is_simple : is_simple the_app ≡ true
unfolding the_app clap_on_literals
the_app-is_simple = refl

-- and in what it refuses
pub the_app-is_free : is_simple_and_free the_app ≡ true
unfolding the_app clap_on_literals
the_app-is_free = refl

-- words that are taken fail for want of memory alone
pub memory_alone : (words : List Text) (app : App) (error : Error) → app ≡ the_app
    → (is_simple_and_free app ≡ true → HasKind (fault_of app words) error)
    → IsTaken words → kind_of error ≡ OutOfMemory
memory_alone words app error is kinds taken =
    let family : Kinds → Type 0 = λ found. HasKind found error in
    let none = subst family (ap (λ (a : App). fault_of a words) is ∙ taken)
    (kinds (ap is_simple_and_free is ∙ the_app-is_free)) in
    elim none [ inl memory ↦ memory | inr never ↦ absurd never ]

-- one more row of the table is one more option
pub table_more : (bare so_far : App) (table : List (Bor Text × Bor Text)) (i : ℕ) (d : Bor Text × Bor Text)
    → i < length table → so_far ≡ fold with_option bare (table_of (take i table))
    → with_option so_far (row_of (get_or table i d)) ≡ fold with_option bare (table_of (take (i + 1) table))
table_more bare so_far table i d inside is =
    let option : App → Bor Text × Bor Text → App = λ app row. with_option app (row_of row) in
    ap (λ (app : App). option app (get_or table i d)) (is ∙ fold-map with_option row_of bare (take i table))
    ∙ sym (fold_more option bare table i d inside) ∙ sym (fold-map with_option row_of bare (take (i + 1) table))
