-- The index that a search found says where the key is: at its place, or nowhere.
use Rattle.std.proofs.Common.{◌≡◌, ℕ, List, Ok, Err, sym, ap, ◌∙◌, subst}
use Rattle.line_window.specs.Search.{count_below}
use Rattle.word_layout.specs.Addresses.{array_address}
use Rattle.index_machine.specs.Conditions.{Valid}
use Rattle.index_machine.specs.Rows.{InArray, role}
use Rattle.index_machine.specs.Words.{shape}
use Rattle.machine_arrays.proofs.Keys.{list_whole}
use Rattle.index_rule.specs.declared.board.Board.{Board}
use Rattle.index_rule.specs.declared.hand.Hand.{Hand}
use Rattle.index_rule.specs.Hands.{known, opening_of}
use Rattle.sorted_group.specs.Located.{IsNowhere, IsPlaceOf, keys_for, smaller_keys}
use Rattle.sorted_group.specs.Searches.{FindsIndex, IsAtIndex, IsMissing}
use Rattle.sorted_group.proofs.ArraySearches.{GoesOnSearching, can_read}
use Rattle.sorted_group.proofs.KeyReads.{sees_index}

module _ (b : Board) (g key index : ℕ) (n k : Hand) (valid : Valid (opening_of b) (known n))
    (on : GoesOnSearching b g n k) where
  index_is : index ≡ count_below (keys_for b g n) key → index ≡ smaller_keys b g key k
  index_is count = count ∙ ap (λ (keys : List ℕ). count_below keys key) (sym on.array.keys)

  at_index : IsAtIndex (keys_for b g n) key index → IsAtIndex (keys_for b g k) key index
  at_index at = subst (λ (keys : List ℕ). IsAtIndex keys key index) (sym on.array.keys) at

  role_is : (place : ℕ) → place ≡ array_address (shape (opening_of b)) g index →
      IsAtIndex (keys_for b g n) key index → role (opening_of b) place (known n) ≡ InArray g key
  role_is place is at =
      ap (λ (p : ℕ). role (opening_of b) p (known n)) is
      ∙ ((list_whole (opening_of b) (known n) valid g).stands index at.within ∙ ap (InArray g) at.is)

  -- there is the place of the key
  pub is_there : (place : ℕ) → place ≡ array_address (shape (opening_of b)) g index →
      FindsIndex (keys_for b g n) key (Ok index) → IsPlaceOf b g key place k
  is_there place is found =
      let same = index_is found.0 in
      let at = at_index found.1 in
      record {
        listed = subst (λ (i : ℕ). IsAtIndex (keys_for b g k) key i) same at;
        address = is ∙ ap (array_address (shape (opening_of b)) g) same;
        role = on.array.kept key place (role_is place is found.1);
        sees = rw is (sees_index b g index k on.can.of at.within ∣ (can_read b g k on.can).may ∣₁);
      }

  -- or it is nowhere
  pub is_nowhere : FindsIndex (keys_for b g n) key (Err index) → IsNowhere b g key index k
  is_nowhere found = record {
    missing = subst (λ (keys : List ℕ). IsMissing keys key) (sym on.array.keys) found.1;
    none = λ place e.
        let w = (list_whole (opening_of b) (known n) valid g).whole key place
        (on.array.none_new key place e) in
        found.1 w.0 w.1 w.3;
    smaller = index_is found.0;
  }
