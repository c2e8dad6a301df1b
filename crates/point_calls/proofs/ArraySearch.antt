-- How a call looks for its key in the array of its group, by loads alone.
use Rattle.std.proofs.Common.{◌≡◌, ℕ, ◌+◌, inl, Bool, false, cond, List, [], ◌∷◌, ◌++◌, length, refl, ap, ◌∙◌, arith}
use Rattle.line_window.specs.Line.{error_of}
use Rattle.word_layout.specs.declared.headers.HeaderWord.TheVariants.{LineError, Size}
use Rattle.index_machine.specs.declared.events.Action.{Action}
use Rattle.index_machine.specs.declared.events.Action.TheVariants.{LoadHeader, LoadKey}
use Rattle.index_machine.specs.declared.opening.Opening.{Opening}
use Rattle.index_machine.specs.Rows.{role_key}
use Rattle.index_rule.specs.declared.board.Board.{Board}
use Rattle.index_rule.specs.declared.hand.Hand.{Hand}
use Rattle.index_rule.specs.Hands.{opening_of}
use Rattle.index_rule.specs.Moments.{AddsNoEntry}
use Rattle.sorted_group.specs.Arrays.{CanLocate}
use Rattle.sorted_group.specs.KeyLoads.{AreKeyLoads, IsKeyLoad}
use Rattle.sorted_group.specs.Located.{IsPlaceOf, LoadsToLocate, keys_for}
use Rattle.sorted_group.specs.Standing.{CanSearch}
use Rattle.point_calls.specs.Arrays.{HasSearched, IsAtArrayPlace}
use Rattle.point_calls.specs.Exchanges.{exchanges_head, exchanges_link, exchanges_lock}
use Rattle.point_calls.specs.Places.{GoesOn, IsInGroupFor}
use Rattle.point_calls.proofs.ArrayWay.{group_still}
use Rattle.point_calls.proofs.BufferWay.{all_forward}
use Rattle.point_calls.proofs.Exchanging.{count_in, none_made}
use Rattle.point_calls.proofs.Knowing.{AreKept, IsIn, call_is, in_all, in_call}
use Rattle.point_calls.proofs.SeekWay.{at_buffer}

-- a call in the group of its key can locate it there
pub can_locate : (b : Board) (start h : Hand) (group key : ℕ) → IsInGroupFor b start h group key →
    CanLocate b group h
can_locate b start h group key there =
    record {
      of = there.search.call.of;
      in_table = there.search.in_table;
      may = inl (record {
        reading = there.search.call.reading;
        stands = there.search.stands;
        key = key;
        answers = there.answers;
      });
    }

key_kept : (o : Opening) (g : ℕ) (d : Action) → IsKeyLoad o g d → AreKept (d ∷ [])
key_kept o g (LoadKey place key) is = (tt, tt, tt)
key_kept o g d is = absurd is

kept : (o : Opening) (g : ℕ) (keys rest : List Action) → AreKeyLoads o g keys → AreKept rest →
    AreKept (keys ++ rest)
kept o g [] rest are after = after
kept o g (d ∷ keys) rest are after =
    let one = key_kept o g d are.0 in (one.0, one.1, kept o g keys rest are.1 after)

key_count : (kind : Action → Bool) → ((place key : ℕ) → kind (LoadKey place key) ≡ false) → (o : Opening) (g : ℕ)
    (d : Action) → IsKeyLoad o g d → kind d ≡ false
key_count kind none o g (LoadKey place key) is = none place key
key_count kind none o g d is = absurd is

counts : (kind : Action → Bool) → ((place key : ℕ) → kind (LoadKey place key) ≡ false) → (o : Opening) (g : ℕ)
    (keys rest : List Action) → AreKeyLoads o g keys → count_in kind rest ≡ 0 → count_in kind (keys ++ rest) ≡ 0
counts kind none o g [] rest are after = after
counts kind none o g (d ∷ keys) rest are after =
    ap (λ (z : Bool). cond z 1 0 + count_in kind (keys ++ rest)) (key_count kind none o g d are.0)
    ∙ rest_is (counts kind none o g keys rest are.1 after)
  where
    rest_is : {n : ℕ} → n ≡ 0 → 0 + n ≡ 0
    rest_is is = omega arith

module _ (b : Board) (start h : Hand) (group key : ℕ) (there : IsInGroupFor b start h group key) (k : Hand)
    (loads : LoadsToLocate b group h k) (search : CanSearch b group k) (log : AddsNoEntry h k) where
  abbrev headers : List Action
  headers =
      LoadHeader group LineError (error_of (keys_for b group k))
      ∷ LoadHeader group Size (length (keys_for b group k)) ∷ []

  in_k : IsIn b start k
  in_k =
      in_all b start h (loads.keys ++ headers) k
      (kept (opening_of b) group loads.keys headers loads.are (tt, tt, (tt, tt, tt))) loads.makes
      (in_call b start h there.search.call.of there.call there.rows)

  on : GoesOn b start h k
  on =
      record {
        can = search.call;
        call = call_is b start k there.call.so_far.began in_k (log ∙ there.call.so_far.no_entry);
        rows = in_k.rows;
        since = all_forward b h (loads.keys ++ headers) k there.search.call.of loads.makes;
      }

  pub has_searched : HasSearched b start h group key k
  has_searched =
      record {
        there = group_still b start h k group key there on;
        since = on.since;
        exchanges = none_made b h (loads.keys ++ headers) k there.search.call.of loads.makes
            (counts exchanges_lock (λ p i. refl) (opening_of b) group loads.keys headers loads.are refl)
            (counts exchanges_head (λ p i. refl) (opening_of b) group loads.keys headers loads.are refl)
            (counts exchanges_link (λ p i. refl) (opening_of b) group loads.keys headers loads.are refl);
      }

  -- it is ready at the place that has the key
  pub at_array_place : (place : ℕ) → IsPlaceOf b group key place k → IsAtArrayPlace b start k group key place
  at_array_place place is =
      let at = at_buffer b start k group key has_searched.there in
      record {
        at = record {
          call = on.call;
          rows = on.rows;
          ready = record {
            of = search.call.of;
            at_own = record {
              there = record {
                reading = search.call.reading;
                there = inl (group, key, is.role, search.stands);
              };
              group = group;
              key = key;
              stands = search.stands;
              in_group = inl is.role;
              of_key = at.of_key;
            };
            holds_none = search.call.holds_none;
          };
          of_key = ap role_key is.role;
        };
        array = is.role;
      }
