-- A call of one key has an answer, whatever the log of the caller that is alone.
use Rattle.std.proofs.Common.{◌≡◌, ℕ, Option, Some, None, ◌∷◌, length, refl, subst, arith}
use Rattle.map_model.specs.declared.calls.Call.TheVariants.{Get, Put, Remove, Next}
use Rattle.map_model.specs.declared.calls.Answer.{Answer}
use Rattle.map_model.specs.declared.calls.Answer.TheVariants.{Value, Old}
use Rattle.map_model.specs.declared.entries.Change.TheVariants as change
use Rattle.map_model.specs.declared.entries.Entry.TheVariants.{Made, Look}
use Rattle.map_model.specs.Answer.{pair_at}
use Rattle.map_model.specs.Entry.{IsFound}
use Rattle.map_model.specs.Logs.{Log, changes_of}
use Rattle.map_model.specs.Map.{IsRising, look}
use Rattle.map_model.proofs.Pairs.{found-at_one, rising-put, rising-remove}
use Rattle.xindex_core.specs.Alone.{AnswersAlone, map_of}
use Rattle.index_laws.specs.AloneAnswers.{CallsAloneHaveAnswers}

-- the log with a look at the key, at its end
look_at : Log → ℕ → Log
look_at old k =
    Look (length (changes_of old)) k k (pair_at k (look (map_of old) k)) ∷ old

pub calls_have_answers : CallsAloneHaveAnswers
unfolding look_at
calls_have_answers l old (Get k) one rising = (
  Value (look (map_of old) k),
  look_at old k,
  record {
    entry = Look (length (changes_of old)) k k (pair_at k (look (map_of old) k));
    place = refl;
    is = refl;
    true_of = (omega arith, found-at_one (map_of old) k rising, refl);
    added = refl;
  },
  rising,
)
calls_have_answers l old (Put k v) one rising = (
  Old (look (map_of old) k),
  Made (length (changes_of old)) (change.Put 0 k v) (look (map_of old) k) ∷ old,
  record {
    entry = Made (length (changes_of old)) (change.Put 0 k v) (look (map_of old) k);
    place = refl;
    is = refl;
    true_of = (refl, refl);
    added = refl;
  },
  rising-put (map_of old) k v rising,
)
calls_have_answers l old (Remove k) one rising = go (look (map_of old) k) refl
  where
    go : (found : Option ℕ) → look (map_of old) k ≡ found →
        (answer : Answer) × (new : Log) × AnswersAlone l old (Remove k) answer new
        × IsRising (map_of new)
    go (Some v) is = (
      Old (Some v),
      Made (length (changes_of old)) (change.Remove 0 k) (Some v) ∷ old,
      record {
        entry = Made (length (changes_of old)) (change.Remove 0 k) (Some v);
        place = refl;
        is = refl;
        true_of = (is, refl);
        added = refl;
      },
      rising-remove (map_of old) k rising,
    )
    go None is = (
      Old None,
      Look (length (changes_of old)) k k None ∷ old,
      record {
        entry = Look (length (changes_of old)) k k None;
        place = refl;
        is = refl;
        true_of = (
          omega arith,
          subst (λ (f : Option ℕ). IsFound (map_of old) k k (pair_at k f)) is
              (found-at_one (map_of old) k rising),
          refl,
        );
        added = refl;
      },
      rising,
    )
calls_have_answers l old (Next from) one rising = absurd one
