-- Replies that are kept behind others.
use Rattle.std.proofs.Common.{◌≡◌, ◌≤◌, ◌*◌, ℕ, List, [], ◌∷◌, ◌++◌, length, refl, ap, arith}
use Rattle.wire_commands.specs.declared.reply.Reply.{Reply}
use Rattle.wire_commands.specs.declared.reply.Reply.TheVariants as reply
use Rattle.trace_text.specs.declared.replying.Kind.{Kind}
use Rattle.trace_text.specs.declared.replying.Kind.TheVariants.{Value, WideValue, NoValue, New, Old, WideOld, Full, Worn, Bye, Bad}
use Rattle.trace_text.specs.Halves.{whole}
use Rattle.trace_text.specs.KeptReplies.{HaveTheirWords, replies_of}

-- there is a reply of each kind
pub as_many : (kinds : List Kind) (words : List ℕ) → HaveTheirWords kinds words →
    length (replies_of kinds words) ≡ length kinds
as_many [] [] kept = refl
as_many [] (v ∷ words) kept = absurd kept
as_many (Value ∷ kinds) [] kept = absurd kept
as_many (Value ∷ kinds) (v ∷ words) kept = let rest = as_many kinds words kept in omega arith
as_many (WideValue ∷ kinds) [] kept = absurd kept
as_many (WideValue ∷ kinds) (v ∷ []) kept = absurd kept
as_many (WideValue ∷ kinds) (v ∷ w ∷ words) kept = let rest = as_many kinds words kept in omega arith
as_many (NoValue ∷ kinds) words kept = let rest = as_many kinds words kept in omega arith
as_many (New ∷ kinds) words kept = let rest = as_many kinds words kept in omega arith
as_many (Old ∷ kinds) [] kept = absurd kept
as_many (Old ∷ kinds) (v ∷ words) kept = let rest = as_many kinds words kept in omega arith
as_many (WideOld ∷ kinds) [] kept = absurd kept
as_many (WideOld ∷ kinds) (v ∷ []) kept = absurd kept
as_many (WideOld ∷ kinds) (v ∷ w ∷ words) kept = let rest = as_many kinds words kept in omega arith
as_many (Full ∷ kinds) words kept = let rest = as_many kinds words kept in omega arith
as_many (Worn ∷ kinds) words kept = let rest = as_many kinds words kept in omega arith
as_many (Bye ∷ kinds) words kept = let rest = as_many kinds words kept in omega arith
as_many (Bad reason ∷ kinds) words kept = let rest = as_many kinds words kept in omega arith

-- and no reply has more than two words
pub few_words : (kinds : List Kind) (words : List ℕ) → HaveTheirWords kinds words →
    length words ≤ length kinds * 2
few_words [] [] kept = omega arith
few_words [] (v ∷ words) kept = absurd kept
few_words (Value ∷ kinds) [] kept = absurd kept
few_words (Value ∷ kinds) (v ∷ words) kept = let rest = few_words kinds words kept in omega arith
few_words (WideValue ∷ kinds) [] kept = absurd kept
few_words (WideValue ∷ kinds) (v ∷ []) kept = absurd kept
few_words (WideValue ∷ kinds) (v ∷ w ∷ words) kept = let rest = few_words kinds words kept in omega arith
few_words (NoValue ∷ kinds) words kept = let rest = few_words kinds words kept in omega arith
few_words (New ∷ kinds) words kept = let rest = few_words kinds words kept in omega arith
few_words (Old ∷ kinds) [] kept = absurd kept
few_words (Old ∷ kinds) (v ∷ words) kept = let rest = few_words kinds words kept in omega arith
few_words (WideOld ∷ kinds) [] kept = absurd kept
few_words (WideOld ∷ kinds) (v ∷ []) kept = absurd kept
few_words (WideOld ∷ kinds) (v ∷ w ∷ words) kept = let rest = few_words kinds words kept in omega arith
few_words (Full ∷ kinds) words kept = let rest = few_words kinds words kept in omega arith
few_words (Worn ∷ kinds) words kept = let rest = few_words kinds words kept in omega arith
few_words (Bye ∷ kinds) words kept = let rest = few_words kinds words kept in omega arith
few_words (Bad reason ∷ kinds) words kept = let rest = few_words kinds words kept in omega arith

-- replies that are kept behind others, of which these are the kinds and the words
pub record Joins (kinds more : List Kind) (words others : List ℕ) : Type 0 where
  pub kept : HaveTheirWords (kinds ++ more) (words ++ others)
  pub replies : replies_of (kinds ++ more) (words ++ others) ≡ replies_of kinds words ++ replies_of more others

-- one more reply stands before both
joins_more : (r : Reply) (kinds more : List Kind) (words others : List ℕ) → Joins kinds more words others
    → r ∷ replies_of (kinds ++ more) (words ++ others) ≡ (r ∷ replies_of kinds words) ++ replies_of more others
joins_more r kinds more words others joins = ap (λ (l : List Reply). r ∷ l) joins.replies

pub joins : (kinds more : List Kind) (words others : List ℕ) → HaveTheirWords kinds words
    → HaveTheirWords more others → Joins kinds more words others
joins [] more [] others kept beside = record { kept = beside; replies = refl }
joins [] more (v ∷ words) others kept beside = absurd kept
joins (Value ∷ kinds) more [] others kept beside = absurd kept
joins (Value ∷ kinds) more (v ∷ words) others kept beside =
    let rest = joins kinds more words others kept beside in
    record {
      kept = rest.kept;
      replies = joins_more (reply.Value v) kinds more words others rest;
    }
joins (WideValue ∷ kinds) more [] others kept beside = absurd kept
joins (WideValue ∷ kinds) more (v ∷ []) others kept beside = absurd kept
joins (WideValue ∷ kinds) more (v ∷ w ∷ words) others kept beside =
    let rest = joins kinds more words others kept beside in
    record {
      kept = rest.kept;
      replies = joins_more (reply.Value (whole v w)) kinds more words others rest;
    }
joins (NoValue ∷ kinds) more words others kept beside =
    let rest = joins kinds more words others kept beside in
    record {
      kept = rest.kept;
      replies = joins_more (reply.NoValue) kinds more words others rest;
    }
joins (New ∷ kinds) more words others kept beside =
    let rest = joins kinds more words others kept beside in
    record {
      kept = rest.kept;
      replies = joins_more (reply.New) kinds more words others rest;
    }
joins (Old ∷ kinds) more [] others kept beside = absurd kept
joins (Old ∷ kinds) more (v ∷ words) others kept beside =
    let rest = joins kinds more words others kept beside in
    record {
      kept = rest.kept;
      replies = joins_more (reply.Old v) kinds more words others rest;
    }
joins (WideOld ∷ kinds) more [] others kept beside = absurd kept
joins (WideOld ∷ kinds) more (v ∷ []) others kept beside = absurd kept
joins (WideOld ∷ kinds) more (v ∷ w ∷ words) others kept beside =
    let rest = joins kinds more words others kept beside in
    record {
      kept = rest.kept;
      replies = joins_more (reply.Old (whole v w)) kinds more words others rest;
    }
joins (Full ∷ kinds) more words others kept beside =
    let rest = joins kinds more words others kept beside in
    record {
      kept = rest.kept;
      replies = joins_more (reply.Full) kinds more words others rest;
    }
joins (Worn ∷ kinds) more words others kept beside =
    let rest = joins kinds more words others kept beside in
    record {
      kept = rest.kept;
      replies = joins_more (reply.Worn) kinds more words others rest;
    }
joins (Bye ∷ kinds) more words others kept beside =
    let rest = joins kinds more words others kept beside in
    record {
      kept = rest.kept;
      replies = joins_more (reply.Bye) kinds more words others rest;
    }
joins (Bad reason ∷ kinds) more words others kept beside =
    let rest = joins kinds more words others kept beside in
    record {
      kept = rest.kept;
      replies = joins_more (reply.Bad reason) kinds more words others rest;
    }
