-- How the replies to a caller's calls are kept: their kinds, and beside them the words of the values that they tell.
use Rattle.std.specs.Prelude.{ℕ, List, [], ◌∷◌}
use Rattle.wire_commands.specs.declared.reply.Reply.{Reply}
use Rattle.wire_commands.specs.declared.reply.Reply.TheVariants as reply
use Rattle.trace_text.specs.declared.replying.Kind.{Kind}
use Rattle.trace_text.specs.declared.replying.Kind.TheVariants.{Value, WideValue, NoValue, New, Old, WideOld, Full, Worn, Bye, Bad}
use Rattle.trace_text.specs.Halves.{whole}

-- replies, and how many there is room for in all
pub record Kept : Type 0 where
  pub replies : List Reply
  pub room : ℕ

-- the replies of these kinds with the values of these words, up to the first that lacks its value
abbrev pub replies_of : List Kind → List ℕ → List Reply
replies_of [] words = []
replies_of (Value ∷ kinds) (value ∷ words) = reply.Value value ∷ replies_of kinds words
replies_of (WideValue ∷ kinds) (high ∷ low ∷ words) =
    reply.Value (whole high low) ∷ replies_of kinds words
replies_of (NoValue ∷ kinds) words = reply.NoValue ∷ replies_of kinds words
replies_of (New ∷ kinds) words = reply.New ∷ replies_of kinds words
replies_of (Old ∷ kinds) (value ∷ words) = reply.Old value ∷ replies_of kinds words
replies_of (WideOld ∷ kinds) (high ∷ low ∷ words) =
    reply.Old (whole high low) ∷ replies_of kinds words
replies_of (Full ∷ kinds) words = reply.Full ∷ replies_of kinds words
replies_of (Worn ∷ kinds) words = reply.Worn ∷ replies_of kinds words
replies_of (Bye ∷ kinds) words = reply.Bye ∷ replies_of kinds words
replies_of (Bad reason ∷ kinds) words = reply.Bad reason ∷ replies_of kinds words
replies_of kinds words = []

-- the words are just those that replies of these kinds have
abbrev pub HaveTheirWords : List Kind → List ℕ → Type 0
HaveTheirWords [] [] = Unit {0}
HaveTheirWords (Value ∷ kinds) (value ∷ words) = HaveTheirWords kinds words
HaveTheirWords (WideValue ∷ kinds) (high ∷ low ∷ words) = HaveTheirWords kinds words
HaveTheirWords (NoValue ∷ kinds) words = HaveTheirWords kinds words
HaveTheirWords (New ∷ kinds) words = HaveTheirWords kinds words
HaveTheirWords (Old ∷ kinds) (value ∷ words) = HaveTheirWords kinds words
HaveTheirWords (WideOld ∷ kinds) (high ∷ low ∷ words) = HaveTheirWords kinds words
HaveTheirWords (Full ∷ kinds) words = HaveTheirWords kinds words
HaveTheirWords (Worn ∷ kinds) words = HaveTheirWords kinds words
HaveTheirWords (Bye ∷ kinds) words = HaveTheirWords kinds words
HaveTheirWords (Bad reason ∷ kinds) words = HaveTheirWords kinds words
HaveTheirWords kinds words = ⊥
