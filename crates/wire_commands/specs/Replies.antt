use Rattle.std.specs.Prelude.{◌≡◌, ℕ, List, ◌++◌, length, take, drop, codes}
use Rattle.std.specs.Fmt.{decimal}
use Rattle.wire_commands.specs.declared.request.Reason.{Reason}
use Rattle.wire_commands.specs.declared.request.Reason.TheVariants.{Long, Empty, Word, Count, Number, Range}
use Rattle.wire_commands.specs.declared.reply.Reply.{Reply}
use Rattle.wire_commands.specs.declared.reply.Reply.TheVariants.{Value, NoValue, New, Old, Full, Worn, Bye, Bad}

-- a reason's word
abbrev pub name_of : Reason → List ℕ
name_of Long = codes "long"
name_of Empty = codes "empty"
name_of Word = codes "word"
name_of Count = codes "count"
name_of Number = codes "number"
name_of Range = codes "range"

-- a reply's text, before its newline
abbrev pub text_of : Reply → List ℕ
text_of (Value value) = codes "value " ++ decimal value
text_of NoValue = codes "none"
text_of New = codes "new"
text_of (Old value) = codes "old " ++ decimal value
text_of Full = codes "full"
text_of Worn = codes "worn"
text_of Bye = codes "bye"
text_of (Bad reason) = codes "bad " ++ name_of reason

-- a reply's line, with its newline
abbrev pub line_of : Reply → List ℕ
line_of reply = text_of reply ++ codes "\n"

-- the text stands at the front, this long, and what lies past it is as it was
pub record Writes (old new text : List ℕ) (len : ℕ) : Type 0 where
  pub front : take len new ≡ text
  pub len_is : len ≡ length text
  pub rest : drop len new ≡ drop len old
