-- How many replies of each form a transcript has.
use Rattle.std.specs.Prelude.{ℕ, ◌+◌, ◌==◌, ◌&&◌, nat_eq, Bool, true, false, cond, List, [], ◌∷◌, codes}
use Rattle.std.specs.List.{flat_map, starts_with}
use Rattle.wire_commands.specs.declared.reply.Reply.{Reply}
use Rattle.wire_commands.specs.declared.reply.Reply.TheVariants as reply
use Rattle.trace_text.specs.declared.counting.Form.{Form}
use Rattle.trace_text.specs.declared.counting.Form.TheVariants.{Value, NoValue, New, Old, Full, Worn, End}

-- ---- replies ----

-- whether the reply is of the form; none ends rows yet
abbrev pub is_of : Form → Reply → Bool
is_of Value (reply.Value value) = true
is_of NoValue reply.NoValue = true
is_of New reply.New = true
is_of Old (reply.Old value) = true
is_of Full reply.Full = true
is_of Worn reply.Worn = true
is_of form other = false

-- how many of the replies are of the form
abbrev pub count_of : Form → List Reply → ℕ
count_of form [] = 0
count_of form (one ∷ replies) = cond (is_of form one) (count_of form replies + 1) (count_of form replies)

-- the replies in all phases, caller by caller in each
abbrev pub all_replies : List (List (List Reply)) → List Reply
all_replies phases = flat_map (λ phase. flat_map (λ own. own) phase) phases

-- ---- lines ----

-- what a reply line of the form begins with
abbrev pub beginning_of : Form → List ℕ
beginning_of Value = codes "value "
beginning_of NoValue = codes "none\n"
beginning_of New = codes "new\n"
beginning_of Old = codes "old "
beginning_of Full = codes "full\n"
beginning_of Worn = codes "worn\n"
beginning_of End = codes "end "

-- how many lines of the text, but for its first, begin so
abbrev pub later_lines_with : List ℕ → List ℕ → ℕ
later_lines_with beginning [] = 0
later_lines_with beginning (byte ∷ text) =
    cond (byte == 10 && starts_with nat_eq text beginning) (later_lines_with beginning text + 1)
    (later_lines_with beginning text)

-- how many lines of the text begin so
abbrev pub lines_with : List ℕ → List ℕ → ℕ
lines_with beginning text = later_lines_with beginning (10 ∷ text)
